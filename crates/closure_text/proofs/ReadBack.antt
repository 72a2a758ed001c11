-- The text of a valid study is read back: each call that the text makes is accepted, and together they make the study; or the first tide that
-- is a duplicate is refused. Assumes nothing.
use Prim.Native.Nat.{ℕ, zero, suc, ◌+◌, ◌-◌, ◌≤◌, ◌<◌}
use native.Mathlib.Omega.{arith}
use mathlib.Core.Path.{◌≡◌, refl, sym, ap, ap₂, ◌∙◌, subst}
use mathlib.Core.Logic.{⊎_elim}
use mathlib.Core.Bool.{true, false, cond}
use mathlib.Core.List.{List, [], ◌∷◌, ◌++◌, flat_map, append_assoc}
use lib.Dec.{T, leb, ltb, le→leb}
use lib.ListN.{length, take, drop, get_or, get_or-eq_default}
use lib.Seq.{length-take-le, take-suc, take-length, drop-cons, drop-length, get_or-take}
use borrow.Author.Tests.{lt-leb, eq-eqb}
use Rattle.lists.specs.Lists.{every, is_empty}
use Rattle.lists.proofs.Tests.{split, T_true, every_of}
use Rattle.lists.proofs.Counts.{sum_suc}
use Rattle.lists.proofs.Counting.{sum_front}
use Rattle.lists.proofs.Scans.{between_in}
use Rattle.lists.proofs.Tables.{tabulate_is}
use Rattle.study.specs.Minima.{MinimaFit}
use Rattle.study.specs.Study.{Tide, Study, Contents, with_tides, size, no_tide, tide, distance, Valid}
use Rattle.study.specs.Refusals.{number, Verdict, accepted, refused, first_of}
use Rattle.study.specs.Calls.{open_reasons, opened, opening, with_minima, setting_minima, violations, duplicated, holds_duplicate, enter_reasons, entering}
use Rattle.study.specs.Calls.{entered as with_tide}
use Rattle.study.proofs.StudyLaws.{valid_minima-T, distance_both_ways}
use Rattle.study.proofs.TriangleLaws.{obeyed_of, triangle_of}
use Rattle.study.proofs.CallLaws.{Measures}
use Rattle.study.proofs.DuplicateLaws.{duplicated_same, duplicate_at, none_duplicate, first_duplicate}
use Rattle.study.proofs.Proofs.{for_minima}
use Rattle.file_format.proofs.DistanceLaws.{distance_row}
use Rattle.metric_closure.specs.Tables.{InRange}
use Rattle.sheet_text.specs.Text.{decimal, spaced}
use Rattle.text_words.specs.declared.Cursor.{Cursor}
use Rattle.text_words.specs.Words.{ends_word, word_of}
use Rattle.study_text.specs.declared.Rule.TheVariants as RuleCase
use Rattle.study_text.specs.Packing.{refused_at, stop, numbers_of, called, minima_from, opening_of, minima_of, head_of, tide_of, going, ended, stopped, entered}
use Rattle.study_text.specs.Packing.{Turn, turn_from, turn_of, further, turns_of, text_of}
use Rattle.study_text.proofs.Turns.{turns_over}
use Rattle.closure_text.specs.Text.{number_line, tide_line, study_text, lowered_line}
use Rattle.closure_text.specs.Theorems.{fresh}
use Rattle.closure_text.proofs.ReadingLaws.{Gap, newline_gap, lowered_gap, moved, Left, NextIs, next_is, next_none, Reads, reads_then, reads_number}
use Rattle.closure_text.proofs.ReadingLaws.{ReadsRow, row_none, row_more, row_all, row_stops}

-- ---- accepted calls

open_accepted : (k : ℕ) → 1 ≤ k → k ≤ 8 → first_of (open_reasons k) ≡ accepted
unfolding first_of open_reasons
open_accepted k l h = rw (between_in 1 8 k l h)

-- a tide that fits and obeys the triangle inequality is refused only as a duplicate
enter_answer : (S : Study) (x : ℕ) (row : List ℕ) → Measures S x row → T (is_empty (violations (distance S) (size S) (λ i. get_or row i 0)))
    → first_of (enter_reasons S x row) ≡ cond (duplicated (λ i. (tide S i).setting) (size S) x (λ i. get_or row i 0)) (refused (number 15)) accepted
unfolding first_of enter_reasons
enter_answer S x row A obeyed =
    let near = every_of (length row) (λ i. leb (get_or row i 0) 1048575)
    (λ i l. le→leb (get_or row i 0) 1048575 (A.distance_high i (omega (arith, A.length_is)))) in
    rw (
      lt-leb 120 (size S) A.room,
      eq-eqb (length row) (size S) A.length_is,
      between_in 1 S.k x A.setting_low A.setting_high,
      T_true (every (length row) (λ i. leb (get_or row i 0) 1048575)) near,
      T_true (is_empty (violations (distance S) (size S) (λ i. get_or row i 0))) obeyed,
    )

-- ---- the first tides of a study

abbrev first : ℕ → Study → Study
first t S = with_tides (take t S.tides) S

module _ (S : Study) (t : ℕ) (h : t ≤ size S) where
  first_size : size (first t S) ≡ t
  first_size = length-take-le t S.tides h

  first_tide : (i : ℕ) → i < t → tide (first t S) i ≡ tide S i
  unfolding tide
  first_tide i l = get_or-take t S.tides i no_tide l

  first_distance : (i j : ℕ) → i < t → j < t → distance (first t S) i j ≡ distance S i j
  unfolding distance
  first_distance i j a b =
      ap₂ (λ (x y : Tide). cond (ltb i j) (get_or x.row i 0) (cond (ltb j i) (get_or y.row j 0) 0)) (first_tide j b) (first_tide i a)

module _ (S : Study) (ok : Valid S) (t : ℕ) (h : t < size S) where
  tide_near : (i : ℕ) → i < t → get_or (tide S t).row i 0 ≤ 1048575
  tide_near i l = omega (arith, distance_row S t i l, ok.distance_high t i h (omega arith))

  pub tide_range : InRange (length (tide S t).row) (tide S t).row
  tide_range = record { near = λ i l. tide_near i (omega (arith, ok.row_length t h)) }

  -- tide t fits after the tides before it
  tide_measures : Measures (first t S) (tide S t).setting (tide S t).row
  tide_measures =
      let n = first_size S t (omega arith) in
      record {
        room = omega (arith, ok.few);
        length_is = ok.row_length t h ∙ sym n;
        setting_low = ok.setting_low t h;
        setting_high = ok.setting_high t h;
        distance_high = λ i l. tide_near i (omega arith);
      }

  tide_obeys : T (is_empty (violations (distance (first t S)) (size (first t S)) (λ i. get_or (tide S t).row i 0)))
  tide_obeys =
      let n = first_size S t (omega arith) in
      obeyed_of (distance (first t S)) (size (first t S)) (λ i. get_or (tide S t).row i 0) (λ i j a b.
      let q : j < t = omega arith in
      let p : i < t = omega arith in
      rw (first_distance S t (omega arith) i j p q, ← distance_row S t i p, ← distance_row S t j q, distance_both_ways S t i, distance_both_ways S t j)
      (triangle_of (distance S) (distance_both_ways S) (size S) ok.triangle i j t (omega arith) (omega arith) h))

  -- it is a duplicate of one of them where it is one in the study
  tide_duplicate : duplicated (λ i. (tide (first t S) i).setting) (size (first t S)) (tide S t).setting (λ i. get_or (tide S t).row i 0) ≡ duplicate_at S t
  tide_duplicate =
      ap (λ (n : ℕ). duplicated (λ i. (tide (first t S) i).setting) n (tide S t).setting (λ i. get_or (tide S t).row i 0)) (first_size S t (omega arith))
      ∙ duplicated_same t (tide S t).setting _ _ _ _ (λ i l. ap (λ (x : Tide). x.setting) (first_tide S t (omega arith) i l))
      (λ i l. sym (distance_row S t i l))

  -- so it comes in, or is refused as one
  tide_answer : first_of (enter_reasons (first t S) (tide S t).setting (tide S t).row) ≡ cond (duplicate_at S t) (refused (number 15)) accepted
  tide_answer =
      enter_answer (first t S) (tide S t).setting (tide S t).row tide_measures tide_obeys
      ∙ ap (λ b. cond b (refused (number 15)) accepted) tide_duplicate

  -- and makes one tide more
  tide_makes : entering (tide S t).setting (tide S t).row (fresh (first t S)) ≡ fresh (first (suc t) S)
  unfolding entering with_tide tide
  tide_makes = ap (λ ts. fresh (with_tides ts S)) (sym (take-suc S.tides t no_tide h))

-- ---- lines

-- a line's end ends a word
line_stops : (rest : List ℕ) → word_of (10 ∷ rest) ≡ []
unfolding word_of ends_word
line_stops rest = refl

-- a line, number by number
line_then : (x : ℕ) (xs rest : List ℕ) → number_line x xs ++ rest ≡ decimal x ++ (flat_map spaced xs ++ (10 ∷ rest))
unfolding number_line
line_then x xs rest = simp append_assoc

-- the b of each setting
abbrev pub b_of : Study → List ℕ
b_of S = take S.k S.minima.b

-- what is left once t tides are read
abbrev lines : Study → ℕ → List ℕ
lines S t = 10 ∷ flat_map tide_line (drop t S.tides)

module _ (S : Study) where
  -- the text up to the tides, number by number
  head_apart : (front : List ℕ) → front ++ study_text S
      ≡ front ++ (decimal S.k ++ ((10 ∷ []) ++ (decimal S.minima.b0 ++ (flat_map spaced (b_of S) ++ lines S 0))))
  unfolding study_text flat_map
  head_apart front =
      let tides = flat_map tide_line S.tides in
      ap (λ bs. front ++ bs)
      (append_assoc (number_line S.k []) (number_line S.minima.b0 (b_of S)) tides
      ∙ line_then S.k [] (number_line S.minima.b0 (b_of S) ++ tides)
      ∙ ap (λ bs. decimal S.k ++ (10 ∷ bs)) (line_then S.minima.b0 (b_of S) tides))

  -- the next tide, number by number
  tide_apart : (t : ℕ) → t < size S
      → lines S t ≡ (10 ∷ []) ++ (decimal (tide S t).setting ++ (flat_map spaced (tide S t).row ++ lines S (suc t)))
  unfolding flat_map tide_line tide
  tide_apart t h =
      let x = get_or S.tides t no_tide in
      ap (λ (ts : List Tide). 10 ∷ flat_map tide_line ts) (drop-cons S.tides t no_tide h)
      ∙ ap (λ (bs : List ℕ). 10 ∷ bs) (line_then x.setting x.row (flat_map tide_line (drop (suc t) S.tides)))

-- ---- Open and Minima

-- an accepted call, and what it makes
reads_called : {text : List ℕ} {v : Verdict} {H K : Contents} {c : Cursor} {rest : List ℕ} → v ≡ accepted → H ≡ K → Left text c rest
    → Reads text (called v H c) K rest
reads_called {c = c} e makes L = record { to = c; is = rw (e, makes); left = L }

module _ (S : Study) (ok : Valid S) where
  pub minima_fit : MinimaFit S.k S.minima
  minima_fit = (valid_minima-T S.k S.minima).0 ok.minima

  pub b_long : length (b_of S) ≡ S.k
  b_long = length-take-le S.k S.minima.b (omega (arith, minima_fit.eight, ok.k_high))

  -- each is at most their sum
  pub b_near : InRange (length (b_of S)) (b_of S)
  b_near =
      record {
        near = λ j l.
            let f : ℕ → ℕ = λ i. get_or S.minima.b i 0 in
            let below : j < S.k = omega (arith, b_long) in
            rw (get_or-take S.k S.minima.b j 0 below)
            (omega (arith, sum_suc j f, sum_front f (suc j) 8 (omega (arith, ok.k_high)), minima_fit.sum, minima_fit.high));
      }

  -- those above k are 0
  minima_back : minima_from (S.minima.b0 ∷ b_of S) ≡ S.minima
  unfolding minima_from
  minima_back = ap (λ (bs : List ℕ). record { b0 = S.minima.b0; b = bs }) (tabulate_is 8 _ 0 S.minima.b minima_fit.eight same)
    where
      same : (j : ℕ) → j < 8 → get_or (b_of S) j 0 ≡ get_or S.minima.b j 0
      same j l =
          ⊎_elim (λ h. get_or-take S.k S.minima.b j 0 h)
          (λ h. get_or-eq_default (b_of S) 0 (omega (arith, b_long)) ∙ sym (minima_fit.above j h l))
          (split j S.k)

  module _ {text : List ℕ} {c : Cursor} where
    open_reads : {gap : List ℕ} → Gap gap → {rest : List ℕ} → Left text c (gap ++ (decimal S.k ++ ((10 ∷ []) ++ rest)))
        → Reads text (opening_of text c) (opening S.k) ((10 ∷ []) ++ rest)
    unfolding opening_of
    open_reads G {rest} L =
        reads_then (λ k d. called (first_of (open_reasons k)) (opening k) d)
        (reads_number (next_is G (omega (arith, ok.k_high)) (line_stops rest) L))
        (λ d K. reads_called (open_accepted S.k ok.k_low ok.k_high) refl K)

    minima_row : {rest : List ℕ} → Left text c ((10 ∷ []) ++ (decimal S.minima.b0 ++ (flat_map spaced (b_of S) ++ (10 ∷ rest))))
        → ReadsRow text c (suc S.k) (S.minima.b0 ∷ b_of S) (10 ∷ rest)
    minima_row {rest} L =
        let few : S.minima.b0 < 4294967296 = omega (arith, minima_fit.high) in
        let one = row_more newline_gap few (row_stops (b_of S) (10 ∷ rest) (line_stops rest)) (row_none L) in
        let n : 1 + length (b_of S) ≡ suc S.k = omega (arith, b_long) in
        subst (λ m. ReadsRow text c m (S.minima.b0 ∷ b_of S) (10 ∷ rest)) n (row_all (b_of S) b_near (line_stops rest) one)

    minima_reads : {rest : List ℕ}
        → Left text c ((10 ∷ []) ++ (decimal S.minima.b0 ++ (flat_map spaced (b_of S) ++ (10 ∷ rest))))
        → Reads text (minima_of text (opening S.k) c) (fresh (first 0 S)) (10 ∷ rest)
    unfolding minima_of opening opened setting_minima with_minima
    minima_reads L =
        let before = (for_minima (opened S.k) S.minima).as_before ok.minima in
        reads_then _ (minima_row L).row (λ d K. rw (minima_back, before.1) (reads_called before.0 refl K))

-- ---- turn after turn

-- after t turns the text goes on, with this held and this left
record After (text : List ℕ) (t : ℕ) (H : Contents) (rest : List ℕ) : Type 0 where
  to : Cursor
  is : turns_of RuleCase.Entered text t (entered (head_of text)) ≡ going H to
  left : Left text to rest

after_head : {text : List ℕ} {H : Contents} {rest : List ℕ} → Reads text (head_of text) H rest → After text 0 H rest
unfolding turns_of
after_head R = record { to = R.to; is = ap entered R.is; left = R.left }

-- a turn that begins with this number and goes on
after_turn : {text : List ℕ} {t : ℕ} {H K : Contents} {x : ℕ} {from mid rest : List ℕ} → After text t H from
    → ((c : Cursor) → Left text c from → NextIs text c x mid)
    → ((c : Cursor) → Left text c mid → Reads text (tide_of RuleCase.Entered text H x c) K rest) → After text (suc t) K rest
unfolding turns_of turn_of
after_turn {text} {t} {H} A word tide =
    let N = word A.to A.left in
    let R = tide N.to N.left in
    record {
      to = R.to;
      is = ap (λ u. further u (turn_of RuleCase.Entered text)) A.is ∙ ap (turn_from RuleCase.Entered text H) N.is ∙ ap entered R.is;
      left = R.left;
    }

-- a turn that ends the text, or stops it; no turn comes after it
after_last : {text : List ℕ} {t : ℕ} {H : Contents} {rest : List ℕ} (A : After text t H rest) {u : Turn} → t ≤ 120
    → further u (turn_of RuleCase.Entered text) ≡ u → turn_of RuleCase.Entered text H A.to ≡ u → text_of RuleCase.Entered text ≡ u
unfolding text_of turns_of
after_last {text} {t} A h still e =
    let all : 120 - t + suc t ≡ 121 = omega arith in
    let last = ap (λ u. further u (turn_of RuleCase.Entered text)) A.is ∙ e in
    sym (ap (λ k. turns_of RuleCase.Entered text k (entered (head_of text))) all)
    ∙ turns_over RuleCase.Entered text (entered (head_of text)) (suc t) (120 - t) still last

-- the text's end
after_end : {text : List ℕ} {t : ℕ} {H : Contents} → After text t H ((10 ∷ []) ++ []) → t ≤ 120 → (l : ℕ) × (text_of RuleCase.Entered text ≡ ended H l)
unfolding turn_of
after_end {text} {t} {H} A h =
    let l = (moved A.to (10 ∷ [])).line in
    (l, after_last A {u = ended H l} h refl (ap (turn_from RuleCase.Entered text H) (next_none newline_gap A.left)))

-- what is said of a duplicate
abbrev Refused15 : List ℕ → Type 0
Refused15 text = (l : ℕ) × (text_of RuleCase.Entered text ≡ stopped (refused_at l (number 15)))

-- a tide that begins with this number and is one
after_refused : {text : List ℕ} {t : ℕ} {H : Contents} {x : ℕ} {from mid : List ℕ} → After text t H from → t ≤ 120
    → ((c : Cursor) → Left text c from → NextIs text c x mid)
    → ((c : Cursor) → Left text c mid → (l : ℕ) × (tide_of RuleCase.Entered text H x c ≡ stop (refused_at l (number 15)))) → Refused15 text
unfolding turn_of
after_refused {text} {H = H} A h word tide =
    let N = word A.to A.left in
    let R = tide N.to N.left in (
      R.0,
      after_last A {u = stopped (refused_at R.0 (number 15))} h refl
          (ap (turn_from RuleCase.Entered text H) N.is ∙ ap entered R.1),
    )

-- ---- the whole text

-- the comment, and a valid study after it
module _ (pairs : ℕ) (S : Study) (few : pairs < 4294967296) (ok : Valid S) where
  abbrev text : List ℕ
  text = lowered_line pairs ++ study_text S

  head_reads : Reads text (head_of text) (fresh (first 0 S)) (lines S 0)
  unfolding head_of
  head_reads =
      reads_then (minima_of text) (open_reads S ok (lowered_gap pairs few) (record { bytes = head_apart S (lowered_line pairs) }))
      (λ c L. minima_reads S ok L)

  -- a tide's line: its setting, its row, and what Enter makes of them
  module _ (t : ℕ) (h : t < size S) (c : Cursor) where
    setting_next : Left text c (lines S t) → NextIs text c (tide S t).setting (flat_map spaced (tide S t).row ++ lines S (suc t))
    setting_next L =
        let word_small : (tide S t).setting < 4294967296 = omega (arith, ok.setting_high t h, ok.k_high) in
        next_is newline_gap word_small (row_stops (tide S t).row (lines S (suc t)) (line_stops _)) (subst (Left text c) (tide_apart S t h) L)

    module _ (L : Left text c (flat_map spaced (tide S t).row ++ lines S (suc t))) where
      row_reads : Reads text (numbers_of text (size (first t S)) c) (tide S t).row (lines S (suc t))
      row_reads =
          let long : 0 + length (tide S t).row ≡ size (first t S) = omega (arith, ok.row_length t h, first_size S t (omega arith)) in
          (subst (λ n. ReadsRow text c n (tide S t).row (lines S (suc t))) long (row_all (tide S t).row (tide_range S ok t h) (line_stops _) (row_none L))
          ).row

      tide_reads : duplicate_at S t ≡ false
          → Reads text (tide_of RuleCase.Entered text (fresh (first t S)) (tide S t).setting c) (fresh (first (suc t) S)) (lines S (suc t))
      unfolding tide_of
      tide_reads e = reads_then _ row_reads (λ d K. reads_called (tide_answer S ok t h ∙ rw e) (tide_makes S ok t h) K)

      tide_refused : duplicate_at S t ≡ true
          → (l : ℕ) × (tide_of RuleCase.Entered text (fresh (first t S)) (tide S t).setting c ≡ stop (refused_at l (number 15)))
      unfolding tide_of
      tide_refused e = (row_reads.to.line, rw (row_reads.is, tide_answer S ok t h, e))

  -- up to the first duplicate
  turns_read : (t : ℕ) → t ≤ size S → ((u : ℕ) → u < t → duplicate_at S u ≡ false) → After text t (fresh (first t S)) (lines S t)
  turns_read zero h none = after_head head_reads
  turns_read (suc t) h none =
      after_turn (turns_read t (omega arith) (λ u l. none u (omega arith))) (setting_next t h) (λ c L. tide_reads t h c L (none t (omega arith)))

  -- where there is none the study is read, up to the text's end
  pub read_back : holds_duplicate S ≡ false → (l : ℕ) × (text_of RuleCase.Entered (lowered_line pairs ++ study_text S) ≡ ended (fresh S) l)
  unfolding flat_map
  read_back single =
      let none : lines S (size S) ≡ 10 ∷ [] = ap (λ ts. 10 ∷ flat_map tide_line ts) (drop-length S.tides) in
      let all : first (size S) S ≡ S = ap (λ ts. with_tides ts S) (take-length S.tides) in
      let end = subst (After text (size S) (fresh (first (size S) S))) none (turns_read (size S) (omega arith) (none_duplicate S single)) in
      after_end (subst (λ R. After text (size S) (fresh R) (10 ∷ [])) all end) ok.few

  -- and where there is one, the first is refused
  pub read_refused : holds_duplicate S ≡ true → Refused15 (lowered_line pairs ++ study_text S)
  read_refused held =
      let d = first_duplicate S held in
      let t = d.0 in
      let h = d.1 in
      after_refused (turns_read t (omega arith) d.3) (omega (arith, ok.few)) (setting_next t h) (λ c L. tide_refused t h c L d.2)
