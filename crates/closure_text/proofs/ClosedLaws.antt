-- The table of a measured study, closed, is the closed study's; and what is said of a text and written. Assumes nothing.
use Prim.Native.Nat.{ℕ, ◌*◌, ◌/◌, ◌%◌, ◌≤◌, ◌<◌}
use native.Mathlib.Omega.{arith}
use mathlib.Core.Path.{◌≡◌, refl, sym, ap, ap₂, ◌∙◌}
use mathlib.Core.Logic.{⊎_elim}
use mathlib.Core.List.{List, [], ◌++◌, flat_map}
use borrow.Author.Tests.{lt-ltb, le-ltb}
use lib.ListN.{length, take, drop, get_or, replicate, length-replicate}
use Rattle.lists.specs.Lists.{tabulate, overwrite, over}
use Rattle.lists.proofs.Tests.{split}
use Rattle.lists.proofs.Tables.{get_d_tabulate, tabulate_ext, length_overwrite}
use Rattle.study.specs.declared.Dataset.{Dataset}
use Rattle.study.specs.Study.{Tide, Study, size, tide, distance}
use Rattle.study.specs.Refusals.{number}
use Rattle.study.proofs.StudyLaws.{distance_both_ways, distance_itself}
use Rattle.validity.specs.Memory.{State, study_of, contents_of, tide_of}
use Rattle.validity.proofs.ValidityLaws.{study_size, study_tide, study_setting}
use Rattle.metric_closure.specs.Closure.{closure, lowered_pairs}
use Rattle.metric_closure.specs.Call.{entry, closed_table}
use Rattle.metric_closure.specs.Theorems.{Closable}
use Rattle.metric_closure.specs.Tables.{Fits}
use Rattle.metric_closure.proofs.ClosureLaws.{closure_same, closure_below, dissimilarity_same, lowered_same}
use Rattle.metric_closure.proofs.TableLaws.{few_places, rows_at, places_near}
use Rattle.metric_closure.proofs.CallLaws.{closed_at, closed_fits}
use Rattle.sheet_text.specs.Putting.{PutText}
use Rattle.sheet_text.proofs.PuttingLaws.{puts_then, puts_as}
use Rattle.study_text.specs.declared.Rule.TheVariants as RuleCase
use Rattle.study_text.specs.Packing.{Report, done, refused_at, too_long, Turn, ended, text_of}
use Rattle.study_text.specs.Reached.{Measuring}
use Rattle.text_words.specs.Words.{newlines}
use Rattle.closure_text.specs.Text.{lowered, closed_tide, closed_study, number_line, tide_line, study_text, lowered_line, closure_text}
use Rattle.closure_text.specs.Text.{reported, printed, mend_answer, mend_leaves}
use Rattle.closure_text.specs.Rows.{lower_cell, tide_at, study_at, PrintableTable}
use Rattle.closure_text.proofs.RowLaws.{earlier_cell, later_cell, own_cell}

-- ---- the table of a measured study

module _ (s : State) (M : Measuring s) where
  abbrev S : Study
  S = study_of s

  abbrev n : ℕ
  n = s.dataset.n

  pub few_tides : n ≤ 120
  few_tides = omega (arith, M.study.few, study_size s)

  pub few_settings : s.dataset.k ≤ 8
  unfolding study_of
  few_settings = M.study.k_high

  -- the later tide's row
  row_at : (t u : ℕ) → t < n → u < t → get_or (tide S t).row u 0 ≡ lower_cell s.distances t u
  unfolding tide_of
  row_at t u h l =
      ap (λ (x : Tide). get_or x.row u 0) (study_tide s t h) ∙ get_d_tabulate t _ u 0 l ∙ later_cell s.distances t u l

  lower_symmetric : (t u : ℕ) → t < u → lower_cell s.distances u t ≡ lower_cell s.distances t u
  lower_symmetric t u l = sym (later_cell s.distances u t l) ∙ earlier_cell s.distances t u l

  distance_at : (t u : ℕ) → t < n → u < n → distance S t u ≡ lower_cell s.distances t u
  unfolding distance
  distance_at t u a b =
      ⊎_elim (λ l. rw (lt-ltb t u l) (row_at u t b l ∙ lower_symmetric t u l))
      (λ l. ⊎_elim (λ k. rw (le-ltb t u l, lt-ltb u t k) (row_at t u a k)) (λ k. rw (le-ltb t u l, le-ltb u t k) (own_cell s.distances t u l k))
      (split u t))
      (split t u)

  -- filled from zeros
  abbrev filled : List ℕ
  filled = overwrite (n * n) (λ p. lower_cell s.distances (p / n) (p % n)) (replicate 14400 0)

  module _ {table : List ℕ} (e : table ≡ filled) where
    sent_at : (i j : ℕ) → i < n → j < n → entry n table i j ≡ distance S i j
    sent_at i j a b =
        ap (λ (l : List ℕ). entry n l i j) e ∙ rows_at n (replicate 14400 0) (lower_cell s.distances) i j a b ∙ sym (distance_at i j a b)

    long : length table ≡ 14400
    long =
        ap length e
        ∙ length_overwrite (λ p. lower_cell s.distances (p / n) (p % n)) (replicate 14400 0) (n * n)
        (omega (arith, few_places n few_tides, length-replicate {A = ℕ} 14400 0))
        ∙ length-replicate {A = ℕ} 14400 0

    near : (i j : ℕ) → i < n → j < n → entry n table i j ≤ 1048575
    near i j a b = omega (arith, sent_at i j a b, M.study.distance_high i j (omega (arith, study_size s)) (omega (arith, study_size s)))

    pub closable : Closable n table
    closable =
        record {
          few = few_tides;
          fits = omega (arith, few_places n few_tides, long);
          near = near;
          symmetric = dissimilarity_same n (entry n table) (distance S) sent_at
              (record { both_ways = λ i j a b. distance_both_ways S i j; itself = λ i a. distance_itself S i });
        }

    fits : Fits n table
    fits = record { few = few_tides; fits = closable.fits }

    -- ---- and its closure

    closure_at : (i j : ℕ) → i < n → j < n → entry n (closed_table n table) i j ≡ closure (size S) (distance S) i j
    closure_at i j a b =
        closed_at n table fits i j a b ∙ closure_same n (entry n table) (distance S) sent_at i j a b
        ∙ ap (λ (m : ℕ). closure m (distance S) i j) (sym (study_size s))

    module _ {closed : List ℕ} (f : closed ≡ closed_table n table) where
      pub printable : PrintableTable n s.settings closed
      printable =
          record {
            fits = closed_fits n table fits f;
            near = places_near n closed (λ i j a b.
                let at = ap (λ (l : List ℕ). entry n l i j) f ∙ closed_at n table fits i j a b in
                omega (arith, at, closure_below (entry n table) n i j, near i j a b));
            held = omega (arith, few_tides, M.long.settings);
          }

      tide_is : (t : ℕ) → t < n → tide_at n s.settings closed t ≡ closed_tide S t
      unfolding tide_at closed_tide
      tide_is t h =
          ap₂ (λ (x : ℕ) (r : List ℕ). record { setting = x; row = r }) (sym (study_setting s t h))
          (tabulate_ext t (entry n closed t) (closure (size S) (distance S) t)
          (λ j l. ap (λ (l : List ℕ). entry n l t j) f ∙ closure_at t j h (omega arith)))

      study_is : study_at s.dataset s.settings closed ≡ closed_study S
      unfolding study_at closed_study study_of
      study_is =
          ap (λ (ts : List Tide). record { k = s.dataset.k; minima = s.dataset.minima; tides = ts })
          (tabulate_ext n (tide_at n s.settings closed) (closed_tide S) tide_is
          ∙ ap (λ (m : ℕ). tabulate m (closed_tide S)) (sym (study_size s)))

      pub closure_put : {pairs end : ℕ} {l m : List ℕ} → pairs ≡ lowered_pairs n (entry n table)
          → PutText l 0 (lowered_line pairs ++ study_text (study_at s.dataset s.settings closed)) end m → PutText l 0 (closure_text S) end m
      unfolding closure_text lowered
      closure_put {pairs} g p =
          let same : pairs ≡ lowered_pairs (size S) (distance S) =
          g ∙ lowered_same n (entry n table) (distance S) sent_at ∙ ap (λ (m : ℕ). lowered_pairs m (distance S)) (sym (study_size s)) in
          puts_as p (ap₂ (λ (x : ℕ) (T : Study). lowered_line x ++ study_text T) same study_is) refl

-- ---- the text of a study, line after line

pub study_put : (pairs : ℕ) (r : Dataset) (settings table : List ℕ) {l a b c : List ℕ} {p q end : ℕ} → PutText l 0 (lowered_line pairs) p a
    → PutText a p (number_line r.k [] ++ number_line r.minima.b0 (take r.k r.minima.b)) q b
    → PutText b q (flat_map tide_line (tabulate r.n (tide_at r.n settings table))) end c
    → PutText l 0 (lowered_line pairs ++ study_text (study_at r settings table)) end c
unfolding study_text study_at
study_put pairs r settings table u v w = puts_then u (puts_then v w)

-- ---- a text that came to its end on line l

module _ (s : State) (l : ℕ) where
  -- without room
  pub roomless : (bytes : List ℕ) → length bytes < 131072
      → (refused_at l (number 1) ≡ reported (ended (contents_of s) l) (length bytes)) × (bytes ≡ printed (ended (contents_of s) l) bytes)
  roomless bytes h = let few = lt-ltb (length bytes) 131072 h in (rw few, rw few)

  -- the closure's text is put
  pub put_ends : {m : ℕ} {new : List ℕ} (bytes : List ℕ) → 131072 ≤ length bytes → PutText bytes 0 (closure_text (study_of s)) m new
      → (done m ≡ reported (ended (contents_of s) l) (length bytes)) × (new ≡ printed (ended (contents_of s) l) bytes)
  unfolding contents_of
  put_ends {m} {new} bytes h p =
      let text = closure_text (study_of s) in
      let enough = le-ltb (length bytes) 131072 h in
      let ends : m ≡ length text = omega (arith, p.ends) in
      let said : done (length text) ≡ reported (ended (contents_of s) l) (length bytes) = rw enough in
      let laid : over text bytes ≡ printed (ended (contents_of s) l) bytes = rw enough in
      (ap done ends ∙ said, p.is ∙ ap (λ (k : ℕ). text ++ drop k bytes) ends ∙ laid)

-- ---- any text

module _ (text : List ℕ) where
  pub mend_long : {m : ℕ} (bytes : List ℕ) → 131072 < length text → m ≡ newlines text
      → (too_long m ≡ mend_answer text (length bytes)) × (bytes ≡ mend_leaves text bytes)
  unfolding mend_answer mend_leaves
  mend_long bytes h e = let long = lt-ltb 131072 (length text) h in (rw long (ap too_long e), rw long)

  pub mend_read : {u : Turn} → text_of RuleCase.Measured text ≡ u → length text ≤ 131072 → {t : Report} {new : List ℕ} (bytes : List ℕ)
      → (t ≡ reported u (length bytes)) × (new ≡ printed u bytes) → (t ≡ mend_answer text (length bytes)) × (new ≡ mend_leaves text bytes)
  unfolding mend_answer mend_leaves
  mend_read f h bytes (told, left) =
      let short = le-ltb 131072 (length text) h in
      (rw short (told ∙ ap (λ u. reported u (length bytes)) (sym f)), rw short (left ∙ ap (λ u. printed u bytes) (sym f)))
