-- From what a Rattle call that begins anew or changes what is held answers and leaves to what the call for C does. Assumes nothing.
use Rattle.std.specs.Prelude.{◌≡◌, ℕ, ◌<◌, ◌≤◌, Bool, true, false, ◌||◌, ◌⊎◌, List, length}
use native.Mathlib.Omega.{arith}
use mathlib.Core.Path.{refl, sym, ap, ap₂, ◌∙◌, subst}
use mathlib.Core.Logic.{inl, inr}
use mathlib.Core.List.{flat_map}
use borrow.Author.Tests.{lt-ltb, le-ltb}
use Rattle.lists.specs.Lists.{iota, over}
use Rattle.lists.proofs.Tests.{true-T}
use Rattle.study.specs.declared.Minima.{Minima}
use Rattle.study.specs.declared.Dataset.{Dataset}
use Rattle.study.specs.Study.{Study, Contents, size}
use Rattle.study.specs.Refusals.{number, Verdict, accepted, refused, settled, first_of, fresh_reasons, held_reasons}
use Rattle.study.specs.Calls.{open_reasons, opening, minima_reasons, setting_minima, enter_reasons, entering, withdraw_reasons, withdrawing}
use Rattle.study.specs.Theorems.{ValidContents}
use Rattle.study.proofs.StudyLaws.{valid_minima-T}
use Rattle.study.proofs.Proofs.{for_calls}
use Rattle.file_format.specs.File.{decoded, head_reasons, tide_reasons, read_reasons}
use Rattle.file_format.proofs.Proofs.{files}
use Rattle.file_format.proofs.BitLaws.{bits_at_small}
use Rattle.file_format.proofs.DecodedLaws.{decoded_size}
use Rattle.validity.specs.Memory.{State, state_of, short, is_dataset, contents_of, record_of, stored}
use Rattle.validity.proofs.Proofs.{for_datasets}
use Rattle.access.specs.Calls.{Holding, holding_of, held, Source, Update, Call, begins, changes, asks, told, Response, learnt, response, answer, output}
use Rattle.access.specs.Calls.{made, after}
use Rattle.access.specs.Calls.{lent as lent_to}
use Rattle.access.proofs.AccessLaws.{leaves, source_accepted, update_accepted}
use Rattle.dataset.specs.Calls.{opens_dataset, sets_minima, enters_tide, withdraws_tide}
use Rattle.study_file.specs.Calls.{reads_file}
use Rattle.merge.specs.Merge.{merged, merge_reasons}
use Rattle.merge.specs.Calls.{source_reasons, merges_datasets}
use Rattle.merge.proofs.AnswerLaws.{merged_valid}
use Rattle.narrowing.specs.Narrowing.{narrowed, narrow_dataset}
use Rattle.narrowing.proofs.Proofs.{unchanged, as_given}
use Rattle.c_records.specs.Record.{Lent, record_size, lent, dataset_of, numbers_of, state_in, code}
use Rattle.c_api.specs.Api.{room_first, lacks, c_verdict, left, c_left, c_output}
use Rattle.c_records.specs.Records.{Narrow, Storable}
use Rattle.c_records.proofs.RecordLaws.{with_record, read_back}
use Rattle.c_records.proofs.CodeLaws.{AllNarrow, small, append_narrow, runs_narrow, pair_narrow, source_narrow, update_narrow}

-- ---- a list of fixed size

pub lacks_yes : (n : ℕ) (l : List ℕ) → length l < n → lacks n l ≡ true
unfolding lacks
lacks_yes n l h = lt-ltb (length l) n h

pub lacks_no : (n : ℕ) (l : List ℕ) → n ≤ length l → lacks n l ≡ false
unfolding lacks
lacks_no n l h = le-ltb (length l) n h

-- the record, or another list, is too short
pub record_short : (numbers : List ℕ) (few : Bool) → length numbers < record_size → lacks record_size numbers || few ≡ true
record_short numbers few h = rw (lacks_yes record_size numbers h)

pub list_short : (numbers : List ℕ) {few : Bool} → few ≡ true → lacks record_size numbers || few ≡ true
list_short numbers {few} e = rw e (either (lacks record_size numbers))
  where
    either : (a : Bool) → a || true ≡ true
    either true = refl
    either false = refl

-- neither
pub none_short : (numbers : List ℕ) {few : Bool} → record_size ≤ length numbers → few ≡ false → lacks record_size numbers || few ≡ false
none_short numbers h e = rw (lacks_no record_size numbers h, e)

-- ---- a call on s that begins anew or changes what is held, and leaves the contents C where it is accepted

-- it is no question
abbrev pub Moves : Call → Type 0
Moves (begins S) = Unit {0}
Moves (changes U) = Unit {0}
Moves (asks Q) = ⊥

pub record Sound (s : State) (c : Call) (C : Contents) : Type 0 where
  pub moves : Moves c
  pub narrow : Narrow (answer s c)
  pub makes : made s c ≡ stored C s
  pub valid : answer s c ≡ accepted → ValidContents C

module _ (s : State) where
  source_sound : (S : Source) → AllNarrow S.own → (first_of S.own ≡ accepted → ValidContents S.brings) → Sound s (begins S) S.brings
  unfolding made
  source_sound S n valid = record { moves = tt; narrow = source_narrow s S n; makes = refl; valid = λ e. valid (source_accepted s S e).1 }

  update_sound : (U : Update) → ((H : Holding) → ValidContents H.contents → AllNarrow (U.own H))
      → ((H : Holding) → ValidContents H.contents → first_of (U.own H) ≡ accepted → ValidContents (U.makes H).contents)
      → Sound s (changes U) (U.makes (holding_of s)).contents
  unfolding made
  update_sound U narrow keeps =
      record {
        moves = tt;
        narrow = update_narrow s U (λ e. narrow (holding_of s) (valid e));
        makes = refl;
        valid = λ e. let A = update_accepted s U e in keeps (holding_of s) (valid A.tested) A.reasons;
      }
    where
      valid : is_dataset s ≡ true → ValidContents (contents_of s)
      valid e = for_datasets.valid s (true-T (is_dataset s) e)

  pub open_sound : (k : ℕ) → Sound s (opens_dataset k) (opening k)
  unfolding opens_dataset open_reasons
  open_sound k = source_sound _ (small tt, tt) (for_calls.on_open k)

  pub minima_sound : (M : Minima) → Sound s (sets_minima M) (setting_minima M (contents_of s))
  unfolding sets_minima minima_reasons
  minima_sound M = update_sound _ (λ H ok. (small tt, tt)) (λ H. for_calls.on_minima M H.contents)

  pub enter_sound : (setting : ℕ) (row : List ℕ) → Sound s (enters_tide setting row) (entering setting row (contents_of s))
  unfolding enters_tide enter_reasons
  enter_sound setting row = update_sound _ (λ H. narrow H.contents) (λ H. for_calls.on_enter setting row H.contents)
    where
      narrow : (C : Contents) → ValidContents C → AllNarrow (enter_reasons C.study setting row)
      narrow C ok = (
        small tt,
        (small tt, (small tt, (small tt, (pair_narrow _ _ _ (omega (arith, ok.study.few)), (small tt, tt))))),
      )

  pub withdraw_sound : (u t : ℕ) → Sound s (withdraws_tide u t) (withdrawing u t (contents_of s))
  unfolding withdraws_tide withdraw_reasons
  withdraw_sound u t = update_sound _ (λ H ok. (small tt, (small tt, tt))) (λ H. for_calls.on_withdraw u t H.contents)

  pub read_sound : (file : List ℕ) → Sound s (reads_file file) (decoded file)
  unfolding reads_file read_reasons head_reasons tide_reasons
  read_sound file = source_sound _ narrow (files.valid file)
    where
      S : Study
      S = (decoded file).study

      narrow : AllNarrow (read_reasons file)
      narrow =
          append_narrow (head_reasons file) (flat_map (tide_reasons S) (iota 0 (size S)))
          (small tt, (small tt, (small tt, (small tt, (small tt, (small tt, (small tt, (small tt, tt))))))))
          (runs_narrow (tide_reasons S) 0 (size S) (λ t l. (small tt, (pair_narrow _ _ _ (omega (arith, decoded_size file, bits_at_small file 8 7)), tt))))

  pub merge_sound : (a b : State) (firsts seconds : List ℕ)
      → Sound s (merges_datasets a b firsts seconds) (merged (contents_of a) (contents_of b) firsts seconds)
  unfolding merges_datasets source_reasons held_reasons fresh_reasons merge_reasons
  merge_sound a b firsts seconds =
      source_sound _ (small tt, (small tt, (small tt, (small tt, (small tt, (small tt, (small tt, (small tt, tt)))))))) (merged_valid a b firsts seconds)

-- what a call did, s before and t after it, with the verdict w
abbrev pub Did : State → Verdict → State → Call → Type 0
Did s w t c = (w ≡ answer s c) × (t ≡ after s c)

-- the record that it made, by its contract, can be written
pub storable : {numbers : List ℕ} (s : State) {c : Call} {C : Contents} {w : Verdict} {r : Dataset} {d g : List ℕ} → Sound s c C
    → record_size ≤ length numbers → Did s w (state_of r d g) c → Storable numbers w r
unfolding stored record_of
storable {numbers} s {c} {C} {w} {r} {d} {g} S room (e, f) =
    record { room = room; narrow = subst Narrow (sym e) S.narrow; few = λ q. few (sym e ∙ q) }
  where
    few : answer s c ≡ accepted → r.n < 65536
    few q =
        let k : r.n ≡ size C.study = ap (λ (x : State). x.dataset.n) (f ∙ sym (leaves s c (sym q)) ∙ S.makes) in
        omega (arith, (S.valid q).study.few)

-- ---- on the record itself, and on the record as the code holds it

module _ (l : Lent) {r : Dataset} (e : r ≡ narrow_dataset (dataset_of l.numbers)) where
  same_held : held (with_record l r) ≡ held (state_in l)
  unfolding state_in
  same_held = ap (λ x. held (with_record l x)) e ∙ (unchanged (state_in l)).on_record

  same_response : (c : Call) → response (with_record l r) c ≡ response (state_in l) c
  unfolding response short state_in
  same_response c = ap (λ h. learnt (short (state_in l)) h c) same_held

  pub same_answer : (c : Call) → answer (with_record l r) c ≡ answer (state_in l) c
  unfolding answer
  same_answer c = ap (λ (r : Response). r.verdict) (same_response c)

  pub same_output : (c : Call) → output (with_record l r) c ≡ output (state_in l) c
  unfolding output
  same_output c = ap (λ (r : Response). r.output) (same_response c)

  -- where there is a dataset, they are the same
  same_record : is_dataset (state_in l) ≡ true → with_record l r ≡ state_in l
  unfolding state_in
  same_record f = ap (with_record l) e ∙ (unchanged (state_in l)).within f

  -- so an accepted call makes the same of either
  pub same_made : (c : Call) → Moves c → answer (state_in l) c ≡ accepted → made (with_record l r) c ≡ made (state_in l) c
  unfolding made stored record_of state_in
  same_made (begins S) m a = refl
  same_made (changes U) m a = ap (λ y. made y (changes U)) (same_record (update_accepted (state_in l) U a).tested)
  same_made (asks Q) m a = absurd m

-- ---- what stands afterwards

module _ (l : Lent) where
  left_is : (few : Bool) (c : Call) → Moves c → c_left l few c ≡ left l (c_verdict l few c) (after (state_in l) c)
  unfolding c_left
  left_is few (begins S) m = refl
  left_is few (changes U) m = refl
  left_is few (asks Q) m = absurd m

  -- a list of fixed size is too short
  short_verdict : (few : Bool) (c : Call) → lacks record_size l.numbers || few ≡ true → c_verdict l few c ≡ refused (number 1)
  unfolding c_verdict room_first
  short_verdict few c e = rw e

  short_stays : (few : Bool) (c : Call) → lacks record_size l.numbers || few ≡ true → c_left l few c ≡ l
  unfolding c_left left
  short_stays few (begins S) e = ap (λ v. left l v (after (state_in l) (begins S))) (short_verdict few (begins S) e)
  short_stays few (changes U) e = ap (λ v. left l v (after (state_in l) (changes U))) (short_verdict few (changes U) e)
  short_stays few (asks Q) e = refl

  short_output : (few : Bool) (c : Call) → lacks record_size l.numbers || few ≡ true → c_output l few c ≡ lent_to c
  unfolding c_output
  short_output few c e = ap (λ v. settled v (told (held (state_in l)) c) (lent_to c)) (short_verdict few c e)

  -- refused 1, and nothing changes
  pub too_short : (few : Bool) (c : Call) → lacks record_size l.numbers || few ≡ true
      → (c_verdict l few c ≡ refused (number 1)) × (c_left l few c ≡ l) × (c_output l few c ≡ lent_to c)
  too_short few c e = (short_verdict few c e, short_stays few c e, short_output few c e)

  pub left_too_short : (few : Bool) (c : Call) → lacks record_size l.numbers || few ≡ true → (1 ≡ code (c_verdict l few c)) × (l ≡ c_left l few c)
  left_too_short few c e = (ap code (sym (short_verdict few c e)), sym (short_stays few c e))

-- a call got the record in l as o and made r of it; its verdict w gave the code c and the numbers m
pub record Stored (l : Lent) (o r : Dataset) (w : Verdict) (c : ℕ) (m : List ℕ) : Type 0 where
  pub room : record_size ≤ length l.numbers
  pub held : o ≡ narrow_dataset (dataset_of l.numbers)
  pub settles : (c ≡ code w) × (m ≡ settled w (over (numbers_of r) l.numbers) l.numbers)

module _ {l : Lent} {o r : Dataset} {w : Verdict} {c : ℕ} {m : List ℕ} (D : Stored l o r w c m) where
  -- the record as the code holds it, with the memory
  abbrev s : State
  s = with_record l o

  module _ {d g : List ℕ} where
    -- by its contract on s, it answers v and leaves `new` where it is accepted
    left_own : {is_too_short : Bool} (v : Verdict) (new : State) → is_too_short ≡ false → w ≡ v
        → (v ≡ accepted → state_of r d g ≡ new) → ((v ≡ accepted) ⊎ (state_of r d g ≡ s))
        → (c ≡ code (room_first is_too_short v)) × (lent m d g ≡ left l (room_first is_too_short v) (settled v new (state_in l)))
    unfolding room_first left state_in
    left_own {is_too_short} v new e u made stays =
        rw e (D.settles.0 ∙ ap code u, by v made stays (D.settles.1 ∙ ap (λ x. settled x (over (numbers_of r) l.numbers) l.numbers) u))
      where
        by : (x : Verdict) → (x ≡ accepted → state_of r d g ≡ new) → ((x ≡ accepted) ⊎ (state_of r d g ≡ s))
            → m ≡ settled x (over (numbers_of r) l.numbers) l.numbers → lent m d g ≡ left l x (settled x new (state_in l))
        by accepted f t n =
            let z = f refl in
            let w = n ∙ ap (λ (y : State). over (numbers_of y.dataset) l.numbers) z in
            λ i. record { numbers = w i; distances = (z i).distances; settings = (z i).settings }
        by (refused y) f (inl a) n = absurd (let z : ◌≡◌ {A = ℕ} 0 1 = cc in omega arith)
        by (refused y) f (inr t) n = λ i. record { numbers = n i; distances = (t i).distances; settings = (t i).settings }

    -- accepted, or everything stays
    settles_either : (v : Verdict) (new : State) → state_of r d g ≡ settled v new s → (v ≡ accepted) ⊎ (state_of r d g ≡ s)
    settles_either accepted new q = inl refl
    settles_either (refused x) new q = inr q

    -- so the call for C answers and leaves what is said of the record itself
    pub call_left : {few : Bool} → few ≡ false → {k : Call} {C : Contents} → Sound (state_in l) k C → Did s w (state_of r d g) k
        → (c ≡ code (c_verdict l few k)) × (lent m d g ≡ c_left l few k)
    unfolding c_verdict after
    call_left {few} whole {k} S (p, q) =
        let v = same_answer l D.held k in
        let t = q ∙ ap (λ x. settled x (made s k) s) v in
        let done = left_own (answer (state_in l) k) (made (state_in l) k) (none_short l.numbers D.room whole) (p ∙ v)
        (λ a. t ∙ ap (λ x. settled x (made s k) s) a ∙ same_made l D.held k S.moves a)
        (settles_either (answer (state_in l) k) (made s k) t) in
        (done.0, done.1 ∙ sym (left_is l few k S.moves))

-- ---- numbers given as bytes

pub enter_given : (s : State) (setting : ℕ) (row : List ℕ) {w : Verdict} {t : State} {y : ℕ} → y ≡ narrowed setting
    → Did s w t (enters_tide y row) → Did s w t (enters_tide setting row)
enter_given s setting row e did = as_given s (λ x. enters_tide x row) setting e ((unchanged s).on_enter setting row) did

pub withdraw_given : (s : State) (u t : ℕ) {w : Verdict} {new : State} {x y : ℕ} → x ≡ narrowed u → y ≡ narrowed t
    → Did s w new (withdraws_tide x y) → Did s w new (withdraws_tide u t)
withdraw_given s u t p q did =
    let same = (unchanged s).on_withdraw u t in
    (did.0 ∙ ap₂ (λ x y. answer s (withdraws_tide x y)) p q ∙ same.0, did.1 ∙ ap₂ (λ x y. after s (withdraws_tide x y)) p q ∙ same.1)

-- ---- the next call gets what the last one left

module _ (l : Lent) (room : record_size ≤ length l.numbers) where
  laid : (H : Contents) → ValidContents H → length H.study.minima.b ≡ 8
      → let new = stored H (state_in l) in
      state_of (dataset_of (over (numbers_of new.dataset) l.numbers)) new.distances new.settings ≡ new
  unfolding stored record_of
  laid H ok eight =
      let new = stored H (state_in l) in
      ap (λ r. state_of r new.distances new.settings) (read_back (record_of H (state_in l).dataset) eight ok.counts.four l.numbers)

  pub carried : {c : Call} {C : Contents} → Sound (state_in l) c C → state_in (c_left l false c) ≡ after (state_in l) c
  unfolding c_verdict room_first left state_in after
  carried {c} {C} S = ap state_in (left_is l false c S.moves) ∙ rw (none_short l.numbers {few = false} room refl) (by (answer (state_in l) c) S.valid)
    where
      by : (w : Verdict) → (w ≡ accepted → ValidContents C)
          → state_in (left l w (settled w (made (state_in l) c) (state_in l))) ≡ settled w (made (state_in l) c) (state_in l)
      by accepted valid =
          let ok = valid refl in
          let fit = (valid_minima-T C.study.k C.study.minima).0 ok.study.minima in
          subst (λ (new : State). state_of (dataset_of (over (numbers_of new.dataset) l.numbers)) new.distances new.settings ≡ new) (sym S.makes)
          (laid C ok fit.eight)
      by (refused y) valid = refl
