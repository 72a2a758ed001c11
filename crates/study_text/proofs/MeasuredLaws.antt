-- A measured tide in memory: its row there, and the ways out of taking it. Assumes nothing.
use Prim.Native.Nat.{ℕ, ◌+◌, ◌*◌, ◌≤◌, ◌<◌}
use native.Mathlib.Omega.{arith}
use native.Mathlib.Numerals.{add-one}
use mathlib.Core.Path.{◌≡◌, refl, sym, ap, ◌∙◌, subst}
use mathlib.Core.Bool.{Bool, true, false, cond, not}
use mathlib.Core.List.{List, [], ◌∷◌, ◌++◌}
use lib.Dec.{leb, eqb}
use borrow.Author.Tests.{lt-leb, eq-eqb}
use lib.ListN.{length, take, get_or, set, length-set, get_or-append}
use lib.Seq.{get_or-take, get_or-append-add, get_or-set_same, get_or-set_other, length-take-le}
use Rattle.lists.specs.Lists.{between, every, tabulate}
use Rattle.lists.proofs.Tables.{length_tabulate, get_d_tabulate, tabulate_suc, tabulate_is}
use Rattle.study.specs.Limits.{cell}
use Rattle.study.specs.declared.Refusal.{Refusal}
use Rattle.study.specs.Study.{no_tide, MeasuredStudy}
use Rattle.std.specs.Prelude.{Result, Ok, Err}
use Rattle.study.specs.Refusals.{number, numbered, Verdict, accepted, refused, verdict_of, settled, first_of}
use Rattle.study.specs.Calls.{measured_reasons, entered, entering}
use Rattle.study.proofs.CallLaws.{measures, entered_measured}
use Rattle.validity.specs.Memory.{State, state_of, set_size, tide_of, study_of, contents_of}
use Rattle.validity.specs.Validity.{Long}
use Rattle.validity.proofs.ValidityLaws.{study_size}
use Rattle.validity.proofs.LayoutLaws.{short_no}
use Rattle.study_text.specs.declared.Rule.TheVariants as RuleCase
use Rattle.study_text.specs.Reached.{Measuring, Took}

-- ---- its row in memory

module _ (s : State) (x : ℕ) (row : List ℕ) {d g : List ℕ} (long : length row ≡ s.dataset.n) (room : s.dataset.n < 120) (L : Long s)
    (rest : List ℕ) (put : d ≡ take (s.dataset.n * 120) s.distances ++ (row ++ rest)) (kept : g ≡ set s.settings s.dataset.n x) where
  abbrev n : ℕ
  n = s.dataset.n

  -- the state with one tide more
  abbrev t : State
  t = state_of (set_size (n + 1) s.dataset) d g

  front : length (take (n * 120) s.distances) ≡ n * 120
  front = length-take-le (n * 120) s.distances (omega (arith, L.distances))

  old_place : (p : ℕ) → p < n * 120 → get_or d p 0 ≡ get_or s.distances p 0
  old_place p l =
      ap (λ (z : List ℕ). get_or z p 0) put ∙ get_or-append (take (n * 120) s.distances) (row ++ rest) 0 p (omega (arith, front))
      ∙ get_or-take (n * 120) s.distances p 0 l

  new_place : (i : ℕ) → i < n → cell d n i ≡ get_or row i 0
  new_place i l =
      ap (λ (z : List ℕ). get_or z (n * 120 + i) 0) put
      ∙ ap (λ (p : ℕ). get_or (take (n * 120) s.distances ++ (row ++ rest)) (p + i) 0) (sym front)
      ∙ get_or-append-add (take (n * 120) s.distances) (row ++ rest) i 0 ∙ get_or-append row rest 0 i (omega arith)

  old_tide : (i : ℕ) → i < n → tide_of t i ≡ tide_of s i
  unfolding tide_of
  old_tide i l =
      λ j. record {
        setting = (ap (λ (z : List ℕ). get_or z i 0) kept ∙ get_or-set_other s.settings n i x 0 (λ e. omega arith)) j;
        row = same j;
      }
    where
      same : tabulate i (cell d i) ≡ tabulate i (cell s.distances i)
      same =
          tabulate_is i (cell d i) 0 (tabulate i (cell s.distances i)) (length_tabulate i (cell s.distances i))
          (λ u k. old_place (i * 120 + u) (omega arith) ∙ sym (get_d_tabulate i (cell s.distances i) u 0 k))

  new_tide : tide_of t n ≡ record { setting = x; row = row }
  unfolding tide_of
  new_tide =
      λ j. record {
        setting = (ap (λ (z : List ℕ). get_or z n 0) kept ∙ get_or-set_same s.settings n x 0 (omega (arith, L.settings))) j;
        row = tabulate_is n (cell d n) 0 row long new_place j;
      }

  -- memory with the row and the setting holds the study with the tide
  pub measured_study : study_of t ≡ entered x row (study_of s)
  unfolding study_of entered
  measured_study = λ j. record { k = s.dataset.k; minima = s.dataset.minima; tides = tides j }
    where
      olds : tabulate n (tide_of t) ≡ tabulate n (tide_of s)
      olds =
          tabulate_is n (tide_of t) no_tide (tabulate n (tide_of s)) (length_tabulate n (tide_of s))
          (λ i l. old_tide i l ∙ sym (get_d_tabulate n (tide_of s) i no_tide l))

      tides : tabulate (n + 1) (tide_of t) ≡ tabulate n (tide_of s) ++ (record { setting = x; row = row } ∷ [])
      tides = ap (λ (k : ℕ). tabulate k (tide_of t)) (add-one n) ∙ rw (tabulate_suc n (tide_of t), olds, new_tide)

-- ---- the ways out

-- the reasons as the code tests them
pub measured_ladder : (s : State) (x : ℕ) (row : List ℕ)
    → first_of (measured_reasons (study_of s) x row)
    ≡ cond (leb 120 s.dataset.n) (refused (number 22))
    (cond (not (eqb (length row) s.dataset.n)) (refused (number 4))
    (cond (not (between 1 s.dataset.k x)) (refused (number 5))
    (cond (not (every (length row) (λ i. leb (get_or row i 0) 1048575))) (refused (number 6)) accepted)))
unfolding measured_reasons first_of study_of
measured_ladder s x row = rw (study_size s)

-- past 22, 4 and 5 its distances decide
module _ (s : State) (x : ℕ) (row : List ℕ) (room : s.dataset.n < 120) (long : length row ≡ s.dataset.n) (set : between 1 s.dataset.k x ≡ true) where
  abbrev near? : Bool
  near? = every (length row) (λ i. leb (get_or row i 0) 1048575)

  measured_last : first_of (measured_reasons (study_of s) x row) ≡ cond (not near?) (refused (number 6)) accepted
  measured_last = rw (measured_ladder s x row, lt-leb 120 s.dataset.n room, eq-eqb (length row) s.dataset.n long, set)

  pub measured_far : near? ≡ false → refused (number 6) ≡ first_of (measured_reasons (study_of s) x row)
  measured_far far = rw (measured_last, far)

  pub measured_near : near? ≡ true → accepted ≡ first_of (measured_reasons (study_of s) x row)
  measured_near near = rw (measured_last, near)

-- what an accepted tide tells of record and memory
pub record MeasureAccepted (s : State) (x : ℕ) (row : List ℕ) : Type 0 where
  pub room : s.dataset.n < 120
  pub length_is : length row ≡ s.dataset.n
  pub setting_high : x ≤ 8
  pub study : MeasuredStudy (entered x row (study_of s))

-- the contents by an equal verdict
settles : (s : State) (x : ℕ) (row : List ℕ) {v w : Verdict} → v ≡ w
    → settled v (entering x row (contents_of s)) (contents_of s) ≡ settled w (entering x row (contents_of s)) (contents_of s)
settles s x row e = ap (λ u. settled u (entering x row (contents_of s)) (contents_of s)) e

module _ (s : State) (x : ℕ) (row : List ℕ) (M : Measuring s) where
  -- a refused tide leaves what was there
  pub measure_refused : {r : Result Unit Refusal} {why : Refusal} → r ≡ Err why → refused (numbered why) ≡ first_of (measured_reasons (study_of s) x row)
      → Took RuleCase.Measured s x row r s
  unfolding contents_of
  measure_refused e v = record { verdict = ap verdict_of e ∙ v; contents = settles s x row v; held = M }

  module _ (v : accepted ≡ first_of (measured_reasons (study_of s) x row)) where
    pub measure_accepted : MeasureAccepted s x row
    unfolding study_of
    measure_accepted =
        let A = measures (study_of s) x row (sym v) in
        record {
          room = omega (arith, A.room, study_size s);
          length_is = A.length_is ∙ study_size s;
          setting_high = omega (arith, A.setting_high, M.study.k_high);
          study = entered_measured x row (study_of s) M.study A;
        }

    -- an accepted one stands in its row, which ys is; `rest` is the memory past it
    pub measure_done : (ys rest : List ℕ) → ys ≡ row → length (take (s.dataset.n * 120) s.distances ++ (ys ++ rest)) ≡ length s.distances
        → Took RuleCase.Measured s x row (Ok tt)
        (state_of (set_size (s.dataset.n + 1) s.dataset) (take (s.dataset.n * 120) s.distances ++ (ys ++ rest)) (set s.settings s.dataset.n x))
    unfolding contents_of entering
    measure_done ys rest copied same =
        let A = measure_accepted in
        let L = M.long in
        let front = take (s.dataset.n * 120) s.distances in
        let study = measured_study s x row A.length_is A.room L rest (ap (λ zs. front ++ (zs ++ rest)) copied) refl in
        let fits : 14400 ≤ length (front ++ (ys ++ rest)) = omega (arith, L.distances) in
        let kept : 120 ≤ length (set s.settings s.dataset.n x) = simp length-set L.settings in
        record {
          verdict = v;
          contents = (λ i. record { study = study i; withdrawals = s.dataset.withdrawn }) ∙ settles s x row v;
          held = record {
            not_short = short_no _ fits kept;
            study = subst MeasuredStudy (sym study) A.study;
            long = record { distances = fits; settings = kept };
          };
        }
