-- The ways out of Block's core: of what the code has found out, what the call answers and leaves. Assumes nothing.
use Rattle.std.specs.Prelude.{◌≡◌, ℕ, suc, ◌+◌, ◌<◌, ◌≤◌, Bool, true, false, ◌&&◌, T, leb, List, [], ◌∷◌, ◌++◌, length, get_or, drop, Result, Ok, Err}
use native.Mathlib.Omega.{arith}
use native.Mathlib.Numerals.{add-one}
use mathlib.Core.Path.{refl, sym, ap, ap₂, ◌∙◌, subst}
use lib.Dec.{leb→le}
use borrow.Author.Tests.{le-leb, lt-leb}
use Rattle.lists.specs.Lists.{count_below, overwrite}
use Rattle.lists.proofs.Tests.{not_not, T-left, T-right}
use Rattle.lists.proofs.Tables.{overwrite_ext, getD_overwrite}
use Rattle.study.specs.Limits.{cell, max_distance}
use Rattle.study.specs.declared.Minima.{Minima}
use Rattle.study.specs.declared.Figures.{Figures}
use Rattle.study.specs.declared.Refusal.{Refusal}
use Rattle.study.specs.declared.BlockRecord.{BlockRecord}
use Rattle.study.specs.Problem.{Problem, centres, block, labels, radius, blocking, diameter, greatest_diameter}
use Rattle.study.specs.Study.{Study, size, sufficient, problem}
use Rattle.study.specs.Refusals.{Numbered, number, numbered, Verdict, accepted, refused, verdict_of, value, first_of}
use Rattle.study.specs.Calls.{block_reasons, figures, block_record}
use Rattle.study.proofs.CallLaws.{none_holds}
use Rattle.study.proofs.Proofs.{for_problem, for_study}
use Rattle.promise.specs.Promise.{meeting, Able}
use Rattle.radius_theory.specs.Arrays.{array_problem, ball, SizedArrays, ValidArrays}
use Rattle.blocking_core.specs.Core.{Blocks}
use Rattle.validity.specs.Memory.{State, study_of, contents_of}
use Rattle.validity.proofs.ValidityLaws.{study_size, valid_study}
use Rattle.access.specs.Calls.{nobody, Output, first_list, lent, answer, reply, list_after}
use Rattle.access.specs.Passed.{Passed}
use Rattle.access.proofs.AccessLaws.{held_own, accepted_held, inquiry_answer, passed_by, replies_refusal, unwritten, replies, writes}
use Rattle.blocking.specs.declared.block.BlockRows.{BlockRows}
use Rattle.blocking.specs.declared.block.Computed.{Computed}
use Rattle.blocking.specs.Calls.{makes_blocks}
use Rattle.blocking.proofs.ProblemOfArrays.{problem_of_arrays, sized_arrays, valid_arrays, meets_same}
use Rattle.blocking.specs.Rows.{row_record, Lending, RowsOf, Leaves, rows_of, core_reply}
use Rattle.blocking.proofs.TidesLaws.{past_24, tide_there}
use Rattle.blocking.specs.Accepted.{TidesChecked, block_answer, BlockAccepted}

-- Block's answer by lengths is the call's answer
pub made_answer : (s : State) (list : List ℕ) {room : ℕ} (records : List BlockRecord) → length records ≡ room
    → block_answer s (length list) room ≡ answer s (makes_blocks list records)
unfolding block_answer makes_blocks
made_answer s list records k = ap (block_answer s (length list)) (sym k) ∙ sym (inquiry_answer s _)

module _ (s : State) (list room : ℕ) where
  abbrev n : ℕ
  n = s.dataset.n

  abbrev S : Study
  S = study_of s

  abbrev M : Minima
  M = s.dataset.minima

  -- the ball that the code counts holds every tide
  abbrev whole : Bool
  whole = meeting M n s.settings (ball s.distances 0 max_distance)

  module _ {first : Result Unit Refusal} {u : Unit} (F : TidesChecked s first) (done : first ≡ Ok u) where
    block_own : (v : Verdict) → first_of (block_reasons S list room) ≡ v → v ≡ block_answer s list room
    unfolding block_answer contents_of
    block_own v q = sym q ∙ held_own s (λ H. block_reasons H.contents.study list room) (F.passed done).not_short (F.passed done).tested

    whole_is : sufficient S (λ t. true) ≡ whole
    unfolding array_problem problem meeting
    whole_is =
        ap (λ (Q : Problem). Q.enough (λ t. true)) (problem_of_arrays s (F.passed done).study)
        ∙ meets_same M n (λ t k. refl)
        (λ t k. sym (le-leb (cell s.distances 0 t) max_distance ((F.passed done).study.distance_high 0 t (F.some_tide done) k)))

    module _ {r : Bool} (e : r ≡ whole) where
      pub block_25 : r ≡ false → refused (number 25) ≡ block_answer s list room
      unfolding block_reasons first_of
      block_25 f = block_own (refused (number 25)) (rw (past_24 F done, whole_is ∙ sym e ∙ f))

      module _ (f : r ≡ true) where
        pub block_1_list : list < n → refused (number 1) ≡ block_answer s list room
        unfolding block_reasons first_of
        block_1_list h =
            block_own (refused (number 1)) (rw (past_24 F done, whole_is ∙ sym e ∙ f, lt-leb (size S) list (omega (arith, study_size s))))

        pub block_1_records : n ≤ list → room < n → refused (number 1) ≡ block_answer s list room
        unfolding block_reasons first_of
        block_1_records h k =
            block_own (refused (number 1))
            (rw (
              past_24 F done,
              whole_is ∙ sym e ∙ f,
              le-leb (size S) list (omega (arith, study_size s)),
              lt-leb (size S) room (omega (arith, study_size s)),
            ))

        pub block_done : n ≤ list → n ≤ room → accepted ≡ block_answer s list room
        unfolding block_reasons first_of
        block_done h k =
            block_own accepted
            (rw (
              past_24 F done,
              whole_is ∙ sym e ∙ f,
              le-leb (size S) list (omega (arith, study_size s)),
              le-leb (size S) room (omega (arith, study_size s)),
            ))

  pub block_accepted : {a : Result Unit Refusal} {u : Unit} → a ≡ Ok u → verdict_of a ≡ block_answer s list room → BlockAccepted s list room
  unfolding block_answer contents_of block_reasons
  block_accepted e f =
      let q : accepted ≡ block_answer s list room = sym (ap verdict_of e) ∙ f in
      let h = accepted_held s nobody (λ H. block_reasons H.contents.study list room) (sym q) in
      let w = none_holds (block_reasons S list room) h.reasons in
      let fits = not_not (leb (size S) list && leb (size S) room) w.1.1.0 in
      record {
        passed = passed_by s h.not_short h.tested;
        some_tide = tide_there s w.0;
        enough = not_not (sufficient S (λ t. true)) w.1.0;
        list_room = omega (arith, study_size s, leb→le (size S) list (T-left (leb (size S) list) (leb (size S) room) fits));
        record_room = omega (arith, study_size s, leb→le (size S) room (T-right (leb (size S) list) (leb (size S) room) fits));
        answer = q;
      }

  module _ (A : BlockAccepted s list room) where
    abbrev d : List ℕ
    d = s.distances

    abbrev g : List ℕ
    g = s.settings

    abbrev P : Problem
    P = array_problem d n (meeting M n g)

    pub accepted_sized : SizedArrays (Able M n g) d n
    accepted_sized = sized_arrays s A.passed.study A.passed.long

    pub accepted_valid_arrays : ValidArrays d n (meeting M n g)
    accepted_valid_arrays = valid_arrays s A.passed.study A.enough

    same : problem S ≡ P
    same = problem_of_arrays s A.passed.study

    module _ {c r w : ℕ} {cs sizes diameters : List ℕ} (B : Blocks d n (meeting M n g) c r w cs sizes diameters) where
      pub figures_are : record { blocks = c; radius = r; widest = w } ≡ figures S
      unfolding figures
      figures_are =
          subst
          (λ (Q : Problem). ◌≡◌ {A = Figures} (record { blocks = c; radius = r; widest = w })
          (record { blocks = length (centres Q (radius Q)); radius = radius Q; widest = greatest_diameter Q (labels (blocking Q)) }))
          (sym same) (rw (B.count_is, B.radius_of, B.widest_of))

      -- the rows with the centres as tide numbers
      module _ {numbers : List ℕ} (old : List ℕ) (e : numbers ≡ overwrite c (λ i. get_or cs i 0 + 1) old) where
        abbrev pub rows : BlockRows
        rows = record { count = c; centres = numbers; tides = sizes; diameters = diameters }

        pub row_is : (i : ℕ) → i < c → row_record rows i ≡ block_record S i
        unfolding block_record array_problem
        row_is i l =
            subst
            (λ (Q : Problem). row_record rows i
            ≡ record {
              centre = suc (get_or (centres Q (radius Q)) i 0);
              tides = count_below Q.size (block (labels (blocking Q)) (suc i));
              diameter = diameter Q (labels (blocking Q)) (suc i);
            })
            (sym same)
            (rw (number, B.size_of i l, B.diameter_of i l))
          where
            number : get_or numbers i 0 ≡ suc (get_or (centres P (radius P)) i 0)
            number =
                ap (λ z. get_or z i 0) e ∙ getD_overwrite (λ i. get_or cs i 0 + 1) old c i 0 l ∙ add-one (get_or cs i 0) ∙ ap suc (B.centre_of_lem i l)

-- the blocking gives every tide a block
blocking_long : (s : State) → Passed s → T (sufficient (study_of s) (λ t. true)) → length (blocking (problem (study_of s))) ≡ s.dataset.n
unfolding problem
blocking_long s P w =
    let S = study_of s in
    ((for_problem (problem S) (for_study S (valid_study s P.study)).lawful).canonical w).assignment.long ∙ study_size s

-- ---- what the core hands back, whatever records are lent

module _ (s : State) (list : List ℕ) (room : ℕ) where
  abbrev of_study : Study
  of_study = study_of s

  -- a refused call answers its refusal, and leaves the records and the list
  refusing : {x : Numbered} → refused x ≡ block_answer s (length list) room → (records : List BlockRecord) → length records ≡ room
      → refused x ≡ answer s (makes_blocks list records)
  refusing f records k = f ∙ made_answer s list records k

  pub block_refusal : {r : Result Computed Refusal} {x : Refusal} → r ≡ Err x → refused (numbered x) ≡ block_answer s (length list) room
      → Lending room (λ records. core_reply r ≡ reply s (makes_blocks list records))
  block_refusal e f records k = ap core_reply e ∙ replies_refusal s (makes_blocks list records) (refusing f records k)

  pub records_stay : {r : Result Computed Refusal} {x : Refusal} → r ≡ Err x → refused (numbered x) ≡ block_answer s (length list) room
      → Leaves s (makes_blocks list) room rows_of r
  unfolding makes_blocks lent
  records_stay e f =
      subst (Leaves s (makes_blocks list) room rows_of) (sym e)
      (λ l k. ap (λ (o : Output). o.records) (unwritten s (makes_blocks list l) (refusing f l k)))

  pub block_list_stays : {x : Numbered} → refused x ≡ block_answer s (length list) room
      → Lending room (λ records. list ≡ list_after s (makes_blocks list records))
  unfolding makes_blocks lent
  block_list_stays f records k = ap (λ (o : Output). first_list o.lists) (unwritten s (makes_blocks list records) (refusing f records k))

  -- an accepted one hands back the study's blocks
  module _ (A : BlockAccepted s (length list) room) where
    accepting : (records : List BlockRecord) → length records ≡ room → accepted ≡ answer s (makes_blocks list records)
    accepting records k = A.answer ∙ made_answer s list records k

    module _ {c r w : ℕ} {cs sizes diameters : List ℕ}
        (B : Blocks s.distances s.dataset.n (meeting s.dataset.minima s.dataset.n s.settings) c r w cs sizes diameters) where
      pub block_value : Lending room (λ records. value (c ∷ r ∷ w ∷ []) ≡ reply s (makes_blocks list records))
      unfolding makes_blocks contents_of
      block_value records k =
          ap (λ (F : Figures). value (F.blocks ∷ F.radius ∷ F.widest ∷ [])) (figures_are s (length list) room A B)
          ∙ replies s _ A.passed (accepting records k)

      module _ {numbers : List ℕ} (old : List ℕ) (e : numbers ≡ overwrite c (λ i. get_or cs i 0 + 1) old) where
        pub block_rows : RowsOf s (makes_blocks list) room (rows s (length list) room A B old e)
        unfolding makes_blocks contents_of
        block_rows =
            record {
              fits = omega (arith, B.few, A.record_room);
              few = omega (arith, B.few, A.passed.study.few);
              records = λ l k.
                  overwrite_ext (row_record (rows s (length list) room A B old e)) l c (block_record of_study) (row_is s (length list) room A B old e)
                  ∙ ap (λ (F : Figures). overwrite F.blocks (block_record of_study) l) (figures_are s (length list) room A B)
                  ∙ ap (λ (o : Output). o.records) (writes s _ A.passed (accepting l k));
            }

    pub block_list : {new : List ℕ}
        → new ≡ blocking (array_problem s.distances s.dataset.n (meeting s.dataset.minima s.dataset.n s.settings)) ++ drop s.dataset.n list
        → Lending room (λ records. new ≡ list_after s (makes_blocks list records))
    unfolding makes_blocks contents_of
    block_list {new} e records k =
        e ∙ ap₂ (λ (Q : Problem) (k : ℕ). blocking Q ++ drop k list) (sym (problem_of_arrays s A.passed.study))
        (sym (blocking_long s A.passed A.enough))
        ∙ ap (λ (o : Output). first_list o.lists) (writes s _ A.passed (accepting records k))
