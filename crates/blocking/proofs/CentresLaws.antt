-- The ways out of Centres: of what the code has found out, what the call answers and leaves. Assumes nothing.
use Rattle.std.specs.Prelude.{◌≡◌, ℕ, suc, ◌+◌, ◌<◌, ◌≤◌, Bool, false, leb, ◌⊎◌, List, [], ◌∷◌, ◌++◌, map, length, get_or, take, drop, Result, Ok, Err}
use native.Mathlib.Omega.{arith}
use native.Mathlib.Numerals.{add-one}
use mathlib.Core.Path.{refl, sym, ap, ap₂, ◌∙◌, subst}
use mathlib.Core.Logic.{inl, inr}
use lib.Dec.{leb→le}
use lib.ListN.{length-map, get_or-map}
use lib.Seq.{take-append_seam}
use borrow.Author.Tests.{le-leb, lt-leb}
use Rattle.lists.specs.Lists.{each, tabulate, overwrite, over}
use Rattle.lists.proofs.Tests.{not_not, each_at}
use Rattle.lists.proofs.Scans.{each_fails}
use Rattle.lists.proofs.Tables.{length_tabulate, tabulate_is}
use Rattle.study.specs.declared.Refusal.{Refusal}
use Rattle.study.specs.Problem.{Problem, centres_among, centres, nearest_distance, nearest_block}
use Rattle.study.specs.Study.{Study, size, distance, problem}
use Rattle.study.specs.Refusals.{number, numbered, Verdict, accepted, refused, verdict_of, settled, value, first_of}
use Rattle.study.specs.Numbers.{number_of, refusal_number}
use Rattle.study.specs.Calls.{CentreLists, all_roomy, centres_reasons, centre_numbers, nearest_numbers, nearest_distances, centres_written}
use Rattle.study.proofs.CallLaws.{none_holds, reply_refused, reply_value}
use Rattle.study.proofs.StudyLaws.{study_lawful}
use Rattle.study.proofs.NearestLaws.{some_centre}
use Rattle.radius_theory.specs.Arrays.{within, array_problem}
use Rattle.radius_theory.specs.Arrays.{DistanceRows}
use Rattle.radius_search.specs.Front.{CentresAt}
use Rattle.radius_search.proofs.FrontLaws.{front_at}
use Rattle.validity.specs.Memory.{State, study_of, contents_of}
use Rattle.validity.proofs.ValidityLaws.{study_size, valid_study}
use Rattle.access.specs.Calls.{Output, first_list, lent, answer, reply, lists_after, list_after}
use Rattle.access.proofs.AccessLaws.{passed_by, replies_refusal, unwritten, inquiry_own, inquiry_accepted, inquiry_passed, reply_tells, replies, writes}
use Rattle.blocking.specs.Calls.{centre_lists, all_three, finds_centres, counted_reply, centres_front}
use Rattle.blocking.proofs.ProblemOfArrays.{problem_of_arrays}
use Rattle.blocking.proofs.TidesLaws.{past_24, tide_there}
use Rattle.blocking.specs.Accepted.{TidesChecked, CentresAccepted}

-- three lists that are the same
pub lists_are : {l k : CentreLists} → l.list ≡ k.list → l.nearest ≡ k.nearest → l.away ≡ k.away → l ≡ k
lists_are a b c = λ i. record { list = a i; nearest = b i; away = c i }

module _ (s : State) (l : CentreLists) where
  abbrev n : ℕ
  n = s.dataset.n

  abbrev S : Study
  S = study_of s

  -- whether each of the lists has its places
  abbrev roomy : List Bool
  roomy = leb (size S) (length l.list) ∷ leb (size S) (length l.nearest) ∷ leb (size S) (length l.away) ∷ []

  module _ {first : Result Unit Refusal} {u : Unit} (F : TidesChecked s first) (done : first ≡ Ok u) where
    centres_own : (v : Verdict) → first_of (centres_reasons S l) ≡ v → (g : ℕ) → v ≡ answer s (finds_centres g l)
    unfolding finds_centres contents_of
    centres_own v q g = sym q ∙ inquiry_own s _ (F.passed done) refl

    one_short : all_roomy S l ≡ false → (g : ℕ) → refused (number 1) ≡ answer s (finds_centres g l)
    unfolding centres_reasons first_of
    one_short e = centres_own (refused (number 1)) (rw (past_24 F done, e))

    -- a list is too short
    pub centres_1 : (length l.list < n) ⊎ ((length l.nearest < n) ⊎ (length l.away < n)) → (g : ℕ) → refused (number 1) ≡ answer s (finds_centres g l)
    centres_1 (inl h) = one_short (each_fails roomy 0 (lt-leb (size S) (length l.list) (omega (arith, study_size s))))
    centres_1 (inr (inl h)) = one_short (each_fails roomy 1 (lt-leb (size S) (length l.nearest) (omega (arith, study_size s))))
    centres_1 (inr (inr h)) = one_short (each_fails roomy 2 (lt-leb (size S) (length l.away) (omega (arith, study_size s))))

    pub centres_done : n ≤ length l.list → n ≤ length l.nearest → n ≤ length l.away → (g : ℕ) → accepted ≡ answer s (finds_centres g l)
    unfolding centres_reasons first_of
    centres_done a b c =
        centres_own accepted
        (rw (
          past_24 F done,
          le-leb (size S) (length l.list) (omega (arith, study_size s)),
          le-leb (size S) (length l.nearest) (omega (arith, study_size s)),
          le-leb (size S) (length l.away) (omega (arith, study_size s)),
        ))

  pub centres_accepted : {a : Result Unit Refusal} {u : Unit} → a ≡ Ok u → ((g : ℕ) → verdict_of a ≡ answer s (finds_centres g l)) → CentresAccepted s l
  unfolding finds_centres contents_of centres_reasons
  centres_accepted e f =
      let q : (g : ℕ) → accepted ≡ answer s (finds_centres g l) = λ g. sym (ap verdict_of e) ∙ f g in
      let h = inquiry_accepted s _ (sym (q 0)) in
      let w = none_holds (centres_reasons S l) h.reasons in
      let fits = each_at roomy (not_not (each roomy) w.1.0) in
      record {
        passed = passed_by s h.not_short h.tested;
        some_tide = tide_there s w.0;
        list_room = omega (arith, study_size s, leb→le (size S) (length l.list) fits.0);
        nearest_room = omega (arith, study_size s, leb→le (size S) (length l.nearest) fits.1.0);
        away_room = omega (arith, study_size s, leb→le (size S) (length l.away) fits.1.1.0);
        answer = q;
      }

  -- the rows of distances that an accepted call may read
  pub dataset_rows : CentresAccepted s l → DistanceRows s.distances n
  dataset_rows A =
      let p = A.passed in record { few = p.study.few; distances_long = omega (arith, p.study.few, p.long.distances) }

  module _ (g : ℕ) where
    abbrev numbers : List ℕ
    numbers = centre_numbers S g

    -- a refused call answers its refusal and leaves the lists
    pub centres_refused : {r : Result ℕ Refusal} {x : Refusal} → r ≡ Err x → refused (numbered x) ≡ answer s (finds_centres g l)
        → (counted_reply r ≡ reply s (finds_centres g l)) × (all_three l ≡ lists_after s (finds_centres g l))
    unfolding finds_centres lent
    centres_refused e f =
        (ap counted_reply e ∙ replies_refusal s (finds_centres g l) f, ap (λ (o : Output). o.lists) (unwritten s (finds_centres g l) f))

    -- how much of the list is filled, and the number of the answer
    abbrev pub Filled : ℕ × ℕ → Type 0
    Filled p = (p.0 ≡ length (centres_front s g l)) × (p.1 ≡ refusal_number (answer s (finds_centres g l)))

    -- the answer tells both
    module _ {r : Result ℕ Refusal} (told : counted_reply r ≡ reply s (finds_centres g l)) {p : ℕ × ℕ} where
      pub filled_some : {count : ℕ} → r ≡ Ok count → p ≡ (count, 0) → Filled p
      unfolding centres_front finds_centres contents_of
      filled_some {count} e f =
          let q = reply_value (answer s (finds_centres g l)) (length numbers ∷ []) (sym (ap counted_reply e) ∙ told ∙ reply_tells s _) in (
            ap (λ (z : ℕ × ℕ). z.0) f ∙ ap (λ ns. get_or ns 0 0) q.1 ∙ ap (λ v. length (settled v numbers [])) (sym q.0),
            ap (λ (z : ℕ × ℕ). z.1) f ∙ ap refusal_number (sym q.0),
          )

      pub filled_none : {x : Refusal} → r ≡ Err x → {n : ℕ} → n ≡ number_of (numbered x) → p ≡ (0, n) → Filled p
      unfolding centres_front finds_centres contents_of
      filled_none {x} e k f =
          let q = reply_refused (answer s (finds_centres g l)) (length numbers ∷ []) (sym (ap counted_reply e) ∙ told ∙ reply_tells s _) in (
            ap (λ (z : ℕ × ℕ). z.0) f ∙ ap (λ v. length (settled v numbers [])) (sym q),
            ap (λ (z : ℕ × ℕ). z.1) f ∙ k ∙ ap refusal_number (sym q),
          )

    -- the front of the list that is left
    front_of : (v : Verdict) → answer s (finds_centres g l) ≡ v
        → take (length (settled v numbers [])) (list_after s (finds_centres g l)) ≡ settled v numbers []
    unfolding finds_centres centres_written contents_of
    front_of accepted e =
        ap (λ (o : Output). take (length numbers) (first_list o.lists)) (sym (writes s _ (inquiry_passed s _ e) (sym e)))
        ∙ take-append_seam numbers (drop (length numbers) l.list)
    front_of (refused x) e = refl

    -- it is a part of that list
    pub centres_part : {count : ℕ} {new : CentreLists} → count ≡ length (centres_front s g l) → all_three new ≡ lists_after s (finds_centres g l)
        → (count ≡ length (take count new.list)) × (take count new.list ≡ centres_front s g l)
    unfolding centres_front
    centres_part {count} {new} e f = (e ∙ ap length (sym part), part)
      where
        part : take count new.list ≡ centres_front s g l
        part = ap₂ (λ (c : ℕ) (ls : List (List ℕ)). take c (first_list ls)) e f ∙ front_of (answer s (finds_centres g l)) refl

    module _ (A : CentresAccepted s l) where
      -- an accepted call answers the number of centres
      pub centres_reply : {count : ℕ} → count ≡ length (centres_front s g l) → value (count ∷ []) ≡ reply s (finds_centres g l)
      unfolding centres_front finds_centres contents_of
      centres_reply e =
          ap (λ n. value (n ∷ [])) (e ∙ ap (λ v. length (settled v numbers [])) (sym (A.answer g))) ∙ replies s _ A.passed (A.answer g)

      abbrev found : List ℕ
      found = centres_among (within s.distances n) g n

      numbers_are : numbers ≡ map suc found
      unfolding centre_numbers centres array_problem
      numbers_are = ap (λ (P : Problem). map suc (centres P g)) (problem_of_arrays s A.passed.study)

      -- there is a centre
      some_found : 0 < length found
      unfolding array_problem centres problem
      some_found =
          let L = study_lawful S (valid_study s A.passed.study).triangle in
          subst (λ (P : Problem). 0 < length (centres P g)) (problem_of_arrays s A.passed.study)
          (some_centre (problem S) L g 0 (omega (arith, study_size s, A.some_tide)))

      -- a table over the tides, of what the centres are to each
      table_is : (f : (ℕ → ℕ → ℕ) → List ℕ → ℕ → ℕ) (old : List ℕ) {cs : List ℕ} → cs ≡ found
          → overwrite n (f (within s.distances n) cs) old ≡ over (tabulate (size S) (f (distance S) (centres (problem S) g))) old
      unfolding overwrite problem centres array_problem
      table_is f old {cs} e =
          let h = f (within s.distances n) cs in
          let same = ap (λ (P : Problem). tabulate P.size (f P.dist (centres P g))) (problem_of_arrays s A.passed.study)
          ∙ ap (λ z. tabulate n (f (within s.distances n) z)) (sym e) in
          ap (λ z. tabulate n h ++ drop z old) (sym (length_tabulate n h)) ∙ ap (λ xs. over xs old) (sym same)

      module _ {count : ℕ} {cs : List ℕ} (C : CentresAt s.distances n g count cs) where
        long : length numbers ≡ count
        long = ap length numbers_are ∙ length-map found suc ∙ C.front.long

        written : tabulate count (λ i. get_or cs i 0 + 1) ≡ numbers
        written =
            tabulate_is count (λ i. get_or cs i 0 + 1) 1 (map suc found) (length-map found suc ∙ C.front.long)
            (λ i h. add-one (get_or cs i 0) ∙ ap suc (front_at C.front i h) ∙ sym (get_or-map suc found i 0))
            ∙ sym numbers_are

        pub first_found : 1 ≤ count
        first_found = omega (arith, some_found, C.front.long)

        -- the centres found, written as numbers from 1, and each tide's nearest
        pub centres_filled : {list nearest away : List ℕ} → list ≡ overwrite count (λ i. get_or cs i 0 + 1) l.list
            → nearest ≡ overwrite n (nearest_block (within s.distances n) (take count cs)) l.nearest
            → away ≡ overwrite n (nearest_distance (within s.distances n) (take count cs)) l.away
            → (count ≡ length (centres_front s g l)) × (all_three (centre_lists list nearest away) ≡ lists_after s (finds_centres g l))
        unfolding centres_front finds_centres centres_written nearest_numbers nearest_distances overwrite contents_of
        centres_filled a b c = (
          sym long ∙ ap (λ v. length (settled v numbers [])) (A.answer g),
          ap all_three (lists_are {k = centres_written S g l}
              (a ∙ ap₂ (λ x y. x ++ y) written (ap (λ z. drop z l.list) (sym long)))
              (b ∙ table_is nearest_block l.nearest C.front.front)
              (c ∙ table_is nearest_distance l.away C.front.front))
              ∙ ap (λ (o : Output). o.lists) (writes s _ A.passed (A.answer g)),
        )
