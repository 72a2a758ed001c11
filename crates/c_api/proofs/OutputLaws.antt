-- From what a Rattle call that only reads the dataset answers and writes to what the call for C does. Assumes nothing.
use Rattle.std.specs.Prelude.{◌≡◌, ℕ, suc, ◌<◌, ◌≤◌, true, ◌||◌, List, [], ◌∷◌, ◌++◌, length, get_or, set, take, drop}
use Rattle.std.specs.Prelude.{Option, Result, Ok, Err}
use Rattle.std.proofs.Common.{le_refl}
use native.Mathlib.Omega.{arith}
use mathlib.Core.Path.{refl, sym, ap, ◌∙◌, subst}
use lib.Dec.{lit≤}
use lib.ListN.{length-map}
use Rattle.lists.specs.Lists.{over}
use Rattle.lists.proofs.Tests.{true-T}
use Rattle.study.specs.declared.Refusal.{Refusal}
use Rattle.study.specs.declared.Dataset.{Dataset}
use Rattle.study.specs.Problem.{centres}
use Rattle.study.specs.Study.{size, distance, problem}
use Rattle.study.specs.Refusals.{Numbered, numbered, Verdict, accepted, refused, settled, value, refusal}
use Rattle.study.specs.Calls.{CentreLists, centres_reasons, centre_numbers, judge_reasons}
use Rattle.study.specs.Theorems.{ValidContents}
use Rattle.study.proofs.CallLaws.{reply_refused, reply_value}
use Rattle.file_format.specs.File.{file_of, byte_length}
use Rattle.file_format.proofs.Proofs.{files}
use Rattle.radius_search.proofs.FrontLaws.{centres_few}
use Rattle.validity.specs.Memory.{State, is_dataset, study_of, contents_of}
use Rattle.validity.proofs.Proofs.{for_datasets}
use Rattle.access.specs.Calls.{held, Output, first_list, Call, told, answer, output, reply}
use Rattle.access.specs.Calls.{lent as lent_to}
use Rattle.access.proofs.AccessLaws.{output_is, unwritten, inquiry_accepted, inquiry_passed, writes, reply_tells}
use Rattle.study_file.specs.Calls.{write_reasons, written_of, writes_file}
use Rattle.file_fields.proofs.Lengths.{length_sum}
use Rattle.blocking.specs.Calls.{all_three, counted_reply, finds_centres, judges_list, judged_reply}
use Rattle.narrowing.specs.Narrowing.{narrow_dataset}
use Rattle.storage.proofs.PlaceLaws.{front_copied}
use Rattle.c_records.specs.Record.{Lent, record_size, dataset_of, state_in, code}
use Rattle.c_records.specs.Records.{Narrow}
use Rattle.c_records.proofs.RecordLaws.{with_record, front_written}
use Rattle.c_records.proofs.CodeLaws.{small, inquiry_narrow}
use Rattle.c_api.specs.Api.{room_first, lacks, c_verdict, c_output, c_result}
use Rattle.c_api.proofs.CallLaws.{lacks_no, none_short, same_answer, same_output, too_short}

-- numbers, copied to the front
pub front_over : (xs old : List ℕ) → take (length xs) xs ++ drop (length xs) old ≡ over xs old
front_over xs old = front_copied (length xs) xs old (le_refl (length xs)) ∙ front_written xs old

-- one number, written
pub first_set : (n : ℕ) (old : List ℕ) → 1 ≤ length old → set old 0 n ≡ over (n ∷ []) old
first_set n [] h = absurd (omega arith)
first_set n (x ∷ xs) h = refl

-- ---- what a reply tells of answer and output

module _ (s : State) (c : Call) where
  pub reply_why : {y : Numbered} → refusal y ≡ reply s c → answer s c ≡ refused y
  unfolding reply
  reply_why e = reply_refused (answer s c) (output s c).numbers e

  pub reply_numbers : {xs : List ℕ} → value xs ≡ reply s c → (answer s c ≡ accepted) × ((output s c).numbers ≡ xs)
  unfolding reply
  reply_numbers e = let w = reply_value (answer s c) (output s c).numbers e in (w.0, sym w.1)

-- ---- any call that only reads

-- r is the record in l as the code holds it, and a list of fixed size has its m places
pub record Reads (l : Lent) (r : Dataset) (m : ℕ) (fixed : List ℕ) : Type 0 where
  pub room : record_size ≤ length l.numbers
  pub enough : m ≤ length fixed
  pub held : r ≡ narrow_dataset (dataset_of l.numbers)

-- then what the call answers and writes of that record is what it does of the record itself
module _ {l : Lent} {r : Dataset} {m : ℕ} {fixed : List ℕ} (R : Reads l r m fixed) (c : Call) where
  whole : answer (state_in l) c ≡ c_verdict l (lacks m fixed) c
  unfolding c_verdict room_first
  whole = rw (none_short l.numbers R.room (lacks_no m fixed R.enough))

  pub code_own : {y : Verdict} → answer (with_record l r) c ≡ y → code y ≡ code (c_verdict l (lacks m fixed) c)
  code_own q = ap code (sym q ∙ same_answer l R.held c ∙ whole)

  pub output_own : output (with_record l r) c ≡ c_output l (lacks m fixed) c
  unfolding c_output
  output_own =
      same_output l R.held c ∙ output_is (state_in l) c ∙ ap (λ v. settled v (told (held (state_in l)) c) (lent_to c)) whole

-- what a call is lent: no numbers, and x of the lists, by what its contract says of them (f)
pub record LentLists {A : Type 0} (f : List (List ℕ) → A) (c : Call) (x : A) : Type 0 where
  pub none : (lent_to c).numbers ≡ []
  pub lists : x ≡ f (lent_to c).lists

-- a call that answers m numbers, into a result
module _ {A : Type 0} {f : List (List ℕ) → A} {c : Call} {x₀ : A} (L : LentLists f c x₀) (m : ℕ) (l : Lent) (result : List ℕ) where
  -- it answers the code n, and leaves x of the lists, and this result
  abbrev pub Answered : ℕ → A → List ℕ → Type 0
  Answered n x new = (n ≡ code (c_verdict l (lacks m result) c)) × ((x ≡ f (c_output l (lacks m result) c).lists) × (new ≡ c_result m l c result))

  -- a list of fixed size is too short
  pub answered_short : lacks record_size l.numbers || lacks m result ≡ true → Answered 1 x₀ result
  unfolding c_result
  answered_short h =
      let e = too_short l (lacks m result) c h in
      let o = sym e.2 in (
        ap code (sym e.0),
        (L.lists ∙ ap (λ (o : Output). f o.lists) o, ap (λ xs. over xs result) (sym L.none ∙ ap (λ (o : Output). o.numbers) o)),
      )

  -- what it answers of the record as the code holds it
  module _ {r : Dataset} (R : Reads l r m result) {x : A} (t : x ≡ f (output (with_record l r) c).lists) where
    lists_own : x ≡ f (c_output l (lacks m result) c).lists
    lists_own = t ∙ ap (λ (o : Output). f o.lists) (output_own R c)

    result_own : {xs new : List ℕ} → (output (with_record l r) c).numbers ≡ xs → new ≡ over xs result → new ≡ c_result m l c result
    unfolding c_result
    result_own e q = q ∙ ap (λ ys. over ys result) (sym e ∙ ap (λ (o : Output). o.numbers) (output_own R c))

    pub answered_refused : {y : Numbered} {n : ℕ} → answer (with_record l r) c ≡ refused y → n ≡ code (refused y) → Answered n x result
    answered_refused e q =
        let nothing = ap (λ (o : Output). o.numbers) (sym (unwritten (with_record l r) c (sym e))) ∙ L.none in
        (q ∙ code_own R c e, (lists_own, result_own nothing refl))

    pub answered_done : {xs new : List ℕ} → (answer (with_record l r) c ≡ accepted) × ((output (with_record l r) c).numbers ≡ xs) → new ≡ over xs result
        → Answered 0 x new
    answered_done e q = (code_own R c e.0, (lists_own, result_own e.1 q))

-- one number, into a result of one place
module _ {A : Type 0} {f : List (List ℕ) → A} {c : Call} {x₀ : A} (L : LentLists f c x₀) (l : Lent) (result : List ℕ)
    {r : Dataset} (R : Reads l r 1 result) {x : A} (t : x ≡ f (output (with_record l r) c).lists) where
  pub answered_one : {n : ℕ} → (answer (with_record l r) c ≡ accepted) × ((output (with_record l r) c).numbers ≡ n ∷ [])
      → Answered L 1 l result 0 x (set result 0 n)
  answered_one {n} e = answered_done L 1 l result R t e (first_set n result R.enough)

-- of the lists of a call that is lent none
abbrev pub nothing : List (List ℕ) → Unit {0}
nothing ls = tt

-- the same of such a call: numbers alone, copied to the front
module _ {c : Call} (L : LentLists nothing c tt) (m : ℕ) (l : Lent) (result : List ℕ) where
  abbrev pub NumbersAnswered : ℕ → List ℕ → Type 0
  NumbersAnswered n new = (n ≡ code (c_verdict l (lacks m result) c)) × (new ≡ c_result m l c result)

  pub numbers_short : lacks record_size l.numbers || lacks m result ≡ true → NumbersAnswered 1 result
  numbers_short h = let a = answered_short L m l result h in (a.0, a.1.1)

  module _ {r : Dataset} (R : Reads l r m result) where
    pub numbers_refused : {y : Numbered} {n : ℕ} → answer (with_record l r) c ≡ refused y → n ≡ code (refused y) → NumbersAnswered n result
    numbers_refused e q = let a = answered_refused L m l result R refl e q in (a.0, a.1.1)

    pub numbers_done : {xs new : List ℕ} → (answer (with_record l r) c ≡ accepted) × ((output (with_record l r) c).numbers ≡ xs)
        → new ≡ take (length xs) xs ++ drop (length xs) result → NumbersAnswered 0 new
    numbers_done {xs} e q = let a = answered_done L m l result R refl e (q ∙ front_over xs result) in (a.0, a.1.1)

-- ---- Centres

module _ (g : ℕ) (lists : CentreLists) where
  pub centres_lent : LentLists (λ ls. ls) (finds_centres g lists) (all_three lists)
  unfolding finds_centres lent_to
  centres_lent = record { none = refl; lists = refl }

  module _ (s : State) where
    pub centres_narrow : Narrow (answer s (finds_centres g lists))
    unfolding finds_centres centres_reasons
    centres_narrow = inquiry_narrow s _ (small tt, (small tt, tt))

    module _ (a : Result ℕ Refusal) (p : counted_reply a ≡ reply s (finds_centres g lists)) where
      pub centres_why : {why : Refusal} → a ≡ Err why → answer s (finds_centres g lists) ≡ refused (numbered why)
      centres_why e = reply_why s (finds_centres g lists) (sym (ap counted_reply e) ∙ p)

      pub centres_why_narrow : {why : Refusal} → a ≡ Err why → Narrow (refused (numbered why))
      centres_why_narrow e = subst Narrow (centres_why e) centres_narrow

      module _ {count : ℕ} (e : a ≡ Ok count) where
        pub count_told : (answer s (finds_centres g lists) ≡ accepted) × ((output s (finds_centres g lists)).numbers ≡ count ∷ [])
        count_told = reply_numbers s (finds_centres g lists) (sym (ap counted_reply e) ∙ p)

        counted : count ≡ length (centre_numbers (study_of s) g)
        unfolding finds_centres contents_of
        counted =
            let done = count_told.0 in
            ap (λ (l : List ℕ). get_or l 0 0)
            (sym count_told.1 ∙ ap (λ (o : Output). o.numbers) (sym (writes s _ (inquiry_passed s _ done) (sym done))))

        pub count_fits : count < 65536
        unfolding finds_centres contents_of centre_numbers centres problem
        count_fits =
            let A = inquiry_accepted s _ count_told.0 in
            omega (
              arith,
              counted,
              length-map (centres (problem (study_of s)) g) suc,
              centres_few (distance (study_of s)) g (size (study_of s)),
              (for_datasets.valid s (true-T (is_dataset s) A.tested)).study.few,
            )

-- ---- Judge

module _ (list : List ℕ) where
  pub judge_lent : LentLists nothing (judges_list list) tt
  unfolding judges_list lent_to
  judge_lent = record { none = refl; lists = refl }

  module _ (s : State) (j : Result (Option ℕ) Refusal) (p : judged_reply j ≡ reply s (judges_list list)) where
    pub judge_why : {why : Refusal} → j ≡ Err why → answer s (judges_list list) ≡ refused (numbered why)
    judge_why e = reply_why s (judges_list list) (sym (ap judged_reply e) ∙ p)

    pub judge_narrow : {why : Refusal} → j ≡ Err why → Narrow (refused (numbered why))
    unfolding judges_list judge_reasons
    judge_narrow e = subst Narrow (judge_why e) (inquiry_narrow s _ (small tt, (small tt, tt)))

    pub judge_numbers : {k : Result (Option ℕ) Refusal} {xs : List ℕ} → j ≡ k → judged_reply k ≡ value xs
        → (answer s (judges_list list) ≡ accepted) × ((output s (judges_list list)).numbers ≡ xs)
    judge_numbers e v = reply_numbers s (judges_list list) (sym v ∙ sym (ap judged_reply e) ∙ p)

-- ---- Write

module _ (file : List ℕ) where
  pub write_lent : LentLists first_list (writes_file file) file
  unfolding writes_file lent_to
  write_lent = record { none = refl; lists = refl }

  module _ (s : State) where
    length_fits : answer s (writes_file file) ≡ accepted → length (file_of (contents_of s)) < 4294967296
    unfolding writes_file byte_length
    length_fits a =
        let A = inquiry_accepted s _ a in
        let ok : ValidContents (contents_of s) = for_datasets.valid s (true-T (is_dataset s) A.tested) in
        let most = (length_sum 4 (contents_of s).study.k (size (contents_of s).study) (lit≤ tt) ok.study.k_high ok.study.few).most in
        omega (arith, files.file_length (contents_of s) ok)

    module _ (w : Result ℕ Refusal) (p : written_of w ≡ reply s (writes_file file)) where
      pub write_why : {why : Refusal} → w ≡ Err why → answer s (writes_file file) ≡ refused (numbered why)
      write_why e = reply_why s (writes_file file) (sym (ap written_of e) ∙ p)

      pub why_narrow : {why : Refusal} → w ≡ Err why → Narrow (refused (numbered why))
      unfolding writes_file write_reasons
      why_narrow e = subst Narrow (write_why e) (inquiry_narrow s _ (small tt, tt))

      pub write_numbers : {n : ℕ} → w ≡ Ok n → (answer s (writes_file file) ≡ accepted) × ((output s (writes_file file)).numbers ≡ n ∷ [])
      write_numbers e = reply_numbers s (writes_file file) (sym (ap written_of e) ∙ p)

      pub size_fits : {n : ℕ} → w ≡ Ok n → n < 4294967296
      unfolding writes_file
      size_fits {n} e =
          let q = reply_value (answer s (writes_file file)) (length (file_of (contents_of s)) ∷ []) (sym (ap written_of e) ∙ p ∙ reply_tells s _) in
          let same : n ≡ length (file_of (contents_of s)) = cc in
          omega (arith, same, length_fits q.0)
