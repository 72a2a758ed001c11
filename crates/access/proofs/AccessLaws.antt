-- What every call begins with, and what follows for each of the three kinds: of what the code has found out, what the call answers, leaves and
-- tells. Assumes nothing.
use Prim.Native.Nat.{ℕ, ◌≤◌}
use native.Mathlib.Omega.{arith}
use mathlib.Core.Path.{◌≡◌, refl, sym, ap, ◌∙◌}
use mathlib.Core.Bool.{Bool, true, false, cond, not}
use mathlib.Core.List.{List, [], ◌∷◌}
use mathlib.Core.Option.{none, some}
use lib.Dec.{T, leb}
use borrow.Author.Tests.{le-leb}
use Rattle.lists.specs.Lists.{all_of}
use Rattle.lists.proofs.Tests.{T_true, T-left, true-T, between-T}
use Rattle.lists.proofs.Scans.{test_passes, test_fails}
use Rattle.study.specs.declared.Refusal.{Refusal}
use Rattle.std.specs.Prelude.{Result, Ok, Err}
use Rattle.study.specs.Refusals.{numbered, number, Numbered, Verdict, accepted, refused, verdict_of, settled, value, refusal, replied, Reason, first_of}
use Rattle.study.specs.Refusals.{fresh_reasons, is_user, held_reasons}
use Rattle.study.specs.Study.{Contents}
use Rattle.study.specs.Theorems.{ValidContents}
use Rattle.study.proofs.LadderLaws.{Accepts, ladder_accepts, ladder_refuses}
use Rattle.validity.specs.Memory.{State, short, is_dataset, contents_of, stored}
use Rattle.validity.proofs.ValidityLaws.{is_dataset-T, valid_contents}
use Rattle.validity.proofs.LayoutLaws.{long}
use Rattle.validity.proofs.Proofs.{for_datasets}
use Rattle.access.specs.Calls.{Caller, nobody, the_user, Source, Update, Output, Inquiry, Call, begins, changes, asks, Holding, holding_of, held, on_held}
use Rattle.access.specs.Calls.{reasons, verdict, lent, told, learnt, response, answer, reply, output, made, after}
use Rattle.access.specs.Passed.{Passed, held_answer}

-- ---- what record and memory hold

pub held_dataset : (s : State) → short s ≡ false → is_dataset s ≡ true → held s ≡ some (holding_of s)
unfolding held
held_dataset s e f = rw (e, f)

-- ---- with what every call begins

module _ (s : State) where
  -- a call in this caller's name
  module _ (by : Caller) (own : Holding → List Reason) where
    -- by the tests that the code makes
    abbrev pub ladder : Verdict
    ladder = first_of (held_reasons (short s) by.users (is_dataset s) (own (holding_of s)))

    pub ladder_is : ladder ≡ held_answer s by own
    unfolding held_answer held held_reasons fresh_reasons first_of
    ladder_is = cases (short s) (is_dataset s)
      where
        cases : (a b : Bool)
            → first_of (held_reasons a by.users b (own (holding_of s)))
            ≡ first_of (on_held a by (cond a none (cond b (some (holding_of s)) none)) own)
        cases true b = refl
        cases false true = refl
        cases false false = refl

    pub held_1 : short s ≡ true → refused (number 1) ≡ held_answer s by own
    unfolding held_reasons fresh_reasons first_of
    held_1 e = (let q : refused (number 1) ≡ ladder = rw e in q) ∙ ladder_is

    pub held_14 : short s ≡ false → all_of is_user by.users ≡ false → refused (number 14) ≡ held_answer s by own
    unfolding held_reasons fresh_reasons first_of
    held_14 e u = (let q : refused (number 14) ≡ ladder = rw (e, u) in q) ∙ ladder_is

    pub held_21 : short s ≡ false → all_of is_user by.users ≡ true → is_dataset s ≡ false → refused (number 21) ≡ held_answer s by own
    unfolding held_reasons fresh_reasons first_of
    held_21 e u f = (let q : refused (number 21) ≡ ladder = rw (e, u, f) in q) ∙ ladder_is

    pub users_own : short s ≡ false → all_of is_user by.users ≡ true → is_dataset s ≡ true → first_of (own (holding_of s)) ≡ held_answer s by own
    unfolding held_reasons fresh_reasons first_of
    users_own e u f = (let q : first_of (own (holding_of s)) ≡ ladder = rw (e, u, f) in q) ∙ ladder_is

    -- what an accepted call tells
    abbrev pub HeldAccepted : Type 0
    HeldAccepted = Accepts (short s) by.users (is_dataset s) (own (holding_of s))

    pub accepted_held : held_answer s by own ≡ accepted → HeldAccepted
    accepted_held e = ladder_accepts (short s) by.users (is_dataset s) (own (holding_of s)) (ladder_is ∙ e)

  -- what refuses before the call's own reasons refuses the call
  pub held_refused : (by : Caller) (own : Holding → List Reason) {x : Numbered} → refused x ≡ held_answer s by (λ _. []) → refused x ≡ held_answer s by own
  held_refused by own e =
      sym (ladder_refuses (short s) by.users (is_dataset s) (own (holding_of s)) (ladder_is by (λ _. []) ∙ sym e)) ∙ ladder_is by own

  -- past the ladder, the own reasons of one that names none answer
  pub held_own : (own : Holding → List Reason) → short s ≡ false → is_dataset s ≡ true → first_of (own (holding_of s)) ≡ held_answer s nobody own
  held_own own e f = users_own nobody own e refl f

  pub passed_by : short s ≡ false → is_dataset s ≡ true → Passed s
  passed_by e f = record { not_short = e; tested = f; study = ((is_dataset-T s).0 (true-T (is_dataset s) f)).study; long = long s e }

  pub passed : {a : Result Unit Refusal} {done : Unit} (by : Caller) → a ≡ Ok done → verdict_of a ≡ held_answer s by (λ _. []) → Passed s
  passed by e f = let h = accepted_held by (λ _. []) (sym (sym (ap verdict_of e) ∙ f)) in passed_by h.not_short h.tested

-- so its contents are valid
pub passed_valid : (s : State) → Passed s → ValidContents (contents_of s)
passed_valid s P = valid_contents s ((is_dataset-T s).0 (true-T (is_dataset s) P.tested))

-- and valid contents laid out are a dataset
pub stored_passed : (H : Contents) (s : State) → short s ≡ false → ValidContents H → Passed (stored H s)
stored_passed H s e ok = passed_by (stored H s) (for_datasets.as_long H s e ∙ e) (T_true (is_dataset (stored H s)) (for_datasets.laid_out H s ok))

-- ---- a call that names a user

pub one_user : (u : ℕ) → T (is_user u) → all_of is_user (u ∷ []) ≡ true
one_user u k = rw (T_true (is_user u) k)

pub user_known : (u : ℕ) → all_of is_user (u ∷ []) ≡ true → T (is_user u)
user_known u e = T-left (is_user u) true (true-T (all_of is_user (u ∷ [])) e)

-- as the code tests it
pub user_by : (u : ℕ) {n : ℕ} → n ≡ u → 1 ≤ u → leb n 4 ≡ is_user u
user_by u e l = rw (e, le-leb 1 u l)

-- its place among the users
pub user_place : (u : ℕ) → T (is_user u) → (1 ≤ u) × (u ≤ 4)
user_place u k = (between-T 1 4 u).0 k

-- what the tests before 21 answer of one user
module _ (s : State) (u : ℕ) where
  pub user_1 : short s ≡ true → refused (number 1) ≡ held_answer s (the_user u) (λ _. [])
  user_1 e = held_1 s (the_user u) (λ _. []) e

  pub user_14 : {r : Bool} → short s ≡ false → r ≡ is_user u → not r ≡ true → refused (number 14) ≡ held_answer s (the_user u) (λ _. [])
  user_14 e p q = held_14 s (the_user u) (λ _. []) e (rw (test_fails p q))

  -- a user changes nothing of what follows
  pub user_passes : {r : Bool} → short s ≡ false → r ≡ is_user u → not r ≡ false → held_answer s nobody (λ _. []) ≡ held_answer s (the_user u) (λ _. [])
  unfolding held_reasons fresh_reasons first_of
  user_passes e p q =
      sym (ladder_is s nobody (λ _. [])) ∙ (let z : ladder s nobody (λ _. []) ≡ ladder s (the_user u) (λ _. []) = rw (e, test_passes p q) in z)
      ∙ ladder_is s (the_user u) (λ _. [])

  pub known_user : {a : Result Unit Refusal} {done : Unit} → a ≡ Ok done → verdict_of a ≡ held_answer s (the_user u) (λ _. []) → T (is_user u)
  known_user e f = user_known u (accepted_held s (the_user u) (λ _. []) (sym (sym (ap verdict_of e) ∙ f))).known

-- ---- any call

module _ (s : State) (c : Call) where
  pub answer_is : answer s c ≡ verdict (short s) (held s) c
  unfolding answer response learnt
  answer_is = refl

  pub output_is : output s c ≡ settled (answer s c) (told (held s) c) (lent c)
  unfolding output answer response learnt
  output_is = refl

  -- a refused call leaves record and memory
  pub unmoved : {x : Numbered} → refused x ≡ answer s c → s ≡ after s c
  unfolding after
  unmoved e = ap (λ w. settled w (made s c) s) e

  -- and an accepted one what it makes of them
  pub leaves : accepted ≡ answer s c → made s c ≡ after s c
  unfolding after
  leaves e = ap (λ w. settled w (made s c) s) e

  -- a refused call answers no numbers, and leaves what it was lent
  module _ {x : Numbered} (e : refused x ≡ answer s c) where
    pub replies_refusal : refusal x ≡ reply s c
    unfolding reply
    replies_refusal = ap (λ w. replied w (output s c).numbers) e

    pub unwritten : lent c ≡ output s c
    unwritten = ap (λ w. settled w (told (held s) c) (lent c)) e ∙ sym output_is

-- ---- the three kinds

module _ (s : State) where
  -- a call that begins anew
  module _ (S : Source) where
    pub source_answer : answer s (begins S) ≡ first_of (fresh_reasons (short s) S.own)
    unfolding answer response learnt verdict reasons
    source_answer = refl

    pub source_short : short s ≡ true → refused (number 1) ≡ answer s (begins S)
    unfolding fresh_reasons first_of
    source_short e = ap (λ b. cond b (refused (number 1)) (first_of S.own)) (sym e) ∙ sym source_answer

    pub source_own : short s ≡ false → first_of S.own ≡ answer s (begins S)
    unfolding fresh_reasons first_of
    source_own e = ap (λ b. cond b (refused (number 1)) (first_of S.own)) (sym e) ∙ sym source_answer

    pub source_accepted : answer s (begins S) ≡ accepted → (short s ≡ false) × (first_of S.own ≡ accepted)
    source_accepted e = by (short s) refl
      where
        by : (b : Bool) → short s ≡ b → (short s ≡ false) × (first_of S.own ≡ accepted)
        by true p = let q = source_short p ∙ e in absurd (let z : ◌≡◌ {A = ℕ} 0 1 = cc in omega arith)
        by false p = (p, source_own p ∙ e)

  -- the answer of a call on a dataset
  pub update_answer : (U : Update) → answer s (changes U) ≡ held_answer s U.caller U.own
  unfolding answer response learnt verdict reasons held_answer
  update_answer U = refl

  pub inquiry_answer : (Q : Inquiry) → answer s (asks Q) ≡ held_answer s Q.caller Q.own
  unfolding answer response learnt verdict reasons held_answer
  inquiry_answer Q = refl

  -- past the ladder, its own reasons answer
  pub update_own : (U : Update) → Passed s → all_of is_user U.caller.users ≡ true → first_of (U.own (holding_of s)) ≡ answer s (changes U)
  update_own U P u = users_own s U.caller U.own P.not_short u P.tested ∙ sym (update_answer U)

  pub inquiry_own : (Q : Inquiry) → Passed s → all_of is_user Q.caller.users ≡ true → first_of (Q.own (holding_of s)) ≡ answer s (asks Q)
  inquiry_own Q P u = users_own s Q.caller Q.own P.not_short u P.tested ∙ sym (inquiry_answer Q)

  -- what refuses before a call's own reasons refuses the call
  pub update_refused : (U : Update) {r : Result Unit Refusal} {x : Refusal} → r ≡ Err x → refused (numbered x) ≡ held_answer s U.caller (λ _. [])
      → (verdict_of r ≡ answer s (changes U)) × (s ≡ after s (changes U))
  update_refused U e f =
      let g = held_refused s U.caller U.own f ∙ sym (update_answer U) in (ap verdict_of e ∙ g, unmoved s (changes U) g)

  pub update_accepted : (U : Update) → answer s (changes U) ≡ accepted → HeldAccepted s U.caller U.own
  update_accepted U e = accepted_held s U.caller U.own (sym (update_answer U) ∙ e)

  pub inquiry_accepted : (Q : Inquiry) → answer s (asks Q) ≡ accepted → HeldAccepted s Q.caller Q.own
  inquiry_accepted Q e = accepted_held s Q.caller Q.own (sym (inquiry_answer Q) ∙ e)

  pub inquiry_passed : (Q : Inquiry) → answer s (asks Q) ≡ accepted → Passed s
  inquiry_passed Q e = let h = inquiry_accepted Q e in passed_by s h.not_short h.tested

  -- an accepted inquiry answers and writes what it tells of what is held
  module _ (Q : Inquiry) (P : Passed s) (e : accepted ≡ answer s (asks Q)) where
    pub writes : Q.tells (holding_of s) ≡ output s (asks Q)
    unfolding told lent
    writes =
        sym (rw (held_dataset s P.not_short P.tested)) ∙ ap (λ w. settled w (told (held s) (asks Q)) Q.lent) e
        ∙ sym (output_is s (asks Q))

    pub replies : value (Q.tells (holding_of s)).numbers ≡ reply s (asks Q)
    unfolding reply
    replies = ap (λ (o : Output). value o.numbers) writes ∙ ap (λ w. replied w (output s (asks Q)).numbers) e

  -- what an inquiry answers and writes, by its verdict and what is held
  module _ (Q : Inquiry) where
    pub reply_tells : reply s (asks Q) ≡ replied (answer s (asks Q)) (Q.tells (holding_of s)).numbers
    unfolding reply
    reply_tells = by (answer s (asks Q)) refl
      where
        by : (v : Verdict) → answer s (asks Q) ≡ v → replied v (output s (asks Q)).numbers ≡ replied v (Q.tells (holding_of s)).numbers
        by accepted e = ap (λ (o : Output). value o.numbers) (sym (writes Q (inquiry_passed Q e) (sym e)))
        by (refused x) e = refl

    pub output_tells : output s (asks Q) ≡ settled (answer s (asks Q)) (Q.tells (holding_of s)) Q.lent
    unfolding lent
    output_tells = by (answer s (asks Q)) refl
      where
        by : (v : Verdict) → answer s (asks Q) ≡ v → output s (asks Q) ≡ settled v (Q.tells (holding_of s)) Q.lent
        by accepted e = sym (writes Q (inquiry_passed Q e) (sym e))
        by (refused x) e = sym (unwritten s (asks Q) (sym e))
