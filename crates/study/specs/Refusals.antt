-- Refusals by the numbers of documents 01 and 02, and lists of reasons of which the first that holds counts. Assumes nothing.
use Rattle.std.specs.Prelude.{ℕ, ◌≡◌, Bool, true, false, cond, not, List, [], ◌∷◌, ◌++◌, Result, Ok, Err}
use Rattle.lists.specs.Lists.{◌among◌, between, all_of}
use Rattle.study.specs.Limits.{max_users}
use Rattle.study.specs.declared.Refusal.{Refusal}
use Rattle.study.specs.declared.Refusal.TheVariants as RefusalCase

-- a refusal as document 01 gives it: its number alone, or 7 and its pair, lower number first
pub data Numbered : Type 0 where
  number : ℕ → Numbered
  seven : ℕ → ℕ → Numbered

-- whether a call is accepted, or why it is refused
pub data Verdict : Type 0 where
  accepted : Verdict
  refused : Numbered → Verdict

-- the documents' number and values of each refusal of the code
abbrev pub numbered : Refusal → Numbered
numbered RefusalCase.ShortMemory = number 1
numbered RefusalCase.SettingCount = number 2
numbered RefusalCase.Minima = number 3
numbered RefusalCase.RowLength = number 4
numbered RefusalCase.Setting = number 5
numbered RefusalCase.Distance = number 6
numbered (RefusalCase.TriangleInequality i j) = seven i j
numbered RefusalCase.FileLength = number 8
numbered RefusalCase.Mark = number 9
numbered RefusalCase.TideCount = number 10
numbered RefusalCase.FillBits = number 11
numbered RefusalCase.ListLength = number 12
numbered RefusalCase.NotSymmetric = number 13
numbered RefusalCase.NoSuchUser = number 14
numbered RefusalCase.Duplicate = number 15
numbered RefusalCase.Mismatch = number 16
numbered RefusalCase.NoSharedTide = number 17
numbered RefusalCase.NotDataset = number 21
numbered RefusalCase.Full = number 22
numbered RefusalCase.NoSuchTide = number 23
numbered RefusalCase.NoTides = number 24
numbered RefusalCase.TooFewTides = number 25
numbered RefusalCase.WithdrawalLimit = number 26

-- the code's answer, by document 01's number and values
abbrev pub verdict_of : Result Unit Refusal → Verdict
verdict_of (Ok _) = accepted
verdict_of (Err r) = refused (numbered r)

-- what stands after a call: the new where it is accepted, the old where it is refused
abbrev pub settled : {A : Type 0} → Verdict → A → A → A
settled accepted new old = new
settled (refused r) new old = old

-- an answer that carries a value, or the refusal
pub data Reply (A : Type 0) : Type 0 where
  value : A → Reply A
  refusal : Numbered → Reply A

-- the numbers that the value stands for
abbrev pub in_numbers : {A : Type 0} → (A → List ℕ) → Reply A → Reply (List ℕ)
in_numbers f (value x) = value (f x)
in_numbers f (refusal r) = refusal r

-- the value of an accepted call
abbrev pub replied : {A : Type 0} → Verdict → A → Reply A
replied accepted x = value x
replied (refused r) x = refusal r

-- a reason for a refusal: whether it holds, and its number
pub record Reason : Type 0 where
  pub holds : Bool
  pub because : Numbered

infix 20 ◌⇒◌
-- where this holds, refused so
abbrev pub ◌⇒◌ : Bool → Numbered → Reason
b ⇒ r = record { holds = b; because = r }

-- the first reason that holds
unfoldable pub first_of : List Reason → Verdict
first_of [] = accepted
first_of (r ∷ rs) = cond r.holds (refused r.because) (first_of rs)

-- an answer goes by a list of reasons: accepted, and none of them holds; or refused by one that holds, and none before it does
abbrev pub IsFirst : List Reason → Verdict → Type 0
IsFirst rs accepted = (r : Reason) → r among rs → r.holds ≡ false
IsFirst rs (refused x) =
    (before : List Reason) × (r : Reason) × (rest : List Reason)
    × (rs ≡ before ++ (r ∷ rest)) × ((q : Reason) → q among before → q.holds ≡ false) × (r.holds ≡ true) × (r.because ≡ x)

-- ---- the ladder of every call: the reasons that calls share, in the documents' order, and then the call's own

-- Open and Read: short memory (1) first
unfoldable pub fresh_reasons : Bool → List Reason → List Reason
fresh_reasons is_too_short own = (is_too_short ⇒ number 1) ∷ own

-- a user (document 02, 2.7: keeper) is 1 to 4
abbrev pub is_user : ℕ → Bool
is_user u = between 1 max_users u

-- every other call, by the users that it names: short memory (1), a user who is none (14), then what is no dataset (21)
unfoldable pub held_reasons : Bool → List ℕ → Bool → List Reason → List Reason
held_reasons is_too_short users good own = fresh_reasons is_too_short ((not (all_of is_user users) ⇒ number 14) ∷ (not good ⇒ number 21) ∷ own)
