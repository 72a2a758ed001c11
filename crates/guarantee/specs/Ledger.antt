-- Document 01's book in the words of demand 2: the last file's tides, if any, and those entered since, without those withdrawn, in
-- order. The ledger of what came in and what is gone follows from the start and the calls alone. A tide's name is its place, from 0, in
-- the order of arrival; names never change. Assumes nothing.
use Rattle.std.specs.Prelude.{ℕ, ◌-◌, ◌<◌, ◌≡◌, Bool, true, false, cond, not, List, [], ◌∷◌, ◌++◌, map, eqb, length, get_or}
use Rattle.std.proofs.Math.Option.{Option, none, some}
use Rattle.lists.specs.Lists.{iota, count_below, filter}
use Rattle.study.specs.Study.{Tide, Study, size, tide, distance}
use Rattle.study.specs.Refusals.{settled}
use Rattle.file_format.specs.File.{decoded}
use Rattle.validity.specs.Memory.{State, short, contents_of}
use Rattle.access.specs.Calls.{Holding, held, verdict, changing, step}
use Rattle.merge.specs.Merge.{merged}
use Rattle.guarantee.specs.Runs.{Offered, open_with, read_file, merge, set_minima, enter, withdraw, ask, call_of}

-- a tide that came in, by a file, a merge or Enter: its setting, and its distance to the tide of each earlier name
pub record Arrival : Type 0 where
  pub setting : ℕ
  pub far : ℕ → ℕ

-- all that came in, in order, and which names are gone
pub record Ledger : Type 0 where
  pub arrivals : List Arrival
  pub gone : ℕ → Bool

-- where no name stands
unfoldable pub no_arrival : Arrival
no_arrival = record { setting = 0; far = λ m. 0 }

-- the tide of a name
unfoldable pub named : Ledger → ℕ → Arrival
named L m = get_or L.arrivals m no_arrival

-- the names of those that came in, without those withdrawn, in order
unfoldable pub remaining : Ledger → List ℕ
remaining L = filter (λ m. not (L.gone m)) (iota 0 (length L.arrivals))

-- the name of tide t
unfoldable pub name_of : Ledger → ℕ → ℕ
name_of L t = get_or (remaining L) t 0

-- a file's tides; none is gone
unfoldable pub file_ledger : Study → Ledger
file_ledger S = record { arrivals = map (λ (x : Tide). record { setting = x.setting; far = λ m. get_or x.row m 0 }) S.tides; gone = λ m. false }

-- after Open
unfoldable pub empty_ledger : Ledger
empty_ledger = record { arrivals = []; gone = λ m. false }

-- one more, at the row's distances from those that remain, in order: name m has as many of them before it as its place in the row
unfoldable pub with_arrival : ℕ → List ℕ → Ledger → Ledger
with_arrival setting row L =
    record {
      arrivals = L.arrivals ++ (record { setting = setting; far = λ m. get_or row (count_below m (λ j. not (L.gone j))) 0 } ∷ []);
      gone = L.gone;
    }

-- tide number t, from 1, is gone
unfoldable pub with_gone : ℕ → Ledger → Ledger
with_gone t L = record { arrivals = L.arrivals; gone = λ m. cond (eqb m (name_of L (t - 1))) true (L.gone m) }

-- what an accepted call makes of the ledger: Open, Read and a merge begin anew, a merge with the tides of the merged study
unfoldable pub noted : Option Ledger → Offered → Option Ledger
noted l (open_with k) = some empty_ledger
noted l (read_file file) = some (file_ledger (decoded file).study)
noted l (merge a b firsts seconds) = some (file_ledger (merged (contents_of a) (contents_of b) firsts seconds).study)
noted l (set_minima M) = l
noted l (enter setting row) = changing l (with_arrival setting row)
noted l (withdraw u t) = changing l (with_gone t)
noted l (ask Q) = l

-- along the calls; a refused call changes nothing
unfoldable pub note_all : Bool → Option Holding → Option Ledger → List Offered → Option Ledger
note_all is_too_short h l [] = l
note_all is_too_short h l (c ∷ cs) =
    note_all is_too_short (step is_too_short h (call_of c)) (settled (verdict is_too_short h (call_of c)) (noted l c) l) cs

-- a dataset at the start counts as a file's
abbrev pub begun : Option Holding → Option Ledger
begun none = none
begun (some H) = some (file_ledger H.contents.study)

-- the ledger that the start and the calls bring in
unfoldable pub ledger_after : State → List Offered → Option Ledger
ledger_after start calls = note_all (short start) (held start) (begun (held start)) calls

-- a study's tides are exactly those that remain, in order
pub record Exactly (S : Study) (L : Ledger) : Type 0 where
  pub as_many : size S ≡ length (remaining L)
  pub setting : (t : ℕ) → t < size S → (tide S t).setting ≡ (named L (name_of L t)).setting
  pub distances : (u t : ℕ) → u < t → t < size S → distance S u t ≡ (named L (name_of L t)).far (name_of L u)
