-- Document 02, 2.7: the withdrawals counted for each user (keeper). A stretch of calls begins at the start, and again with every accepted
-- Open, Read or merge; what a user withdraws is counted in it. Assumes nothing.
use Rattle.std.specs.Prelude.{ℕ, Bool, false, List, [], ◌∷◌, ◌++◌, eqb, length}
use Rattle.std.proofs.Math.Option.{Option, none, some}
use Rattle.lists.specs.Lists.{filter}
use Rattle.study.specs.Refusals.{settled}
use Rattle.study.specs.Calls.{count_of}
use Rattle.study.specs.Study.{Contents}
use Rattle.validity.specs.Memory.{State, short}
use Rattle.access.specs.Calls.{Holding, fresh, held, verdict, step}
use Rattle.guarantee.specs.Runs.{Offered, open_with, read_file, merge, set_minima, enter, withdraw, ask, call_of, brings_in}

-- the calls of a list that are accepted, in order
unfoldable pub accepted_calls : Bool → Option Holding → List Offered → List Offered
accepted_calls is_too_short h [] = []
accepted_calls is_too_short h (c ∷ cs) =
    let rest = accepted_calls is_too_short (step is_too_short h (call_of c)) cs in
    settled (verdict is_too_short h (call_of c)) (c ∷ rest) rest

-- what was held where a stretch began, and the accepted calls since
pub record Stretch : Type 0 where
  pub from : Option Holding
  pub calls : List Offered

-- one accepted call more: it belongs to the stretch, or brings something in and begins another
abbrev pub onward : Stretch → Offered → Option Contents → Stretch
onward s c none = record { from = s.from; calls = s.calls ++ (c ∷ []) }
onward s c (some C) = record { from = some (fresh C); calls = [] }

-- along accepted calls
abbrev pub stretch_after : Stretch → List Offered → Stretch
stretch_after s [] = s
stretch_after s (c ∷ cs) = stretch_after (onward s c (brings_in (call_of c))) cs

-- the last stretch: from the start or the last accepted Open, Read or merge, whichever is later
unfoldable pub last_stretch : State → List Offered → Stretch
last_stretch start calls = stretch_after (record { from = held start; calls = [] }) (accepted_calls (short start) (held start) calls)

-- whether a call is a withdrawal by user u
abbrev pub is_withdrawal : ℕ → Offered → Bool
is_withdrawal u (open_with k) = false
is_withdrawal u (read_file file) = false
is_withdrawal u (merge a b firsts seconds) = false
is_withdrawal u (set_minima M) = false
is_withdrawal u (enter setting row) = false
is_withdrawal u (withdraw v t) = eqb v u
is_withdrawal u (ask Q) = false

-- how many withdrawals by user u are among these calls
abbrev pub withdrawals_by : ℕ → List Offered → ℕ
withdrawals_by u calls = length (filter (is_withdrawal u) calls)

-- the count of user u in what is held; 0 where nothing is
abbrev pub count_in : ℕ → Option Holding → ℕ
count_in u none = 0
count_in u (some H) = count_of H.contents.withdrawals u
