-- A run of calls for C: each gets record and memory as the last one left them. `tides_mend` has no dataset and is none of them. Assumes
-- nothing.
use Rattle.std.specs.Prelude.{Bool, cond, List, [], ◌∷◌}
use Rattle.guarantee.specs.Runs.{Offered, call_of}
use Rattle.c_records.specs.Record.{Lent}
use Rattle.c_api.specs.Api.{c_left}

-- the call behind, and whether a list of fixed size besides the record is too short
pub record CCall : Type 0 where
  pub few : Bool
  pub call : Offered

-- record and memory after a list of calls
unfoldable pub c_run : Lent → List CCall → Lent
c_run l [] = l
c_run l (c ∷ cs) = c_run (c_left l c.few (call_of c.call)) cs

-- the call that a call for C is: none where a list of fixed size is too short, for then it is refused 1
abbrev pub calls_of : CCall → List Offered
calls_of c = cond c.few [] (c.call ∷ [])
