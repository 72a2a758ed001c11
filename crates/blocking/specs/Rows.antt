-- The rows of numbers that the core of Block hands back, and the records that they stand for. Assumes nothing.
use Rattle.std.specs.Prelude.{◌≡◌, ℕ, ◌≤◌, List, length, replicate, slice_index, Result, Ok, Err}
use Rattle.lists.specs.Lists.{overwrite}
use Rattle.study.specs.Limits.{max_tides}
use Rattle.study.specs.declared.BlockRecord.{BlockRecord}
use Rattle.study.specs.declared.Refusal.{Refusal}
use Rattle.study.specs.Refusals.{numbered, Reply, value, refusal}
use Rattle.validity.specs.Memory.{State}
use Rattle.blocking.specs.declared.block.BlockRows.{BlockRows}
use Rattle.blocking.specs.declared.block.Computed.{Computed}
use Rattle.access.specs.Calls.{Call, records_after}
use Rattle.blocking.specs.Calls.{figure_numbers}

-- the record of block i, from 0
abbrev pub row_record : BlockRows → ℕ → BlockRecord
row_record rows i = record { centre = slice_index rows.centres i; tides = slice_index rows.tides i; diameter = slice_index rows.diameters i }

-- a place with no block in it
abbrev pub no_record : BlockRecord
no_record = record { centre = 0; tides = 0; diameter = 0 }

-- as many places as there can be blocks, with none in them
unfoldable pub no_records : List BlockRecord
no_records = replicate max_tides no_record

-- this holds of any records of this number. The core of a call is told no more of the records that its caller lends than how many there are;
-- so what it promises is said of all that they can be
abbrev pub Lending : ℕ → (List BlockRecord → Type 0) → Type 0
Lending room P = (records : List BlockRecord) → length records ≡ room → P records

-- the rows that the core of a call hands back, lent records of this number. Their count and the first `count` places of each are settled,
-- since `records` holds of any l; the places past them are free, and stand in no record
pub record RowsOf (s : State) (call : List BlockRecord → Call) (room : ℕ) (rows : BlockRows) : Type 0 where
  pub fits : rows.count ≤ room
  pub few : rows.count ≤ max_tides
  -- put into the records, they are what the call leaves
  pub records : Lending room (λ l. overwrite rows.count (row_record rows) l ≡ records_after s (call l))

-- what the core of a call leaves in the records that its caller lends: the rows that it hands back; a refused one hands back none, and leaves
-- the records as they were
abbrev pub Leaves : {A : Type 0} → State → (List BlockRecord → Call) → ℕ → (A → BlockRows) → Result A Refusal → Type 0
Leaves s call room rows (Ok x) = RowsOf s call room (rows x)
Leaves s call room rows (Err r) = Lending room (λ l. l ≡ records_after s (call l))

-- the rows that the core of Block hands back
abbrev pub rows_of : Computed → BlockRows
rows_of c = c.rows

-- the numbers of its answer, as of Block's
abbrev pub core_reply : Result Computed Refusal → Reply (List ℕ)
core_reply (Ok c) = value (figure_numbers c.figures)
core_reply (Err r) = refusal (numbered r)
