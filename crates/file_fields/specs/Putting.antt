-- Fields written after fields over the front of old bytes, and that all fields of contents write their file. Assumes nothing.
use Rattle.std.specs.Prelude.{ℕ, ◌+◌, ◌*◌, ◌^◌, ◌≤◌, ◌<◌, List, [], ◌∷◌, length}
use Rattle.lists.specs.Lists.{at}
use Rattle.study.specs.Limits.{max_tides, table_size, max_users}
use Rattle.study.specs.declared.Dataset.{Dataset}
use Rattle.study.specs.Study.{Contents}
use Rattle.file_format.specs.Bits.{Field, field, all_bits}
use Rattle.file_format.specs.File.{new_mark, fields, bit_length}
use Rattle.validity.specs.Memory.{State}
use Rattle.validity.specs.Validity.{IsStudy, Long}
use Rattle.file_fields.specs.Writing.{Adds}

-- what the writer asks of record, memory and file
pub record Writable (σ : State) (file : List ℕ) : Type 0 where
  pub study : IsStudy σ
  pub long : Long σ
  pub room : bit_length max_users σ.dataset.k σ.dataset.n ≤ 8 * length file

-- what it asks for tide t: memory holds the tide, its setting is not 0, and its fields from a position on are inside the file s
pub record TideInside (s distances settings : List ℕ) (start t : ℕ) : Type 0 where
  pub few : t < max_tides
  pub long : table_size ≤ length distances
  pub held : t < length settings
  pub set : 1 ≤ at settings t
  pub inside : start + (3 + 20 * t) ≤ 8 * length s
  pub low : start < 2 ^ 61

-- n fields of w bits from a position on are inside the file s
pub record RunInside (s : List ℕ) (start w n : ℕ) : Type 0 where
  pub narrow : w ≤ 20
  pub inside : start + w * n ≤ 8 * length s
  pub low : start + w * n < 2 ^ 63

-- s' is s with the fields fs written at a position
abbrev pub PutFields : List ℕ → ℕ → List Field → List ℕ → Type 0
PutFields s at fs s' = Adds s at (all_bits fs) s'

-- the fields before the counts: mark, number of tides, k and b0
unfoldable pub head_fields : Dataset → List Field
head_fields r = field 8 new_mark ∷ field 7 r.n ∷ field 4 r.k ∷ field 7 r.minima.b0 ∷ []

-- all fields of the file of given contents
abbrev pub file_fields : Contents → List Field
file_fields H = fields new_mark H.withdrawals H.study
