-- How far Read got. Assumes nothing.
use Rattle.std.specs.Prelude.{ℕ, ◌≡◌, Result, Ok}
use Rattle.study.specs.declared.Refusal.{Refusal}
use Rattle.bit_reader.specs.declared.Place.{Place}
use Rattle.bit_reader.specs.Fields.{BitsRead}

-- to a place at which n bits are read
pub record ReadTo (n : ℕ) (r : Result Unit Refusal) (p : Place) : Type 0 where
  pub is : r ≡ Ok tt
  pub here : BitsRead p n
