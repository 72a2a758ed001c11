-- What the answers of Read's steps are and are not. Assumes nothing.
use Prim.Native.Nat.{ℕ}
use native.Mathlib.Omega.{arith}
use mathlib.Core.Path.{◌≡◌, sym, ◌∙◌}
use Rattle.std.specs.Prelude.{Result, Ok, Err}
use Rattle.study.specs.declared.Refusal.{Refusal}
use Rattle.bit_reader.specs.declared.Place.{Place}
use Rattle.file_fields.specs.Advance.{ReadTo}

module _ {A : Type 0} where
  pub never_err : {x : A} {why : Refusal} → Ok x ≡ Err why → ⊥
  never_err e = let z : ◌≡◌ {A = ℕ} 0 1 = cc in omega arith

  pub same_ok : {x y : A} → ◌≡◌ {A = Result A Refusal} (Ok x) (Ok y) → x ≡ y
  same_ok e = cc

  pub same_err : {why other : Refusal} → ◌≡◌ {A = Result A Refusal} (Err why) (Err other) → why ≡ other
  same_err e = cc

-- what was read is no refusal
pub read_on : {n : ℕ} {r : Result Unit Refusal} {p : Place} {why : Refusal} → ReadTo n r p → r ≡ Err why → ⊥
read_on R e = never_err (sym R.is ∙ e)
