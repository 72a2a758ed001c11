-- What a search may assume stays while lengths do. Assumes nothing.
use Prim.Native.Nat.{ℕ}
use native.Mathlib.Omega.{arith}
use mathlib.Core.Path.{◌≡◌}
use mathlib.Core.List.{List}
use lib.ListN.{length}
use Rattle.promise.specs.Promise.{Room}

-- another table and list of the same lengths
pub room_on : {n blocks : ℕ} {old new list list' : List ℕ} → Room n blocks old list → length new ≡ length old → length list' ≡ length list
    → Room n blocks new list'
room_on R e q =
    record { few_blocks = R.few_blocks; allowed_long = omega (arith, R.allowed_long); list_long = omega (arith, R.list_long) }
