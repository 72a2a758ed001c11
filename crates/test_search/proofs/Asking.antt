-- A drawn question is one that `search` may be asked. Assumes nothing.
use Rattle.std.proofs.Common.{◌≡◌, ℕ, ◌+◌, ◌-◌, ◌<◌, ◌≤◌, List, [], ◌∷◌, length, arith}
use Rattle.lists.specs.Lists.{sum_below}
use Rattle.promise.specs.Promise.{Able}
use Rattle.study.specs.declared.Minima.{Minima}
use Rattle.test_search.specs.Ranges.{AllBetween, Modest}

pub modest : (b0 x y z : ℕ) → b0 < 3 → x < b0 + 1 → y < b0 - x + 1 → z < b0 - x - y + 1
    → Modest (record { b0 = b0; b = x ∷ y ∷ z ∷ 0 ∷ 0 ∷ 0 ∷ 0 ∷ 0 ∷ [] })
unfolding sum_below
modest b0 x y z a b c d = record { small = omega arith; fit = omega arith }

pub posed_able : (n : ℕ) (M : Minima) (settings : List ℕ) → n ≤ 6 → Modest M → length settings ≡ 6 → AllBetween 1 8 settings
    → Able M n settings
posed_able n M settings few modest six valid =
    let c = modest.small in
    record {
      small = omega arith;
      fit = modest.fit;
      settings_long = omega arith;
      setting_low = λ t l. (valid t (omega arith)).above;
      setting_high = λ t l. (valid t (omega arith)).below;
    }
