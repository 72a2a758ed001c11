-- A test of the first items of a slice, as `all` answers it. Assumes nothing.
use Prim.Native.Nat.{ℕ, zero, suc, ◌≤◌}
use native.Mathlib.Omega.{arith}
use mathlib.Core.Path.{◌≡◌, refl, sym, ap, ◌∙◌}
use mathlib.Core.Bool.{Bool, true, false, ◌&&◌}
use mathlib.Core.List.{List, [], ◌∷◌}
use lib.ListN.{length, get_or, take}
use Rattle.std.specs.List.{list_all}
use Rattle.lists.specs.Lists.{every}

-- the first number apart
every_first : (n : ℕ) (p : ℕ → Bool) → every (suc n) p ≡ p 0 && every n (λ t. p (suc t))
unfolding every
every_first zero p = only (p 0)
  where
    only : (a : Bool) → true && a ≡ a && true
    only true = refl
    only false = refl
every_first (suc n) p = ap (λ a. a && p (suc n)) (every_first n p) ∙ later (p 0) (every n (λ t. p (suc t))) (p (suc n))
  where
    later : (a b c : Bool) → (a && b) && c ≡ a && (b && c)
    later true b c = refl
    later false b c = refl

pub every_all : (p : ℕ → Bool) (n : ℕ) (xs : List ℕ) → n ≤ length xs → list_all p (take n xs) ≡ every n (λ t. p (get_or xs t 0))
unfolding every
every_all p zero xs h = refl
every_all p (suc n) [] h = absurd (omega arith)
every_all p (suc n) (x ∷ xs) h =
    ap (λ a. p x && a) (every_all p n xs (omega arith)) ∙ sym (every_first n (λ t. p (get_or (x ∷ xs) t 0)))
