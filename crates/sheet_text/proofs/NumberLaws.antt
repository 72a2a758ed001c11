-- The digits of a number, one by one, and how many there are. Assumes nothing.
use Prim.Native.Nat.{ℕ, zero, suc, ◌+◌, ◌/◌, ◌%◌, ◌^◌, ◌≤◌, ◌<◌, zero-le}
use native.Mathlib.Nat.{pow-suc}
use native.Mathlib.Omega.{arith}
use mathlib.Core.Path.{◌≡◌, sym, ap, ◌∙◌}
use mathlib.Core.Logic.{⊎_elim}
use mathlib.Core.List.{[], ◌∷◌, ◌++◌}
use borrow.Author.Tests.{lt-ltb, le-ltb}
use lib.ListN.{length, length-append}
use Rattle.lists.proofs.Tests.{split}
use Rattle.sheet_text.specs.Text.{digit, digits, decimal}

digits_one : (n x : ℕ) → x < 10 → digits (suc n) x ≡ digit x ∷ []
unfolding digits
digits_one n x h = rw (lt-ltb x 10 h)

digits_more : (n x : ℕ) → 10 ≤ x → digits (suc n) x ≡ digits n (x / 10) ++ (digit (x % 10) ∷ [])
unfolding digits
digits_more n x h = rw (le-ltb x 10 h)

tenth : (n x : ℕ) → x < 10 ^ suc n → x / 10 < 10 ^ n
tenth n x h = omega (arith, pow-suc 10 n)

-- more places than digits change nothing
digits_enough : (n x : ℕ) → x < 10 ^ suc n → digits (suc n) x ≡ digits (suc (suc n)) x
digits_enough zero x h = digits_one 0 x h ∙ sym (digits_one 1 x h)
digits_enough (suc n) x h =
    ⊎_elim (λ l. digits_one (suc n) x l ∙ sym (digits_one (suc (suc n)) x l))
    (λ g. digits_more (suc n) x g ∙ ap (λ ds. ds ++ (digit (x % 10) ∷ [])) (digits_enough n (x / 10) (tenth (suc n) x h)) ∙ sym (digits_more (suc (suc n)) x g))
    (split x 10)

digits_short : (n x : ℕ) → x < 10 ^ suc n → (m : ℕ) → length (digits m x) ≤ suc n
unfolding digits
digits_short n x h zero = zero-le
digits_short zero x h (suc m) = rw (digits_one m x h) (omega arith)
digits_short (suc n) x h (suc m) =
    ⊎_elim (λ l. rw (digits_one m x l) (omega arith))
    (λ g. rw (digits_more m x g) (simp length-append (omega (arith, digits_short n (x / 10) (tenth (suc n) x h) m))))
    (split x 10)

-- ---- numbers of the sheet

pub decimal_one : (x : ℕ) → x < 10 → decimal x ≡ digit x ∷ []
unfolding decimal
decimal_one x h = digits_one 9 x h

pub decimal_more : (x : ℕ) → 10 ≤ x → x < 10 ^ 10 → decimal x ≡ decimal (x / 10) ++ (digit (x % 10) ∷ [])
unfolding decimal
decimal_more x h k = digits_more 9 x h ∙ ap (λ ds. ds ++ (digit (x % 10) ∷ [])) (digits_enough 8 (x / 10) (tenth 9 x k))

pub one_length : (x : ℕ) → x < 10 → length (decimal x) ≡ 1
one_length x h = ap length (decimal_one x h)

pub more_length : (x : ℕ) → 10 ≤ x → x < 10 ^ 10 → length (decimal x) ≡ length (decimal (x / 10)) + 1
more_length x h k = ap length (decimal_more x h k) ∙ length-append (decimal (x / 10)) (digit (x % 10) ∷ [])

-- a number below 10 ^ n has at most n digits
pub decimal_short : (n x : ℕ) → x < 10 ^ suc n → length (decimal x) ≤ suc n
unfolding decimal
decimal_short n x h = digits_short n x h 10
