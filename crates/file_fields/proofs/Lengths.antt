-- The length of a file as the code computes it, and where its tides begin. Assumes nothing.
use Prim.Native.Nat.{ℕ, zero, suc, ◌+◌, ◌-◌, ◌*◌, ◌≤◌, ◌<◌}
use native.Mathlib.Nat.{not-suc-le-zero, mul-suc, mul-le-mul}
use native.Mathlib.Omega.{arith}
use mathlib.Core.Path.{◌≡◌, ap}
use mathlib.Core.Logic.{⊎_elim}
use Rattle.lists.proofs.Tests.{split}
use Rattle.file_format.specs.File.{bit_length}
use Rattle.file_format.proofs.FileLaws.{bit_length_suc}

-- 3n + 10n(n - 1) without the difference n - 1
pub record Sum (c k n : ℕ) : Type 0 where
  pub is : 26 + 16 * c + 7 * k + 10 * (n * n) - 7 * n ≡ bit_length c k n
  pub square : n * n ≤ 14400
  pub enough : 7 * n ≤ 26 + 16 * c + 7 * k + 10 * (n * n)
  pub most : bit_length c k n ≤ 143306
  pub first : 26 + 16 * c + 7 * k ≤ bit_length c k n

pub length_sum : (c k n : ℕ) → c ≤ 4 → k ≤ 8 → n ≤ 120 → Sum c k n
unfolding bit_length
length_sum c k zero few a l = record { is = omega arith; square = omega arith; enough = omega arith; most = omega arith; first = omega arith }
length_sum c k (suc m) few a l =
    let e : suc m * (suc m - 1) ≡ suc m * m = ap (λ x. suc m * x) (less m) in
    let d : suc m * suc m ≡ suc m * m + suc m = mul-suc (suc m) m in
    let q : suc m * suc m ≤ 120 * 120 = mul-le-mul l l in
    let z : m ≤ 119 = omega arith in
    let r : suc m * m ≤ 120 * 119 = mul-le-mul l z in
    record { is = omega arith; square = omega arith; enough = omega arith; most = omega arith; first = omega arith }
  where
    less : (x : ℕ) → suc x - 1 ≡ x
    less x = omega arith

-- the bits of tide t end where those of n tides end, or before
pub bit_length_up : (c k t n : ℕ) → t < n → bit_length c k t + (3 + 20 * t) ≤ bit_length c k n
bit_length_up c k t zero l = absurd (not-suc-le-zero l)
bit_length_up c k t (suc n) l =
    ⊎_elim
    (λ m. omega (arith, bit_length_up c k t n m, bit_length_suc c k n))
    (λ m. let q : t ≡ n = omega arith in let r : bit_length c k t ≡ bit_length c k n = ap (bit_length c k) q in omega (arith, bit_length_suc c k n))
    (split t n)
