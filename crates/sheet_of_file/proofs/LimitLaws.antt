-- The statement of specs/Limit.antt: a longer input is refused, and by its first 19 bits alone. Assumes nothing.
use Prim.Native.Nat.{ℕ, ◌+◌, ◌/◌, ◌%◌, ◌^◌, ◌-◌, ◌≤◌, ◌<◌}
use native.Mathlib.Omega.{arith}
use mathlib.Core.Path.{◌≡◌, refl, sym, ap, ap₂, ◌∙◌}
use mathlib.Core.Logic.{⊎_elim}
use mathlib.Core.Bool.{Bool, true, false, cond, not, ◌&&◌, ◌||◌}
use mathlib.Core.List.{List}
use lib.Dec.{T, ltb, eqb, eqb→eq, nltb→le, not_T}
use lib.Arith.{le→nltb}
use lib.ListN.{length, take}
use lib.Seq.{length-take-le, take_all, get_or-take}
use Rattle.lists.specs.Lists.{between}
use Rattle.lists.proofs.Tests.{split, T_false, not_not, between-T, cond_yes}
use Rattle.study.specs.Study.{Contents}
use Rattle.study.specs.Refusals.{Numbered, number, Verdict, refused, first_of}
use Rattle.file_format.specs.Bits.{bit_at, bits_at}
use Rattle.file_format.specs.File.{new_mark, old_mark, byte_length, mark_of, counts_in, head_reasons, read_reasons}
use Rattle.file_format.proofs.BitLaws.{binary_ext}
use Rattle.file_format.proofs.DecodedLaws.{counts_few}
use Rattle.file_format.proofs.ReadLaws.{unless-T, refused_head}
use Rattle.file_fields.proofs.Lengths.{length_sum}
use Rattle.sheet_text.specs.Text.{refused_text}
use Rattle.sheet_of_file.specs.Sheet.{printed, file_text, sheet_of}
use Rattle.sheet_of_file.specs.Limit.{FirstBytesDecide, Decided}
use Rattle.sheet_of_file.proofs.Laws.{refused_alone}

-- why it is refused, of its mark, number of tides and k
unfoldable too_long : ℕ → ℕ → ℕ → Numbered
too_long mark n k =
    cond (not (eqb mark new_mark || eqb mark old_mark)) (number 9) (cond (ltb 120 n) (number 10) (cond (not (between 1 8 k)) (number 2) (number 8)))

first_four : (a b c d : Bool) (rest : Verdict) → (T (not b) → T (not c) → T d)
    → cond a (refused (number 9)) (cond b (refused (number 10)) (cond c (refused (number 2)) (cond d (refused (number 8)) rest)))
    ≡ refused (cond a (number 9) (cond b (number 10) (cond c (number 2) (number 8))))
first_four true b c d rest f = refl
first_four false true c d rest f = refl
first_four false false true d rest f = refl
first_four false false false d rest f = cond_yes d (refused (number 8)) rest (f tt tt)

module _ (s : List ℕ) (long : 17914 < length s) where
  abbrev c : ℕ
  c = counts_in s

  no_length : (k n : ℕ) → k ≤ 8 → n ≤ 120 → T (not (eqb (length s) (byte_length c k n)))
  unfolding byte_length
  no_length k n a b =
      not_T (eqb (length s) (byte_length c k n))
      (λ t. omega (arith, eqb→eq (length s) (byte_length c k n) t, (length_sum c k n (counts_few s).1 a b).most))

  -- 12 bytes or more
  past_twelve : (eqb (mark_of s) new_mark && ltb (length s) 12) ≡ false
  past_twelve = T_false _ ((unless-T (mark_of s) new_mark (length s) 12).1 (λ e. omega arith))

  refused_long : first_of (head_reasons s) ≡ refused (too_long (mark_of s) (bits_at s 8 7) (bits_at s 15 4))
  unfolding head_reasons first_of too_long
  refused_long =
      let n = bits_at s 8 7 in
      let k = bits_at s 15 4 in
      rw (T_false (ltb (length s) 6) (le→nltb (length s) 6 (omega arith)), past_twelve)
      (first_four (not (eqb (mark_of s) new_mark || eqb (mark_of s) old_mark)) (ltb 120 n) (not (between 1 8 k)) (not (eqb (length s) (byte_length c k n))) _
      (λ few high. no_length k n ((between-T 1 8 k).0 (not_not (between 1 8 k) high)).1 (nltb→le 120 n few)))

  same_bits : (at w : ℕ) → at + w ≤ 19 → bits_at (take 17915 s) at w ≡ bits_at s at w
  same_bits at w few =
      binary_ext (bit_at (take 17915 s)) (bit_at s) at at w
      (λ j l. ap (λ x. x / 2 ^ (7 - (at + j) % 8) % 2) (get_or-take 17915 s ((at + j) / 8) 0 (omega arith)))

-- the first 17,915 bytes are refused, and so is the whole input, by the same number
pub record CutRefused (s : List ℕ) : Type 0 where
  pub why : Numbered
  pub front : first_of (read_reasons (take 17915 s)) ≡ refused why
  pub whole : first_of (read_reasons s) ≡ refused why

pub cut_refused : (s : List ℕ) → 17915 ≤ length s → CutRefused s
cut_refused s l =
    let front = take 17915 s in
    let long : 17914 < length front = omega (arith, length-take-le 17915 s l) in
    let m : 17914 < length s = omega arith in
    let same : too_long (mark_of front) (bits_at front 8 7) (bits_at front 15 4) ≡ too_long (mark_of s) (bits_at s 8 7) (bits_at s 15 4) =
    ap (λ x. too_long x (bits_at front 8 7) (bits_at front 15 4)) (same_bits s m 0 8 (omega arith))
    ∙ ap₂ (too_long (mark_of s)) (same_bits s m 8 7 (omega arith)) (same_bits s m 15 4 (omega arith)) in
    record {
      why = too_long (mark_of s) (bits_at s 8 7) (bits_at s 15 4);
      front = refused_head front (refused_long front long) ∙ ap refused same;
      whole = refused_head s (refused_long s m);
    }

-- any text of a file where a refusal prints alone
module _ (print : Verdict → Contents → List ℕ) (alone : (r : Numbered) (H : Contents) → print (refused r) H ≡ refused_text r) where
  abbrev text : List ℕ → List ℕ
  text s = file_text print s

  cut : (s : List ℕ) → 17915 ≤ length s → text (take 17915 s) ≡ text s
  cut s l = let R = cut_refused s l in refused_alone print alone (take 17915 s) R.front ∙ sym (refused_alone print alone s R.whole)

  pub first_bytes_decide : FirstBytesDecide text
  first_bytes_decide input = ⊎_elim (λ l. ap text (take_all 17915 input (omega arith))) (cut input) (split (length input) 17915)

pub decided : Decided
unfolding sheet_of
decided = first_bytes_decide printed (λ r H. refl)
