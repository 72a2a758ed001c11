-- The record of Renumbering.antt. Assumes nothing.
use Prim.Native.Nat.{ℕ, ◌<◌}
use native.Mathlib.Omega.{arith}
use mathlib.Core.Path.{◌≡◌, refl, sym, ap, ◌∙◌, subst}
use mathlib.Core.Logic.{⊎_elim}
use lib.Dec.{ltb, lt→ltb}
use lib.ListN.{length, get_or}
use Rattle.lists.proofs.Tests.{split, cond_yes}
use Rattle.lists.proofs.Tables.{length_tabulate, get_d_tabulate}
use Rattle.study.specs.Study.{Tide, Study, size, no_tide, tide, distance, Valid, Renumbered}
use Rattle.study.specs.Renumbering.{Permutation, renumbered_tide, renumbered, Renumberings}
use Rattle.study.proofs.StudyLaws.{distance_both_ways, distance_itself}
use Rattle.study.proofs.Proofs.{for_study}

module _ (S : Study) (B : Permutation (size S)) where
  abbrev to : ℕ → ℕ
  to = B.to

  abbrev R : Study
  R = renumbered to S

  size_is : size R ≡ size S
  unfolding renumbered
  size_is = length_tabulate (size S) (renumbered_tide to S)

  within : (t : ℕ) → t < size R → t < size S
  within t l = omega (arith, size_is)

  to_inside : (t : ℕ) → t < size R → to t < size S
  to_inside t l = B.to_inside t (within t l)

  tide_is : (t : ℕ) → t < size R → tide R t ≡ renumbered_tide to S t
  unfolding tide renumbered
  tide_is t l = get_d_tabulate (size S) (renumbered_tide to S) t no_tide (within t l)

  setting_is : (t : ℕ) → t < size R → (tide R t).setting ≡ (tide S (to t)).setting
  unfolding renumbered_tide
  setting_is t l = ap (λ (x : Tide). x.setting) (tide_is t l)

  row_length : (t : ℕ) → t < size R → length (tide R t).row ≡ t
  unfolding renumbered_tide
  row_length t l = ap (λ (x : Tide). length x.row) (tide_is t l) ∙ length_tabulate t _

  -- the later tide's row holds the distance
  distance_before : (t u : ℕ) → t < u → u < size R → distance R t u ≡ distance S (to t) (to u)
  unfolding distance renumbered_tide
  distance_before t u l m =
      cond_yes (ltb t u) _ _ (lt→ltb t u l) ∙ ap (λ (x : Tide). get_or x.row t 0) (tide_is u m)
      ∙ get_d_tabulate u (λ i. distance S (to i) (to u)) t 0 l

  distance_is : (t u : ℕ) → t < size R → u < size R → distance R t u ≡ distance S (to t) (to u)
  distance_is t u l m =
      ⊎_elim (λ a. distance_before t u a m)
      (λ a. ⊎_elim (λ b. distance_both_ways R t u ∙ distance_before u t b l ∙ distance_both_ways S (to u) (to t))
      (λ b. let e : t ≡ u = omega arith in
      subst (λ z. distance R t z ≡ distance S (to t) (to z)) e (distance_itself R t ∙ sym (distance_itself S (to t))))
      (split u t))
      (split t u)

  is_renumbered : Renumbered S R
  unfolding renumbered
  is_renumbered =
      record {
        to = to;
        back = B.back;
        to_inside = to_inside;
        back_inside = λ s l. omega (arith, size_is, B.back_inside s l);
        to_back = B.to_back;
        back_to = λ t l. B.back_to t (within t l);
        k = refl;
        minima = refl;
        setting = setting_is;
        distances = distance_is;
      }

  is_valid : Valid S → Valid R
  unfolding renumbered
  is_valid ok =
      record {
        k_low = ok.k_low;
        k_high = ok.k_high;
        few = omega (arith, size_is, ok.few);
        minima = ok.minima;
        setting_low = λ t l. omega (arith, setting_is t l, ok.setting_low (to t) (to_inside t l));
        setting_high = λ t l. omega (arith, setting_is t l, ok.setting_high (to t) (to_inside t l));
        row_length = row_length;
        distance_high = λ t u l m. omega (arith, distance_is t u l m, ok.distance_high (to t) (to u) (to_inside t l) (to_inside u m));
        triangle = λ t u v l m n.
            omega (
              arith,
              distance_is t v l n,
              distance_is t u l m,
              distance_is u v m n,
              ok.triangle (to t) (to u) (to v) (to_inside t l) (to_inside u m) (to_inside v n),
            );
      }

itself : (S : Study) → Renumbered S S
itself S =
    record {
      to = λ t. t;
      back = λ s. s;
      to_inside = λ t l. l;
      back_inside = λ s l. l;
      to_back = λ s l. refl;
      back_to = λ t l. refl;
      k = refl;
      minima = refl;
      setting = λ t l. refl;
      distances = λ t u l m. refl;
    }

pub renumberings : Renumberings
unfolding is_renumbered
renumberings =
    record {
      in_any_order = λ S B. (is_renumbered S B, refl, refl);
      valid = is_valid;
      itself = itself;
      bounded = λ S ok. (for_study S ok).bounded S (itself S);
    }
