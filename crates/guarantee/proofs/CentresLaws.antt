-- What an accepted Centres tells of a valid study. Assumes nothing.
use Prim.Native.Nat.{ℕ, suc, ◌<◌}
use native.Mathlib.Omega.{arith}
use mathlib.Core.Path.{◌≡◌, sym, ap, ◌∙◌, subst}
use mathlib.Core.Bool.{false}
use mathlib.Core.List.{List, [], ◌∷◌}
use mathlib.Core.Option.{some}
use lib.ListN.{length, drop, get_or, length-map, get_or-append}
use Rattle.lists.specs.Lists.{at, tabulate, over}
use Rattle.lists.proofs.Tables.{length_tabulate, get_d_tabulate}
use Rattle.study.specs.Problem.{centres, centre_of, nearest_distance, nearest_block}
use Rattle.study.specs.Study.{Study, size, distance, problem}
use Rattle.study.specs.Calls.{CentreLists, centre_numbers, nearest_numbers, nearest_distances, centres_written}
use Rattle.study.specs.Theorems.{IsNearest, ValidContents}
use Rattle.study.proofs.Proofs.{for_nearest, for_study}
use Rattle.access.specs.Calls.{Output, Holding, learnt}
use Rattle.blocking.specs.Calls.{all_three, finds_centres}
use Rattle.guarantee.specs.Theorems.{centred, NearestTold, CentresTold}
use Rattle.guarantee.proofs.InquiryLaws.{inquiry_tells}

-- a place of a table that stands in the front of a list
front_at : (n : ℕ) (f : ℕ → ℕ) (old : List ℕ) (t : ℕ) → t < n → at (over (tabulate n f) old) t ≡ f t
front_at n f old t l =
    get_or-append (tabulate n f) (drop (length (tabulate n f)) old) 0 t (omega (arith, length_tabulate n f))
    ∙ get_d_tabulate n f t 0 l

-- the lists are known by their order
abbrev lists_by : List (List ℕ) → CentreLists
lists_by ls = record { list = get_or ls 0 []; nearest = get_or ls 1 []; away = get_or ls 2 [] }

module _ (H : Holding) (ok : ValidContents H.contents) (g count : ℕ) (l₀ l : CentreLists)
    (e : learnt false (some H) (finds_centres g l₀) ≡ centred count l) where
  abbrev S : Study
  S = H.contents.study

  tells : record { numbers = length (centre_numbers S g) ∷ []; lists = all_three (centres_written S g l₀); records = [] } ≡ (centred count l).output
  unfolding finds_centres
  tells = inquiry_tells H _ e

  abbrev cs : List ℕ
  cs = centres (problem S) g

  counted : count ≡ length cs
  unfolding centre_numbers
  counted = sym (ap (λ (o : Output). get_or o.numbers 0 0) tells) ∙ length-map cs suc

  written : l ≡ centres_written S g l₀
  written = sym (ap (λ (o : Output). lists_by o.lists) tells)

  nearest : (t : ℕ) → t < size S → NearestTold S g t (at l.nearest t) (at l.away t)
  unfolding problem centres_written nearest_numbers nearest_distances
  nearest t h =
      let F = for_nearest (problem S) (for_study S ok.study).lawful g t h in
      let b = ap (λ (k : CentreLists). at k.nearest t) written ∙ front_at (size S) (nearest_block (distance S) cs) l₀.nearest t h in
      let d = ap (λ (k : CentreLists). at k.away t) written ∙ front_at (size S) (nearest_distance (distance S) cs) l₀.away t h in
      record {
        nearest = subst (IsNearest (distance S) cs t) (sym b) F.nearest;
        distance_is = d ∙ F.distance ∙ ap (λ m. distance S (centre_of cs m) t) (sym b);
        in_radius = omega (arith, d, F.in_radius);
      }

  pub centres_told : CentresTold S g count l₀ l
  centres_told = record { counted = counted; written = written; nearest = nearest }
