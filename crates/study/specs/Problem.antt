-- "Centres, fillings, reach" of document 01, over any distances and any test of which sets of tides make a sufficient block.
-- Tides are numbered from 0 here, blocks from 1. A set of tides is a test of the tide's number; a partition gives each tide the
-- number of its block. Assumes nothing.
use Rattle.std.specs.Prelude.{ℕ, zero, suc, ◌-◌, ◌<◌, Bool, cond, not, ◌&&◌, T, ltb, eqb, length, get_or}
use mathlib.Core.List.{List, [], ◌∷◌, ◌++◌, map, flat_map, head_d}
use Rattle.lists.specs.Lists.{iota, every, greatest, tabulate, all_of, filter, is_empty, least, tuples}

-- the tides 0 .. size - 1, their distances, and whether a set of them is sufficient for a block
pub record Problem : Type 0 where
  pub size : ℕ
  pub dist : ℕ → ℕ → ℕ
  pub enough : (ℕ → Bool) → Bool

-- the centres at g among the first t tides: in tide order, each that is farther than g from every earlier centre
unfoldable pub centres_among : (ℕ → ℕ → ℕ) → ℕ → ℕ → List ℕ
centres_among dist g zero = []
centres_among dist g (suc t) =
    let cs = centres_among dist g t in
    cond (all_of (λ c. ltb g (dist c t)) cs) (cs ++ (t ∷ [])) cs

-- document 01: centres at g
unfoldable pub centres : Problem → ℕ → List ℕ
centres P g = centres_among P.dist g P.size

-- block m belongs to the m-th centre
unfoldable pub centre_of : List ℕ → ℕ → ℕ
centre_of cs m = get_or cs (m - 1) 0

-- document 02, 2.4: how far tide t lies from the nearest of the centres cs
unfoldable pub nearest_distance : (ℕ → ℕ → ℕ) → List ℕ → ℕ → ℕ
nearest_distance dist cs t = least (map (λ c. dist c t) cs)

-- the blocks whose centre is at distance x from tide t, in order of their numbers
unfoldable pub blocks_at : (ℕ → ℕ → ℕ) → List ℕ → ℕ → ℕ → List ℕ
blocks_at dist cs t x = filter (λ m. eqb (dist (centre_of cs m) t) x) (iota 1 (length cs))

-- document 02, 2.4: the nearest centre's block number, of equal distances the lower number
unfoldable pub nearest_block : (ℕ → ℕ → ℕ) → List ℕ → ℕ → ℕ
nearest_block dist cs t = head_d (blocks_at dist cs t (nearest_distance dist cs t)) 0

-- the blocks that tide t may go to, whose centre is at most g away, in the order in which t prefers them (document 02, 2.6): those whose
-- centre is at 0, at 1, and so on to g, each time by number
unfoldable pub choices : Problem → ℕ → List ℕ → ℕ → List ℕ
choices P g cs t = flat_map (blocks_at P.dist cs t) (iota 0 (suc g))

-- the tides of block m
unfoldable pub block : (ℕ → ℕ) → ℕ → ℕ → Bool
block D m t = eqb (D t) m

-- the partition that a list writes down
unfoldable pub labels : List ℕ → ℕ → ℕ
labels xs t = get_or xs t 0

-- each of the blocks 1 .. l is sufficient
unfoldable pub all_sufficient : Problem → ℕ → List ℕ → Bool
all_sufficient P l xs = all_of (λ m. P.enough (block (labels xs) m)) (iota 1 l)

-- document 01: the fillings at g, in dictionary order of the tides' choices
unfoldable pub assignments : Problem → ℕ → List (List ℕ)
assignments P g =
    let cs = centres P g in
    filter (all_sufficient P (length cs)) (tuples (tabulate P.size (choices P g cs)))

-- some filling at g
unfoldable pub assignable : Problem → ℕ → Bool
assignable P g = not (is_empty (assignments P g))

-- document 01: the candidates, 0 and every distance
unfoldable pub candidates : Problem → List ℕ
candidates P = 0 ∷ flat_map (λ t. tabulate t (λ u. P.dist u t)) (iota 0 P.size)

-- document 01: the reach, the least candidate with a filling
unfoldable pub radius : Problem → ℕ
radius P = least (filter (assignable P) (candidates P))

-- document 01: the list, the filling that comes first in that order
unfoldable pub blocking : Problem → List ℕ
blocking P = head_d (assignments P (radius P)) []

-- the greatest distance inside block m, 0 for one tide
unfoldable pub diameter : Problem → (ℕ → ℕ) → ℕ → ℕ
diameter P D m =
    greatest P.size (λ t. greatest t (λ u. cond (block D m u && block D m t) (P.dist u t) 0))

-- document 01: widest, the greatest diameter of a partition
unfoldable pub greatest_diameter : Problem → (ℕ → ℕ) → ℕ
greatest_diameter P D = greatest P.size (λ t. greatest t (λ u. cond (eqb (D u) (D t)) (P.dist u t) 0))

-- document 01: a division that meets every minimum: each block that has a tide is sufficient
abbrev pub Feasible : Problem → (ℕ → ℕ) → Type 0
Feasible P D = (t : ℕ) → t < P.size → T (P.enough (block D (D t)))

-- the same, as a test
unfoldable pub feasible : Problem → (ℕ → ℕ) → Bool
feasible P D = every P.size (λ t. P.enough (block D (D t)))
