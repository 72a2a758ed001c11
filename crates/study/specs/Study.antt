-- "The study and its rivals" of document 01: the study, when it is valid, the problem that it poses, and the same tides in another
-- order. Tides are numbered from 0 here. Assumes nothing.
use Rattle.std.specs.Prelude.{ℕ, suc, ◌+◌, ◌≤◌, ◌<◌, ◌≡◌, Bool, true, cond, ◌&&◌, List, [], ◌∷◌, T, leb, ltb, eqb, length, get_or}
use Rattle.lists.specs.Lists.{between, each, every, sum_below, count_below}
use Rattle.study.specs.Limits.{max_tides, max_distance, max_settings, max_users, max_withdrawals}
use Rattle.study.specs.declared.Minima.{Minima}
use Rattle.study.specs.Problem.{Problem}

-- a setting, and the distances to the tides before, in order
pub record Tide : Type 0 where
  pub setting : ℕ
  pub row : List ℕ

-- document 01: k, the minima, and tides in a row
pub record Study : Type 0 where
  pub k : ℕ
  pub minima : Minima
  pub tides : List Tide

-- what a study file carries: the study, and beside it the withdrawals of each user, user u's at place u - 1 (document 02, 2.7: keeper)
pub record Contents : Type 0 where
  pub study : Study
  pub withdrawals : List ℕ

-- the same k and minima, other tides
abbrev pub with_tides : List Tide → Study → Study
with_tides tides S = record { k = S.k; minima = S.minima; tides = tides }

-- the same counts, another study
abbrev pub with_study : Study → Contents → Contents
with_study S H = record { study = S; withdrawals = H.withdrawals }

-- how many tides there are
abbrev pub size : Study → ℕ
size S = length S.tides

-- where no tide stands
unfoldable pub no_tide : Tide
no_tide = record { setting = 0; row = [] }

-- tide t, from 0
unfoldable pub tide : Study → ℕ → Tide
tide S t = get_or S.tides t no_tide

-- the distance of two tides, which the later one's row holds; 0 from a tide to itself
unfoldable pub distance : Study → ℕ → ℕ → ℕ
distance S t u = cond (ltb t u) (get_or (tide S u).row t 0) (cond (ltb u t) (get_or (tide S t).row u 0) 0)

-- of n tides with these settings, the set p has at least b0 tides, and at least b of each setting
unfoldable pub meets : Minima → ℕ → (ℕ → ℕ) → (ℕ → Bool) → Bool
meets M n setting p = leb M.b0 (count_below n p) && every max_settings (λ j. leb (get_or M.b j 0) (count_below n (λ t. p t && eqb (setting t) (suc j))))

-- whether a set of tides meets the study's minima
unfoldable pub sufficient : Study → (ℕ → Bool) → Bool
sufficient S p = meets S.minima (size S) (λ t. (tide S t).setting) p

-- the problem that a study poses
unfoldable pub problem : Study → Problem
problem S = record { size = size S; dist = distance S; enough = sufficient S }

-- ---- a study as document 01 describes it

-- b0 is 1 to 120, there is a b for each of the 8 settings, together they are at most b0, those above k are 0
unfoldable pub valid_minima : ℕ → Minima → Bool
valid_minima k M =
    each
    (between 1 max_tides M.b0
    ∷ eqb (length M.b) max_settings
    ∷ leb (sum_below max_settings (λ j. get_or M.b j 0)) M.b0
    ∷ every max_settings (λ j. cond (ltb j k) true (eqb (get_or M.b j 0) 0))
    ∷ [])

-- the triangle inequality (document 01: the three-tide rule): for any three tides, no distance exceeds the sum of the other two
abbrev pub TriangleInequality : Study → Type 0
TriangleInequality S = (t u v : ℕ) → t < size S → u < size S → v < size S → distance S t v ≤ distance S t u + distance S u v

-- document 01's sentences on what a book holds
pub record Valid (S : Study) : Type 0 where
  pub k_low : 1 ≤ S.k
  pub k_high : S.k ≤ max_settings
  pub few : size S ≤ max_tides
  pub minima : T (valid_minima S.k S.minima)
  pub setting_low : (t : ℕ) → t < size S → 1 ≤ (tide S t).setting
  pub setting_high : (t : ℕ) → t < size S → (tide S t).setting ≤ S.k
  pub row_length : (t : ℕ) → t < size S → length (tide S t).row ≡ t
  pub distance_high : (t u : ℕ) → t < size S → u < size S → distance S t u ≤ max_distance
  pub triangle : TriangleInequality S

-- the same but for the triangle inequality: a study whose distances are as they were measured (document 02, 2.1)
pub record MeasuredStudy (S : Study) : Type 0 where
  pub k_low : 1 ≤ S.k
  pub k_high : S.k ≤ max_settings
  pub few : size S ≤ max_tides
  pub minima : T (valid_minima S.k S.minima)
  pub setting_low : (t : ℕ) → t < size S → 1 ≤ (tide S t).setting
  pub setting_high : (t : ℕ) → t < size S → (tide S t).setting ≤ S.k
  pub row_length : (t : ℕ) → t < size S → length (tide S t).row ≡ t
  pub distance_high : (t u : ℕ) → t < size S → u < size S → distance S t u ≤ max_distance

-- document 02, 2.7: a count for each of the four users, 0 to 65,535
pub record ValidCounts (ws : List ℕ) : Type 0 where
  pub four : length ws ≡ max_users
  pub high : (i : ℕ) → i < max_users → get_or ws i 0 ≤ max_withdrawals

-- ---- the same tides in another order

-- R has the tides of S in another order: tide t of R is tide `to t` of S. Settings and distances go along; k and the minima stay.
-- Renumbering.antt has such an R for every order
pub record Renumbered (S R : Study) : Type 0 where
  pub to : ℕ → ℕ
  pub back : ℕ → ℕ
  pub to_inside : (t : ℕ) → t < size R → to t < size S
  pub back_inside : (s : ℕ) → s < size S → back s < size R
  pub to_back : (s : ℕ) → s < size S → to (back s) ≡ s
  pub back_to : (t : ℕ) → t < size R → back (to t) ≡ t
  pub k : R.k ≡ S.k
  pub minima : R.minima ≡ S.minima
  pub setting : (t : ℕ) → t < size R → (tide R t).setting ≡ (tide S (to t)).setting
  pub distances : (t u : ℕ) → t < size R → u < size R → distance R t u ≡ distance S (to t) (to u)
