-- What each call says of a study: its own reasons for a refusal, in the documents' order, and what an accepted call makes of the study
-- and the counts of withdrawals, or finds in it. A tide's number in a call is from 1, in a study from 0. Assumes nothing.
use Rattle.std.specs.Prelude.{ℕ, zero, suc, ◌+◌, ◌-◌, Bool, true, cond, not, ◌&&◌, leb, eqb, ltb, length, get_or, set, replicate}
use Rattle.std.specs.Prelude.{Option, Some, None, Result, Ok, Err}
use mathlib.Core.List.{List, [], ◌∷◌, ◌++◌, map, flat_map}
use Rattle.lists.specs.Lists.{between, each, iota, every, any, sum_below, count_below, tabulate, over, filter, is_empty}
use Rattle.study.specs.Limits.{max_tides, max_settings, max_distance, max_users, max_withdrawals}
use Rattle.study.specs.declared.Minima.{Minima}
use Rattle.study.specs.declared.BlockRecord.{BlockRecord}
pub use Rattle.study.specs.declared.Figures.{Figures}
use Rattle.study.specs.declared.Refusal.{Refusal}
use Rattle.study.specs.Problem.{centres, nearest_distance, nearest_block, block, labels, radius, blocking, diameter, greatest_diameter, feasible}
use Rattle.study.specs.Study.{Tide, Study, Contents, with_tides, with_study, size, tide, distance, sufficient, problem, valid_minima}
use Rattle.study.specs.Refusals.{Numbered, number, seven, numbered, Reply, value, refusal, Reason, ◌⇒◌}

-- ---- Open

-- 2: k is not 1 to 8
unfoldable pub open_reasons : ℕ → List Reason
open_reasons k = (not (between 1 max_settings k) ⇒ number 2) ∷ []

-- empty, b0 = 1, every b = 0
unfoldable pub opened : ℕ → Study
opened k = record { k = k; minima = record { b0 = 1; b = replicate max_settings 0 }; tides = [] }

-- nothing withdrawn
unfoldable pub opening : ℕ → Contents
opening k = record { study = opened k; withdrawals = replicate max_users 0 }

-- ---- Minima

-- the b's together
abbrev pub sum_of_parts : Minima → ℕ
sum_of_parts M = sum_below max_settings (λ j. get_or M.b j 0)

-- document 02, 2.2: the record as Minima understands it: b0 is the sum of the b's where it is 1 or more and below that sum
unfoldable pub understood : Minima → Minima
understood M = cond (leb 1 M.b0 && ltb M.b0 (sum_of_parts M)) (record { b0 = sum_of_parts M; b = M.b }) M

-- 3: minima, as understood, that no study with this k has
unfoldable pub minima_reasons : Study → Minima → List Reason
minima_reasons S M = (not (valid_minima S.k (understood M)) ⇒ number 3) ∷ []

-- other minima
unfoldable pub with_minima : Minima → Study → Study
with_minima M S = record { k = S.k; minima = M; tides = S.tides }

-- those understood; the counts stay
unfoldable pub setting_minima : Minima → Contents → Contents
setting_minima M H = with_study (with_minima (understood M) H.study) H

-- ---- Enter

-- the triangle inequality of three distances: none exceeds the sum of the other two
unfoldable pub triangle : ℕ → ℕ → ℕ → Bool
triangle a b c = each (leb a (b + c) ∷ leb b (a + c) ∷ leb c (a + b) ∷ [])

-- two tides, the lower number first
pub record Pair : Type 0 where
  pub lower : ℕ
  pub upper : ℕ

-- the pairs i < j of n tides with which a new tide, at `new i` from each, violates the triangle inequality, in order of i and then j
unfoldable pub violations : (ℕ → ℕ → ℕ) → ℕ → (ℕ → ℕ) → List Pair
violations dist n new =
    flat_map (λ i. map (λ j. record { lower = i; upper = j }) (filter (λ j. not (triangle (dist i j) (new i) (new j))) (iota (suc i) (n - suc i))))
    (iota 0 n)

-- 7 and the first such pair
abbrev pub first_violation : List Pair → Numbered
first_violation [] = number 7
first_violation (p ∷ ps) = seven (suc p.lower) (suc p.upper)

-- document 02, 2.8: tides of settings x and y, d apart, are duplicates (twins): at distance 0, of the same setting
abbrev pub alike : ℕ → ℕ → ℕ → Bool
alike x y d = eqb d 0 && eqb x y

-- a tide of this setting, at `new i` from each of n tides, is a duplicate of one of them
unfoldable pub duplicated : (ℕ → ℕ) → ℕ → ℕ → (ℕ → ℕ) → Bool
duplicated settings n setting new = any n (λ i. alike (settings i) setting (new i))

-- a study holds a duplicate: some tide is one of a tide before it. Such a study is a study like any other
unfoldable pub holds_duplicate : Study → Bool
holds_duplicate S = any (size S) (λ u. duplicated (λ t. (tide S t).setting) u (tide S u).setting (distance S u))

-- 22 full, 4 a row of another length, 5 the setting, 6 a distance, 7 the first violation, 15 a duplicate
unfoldable pub enter_reasons : Study → ℕ → List ℕ → List Reason
enter_reasons S setting row =
    let new : ℕ → ℕ = λ i. get_or row i 0 in
    let violated = violations (distance S) (size S) new in
    (leb max_tides (size S) ⇒ number 22)
    ∷ (not (eqb (length row) (size S)) ⇒ number 4)
    ∷ (not (between 1 S.k setting) ⇒ number 5)
    ∷ (not (every (length row) (λ i. leb (get_or row i 0) max_distance)) ⇒ number 6)
    ∷ (not (is_empty violated) ⇒ first_violation violated)
    ∷ (duplicated (λ i. (tide S i).setting) (size S) setting new ⇒ number 15)
    ∷ []

-- a tide whose distances may break the triangle inequality, and which may be a duplicate (document 02, 2.1: a measured table): 22, 4, 5, 6 as
-- above
unfoldable pub measured_reasons : Study → ℕ → List ℕ → List Reason
measured_reasons S setting row =
    (leb max_tides (size S) ⇒ number 22)
    ∷ (not (eqb (length row) (size S)) ⇒ number 4)
    ∷ (not (between 1 S.k setting) ⇒ number 5)
    ∷ (not (every (length row) (λ i. leb (get_or row i 0) max_distance)) ⇒ number 6)
    ∷ []

-- one more tide at the end
unfoldable pub entered : ℕ → List ℕ → Study → Study
entered setting row S = with_tides (S.tides ++ (record { setting = setting; row = row } ∷ [])) S

-- the counts stay
unfoldable pub entering : ℕ → List ℕ → Contents → Contents
entering setting row H = with_study (entered setting row H.study) H

-- ---- Withdraw, by a user

-- the count of user u
abbrev pub count_of : List ℕ → ℕ → ℕ
count_of ws u = get_or ws (u - 1) 0

-- 23 no tide of that number, 26 this user's count is at its limit
unfoldable pub withdraw_reasons : Contents → ℕ → ℕ → List Reason
withdraw_reasons H u t =
    (not (between 1 (size H.study) t) ⇒ number 23)
    ∷ (leb max_withdrawals (count_of H.withdrawals u) ⇒ number 26)
    ∷ []

-- the list without place i
abbrev pub remove_at : {A : Type 0} → ℕ → List A → List A
remove_at i [] = []
remove_at zero (x ∷ xs) = xs
remove_at (suc i) (x ∷ xs) = x ∷ remove_at i xs

-- a tide whose row has lost place i
unfoldable pub shortened : ℕ → Tide → Tide
shortened i x = record { setting = x.setting; row = remove_at i x.row }

-- tide i goes, and its place in every row
unfoldable pub withdrawn : ℕ → Study → Study
withdrawn i S = with_tides (map (shortened i) (remove_at i S.tides)) S

-- one withdrawal more of user u; the other counts stay
unfoldable pub counted : ℕ → List ℕ → List ℕ
counted u ws = set ws (u - 1) (count_of ws u + 1)

-- the tide goes, and the withdrawal is counted
unfoldable pub withdrawing : ℕ → ℕ → Contents → Contents
withdrawing u t H = record { study = withdrawn (t - 1) H.study; withdrawals = counted u H.withdrawals }

-- the old number of tide t once tide i is gone
abbrev pub skip : ℕ → ℕ → ℕ
skip i t = cond (ltb t i) t (suc t)

-- ---- Centres, lent three lists

-- for the centres, and for each tide the block number of the nearest centre and how far away it lies (document 02, 2.4)
pub record CentreLists : Type 0 where
  pub list : List ℕ
  pub nearest : List ℕ
  pub away : List ℕ

-- each has a place for every tide
abbrev pub all_roomy : Study → CentreLists → Bool
all_roomy S l = each (leb (size S) (length l.list) ∷ leb (size S) (length l.nearest) ∷ leb (size S) (length l.away) ∷ [])

-- 24 no tides, 1 a list of fewer than n places
unfoldable pub centres_reasons : Study → CentreLists → List Reason
centres_reasons S l =
    (eqb (size S) 0 ⇒ number 24)
    ∷ (not (all_roomy S l) ⇒ number 1)
    ∷ []

-- the centres' tide numbers
unfoldable pub centre_numbers : Study → ℕ → List ℕ
centre_numbers S g = map suc (centres (problem S) g)

-- each tide's nearest block among the centres at g
unfoldable pub nearest_numbers : Study → ℕ → List ℕ
nearest_numbers S g = tabulate (size S) (nearest_block (distance S) (centres (problem S) g))

-- and its distance from that block's centre
unfoldable pub nearest_distances : Study → ℕ → List ℕ
nearest_distances S g = tabulate (size S) (nearest_distance (distance S) (centres (problem S) g))

-- the lists after an accepted call: the places past what is written stay
unfoldable pub centres_written : Study → ℕ → CentreLists → CentreLists
centres_written S g l =
    record {
      list = over (centre_numbers S g) l.list;
      nearest = over (nearest_numbers S g) l.nearest;
      away = over (nearest_distances S g) l.away;
    }

-- ---- Block, lent a list and records of these lengths

-- 24 no tides, 25 too few of them, 1 a list or records of fewer than n places
unfoldable pub block_reasons : Study → ℕ → ℕ → List Reason
block_reasons S list records =
    (eqb (size S) 0 ⇒ number 24)
    ∷ (not (sufficient S (λ t. true)) ⇒ number 25)
    ∷ (not (leb (size S) list && leb (size S) records) ⇒ number 1)
    ∷ []

-- what Block answers of the blocking at the radius: block count, radius (document 01: reach) and greatest diameter (widest)
unfoldable pub figures : Study → Figures
figures S =
    let P = problem S in
    record { blocks = length (centres P (radius P)); radius = radius P; widest = greatest_diameter P (labels (blocking P)) }

-- the record of block i, from 0: centre, number of tides, diameter
unfoldable pub block_record : Study → ℕ → BlockRecord
block_record S i =
    let P = problem S in
    let D = labels (blocking P) in
    record { centre = suc (get_or (centres P (radius P)) i 0); tides = count_below P.size (block D (suc i)); diameter = diameter P D (suc i) }

-- the code's answer, by document 01's number and values
abbrev pub blocked_of : Result Figures Refusal → Reply Figures
blocked_of (Ok f) = value f
blocked_of (Err r) = refusal (numbered r)

-- ---- Judge, given a list

-- 24 no tides, 12 a list of another length
unfoldable pub judge_reasons : Study → List ℕ → List Reason
judge_reasons S list =
    (eqb (size S) 0 ⇒ number 24)
    ∷ (not (eqb (length list) (size S)) ⇒ number 12)
    ∷ []

-- every number is 1 to 255, and the tides under each number used meet the minima
unfoldable pub approved : Study → List ℕ → Bool
approved S list = every (size S) (λ t. between 1 255 (labels list t)) && feasible (problem S) (labels list)

-- yes with the greatest diameter, or no
pub data Judgement : Type 0 where
  approval : ℕ → Judgement
  disapproval : Judgement

-- of a list that is judged
unfoldable pub judgement : Study → List ℕ → Judgement
judgement S list = cond (approved S list) (approval (greatest_diameter (problem S) (labels list))) disapproval

-- the code's answer, by document 01's number and values
abbrev pub judged_of : Result (Option ℕ) Refusal → Reply Judgement
judged_of (Ok (Some w)) = value (approval w)
judged_of (Ok None) = value disapproval
judged_of (Err r) = refusal (numbered r)
