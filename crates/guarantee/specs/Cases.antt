-- Calls by computation: where two reasons hold at once the earlier one counts, runs with refused calls in them, the calls that counts of
-- withdrawals look at, the minima that Minima leaves, and equally near centres. Assumes nothing.
use Rattle.std.specs.Prelude.{ℕ, ◌≡◌, Bool, true, false, List, [], ◌∷◌, map, take, replicate}
use Rattle.std.proofs.Math.Option.{Option, none, some}
use Rattle.study.specs.Limits.{max_tides, max_users, max_withdrawals, max_settings}
use Rattle.study.specs.declared.Minima.{Minima}
use Rattle.study.specs.declared.BlockRecord.{BlockRecord}
use Rattle.study.specs.Study.{Tide, no_tide}
use Rattle.study.specs.Refusals.{number, seven, Verdict, accepted, refused}
use Rattle.study.specs.Calls.{opening, CentreLists}
use Rattle.access.specs.Calls.{Call, Holding, verdict, learnt}
use Rattle.dataset.specs.Calls.{opens_dataset, sets_minima, enters_tide, withdraws_tide}
use Rattle.study_file.specs.Calls.{reads_file, writes_file}
use Rattle.merge.specs.Cases.{spoiled, nowhere}
use Rattle.merge.specs.Calls.{merges_datasets}
use Rattle.blocking.specs.Calls.{finds_centres, makes_blocks, judges_list}
use Rattle.priced_blocks.specs.Calls.{prices_blocks}
use Rattle.guarantee.specs.Runs.{Offered, open_with, set_minima, enter, withdraw, following}
use Rattle.guarantee.specs.Counts.{accepted_calls, stretch_after}

-- b0, and the same b for each setting
abbrev pub minima : ℕ → ℕ → Minima
minima b0 b = record { b0 = b0; b = replicate max_settings b }

-- k = 1, these tides, each user's withdrawals
abbrev pub counting : Minima → List Tide → List ℕ → Option Holding
counting M tides ws = some (record { contents = record { study = record { k = 1; minima = M; tides = tides }; withdrawals = ws } })

-- nothing withdrawn
abbrev pub holding : Minima → List Tide → Option Holding
holding M tides = counting M tides (replicate max_users 0)

-- user 2 is at the limit, the others are not
abbrev pub one_full : List ℕ
one_full = 0 ∷ max_withdrawals ∷ 0 ∷ 0 ∷ []

-- tides of two settings
abbrev pub two_settings : List Tide → Option Holding
two_settings tides =
    some (record { contents = record { study = record { k = 2; minima = minima 1 0; tides = tides }; withdrawals = replicate max_users 0 } })

-- one tide, and at 0 from it one of another setting
abbrev pub mixed : List Tide
mixed = record { setting = 1; row = [] } ∷ record { setting = 2; row = 0 ∷ [] } ∷ []

-- two tides at 3
abbrev pub two : List Tide
two = record { setting = 1; row = [] } ∷ record { setting = 1; row = 3 ∷ [] } ∷ []

-- records for n blocks
abbrev pub records : ℕ → List BlockRecord
records n = replicate n (record { centre = 0; tides = 0; diameter = 0 })

-- the lists for Centres, of these lengths
abbrev pub places : ℕ → ℕ → ℕ → CentreLists
places l m d = record { list = replicate l 0; nearest = replicate m 0; away = replicate d 0 }

-- a call, and the verdict that it must get
pub record ReasonCase : Type 0 where
  -- whether the memory is too short
  pub is_too_short : Bool
  pub held : Option Holding
  pub call : Call
  pub gives : Verdict

-- in memory that is long enough, refused by a number alone
abbrev pub case : Option Holding → Call → ℕ → ReasonCase
case h c n = record { is_too_short = false; held = h; call = c; gives = refused (number n) }

-- two reasons at once, and which one counts
unfoldable pub order : List ReasonCase
order =
    -- short memory before everything else
    record { is_too_short = true; held = none; call = opens_dataset 9; gives = refused (number 1) }
    ∷ record { is_too_short = true; held = none; call = makes_blocks [] []; gives = refused (number 1) }
    -- 21 before a call's own reasons; not for Open and Read
    ∷ case none (sets_minima (minima 0 0)) 21
    ∷ case none (enters_tide 9 []) 21
    ∷ case none (withdraws_tide 1 0) 21
    -- Withdraw: 1 before 14, 14 before 21, for users 0, 5 and 255; none of the four is refused so
    ∷ record { is_too_short = true; held = none; call = withdraws_tide 0 0; gives = refused (number 1) }
    ∷ case none (withdraws_tide 0 0) 14
    ∷ case none (withdraws_tide 5 0) 14
    ∷ case none (withdraws_tide 255 0) 14
    ∷ case none (withdraws_tide 4 0) 21
    ∷ case none (makes_blocks [] []) 21
    ∷ case none (opens_dataset 9) 2
    ∷ case none (reads_file []) 8
    -- a merge: 1 for the run's own memory and for a source's before 21, 21 for the sources before 17, whatever is held
    ∷ record { is_too_short = true; held = none; call = merges_datasets spoiled spoiled [] []; gives = refused (number 1) }
    ∷ case none (merges_datasets spoiled nowhere [] []) 1
    ∷ case none (merges_datasets spoiled spoiled [] []) 21
    ∷ case (holding (minima 1 0) two) (merges_datasets spoiled spoiled [] []) 21
    -- Enter: 22 before 4, 4 before 5, 5 before 6, 6 before 7, 7 before 15
    ∷ case (holding (minima 1 0) (replicate max_tides no_tide)) (enters_tide 1 []) 22
    ∷ case (holding (minima 1 0) two) (enters_tide 2 (1 ∷ [])) 4
    ∷ case (holding (minima 1 0) two) (enters_tide 2 (0 ∷ 1048576 ∷ [])) 5
    ∷ case (holding (minima 1 0) two) (enters_tide 1 (0 ∷ 1048576 ∷ [])) 6
    ∷ record { is_too_short = false; held = holding (minima 1 0) two; call = enters_tide 1 (1 ∷ 1 ∷ []); gives = refused (seven 1 2) }
    ∷ record { is_too_short = false; held = holding (minima 1 0) two; call = enters_tide 1 (0 ∷ 1 ∷ []); gives = refused (seven 1 2) }
    -- 15 at 0 from a tide of the same setting, whatever other tides are there; not at 0 from one of another setting
    ∷ case (holding (minima 1 0) two) (enters_tide 1 (3 ∷ 0 ∷ [])) 15
    ∷ case (two_settings mixed) (enters_tide 1 (0 ∷ 0 ∷ [])) 15
    ∷ case (two_settings mixed) (enters_tide 2 (0 ∷ 0 ∷ [])) 15
    ∷ record { is_too_short = false; held = two_settings (take 1 mixed); call = enters_tide 2 (0 ∷ []); gives = accepted }
    -- Withdraw: 14 before 23, 23 before 26; a user at the limit is stopped, the others go on
    ∷ case (counting (minima 1 0) two one_full) (withdraws_tide 5 3) 14
    ∷ case (counting (minima 1 0) two one_full) (withdraws_tide 2 3) 23
    ∷ case (counting (minima 1 0) two one_full) (withdraws_tide 2 2) 26
    ∷ record { is_too_short = false; held = counting (minima 1 0) two one_full; call = withdraws_tide 1 2; gives = accepted }
    ∷ record { is_too_short = false; held = counting (minima 1 0) two one_full; call = withdraws_tide 3 2; gives = accepted }
    -- Block: 24 before 25, 25 before 1, 1 for the list and for the records
    ∷ case (holding (minima 1 0) []) (makes_blocks [] []) 24
    ∷ case (holding (minima 3 0) two) (makes_blocks [] []) 25
    ∷ case (holding (minima 2 0) two) (makes_blocks (0 ∷ []) (records 2)) 1
    ∷ case (holding (minima 2 0) two) (makes_blocks (0 ∷ 0 ∷ []) (records 1)) 1
    ∷ record { is_too_short = false; held = holding (minima 2 0) two; call = makes_blocks (0 ∷ 0 ∷ []) (records 2); gives = accepted }
    -- the tariff as Block
    ∷ case (holding (minima 1 0) []) (prices_blocks [] []) 24
    ∷ case (holding (minima 3 0) two) (prices_blocks [] []) 25
    ∷ case (holding (minima 2 0) two) (prices_blocks (0 ∷ 0 ∷ []) (records 1)) 1
    -- Centres: 24, and 1 for each of the three lists; Judge: 24 before 12; Write: 1
    ∷ case (holding (minima 1 0) []) (finds_centres 0 (places 0 0 0)) 24
    ∷ case (holding (minima 1 0) two) (finds_centres 0 (places 1 2 2)) 1
    ∷ case (holding (minima 1 0) two) (finds_centres 0 (places 2 1 2)) 1
    ∷ case (holding (minima 1 0) two) (finds_centres 0 (places 2 2 1)) 1
    ∷ record { is_too_short = false; held = holding (minima 1 0) two; call = finds_centres 0 (places 2 2 2); gives = accepted }
    ∷ case (holding (minima 1 0) []) (judges_list (1 ∷ [])) 24
    ∷ case (holding (minima 1 0) two) (judges_list (1 ∷ [])) 12
    ∷ case (holding (minima 1 0) []) (writes_file (replicate 12 0)) 1
    ∷ []

-- where two reasons hold at once, the earlier one counts
abbrev pub CallsInOrder : Type 0
CallsInOrder = map (λ (c : ReasonCase). verdict c.is_too_short c.held c.call) order ≡ map (λ (c : ReasonCase). c.gives) order

-- of a tide that is refused, one that enters, one that goes and two that do not, the second and the third change the two tides; the
-- withdrawal is counted for user 3
abbrev pub OneRun : Type 0
OneRun =
    following false (holding (minima 2 0) two)
    (enter 1 (1 ∷ 1 ∷ [])
    ∷ enter 1 (1 ∷ 2 ∷ [])
    ∷ withdraw 3 1
    ∷ withdraw 3 3
    ∷ withdraw 0 1
    ∷ [])
    ≡ counting (minima 2 0) (record { setting = 1; row = [] } ∷ record { setting = 1; row = 2 ∷ [] } ∷ []) (0 ∷ 0 ∷ 1 ∷ 0 ∷ [])

-- document 02, 2.8: a tide at 0 from the first is refused; once that one is withdrawn, it enters
abbrev pub OnceMore : Type 0
OnceMore =
    following false (holding (minima 1 0) two)
    (enter 1 (0 ∷ 3 ∷ []) ∷ withdraw 2 1 ∷ enter 1 (3 ∷ []) ∷ [])
    ≡ counting (minima 1 0) two (0 ∷ 1 ∷ 0 ∷ 0 ∷ [])

-- the first tide enters
abbrev pub first_tide : Offered
first_tide = enter 1 []

-- and goes, withdrawn by user u
abbrev pub tide_goes : ℕ → Offered
tide_goes u = withdraw u 1

-- document 02, 2.7: of these accepted and refused calls, where nothing was held, the last stretch begins with the second Open; what user 2
-- withdrew before it no longer counts, nor does what is refused
abbrev pub OneStretch : Type 0
OneStretch =
    stretch_after (record { from = none; calls = [] }) (accepted_calls false none
    (tide_goes 1 ∷ open_with 2 ∷ first_tide ∷ tide_goes 2 ∷ open_with 1 ∷ open_with 9 ∷ first_tide ∷ tide_goes 3 ∷ tide_goes 3 ∷ []))
    ≡ record { from = some (record { contents = opening 1 }); calls = first_tide ∷ tide_goes 3 ∷ [] }

-- a minimum for setting 1 alone
abbrev pub alone : ℕ → ℕ → Minima
alone b0 b = record { b0 = b0; b = b ∷ replicate 7 0 }

-- what Minima is given, and the minima held afterwards, where they were b0 = 1 and each b = 0
pub record MinimaCase : Type 0 where
  pub given : Minima
  pub left : Minima

infix 10 ◌leaves◌
-- a case as it is written below
abbrev pub ◌leaves◌ : Minima → Minima → MinimaCase
M leaves N = record { given = M; left = N }

-- document 02, 2.2
unfoldable pub minima_cases : List MinimaCase
minima_cases =
    -- b0 below the sum is raised, up to 120; b0 at the sum or above it stays
    (alone 1 2 leaves alone 2 2)
    ∷ (alone 1 120 leaves alone 120 120)
    ∷ (alone 2 2 leaves alone 2 2)
    ∷ (alone 120 119 leaves alone 120 119)
    -- refused: b0 = 0, b0 = 121, sums of 121 and 2,040, minima of settings above k
    ∷ (alone 0 1 leaves minima 1 0)
    ∷ (alone 121 0 leaves minima 1 0)
    ∷ (alone 1 121 leaves minima 1 0)
    ∷ (minima 255 255 leaves minima 1 0)
    ∷ (minima 1 1 leaves minima 1 0)
    ∷ []

-- two tides, k = 1
abbrev pub MinimaLeft : Type 0
MinimaLeft =
    map (λ (c : MinimaCase). following false (holding (minima 1 0) two) (set_minima c.given ∷ [])) minima_cases
    ≡ map (λ (c : MinimaCase). holding c.left two) minima_cases

-- document 02, 2.4: three tides at 0, 10 and 5 on a line
abbrev pub three : List Tide
three = record { setting = 1; row = [] } ∷ record { setting = 1; row = 10 ∷ [] } ∷ record { setting = 1; row = 5 ∷ 5 ∷ [] } ∷ []

-- at g = 5 the first two are centres; the third is equally near to both, and goes to the lower number. The fourth places stay
abbrev pub EquallyNear : Type 0
EquallyNear =
    (learnt false (holding (minima 1 0) three) (finds_centres 5 (places 4 4 4))).output.lists
    ≡ (1 ∷ 2 ∷ 0 ∷ 0 ∷ []) ∷ (1 ∷ 2 ∷ 1 ∷ 0 ∷ []) ∷ (0 ∷ 0 ∷ 5 ∷ 0 ∷ []) ∷ []
