-- Merges worked by hand, by computation: two merged studies, one that holds a duplicate, and which of two reasons counts. Assumes nothing.
use Rattle.std.specs.Prelude.{ℕ, ◌≡◌, true, false, List, [], ◌∷◌, map, replicate}
use Rattle.lists.specs.Lists.{tabulate}
use Rattle.study.specs.Limits.{max_tides, table_size, max_users, max_withdrawals, max_settings, max_distance}
use Rattle.study.specs.declared.Dataset.{Dataset}
use Rattle.study.specs.Study.{Tide, Contents, size}
use Rattle.study.specs.Refusals.{number, Verdict, accepted, refused, first_of}
use Rattle.study.specs.Calls.{holds_duplicate}
use Rattle.validity.specs.Memory.{State, state_of}
use Rattle.merge.specs.Merge.{shared, merged, place, merge_reasons}
use Rattle.access.specs.Calls.{answer}
use Rattle.merge.specs.Calls.{merges_datasets}

-- tides of setting 1 with these rows, k = 1, b0 = 1, and these counts
abbrev pub counting : List ℕ → List (List ℕ) → Contents
counting ws rows =
    record {
      study = record {
        k = 1;
        minima = record { b0 = 1; b = replicate max_settings 0 };
        tides = map (λ row. record { setting = 1; row = row }) rows;
      };
      withdrawals = ws;
    }

-- nothing withdrawn
abbrev pub tides : List (List ℕ) → Contents
tides rows = counting (replicate max_users 0) rows

-- of another k, and all of one setting
abbrev pub other : ℕ → ℕ → List (List ℕ) → Contents
other k setting rows =
    record {
      study = record {
        k = k;
        minima = record { b0 = 1; b = replicate max_settings 0 };
        tides = map (λ row. record { setting = setting; row = row }) rows;
      };
      withdrawals = replicate max_users 0;
    }

-- the merged rows and counts, and where the second's tides stand
pub record MergedTo : Type 0 where
  pub rows : List (List ℕ)
  pub counts : List ℕ
  pub places : List ℕ

-- of these pairs
unfoldable pub merged_to : Contents → Contents → List ℕ → List ℕ → MergedTo
merged_to A B firsts seconds =
    let H = merged A B firsts seconds in
    record {
      rows = map (λ (x : Tide). x.row) H.study.tides;
      counts = H.withdrawals;
      places = tabulate (size B.study) (place A.study (shared firsts seconds));
    }

-- two tides 5 apart, and three of which the first is the other study's second
abbrev pub OneShared : Type 0
OneShared =
    merged_to (counting (1 ∷ 2 ∷ 3 ∷ 4 ∷ []) ([] ∷ (5 ∷ []) ∷ [])) (counting (0 ∷ 10 ∷ 0 ∷ 30 ∷ []) ([] ∷ (3 ∷ []) ∷ (4 ∷ 2 ∷ []) ∷ [])) (2 ∷ []) (1 ∷ [])
    ≡ record { rows = [] ∷ (5 ∷ []) ∷ (8 ∷ 3 ∷ []) ∷ (9 ∷ 4 ∷ 2 ∷ []) ∷ []; counts = 1 ∷ 12 ∷ 3 ∷ 34 ∷ []; places = 1 ∷ 2 ∷ 3 ∷ [] }

-- two shared tides, named in any order; the way is now through the one, now through the other
abbrev pub TwoShared : Type 0
TwoShared =
    merged_to (tides ([] ∷ (2 ∷ []) ∷ (6 ∷ 7 ∷ []) ∷ [])) (tides ([] ∷ (4 ∷ []) ∷ (2 ∷ 3 ∷ []) ∷ [])) (1 ∷ 2 ∷ []) (3 ∷ 1 ∷ [])
    ≡ record { rows = [] ∷ (2 ∷ []) ∷ (6 ∷ 7 ∷ []) ∷ (3 ∷ 4 ∷ 9 ∷ []) ∷ []; counts = replicate max_users 0; places = 1 ∷ 3 ∷ 0 ∷ [] }

-- one tide of each setting at 0 from each other, as k = 2 has them: these settings, in order
abbrev pub together : ℕ → ℕ → Contents
together x y =
    record {
      study = record {
        k = 2;
        minima = record { b0 = 1; b = replicate max_settings 0 };
        tides = record { setting = x; row = [] } ∷ record { setting = y; row = 0 ∷ [] } ∷ [];
      };
      withdrawals = replicate max_users 0;
    }

-- neither study holds a duplicate (document 02: a twin); merged at the tide of setting 2 they do, and no reason refuses it
abbrev pub DuplicateArises : Type 0
DuplicateArises =
    let A = together 1 2 in
    let B = together 2 1 in
    (holds_duplicate A.study ≡ false) × (holds_duplicate B.study ≡ false)
    × (first_of (merge_reasons A B (2 ∷ []) (1 ∷ [])) ≡ accepted) × (holds_duplicate (merged A B (2 ∷ []) (1 ∷ [])).study ≡ true)

-- two contents, pairs, and the verdict that they must get
pub record ReasonCase : Type 0 where
  pub first : Contents
  pub second : Contents
  pub firsts : List ℕ
  pub seconds : List ℕ
  pub gives : Verdict

-- refused by a number
abbrev pub case : Contents → Contents → List ℕ → List ℕ → ℕ → ReasonCase
case A B firsts seconds n = record { first = A; second = B; firsts = firsts; seconds = seconds; gives = refused (number n) }

-- two tides 2 apart
abbrev pub two : Contents
two = tides ([] ∷ (2 ∷ []) ∷ [])

-- the same, with user 3 at the limit
abbrev pub full : Contents
full = counting (0 ∷ 0 ∷ max_withdrawals ∷ 1 ∷ []) ([] ∷ (2 ∷ []) ∷ [])

-- two as far apart as tides can be
abbrev pub wide : Contents
wide = tides ([] ∷ (max_distance ∷ []) ∷ [])

-- 120 tides in one place, with the counts of `full`
abbrev pub crowd : Contents
crowd = counting (0 ∷ 0 ∷ max_withdrawals ∷ 1 ∷ []) (tabulate max_tides (λ t. replicate t 0))

-- two reasons at once, and which one counts
unfoldable pub order : List ReasonCase
order =
    -- 17 before 16, where k differs too; not where one of the lists has a number
    case two (other 2 1 []) [] [] 17
    ∷ case two two (1 ∷ []) [] 16
    ∷ case two two [] (1 ∷ []) 16
    -- 16: k; a tide that is absent, by 0 or past the last; named before, on either side; of another setting; another distance
    ∷ case two (other 2 1 ([] ∷ (2 ∷ []) ∷ [])) (1 ∷ []) (1 ∷ []) 16
    ∷ case two two (0 ∷ []) (1 ∷ []) 16
    ∷ case two two (1 ∷ []) (3 ∷ []) 16
    ∷ case two two (1 ∷ 1 ∷ []) (1 ∷ 2 ∷ []) 16
    ∷ case two two (1 ∷ 2 ∷ []) (2 ∷ 2 ∷ []) 16
    ∷ case (other 2 1 ([] ∷ [])) (other 2 2 ([] ∷ [])) (1 ∷ []) (1 ∷ []) 16
    ∷ case two (tides ([] ∷ (3 ∷ []) ∷ [])) (1 ∷ 2 ∷ []) (1 ∷ 2 ∷ []) 16
    -- 22 before 26, 6 before 26; 26 at 65,536 of one user, not at 65,535
    ∷ case crowd full (1 ∷ []) (1 ∷ []) 22
    ∷ case (counting (0 ∷ 0 ∷ max_withdrawals ∷ 0 ∷ []) ([] ∷ (max_distance ∷ []) ∷ [])) full (1 ∷ []) (1 ∷ []) 6
    ∷ case full full (1 ∷ []) (1 ∷ []) 26
    ∷ record { first = full; second = two; firsts = 1 ∷ []; seconds = 1 ∷ []; gives = accepted }
    ∷ record { first = two; second = two; firsts = 1 ∷ 2 ∷ []; seconds = 2 ∷ 1 ∷ []; gives = accepted }
    ∷ case wide two (2 ∷ []) (1 ∷ []) 6
    ∷ []

-- the earlier one
abbrev pub ReasonsInOrder : Type 0
ReasonsInOrder =
    map (λ (c : ReasonCase). first_of (merge_reasons c.first c.second c.firsts c.seconds)) order ≡ map (λ (c : ReasonCase). c.gives) order

-- a record that is no dataset's, with k = 0
abbrev pub none : Dataset
none = record { k = 0; n = 0; minima = record { b0 = 1; b = replicate max_settings 0 }; withdrawn = replicate max_users 0 }

-- in memory that is long enough
abbrev pub spoiled : State
spoiled = state_of none (replicate table_size 0) (replicate max_tides 0)

-- in memory that is not
abbrev pub nowhere : State
nowhere = state_of none [] []

-- 1 of any of the three memories before 21, 21 before 17
abbrev pub MemoryFirst : Type 0
MemoryFirst =
    (answer spoiled (merges_datasets nowhere spoiled [] [])
    ∷ answer spoiled (merges_datasets spoiled nowhere [] [])
    ∷ answer nowhere (merges_datasets spoiled spoiled [] [])
    ∷ answer spoiled (merges_datasets spoiled spoiled [] [])
    ∷ [])
    ≡ refused (number 1) ∷ refused (number 1) ∷ refused (number 1) ∷ refused (number 21) ∷ []
