-- What is said of two datasets and the lists of their shared tides, of what a merge is lent. Assumes nothing.
use Rattle.std.specs.Prelude.{ℕ, List}
use Rattle.study.specs.Study.{Study}
use Rattle.validity.specs.Memory.{State, study_of}
use Rattle.validity.specs.View.{seen}
use Rattle.merge.specs.declared.source.Sources.{Sources}

-- of their states
abbrev pub of_states {ℓ} : {A : Type ℓ} → (State → State → List ℕ → List ℕ → A) → Sources → A
of_states f s = f (seen s.first) (seen s.second) s.firsts.now s.seconds.now

-- of their studies
abbrev pub of_studies {ℓ} : {A : Type ℓ} → (Study → Study → List ℕ → List ℕ → A) → Sources → A
of_studies f s = f (study_of (seen s.first)) (study_of (seen s.second)) s.firsts.now s.seconds.now

-- of their tables
abbrev pub of_tables {ℓ} : {A : Type ℓ} → (List ℕ → List ℕ → List ℕ → List ℕ → A) → Sources → A
of_tables f s = f s.first.distances.now s.second.distances.now s.firsts.now s.seconds.now
