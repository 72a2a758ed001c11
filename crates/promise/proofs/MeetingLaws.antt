-- The minima as a test of sets of tides, and what `search` may assume of minima and settings. Assumes nothing.
use Prim.Native.Nat.{ℕ}
use mathlib.Core.Path.{refl}
use mathlib.Core.List.{List}
use lib.ListN.{get_or}
use Rattle.study.specs.declared.Minima.{Minima}
use Rattle.study.proofs.StudyLaws.{meets-T, meets_along}
use Rattle.promise.specs.Promise.{Upward, AtLeast, meeting}

pub meeting_upward : (M : Minima) (n : ℕ) (s : List ℕ) → Upward n (meeting M n s)
unfolding meeting
meeting_upward M n s =
    record {
      more = λ p q h.
          meets_along M n n (λ t. get_or s t 0) (λ t. get_or s t 0) p q (λ t. t) (λ t l a. l) h (λ t l. refl) (λ t u l k e. e);
    }

pub meeting_least : (M : Minima) (n : ℕ) (s : List ℕ) → AtLeast n M.b0 (meeting M n s)
unfolding meeting
meeting_least M n s = record { many = λ p h. ((meets-T M n (λ t. get_or s t 0) p).0 h).whole }
