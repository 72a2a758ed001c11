-- Document 02, 2.9: two studies merged into one (two books joined) at the tides that both hold, and the reasons against it. A tide's number
-- in a call is from 1, in a study from 0. Everything here computes. Assumes nothing.
use Rattle.std.specs.Prelude.{ℕ, ◌+◌, ◌-◌, max, Bool, cond, not, ◌&&◌, leb, eqb, length}
use mathlib.Core.List.{List, [], ◌∷◌, ◌++◌, head_d}
use Rattle.lists.specs.Lists.{between, each, iota, every, count_below, tabulate, at, filter, least}
use Rattle.study.specs.Limits.{max_tides, max_distance, max_users, max_withdrawals}
use Rattle.study.specs.Study.{Tide, Study, Contents, size, tide, distance}
use Rattle.study.specs.Refusals.{number, Reason, ◌⇒◌}

-- the tides that both studies hold: pair q is tide `first q` of the first study and tide `second q` of the second
pub record Shared : Type 0 where
  pub pairs : ℕ
  pub first : ℕ → ℕ
  pub second : ℕ → ℕ

-- as a call names them: number q of the one list with number q of the other. Where one list has ended 0 stands, which is no tide's number
abbrev pub shared : List ℕ → List ℕ → Shared
shared firsts seconds = record { pairs = max (length firsts) (length seconds); first = λ q. at firsts q - 1; second = λ q. at seconds q - 1 }

-- ---- the merged study

-- tide j of the second study is in no pair
unfoldable pub unshared : Shared → ℕ → Bool
unshared P j = every P.pairs (λ q. not (eqb (P.second q) j))

-- the second study's remaining tides, in order
unfoldable pub rest : Study → Shared → List ℕ
rest B P = filter (unshared P) (iota 0 (size B))

-- the sum from tide i of the first study through shared tide q to tide j of the second
unfoldable pub way : Study → Study → Shared → ℕ → ℕ → ℕ → ℕ
way A B P i j q = distance A i (P.first q) + distance B (P.second q) j

-- the least of them
unfoldable pub across : Study → Study → Shared → ℕ → ℕ → ℕ
across A B P i j = least (tabulate P.pairs (way A B P i j))

-- the remaining tide r: its distances to the first study's tides, then to the remaining ones before it
unfoldable pub added : Study → Study → Shared → ℕ → Tide
added A B P r =
    let js = rest B P in
    let j = at js r in
    record { setting = (tide B j).setting; row = tabulate (size A) (λ i. across A B P i j) ++ tabulate r (λ q. distance B (at js q) j) }

-- the first study's tides, then the second's remaining ones; the first's k and minima
unfoldable pub merged_study : Study → Study → Shared → Study
merged_study A B P = record { k = A.k; minima = A.minima; tides = A.tides ++ tabulate (length (rest B P)) (added A B P) }

-- each user's withdrawals added
unfoldable pub added_counts : List ℕ → List ℕ → List ℕ
added_counts vs ws = tabulate max_users (λ i. at vs i + at ws i)

-- of what two datasets hold
unfoldable pub merged : Contents → Contents → List ℕ → List ℕ → Contents
merged A B firsts seconds =
    record {
      study = merged_study A.study B.study (shared firsts seconds);
      withdrawals = added_counts A.withdrawals B.withdrawals;
    }

-- where tide j of the second study stands in the merged one: at its partner's number, or after the first study's tides, by how many of the
-- remaining ones are before it
unfoldable pub place : Study → Shared → ℕ → ℕ
place A P j =
    cond (unshared P j) (size A + count_below j (unshared P)) (P.first (head_d (filter (λ q. eqb (P.second q) j) (iota 0 P.pairs)) 0))

-- ---- reason 16

-- pair q names other tides than pair p, which are as far from those in the one study as in the other
unfoldable pub consistent : Study → Study → List ℕ → List ℕ → ℕ → ℕ → Bool
consistent A B firsts seconds q p =
    let P = shared firsts seconds in
    each
    (not (eqb (at firsts p) (at firsts q))
    ∷ not (eqb (at seconds p) (at seconds q))
    ∷ eqb (distance A (P.first p) (P.first q)) (distance B (P.second p) (P.second q))
    ∷ [])

-- pair q: both tides are there and have one setting, and it is consistent with the pairs before it
unfoldable pub agreeing : Study → Study → List ℕ → List ℕ → ℕ → Bool
agreeing A B firsts seconds q =
    let P = shared firsts seconds in
    each
    (between 1 (size A) (at firsts q)
    ∷ between 1 (size B) (at seconds q)
    ∷ eqb (tide A (P.first q)).setting (tide B (P.second q)).setting
    ∷ every q (consistent A B firsts seconds q)
    ∷ [])

-- k is the same, and all pairs agree
unfoldable pub agree : Study → Study → List ℕ → List ℕ → Bool
agree A B firsts seconds = eqb A.k B.k && every (shared firsts seconds).pairs (agreeing A B firsts seconds)

-- ---- its own reasons, after those for the three memories (1) and the two sources (21)

-- no distance is above 1,048,575
unfoldable pub in_range : Study → Bool
in_range S = every (size S) (λ t. every t (λ u. leb (distance S u t) max_distance))

-- no count is above 65,535
unfoldable pub countable : List ℕ → Bool
countable ws = every max_users (λ i. leb (at ws i) max_withdrawals)

-- 17 no shared tide is named, 16 they don't agree; 22, 6, 26 of what the merged dataset would hold
unfoldable pub merge_reasons : Contents → Contents → List ℕ → List ℕ → List Reason
merge_reasons A B firsts seconds =
    let H = merged A B firsts seconds in
    (eqb (shared firsts seconds).pairs 0 ⇒ number 17)
    ∷ (not (agree A.study B.study firsts seconds) ⇒ number 16)
    ∷ (not (leb (size H.study) max_tides) ⇒ number 22)
    ∷ (not (in_range H.study) ⇒ number 6)
    ∷ (not (countable H.withdrawals) ⇒ number 26)
    ∷ []
