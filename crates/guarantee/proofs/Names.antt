-- The names that remain in a ledger, in order: the name of a tide is the one that stays with as many others before it. Assumes nothing.
use Prim.Native.Nat.{ℕ, ◌<◌}
use native.Mathlib.Omega.{arith}
use mathlib.Core.Path.{◌≡◌, sym, ◌∙◌}
use mathlib.Core.Bool.{Bool, not}
use lib.ListN.{length}
use Rattle.lists.specs.Lists.{count_below}
use Rattle.lists.proofs.Counting.{count_before, count_apart, Nth}
use Rattle.lists.proofs.Filtered.{filtered_count, filtered_nth}
use Rattle.guarantee.specs.Ledger.{Ledger, remaining, name_of}

module _ (L : Ledger) where
  abbrev pub stays : ℕ → Bool
  stays m = not (L.gone m)

  abbrev pub arrived : ℕ
  arrived = length L.arrivals

  pub remaining_count : length (remaining L) ≡ count_below arrived stays
  unfolding remaining
  remaining_count = filtered_count stays arrived

  -- the name of tide u is the one that stays with u others before it
  pub name_nth : (u : ℕ) → u < length (remaining L) → Nth stays arrived u (name_of L u)
  unfolding name_of remaining
  name_nth u l = filtered_nth stays arrived u l

  -- and is known by that
  pub nth_name : (u m : ℕ) → Nth stays arrived u m → name_of L u ≡ m
  nth_name u m N =
      let l : u < length (remaining L) = omega (arith, remaining_count, count_before stays m arrived N.pass N.below, N.rank) in
      let M = name_nth u l in
      count_apart stays (name_of L u) m M.pass N.pass (M.rank ∙ sym N.rank)
