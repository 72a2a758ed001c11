-- What the functions say that write a matching out as a list. Assumes nothing.
use Rattle.std.specs.Prelude.{◌≡◌, List, Bool, true, false, ℕ, ◌<◌, T}
use Rattle.promise.specs.Promise.{allows, MayGo, Nowhere}
use Rattle.lists.specs.Lists.{TailKept, at}

-- where the tide t has a slot, it may go to the slot's block
pub record Owned (allowed owner slot : List ℕ) (blocks slots t : ℕ) : Type 0 where
  pub below : at slot t < slots → at owner (at slot t) < blocks
  pub may : at slot t < slots → T (allows allowed t (at owner (at slot t)))

-- m is a block that the tide t may go to, and its slot's where it has one
pub record BlockOf (allowed owner slot : List ℕ) (blocks slots t m : ℕ) : Type 0 where
  pub open_to : MayGo allowed blocks t m
  pub own : at slot t < slots → m ≡ at owner (at slot t)

-- the first tides of the list have blocks that they may go to, and a tide that has a slot the slot's block
pub record ListWritten (n blocks slots : ℕ) (allowed owner slot list : List ℕ) : Type 0 where
  pub below : (t : ℕ) → t < n → at list t < blocks
  pub may : (t : ℕ) → t < n → T (allows allowed t (at list t))
  pub own : (t : ℕ) → t < n → at slot t < slots → at list t ≡ at owner (at slot t)

-- r says whether the list could be written
pub record ListAnswer (n blocks slots : ℕ) (allowed owner slot list list' : List ℕ) (r : Bool) : Type 0 where
  pub written : r ≡ true → ListWritten n blocks slots allowed owner slot list'
  pub none : r ≡ false → (t : ℕ) × (t < n) × Nowhere allowed t blocks
  pub rest : TailKept n list list'
