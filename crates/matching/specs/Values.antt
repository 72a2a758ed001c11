-- The facts of Graph, Matching and Steps, of the values that hold their lists. Assumes nothing.
use Rattle.std.specs.Prelude.{ℕ, List, Bool, Option, Some, None, ◌<◌}
use Rattle.study.specs.Limits.{max_tides}
use Rattle.lists.specs.Lists.{at}
use Rattle.promise.specs.Promise.{MayGo, Nowhere}
use Rattle.matching.specs.declared.graph.Graph.{Graph}
use Rattle.matching.specs.declared.pairs.Pairs.{Pairs}
use Rattle.matching.specs.declared.paths.Paths.{Paths}
use Rattle.matching.specs.Matching.{Matching, Tree, Unsaturable}
use Rattle.matching.specs.Graph.{Edge, Scanning, Marked, Free, Searched, Augmented, Saturated}
use Rattle.matching.specs.Steps.{Owned, BlockOf, ListAnswer}

abbrev pub slots : Graph → ℕ
slots g = g.layout.now.slots

-- the slot s can hold the tide t
abbrev pub Holds : Graph → ℕ → ℕ → Type 0
Holds g = Edge g.allowed.now g.tides.settings.now g.layout.now.owner g.layout.now.kind

-- no matching gives every slot a tide
abbrev pub Unpairable : Graph → Type 0
Unpairable g = Unsaturable (Holds g) (slots g) g.tides.n

-- p is a matching
abbrev pub Paired : Graph → Pairs → Type 0
Paired g p = Matching (Holds g) (slots g) g.tides.n p.tide p.slot

-- w is a tree of alternating paths from a free slot
abbrev pub Rooted : Graph → Pairs → Paths → Type 0
Rooted g p w = Tree (Holds g) (slots g) g.tides.n w.tail p.tide p.slot w.from w.rank w.queue

-- t is a free tide that the slot s can hold
abbrev pub FreeFor : Graph → Pairs → (s t : ℕ) → Type 0
FreeFor g p s t = (t < g.tides.n) × Free (Holds g) (slots g) s t p.slot

-- the tides that a scan went through: those below the free one that it met, or all
abbrev pub upto : Option ℕ → ℕ
upto (Some t) = t
upto None = max_tides

-- the slot s of the tree w is scanned for the tides below i, which made w'
abbrev pub Scanned : Graph → Pairs → (s i : ℕ) (w w' : Paths) → Type 0
Scanned g p s i w w' =
    Scanning (Holds g) (slots g) g.tides.n s w.tail i w'.tail p.tide p.slot w.from w.rank w.queue w'.from w'.rank w'.queue

-- every tide that a slot of a marked block and kind can hold is seen
abbrev pub Noted : Graph → (mark : List Bool) → Paths → Type 0
Noted g mark w = Marked g.allowed.now g.tides.settings.now (slots g) g.tides.n mark w.from

-- the free tide t was met from the slot s of the tree
abbrev pub Reached : Graph → Pairs → Paths → (s t : ℕ) → Type 0
Reached g p w s t = Searched (Holds g) (slots g) g.tides.n (at w.queue 0) s t p.tide p.slot w.from w.rank

-- p' is a matching too, in which the slot root has a tide, and each slot that has one in p
abbrev pub Improved : Graph → (root : ℕ) (p p' : Pairs) → Type 0
Improved g root p p' = Augmented (Holds g) (slots g) g.tides.n root p.tide p'.tide p'.slot

-- p is a matching in which each slot below i has a tide
abbrev pub Full : Graph → (i : ℕ) → Pairs → Type 0
Full g i p = Saturated (Holds g) (slots g) g.tides.n i p.tide p.slot

-- the tide t may go to block m
abbrev pub Open : Graph → (t m : ℕ) → Type 0
Open g t m = MayGo g.allowed.now g.blocks t m

-- the tide t may go to no block
abbrev pub Stuck : Graph → (t : ℕ) → Type 0
Stuck g t = Nowhere g.allowed.now t g.blocks

-- where the tide t has a slot, it may go to the slot's block
abbrev pub InOwn : Graph → Pairs → (t : ℕ) → Type 0
InOwn g p t = Owned g.allowed.now g.layout.now.owner p.slot g.blocks (slots g) t

-- m is a block for the tide t
abbrev pub BlockFor : Graph → Pairs → (t m : ℕ) → Type 0
BlockFor g p t m = BlockOf g.allowed.now g.layout.now.owner p.slot g.blocks (slots g) t m

-- r says whether p could be written to the list
abbrev pub Listed : Graph → Pairs → (list list' : List ℕ) → Bool → Type 0
Listed g p list list' r = ListAnswer g.tides.n g.blocks (slots g) g.allowed.now g.layout.now.owner p.slot list list' r
