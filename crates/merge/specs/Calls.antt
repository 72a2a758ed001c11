-- A merge of two datasets into other memory (document 02, 2.9: joining two books), as one value; what it answers and leaves is said of every call
-- in access. Assumes nothing.
use Rattle.std.specs.Prelude.{ℕ, ◌&&◌, ◌||◌, List}
use Rattle.study.specs.Refusals.{Reason, held_reasons}
use Rattle.validity.specs.Memory.{State, short, is_dataset, contents_of}
use Rattle.access.specs.Calls.{nobody, Call, begins}
use Rattle.merge.specs.Merge.{merged, merge_reasons}

-- why these two are not merged: the memory of one is short (1), one is no dataset (21), then what is said of their contents. A merge names no user
-- yet; with document 02, 2.10, 14 comes after 1, and 27 after 21
unfoldable pub source_reasons : State → State → List ℕ → List ℕ → List Reason
source_reasons a b firsts seconds =
    held_reasons (short a || short b) nobody.users (is_dataset a && is_dataset b) (merge_reasons (contents_of a) (contents_of b) firsts seconds)

-- a merge of these two, by the numbers of the shared tides in the one and in the other. The two are only read; of the third record and memory, where
-- the merged dataset is to stand, nothing counts but that the memory is long enough
unfoldable pub merges_datasets : State → State → List ℕ → List ℕ → Call
merges_datasets a b firsts seconds =
    begins (record { own = source_reasons a b firsts seconds; brings = merged (contents_of a) (contents_of b) firsts seconds })
