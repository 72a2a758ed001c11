-- What is proved of datasets; there are no proofs here. `for_datasets` of Proofs.antt proves the record. Assumes nothing.
use Rattle.std.specs.Prelude.{◌≡◌, ◌↔◌, false, T, drop}
use Rattle.study.specs.Limits.{max_tides, table_size}
use Rattle.study.specs.Study.{Contents}
use Rattle.study.specs.Theorems.{ValidContents}
use Rattle.validity.specs.Memory.{State, short, is_dataset, contents_of, stored}
use Rattle.validity.specs.Validity.{IsDataset}

-- of every record, memory and contents
pub record ForDatasets : Type 0 where
  -- reason 21 is exact
  pub exactly : (s : State) → T (is_dataset s) ↔ IsDataset s
  pub valid : (s : State) → T (is_dataset s) → ValidContents (contents_of s)
  -- a dataset's memory is exactly the layout of its contents over its excess
  pub own_layout : (s : State) → short s ≡ false → T (is_dataset s) → stored (contents_of s) s ≡ s
  -- the layout of valid contents is a dataset, and reading it gives them back
  pub laid_out : (H : Contents) (s : State) → ValidContents H → T (is_dataset (stored H s))
  pub read_back : (H : Contents) (s : State) → ValidContents H → contents_of (stored H s) ≡ H
  -- it keeps the length of the memory, and what stands past the 14,400 and the 120 places
  pub as_long : (H : Contents) (s : State) → short s ≡ false → short (stored H s) ≡ short s
  pub excess_distances : (H : Contents) (s : State) → drop table_size (stored H s).distances ≡ drop table_size s.distances
  pub excess_settings : (H : Contents) (s : State) → drop max_tides (stored H s).settings ≡ drop max_tides s.settings
