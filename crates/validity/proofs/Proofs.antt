-- The record of Theorems.antt, proved. Assumes nothing.
use Rattle.validity.specs.Theorems.{ForDatasets}
use Rattle.validity.proofs.ValidityLaws.{is_dataset-T, valid_contents}
use Rattle.validity.proofs.LayoutLaws.{own_layout, stored_dataset, stored_contents, stored_short, stored_excess_distances, stored_excess_settings}

pub for_datasets : ForDatasets
for_datasets =
    record {
      exactly = is_dataset-T;
      valid = λ s t. valid_contents s ((is_dataset-T s).0 t);
      own_layout = λ s e t. own_layout s ((is_dataset-T s).0 t).study e;
      laid_out = λ H s ok. stored_dataset H ok s;
      read_back = λ H s ok. stored_contents H ok s;
      as_long = stored_short;
      excess_distances = stored_excess_distances;
      excess_settings = stored_excess_settings;
    }
