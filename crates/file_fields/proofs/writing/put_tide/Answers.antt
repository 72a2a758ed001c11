-- `put_tide` meets its contract: a setting and a row, one after the other.
use Rattle.file_fields.proofs.PuttingLaws.{tide_put}
use Rattle.validity.specs.View.{seen}
use Rattle.file_fields.proofs.writing.put_tide.Goals as goal

pub returns : goal.returns
returns c = tide_put (seen c.args.view) c.args.t c.requires c.from.ensures c.put_field.ensures c.put_run.ensures
