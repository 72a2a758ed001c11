-- `put_columns` meets its contract: each column's front is the row's. Assumes nothing.
use Rattle.std.proofs.Common.{◌≡◌, ◌∙◌, arith, rules, length}
use Rattle.storage.proofs.PlaceLaws.{front_copied}
use Rattle.c_records.proofs.rows.put_columns.Goals as goal

pub returns : goal.returns
returns c =
    let few = c.requires.few in
    let centres_long : length c.args.rows.now.centres ≡ 120 = search rules in
    let sizes_long : length c.args.rows.now.tides ≡ 120 = search rules in
    let diameters_long : length c.args.rows.now.diameters ≡ 120 = search rules in
    record {
      centres = c.copy_front.ensures ∙ front_copied _ _ _ (omega arith);
      sizes = c.copy_front-2.ensures ∙ front_copied _ _ _ (omega arith);
      diameters = c.copy_front-3.ensures ∙ front_copied _ _ _ (omega arith);
    }
