-- `put_closure` meets its contract: the table of a measured study is not refused, and its closure is the closed study's. Assumes nothing.
use native.Mathlib.Omega.{arith}
use Rattle.validity.specs.View.{seen}
use Rattle.metric_closure.proofs.TableLaws.{few_places}
use Rattle.closure_text.proofs.ClosedLaws.{few_tides, few_settings, closable, printable, closure_put}
use Rattle.closure_text.proofs.put_closure.Goals as goal

pub fill_table-requires : goal.fill_table-requires
fill_table-requires c =
    let a = c.args in
    let held = c.requires.measuring in
    let few = few_tides (seen a.view) held in
    (held.long.distances, few, omega (arith, few_places _ few))

pub close_table-pairs-requires : goal.close_table-pairs-requires
close_table-pairs-requires c =
    let a = c.args in
    closable (seen a.view) c.requires.measuring c.fill_table.ensures

pub put_study-requires-clause-printable_table : goal.put_study-requires-clause-printable_table
put_study-requires-clause-printable_table c =
    let a = c.args in
    let held = c.requires.measuring in
    let s = seen a.view in
    printable s held c.fill_table.ensures c.close_table-pairs.ensures.1

pub put_study-requires-clause-k_le_max_settings : goal.put_study-requires-clause-k_le_max_settings
put_study-requires-clause-k_le_max_settings c =
    let a = c.args in
    let held = c.requires.measuring in
    let s = seen a.view in
    (few_settings s held, c.requires.text_room_in_bounds)

pub returns : goal.returns
returns c =
    let a = c.args in
    let s = seen a.view in
    let closed = c.close_table-pairs.ensures in
    closure_put s c.requires.measuring c.fill_table.ensures closed.1 closed.0 c.put_study.ensures
