-- `measure` meets its contract: a refused tide leaves everything; an accepted one stands in its row. Assumes nothing.
use native.Mathlib.Omega.{arith}
use borrow.Author.Rules.{rules}
use Rattle.lists.proofs.Results.{handed_on}
use Rattle.study_text.proofs.MeasuredLaws.{measure_refused, measure_accepted, measure_done}
use Rattle.study_text.proofs.measured.measure.Goals as goal

pub returns-in_err-measured_answer : goal.returns-in_err-measured_answer
returns-in_err-measured_answer c =
    measure_refused _ _ _ c.requires (handed_on c.from_residual.ensures.1) c.in_err-measured_answer.ensures

pub overflow_mul-from : goal.overflow_mul-from
overflow_mul-from c = let taken = measure_accepted _ _ _ c.requires c.in_ok-measured_answer.ensures in omega arith

pub overflow_add-from : goal.overflow_add-from
overflow_add-from c = let taken = measure_accepted _ _ _ c.requires c.in_ok-measured_answer.ensures in omega arith

pub offset_bounds-distances-from : goal.offset_bounds-distances-from
offset_bounds-distances-from c = let taken = measure_accepted _ _ _ c.requires c.in_ok-measured_answer.ensures in omega arith

pub slice_bounds-copy_from_slice-end : goal.slice_bounds-copy_from_slice-end
slice_bounds-copy_from_slice-end c = let taken = measure_accepted _ _ _ c.requires c.in_ok-measured_answer.ensures in omega arith

pub copy_from_slice-requires : goal.copy_from_slice-requires
copy_from_slice-requires c = let taken = measure_accepted _ _ _ c.requires c.in_ok-measured_answer.ensures in omega arith

pub overflow_cast-settings : goal.overflow_cast-settings
overflow_cast-settings c = let taken = measure_accepted _ _ _ c.requires c.in_ok-measured_answer.ensures in omega arith

pub bounds-settings-n : goal.bounds-settings-n
bounds-settings-n c = let taken = measure_accepted _ _ _ c.requires c.in_ok-measured_answer.ensures in omega arith

pub returns : goal.returns
returns c = measure_done _ _ _ c.requires c.in_ok-measured_answer.ensures _ _ c.copy_from_slice.ensures.after (search rules)
