-- `prop_str_part` meets its contract: the part that `prop_str` tells the place of, which lies in the blob. Assumes nothing.
use Rattle.std.proofs.Common.{◌+◌, ◌-◌, sym, arith}
use Rattle.format.specs.Results.{outcome_of}
use Rattle.format.proofs.Inside.{str_inside, bytes_there, bytes_none}
use Rattle.reader.specs.Outcomes.{tells}
use Rattle.values.proofs.prop_str_part.Goals as goal

pub returns-in-Ok : goal.returns-in-Ok
unfolding outcome_of tells
returns-in-Ok c =
    let span = c.in-Ok.field-0 in
    bytes_there _ (sym c.in-Ok.ensures) (span.start + span.len - span.start) (omega arith)

pub overflow_add-result : goal.overflow_add-result
unfolding outcome_of tells
overflow_add-result c = omega (arith, str_inside _ _ _ _ _ (sym c.in-Ok.ensures))

pub slice_bounds-result-end : goal.slice_bounds-result-end
unfolding outcome_of tells
slice_bounds-result-end c = omega (arith, str_inside _ _ _ _ _ (sym c.in-Ok.ensures))

pub returns-in-Err : goal.returns-in-Err
unfolding outcome_of
returns-in-Err c = bytes_none _ (sym c.in-Err.ensures)
