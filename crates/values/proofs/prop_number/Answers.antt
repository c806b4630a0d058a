-- `prop_number` meets its contract at every width: the number at the front of the value that `prop_raw` tells the place of. Assumes nothing.
use Rattle.std.proofs.Common.{sym, ap, arith}
use Rattle.format.specs.Results.{outcome_of}
use Rattle.format.proofs.Answer.{then_ok, then_refused}
use Rattle.format.proofs.Results.{hands_on}
use Rattle.format.proofs.Inside.{raw_inside}
use Rattle.reader.specs.Outcomes.{tells}
use Rattle.values.specs.Answers.{why_of}
use Rattle.values.proofs.ValueLaws.{lent_is, number_read, number_short}
use Rattle.values.proofs.prop_number.Goals as goal

pub returns-in_err-value : goal.returns-in_err-value
unfolding outcome_of
returns-in_err-value g c = hands_on why_of _ _ c.from_residual.ensures.1 (λ y q. q) (then_refused _ _ (sym c.in_err-value.ensures))

pub overflow_add-value : goal.overflow_add-value
unfolding outcome_of tells
overflow_add-value g c = omega (arith, raw_inside _ _ _ _ _ (sym c.in_ok-value.ensures))

pub slice_bounds-read_be-end : goal.slice_bounds-read_be-end
unfolding outcome_of tells
slice_bounds-read_be-end g c = omega (arith, raw_inside _ _ _ _ _ (sym c.in_ok-value.ensures))

pub returns-in_err-read_be : goal.returns-in_err-read_be
unfolding outcome_of tells why_of
returns-in_err-read_be g c =
    let value = c.in_ok-value in
    hands_on why_of _ _ c.from_residual-in_err-read_be.ensures.1 (λ y q. ap why_of q)
    (then_ok _ _ (sym value.ensures) (number_short _ _ (lent_is _ value.value.start value.value.len (omega arith)) c.in_err-read_be.ensures))

pub returns : goal.returns
unfolding outcome_of tells
returns g c =
    let value = c.in_ok-value in
    sym (then_ok _ _ (sym value.ensures) (number_read _ _ (lent_is _ value.value.start value.value.len (omega arith)) c.in_ok-read_be.ensures))
