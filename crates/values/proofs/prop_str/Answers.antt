-- `prop_str` meets its contract: what `text_of` makes of the value that `prop_raw` tells the place of. Assumes nothing.
use Rattle.std.proofs.Common.{refl, sym, ap, ◌∙◌, arith}
use Rattle.format.specs.Find.{as_string}
use Rattle.format.specs.Lookup.{prop_str}
use Rattle.format.specs.Results.{outcome_of}
use Rattle.format.proofs.Answer.{then_ok, then_refused}
use Rattle.format.proofs.Results.{hands_on}
use Rattle.format.proofs.Inside.{raw_inside}
use Rattle.reader.specs.Outcomes.{tells}
use Rattle.values.specs.Answers.{why_of}
use Rattle.values.proofs.ValueLaws.{lent_is}
use Rattle.values.proofs.prop_str.Goals as goal

pub returns-in_err-value : goal.returns-in_err-value
unfolding prop_str outcome_of
returns-in_err-value c = hands_on why_of _ _ c.from_residual.ensures.1 (λ y q. q) (then_refused _ _ (sym c.in_err-value.ensures))

pub overflow_add-value : goal.overflow_add-value
unfolding outcome_of tells
overflow_add-value c = omega (arith, raw_inside _ _ _ _ _ (sym c.in_ok-value.ensures))

pub slice_bounds-text_of-end : goal.slice_bounds-text_of-end
unfolding outcome_of tells
slice_bounds-text_of-end c = omega (arith, raw_inside _ _ _ _ _ (sym c.in_ok-value.ensures))

pub returns-in_err-text : goal.returns-in_err-text
unfolding prop_str outcome_of tells
returns-in_err-text c =
    let value = c.in_ok-value in
    hands_on why_of _ _ c.from_residual-in_err-text.ensures.1 (λ y q. ap why_of q)
    (then_ok _ _ (sym value.ensures) (then_refused _ _ (ap as_string (sym (lent_is _ value.value.start value.value.len (omega arith))) ∙ sym c.in_err-text.ensures)))

pub returns : goal.returns
unfolding prop_str outcome_of tells
returns c =
    let value = c.in_ok-value in
    sym (then_ok _ _ (sym value.ensures) (then_ok _ _ (ap as_string (sym (lent_is _ value.value.start value.value.len (omega arith))) ∙ sym c.in_ok-text.ensures) refl))
