-- `text_of` meets its contract, by its three returns. Assumes nothing.
use Rattle.std.proofs.Common.{sym}
use Rattle.format.specs.Results.{outcome_of}
use Rattle.format.proofs.Results.{hands_on}
use Rattle.utf8.specs.Outcomes as utf8
use Rattle.values.specs.Answers.{why_of}
use Rattle.values.proofs.ValueLaws.{text_open, text_bad, text_good}
use Rattle.values.proofs.text_of.Goals as goal

pub returns-in_default : goal.returns-in_default
unfolding outcome_of why_of
returns-in_default c = sym (text_open _ c.in_default.ensures.cases)

pub returns-in_err-from_utf8 : goal.returns-in_err-from_utf8
unfolding outcome_of utf8.why_of
returns-in_err-from_utf8 c =
    let text = c.in-Some.ensures.cases in
    hands_on why_of _ _ c.from_residual.ensures.1 (λ y q. q) (text_bad _ text.0 text.1 (sym c.in_err-from_utf8.ensures))

pub returns : goal.returns
unfolding outcome_of
returns c = let text = c.in-Some.ensures.cases in sym (text_good _ text.0 text.1 (sym c.in_ok-from_utf8.ensures))
