-- `find` meets its contract, by its four returns. Assumes nothing.
use Rattle.std.proofs.Common.{ap, ◌∙◌}
use Rattle.format.specs.Results.{outcome_of}
use Rattle.format.proofs.Results.{hands_on}
use Rattle.lookup.specs.Answers.{why_of}
use Rattle.lookup.proofs.PathLaws.{used, tree_unusable, tree_none, tree_below}
use Rattle.lookup.proofs.Nodes.find.Goals as goal

pub returns-in_err-judged : goal.returns-in_err-judged
unfolding outcome_of why_of
returns-in_err-judged c =
    let no = c.in_err-judged.ensures.err in
    hands_on why_of _ _ c.from_residual.ensures.1 (λ y q. ap why_of (q ∙ no.1)) (tree_unusable _ _ _ _ no.0)

pub walk-requires : goal.walk-requires
walk-requires c = let is = c.in_ok-judged.ensures.ok in rw is.1 (used _ _ _ is.0)

pub returns-in-Some : goal.returns-in-Some
returns-in-Some c =
    let is = c.in_ok-judged.ensures.ok in
    let below = c.in-Some.ensures.cases in
    c.walk.ensures ∙ rw is.1 (tree_below _ _ _ _ is.0 below.0 below.1)

pub returns-in-None : goal.returns-in-None
unfolding outcome_of why_of
returns-in-None c = tree_none _ _ _ _ c.in_ok-judged.ensures.ok.0 c.in-None.ensures.cases
