-- `find_from` meets its contract: the path from a row of nodes that were judged. Assumes nothing.
use Rattle.std.proofs.Common.{ap, ◌∙◌}
use Rattle.format.specs.Results.{outcome_of}
use Rattle.format.proofs.Results.{hands_on}
use Rattle.lookup.specs.Answers.{why_of}
use Rattle.lookup.proofs.PathLaws.{used, from_unusable, from_reach}
use Rattle.lookup.proofs.Nodes.find_from.Goals as goal

pub returns-in_err-judged : goal.returns-in_err-judged
unfolding outcome_of why_of
returns-in_err-judged c =
    let no = c.in_err-judged.ensures.err in
    hands_on why_of _ _ c.from_residual.ensures.1 (λ y q. ap why_of (q ∙ no.1)) (from_unusable _ _ _ _ _ no.0)

pub walk-requires : goal.walk-requires
walk-requires c = let is = c.in_ok-judged.ensures.ok in rw is.1 (used _ _ _ is.0)

pub returns : goal.returns
returns c = let is = c.in_ok-judged.ensures.ok in c.walk.ensures ∙ rw is.1 (from_reach _ _ _ _ _ is.0)
