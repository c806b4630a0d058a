-- `child_named` meets its contract: the link is a good one of an earlier row, and what is left from it gives what the first link
-- gives (`Kids`). Measure: the rows ahead of the link. Assumes nothing.
use Rattle.std.proofs.Common.{sym, ◌∙◌}
use Rattle.format.specs.Format.{NONE}
use Rattle.format.specs.Results.{outcome_of}
use Rattle.lookup.specs.Answers.{why_of}
use Rattle.lookup.proofs.RowLaws.{nodes_length}
use Rattle.lookup.proofs.PathLaws.{kids_begin, kids_none, turn_below, turn_bad, turn_inside, turn_less, turn_here, turn_next}
use Rattle.lookup.proofs.judge.Judged.child_named.Goals as goal

pub loop-link-init : goal.loop-link-init
loop-link-init c = let first = c.requires in kids_begin _ _ _ _ _ (nodes_length _ _) first.low first.below first.good

pub node_at-node-requires : goal.node_at-node-requires
unfolding NONE
node_at-node-requires c = rw nodes_length at (turn_below _ _ _ _ _ c.loop-link.invariant c.loop-link-test.true)

pub row_is_good-requires-clause-some : goal.row_is_good-requires-clause-some
unfolding NONE
row_is_good-requires-clause-some c = c.loop-link-test.true

pub returns-then-not-row_is_good-clause-row : goal.returns-then-not-row_is_good-clause-row
unfolding NONE outcome_of why_of
returns-then-not-row_is_good-clause-row c =
    sym (turn_bad _ _ _ _ _ c.loop-link.invariant c.loop-link-test.true (sym c.row_is_good.ensures ∙ c.if-not-row_is_good.true))

pub same_part-requires : goal.same_part-requires
unfolding NONE
same_part-requires c =
    turn_inside _ _ _ _ _ c.loop-link.invariant c.loop-link-test.true _ c.node_at-node.ensures (sym c.row_is_good.ensures ∙ c.if-not-row_is_good.false)

pub returns-then-same_part-clause-row : goal.returns-then-same_part-clause-row
unfolding NONE outcome_of
returns-then-same_part-clause-row c =
    sym (turn_here _ _ _ _ _ c.loop-link.invariant c.loop-link-test.true _ c.node_at-node.ensures (sym c.row_is_good.ensures ∙ c.if-not-row_is_good.false) (sym c.same_part.ensures ∙ c.if-same_part.true))

pub loop-link-smaller : goal.loop-link-smaller
unfolding NONE
loop-link-smaller c =
    rw nodes_length at (turn_less _ _ _ _ _ c.loop-link.invariant c.loop-link-test.true _ c.node_at-node.ensures (sym c.row_is_good.ensures ∙ c.if-not-row_is_good.false))

pub loop-link-preserved : goal.loop-link-preserved
unfolding NONE
loop-link-preserved c =
    turn_next _ _ _ _ _ c.loop-link.invariant c.loop-link-test.true _ c.node_at-node.ensures (sym c.row_is_good.ensures ∙ c.if-not-row_is_good.false) (sym c.same_part.ensures ∙ c.if-same_part.false)

pub returns-clause-row : goal.returns-clause-row
unfolding NONE outcome_of why_of
returns-clause-row c = sym (kids_none _ _ _ _ _ c.loop-link.invariant c.loop-link-test.false)
