-- `leads_on` meets its contract: the laws `back_bad` and `on_good` of a link to an earlier and to a later row. Assumes nothing.
use Rattle.std.proofs.Common.{sym, ◌∙◌, arith, le-ltb}
use Rattle.format.specs.Format.{NONE}
use Rattle.lookup.proofs.RowLaws.{back_bad, on_good, nodes_length}
use Rattle.lookup.proofs.judge.Judged.leads_on.Goals as goal

pub returns-then-row-link : goal.returns-then-row-link
returns-then-row-link c =
    sym (on_good _ c.args.row c.args.link _ c.ranges.link.fits c.if-row-link.true (nodes_length _ _))

pub returns-else-row-link : goal.returns-else-row-link
unfolding NONE
returns-else-row-link c =
    le-ltb _ _ c.if-row-link.false ∙ sym (back_bad _ _ _ (omega (arith, c.requires, c.ranges.row)) c.if-row-link.false)
