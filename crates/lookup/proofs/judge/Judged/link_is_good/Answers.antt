-- `link_is_good` meets its contract where the link leads on. Assumes nothing.
use Rattle.std.proofs.Common.{lt-ltb, ne_eqb}
use Rattle.format.specs.Format.{NONE}
use Rattle.format.specs.Lookup.{link_good}
use Rattle.lookup.proofs.RowLaws.{nodes_length}
use Rattle.lookup.proofs.judge.Judged.link_is_good.Goals as goal

pub returns-then-row-link : goal.returns-then-row-link
unfolding link_good NONE
returns-then-row-link c = simp (ne_eqb _ 4294967295 c.if-link-eq-NONE.false, lt-ltb _ _ c.if-row-link.true, nodes_length)
