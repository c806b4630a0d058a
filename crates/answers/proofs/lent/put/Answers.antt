-- `put` meets its contract: each turn puts the next number. Assumes nothing.
use Rattle.answers.proofs.Puts.{one_more}
use Rattle.answers.proofs.lent.put.Goals as goal

pub loop-at-preserved : goal.loop-at-preserved
loop-at-preserved c = one_more _ _ _ _ c.loop-at-test.true c.loop-at.invariant c.put_one.ensures
