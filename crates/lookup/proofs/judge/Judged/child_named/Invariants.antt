-- `child_named` meets its contract: the link is a good one of an earlier row, and what is left from it gives what the first link
-- gives (`Kids`). Measure: the rows ahead of the link. Assumes nothing.
use Rattle.lookup.specs.Places.{child_from, rows_of}
use Rattle.lookup.proofs.RowLaws.{ahead}
use Rattle.lookup.proofs.PathLaws.{Kids}
use Rattle.lookup.proofs.judge.Judged.child_named.Given as goal

abbrev pub invariant-loop-link : goal.invariant-loop-link
invariant-loop-link l =
    let R = rows_of l.self.nodes in
    Kids l.self.nodes.blob.now R (child_from l.self.nodes.blob.now R l.self.nodes.count l.first l.name) l.name l.link

abbrev pub decreases-loop-link : goal.decreases-loop-link
decreases-loop-link l = ahead l.self.nodes.count l.link
