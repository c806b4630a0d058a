-- `walk` meets its contract: before each part of the path the row is judged, and what is left below it gives the whole answer (`Way`).
-- Assumes nothing.
use Rattle.std.proofs.Common.{length}
use Rattle.format.specs.Lookup.{reach}
use Rattle.lookup.specs.Places.{rows_of}
use Rattle.lookup.proofs.PathLaws.{Way}
use Rattle.lookup.proofs.judge.Judged.walk.Given as goal

abbrev pub invariant-loop-rest : goal.invariant-loop-rest
invariant-loop-rest l =
    let R = rows_of l.self.nodes in
    Way l.self.nodes.blob.now R (reach l.self.nodes.blob.now R l.from l.path) l.at.row l.at.below l.rest

abbrev pub decreases-loop-rest : goal.decreases-loop-rest
decreases-loop-rest l = length l.rest
