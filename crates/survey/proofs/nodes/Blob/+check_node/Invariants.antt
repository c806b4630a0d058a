-- `check_node` meets its contract. The depth falls from call to call. The loop's invariant: what is left of the node from p on, with what
-- is counted, gives what the whole node gives; its measure is what is left of the blob. Assumes nothing.
use Prim.Native.Nat.{◌-◌}
use lib.ListN.{length}
use Rattle.survey.proofs.CountLaws.{Left}
use Rattle.survey.proofs.nodes.Blob.+check_node.Given as goal

abbrev pub decreases-check_node : goal.decreases-check_node
decreases-check_node l = l.depth

abbrev pub invariant-loop-child : goal.invariant-loop-child
invariant-loop-child l = Left l.self.bytes.now l.self.strings l.depth l.pos l.head.len l.p l.n l.k

abbrev pub decreases-loop-child : goal.decreases-loop-child
decreases-loop-child l = length l.self.bytes.now - l.p
