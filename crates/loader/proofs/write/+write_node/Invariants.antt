-- `write_node` meets its contract. It is a cycle of calls of its own: the depth falls. The loop's invariant: what is left to write from
-- p on leaves what writing the children from the first one on leaves. Each turn goes further on. Assumes nothing.
use mathlib.Core.Path.{◌≡◌}
use Prim.Native.Nat.{◌+◌, ◌-◌}
use lib.ListN.{length}
use Rattle.survey.specs.Nodes.{block}
use Rattle.loader.proofs.ChildLaws.{NodesInv}
use Rattle.loader.proofs.write.+write_node.Given as goal

abbrev pub invariant-loop-token : goal.invariant-loop-token
invariant-loop-token l =
    NodesInv l.blob.bytes.now (block l.blob.strings) l.depth l.row l.initial.p l.initial.nodes.row l.initial.props.row l.initial.nodes.numbers.now l.initial.props.numbers.now l.p l.nodes.row l.props.row l.token l.nodes.numbers.now l.props.numbers.now
    × ((l.nodes.numbers.ghost_name ≡ l.initial.nodes.numbers.ghost_name) × (l.props.numbers.ghost_name ≡ l.initial.props.numbers.ghost_name))

abbrev pub decreases-loop-token : goal.decreases-loop-token
decreases-loop-token l = length l.blob.bytes.now + 4 - l.p

abbrev pub decreases-write_node : goal.decreases-write_node
decreases-write_node l = l.depth
