-- `write_props` meets its contract. The loop's invariant: what is left to write from p on leaves what writing from pos on leaves.
-- Each turn goes further on. Assumes nothing.
use mathlib.Core.Path.{◌≡◌}
use Prim.Native.Nat.{◌+◌, ◌-◌}
use lib.ListN.{length}
use Rattle.survey.specs.Nodes.{block}
use Rattle.loader.proofs.PropLaws.{PropsInv}
use Rattle.loader.proofs.write.write_props.Given as goal

abbrev pub invariant-loop-props : goal.invariant-loop-props
invariant-loop-props l = PropsInv l.blob.bytes.now (block l.blob.strings) l.pos l.initial.props.row l.initial.props.numbers.now l.p l.props.row l.props.numbers.now
    × (l.props.numbers.ghost_name ≡ l.initial.props.numbers.ghost_name)

abbrev pub decreases-loop-props : goal.decreases-loop-props
decreases-loop-props l = length l.blob.bytes.now + 4 - l.p
