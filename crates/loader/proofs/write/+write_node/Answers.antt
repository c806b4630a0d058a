-- `write_node` meets its contract. It is a cycle of calls of its own: the depth falls. The loop's invariant: what is left to write from
-- p on leaves what writing the children from the first one on leaves. Each turn goes further on. Assumes nothing.
use mathlib.Core.Path.{refl, ◌∙◌}
use native.Mathlib.Omega.{arith}
use Rattle.loader.specs.Pass.{passed}
use Rattle.loader.proofs.ChildLaws.{node_head, node_start, node_end}
use Rattle.loader.proofs.ChildLaws.{turn_inside, child_ready, child_few, child_room, child_less, child_again}
use Rattle.loader.proofs.write.+write_node.Goals as goal

pub write_head-p-requires : goal.write_head-p-requires
write_head-p-requires t c = node_head c.requires

pub loop-token-init : goal.loop-token-init
loop-token-init t c = (node_start c.requires c.write_head-p.ensures.stored c.at-token.ensures, (refl, refl))

pub write_node-p-requires : goal.write_node-p-requires
write_node-p-requires t c =
    let inv = c.loop-token.invariant.0 in
    (omega (arith, inv.deep), child_ready inv c.in-BeginNode.is)

pub overflow_cast-nodes : goal.overflow_cast-nodes
overflow_cast-nodes t c =
    record { fits = child_few c.loop-token.invariant.0 c.in-BeginNode.is _ _ _ _ _ c.write_node-p.ensures.stored }

pub link-requires : goal.link-requires
link-requires t c =
    child_room c.loop-token.invariant.0 c.in-BeginNode.is _ _ _ _ _ c.write_node-p.ensures.stored

pub loop-token-smaller : goal.loop-token-smaller
loop-token-smaller t c =
    child_less c.loop-token.invariant.0 c.in-BeginNode.is _ _ _ _ _ c.write_node-p.ensures.stored

pub loop-token-preserved : goal.loop-token-preserved
loop-token-preserved t c = (
  child_again c.loop-token.invariant.0 c.in-BeginNode.is _ _ _ _ _ c.write_node-p.ensures.stored
      c.at-token-in-BeginNode.ensures (c.link.ensures.some, c.link.ensures.none),
  (c.write_node-p.ensures.lent_nodes ∙ c.loop-token.invariant.1.0, c.write_node-p.ensures.lent_props ∙ c.loop-token.invariant.1.1),
)

pub overflow_add-result : goal.overflow_add-result
overflow_add-result t c =
    record { fits = omega (arith, turn_inside c.loop-token.invariant.0, c.args.blob.now.small.blob) }

pub returns-clause-stored : goal.returns-clause-stored
unfolding passed
returns-clause-stored t c =
    node_end c.requires c.write_head-p.ensures.stored c.loop-token.invariant.0 c.in_default.not-BeginNode
