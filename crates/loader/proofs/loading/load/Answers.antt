-- `load` meets its contract: what the survey refuses is refused, then the room is judged in the order 8, 9, 10, and only what has passed
-- is stored. The laws say that the stores are ready and that what they leave is what a load is to leave. Assumes nothing.
use mathlib.Core.Path.{sym, ◌∙◌}
use borrow.Author.Rules.{rules}
use Rattle.survey.specs.Outcomes.{why_of}
use Rattle.format.specs.Format.{reservation_width, node_width, property_width, NONE}
use Rattle.format.specs.Load.{capacity}
use Rattle.format.specs.Results.{outcome_of}
use Rattle.format.specs.Rules.{ours}
use Rattle.loader.specs.Pass.{passed}
use Rattle.loader.specs.Numbers.{lent}
use Rattle.loader.proofs.LoadLaws.{handed, survey_refuses, no_reservation_room, no_node_room, no_property_room, blob_small, stores_ready, writes_ready, loaded, passes_when}
use Rattle.loader.proofs.loading.load.Goals as goal

pub returns-in_err-plan : goal.returns-in_err-plan
unfolding outcome_of
returns-in_err-plan c = handed _ _ _ _ c.from_residual.ensures.1 (survey_refuses _ _ (sym c.in_err-plan.ensures))

pub returns-in_err-room : goal.returns-in_err-room
unfolding outcome_of why_of lent capacity reservation_width
returns-in_err-room c =
    handed _ _ _ _ c.from_residual-in_err-room.ensures.1
    (no_reservation_room _ _ _ (sym c.in_ok-plan.ensures) (sym c.in_err-room.ensures))

pub returns-in_err-room-2 : goal.returns-in_err-room-2
unfolding outcome_of why_of lent capacity reservation_width node_width
returns-in_err-room-2 c =
    handed _ _ _ _ c.from_residual-in_err-room-2.ensures.1
    (no_node_room _ _ _ (sym c.in_ok-plan.ensures) (sym c.in_ok-room.ensures) (sym c.in_err-room-2.ensures))

pub returns-in_err-room-3 : goal.returns-in_err-room-3
unfolding outcome_of why_of lent capacity reservation_width node_width property_width
returns-in_err-room-3 c =
    handed _ _ _ _ c.from_residual-in_err-room-3.ensures.1
    (no_property_room _ _ _ (sym c.in_ok-plan.ensures) (sym c.in_ok-room.ensures) (sym c.in_ok-room-2.ensures) (sym c.in_err-room-3.ensures))

pub store-requires : goal.store-requires
unfolding outcome_of why_of lent capacity reservation_width node_width property_width
store-requires c =
    rw (c.new-reserved.ensures.row, c.new-reserved.ensures.numbers)
    (stores_ready
    (passes_when _ _ _ c.in_ok-plan.ensures c.in_ok-room.ensures c.in_ok-room-2.ensures c.in_ok-room-3.ensures c.type_inv.b))

pub write_node-requires : goal.write_node-requires
unfolding outcome_of why_of lent ours capacity reservation_width node_width property_width
write_node-requires c =
    rw (c.new-nodes.ensures.row, c.new-nodes.ensures.numbers, c.new-props.ensures.row, c.new-props.ensures.numbers)
    (writes_ready
    (passes_when _ _ _ c.in_ok-plan.ensures c.in_ok-room.ensures c.in_ok-room-2.ensures c.in_ok-room-3.ensures c.type_inv.b))

pub invariant_of-blob : goal.invariant_of-blob
unfolding outcome_of why_of lent capacity reservation_width node_width property_width
invariant_of-blob c = record {
  are_bytes = λ i. (c.type_inv.b i).fits;
  small = blob_small
      (passes_when _ _ _ c.in_ok-plan.ensures c.in_ok-room.ensures c.in_ok-room-2.ensures c.in_ok-room-3.ensures c.type_inv.b);
}

pub returns : goal.returns
unfolding outcome_of why_of lent NONE passed capacity reservation_width node_width property_width
returns c =
    let stored = rw (c.new-reserved.ensures.row, c.new-reserved.ensures.numbers) at c.store.ensures.stored in
    let written = rw (c.new-nodes.ensures.row, c.new-nodes.ensures.numbers, c.new-props.ensures.row, c.new-props.ensures.numbers) at c.write_node.ensures.stored in
    let done = loaded
    (passes_when _ _ _ c.in_ok-plan.ensures c.in_ok-room.ensures c.in_ok-room-2.ensures c.in_ok-room-3.ensures c.type_inv.b)
    stored written in
    let reserved = c.store.ensures.lent ∙ c.new-reserved.ensures.lent in
    let nodes = c.write_node.ensures.lent_nodes ∙ c.new-nodes.ensures.lent in
    let props = c.write_node.ensures.lent_props ∙ c.new-props.ensures.lent in
    search rules
