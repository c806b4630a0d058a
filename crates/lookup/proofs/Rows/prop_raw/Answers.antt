-- `prop_raw` meets its contract, by its four returns. Assumes nothing.
use Rattle.std.proofs.Common.{sym, ap, ◌∙◌}
use Rattle.format.specs.Results.{outcome_of}
use Rattle.format.proofs.Results.{hands_on}
use Rattle.lookup.specs.Answers.{why_of}
use Rattle.lookup.proofs.PathLaws.{used}
use Rattle.lookup.proofs.PropertyLaws.{raw_unusable, raw_many, raw_past, raw_rows, raw_among}
use Rattle.lookup.proofs.Rows.prop_raw.Goals as goal

pub returns-in_err-nodes : goal.returns-in_err-nodes
unfolding outcome_of why_of
returns-in_err-nodes c =
    let no = c.in_err-nodes.ensures.err in
    hands_on why_of _ _ c.from_residual.ensures.1 (λ y q. ap why_of (q ∙ no.1)) (sym (raw_unusable _ _ _ _ _ _ _ no.0))

pub returns-then-props-self : goal.returns-then-props-self
unfolding outcome_of why_of
returns-then-props-self c = raw_many _ _ _ _ _ _ _ c.in_ok-nodes.ensures.ok.0 (rw c.as_chunks.ensures.front_len at c.if-props-self.true)

pub node_at-node-requires : goal.node_at-node-requires
node_at-node-requires c = let is = c.in_ok-nodes.ensures.ok in rw is.1 (used _ _ _ is.0)

pub returns-then-not-lies_in : goal.returns-then-not-lies_in
unfolding outcome_of why_of
returns-then-not-lies_in c =
    let is = c.in_ok-nodes.ensures.ok in
    raw_past _ _ _ _ _ _ _ is.0 (rw c.as_chunks.ensures.front_len at c.if-props-self.false) _ (rw is.1 at c.node_at-node.ensures) (sym c.lies_in.ensures ∙ c.if-not-lies_in.true)

pub returns : goal.returns
returns c =
    let is = c.in_ok-nodes.ensures.ok in
    let chunks = c.as_chunks.ensures in
    let few = rw chunks.front_len at c.if-props-self.false in
    let node = rw is.1 at c.node_at-node.ensures in
    let inside = sym c.lies_in.ensures ∙ c.if-not-lies_in.false in
    c.first_named.ensures _ _ (raw_rows c.args.self.now.nodes.blob.now _ _ _ _ _ c.args.name.now is.0 few _ node inside _ chunks.front chunks.front_len)
    ∙ raw_among _ _ _ _ _ _ _ is.0 few _ node inside _ chunks.front chunks.front_len
