-- `check_node` meets its contract. The depth falls from call to call. The loop's invariant: what is left of the node from p on, with what
-- is counted, gives what the whole node gives; its measure is what is left of the blob. Assumes nothing.
use mathlib.Core.Path.{sym}
use native.Mathlib.Omega.{arith}
use Rattle.format.specs.Bytes.{AreBytes}
use Rattle.format.specs.Results.{outcome_of}
use Rattle.reader.proofs.Tokens.{token_word, word_missing, is_begin, not_begin}
use Rattle.survey.specs.Outcomes.{why_of}
use Rattle.survey.proofs.Exits.{handed, short}
use Rattle.survey.proofs.CountLaws.{node_deep, node_no_head, node_head, node_spans, left_past, left_bad_child, left_child, left_bad_end, left_good}
use Rattle.survey.proofs.nodes.Blob.+check_node.Goals as goal

pub returns-then-depth-eq0 : goal.returns-then-depth-eq0
unfolding outcome_of why_of
returns-then-depth-eq0 t c = sym (node_deep _ _ _ _ c.if-depth-eq0.true)

pub returns-in_err-head : goal.returns-in_err-head
unfolding outcome_of
returns-in_err-head t c = handed _ _ c.from_residual.ensures.1 (node_no_head _ _ _ _ c.if-depth-eq0.false (sym c.in_err-head.ensures))

pub loop-child-init : goal.loop-child-init
unfolding outcome_of
loop-child-init t c = node_head _ _ _ _ c.if-depth-eq0.false (sym c.in_ok-head.ensures)

pub returns-in_err-read : goal.returns-in_err-read
returns-in_err-read t c = short _ c.from_residual-in_err-read.ensures.1 (left_past _ _ c.loop-child.invariant (word_missing _ _ _ c.in_err-read.ensures))

pub returns-in_err-child : goal.returns-in_err-child
unfolding outcome_of
returns-in_err-child t c =
    handed _ _ c.from_residual-in_err-child.ensures.1
    (left_bad_child _ _ c.loop-child.invariant (token_word _ _ _ c.in_ok-read.ensures) (is_begin c.in-BeginNode.is) (sym c.in_err-child.ensures))

pub overflow_add-n : goal.overflow_add-n
unfolding AreBytes outcome_of
overflow_add-n t c = record { fits = omega (arith, node_spans _ _ c.args.self.now.are_bytes _ _ (sym c.in_ok-child.ensures)) }

pub overflow_add-k : goal.overflow_add-k
unfolding AreBytes outcome_of
overflow_add-k t c = record { fits = omega (arith, node_spans _ _ c.args.self.now.are_bytes _ _ (sym c.in_ok-child.ensures)) }

pub loop-child-smaller : goal.loop-child-smaller
unfolding AreBytes outcome_of
loop-child-smaller t c = omega (arith, node_spans _ _ c.args.self.now.are_bytes _ _ (sym c.in_ok-child.ensures))

pub loop-child-preserved : goal.loop-child-preserved
unfolding AreBytes outcome_of
loop-child-preserved t c =
    left_child _ _ c.loop-child.invariant (token_word _ _ _ c.in_ok-read.ensures) (is_begin c.in-BeginNode.is) c.args.self.now.are_bytes (sym c.in_ok-child.ensures)

pub overflow_add-pos : goal.overflow_add-pos
overflow_add-pos t c = record { fits = omega (arith, c.loop-child.invariant.name, c.args.self.now.small.blob) }

pub check_end-requires : goal.check_end-requires
check_end-requires t c = omega (arith, c.loop-child.invariant.name)

pub returns-in_err-next : goal.returns-in_err-next
unfolding outcome_of
returns-in_err-next t c =
    handed _ _ c.from_residual-in_err-next.ensures.1
    (left_bad_end _ _ c.loop-child.invariant (token_word _ _ _ c.in_ok-read.ensures) (not_begin _ _ _ c.in_ok-read.ensures c.in_default.not-BeginNode) (sym c.in_err-next.ensures))

pub returns : goal.returns
unfolding outcome_of
returns t c =
    sym (left_good _ _ c.loop-child.invariant (token_word _ _ _ c.in_ok-read.ensures) (not_begin _ _ _ c.in_ok-read.ensures c.in_default.not-BeginNode) (sym c.in_ok-next.ensures))
