-- `check_head` meets its contract: the steps of `node_load` up to the children, in its order. Assumes nothing.
use mathlib.Core.Path.{sym}
use native.Mathlib.Omega.{arith}
use Rattle.format.specs.Results.{outcome_of}
use Rattle.format.proofs.Read.{read_inside}
use Rattle.reader.proofs.Tokens.{token_word, word_missing, is_begin, not_begin}
use Rattle.reader.proofs.Parts.{span_part, span_none}
use Rattle.survey.specs.Outcomes.{why_of}
use Rattle.survey.proofs.Exits.{handed, short}
use Rattle.survey.proofs.CountLaws.{told_inside, head_past, head_other, head_no_name, head_bad, head_good}
use Rattle.survey.proofs.nodes.Blob.check_head.Goals as goal

pub returns-in_err-read : goal.returns-in_err-read
returns-in_err-read c = short _ c.from_residual.ensures.1 (head_past _ _ _ (word_missing _ _ _ c.in_err-read.ensures))

pub returns-in_default : goal.returns-in_default
unfolding outcome_of why_of
returns-in_default c =
    sym (head_other _ _ _ (token_word _ _ _ c.in_ok-read.ensures) (not_begin _ _ _ c.in_ok-read.ensures c.in_default.not-BeginNode))

pub overflow_add-pos : goal.overflow_add-pos
overflow_add-pos c = record { fits = omega (arith, read_inside _ 4 _ (token_word _ _ _ c.in_ok-read.ensures)) }

pub returns-in_err-name : goal.returns-in_err-name
returns-in_err-name c =
    short _ c.from_residual-in_err-name.ensures.1
    (head_no_name _ _ _ (token_word _ _ _ c.in_ok-read.ensures) (is_begin c.in-BeginNode.is) (span_none _ _ _ c.in_err-name.ensures))

pub overflow_add-pos-2 : goal.overflow_add-pos-2
overflow_add-pos-2 c = record { fits = omega (arith, told_inside _ _ (span_part _ _ c.in_ok-name.ensures)) }

pub overflow_add-pos-3 : goal.overflow_add-pos-3
overflow_add-pos-3 c = record { fits = omega (arith, told_inside _ _ (span_part _ _ c.in_ok-name.ensures)) }

pub overflow_add-pos-4 : goal.overflow_add-pos-4
overflow_add-pos-4 c = record { fits = omega (arith, told_inside _ _ (span_part _ _ c.in_ok-name.ensures)) }

pub returns-in_err-own : goal.returns-in_err-own
unfolding outcome_of
returns-in_err-own c =
    handed _ _ c.from_residual-in_err-own.ensures.1
    (head_bad _ _ _ (token_word _ _ _ c.in_ok-read.ensures) (is_begin c.in-BeginNode.is) c.args.self.now.small.blob
    (span_part _ _ c.in_ok-name.ensures) c.aligned.ensures (sym c.in_err-own.ensures))

pub returns : goal.returns
unfolding outcome_of
returns c =
    sym (head_good _ _ _ (token_word _ _ _ c.in_ok-read.ensures) (is_begin c.in-BeginNode.is) c.args.self.now.small.blob
    (span_part _ _ c.in_ok-name.ensures) c.aligned.ensures (sym c.in_ok-own.ensures))
