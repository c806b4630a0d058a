-- `check_end` meets its contract: the token first, the name after it. Assumes nothing.
use mathlib.Core.Path.{sym}
use native.Mathlib.Omega.{arith}
use Rattle.format.specs.Results.{outcome_of}
use Rattle.format.proofs.Read.{read_inside}
use Rattle.reader.proofs.Tokens.{token_word, word_missing, is_end, not_end}
use Rattle.utf8.proofs.Outcomes.{checked_good, checked_bad}
use Rattle.survey.specs.Outcomes.{why_of}
use Rattle.survey.proofs.Exits.{short, not_utf8}
use Rattle.survey.proofs.CountLaws.{end_past, end_other, end_bad_name, end_good}
use Rattle.survey.proofs.nodes.check_end.Goals as goal

pub returns-in_err-read : goal.returns-in_err-read
returns-in_err-read c = short _ c.from_residual.ensures.1 (end_past _ _ _ _ (word_missing _ _ _ c.in_err-read.ensures))

pub returns-in_default : goal.returns-in_default
unfolding outcome_of why_of
returns-in_default c =
    sym (end_other _ _ _ _ (token_word _ _ _ c.in_ok-read.ensures) (not_end _ _ _ c.in_ok-read.ensures c.in_default.not-EndNode))

pub returns-in_err-from_utf8 : goal.returns-in_err-from_utf8
returns-in_err-from_utf8 c =
    not_utf8 _ c.from_residual-in_err-from_utf8.ensures.1
    (end_bad_name _ _ _ _ (token_word _ _ _ c.in_ok-read.ensures) (is_end c.in-EndNode.is) (checked_bad c.in_err-from_utf8.ensures))

pub overflow_add-result : goal.overflow_add-result
overflow_add-result c = record { fits = omega (arith, read_inside _ 4 _ (token_word _ _ _ c.in_ok-read.ensures)) }

pub returns : goal.returns
unfolding outcome_of
returns c =
    sym (end_good _ _ _ _ (token_word _ _ _ c.in_ok-read.ensures) (is_end c.in-EndNode.is) (checked_good c.in_ok-from_utf8.ensures))
