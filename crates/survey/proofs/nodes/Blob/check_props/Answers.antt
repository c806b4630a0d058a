-- `check_props` meets its contract. The invariant: what is left from p on, with the n counted, is what there is from pos on.
-- The measure is what is left of the blob. Assumes nothing.
use borrow.Author.Rules.{rules}
use mathlib.Core.Path.{sym, ◌∙◌}
use native.Mathlib.Omega.{arith}
use Rattle.format.specs.Results.{outcome_of}
use Rattle.format.proofs.Read.{read_inside}
use Rattle.format.proofs.Turns.{property_moves}
use Rattle.reader.proofs.Tokens.{token_word, word_missing, is_prop, not_prop}
use Rattle.survey.proofs.Exits.{handed, short}
use Rattle.survey.proofs.CountLaws.{from_start, from_past, from_stop, from_bad, from_good}
use Rattle.survey.proofs.nodes.Blob.check_props.Goals as goal

pub loop-p-init : goal.loop-p-init
loop-p-init c = (from_start _ _ _, search rules)

pub returns-in_err-read : goal.returns-in_err-read
returns-in_err-read c =
    short _ c.from_residual.ensures.1 (c.loop-p.invariant.0 ∙ from_past _ _ _ _ (word_missing _ _ _ c.in_err-read.ensures))

pub check_prop-requires : goal.check_prop-requires
check_prop-requires c = read_inside _ 4 _ (token_word _ _ _ c.in_ok-read.ensures)

pub returns-in_err-p : goal.returns-in_err-p
unfolding outcome_of
returns-in_err-p c =
    handed _ _ c.from_residual-in_err-p.ensures.1
    (c.loop-p.invariant.0 ∙ from_bad _ _ _ _ (token_word _ _ _ c.in_ok-read.ensures) (is_prop c.in-Prop.is) (sym c.in_err-p.ensures))

pub overflow_add-n : goal.overflow_add-n
overflow_add-n c = record { fits = omega (arith, read_inside _ 4 _ (token_word _ _ _ c.in_ok-read.ensures)) }

pub loop-p-smaller : goal.loop-p-smaller
unfolding outcome_of
loop-p-smaller c = omega (arith, read_inside _ 4 _ (token_word _ _ _ c.in_ok-read.ensures), property_moves _ _ _ _ (sym c.in_ok-p.ensures))

pub loop-p-preserved : goal.loop-p-preserved
unfolding outcome_of
loop-p-preserved c =
    let inv = c.loop-p.invariant in (
      inv.0 ∙ from_good _ _ _ _ (token_word _ _ _ c.in_ok-read.ensures) (is_prop c.in-Prop.is) (sym c.in_ok-p.ensures),
      omega (arith, inv.1, property_moves _ _ _ _ (sym c.in_ok-p.ensures)),
    )

pub returns : goal.returns
unfolding outcome_of
returns c = sym (c.loop-p.invariant.0 ∙ from_stop _ _ _ _ (token_word _ _ _ c.in_ok-read.ensures) (not_prop _ _ _ c.in_ok-read.ensures c.in_default.not-Prop))
