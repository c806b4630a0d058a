-- `read_bstring0` meets its promise: the first zero byte from pos on ends the string. Assumes nothing.
use mathlib.Core.Path.{sym}
use mathlib.Core.Logic.{inl, inr}
use native.Mathlib.Omega.{arith}
use Rattle.format.specs.Results.{outcome_of}
use Rattle.reader.specs.Outcomes.{why_of, tells}
use Rattle.reader.proofs.Strings.{nothing_past, string_placed, string_unplaced}
use Rattle.reader.proofs.Parts.{rest_is}
use Rattle.reader.proofs.read_bstring0.Goals as goal

pub returns-in_default : goal.returns-in_default
unfolding outcome_of why_of
returns-in_default c =
    elim c.in_default.ensures.lookup.0 [ inl h ↦ sym (nothing_past _ _ (omega arith)) | inr h ↦ absurd (omega arith) ]

pub returns-then-len-rest : goal.returns-then-len-rest
unfolding outcome_of why_of
returns-then-len-rest c = sym (string_unplaced _ _ (rest_is c.args.buf.now c.args.pos c.in-Some.ensures.lookup.0.2) (rw (sym c.first_zero.ensures) c.unwrap_or-len.ensures) c.if-len-rest.true)

pub returns : goal.returns
unfolding outcome_of tells
returns c = sym (string_placed _ _ (rest_is c.args.buf.now c.args.pos c.in-Some.ensures.lookup.0.2) (rw (sym c.first_zero.ensures) c.unwrap_or-len.ensures) c.if-len-rest.false)
