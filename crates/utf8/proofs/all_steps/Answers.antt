-- `all_steps` meets its promise. The invariant: the bytes are UTF-8 exactly where those from the next one on are what the state expects.
-- Assumes nothing.
use mathlib.Core.Path.{refl, sym, ◌∙◌}
use native.Mathlib.Omega.{arith}
use borrow.Author.Tests.{eq-eqb, ne_eqb}
use Rattle.format.specs.Utf8.{from_utf8}
use Rattle.format.specs.Read.{utf8_check}
use Rattle.format.proofs.Answer.{check_ok, check_no}
use Rattle.format.specs.Results.{outcome_of}
use Rattle.utf8.specs.Outcomes.{why_of}
use Rattle.utf8.specs.Expected.{states, expects, expected, goes}
use Rattle.utf8.proofs.Expected.{turn, at_end}
use Rattle.utf8.proofs.all_steps.Goals as goal

pub loop-x-init : goal.loop-x-init
unfolding from_utf8 goes expected expects states
loop-x-init c = (omega arith, refl)

pub step-state-requires : goal.step-state-requires
step-state-requires c =
    (c.requires, c.loop-x.invariant.0)

pub loop-x-preserved : goal.loop-x-preserved
loop-x-preserved c =
    let inv = c.loop-x.invariant in
    let next = c.step-state.ensures in
    (next.0, inv.1 ∙ turn _ _ c.loop-x-test.true _ _ next.1)

pub returns-then-state-eq-NOTHING : goal.returns-then-state-eq-NOTHING
unfolding outcome_of why_of utf8_check
returns-then-state-eq-NOTHING c =
    let inv = c.loop-x.invariant in
    sym (check_ok _ (inv.1 ∙ at_end _ _ c.loop-x-test.false _ inv.0 ∙ eq-eqb _ 0 c.if-state-eq-NOTHING.true))

pub returns : goal.returns
unfolding outcome_of why_of utf8_check
returns c =
    let inv = c.loop-x.invariant in
    sym (check_no _ (inv.1 ∙ at_end _ _ c.loop-x-test.false _ inv.0 ∙ ne_eqb _ 0 c.if-state-eq-NOTHING.false))
