-- `scan` meets its contract. The invariant: the list from p on ends where the list from pos on does. The measure is what is left of the
-- blob. Assumes nothing.
use mathlib.Core.Path.{sym, ◌∙◌}
use native.Mathlib.Omega.{arith}
use Rattle.format.specs.Results.{outcome_of}
use Rattle.format.proofs.Read.{read_inside}
use Rattle.reader.proofs.Outcomes.{got_number, none}
use Rattle.survey.proofs.Exits.{short}
use Rattle.survey.proofs.ReserveLaws.{scan_short, offset_there, scan_last, scan_more}
use Rattle.survey.proofs.reserve.scan.Goals as goal

pub returns-in_err-size : goal.returns-in_err-size
returns-in_err-size c =
    short _ c.from_residual.ensures.1 (c.loop-size.invariant.0 ∙ scan_short _ _ (none _ _ c.in_err-size.ensures))

pub returns-then-size-eq0 : goal.returns-then-size-eq0
unfolding outcome_of
returns-then-size-eq0 c =
    let size = got_number c.in_ok-size.ensures in
    sym (c.loop-size.invariant.0 ∙ scan_last _ _ (offset_there _ _ size) size c.if-size-eq0.true)

pub loop-size-smaller : goal.loop-size-smaller
loop-size-smaller c = omega (arith, read_inside _ 8 _ (got_number c.in_ok-size.ensures))

pub loop-size-preserved : goal.loop-size-preserved
loop-size-preserved c =
    let inv = c.loop-size.invariant in
    let size = got_number c.in_ok-size.ensures in (
      inv.0 ∙ scan_more _ _ (offset_there _ _ size) size c.if-size-eq0.false,
      omega (arith, read_inside _ 8 _ size),
    )
