-- `lines::spelled::hex` meets its contract. The loop's invariant, `Hexed`: the bytes put so far, before what the rest of the
-- digits spell, are what all of them spell. Assumes nothing.
use native.Mathlib.Omega.{arith}
use mathlib.Core.Path.{sym, ◌∙◌}
use Rattle.lines.proofs.FieldLaws.{hex_step, hex_bad, pair_at}
use Rattle.lines.proofs.spelled.hex.Goals as goal

pub returns-in_err-out : goal.returns-in_err-out
returns-in_err-out c =
    let len = c.as_chunks.ensures.front_len in
    let e = pair_at _ _ c.loop-i.i c.as_chunks.ensures.front (omega arith) in
    rw c.from_residual.ensures record { within = omega arith; same = sym (hex_bad c.loop-i.invariant (omega arith) (rw e at c.in_err-out.ensures)) }

pub loop-i-preserved : goal.loop-i-preserved
loop-i-preserved c =
    let len = c.as_chunks.ensures.front_len in
    let e = pair_at _ _ c.loop-i.i c.as_chunks.ensures.front (omega arith) in
    hex_step c.loop-i.invariant (omega arith) _ (rw e at c.in_ok-out.ensures.0) (c.in_ok-out.ensures.1 ∙ e)
