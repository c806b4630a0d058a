-- `lines::spelled::gather` meets its contract. The loop's invariant, `Gathered`: the words put so far are the first words.
-- Assumes nothing.
use native.Mathlib.Omega.{arith}
use Rattle.lines.proofs.FieldLaws.{gather_step, word_at}
use Rattle.lines.proofs.spelled.gather.Goals as goal

pub loop-i-preserved : goal.loop-i-preserved
loop-i-preserved c =
    let len = c.as_chunks.ensures.front_len in
    gather_step c.loop-i.invariant _ (word_at _ _ c.loop-i.i _ c.as_chunks.ensures.front (omega arith) c.from_be_bytes.ensures) (omega arith)
