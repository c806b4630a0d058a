-- `lines::spelled::gather` meets its contract. The loop's invariant, `Gathered`: the words put so far are the first words.
-- Assumes nothing.
use lib.ListN.{length}
use Rattle.lines.proofs.FieldLaws.{Gathered}
use Rattle.lines.proofs.spelled.gather.Given as goal

abbrev pub invariant-loop-i : goal.invariant-loop-i
invariant-loop-i l = Gathered (length l.initial.out) l.s l.out l.i
