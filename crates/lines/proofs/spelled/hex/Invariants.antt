-- `lines::spelled::hex` meets its contract. The loop's invariant, `Hexed`: the bytes put so far, before what the rest of the
-- digits spell, are what all of them spell. Assumes nothing.
use lib.ListN.{length}
use Rattle.lines.proofs.FieldLaws.{Hexed}
use Rattle.lines.proofs.spelled.hex.Given as goal

abbrev pub invariant-loop-i : goal.invariant-loop-i
invariant-loop-i l = Hexed (length l.initial.out) l.s l.out l.i
