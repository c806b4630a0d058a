-- `plain_words` meets its contract: no slash stands in the words before the one that is looked at. Assumes nothing.
use Prim.Native.Nat.{◌*◌}
use Rattle.names.specs.Words.{Scan}
use Rattle.names.proofs.plain_words.Given as goal

abbrev pub invariant-loop-i : goal.invariant-loop-i
invariant-loop-i l = Scan l.path (l.i * 4)
