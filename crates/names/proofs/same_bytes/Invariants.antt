-- `same_bytes` meets its contract: before each turn every byte after the word at i is the same. Assumes nothing.
use Prim.Native.Nat.{◌+◌, ◌≤◌}
use lib.ListN.{length}
use Rattle.names.proofs.NameLaws.{Alike}
use Rattle.names.proofs.same_bytes.Given as goal

abbrev pub invariant-loop-i : goal.invariant-loop-i
invariant-loop-i l = (l.i + 4 ≤ length l.s) × Alike l.s l.t (l.i + 4)

abbrev pub decreases-loop-i : goal.decreases-loop-i
decreases-loop-i l = l.i
