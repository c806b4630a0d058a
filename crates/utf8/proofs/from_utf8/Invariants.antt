-- `from_utf8` meets its promise. The invariant: the bytes are UTF-8 exactly where those from i on are. Assumes nothing.
use Rattle.std.specs.Prelude.{◌≡◌, [], drop}
use Rattle.format.specs.Utf8.{goes_on, from_utf8}
use Rattle.utf8.proofs.from_utf8.Given as goal

abbrev pub invariant-loop-i : goal.invariant-loop-i
invariant-loop-i l = from_utf8 l.buf ≡ goes_on [] (drop l.i l.buf)
