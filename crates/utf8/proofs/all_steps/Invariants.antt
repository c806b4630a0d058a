-- `all_steps` meets its promise. The invariant: the bytes are UTF-8 exactly where those from the next one on are what the state expects.
-- Assumes nothing.
use Rattle.std.specs.Prelude.{◌≡◌, ◌<◌, length, drop}
use Rattle.format.specs.Utf8.{from_utf8}
use Rattle.utf8.specs.Expected.{states, expected, goes}
use Rattle.utf8.proofs.all_steps.Given as goal

abbrev pub invariant-loop-x : goal.invariant-loop-x
invariant-loop-x l =
    (l.state < length states) × (from_utf8 l.buf ≡ goes (expected l.state) (drop l.x-index l.buf))
