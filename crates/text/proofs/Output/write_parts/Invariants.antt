-- `text::Output::write_parts` ends, since each write takes a byte or more; and what is gone from `rest` was written. Assumes nothing.
use Rattle.std.proofs.Common.{◌≡◌, ℕ, List, ◌++◌, length}
use Rattle.std.specs.Io.KnownBytes.{Appends}
use Rattle.text.specs.Held.{held}
use Rattle.text.proofs.Output.write_parts.Given as goal

abbrev pub invariant-loop-rest : goal.invariant-loop-rest
invariant-loop-rest g l =
    (done : List ℕ) × (l.initial.rest ≡ done ++ l.rest) × Appends (held g.W.Write.contents l.initial.self) (held g.W.Write.contents l.self) done

abbrev pub decreases-loop-rest : goal.decreases-loop-rest
decreases-loop-rest g l = length l.rest
