-- What is read of an input and not yet taken, and the line so far. Assumes nothing.
use Rattle.std.specs.Prelude.{ℕ, ◌-◌, List, take, drop}
use Rattle.lines.specs.declared.reading.Line.{Line}
use Rattle.lines.specs.declared.reading.Input.{Input}

abbrev pub so_far : Line → List ℕ
so_far l = take l.len l.bytes

abbrev pub left : {R : Type 0} → Input R → List ℕ
left i = take (i.end - i.at) (drop i.at i.bytes)
