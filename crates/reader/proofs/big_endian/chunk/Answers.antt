-- `chunk` meets its promise: the bytes that are cut out at pos are those at pos. Assumes nothing.
use native.Mathlib.Omega.{arith}
use Rattle.reader.proofs.Parts.{cut_there}
use Rattle.reader.proofs.big_endian.chunk.Goals as goal

pub returns-in-Some-clause-ok : goal.returns-in-Some-clause-ok
returns-in-Some-clause-ok g c = cut_there _ _ _ (omega arith) c.in-Some.ensures.cases.same
