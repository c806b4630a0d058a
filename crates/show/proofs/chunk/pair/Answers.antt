-- `show::chunk::pair` gives what `{:02x}` writes. Assumes nothing.
use Rattle.std.proofs.Common.{sym, arith}
use Rattle.std.proofs.lemmas.Fmt.{hex_byte}
use Rattle.std.specs.Prelude.{false}
use Rattle.show.proofs.chunk.pair.Goals as goal

pub returns : goal.returns
returns c = rw (c.digit.ensures, c.digit-2.ensures) (sym (hex_byte false c.args.b (omega arith)))
