-- `string_len` meets its promise: the length that `read_bstring0` gives, or 0. Assumes nothing.
use Rattle.reader.proofs.Parts.{span_size, none_size}
use Rattle.reader.proofs.string_len.Goals as goal

pub returns-in_default : goal.returns-in_default
returns-in_default c = none_size _ _ _ c.in_default.ensures

pub returns : goal.returns
returns c = span_size _ _ _ c.in-Ok.ensures
