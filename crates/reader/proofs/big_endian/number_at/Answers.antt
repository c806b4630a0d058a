-- `number_at` meets its promise: the number that is there, or 0. Assumes nothing.
use mathlib.Core.Path.{ap, ◌∙◌}
use Rattle.reader.proofs.Outcomes.{or_zero_of}
use Rattle.reader.proofs.big_endian.number_at.Goals as goal

pub returns : goal.returns
returns g c = ap g.T.BigEndian.value c.unwrap_or.ensures ∙ or_zero_of _ _ _ c.zero.ensures c.read_be.ensures
