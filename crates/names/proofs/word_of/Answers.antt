-- `word_of` meets its contract, a byte after the other. Assumes nothing.
use native.Mathlib.Omega.{arith}
use mathlib.Core.Path.{◌∙◌}
use Rattle.names.specs.Words.{lowest}
use Rattle.names.proofs.word_of.Goals as goal

pub returns : goal.returns
unfolding lowest
returns c = c.from_le_bytes.ensures ∙ omega arith
