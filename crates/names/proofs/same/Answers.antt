-- `same` meets its contract: names of different lengths differ, and short ones are compared by `==`, pair by pair. Assumes nothing.
use mathlib.Core.Path.{◌∙◌}
use Rattle.names.proofs.NameLaws.{length_differs, pairs_same}
use Rattle.names.proofs.same.Goals as goal

pub returns-then-s-t : goal.returns-then-s-t
returns-then-s-t c = length_differs _ _ c.if-s-t.true

pub returns-then-s-lt-WORD : goal.returns-then-s-lt-WORD
returns-then-s-lt-WORD c = c.eq.ensures ∙ pairs_same c.args.s.now c.args.t.now

pub returns : goal.returns
returns c = c.same_bytes.ensures
