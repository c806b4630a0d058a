-- A line is shown byte by byte. Assumes nothing.
use Rattle.show.specs.Escaped.{in_line, line}
use Rattle.show.proofs.escape.LineDisplay.fmt.Goals as goal

pub returns-clause-writes : goal.returns-clause-writes
unfolding line
returns-clause-writes g c = c.all.ensures.writes in_line (λ b r small same. same)
