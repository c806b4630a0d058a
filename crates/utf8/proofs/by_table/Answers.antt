-- `by_table` meets its promise. The table's rule is computed here, once, over all entries of the source's table. Assumes nothing.
use mathlib.Core.Path.{refl}
use Rattle.format.specs.Choice.{when◌then◌else◌}
use Rattle.format.specs.Utf8.{leading_ones, tail, second, within, further_by, further}
use Rattle.utf8.specs.Expected.{states, expects, expected, after, digit, entry}
use Rattle.utf8.proofs.Expected.{values, grid, said, table}
use Rattle.utf8.proofs.by_table.Goals as goal

pub all_steps-requires : goal.all_steps-requires
unfolding values grid said states expects expected after digit entry leading_ones tail second within further_by further when◌then◌else◌
all_steps-requires c = table _ refl refl
