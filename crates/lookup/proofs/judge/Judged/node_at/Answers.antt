-- `node_at` meets its contract: each number stands where it is read (`cells`). Assumes nothing.
use Rattle.format.specs.Bytes.{part}
use Rattle.format.specs.Format.{node_width}
use Rattle.lookup.proofs.RowLaws.{cells}
use Rattle.lookup.proofs.judge.Judged.node_at.Goals as goal

pub returns : goal.returns
unfolding node_width part
returns c = let judged = c.args.self in cells judged.nodes.count judged.nodes.table.now c.args.row c.requires judged.room
