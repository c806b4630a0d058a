-- `push` meets its contract: the numbers stored as one part are stored one after another. Assumes nothing.
use Prim.Native.Nat.{◌+◌}
use native.Mathlib.Nat.{le-mul_of_pos_right, mul_comm}
use borrow.Author.Rules.{rules}
use Rattle.loader.proofs.RowLaws.{put_row}
use Rattle.loader.proofs.table.Table.push.Goals as goal

pub overflow_add-self : goal.overflow_add-self
overflow_add-self g c =
    let less = le-mul_of_pos_right (c.args.self.now.row + 1) c.requires.0 in
    let room = rw mul_comm at c.requires.1 in search rules

pub returns-clause-stored : goal.returns-clause-stored
returns-clause-stored g c =
    put_row _ _ _ c.copy_from_slice.ensures.after c.copy_from_slice.ensures.len (search rules)
