-- `write_head` meets its contract: the properties begin where the name ends, and what `push` stores is the node's row.
-- Assumes nothing.
use Rattle.format.specs.Format.{node_width, NONE}
use Rattle.loader.proofs.HeadLaws.{head_props, head_up, head_few, head_done}
use Rattle.loader.proofs.write.write_head.Goals as goal

pub write_props-next-requires : goal.write_props-next-requires
write_props-next-requires c =
    head_props c.args.blob.now.small.blob c.requires c.string_len-len.ensures c.aligned.ensures

pub overflow_sub-count : goal.overflow_sub-count
overflow_sub-count c =
    head_up c.args.blob.now.small.blob c.requires c.string_len-len.ensures c.aligned.ensures _ _ _ c.write_props-next.ensures.stored

pub overflow_cast-count : goal.overflow_cast-count
overflow_cast-count c =
    record {
      fits = head_few c.args.blob.now.small.blob c.requires c.string_len-len.ensures c.aligned.ensures _ _ _ c.write_props-next.ensures.stored;
    }

pub returns-clause-stored : goal.returns-clause-stored
unfolding node_width NONE
returns-clause-stored c =
    head_done c.args.blob.now.small.blob c.requires c.string_len-len.ensures c.aligned.ensures _ _ _ c.write_props-next.ensures.stored
    c.at.ensures c.child_row-child.ensures c.push.ensures.stored c.push.ensures.row
