-- `name_end` meets its contract: no slash stands in the words that were passed (`Scan`), and what is left is told by its bytes.
-- Assumes nothing.
use native.Mathlib.Omega.{arith}
use borrow.Rule.Slice.PartAt.{part_to_end}
use Rattle.names.proofs.NameLaws.{head_inside}
use Rattle.names.proofs.name_end.Goals as goal

pub returns : goal.returns
returns c = omega (arith, rw part_to_end at c.byte_end.ensures, c.plain_words-plain.ensures.first)

pub overflow_add-result : goal.overflow_add-result
overflow_add-result c = omega (arith, rw part_to_end at c.byte_end.ensures, head_inside c.args.path.now, c.plain_words-plain.ensures.first)
