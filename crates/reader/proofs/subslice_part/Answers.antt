-- `subslice_part` meets its promise: the span that `subslice` gives lies in the bytes, and its part is what was read. Assumes nothing.
use mathlib.Core.Path.{◌∙◌}
use Rattle.reader.proofs.Parts.{span_cut, cut_none, part_has}
use Rattle.reader.proofs.subslice_part.Goals as goal

pub part-requires : goal.part-requires
part-requires c = (span_cut _ _ _ (part_has _ _ _) c.in-Ok.ensures).within

pub returns-in-Ok : goal.returns-in-Ok
returns-in-Ok c = c.part.ensures ∙ (span_cut _ _ _ (part_has _ _ _) c.in-Ok.ensures).same

pub returns-in-Err : goal.returns-in-Err
returns-in-Err c = cut_none _ _ _ c.in-Err.ensures
