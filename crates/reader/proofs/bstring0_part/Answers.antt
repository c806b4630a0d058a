-- `bstring0_part` meets its promise: the span that `read_bstring0` gives lies in the bytes, and its part is what was read. Assumes nothing.
use mathlib.Core.Path.{◌∙◌}
use Rattle.reader.proofs.Parts.{span_cut, cut_none, string_has}
use Rattle.reader.proofs.bstring0_part.Goals as goal

pub part-requires : goal.part-requires
part-requires c = (span_cut _ _ _ (string_has _ _) c.in-Ok.ensures).within

pub returns-in-Ok : goal.returns-in-Ok
returns-in-Ok c = c.part.ensures ∙ (span_cut _ _ _ (string_has _ _) c.in-Ok.ensures).same

pub returns-in-Err : goal.returns-in-Err
returns-in-Err c = cut_none _ _ _ c.in-Err.ensures
