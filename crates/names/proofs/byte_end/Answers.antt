-- `byte_end` meets its contract: `position` finds the first slash, where the first name ends. Assumes nothing.
use Rattle.std.proofs.Common.{rules, tests}
use mathlib.Core.Path.{ap, ◌∙◌}
use lib.Dec.{eqb}
use Rattle.std.specs.Prelude.{length}
use Rattle.std.specs.Option.{unwrap_or}
use Rattle.std.proofs.lemmas.Iterator.{YieldsList-from_slice}
use Rattle.std.proofs.lemmas.Iterator.Search.{position_from_yields_List}
use Rattle.names.proofs.NameLaws.{slash_or_end}
use Rattle.names.proofs.byte_end.Goals as goal

pub returns : goal.returns
returns c =
    let path = c.args.path.now in
    let found = position_from_yields_List (λ b. eqb b 0x2f) _ _ c.position.result c.position.ensures.ran (YieldsList-from_slice path cc) (λ x b q k. search (rules, tests)) in
    c.unwrap_or.ensures ∙ ap (λ r. unwrap_or r (length path)) found ∙ slash_or_end path
