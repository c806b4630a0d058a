-- `lines::fields::end` meets its contract: a field ends where the first space is found. Assumes nothing.
use mathlib.Core.Path.{◌∙◌, ap}
use lib.ListN.{length}
use Rattle.std.specs.Option.{unwrap_or}
use Rattle.lines.proofs.FieldLaws.{ends_at}
use Rattle.lines.proofs.fields.end.Goals as goal

pub returns : goal.returns
returns c =
    ends_at c.args.s.now _ (c.unwrap_or.ensures ∙ ap (λ o. unwrap_or o (length c.args.s.now)) c.find.ensures)
