-- `dangrisuk_load` meets its contract: the numbers of the call behind it. Assumes nothing.
use Rattle.std.proofs.Common.{ap, ◌∙◌}
use Rattle.std.proofs.lemmas.List.Edits.{sets}
use Rattle.answers.proofs.Parts.{told_load}
use Rattle.capi.specs.Linked.{Told}
use Rattle.capi.proofs.dangrisuk_load.Goals as goal

pub returns : goal.returns
unfolding Told
returns c =
    record {
      numbers = _;
      loads = c.load.ensures;
      put = c.tell.ensures ∙ ap (sets c.args.answer.now 0) (told_load _);
    }
