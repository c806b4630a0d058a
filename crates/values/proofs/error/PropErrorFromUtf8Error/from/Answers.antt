-- `from` gives the error of the same refusal. Assumes nothing.
use Rattle.std.proofs.Common.{refl}
use Rattle.utf8.specs.Outcomes as utf8
use Rattle.values.specs.Answers.{why_of}
use Rattle.values.proofs.error.PropErrorFromUtf8Error.from.Goals as goal

pub returns : goal.returns
unfolding why_of utf8.why_of
returns c = refl
