-- `from` gives the error of the same refusal. Assumes nothing.
use Rattle.std.proofs.Common.{sym, ap}
use Rattle.lookup.specs.Answers as lookup
use Rattle.values.specs.Answers.{why_of}
use Rattle.values.proofs.error.PropErrorFromLookupError.from.Goals as goal

pub returns-in-NotFound : goal.returns-in-NotFound
unfolding why_of lookup.why_of
returns-in-NotFound c = sym (ap lookup.why_of c.in-NotFound.is)

pub returns-in-Unusable : goal.returns-in-Unusable
unfolding why_of lookup.why_of
returns-in-Unusable c = sym (ap lookup.why_of c.in-Unusable.is)
