-- What a call says of a part of the caller's bytes, and of a load, has the numbers that its promise cites. Assumes nothing.
use Rattle.std.proofs.Common.{◌≡◌, Result, Ok, Err, refl}
use Rattle.format.specs.Answer.{Refusal, numbers, place}
use Rattle.format.specs.Results.{outcome, outcome_of}
use Rattle.reader.specs.declared.Span.{Span}
use Rattle.reader.specs.Outcomes.{tells}
use Rattle.survey.specs.declared.DeviceTree.{DeviceTree}
use Rattle.survey.specs.declared.DeviceTreeError.{DeviceTreeError}
use Rattle.survey.specs.Outcomes.{why_of}
use Rattle.loader.specs.Numbers.{loaded_numbers}
use Rattle.answers.specs.Carried.{part, counts}

pub told_part : {E : Type 0} (why : E → Refusal) (said : Result Span E) → numbers part (outcome why said) ≡ numbers place (outcome_of why tells said)
unfolding numbers outcome_of part
told_part why (Ok span) = refl
told_part why (Err e) = refl

pub told_load : (said : Result DeviceTree DeviceTreeError) → numbers counts (outcome why_of said) ≡ loaded_numbers said
unfolding numbers outcome_of counts loaded_numbers
told_load (Ok tree) = refl
told_load (Err why) = refl
