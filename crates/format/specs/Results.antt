-- What a `Result` of the code says: the outcome that it stands for. Which refusal an error is stands beside the error.
use Rattle.std.specs.Prelude.{Result, Ok, Err}
use Rattle.format.specs.Answer.{Refusal, Outcome, ok, refused}

-- the value, by what it tells, or the refusal that the error is
unfoldable pub outcome_of : {T E A : Type 0} → (E → Refusal) → (T → A) → Result T E → Outcome A
outcome_of why tells (Ok v) = ok (tells v)
outcome_of why tells (Err e) = refused (why e)

-- the same of a value that tells itself
abbrev pub outcome : {T E : Type 0} → (E → Refusal) → Result T E → Outcome T
outcome why r = outcome_of why (λ v. v) r
