-- Where `?` hands an error on: the refusal is what is due. Assumes nothing.
use Rattle.std.specs.Prelude.{◌≡◌, Result}
use Rattle.std.specs.Result.{IsErrAnd}
use mathlib.Core.Path.{ap}
use Rattle.format.specs.Answer as answer
use Rattle.format.specs.Answer.{Outcome, refused}
use Rattle.format.specs.Results.{outcome}
use Rattle.format.proofs.Results.{hands_on}
use Rattle.survey.specs.declared.DeviceTreeError.{DeviceTreeError}
use Rattle.survey.specs.declared.DeviceTreeError.TheVariants.{UnexpectedEndOfInput, Utf8Error}
use Rattle.survey.specs.Outcomes.{why_of}

module _ {T : Type 0} (r : Result T DeviceTreeError) {m : Outcome T} where
  -- an error of this crate's own
  pub handed : (x : DeviceTreeError) → IsErrAnd r (λ y. y ≡ x) → m ≡ refused (why_of x) → outcome why_of r ≡ m
  handed x q e = hands_on why_of (λ v. v) r q (λ y k. ap why_of k) e

  -- the readers', and the UTF-8 check's
  pub short : IsErrAnd r (λ y. y ≡ UnexpectedEndOfInput) → m ≡ refused answer.unexpected_end_of_input → outcome why_of r ≡ m
  unfolding why_of
  short q e = handed UnexpectedEndOfInput q e

  pub not_utf8 : IsErrAnd r (λ y. y ≡ Utf8Error) → m ≡ refused answer.utf8_error → outcome why_of r ≡ m
  unfolding why_of
  not_utf8 q e = handed Utf8Error q e
