-- Nothing is left to the survey: two answers that fit its promise on the same blob are the same answer. Assumes nothing.
use mathlib.Core.Path.{◌≡◌, refl, sym, ap, ◌∙◌}
use Prim.Native.Nat.{ℕ}
use mathlib.Core.List.{List}
use Rattle.format.specs.Answer as answer
use Rattle.format.specs.Results.{outcome}
use Rattle.format.proofs.Results.{outcome_same}
use Rattle.std.specs.Prelude.{Result}
use Rattle.survey.specs.Outcomes.{why_of}
use Rattle.survey.specs.Survey.{survey_of}
use Rattle.survey.specs.declared.DeviceTreeError.{DeviceTreeError}
use Rattle.survey.specs.declared.DeviceTreeError.TheVariants.{InvalidMagicNumber, SizeMismatch, UnexpectedEndOfInput, ParseError, Utf8Error, VersionNotSupported, TooDeep, ReservationRoom, NodeRoom, PropertyRoom}
use Rattle.survey.specs.declared.Plan.{Plan}

-- an answer's refusal from the outcome's
unfoldable pub error_of : answer.Refusal → DeviceTreeError
error_of answer.invalid_magic_number = InvalidMagicNumber
error_of answer.size_mismatch = SizeMismatch
error_of answer.unexpected_end_of_input = UnexpectedEndOfInput
error_of (answer.parse_error p) = ParseError p
error_of answer.utf8_error = Utf8Error
error_of answer.version_not_supported = VersionNotSupported
error_of (answer.too_deep p) = TooDeep p
error_of (answer.reservation_room n) = ReservationRoom n
error_of (answer.node_room n) = NodeRoom n
error_of (answer.property_room n) = PropertyRoom n
error_of answer.nothing_found = UnexpectedEndOfInput
error_of answer.missing0 = UnexpectedEndOfInput
error_of answer.too_short = UnexpectedEndOfInput
error_of answer.not_usable = UnexpectedEndOfInput

pub error_back : (why : DeviceTreeError) → error_of (why_of why) ≡ why
unfolding error_of why_of
error_back InvalidMagicNumber = refl
error_back SizeMismatch = refl
error_back UnexpectedEndOfInput = refl
error_back (ParseError p) = refl
error_back Utf8Error = refl
error_back VersionNotSupported = refl
error_back (TooDeep p) = refl
error_back (ReservationRoom n) = refl
error_back (NodeRoom n) = refl
error_back (PropertyRoom n) = refl

why_same : (x y : DeviceTreeError) → why_of x ≡ why_of y → x ≡ y
why_same x y e = sym (error_back x) ∙ ap error_of e ∙ error_back y

pub survey_determined : (b : List ℕ) (r s : Result Plan DeviceTreeError) → outcome why_of r ≡ survey_of b → outcome why_of s ≡ survey_of b → r ≡ s
survey_determined b r s h k = outcome_same why_of (λ v. v) (λ v w e. e) why_same r s (h ∙ sym k)
