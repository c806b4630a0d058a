-- Which refusal an error is.
use Rattle.format.specs.Answer as answer
use Rattle.survey.specs.declared.DeviceTreeError.{DeviceTreeError}
use Rattle.survey.specs.declared.DeviceTreeError.TheVariants.{InvalidMagicNumber, SizeMismatch, UnexpectedEndOfInput, ParseError, Utf8Error, VersionNotSupported, TooDeep, ReservationRoom, NodeRoom, PropertyRoom}

unfoldable pub why_of : DeviceTreeError → answer.Refusal
why_of InvalidMagicNumber = answer.invalid_magic_number
why_of SizeMismatch = answer.size_mismatch
why_of UnexpectedEndOfInput = answer.unexpected_end_of_input
why_of (ParseError p) = answer.parse_error p
why_of Utf8Error = answer.utf8_error
why_of VersionNotSupported = answer.version_not_supported
why_of (TooDeep p) = answer.too_deep p
why_of (ReservationRoom n) = answer.reservation_room n
why_of (NodeRoom n) = answer.node_room n
why_of (PropertyRoom n) = answer.property_room n
