-- What the promise cites: which refusal the error is, by document 01 ("When the reader says no").
use Rattle.format.specs.Answer.{Refusal, utf8_error}
use Rattle.utf8.specs.declared.Utf8Error.{Utf8Error}

unfoldable pub why_of : Utf8Error → Refusal
why_of e = utf8_error
