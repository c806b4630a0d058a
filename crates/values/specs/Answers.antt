-- What the promises cite: which refusal an error is, by document 01 ("When the reader says no"), and a number of any width.
use Rattle.std.specs.Prelude.{ℕ, List}
use Rattle.format.specs.Answer.{Refusal, Outcome, ◌>>=◌, nothing_found, utf8_error, missing0, too_short, not_usable}
use Rattle.format.specs.Find.{as_number}
use Rattle.format.specs.Lookup.{Lent, prop_raw, bytes_of}
use Rattle.values.specs.declared.error.PropError.{PropError}
use Rattle.values.specs.declared.error.PropError.TheVariants.{NotFound, Utf8Error, Missing0, Short, Unusable}

unfoldable pub why_of : PropError → Refusal
why_of NotFound = nothing_found
why_of Utf8Error = utf8_error
why_of Missing0 = missing0
why_of Short = too_short
why_of Unusable = not_usable

-- the number of the value's first k bytes: `prop_u32` at 4, `prop_u64` at 8
abbrev pub prop_number : ℕ → List ℕ → Lent → ℕ → List ℕ → Outcome ℕ
prop_number k b l row name = prop_raw b l row name >>= λ value. as_number k (bytes_of b value)
