-- What the promises cite: which refusal an error is, by document 01 ("When the reader says no"), what a place tells, and the tokens.
use Rattle.std.specs.Prelude.{ℕ, List, ◌==◌, cond}
use Rattle.format.specs.Answer.{Refusal, unexpected_end_of_input, Outcome, ok, ◌>>=◌}
use Rattle.format.specs.Answer as answer
use Rattle.format.specs.Format.{BEGIN_NODE, END_NODE, PROP}
use Rattle.format.specs.Read.{read_be_u32}
use Rattle.reader.specs.declared.SliceReadError.{SliceReadError}
use Rattle.reader.specs.declared.SliceReadError.TheVariants.{UnexpectedEndOfInput}
use Rattle.reader.specs.declared.Span.{Span}
use Rattle.reader.specs.declared.Token.{Token}
use Rattle.reader.specs.declared.Token.TheVariants.{BeginNode, EndNode, Prop, Other}

unfoldable pub why_of : SliceReadError → Refusal
why_of UnexpectedEndOfInput = unexpected_end_of_input

unfoldable pub tells : Span → answer.Span
tells s = record { offset = s.start; size = s.len }

-- the token that a word is, and the word of a token
unfoldable pub token_of : ℕ → Token
token_of n = cond (n == BEGIN_NODE) BeginNode (cond (n == END_NODE) EndNode (cond (n == PROP) Prop (Other n)))

unfoldable pub number_of : Token → ℕ
number_of BeginNode = BEGIN_NODE
number_of EndNode = END_NODE
number_of Prop = PROP
number_of (Other n) = n

unfoldable pub token_at : List ℕ → ℕ → Outcome Token
token_at b p = read_be_u32 b p >>= λ n. ok (token_of n)
