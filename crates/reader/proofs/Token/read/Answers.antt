-- `Token::read` meets its promise: a token is the word that stands there. Assumes nothing.
use Rattle.format.proofs.Results.{hands_on}
use Rattle.reader.specs.Outcomes.{why_of}
use Rattle.reader.proofs.Outcomes.{why_short, got_number, none}
use Rattle.reader.proofs.Tokens.{no_token, token_is}
use Rattle.reader.proofs.Token.read.Goals as goal

pub returns-in_err-number : goal.returns-in_err-number
returns-in_err-number c =
    hands_on why_of _ _ c.from_residual.ensures.1 (λ y q. why_short y) (no_token _ _ (none _ _ c.in_err-number.ensures))

pub returns : goal.returns
returns c = token_is _ _ (got_number c.in_ok-number.ensures) c.from.ensures
