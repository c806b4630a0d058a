-- The number of the bytes that are there, or the refusal that `chunk` hands on. Assumes nothing.
use native.Mathlib.Omega.{arith}
use Rattle.format.specs.Results.{outcome_of}
use Rattle.format.proofs.Results.{hands_on}
use Rattle.format.proofs.Read.{read_past_end}
use Rattle.reader.specs.Outcomes.{why_of}
use Rattle.reader.proofs.Outcomes.{why_short}
use Rattle.reader.proofs.Numbers.{word_is}
use Rattle.reader.proofs.big_endian.U32BigEndian.read.Goals as goal

pub returns-in_err-bytes : goal.returns-in_err-bytes
returns-in_err-bytes c = hands_on why_of _ _ c.from_residual.ensures.1 (λ y q. why_short y) (read_past_end _ 4 _ c.in_err-bytes.ensures.err)

pub returns : goal.returns
unfolding outcome_of
returns c = word_is _ _ c.in_ok-bytes.ensures.ok (omega (arith, c.from_be_bytes.ensures))
