-- `from_utf8` meets its promise. The invariant: the bytes are UTF-8 exactly where those from i on are. Assumes nothing.
use mathlib.Core.Path.{refl, sym, ◌∙◌}
use native.Mathlib.Omega.{arith}
use Rattle.format.specs.Utf8.{from_utf8}
use Rattle.format.specs.Read.{utf8_check}
use Rattle.format.proofs.Answer.{check_ok}
use Rattle.format.specs.Results.{outcome_of}
use Rattle.utf8.specs.Outcomes.{why_of}
use Rattle.utf8.proofs.Expected.{turn_plain, end_plain, rest}
use Rattle.utf8.proofs.from_utf8.Goals as goal

pub loop-i-init : goal.loop-i-init
unfolding from_utf8
loop-i-init c = refl

pub returns-then-x-gt127 : goal.returns-then-x-gt127
returns-then-x-gt127 c =
    c.by_table.ensures ∙ rest _ _ c.loop-i.invariant

pub loop-i-preserved : goal.loop-i-preserved
loop-i-preserved c =
    c.loop-i.invariant ∙ turn_plain _ _ c.loop-i-test.true (omega arith)

pub returns : goal.returns
unfolding outcome_of why_of utf8_check
returns c =
    sym (check_ok _ (c.loop-i.invariant ∙ end_plain _ _ c.loop-i-test.false))
