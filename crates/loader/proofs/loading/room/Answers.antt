-- `room` meets its contract: it tests the rows as `check` does. Assumes nothing.
use mathlib.Core.Path.{sym}
use borrow.Author.Tests.{le-leb, lt-leb}
use Rattle.format.specs.Results.{outcome_of}
use Rattle.format.proofs.Answer.{check_ok, check_no}
use Rattle.loader.proofs.loading.room.Goals as goal

pub returns-then-capacity-rows : goal.returns-then-capacity-rows
unfolding outcome_of
returns-then-capacity-rows c = sym (check_no _ (lt-leb _ _ c.if-capacity-rows.true))

pub returns : goal.returns
unfolding outcome_of
returns c = sym (check_ok _ (le-leb _ _ c.if-capacity-rows.false))
