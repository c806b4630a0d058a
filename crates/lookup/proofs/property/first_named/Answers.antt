-- `first_named` meets its contract: what is left of the rows gives what all of them give. Assumes nothing.
use Rattle.std.proofs.Common.{sym, ◌∙◌, leb-true}
use Rattle.format.specs.Results.{outcome_of}
use Rattle.reader.specs.Outcomes.{tells}
use Rattle.lookup.specs.Answers.{why_of}
use Rattle.lookup.proofs.PropertyLaws.{none_left, bad_name, bad_value, found_here, goes_on}
use Rattle.lookup.proofs.property.first_named.Goals as goal
use Rattle.lookup.proofs.property.first_named.Goals.{then-not-lies_in-via-then-not-lies_in, then-not-lies_in-via-else-not-lies_in+then-not-lies_in-2}

pub returns-then-not-lies_in : goal.returns-then-not-lies_in
unfolding outcome_of why_of
returns-then-not-lies_in c P first all =
    elim c.then-not-lies_in.branch [
      | then-not-lies_in-via-then-not-lies_in w ↦ bad_name _ _ P first _ all _ c.loop-row-test.true (sym c.lies_in.ensures ∙ w.if-not-lies_in.true)
      | then-not-lies_in-via-else-not-lies_in+then-not-lies_in-2 w ↦ bad_value _ _ P first _ all _ c.loop-row-test.true (sym c.lies_in.ensures ∙ w.if-not-lies_in.false) (sym w.lies_in-else-not-lies_in.ensures ∙ w.if-not-lies_in-2.true)
    ]
    ∙ c.loop-row.invariant P first all

pub same_part-requires : goal.same_part-requires
same_part-requires c = leb-true _ _ (sym c.lies_in.ensures ∙ c.if-not-lies_in.false)

pub returns-then-same_part : goal.returns-then-same_part
unfolding outcome_of tells
returns-then-same_part c P first all =
    found_here _ _ P first _ all _ c.loop-row-test.true (sym c.lies_in.ensures ∙ c.if-not-lies_in.false) (sym c.lies_in-else-not-lies_in.ensures ∙ c.if-not-lies_in-2.false) (sym c.same_part.ensures ∙ c.if-same_part.true)
    ∙ c.loop-row.invariant P first all

pub loop-row-preserved : goal.loop-row-preserved
loop-row-preserved c P first all =
    sym (goes_on _ _ P first _ all _ c.loop-row-test.true (sym c.lies_in.ensures ∙ c.if-not-lies_in.false) (sym c.lies_in-else-not-lies_in.ensures ∙ c.if-not-lies_in-2.false) (sym c.same_part.ensures ∙ c.if-same_part.false))
    ∙ c.loop-row.invariant P first all

pub returns : goal.returns
unfolding outcome_of why_of
returns c P first all = none_left _ _ P first _ all _ c.loop-row-test.false ∙ c.loop-row.invariant P first all
