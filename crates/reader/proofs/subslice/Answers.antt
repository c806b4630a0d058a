-- `subslice` meets its promise: its tests are the definition's. Assumes nothing.
use mathlib.Core.Path.{sym}
use mathlib.Core.Logic.{inl, inr}
use native.Mathlib.Omega.{arith}
use Rattle.format.specs.Results.{outcome_of}
use Rattle.reader.specs.Outcomes.{why_of, tells}
use Rattle.reader.proofs.Parts.{part_there, part_backwards, part_past_end}
use Rattle.reader.proofs.subslice.Goals as goal

pub returns-then-end-start : goal.returns-then-end-start
unfolding outcome_of why_of
returns-then-end-start c =
    elim c.then-end-start.either [
      | inl h ↦ sym (part_backwards _ _ _ h)
      | inr h ↦ sym (part_past_end _ _ _ h.0 h.1)
    ]

pub returns : goal.returns
unfolding outcome_of tells
returns c = sym (part_there _ _ _ (omega arith) (omega arith))
