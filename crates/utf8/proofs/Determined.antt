-- Nothing is left to the check: two answers that fit its promise on the same bytes are the same answer.
-- The theorems are over numbers, so an outcome that the contract gives meets the premise, by `ap`. Assumes nothing.
use Rattle.std.specs.Prelude.{◌≡◌, ℕ, List, Result}
use mathlib.Core.Path.{refl, sym, ◌∙◌}
use Rattle.format.specs.Answer.{numbers, nothing}
use Rattle.format.specs.Read.{utf8_check}
use Rattle.format.specs.Results.{outcome}
use Rattle.format.proofs.Answer.{nothing_same}
use Rattle.format.proofs.Results.{outcome_same}
use Rattle.utf8.specs.declared.Utf8Error.{Utf8Error}
use Rattle.utf8.specs.Outcomes.{why_of}

by_outcome : (r s : Result (Unit {0}) Utf8Error) → outcome why_of r ≡ outcome why_of s → r ≡ s
by_outcome r s e = outcome_same why_of (λ u. u) (λ v w e. refl) (λ x y e. refl) r s e

pub checked_by_numbers : (r s : Result (Unit {0}) Utf8Error) → numbers nothing (outcome why_of r) ≡ numbers nothing (outcome why_of s) → r ≡ s
checked_by_numbers r s e = by_outcome r s (nothing_same _ _ e)

pub from_utf8_determined : (buf : List ℕ) (r s : Result (Unit {0}) Utf8Error)
    → numbers nothing (outcome why_of r) ≡ numbers nothing (utf8_check buf) → numbers nothing (outcome why_of s) ≡ numbers nothing (utf8_check buf) → r ≡ s
from_utf8_determined buf r s h k = checked_by_numbers r s (h ∙ sym k)
