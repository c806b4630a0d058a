-- Nothing is left to the lookups: two answers that fit a promise on the same input are the same answer. A part is told by its bytes.
-- Each theorem is over the numbers of its contract's own expression, so an outcome that the contract gives meets the premise, by `ap`.
-- Assumes nothing.
use Rattle.std.specs.Prelude.{◌≡◌, ℕ, List, Result}
use mathlib.Core.Path.{refl, sym, ap, ◌∙◌}
use Rattle.format.specs.Answer as answer
use Rattle.format.specs.Answer.{numbers, itself, nothing, place, or_empty}
use Rattle.format.specs.Lookup.{Lent, find_from, find, has_prop, prop_raw}
use Rattle.format.specs.Agrees.{bytes_in}
use Rattle.format.specs.Results.{outcome, outcome_of}
use Rattle.format.proofs.Answer.{itself_same, nothing_same, place_same}
use Rattle.format.proofs.Results.{outcome_same}
use Rattle.reader.specs.Outcomes.{tells}
use Rattle.reader.specs.declared.Span.{Span}
use Rattle.lookup.specs.Answers.{why_of}
use Rattle.lookup.specs.declared.LookupError.{LookupError}
use Rattle.lookup.specs.declared.LookupError.TheVariants.{NotFound, Unusable}

-- ---- an outcome determines the answer that stands for it

pub why_same : (x y : LookupError) → why_of x ≡ why_of y → x ≡ y
unfolding why_of
why_same NotFound NotFound e = refl
why_same NotFound Unusable e = cc
why_same Unusable NotFound e = cc
why_same Unusable Unusable e = refl

by_outcome : {T A : Type 0} (tells : T → A) → ((v w : T) → tells v ≡ tells w → v ≡ w) → (r s : Result T LookupError)
    → outcome_of why_of tells r ≡ outcome_of why_of tells s → r ≡ s
by_outcome tells values r s e = outcome_same why_of tells values why_same r s e

pub span_same : (v w : Span) → tells v ≡ tells w → v ≡ w
unfolding tells
span_same v w e = ap (λ (s : answer.Span). record { start = s.offset; len = s.size }) e

-- ---- an answer's numbers determine it: it can be told from them

pub found_by_numbers : (r s : Result ℕ LookupError) → numbers itself (outcome why_of r) ≡ numbers itself (outcome why_of s) → r ≡ s
found_by_numbers r s e = by_outcome (λ n. n) (λ v w e. e) r s (itself_same _ _ e)

pub has_by_numbers : (r s : Result (Unit {0}) LookupError) → numbers nothing (outcome why_of r) ≡ numbers nothing (outcome why_of s) → r ≡ s
has_by_numbers r s e = by_outcome (λ u. u) (λ v w e. e) r s (nothing_same _ _ e)

pub value_by_numbers : (r s : Result Span LookupError) → numbers place (outcome_of why_of tells r) ≡ numbers place (outcome_of why_of tells s) → r ≡ s
value_by_numbers r s e = by_outcome tells span_same r s (place_same _ _ e)

-- ---- the calls

module _ (b nodes : List ℕ) (count : ℕ) (path : List ℕ) where
  pub find_determined : (r s : Result ℕ LookupError) → numbers itself (outcome why_of r) ≡ numbers itself (find b nodes count path)
      → numbers itself (outcome why_of s) ≡ numbers itself (find b nodes count path) → r ≡ s
  find_determined r s e f = found_by_numbers r s (e ∙ sym f)

  pub find_from_determined : (row : ℕ) (r s : Result ℕ LookupError) → numbers itself (outcome why_of r) ≡ numbers itself (find_from b nodes count row path)
      → numbers itself (outcome why_of s) ≡ numbers itself (find_from b nodes count row path) → r ≡ s
  find_from_determined row r s e f = found_by_numbers r s (e ∙ sym f)

module _ (b : List ℕ) (l : Lent) (row : ℕ) (name : List ℕ) where
  pub has_prop_determined : (r s : Result (Unit {0}) LookupError) → numbers nothing (outcome why_of r) ≡ numbers nothing (has_prop b l row name)
      → numbers nothing (outcome why_of s) ≡ numbers nothing (has_prop b l row name) → r ≡ s
  has_prop_determined r s e f = has_by_numbers r s (e ∙ sym f)

  pub prop_raw_determined : (r s : Result Span LookupError) → numbers place (outcome_of why_of tells r) ≡ numbers place (prop_raw b l row name)
      → numbers place (outcome_of why_of tells s) ≡ numbers place (prop_raw b l row name) → r ≡ s
  prop_raw_determined r s e f = value_by_numbers r s (e ∙ sym f)

  pub prop_raw_part_determined : (r s : List ℕ) → r ≡ or_empty (bytes_in b (prop_raw b l row name)) → s ≡ or_empty (bytes_in b (prop_raw b l row name)) → r ≡ s
  prop_raw_part_determined r s e f = e ∙ sym f
