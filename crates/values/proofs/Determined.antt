-- Nothing is left to the calls: two answers that fit a promise on the same input are the same answer. A part is told by its bytes.
-- Each theorem is over the numbers of its contract's own expression, so an outcome that the contract gives meets the premise, by `ap`.
-- Assumes nothing.
use Rattle.std.specs.Prelude.{◌≡◌, ℕ, List, Result}
use mathlib.Core.Path.{refl, sym, ◌∙◌}
use Rattle.format.specs.Answer.{numbers, itself, place, or_empty}
use Rattle.format.specs.Lookup.{Lent, prop_str, prop_u32, prop_u64}
use Rattle.format.specs.Agrees.{bytes_in}
use Rattle.format.specs.Results.{outcome, outcome_of}
use Rattle.format.proofs.Answer.{itself_same, place_same}
use Rattle.format.proofs.Results.{outcome_same}
use Rattle.reader.specs.Outcomes.{tells}
use Rattle.reader.specs.declared.Span.{Span}
use Rattle.lookup.proofs.Determined.{span_same}
use Rattle.values.specs.Answers.{why_of, prop_number}
use Rattle.values.specs.declared.error.PropError.{PropError}
use Rattle.values.specs.declared.error.PropError.TheVariants.{NotFound, Utf8Error, Missing0, Short, Unusable}

-- ---- an outcome determines the answer that stands for it

pub why_same : (x y : PropError) → why_of x ≡ why_of y → x ≡ y
unfolding why_of
why_same NotFound NotFound e = refl
why_same Utf8Error Utf8Error e = refl
why_same Missing0 Missing0 e = refl
why_same Short Short e = refl
why_same Unusable Unusable e = refl
why_same x y e = cc

by_outcome : {T A : Type 0} (tells : T → A) → ((v w : T) → tells v ≡ tells w → v ≡ w) → (r s : Result T PropError)
    → outcome_of why_of tells r ≡ outcome_of why_of tells s → r ≡ s
by_outcome tells values r s e = outcome_same why_of tells values why_same r s e

-- ---- an answer's numbers determine it: it can be told from them

pub text_by_numbers : (r s : Result Span PropError) → numbers place (outcome_of why_of tells r) ≡ numbers place (outcome_of why_of tells s) → r ≡ s
text_by_numbers r s e = by_outcome tells span_same r s (place_same _ _ e)

-- at any width
pub number_by_numbers : {T : Type 0} (value : T → ℕ) → ((v w : T) → value v ≡ value w → v ≡ w) → (r s : Result T PropError)
    → numbers itself (outcome_of why_of value r) ≡ numbers itself (outcome_of why_of value s) → r ≡ s
number_by_numbers value values r s e = by_outcome value values r s (itself_same _ _ e)

pub number32_by_numbers : (r s : Result ℕ PropError) → numbers itself (outcome why_of r) ≡ numbers itself (outcome why_of s) → r ≡ s
number32_by_numbers = number_by_numbers (λ n. n) (λ v w e. e)

pub number64_by_numbers : (r s : Result ℕ PropError) → numbers itself (outcome why_of r) ≡ numbers itself (outcome why_of s) → r ≡ s
number64_by_numbers = number_by_numbers (λ n. n) (λ v w e. e)

-- ---- the calls

module _ (b : List ℕ) (l : Lent) (row : ℕ) (name : List ℕ) where
  pub prop_str_determined : (r s : Result Span PropError) → numbers place (outcome_of why_of tells r) ≡ numbers place (prop_str b l row name)
      → numbers place (outcome_of why_of tells s) ≡ numbers place (prop_str b l row name) → r ≡ s
  prop_str_determined r s e f = text_by_numbers r s (e ∙ sym f)

  pub prop_str_part_determined : (r s : List ℕ) → r ≡ or_empty (bytes_in b (prop_str b l row name)) → s ≡ or_empty (bytes_in b (prop_str b l row name)) → r ≡ s
  prop_str_part_determined r s e f = e ∙ sym f

  -- at any width
  pub prop_number_determined : (bytes : ℕ) {T : Type 0} (value : T → ℕ) → ((v w : T) → value v ≡ value w → v ≡ w) → (r s : Result T PropError)
      → numbers itself (outcome_of why_of value r) ≡ numbers itself (prop_number bytes b l row name)
      → numbers itself (outcome_of why_of value s) ≡ numbers itself (prop_number bytes b l row name) → r ≡ s
  prop_number_determined bytes value values r s e f = number_by_numbers value values r s (e ∙ sym f)

  pub prop_u32_determined : (r s : Result ℕ PropError) → numbers itself (outcome why_of r) ≡ numbers itself (prop_u32 b l row name)
      → numbers itself (outcome why_of s) ≡ numbers itself (prop_u32 b l row name) → r ≡ s
  unfolding prop_u32
  prop_u32_determined = prop_number_determined 4 (λ n. n) (λ v w e. e)

  pub prop_u64_determined : (r s : Result ℕ PropError) → numbers itself (outcome why_of r) ≡ numbers itself (prop_u64 b l row name)
      → numbers itself (outcome why_of s) ≡ numbers itself (prop_u64 b l row name) → r ≡ s
  unfolding prop_u64
  prop_u64_determined = prop_number_determined 8 (λ n. n) (λ v w e. e)
