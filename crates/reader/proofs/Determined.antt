-- Nothing is left to the readers: two answers that fit a promise on the same input are the same answer. A part is told by its bytes.
-- Each theorem is over the numbers of its contract's own expression, so an outcome that the contract gives meets the premise, by `ap`.
-- Assumes nothing.
use Rattle.std.specs.Prelude.{Result}
use mathlib.Core.Path.{◌≡◌, refl, sym, ap, ◌∙◌}
use Prim.Native.Nat.{ℕ}
use mathlib.Core.List.{List}
use lib.ListN.{length}
use Rattle.format.specs.Answer as answer
use Rattle.format.specs.Answer.{numbers, itself, place, span_at, or_empty, or_else, or_zero}
use Rattle.format.specs.Results.{outcome, outcome_of}
use Rattle.format.proofs.Answer.{itself_same, place_same}
use Rattle.format.proofs.Results.{outcome_same}
use Rattle.format.specs.Read.{aligned, read_be, read_be_u32, read_be_u64, read_bstring0, subslice}
use Rattle.reader.specs.declared.SliceReadError.{SliceReadError}
use Rattle.reader.specs.declared.SliceReadError.TheVariants.{UnexpectedEndOfInput}
use Rattle.reader.specs.declared.Span.{Span}
use Rattle.reader.specs.declared.Token.{Token}
use Rattle.reader.specs.Outcomes.{why_of, tells, number_of, token_of, token_at}

-- ---- an outcome determines the answer that stands for it

pub why_same : (x y : SliceReadError) → why_of x ≡ why_of y → x ≡ y
why_same UnexpectedEndOfInput UnexpectedEndOfInput e = refl

pub by_outcome : {T A : Type 0} (tells : T → A) → ((v w : T) → tells v ≡ tells w → v ≡ w) → (r s : Result T SliceReadError)
    → outcome_of why_of tells r ≡ outcome_of why_of tells s → r ≡ s
by_outcome tells values r s e = outcome_same why_of tells values why_same r s e

pub span_same : (v w : Span) → tells v ≡ tells w → v ≡ w
unfolding tells
span_same v w e = ap (λ (s : answer.Span). record { start = s.offset; len = s.size }) e

-- ---- the numbers of an answer determine it: a number of 4 bytes, one of 8 and a position alike, a part, a token

pub word_by_numbers : (r s : Result ℕ SliceReadError) → numbers itself (outcome why_of r) ≡ numbers itself (outcome why_of s) → r ≡ s
word_by_numbers r s e = by_outcome (λ n. n) (λ v w e. e) r s (itself_same _ _ e)

pub long_by_numbers : (r s : Result ℕ SliceReadError) → numbers itself (outcome why_of r) ≡ numbers itself (outcome why_of s) → r ≡ s
long_by_numbers = word_by_numbers

pub place_by_numbers : (r s : Result ℕ SliceReadError) → numbers itself (outcome why_of r) ≡ numbers itself (outcome why_of s) → r ≡ s
place_by_numbers = word_by_numbers

pub span_by_numbers : (r s : Result Span SliceReadError) → numbers place (outcome_of why_of tells r) ≡ numbers place (outcome_of why_of tells s) → r ≡ s
span_by_numbers r s e = by_outcome tells span_same r s (place_same _ _ e)

-- a token by its number or the refusal: `Other 1` has the number of `BeginNode`, so the numbers determine these alone
pub token_by_numbers : (r s : Result Token SliceReadError) → numbers itself (outcome_of why_of number_of r) ≡ numbers itself (outcome_of why_of number_of s)
    → outcome_of why_of number_of r ≡ outcome_of why_of number_of s
token_by_numbers r s e = itself_same _ _ e

-- ---- the promises

pub align_determined : (val to : ℕ) (r s : Result ℕ SliceReadError)
    → numbers itself (outcome why_of r) ≡ numbers itself (aligned val to) → numbers itself (outcome why_of s) ≡ numbers itself (aligned val to) → r ≡ s
align_determined val to r s h k = place_by_numbers r s (h ∙ sym k)

pub aligned_determined : (val to : ℕ) (r s : ℕ) → r ≡ or_else val (aligned val to) → s ≡ or_else val (aligned val to) → r ≡ s
aligned_determined val to r s h k = h ∙ sym k

module _ (buf : List ℕ) (start end : ℕ) where
  pub subslice_determined : (r s : Result Span SliceReadError)
      → numbers place (outcome_of why_of tells r) ≡ numbers place (span_at start (subslice buf start end))
      → numbers place (outcome_of why_of tells s) ≡ numbers place (span_at start (subslice buf start end)) → r ≡ s
  subslice_determined r s h k = span_by_numbers r s (h ∙ sym k)

  pub subslice_part_determined : (r s : List ℕ) → r ≡ or_empty (subslice buf start end) → s ≡ or_empty (subslice buf start end) → r ≡ s
  subslice_part_determined r s h k = h ∙ sym k

module _ (buf : List ℕ) (pos : ℕ) where
  -- at any width
  pub read_be_determined : (bytes : ℕ) {T : Type 0} (value : T → ℕ) → ((v w : T) → value v ≡ value w → v ≡ w) → (r s : Result T SliceReadError)
      → numbers itself (outcome_of why_of value r) ≡ numbers itself (read_be bytes buf pos)
      → numbers itself (outcome_of why_of value s) ≡ numbers itself (read_be bytes buf pos) → r ≡ s
  read_be_determined bytes value values r s h k = by_outcome value values r s (itself_same _ _ (h ∙ sym k))

  pub read_be_u32_determined : (r s : Result ℕ SliceReadError)
      → numbers itself (outcome why_of r) ≡ numbers itself (read_be_u32 buf pos) → numbers itself (outcome why_of s) ≡ numbers itself (read_be_u32 buf pos) → r ≡ s
  read_be_u32_determined = read_be_determined 4 (λ n. n) (λ v w e. e)

  pub read_be_u64_determined : (r s : Result ℕ SliceReadError)
      → numbers itself (outcome why_of r) ≡ numbers itself (read_be_u64 buf pos) → numbers itself (outcome why_of s) ≡ numbers itself (read_be_u64 buf pos) → r ≡ s
  read_be_u64_determined = read_be_determined 8 (λ n. n) (λ v w e. e)

  pub read_bstring0_determined : (r s : Result Span SliceReadError)
      → numbers place (outcome_of why_of tells r) ≡ numbers place (span_at pos (read_bstring0 buf pos))
      → numbers place (outcome_of why_of tells s) ≡ numbers place (span_at pos (read_bstring0 buf pos)) → r ≡ s
  read_bstring0_determined r s h k = span_by_numbers r s (h ∙ sym k)

  pub bstring0_part_determined : (r s : List ℕ) → r ≡ or_empty (read_bstring0 buf pos) → s ≡ or_empty (read_bstring0 buf pos) → r ≡ s
  bstring0_part_determined r s h k = h ∙ sym k

  -- over the outcome: `Other 1` has the number of `BeginNode`, so numbers do not tell the two apart
  pub token_read_determined : (r s : Result Token SliceReadError) → outcome why_of r ≡ token_at buf pos → outcome why_of s ≡ token_at buf pos → r ≡ s
  token_read_determined r s h k = by_outcome (λ t. t) (λ v w e. e) r s (h ∙ sym k)

  -- by numbers alone: the number of the token, or the refusal
  pub token_number_determined : (r s : Result Token SliceReadError) → numbers itself (outcome_of why_of number_of r) ≡ numbers itself (read_be_u32 buf pos)
      → numbers itself (outcome_of why_of number_of s) ≡ numbers itself (read_be_u32 buf pos) → outcome_of why_of number_of r ≡ outcome_of why_of number_of s
  token_number_determined r s h k = token_by_numbers r s (h ∙ sym k)

  pub word_at_determined : (r s : ℕ) → r ≡ or_zero (read_be_u32 buf pos) → s ≡ or_zero (read_be_u32 buf pos) → r ≡ s
  word_at_determined r s h k = h ∙ sym k

  pub long_at_determined : (r s : ℕ) → r ≡ or_zero (read_be_u64 buf pos) → s ≡ or_zero (read_be_u64 buf pos) → r ≡ s
  long_at_determined r s h k = h ∙ sym k

  pub string_len_determined : (r s : ℕ) → r ≡ length (or_empty (read_bstring0 buf pos)) → s ≡ length (or_empty (read_bstring0 buf pos)) → r ≡ s
  string_len_determined r s h k = h ∙ sym k

  pub token_at_determined : (r s : Token) → r ≡ token_of (or_zero (read_be_u32 buf pos)) → s ≡ token_of (or_zero (read_be_u32 buf pos)) → r ≡ s
  token_at_determined r s h k = h ∙ sym k
