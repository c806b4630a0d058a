-- When `aligned` gives a number, and when it refuses. Assumes nothing.
use mathlib.Core.Path.{◌≡◌, refl, sym, ap, ◌∙◌}
use mathlib.Core.Logic.{◌≢◌}
use mathlib.Core.Bool.{not}
use Prim.Native.Nat.{ℕ, ◌+◌, ◌-◌, ◌%◌, ◌^◌, ◌≤◌, ◌<◌}
use native.Mathlib.Omega.{arith}
use native.Mathlib.Decide.{dec_le}
use borrow.Author.Tests.{lt-ltb, le-ltb, eq-eqb, ne_eqb}
use Rattle.format.specs.Answer.{Outcome, ok, refused, unexpected_end_of_input, or_else}
use Rattle.format.specs.Bytes.{align}
use Rattle.format.specs.Read.{aligned}
use Rattle.format.proofs.Answer.{then_ok, then_refused, check_ok, check_no}
use Rattle.format.proofs.Bytes.{align_near, align_same, align_more}
use Rattle.reader.specs.declared.SliceReadError.{SliceReadError}
use Rattle.reader.specs.declared.SliceReadError.TheVariants.{UnexpectedEndOfInput}
use Rattle.reader.specs.Outcomes.{why_of}
use Rattle.reader.proofs.Outcomes.{or_else_lem}
use Rattle.std.specs.Prelude.{Result, Ok, Err, Option, Some, None}
use Rattle.std.specs.Option.{SomeIff, ok_or}
use Rattle.std.specs.Result.{result_unwrap_or}
use Rattle.std.specs.Int.{next_multiple_of}
use Rattle.format.specs.Results.{outcome_of, outcome}

module _ (val to : ℕ) where
  pub aligned_none : to ≡ 0 → aligned val to ≡ refused unexpected_end_of_input
  unfolding aligned
  aligned_none e = then_refused _ _ (check_no _ (ap not (eq-eqb to 0 e)))

  module _ (some : to ≢ 0) where
    pub aligned_there : align val to < 2 ^ 64 → aligned val to ≡ ok (align val to)
    unfolding aligned
    aligned_there h = then_ok _ _ (check_ok _ (ap not (ne_eqb to 0 some))) (then_ok _ _ (check_ok _ (lt-ltb (align val to) (2 ^ 64) h)) refl)

    pub aligned_past : 2 ^ 64 ≤ align val to → aligned val to ≡ refused unexpected_end_of_input
    unfolding aligned
    aligned_past h = then_ok _ _ (check_ok _ (ap not (ne_eqb to 0 some))) (then_refused _ _ (check_no _ (le-ltb (align val to) (2 ^ 64) h)))

    pub aligned_is : {r : ℕ} → align val to ≡ r → r < 2 ^ 64 → aligned val to ≡ ok r
    aligned_is e h = aligned_there (rw e h) ∙ ap ok e

  -- what the library's `checked_next_multiple_of` gives
  pub aligned_by : (o : Option ℕ) {r : Result ℕ SliceReadError} → r ≡ ok_or o UnexpectedEndOfInput
      → SomeIff o ((0 < to) × (next_multiple_of val to < 2 ^ 64)) (next_multiple_of val to) → outcome why_of r ≡ aligned val to
  unfolding outcome_of why_of align
  aligned_by (Some n) e (h, same) = ap (outcome why_of) e ∙ sym (aligned_is (λ z. omega (arith, h.0)) (sym same) (rw (sym same) at h.1))
  aligned_by None e h =
      ap (outcome why_of) e ∙ elim (dec_le to 0) [
        | yes z ↦ sym (aligned_none (omega arith))
        | no z ↦ elim (dec_le (2 ^ 64) (align val to)) [
          | yes k ↦ sym (aligned_past (λ z'. omega arith) k)
          | no k ↦ absurd (h (omega arith, omega arith))
        ]
      ]

-- what `align` answers: 0 is no step, a multiple stays, and any other number goes up by what its remainder lacks
module _ (val to : ℕ) where
  pub align_by_none : (0 < to → ⊥) → outcome why_of (Err UnexpectedEndOfInput) ≡ aligned val to
  unfolding outcome_of why_of
  align_by_none h = sym (aligned_none val to (omega arith))

  module _ (some : 0 < to) where
    pub align_stays : val < 2 ^ 64 → val % to ≡ 0 → outcome why_of (Ok val) ≡ aligned val to
    unfolding outcome_of
    align_stays h e = sym (aligned_is val to (λ z. omega arith) (align_same val to e) h)

    module _ (over : val % to ≡ 0 → ⊥) where
      pub align_up : val + (to - val % to) < 2 ^ 64 → outcome why_of (Ok (val + (to - val % to))) ≡ aligned val to
      unfolding outcome_of
      align_up h = sym (aligned_is val to (λ z. omega arith) (align_more val to some over) h)

      pub align_past : 2 ^ 64 ≤ val + (to - val % to) → outcome why_of (Err UnexpectedEndOfInput) ≡ aligned val to
      unfolding outcome_of why_of
      align_past h = sym (aligned_past val to (λ z. omega arith) (rw (align_more val to some over) h))

pub ruleset align_laws = (align_by_none, align_stays, align_up, align_past)

-- rounding up to a word
pub aligned_4 : (val : ℕ) → val + 3 < 2 ^ 64 → aligned val 4 ≡ ok (align val 4)
aligned_4 val h = aligned_there val 4 (λ e. omega arith) (omega (arith, align_near val))

-- what `aligned` promises of a position, where the range does not end
pub aligned_total : (val : ℕ) → val + 3 < 2 ^ 64 → or_else val (aligned val 4) ≡ align val 4
aligned_total val h = or_else_lem val (aligned_4 val h)

-- the number of an answer, or one given
pub or_given : (d : ℕ) (r : Result ℕ SliceReadError) {m : Outcome ℕ} → outcome why_of r ≡ m → result_unwrap_or r d ≡ or_else d m
unfolding outcome_of or_else
or_given d (Ok n) e = ap (or_else d) e
or_given d (Err x) e = ap (or_else d) e
