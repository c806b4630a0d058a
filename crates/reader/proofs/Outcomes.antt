-- What a reader's answer says of what it reads. Assumes nothing.
use mathlib.Core.Path.{◌≡◌, refl, sym, ap, ◌∙◌}
use Prim.Native.Nat.{ℕ}
use Rattle.std.specs.Prelude.{Result, Ok, Err}
use Rattle.std.specs.Result.{result_unwrap_or}
use Rattle.format.specs.Results.{outcome_of}
use mathlib.Core.List.{List}
use Rattle.format.specs.Answer.{Outcome, ok, refused, unexpected_end_of_input, or_else, or_zero, or_empty}
use Rattle.reader.specs.declared.SliceReadError.{SliceReadError}
use Rattle.reader.specs.declared.SliceReadError.TheVariants.{UnexpectedEndOfInput}
use Rattle.reader.specs.Outcomes.{why_of}

-- there is one error
pub why_short : (e : SliceReadError) → why_of e ≡ unexpected_end_of_input
unfolding why_of
why_short UnexpectedEndOfInput = refl

-- ---- what was read, where the answer is known

pub got_number : {n : ℕ} {m : Outcome ℕ} → outcome_of why_of (λ n. n) (Ok n) ≡ m → m ≡ ok n
unfolding outcome_of
got_number e = sym e

pub none : {T A : Type 0} (tells : T → A) (x : SliceReadError) {m : Outcome A} → outcome_of why_of tells (Err x) ≡ m → m ≡ refused unexpected_end_of_input
unfolding outcome_of
none tells x e = sym e ∙ ap refused (why_short x)

-- ---- the total calls and the parts, where something was read

pub or_else_lem : (d : ℕ) {m : Outcome ℕ} {n : ℕ} → m ≡ ok n → or_else d m ≡ n
unfolding or_else
or_else_lem d e = ap (or_else d) e

pub or_zero_lem : {m : Outcome ℕ} {n : ℕ} → m ≡ ok n → or_zero m ≡ n
unfolding or_zero
or_zero_lem e = or_else_lem 0 e

pub or_empty_lem : {m : Outcome (List ℕ)} {xs : List ℕ} → m ≡ ok xs → or_empty m ≡ xs
unfolding or_empty
or_empty_lem e = ap or_empty e

-- a value that was read, or one that is 0
pub or_zero_of : {T : Type 0} (value : T → ℕ) (r : Result T SliceReadError) (zero : T) {m : Outcome ℕ} → value zero ≡ 0 → outcome_of why_of value r ≡ m
    → value (result_unwrap_or r zero) ≡ or_zero m
unfolding outcome_of or_zero or_else
or_zero_of value (Ok v) zero z e = ap or_zero e
or_zero_of value (Err x) zero z e = z ∙ ap or_zero e
