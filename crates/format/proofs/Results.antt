-- A `Result` and its outcome: what the one says of the other, both ways, and that outcomes are told apart as the answers are. Assumes nothing.
use Rattle.std.specs.Prelude.{◌≡◌, Result, Ok, Err}
use Rattle.std.specs.Result.{IsErrAnd}
use mathlib.Core.Path.{sym, ap, ◌∙◌}
use Rattle.format.specs.Answer.{Refusal, Outcome, ok, refused}
use Rattle.format.specs.Results.{outcome_of}
use Rattle.format.proofs.Answer.{never, ok_same, refused_same}

module _ {T E A : Type 0} (why : E → Refusal) (tells : T → A) where
  -- ---- for callers: the outcome, where the answer is known

  pub said_ok : {r : Result T E} {v : T} {m : Outcome A} → r ≡ Ok v → outcome_of why tells r ≡ m → m ≡ ok (tells v)
  unfolding outcome_of
  said_ok k e = sym e ∙ ap (outcome_of why tells) k

  pub said_err : {r : Result T E} {x : E} {m : Outcome A} → r ≡ Err x → outcome_of why tells r ≡ m → m ≡ refused (why x)
  unfolding outcome_of
  said_err k e = sym e ∙ ap (outcome_of why tells) k

  -- ---- for the functions themselves: the way back

  pub says_ok : {r : Result T E} {v : T} {m : Outcome A} → r ≡ Ok v → m ≡ ok (tells v) → outcome_of why tells r ≡ m
  unfolding outcome_of
  says_ok k e = ap (outcome_of why tells) k ∙ sym e

  pub says_err : {r : Result T E} {x : E} {m : Outcome A} → r ≡ Err x → m ≡ refused (why x) → outcome_of why tells r ≡ m
  unfolding outcome_of
  says_err k e = ap (outcome_of why tells) k ∙ sym e

  -- where `?` hands an error on, as what its `From` makes of it
  pub hands_on : {Q : E → Type 0} {z : Refusal} {m : Outcome A} (r : Result T E) → IsErrAnd r Q → ((y : E) → Q y → why y ≡ z) → m ≡ refused z
      → outcome_of why tells r ≡ m
  unfolding outcome_of
  hands_on (Ok v) q h e = absurd q
  hands_on (Err y) q h e = ap refused (h y q) ∙ sym e

  -- ---- an outcome determines the answer, where no two values or errors tell the same

  pub outcome_same : ((v w : T) → tells v ≡ tells w → v ≡ w) → ((x y : E) → why x ≡ why y → x ≡ y)
      → (r s : Result T E) → outcome_of why tells r ≡ outcome_of why tells s → r ≡ s
  unfolding outcome_of
  outcome_same values errors (Ok v) (Ok w) e = ap Ok (values v w (ok_same e))
  outcome_same values errors (Ok v) (Err y) e = absurd (never (sym e))
  outcome_same values errors (Err x) (Ok w) e = absurd (never e)
  outcome_same values errors (Err x) (Err y) e = ap Err (errors x y (refused_same e))
