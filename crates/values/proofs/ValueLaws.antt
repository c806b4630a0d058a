-- What is made of a value, by cases: a number of its first bytes, at every width, and a text. Assumes nothing.
use Rattle.std.proofs.Common.{◌≡◌, ℕ, ◌-◌, ◌≤◌, Bool, true, false, eqb, leb, leb-true, le-leb, List, [], ◌∷◌, length, take, drop, get_or, refl, sym, ap, ◌∙◌, arith}
use lib.Pointwise.{pointwise}
use Rattle.std.proofs.Math.Bool.{and-true}
use Rattle.format.specs.Answer.{Refusal, ok, refused, utf8_error, missing0, too_short}
use Rattle.format.specs.Bytes.{part, value_at}
use Rattle.format.specs.Read.{read_be, utf8_check}
use Rattle.format.specs.Find.{as_number, ends0, as_string}
use Rattle.format.specs.Lookup.{bytes_of}
use Rattle.format.proofs.Tools.{tested}
use Rattle.format.proofs.Answer.{never, then_ok, then_refused, check_ok, check_no}
use Rattle.format.proofs.Read.{read_there, read_inside}

-- the value's bytes, as they are lent
pub lent_is : (b : List ℕ) (p n : ℕ) {i : ℕ} → i ≡ n → take i (drop p b) ≡ bytes_of b (record { offset = p; size = n })
unfolding bytes_of part
lent_is b p n e = rw e

-- ---- the number of its first k bytes: what is read at its front

module _ (k : ℕ) (v : List ℕ) where
  number_there : k ≤ length v → as_number k v ≡ read_be k v 0
  unfolding as_number value_at part
  number_there h = then_ok _ _ (check_ok _ (le-leb k (length v) h)) (sym (read_there v k 0 (omega arith)))

  number_past : leb k (length v) ≡ false → as_number k v ≡ refused too_short
  unfolding as_number
  number_past t = then_refused _ _ (check_no _ t)

  module _ {w : List ℕ} (is : v ≡ w) where
    pub number_read : {n : ℕ} → ok n ≡ read_be k v 0 → as_number k w ≡ ok n
    number_read e = rw (← is) (number_there (omega (arith, read_inside v k 0 (sym e))) ∙ sym e)

    pub number_short : {r : Refusal} → refused r ≡ read_be k v 0 → as_number k w ≡ refused too_short
    number_short e =
        rw (← is) (tested (leb k (length v))
        (λ t. absurd (never (e ∙ read_there v k 0 (omega (arith, leb-true _ _ t)))))
        number_past)

-- ---- texts

-- the last byte, as the library cuts it off
last_is : (x : ℕ) (xs : List ℕ) → drop (length xs) (x ∷ xs) ≡ get_or (x ∷ xs) (length xs) 0 ∷ []
last_is x [] = refl
last_is x (y ∷ ys) = last_is y ys

abbrev Ends : List ℕ → Bool → Type 0
Ends v t = pointwise eqb (drop (length v - 1) v) (0 ∷ []) ≡ t

ends_is : (v : List ℕ) → pointwise eqb (drop (length v - 1) v) (0 ∷ []) ≡ ends0 v
unfolding ends0
ends_is [] = refl
ends_is (x ∷ xs) =
    let one : length (x ∷ xs) - 1 ≡ length xs = omega arith in
    rw (one, last_is x xs, le-leb 1 (length (x ∷ xs)) (omega arith)) (and-true _)

module _ (v : List ℕ) where
  pub text_open : Ends v false → as_string v ≡ refused missing0
  unfolding as_string
  text_open e = then_refused _ _ (check_no _ (sym (ends_is v) ∙ e))

  module _ (e : Ends v true) {text : List ℕ} (is : text ≡ take (length v - 1) v) where
    pub text_bad : utf8_check text ≡ refused utf8_error → as_string v ≡ refused utf8_error
    unfolding as_string utf8_check
    text_bad f = then_ok _ _ (check_ok _ (sym (ends_is v) ∙ e)) (then_refused _ _ (rw is at f))

    pub text_good : utf8_check text ≡ ok tt → as_string v ≡ ok text
    unfolding as_string utf8_check
    text_good f = then_ok _ _ (check_ok _ (sym (ends_is v) ∙ e)) (then_ok _ _ (rw is at f) (ap ok (sym is)))
