-- Laws of outcomes: what `try!` and `check` give, and that the numbers of an answer determine it. Assumes nothing.
use Rattle.std.specs.Prelude.{◌≡◌, ℕ, Bool, true, false, eqb, ◌≢◌, List, [], ◌∷◌}
use mathlib.Core.Path.{refl, sym, ap, ◌∙◌}
use native.Mathlib.Omega.{arith}
use Rattle.format.specs.Choice.{when◌then◌else◌}
use Rattle.format.specs.Answer.{Refusal, refusal_numbers, Outcome, ok, refused, ◌>>=◌, check, first, numbers, itself, nothing, Span, place}
use Rattle.format.specs.Answer.{invalid_magic_number, size_mismatch, unexpected_end_of_input, parse_error, utf8_error, version_not_supported, too_deep, reservation_room, node_room, property_room, nothing_found, missing0, too_short, not_usable}

pub never : {A : Type 0} {r : Refusal} {a : A} → refused r ≡ ok a → ⊥
never e = let z : ◌≡◌ {A = ℕ} 0 1 = cc in omega arith

pub ok_same : {A : Type 0} {x y : A} → ok x ≡ ok y → x ≡ y
ok_same e = cc

pub refused_same : {A : Type 0} {x y : Refusal} → ◌≡◌ {A = Outcome A} (refused x) (refused y) → x ≡ y
refused_same e = cc

-- ---- steps

pub ok_then : {A B : Type 0} (a : A) (f : A → Outcome B) → (ok a >>= f) ≡ f a
unfolding ◌>>=◌
ok_then a f = refl

pub then_ok : {A B : Type 0} (m : Outcome A) (f : A → Outcome B) {r : Outcome B} {a : A} → m ≡ ok a → f a ≡ r → (m >>= f) ≡ r
unfolding ◌>>=◌
then_ok m f e k = ap (λ m. m >>= f) e ∙ k

pub then_refused : {A B : Type 0} (m : Outcome A) (f : A → Outcome B) {r : Refusal} → m ≡ refused r → (m >>= f) ≡ refused r
unfolding ◌>>=◌
then_refused m f e = ap (λ m. m >>= f) e

pub then_then : {A B C : Type 0} (m : Outcome A) (f : A → Outcome B) (g : B → Outcome C) → ((m >>= f) >>= g) ≡ (m >>= λ a. f a >>= g)
unfolding ◌>>=◌
then_then (ok a) f g = refl
then_then (refused r) f g = refl

pub then_if : {A B : Type 0} (t : Bool) (x y : Outcome A) (f : A → Outcome B) → ((when t then x else y) >>= f) ≡ (when t then (x >>= f) else (y >>= f))
unfolding when◌then◌else◌
then_if true x y f = refl
then_if false x y f = refl

-- two continuations that agree on what the first step gives
pub then_same : {A B : Type 0} (m : Outcome A) (f g : A → Outcome B) → ((a : A) → m ≡ ok a → f a ≡ g a) → (m >>= f) ≡ (m >>= g)
unfolding ◌>>=◌
then_same (ok a) f g h = h a refl
then_same (refused r) f g h = refl

-- a continuation that hands on what it is given
pub then_self : {A : Type 0} (m : Outcome A) (f : A → Outcome A) → ((a : A) → m ≡ ok a → f a ≡ ok a) → (m >>= f) ≡ m
unfolding ◌>>=◌
then_self (ok a) f h = h a refl
then_self (refused r) f h = refl

-- a step that went well: what it gave, and that the rest went well
pub step {ℓ} : {A B : Type 0} {C : Type ℓ} (m : Outcome A) (f : A → Outcome B) {y : B} → (m >>= f) ≡ ok y
    → ((a : A) → m ≡ ok a → f a ≡ ok y → C) → C
unfolding ◌>>=◌
step (ok a) f e go = go a refl e
step (refused r) f e go = absurd (never e)

pub check_ok : {t : Bool} (r : Refusal) → t ≡ true → check t r ≡ ok tt
unfolding check
check_ok r e = rw (e, check)

pub check_no : {t : Bool} (r : Refusal) → t ≡ false → check t r ≡ refused r
unfolding check
check_no r e = rw (e, check)

pub checked : (t : Bool) (r : Refusal) {u : Unit {0}} → check t r ≡ ok u → t ≡ true
unfolding check
checked true r e = refl
checked false r e = absurd (never e)

-- which way a test went, where the whole was refused
pub check_went {ℓ} : {B : Type 0} {C : Type ℓ} (t : Bool) (r : Refusal) (f : Unit {0} → Outcome B) {s : Refusal} → (check t r >>= f) ≡ refused s
    → (t ≡ false → r ≡ s → C) → (t ≡ true → f tt ≡ refused s → C) → C
unfolding check ◌>>=◌
check_went true r f e failed passed = passed refl e
check_went false r f e failed passed = failed refl (refused_same e)

-- ---- no refusal is numbered 0

pub refusal_not_0 : (r : Refusal) → first (refusal_numbers r) ≢ 0
unfolding first refusal_numbers
refusal_not_0 invalid_magic_number = omega arith
refusal_not_0 size_mismatch = omega arith
refusal_not_0 unexpected_end_of_input = omega arith
refusal_not_0 (parse_error p) = omega arith
refusal_not_0 utf8_error = omega arith
refusal_not_0 version_not_supported = omega arith
refusal_not_0 (too_deep p) = omega arith
refusal_not_0 (reservation_room n) = omega arith
refusal_not_0 (node_room n) = omega arith
refusal_not_0 (property_room n) = omega arith
refusal_not_0 nothing_found = omega arith
refusal_not_0 missing0 = omega arith
refusal_not_0 too_short = omega arith
refusal_not_0 not_usable = omega arith

-- ---- the numbers of an answer determine it, where what a value carries determines the value

carried : List ℕ → ℕ
carried [] = 0
carried (x ∷ xs) = x

refusal_by : ℕ → List ℕ → Refusal
refusal_by n ns =
    when eqb n 1 then invalid_magic_number
    else (when eqb n 2 then size_mismatch
    else (when eqb n 3 then unexpected_end_of_input
    else (when eqb n 4 then parse_error (carried ns)
    else (when eqb n 5 then utf8_error
    else (when eqb n 6 then version_not_supported
    else (when eqb n 7 then too_deep (carried ns)
    else (when eqb n 8 then reservation_room (carried ns)
    else (when eqb n 9 then node_room (carried ns)
    else (when eqb n 10 then property_room (carried ns)
    else (when eqb n 11 then nothing_found
    else (when eqb n 12 then missing0
    else (when eqb n 13 then too_short else not_usable))))))))))))

module _ {A : Type 0} (carries : A → List ℕ) (back : List ℕ → A) (whole : (a : A) → back (carries a) ≡ a) where
  decode : List ℕ → Outcome A
  decode [] = refused unexpected_end_of_input
  decode (n ∷ ns) = when eqb n 0 then ok (back ns) else refused (refusal_by n ns)

  decoded : (m : Outcome A) → decode (numbers carries m) ≡ m
  unfolding decode numbers refusal_numbers refusal_by carried when◌then◌else◌
  decoded (ok a) = ap ok (whole a)
  decoded (refused invalid_magic_number) = refl
  decoded (refused size_mismatch) = refl
  decoded (refused unexpected_end_of_input) = refl
  decoded (refused (parse_error p)) = refl
  decoded (refused utf8_error) = refl
  decoded (refused version_not_supported) = refl
  decoded (refused (too_deep p)) = refl
  decoded (refused (reservation_room n)) = refl
  decoded (refused (node_room n)) = refl
  decoded (refused (property_room n)) = refl
  decoded (refused nothing_found) = refl
  decoded (refused missing0) = refl
  decoded (refused too_short) = refl
  decoded (refused not_usable) = refl

  pub numbers_same : (m n : Outcome A) → numbers carries m ≡ numbers carries n → m ≡ n
  numbers_same m n e = sym (decoded m) ∙ ap decode e ∙ decoded n

pub itself_same : (m n : Outcome ℕ) → numbers itself m ≡ numbers itself n → m ≡ n
unfolding itself carried
itself_same = numbers_same itself carried (λ n. refl)

pub nothing_same : (m n : Outcome (Unit {0})) → numbers nothing m ≡ numbers nothing n → m ≡ n
nothing_same = numbers_same nothing (λ ns. tt) (λ u. refl)

span_back : List ℕ → Span
span_back [] = record { offset = 0; size = 0 }
span_back (n ∷ ns) = record { offset = n; size = carried ns }

pub place_same : (m n : Outcome Span) → numbers place m ≡ numbers place n → m ≡ n
unfolding place span_back carried
place_same = numbers_same place span_back (λ s. refl)

-- the numbers of a refusal are a refusal's, whatever a value carries
pub numbers_refused : {A : Type 0} (carries : A → List ℕ) (m : Outcome A) (r : Refusal) → numbers carries m ≡ refusal_numbers r → m ≡ refused r
unfolding numbers first
numbers_refused carries (ok a) r e = absurd (refusal_not_0 r (sym (ap first e)))
numbers_refused carries (refused s) r e = ap refused (refused_same (nothing_same (refused s) (refused r) e))
