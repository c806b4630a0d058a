-- Cases on an order and on tests, and a rule of every number below a bound by one computed test. Assumes nothing.
use Rattle.std.specs.Prelude.{◌≡◌, ℕ, zero, suc, ◌<◌, ◌≤◌, Bool, true, false, ◌&&◌}
use mathlib.Core.Path.{refl}
use native.Mathlib.Omega.{arith}
use native.Mathlib.Decide.{dec_le}
use Rattle.format.specs.Choice.{when◌then◌else◌}

pub split {ℓ} : {X : Type ℓ} (a b : ℕ) → (a ≤ b → X) → (b < a → X) → X
split a b f g = elim (dec_le a b) [ yes h ↦ f h | no h ↦ g (omega arith) ]

pub both : (s t : Bool) → (s && t) ≡ true → (s ≡ true) × (t ≡ true)
both true t e = (refl, e)
both false t e = let z : ◌≡◌ {A = ℕ} 0 1 = cc in absurd (omega arith)

pub never_both : {t : Bool} → t ≡ false → t ≡ true → ⊥
never_both e f = let z : ◌≡◌ {A = ℕ} 0 1 = cc in omega arith

-- a test, with which way it went
pub tested {ℓ} : {X : Type ℓ} (t : Bool) → (t ≡ true → X) → (t ≡ false → X) → X
tested true f g = f refl
tested false f g = g refl

-- ---- the conditional

pub if_yes : {A : Type 0} {t : Bool} (x y : A) → t ≡ true → (when t then x else y) ≡ x
unfolding when◌then◌else◌
if_yes x y e = rw (e, when◌then◌else◌)

pub if_no : {A : Type 0} {t : Bool} (x y : A) → t ≡ false → (when t then x else y) ≡ y
unfolding when◌then◌else◌
if_no x y e = rw (e, when◌then◌else◌)

-- which way it went
pub if_went {ℓ} : {A : Type 0} {C : Type ℓ} (t : Bool) (x y : A) {r : A} → (when t then x else y) ≡ r
    → (t ≡ true → x ≡ r → C) → (t ≡ false → y ≡ r → C) → C
unfolding when◌then◌else◌
if_went true x y e f g = f refl e
if_went false x y e f g = g refl e

pub if_same : {A : Type 0} (t : Bool) (x x' y y' : A) → x ≡ x' → y ≡ y' → (when t then x else y) ≡ (when t then x' else y')
if_same t x x' y y' e k = rw (e, k)

-- ---- tables: a test passed by every number below n

unfoldable pub all_below : ℕ → (ℕ → Bool) → Bool
all_below zero test = true
all_below (suc n) test = test n && all_below n test

pub each_below : (n : ℕ) (test : ℕ → Bool) → all_below n test ≡ true → (a : ℕ) → a < n → test a ≡ true
unfolding all_below
each_below zero test e a h = absurd (omega arith)
each_below (suc n) test e a h =
    let p = both _ _ e in
    split n a (λ k. let same : a ≡ n = omega arith in rw same p.0) (λ k. each_below n test p.1 a k)
