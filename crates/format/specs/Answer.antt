-- What a call answers: a value or a refusal, and the numbers that document 01 knows them by ("When the reader says no").
use Rattle.std.specs.Prelude.{ℕ, ◌≤◌, Bool, true, false, List, [], ◌∷◌, length}

infixl 10 ◌>>=◌
-- 1 to 15, with the position or the rows needed (16, a bad line, is the programs' own)
pub data Refusal : Type 0 where
  invalid_magic_number size_mismatch unexpected_end_of_input : Refusal
  parse_error : ℕ → Refusal
  utf8_error version_not_supported : Refusal
  too_deep reservation_room node_room property_room : ℕ → Refusal
  nothing_found missing0 too_short not_usable : Refusal

unfoldable pub refusal_numbers : Refusal → List ℕ
refusal_numbers invalid_magic_number = 1 ∷ []
refusal_numbers size_mismatch = 2 ∷ []
refusal_numbers unexpected_end_of_input = 3 ∷ []
refusal_numbers (parse_error p) = 4 ∷ p ∷ []
refusal_numbers utf8_error = 5 ∷ []
refusal_numbers version_not_supported = 6 ∷ []
refusal_numbers (too_deep p) = 7 ∷ p ∷ []
refusal_numbers (reservation_room n) = 8 ∷ n ∷ []
refusal_numbers (node_room n) = 9 ∷ n ∷ []
refusal_numbers (property_room n) = 10 ∷ n ∷ []
refusal_numbers nothing_found = 11 ∷ []
refusal_numbers missing0 = 12 ∷ []
refusal_numbers too_short = 13 ∷ []
refusal_numbers not_usable = 15 ∷ []

pub data Outcome (A : Type 0) : Type 0 where
  ok : A → Outcome A
  refused : Refusal → Outcome A

-- 0 and what the value carries, or the refusal
unfoldable pub numbers : {A : Type 0} → (A → List ℕ) → Outcome A → List ℕ
numbers carries (ok a) = 0 ∷ carries a
numbers carries (refused r) = refusal_numbers r

-- document 01's number alone
unfoldable pub first : List ℕ → ℕ
first [] = 0
first (n ∷ ns) = n

unfoldable pub code : {A : Type 0} → Outcome A → ℕ
code (ok a) = 0
code (refused r) = first (refusal_numbers r)

-- "unless refused with 7 to 10": the limits that the Rust does not have
abbrev pub Limit : ℕ → Type 0
Limit n = (7 ≤ n) × (n ≤ 10)

-- what a value carries: one number, or nothing
unfoldable pub itself : ℕ → List ℕ
itself n = n ∷ []

unfoldable pub nothing : Unit {0} → List ℕ
nothing u = []

-- a part of the caller's bytes, where it can only be told by its place
pub record Span : Type 0 where
  pub offset : ℕ
  pub size : ℕ

unfoldable pub place : Span → List ℕ
place s = s.offset ∷ s.size ∷ []

-- the Rust's `try!`
unfoldable pub ◌>>=◌ : {A B : Type 0} → Outcome A → (A → Outcome B) → Outcome B
◌>>=◌ (ok a) f = f a
◌>>=◌ (refused r) f = refused r

-- go on where the test passes
unfoldable pub check : Bool → Refusal → Outcome (Unit {0})
check true r = ok tt
check false r = refused r

-- where the bytes that were given stand, if they were read from position p on
unfoldable pub span_at : ℕ → Outcome (List ℕ) → Outcome Span
span_at p m = m >>= λ xs. ok (record { offset = p; size = length xs })

-- "a companion call returns that part, empty on a refusal"
unfoldable pub or_empty : Outcome (List ℕ) → List ℕ
or_empty (ok xs) = xs
or_empty (refused r) = []

-- a total call answers a number of its own on a refusal, mostly 0
unfoldable pub or_else : ℕ → Outcome ℕ → ℕ
or_else d (ok n) = n
or_else d (refused r) = d

unfoldable pub or_zero : Outcome ℕ → ℕ
or_zero = or_else 0
