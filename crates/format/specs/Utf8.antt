-- UTF-8: RFC 3629's grammar, and the check by the number of leading one bits (document 01, "Order of the port", 2).
use Rattle.std.specs.Prelude.{◌≡◌, ℕ, zero, suc, ◌≤◌, Bool, true, false, ◌&&◌, eqb, ltb, List, [], ◌∷◌, ◌==◌, nat_le, nat_lt}
use Rattle.std.proofs.Math.Option.{Option, none, some}
use Rattle.format.specs.Choice.{when◌then◌else◌}

-- x is one of lo .. hi
pub record In (lo hi x : ℕ) : Type 0 where
  pub low : lo ≤ x
  pub high : x ≤ hi

abbrev pub Tail : ℕ → Type 0
Tail x = In 0x80 0xbf x

-- RFC 3629, section 4, a constructor for each alternative of UTF8-octets = *( UTF8-char )
pub data Utf8 : List ℕ → Type 0 where
  end : Utf8 []
  utf8_1 : {a : ℕ} {s : List ℕ} → In 0x00 0x7f a → Utf8 s → Utf8 (a ∷ s)
  utf8_2 : {a b : ℕ} {s : List ℕ} → In 0xc2 0xdf a → Tail b → Utf8 s → Utf8 (a ∷ b ∷ s)
  utf8_3_e0 : {a b c : ℕ} {s : List ℕ} → a ≡ 0xe0 → In 0xa0 0xbf b → Tail c → Utf8 s → Utf8 (a ∷ b ∷ c ∷ s)
  utf8_3_e1 : {a b c : ℕ} {s : List ℕ} → In 0xe1 0xec a → Tail b → Tail c → Utf8 s → Utf8 (a ∷ b ∷ c ∷ s)
  utf8_3_ed : {a b c : ℕ} {s : List ℕ} → a ≡ 0xed → In 0x80 0x9f b → Tail c → Utf8 s → Utf8 (a ∷ b ∷ c ∷ s)
  utf8_3_ee : {a b c : ℕ} {s : List ℕ} → In 0xee 0xef a → Tail b → Tail c → Utf8 s → Utf8 (a ∷ b ∷ c ∷ s)
  utf8_4_f0 : {a b c d : ℕ} {s : List ℕ} → a ≡ 0xf0 → In 0x90 0xbf b → Tail c → Tail d → Utf8 s → Utf8 (a ∷ b ∷ c ∷ d ∷ s)
  utf8_4_f1 : {a b c d : ℕ} {s : List ℕ} → In 0xf1 0xf3 a → Tail b → Tail c → Tail d → Utf8 s → Utf8 (a ∷ b ∷ c ∷ d ∷ s)
  utf8_4_f4 : {a b c d : ℕ} {s : List ℕ} → a ≡ 0xf4 → In 0x80 0x8f b → Tail c → Tail d → Utf8 s → Utf8 (a ∷ b ∷ c ∷ d ∷ s)

-- ---- the check

-- how many one bits a byte begins with, counted up to 5
unfoldable pub leading_ones : ℕ → ℕ
leading_ones a =
    when nat_lt a 0x80 then 0
    else (when ltb a 0xc0 then 1
    else (when ltb a 0xe0 then 2
    else (when ltb a 0xf0 then 3
    else (when ltb a 0xf8 then 4 else 5))))

pub record Range : Type 0 where
  pub lo : ℕ
  pub hi : ℕ

unfoldable pub within : Range → ℕ → Bool
within r x = nat_le r.lo x && nat_le x r.hi

-- "Further bytes are 80 to BF."
unfoldable pub tail : Range
tail = record { lo = 0x80; hi = 0xbf }

-- "After E0 the second is A0 to BF, after ED 80 to 9F, after F0 90 to BF, after F4 80 to 8F."
unfoldable pub second : ℕ → Range
second a =
    when a == 0xe0 then record { lo = 0xa0; hi = 0xbf }
    else (when eqb a 0xed then record { lo = 0x80; hi = 0x9f }
    else (when eqb a 0xf0 then record { lo = 0x90; hi = 0xbf }
    else (when eqb a 0xf4 then record { lo = 0x80; hi = 0x8f } else tail)))

-- the further bytes of a sequence that begins with a, which has that many leading ones; none: a is bad
unfoldable pub further_by : ℕ → ℕ → Option (List Range)
further_by zero a = some []
further_by (suc zero) a = none
further_by (suc (suc zero)) a = when nat_lt a 0xc2 then none else some (tail ∷ [])
further_by (suc (suc (suc zero))) a = some (second a ∷ tail ∷ [])
further_by (suc (suc (suc (suc zero)))) a = when nat_lt 0xf4 a then none else some (second a ∷ tail ∷ tail ∷ [])
further_by (suc (suc (suc (suc (suc n))))) a = none

unfoldable pub further : ℕ → Option (List Range)
further a = further_by (leading_ones a) a

-- whether the bytes are further ones as expected, and then whole sequences
unfoldable pub goes_on : List Range → List ℕ → Bool
goes_on [] [] = true
goes_on (r ∷ rs) [] = false
goes_on [] (a ∷ s) = elim (further a) [ none ↦ false | some rs ↦ goes_on rs s ]
goes_on (r ∷ rs) (x ∷ s) = within r x && goes_on rs s

-- what the Rust's `core::str::from_utf8` accepts
unfoldable pub from_utf8 : List ℕ → Bool
from_utf8 s = goes_on [] s
