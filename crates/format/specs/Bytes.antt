-- Bytes at positions. A blob is the list of its bytes. Document 01: "All integers in a blob are big-endian."
use Rattle.std.specs.Prelude.{◌≡◌, ℕ, zero, suc, ◌+◌, ◌-◌, ◌*◌, ◌/◌, ◌%◌, ◌<◌, ◌≤◌, List, [], ◌∷◌, ◌++◌, length, take, drop, slice_index}

-- the n bytes of b from position p on
unfoldable pub part : List ℕ → ℕ → ℕ → List ℕ
part b p n = take n (drop p b)

-- the bytes xs stand in the blob b, all of them, from position p on
pub record Has (b : List ℕ) (p : ℕ) (xs : List ℕ) : Type 0 where
  pub fits : p + length xs ≤ length b
  pub same : part b p (length xs) ≡ xs

-- the k big-endian bytes of n; the first has all that is left of n, so it is a byte only where n is below 256 ^ k
unfoldable pub big_endian : ℕ → ℕ → List ℕ
big_endian zero n = []
big_endian (suc zero) n = n ∷ []
big_endian (suc (suc k)) n = big_endian (suc k) (n / 256) ++ n % 256 ∷ []

abbrev pub word : ℕ → List ℕ
word n = big_endian 4 n

abbrev pub long : ℕ → List ℕ
long n = big_endian 8 n

-- the number that big-endian bytes stand for, after those that stand for `high`
unfoldable pub number : ℕ → List ℕ → ℕ
number high [] = high
number high (x ∷ xs) = number (high * 256 + x) xs

-- the number of the k bytes at p, as far as they lie in the blob
unfoldable pub value_at : ℕ → List ℕ → ℕ → ℕ
value_at k b p = number 0 (part b p k)

abbrev pub word_at : List ℕ → ℕ → ℕ
word_at b p = value_at 4 b p

-- `val` rounded up to a multiple of `to`, as src/util.rs has it
unfoldable pub align : ℕ → ℕ → ℕ
align val to = val + (to - val % to) % to

-- every element is a byte: what a `&[u8]` brings with it
unfoldable pub AreBytes : List ℕ → Type 0
AreBytes b = (i : ℕ) → slice_index b i < 256

-- no element is zero
unfoldable pub NoZero : List ℕ → Type 0
NoZero [] = Unit {0}
NoZero (x ∷ xs) = (0 < x) × NoZero xs

-- every element is below n
unfoldable pub Below : ℕ → List ℕ → Type 0
Below n [] = Unit {0}
Below n (x ∷ xs) = (x < n) × Below n xs
