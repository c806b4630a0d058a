-- Names a word at a time: for private contracts. No public promise cites it.
use Rattle.std.specs.Prelude.{◌≡◌, ℕ, ◌+◌, ◌*◌, ◌≤◌, List, length, get_or, drop}
use Rattle.format.specs.Find.{head}

-- the four bytes of s at p as a number, the first of them the lowest
unfoldable pub lowest : List ℕ → ℕ → ℕ
lowest s p = ((get_or s (p + 3) 0 * 256 + get_or s (p + 2) 0) * 256 + get_or s (p + 1) 0) * 256 + get_or s p 0

-- the first i bytes of a path are of its first name
pub record Scan (p : List ℕ) (i : ℕ) : Type 0 where
  pub inside : i ≤ length p
  pub first : length (head p) ≡ i + length (head (drop i p))
