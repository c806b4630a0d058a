-- The fields of a line, and what a field spells: a number in decimal digits, or bytes in hexadecimal digits. Assumes nothing.
use Rattle.std.specs.Prelude.{ℕ, zero, suc, ◌+◌, ◌*◌, ◌-◌, ◌/◌, ◌%◌, ◌^◌, ◌≤◌, ◌≡◌, cond, List, [], ◌∷◌, ◌++◌, eqb, leb, ltb, length, take, drop, get_or, Option, Some, None}
use Rattle.format.specs.Answer.{or_zero}
use Rattle.format.specs.Read.{read_be_u32}

-- the first field of a line: what stands before its first space (32)
unfoldable pub first_of : List ℕ → List ℕ
first_of [] = []
first_of (b ∷ s) = cond (eqb b 32) [] (b ∷ first_of s)

-- what follows the first field and its space
unfoldable pub rest_of : List ℕ → List ℕ
rest_of [] = []
rest_of (b ∷ s) = cond (eqb b 32) s (rest_of s)

-- the letter of a line: its first field, and a space where that is not one byte
unfoldable pub letter_of : List ℕ → ℕ
letter_of s = cond (eqb (length (first_of s)) 1) (get_or (first_of s) 0 0) 32

-- the first field of s ends there
pub record Ends (s : List ℕ) (end : ℕ) : Type 0 where
  pub within : end ≤ length s
  pub first : first_of s ≡ take end s
  pub rest : rest_of s ≡ drop (end + 1) s

-- the value of a hexadecimal digit, `0` to `9`, `a` to `f` or `A` to `F`, and 16 for any other byte
unfoldable pub digit_of : ℕ → ℕ
digit_of b =
    cond (ltb b 48) 16
    (cond (leb b 57) (b - 48)
    (cond (ltb b 65) 16 (cond (leb b 70) (b - 65 + 10) (cond (ltb b 97) 16 (cond (leb b 102) (b - 97 + 10) 16)))))

-- "decimal numbers up to 18446744073709551615": the digits s, after digits that spell n
unfoldable pub number_from : ℕ → List ℕ → Option ℕ
number_from n [] = Some n
number_from n (b ∷ s) =
    cond (leb (digit_of b) 9)
    (cond (ltb (n * 10 + digit_of b) (2 ^ 64)) (number_from (n * 10 + digit_of b) s) None)
    None

-- 1 to 20 digits
unfoldable pub number_of : List ℕ → Option ℕ
number_of s = cond (eqb (length s) 0) None (cond (ltb 20 (length s)) None (number_from 0 s))

-- bytes, and those that follow them if there are any
unfoldable pub before : List ℕ → Option (List ℕ) → Option (List ℕ)
before xs None = None
before xs (Some ys) = Some (xs ++ ys)

-- the byte that two digits spell, 256 where one of them is none
unfoldable pub pair_of : ℕ → ℕ → ℕ
pair_of a b = cond (ltb (digit_of a) 16) (cond (ltb (digit_of b) 16) (digit_of a * 16 + digit_of b) 256) 256

-- two digits a byte
unfoldable pub pairs_of : List ℕ → Option (List ℕ)
pairs_of [] = Some []
pairs_of (a ∷ []) = None
pairs_of (a ∷ b ∷ s) = cond (ltb (pair_of a b) 256) (before (pair_of a b ∷ []) (pairs_of s)) None

-- how much was put at the start of out, and what
abbrev pub many : Option ℕ → ℕ
many (Some n) = n
many None = 0

abbrev pub put_by : Option ℕ → List ℕ → Option (List ℕ)
put_by (Some n) out = Some (take n out)
put_by None out = None

-- what was put is what was spelled, all of it; and nothing is spelled where it is bad
pub record Put (r : Option ℕ) (spelled : Option (List ℕ)) (out : List ℕ) : Type 0 where
  pub within : many r ≤ length out
  pub same : put_by r out ≡ spelled

-- an even count of digits, no more than there is room for
unfoldable pub hex_of : ℕ → List ℕ → Option (List ℕ)
hex_of room s = cond (eqb (length s % 2) 1) None (cond (ltb (room * 2) (length s)) None (pairs_of s))

-- of a field, "`-` for the empty one"
unfoldable pub bytes_of : ℕ → List ℕ → Option (List ℕ)
bytes_of room s =
    cond (eqb (length s) 0) None
    (cond (eqb (length s) 1) (cond (eqb (get_or s 0 0) 45) (Some []) None) (hex_of room s))

-- the first n words of bytes
unfoldable pub words_in : ℕ → List ℕ → List ℕ
words_in zero b = []
words_in (suc n) b = words_in n b ++ (or_zero (read_be_u32 b (n * 4)) ∷ [])

-- the bytes as words of four, no more than there is room for
unfoldable pub gathered : ℕ → List ℕ → Option (List ℕ)
gathered room b = cond (eqb (length b % 4) 0) (cond (leb (length b / 4) room) (Some (words_in (length b / 4) b)) None) None

abbrev pub gathered_of : ℕ → Option (List ℕ) → Option (List ℕ)
gathered_of room None = None
gathered_of room (Some b) = gathered room b

-- "hex words of 8 digits, row after row", of which the largest table has 3,584
unfoldable pub words_of : ℕ → List ℕ → Option (List ℕ)
words_of room s = gathered_of room (bytes_of 14336 s)
