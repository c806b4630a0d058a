-- What a line is answered: the reader's numbers for what its fields spell, and 16 for a bad line. Assumes nothing.
use Rattle.std.specs.Prelude.{ℕ, cond, List, [], ◌∷◌, eqb, ltb, length, drop, get_or, Option, Some, None}
use Rattle.format.specs.Answer.{numbers, itself, nothing, place, span_at}
use Rattle.format.specs.Read as read
use Rattle.lines.specs.Fields.{first_of, rest_of, number_of, bytes_of}
use Rattle.answers.specs.Answers.{answer_numbers}
use Rattle.answers.specs.declared.answer.Answer.{Answer}

-- what a line is told, 16 where it is bad
abbrev pub told : Option Answer → List ℕ
told (Some a) = answer_numbers a
told None = 16 ∷ []

-- ---- go on where the fields spell something

abbrev pub with_number : Option ℕ → (ℕ → List ℕ) → List ℕ
with_number (Some n) f = f n
with_number None f = 16 ∷ []

abbrev pub with_bytes : Option (List ℕ) → (List ℕ → List ℕ) → List ℕ
with_bytes (Some b) f = f b
with_bytes None f = 16 ∷ []

abbrev pub two_of : Option ℕ → Option ℕ → Option (ℕ × ℕ)
two_of (Some a) (Some b) = Some (a, b)
two_of (Some a) None = None
two_of None n = None

abbrev pub with_two : Option (ℕ × ℕ) → (ℕ → ℕ → List ℕ) → List ℕ
with_two (Some (a, b)) f = f a b
with_two None f = 16 ∷ []

-- two numbers, and what a reader makes of them
unfoldable pub numbers_reply : (ℕ → ℕ → List ℕ) → List ℕ → List ℕ
numbers_reply f s = with_two (two_of (number_of (first_of s)) (number_of (rest_of s))) f

-- bytes, and what is made of them and of the fields that follow
unfoldable pub bytes_reply : (List ℕ → List ℕ → List ℕ) → ℕ → List ℕ → List ℕ
bytes_reply f room s = with_bytes (bytes_of room (first_of s)) (λ b. f b (rest_of s))

-- ---- the letters

-- A VAL TO
abbrev pub rounded : ℕ → ℕ → List ℕ
rounded val to = numbers itself (read.aligned val to)

-- U BYTES
unfoldable pub utf8_reply : ℕ → List ℕ → List ℕ
utf8_reply room s = with_bytes (bytes_of room s) (λ b. numbers nothing (read.utf8_check b))

-- S BYTES START END
abbrev pub part : List ℕ → ℕ → ℕ → List ℕ
part b start end = numbers place (span_at start (read.subslice b start end))

-- W BYTES POS, L BYTES POS, Z BYTES POS: by the letter, W (87), L (76), Z (90)
unfoldable pub read_reply : ℕ → List ℕ → ℕ → List ℕ
read_reply letter b pos =
    cond (eqb letter 87) (numbers itself (read.read_be_u32 b pos))
    (cond (eqb letter 76) (numbers itself (read.read_be_u64 b pos))
    (cond (eqb letter 90) (numbers place (span_at pos (read.read_bstring0 b pos))) (16 ∷ [])))

-- the fields after BYTES: S (83), or a position
unfoldable pub fields_reply : ℕ → List ℕ → List ℕ → List ℕ
fields_reply letter b s = cond (eqb letter 83) (numbers_reply (part b) s) (with_number (number_of s) (read_reply letter b))

-- by the letter: A (65), U (85), or one that BYTES follows
unfoldable pub letter_reply : ℕ → ℕ → List ℕ → List ℕ
letter_reply room letter s =
    cond (eqb letter 65) (numbers_reply rounded s)
    (cond (eqb letter 85) (utf8_reply room s) (bytes_reply (fields_reply letter) room s))

-- a letter, a space (32), and the fields
unfoldable pub reply : ℕ → List ℕ → List ℕ
reply room line =
    cond (ltb (length line) 2) (16 ∷ [])
    (cond (eqb (get_or line 1 0) 32) (letter_reply room (get_or line 0 0) (drop 2 line)) (16 ∷ []))
