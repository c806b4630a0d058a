-- Bytes that are not our own, as they are shown: what is not printable ASCII stands as \xNN, and a backslash as two.
use Rattle.std.specs.Prelude.{ℕ, ◌-◌, ◌^◌, Bool, false, ◌&&◌, ◌||◌, ◌==◌, nat_le, if◌then◌else◌, List, [], ◌∷◌, ◌++◌, length, take, flat_map, codes}
use Rattle.std.specs.Fmt.{padded_integral, format_spec, digits}

-- from one byte to another
abbrev pub is_within : ℕ → ℕ → ℕ → Bool
is_within first last b = nat_le first b && nat_le b last

-- from the space to the tilde
abbrev pub is_printable : ℕ → Bool
is_printable b = is_within 32 126 b

-- # * + , - . ? @ _, digits and letters
abbrev pub is_of_a_name : ℕ → Bool
is_of_a_name b = (b == 35) || (is_within 42 46 b || (is_within 48 57 b || (is_within 63 90 b || ((b == 95) || is_within 97 122 b))))

-- a byte as `{:02x}` writes it: by `hex_byte` of std, its two digits
abbrev pub pair : ℕ → List ℕ
pair b = padded_integral (format_spec 32 0 4 2 (2 ^ 64 - 1)) false [] (digits 16 false b)

-- such pairs, a space before all but the first
unfoldable pub pairs : List ℕ → List ℕ
pairs [] = []
pairs (b ∷ s) = pair b ++ flat_map (λ x. 32 ∷ pair x) s

-- \x, and the byte
abbrev pub numbered : ℕ → List ℕ
numbered b = 92 ∷ 120 ∷ pair b

abbrev pub in_line : ℕ → List ℕ
in_line b = if b == 92 then 92 ∷ 92 ∷ [] else (if is_printable b then b ∷ [] else numbered b)

abbrev pub in_name : ℕ → List ℕ
in_name b = if is_of_a_name b then b ∷ [] else numbered b

-- a zero stands between two strings
abbrev pub in_strings : ℕ → List ℕ
in_strings b = if b == 0 then codes "\", \"" else (if b == 34 then 92 ∷ 34 ∷ [] else in_line b)

unfoldable pub line : List ℕ → List ℕ
line s = flat_map in_line s

unfoldable pub name : List ℕ → List ℕ
name s = if length s == 0 then codes "/* no name */" else flat_map in_name s

abbrev pub quoted : List ℕ → List ℕ
quoted s = 34 ∷ (flat_map in_strings s ++ 34 ∷ [])

-- without the last one's zero
unfoldable pub strings : List ℕ → List ℕ
strings s = if length s == 0 then [] else quoted (take (length s - 1) s)
