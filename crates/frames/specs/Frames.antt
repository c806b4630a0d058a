-- What a line is answered: the numbers of a load of the frame that it spells, and 16 for a bad line. Assumes nothing.
use Rattle.std.specs.Prelude.{ℕ, List, [], ◌∷◌, replicate, Option, Some, None}
use Rattle.format.specs.Answer.{numbers}
use Rattle.format.specs.Load.{Tables, tree_numbers, load}
use Rattle.lines.specs.Fields.{hex_of}

-- tables for 64 reservations, 512 nodes and 512 properties
unfoldable pub tables : Tables
tables = record { reservations = replicate 128 0; nodes = replicate 3584 0; properties = replicate 2048 0 }

unfoldable pub load_reply : List ℕ → List ℕ
load_reply b = numbers tree_numbers (load tables b)

-- of a frame of at most 8,192 bytes
abbrev pub spelled_reply : Option (List ℕ) → List ℕ
spelled_reply (Some b) = load_reply b
spelled_reply None = 16 ∷ []

unfoldable pub frame_reply : List ℕ → List ℕ
frame_reply line = spelled_reply (hex_of 8192 line)
