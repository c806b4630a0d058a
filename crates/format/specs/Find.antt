-- Finding a node and a property in a tree (document 01, "Finding a node and a property"; the Rust's own `find`, `has_prop`,
-- `prop_raw`, `prop_str`, `prop_u32`, `prop_u64`).
use Rattle.std.specs.Prelude.{ℕ, ◌+◌, ◌-◌, Bool, true, false, ◌&&◌, List, [], ◌∷◌, length, take, ◌==◌, nat_le, nat_lt, slice_index}
use Rattle.format.specs.Choice.{when◌then◌else◌}
use Rattle.format.specs.Answer.{Outcome, ok, refused, ◌>>=◌, check, nothing_found, missing0, too_short, utf8_error}
use Rattle.format.specs.Bytes.{number, word_at}
use Rattle.format.specs.Format.{structure_at}
use Rattle.format.specs.Utf8.{from_utf8}
use Rattle.format.specs.Tree.{Property, Node, node, Nodes, none, ◌&◌, Tree, node_count}
use Rattle.format.specs.Encodes.{after_name, after_properties, after_node}

-- ---- names and paths are byte strings

unfoldable pub SLASH : ℕ
SLASH = 0x2f

-- the text before the first `/`, and what is after it
unfoldable pub head : List ℕ → List ℕ
head [] = []
head (c ∷ s) = when c == SLASH then [] else (c ∷ head s)

unfoldable pub rest : List ℕ → List ℕ
rest [] = []
rest (c ∷ s) = when c == SLASH then s else rest s

-- "Names are compared whole."
unfoldable pub same : List ℕ → List ℕ → Bool
same [] [] = true
same [] (y ∷ ys) = false
same (x ∷ xs) [] = false
same (x ∷ xs) (y ∷ ys) = x == y && same xs ys

-- ---- nodes

-- a node, and where it stands: its row, and the position of its opening token
pub record Place : Type 0 where
  pub here : Node
  pub row : ℕ
  pub position : ℕ

unfoldable pub name_of : Node → List ℕ
name_of (node name xs children) = name

unfoldable pub properties_of : Node → List Property
properties_of (node name xs children) = xs

-- From a node at a row and a position; from some nodes, the first of which is at that row and position.
-- "With no return to a later child of that name."
unfoldable mutual
  pub find_below : Node → ℕ → ℕ → List ℕ → Outcome Place
  find_below (node name xs children) row p [] = ok (record { here = node name xs children; row = row; position = p })
  find_below (node name xs children) row p (c ∷ path) =
      find_among children (row + 1) (after_properties (after_name p name) xs) (head (c ∷ path)) (rest (c ∷ path))

  pub find_among : Nodes → ℕ → ℕ → List ℕ → List ℕ → Outcome Place
  find_among none row p first later = refused nothing_found
  find_among (n & ns) row p first later =
      when same (name_of n) first
      then find_below n row p later
      else find_among ns (row + node_count n) (after_node p n) first later

unfoldable pub find_from : Place → List ℕ → Outcome Place
find_from at path = find_below at.here at.row at.position path

unfoldable pub root_place : List ℕ → Tree → Place
root_place b t = record { here = t.root; row = 0; position = word_at b structure_at }

-- "A tree path that doesn't start with `/` gives 11; the leading `/` is dropped."
unfoldable pub after_slash : List ℕ → Outcome (List ℕ)
after_slash [] = refused nothing_found
after_slash (c ∷ path) = when c == SLASH then ok path else refused nothing_found

unfoldable pub find : List ℕ → Tree → List ℕ → Outcome Place
find b t path = after_slash path >>= λ below. find_from (root_place b t) below

-- the place whose row is i, in a node, in some nodes
unfoldable mutual
  pub place_below : Node → ℕ → ℕ → ℕ → Outcome Place
  place_below (node name xs children) row p i =
      when i == row
      then ok (record { here = node name xs children; row = row; position = p })
      else place_among children (row + 1) (after_properties (after_name p name) xs) i

  pub place_among : Nodes → ℕ → ℕ → ℕ → Outcome Place
  place_among none row p i = refused nothing_found
  place_among (n & ns) row p i =
      when nat_lt i (row + node_count n) then place_below n row p i else place_among ns (row + node_count n) (after_node p n) i

unfoldable pub place_of : List ℕ → Tree → ℕ → Outcome Place
place_of b t i = place_below t.root 0 (word_at b structure_at) i

-- ---- properties

-- "The first property of a name counts."
unfoldable pub first_named : List Property → List ℕ → Outcome (List ℕ)
first_named [] name = refused nothing_found
first_named (x ∷ xs) name = when same x.name name then ok x.value else first_named xs name

unfoldable pub prop_raw : Node → List ℕ → Outcome (List ℕ)
prop_raw n name = first_named (properties_of n) name

unfoldable pub has_prop : Node → List ℕ → Outcome (Unit {0})
has_prop n name = prop_raw n name >>= λ value. ok tt

-- the first k bytes of a value as a number
unfoldable pub as_number : ℕ → List ℕ → Outcome ℕ
as_number k value = check (nat_le k (length value)) too_short >>= λ _. ok (number 0 (take k value))

unfoldable pub prop_u32 : Node → List ℕ → Outcome ℕ
prop_u32 n name = prop_raw n name >>= λ value. as_number 4 value

unfoldable pub prop_u64 : Node → List ℕ → Outcome ℕ
prop_u64 n name = prop_raw n name >>= λ value. as_number 8 value

-- "needs a last byte 0 (12), then UTF-8 before it (5), and hands back the part before it"
unfoldable pub ends0 : List ℕ → Bool
ends0 value = nat_le 1 (length value) && slice_index value (length value - 1) == 0

unfoldable pub as_string : List ℕ → Outcome (List ℕ)
as_string value = do
  _ ← check (ends0 value) missing0
  _ ← check (from_utf8 (take (length value - 1) value)) utf8_error
  ok (take (length value - 1) value)

unfoldable pub prop_str : Node → List ℕ → Outcome (List ℕ)
prop_str n name = prop_raw n name >>= λ value. as_string value
