-- What a load writes (document 01): the rows of a tree, by where the blob has it; their numbers; and the rows that a table holds.
use Rattle.std.specs.Prelude.{ℕ, zero, suc, ◌+◌, List, [], ◌∷◌, ◌++◌, length, drop, slice_index, slice_index_or}
use Rattle.format.specs.Bytes.{word_at}
use Rattle.format.specs.Format.{NONE, structure_at, strings_at, reservation_width, node_width, property_width}
use Rattle.format.specs.Tree.{Property, Node, node, Nodes, none, ◌&◌, Reservation, Tree, node_count, property_count}
use Rattle.format.specs.Encodes.{after_property, after_properties, after_name, after_node}

-- seven numbers
pub record NodeRow : Type 0 where
  pub name_offset : ℕ
  pub name_length : ℕ
  pub parent : ℕ
  pub first_child : ℕ
  pub next_sibling : ℕ
  pub first_property : ℕ
  pub property_count : ℕ

-- four numbers
pub record PropertyRow : Type 0 where
  pub name_offset : ℕ
  pub name_length : ℕ
  pub value_offset : ℕ
  pub value_length : ℕ

-- row number i (past the end, one that says nothing)
unfoldable pub blank : NodeRow
blank = record { name_offset = 0; name_length = 0; parent = NONE; first_child = NONE; next_sibling = NONE; first_property = 0; property_count = 0 }

unfoldable pub at : List NodeRow → ℕ → NodeRow
at R i = slice_index_or R i blank

unfoldable pub property_at : List PropertyRow → ℕ → PropertyRow
property_at P k = slice_index_or P k (record { name_offset = 0; name_length = 0; value_offset = 0; value_length = 0 })

-- ---- the rows of a tree

-- the row of the first of some nodes, which would be `row`
unfoldable pub first_row : Nodes → ℕ → ℕ
first_row none row = NONE
first_row (n & ns) row = row

-- The rows of a node at position p: its own is row number `row`, `props` property rows stand before its own,
-- and its next sibling's is `sibling`. "Rows stand in the order of opening tokens."
unfoldable mutual
  pub node_rows : Node → ℕ → ℕ → ℕ → ℕ → ℕ → List NodeRow
  node_rows (node name xs children) p row props parent sibling =
      record {
        name_offset = p + 4;
        name_length = length name;
        parent = parent;
        first_child = first_row children (row + 1);
        next_sibling = sibling;
        first_property = props;
        property_count = length xs;
      }
      ∷ nodes_rows children (after_properties (after_name p name) xs) (row + 1) (props + length xs) row

  pub nodes_rows : Nodes → ℕ → ℕ → ℕ → ℕ → List NodeRow
  nodes_rows none p row props parent = []
  nodes_rows (n & ns) p row props parent =
      node_rows n p row props parent (first_row ns (row + node_count n))
      ++ nodes_rows ns (after_node p n) (row + node_count n) (props + property_count n) parent

-- The row of the property whose token stands at p; offsets of names count from `strings`.
unfoldable pub property_row : List ℕ → ℕ → ℕ → Property → PropertyRow
property_row b strings p x = record {
  name_offset = strings + word_at b (p + 8);
  name_length = length x.name;
  value_offset = p + 12;
  value_length = length x.value;
}

unfoldable pub property_rows : List ℕ → ℕ → List Property → ℕ → List PropertyRow
property_rows b strings [] p = []
property_rows b strings (x ∷ xs) p = property_row b strings p x ∷ property_rows b strings xs (after_property p x)

-- "in blob order"
unfoldable mutual
  pub node_properties : List ℕ → ℕ → Node → ℕ → List PropertyRow
  node_properties b strings (node name xs children) p =
      property_rows b strings xs (after_name p name) ++ nodes_properties b strings children (after_properties (after_name p name) xs)

  pub nodes_properties : List ℕ → ℕ → Nodes → ℕ → List PropertyRow
  nodes_properties b strings none p = []
  nodes_properties b strings (n & ns) p = node_properties b strings n p ++ nodes_properties b strings ns (after_node p n)

-- the rows of a blob b that encodes t
pub record Rows : Type 0 where
  pub reservations : List Reservation
  pub nodes : List NodeRow
  pub properties : List PropertyRow

unfoldable pub rows : List ℕ → Tree → Rows
rows b t = record {
  reservations = t.reserved;
  nodes = node_rows t.root (word_at b structure_at) 0 0 NONE NONE;
  properties = node_properties b (word_at b strings_at) t.root (word_at b structure_at);
}

-- ---- their numbers, as the lent tables hold them

unfoldable pub reservation_numbers : List Reservation → List ℕ
reservation_numbers [] = []
reservation_numbers (r ∷ rs) = r.offset ∷ r.size ∷ reservation_numbers rs

unfoldable pub node_numbers : List NodeRow → List ℕ
node_numbers [] = []
node_numbers (r ∷ rs) =
    r.name_offset ∷ r.name_length ∷ r.parent ∷ r.first_child ∷ r.next_sibling ∷ r.first_property ∷ r.property_count ∷ node_numbers rs

unfoldable pub property_numbers : List PropertyRow → List ℕ
property_numbers [] = []
property_numbers (r ∷ rs) = r.name_offset ∷ r.name_length ∷ r.value_offset ∷ r.value_length ∷ property_numbers rs

-- ---- the first n rows that a table holds

unfoldable pub reservations_in : ℕ → List ℕ → List Reservation
reservations_in zero t = []
reservations_in (suc n) t = record { offset = slice_index t 0; size = slice_index t 1 } ∷ reservations_in n (drop reservation_width t)

unfoldable pub nodes_in : ℕ → List ℕ → List NodeRow
nodes_in zero t = []
nodes_in (suc n) t =
    record {
      name_offset = slice_index t 0;
      name_length = slice_index t 1;
      parent = slice_index t 2;
      first_child = slice_index t 3;
      next_sibling = slice_index t 4;
      first_property = slice_index t 5;
      property_count = slice_index t 6;
    }
    ∷ nodes_in n (drop node_width t)

unfoldable pub properties_in : ℕ → List ℕ → List PropertyRow
properties_in zero t = []
properties_in (suc n) t =
    record { name_offset = slice_index t 0; name_length = slice_index t 1; value_offset = slice_index t 2; value_length = slice_index t 3 }
    ∷ properties_in n (drop property_width t)
