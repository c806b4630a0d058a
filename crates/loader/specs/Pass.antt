-- The writing pass: over what, into what room, and what it leaves. It runs over a blob that the checking pass accepted, so each
-- statement speaks of the tree that stands there. That the blob is small is known of each `Blob`.
use Rattle.std.specs.Prelude.{◌≡◌, ◌≢◌, ℕ, ◌+◌, ◌*◌, ◌≤◌, ◌<◌, ◌^◌, List, [], ◌∷◌, length, take}
use Rattle.std.proofs.lemmas.List.Edits.{sets}
use Rattle.format.specs.Answer.{or_empty}
use Rattle.format.specs.Bytes.{Has, word, word_at, align}
use Rattle.format.specs.Format.{NONE, END_NODE, PROP, node_width, property_width}
use Rattle.format.specs.Tree.{Property, Node, Nodes, depth, node_count, node_counts, property_count, property_counts}
use Rattle.format.specs.Encodes.{GoodProperties, GoodNode, GoodNodes, after_properties, after_node, after_nodes, PropertiesAt, NodeAt, NodesAt}
use Rattle.format.specs.Encodes as encodes
use Rattle.format.specs.Read.{read_bstring0}
use Rattle.reader.specs.declared.Token.{Token}
use Rattle.reader.specs.declared.Token.TheVariants.{BeginNode, EndNode, Prop, Other}
use Rattle.reader.specs.Outcomes.{token_of}
use Rattle.format.specs.Rows.{node_rows, nodes_rows, property_rows, node_properties, nodes_properties, node_numbers, property_numbers}

-- the length of the string at p, 0 where there is none: what the total reader gives
unfoldable pub string_length : List ℕ → ℕ → ℕ
string_length b p = length (or_empty (read_bstring0 b p))

-- ---- properties

-- where the name of the property at p stands, and how long it is
unfoldable pub name_start : List ℕ → encodes.Block → ℕ → ℕ
name_start b strings p = strings.start + word_at b (p + 8)

unfoldable pub name_length : List ℕ → encodes.Block → ℕ → ℕ
name_length b strings p = string_length (take strings.end b) (name_start b strings p)

-- what writing the row of the property at p needs, and the row
pub record PropReady (b : List ℕ) (strings : encodes.Block) (p row : ℕ) (table : List ℕ) : Type 0 where
  pub inside : p + 12 + word_at b (p + 4) < length b
  pub name_inside : name_start b strings p + name_length b strings p < length b
  pub room : property_width * (row + 1) ≤ length table

unfoldable pub prop_numbers : List ℕ → encodes.Block → ℕ → List ℕ
prop_numbers b strings p = name_start b strings p ∷ name_length b strings p ∷ (p + 12) ∷ word_at b (p + 4) ∷ []

-- the properties xs stand at p, and no further one
pub record PropsHere (b : List ℕ) (strings : encodes.Block) (p : ℕ) (xs : List Property) : Type 0 where
  pub good : GoodProperties xs
  pub at : PropertiesAt b strings p xs
  pub token : ℕ
  pub stands : Has b (after_properties p xs) (word token)
  pub other : token ≢ PROP

-- what writing them needs
pub record PropsReady (b : List ℕ) (strings : encodes.Block) (p row : ℕ) (table : List ℕ) : Type 0 where
  pub xs : List Property
  pub here : PropsHere b strings p xs
  pub room : property_width * (row + length xs) ≤ length table
  pub few : row + length xs < 2 ^ 32

-- where a pass over properties has come: the next position, the next row, the table
pub record PropsState : Type 0 where
  pub next : ℕ
  pub row : ℕ
  pub table : List ℕ

unfoldable pub props_state : ℕ → ℕ → List ℕ → PropsState
props_state next row table = record { next = next; row = row; table = table }

unfoldable pub props_after : List ℕ → encodes.Block → List Property → ℕ → ℕ → List ℕ → PropsState
props_after b strings xs p row table = record {
  next = after_properties p xs;
  row = row + length xs;
  table = sets table (property_width * row) (property_numbers (property_rows b strings.start xs p));
}

-- ---- a node's head

-- where a node's properties begin
unfoldable pub first_at : List ℕ → ℕ → ℕ
first_at b p = align (p + 4 + string_length b (p + 4) + 1) 4

pub record HeadReady (b : List ℕ) (strings : encodes.Block) (p row prow : ℕ) (nodes props : List ℕ) : Type 0 where
  pub xs : List Property
  pub here : PropsHere b strings (first_at b p) xs
  pub name_inside : p + 4 + string_length b (p + 4) < length b
  pub node_room : node_width * (row + 1) ≤ length nodes
  pub prop_room : property_width * (prow + length xs) ≤ length props
  pub node_few : row + 1 < 2 ^ 32
  pub prop_few : prow + length xs < 2 ^ 32

-- the row of a first child, if the token there opens one
unfoldable pub child_row : Token → ℕ → ℕ
child_row BeginNode row = row
child_row EndNode row = NONE
child_row Prop row = NONE
child_row (Other n) row = NONE

unfoldable pub head_numbers : List ℕ → List Property → ℕ → ℕ → ℕ → ℕ → List ℕ
head_numbers b xs p row prow parent =
    (p + 4) ∷ string_length b (p + 4) ∷ parent ∷ child_row (token_of (word_at b (after_properties (first_at b p) xs))) (row + 1) ∷ NONE ∷ prow ∷ length xs ∷ []

pub record HeadDone (b : List ℕ) (strings : encodes.Block) (xs : List Property) (p row prow parent : ℕ) (nodes props : List ℕ) (next row' prow' : ℕ) (nodes' props' : List ℕ) : Type 0 where
  pub own : props_state next prow' props' ≡ props_after b strings xs (first_at b p) prow props
  pub row_is : row' ≡ row + 1
  pub stored : nodes' ≡ sets nodes (node_width * row) (head_numbers b xs p row prow parent)

-- ---- nodes

-- the nodes ns stand at p, and no further one, but the end of what holds them
pub record NodesHere (b : List ℕ) (strings : encodes.Block) (p : ℕ) (ns : Nodes) : Type 0 where
  pub good : GoodNodes ns
  pub at : NodesAt b strings p ns
  pub ends : Has b (after_nodes p ns) (word END_NODE)

-- the node stands at p
pub record NodeHere (b : List ℕ) (strings : encodes.Block) (p : ℕ) (n : Node) : Type 0 where
  pub good : GoodNode n
  pub at : NodeAt b strings p n

-- what writing a node needs
pub record NodeReady (b : List ℕ) (strings : encodes.Block) (depthLeft p row prow : ℕ) (nodes props : List ℕ) : Type 0 where
  pub tree : Node
  pub here : NodeHere b strings p tree
  pub deep : depth tree ≤ depthLeft
  pub node_room : node_width * (row + node_count tree) ≤ length nodes
  pub prop_room : property_width * (prow + property_count tree) ≤ length props
  pub node_few : row + node_count tree < 2 ^ 32
  pub prop_few : prow + property_count tree < 2 ^ 32

-- where a pass over nodes has come: the next position, the next rows, the tables
pub record State : Type 0 where
  pub next : ℕ
  pub row : ℕ
  pub prow : ℕ
  pub nodes : List ℕ
  pub props : List ℕ

unfoldable pub passed : ℕ → ℕ → ℕ → List ℕ → List ℕ → State
passed next row prow nodes props = record { next = next; row = row; prow = prow; nodes = nodes; props = props }

unfoldable pub node_after : List ℕ → encodes.Block → Node → ℕ → ℕ → ℕ → ℕ → ℕ → List ℕ → List ℕ → State
node_after b strings n p row prow parent sibling nodes props = record {
  next = after_node p n;
  row = row + node_count n;
  prow = prow + property_count n;
  nodes = sets nodes (node_width * row) (node_numbers (node_rows n p row prow parent sibling));
  props = sets props (property_width * prow) (property_numbers (node_properties b strings.start n p));
}

unfoldable pub nodes_after : List ℕ → encodes.Block → Nodes → ℕ → ℕ → ℕ → ℕ → List ℕ → List ℕ → State
nodes_after b strings ns p row prow parent nodes props = record {
  next = after_nodes p ns;
  row = row + node_counts ns;
  prow = prow + property_counts ns;
  nodes = sets nodes (node_width * row) (node_numbers (nodes_rows ns p row prow parent));
  props = sets props (property_width * prow) (property_numbers (nodes_properties b strings.start ns p));
}
