-- Rows that are one tree, said of the rows: every row but the first has one parent, a walk along the links meets every row once and
-- in order, every property row is one node's; and which tree rows and a blob tell.
use Rattle.std.specs.Prelude.{◌≡◌, ℕ, zero, suc, ◌+◌, ◌<◌, ◌≤◌, ◌≢◌, List, [], ◌∷◌, ◌++◌, length, ◌==◌, nat_eq}
use Rattle.format.specs.Choice.{when◌then◌else◌}
use Rattle.format.specs.Format.{NONE, reservation_width, node_width, property_width}
use Rattle.format.specs.Tree.{Property, Node, node, Nodes, none, ◌&◌, Tree, node_count, property_count}
use Rattle.format.specs.Rows.{NodeRow, PropertyRow, at, reservations_in, nodes_in, properties_in}
use Rattle.format.specs.Load.{Tables, capacity}
use Rattle.format.specs.Lookup.{name_at, property_name, value_span, bytes_of}

-- ---- the shape

-- row r and its later siblings
unfoldable pub siblings : List NodeRow → ℕ → ℕ → List ℕ
siblings R zero r = []
siblings R (suc turns) r = when r == NONE then [] else (r ∷ siblings R turns (at R r).next_sibling)

unfoldable pub children_of : List NodeRow → ℕ → List ℕ
children_of R i = siblings R (length R) (at R i).first_child

-- row r, all below it, and all below its later siblings
unfoldable pub walk : List NodeRow → ℕ → ℕ → List ℕ
walk R zero r = []
walk R (suc turns) r = when r == NONE then [] else (r ∷ walk R turns (at R r).first_child ++ walk R turns (at R r).next_sibling)

-- how often x stands in a list
unfoldable pub count : ℕ → List ℕ → ℕ
count x [] = 0
count x (y ∷ ys) = (when nat_eq x y then 1 else 0) + count x ys

-- n numbers from k on
unfoldable pub range : ℕ → ℕ → List ℕ
range k zero = []
range k (suc n) = k ∷ range (k + 1) n

-- row i has one parent, which stands earlier and lists it once
pub record OneParent (R : List NodeRow) (i : ℕ) : Type 0 where
  pub earlier : (at R i).parent < i
  pub once : count i (children_of R (at R i).parent) ≡ 1
  pub only : (j : ℕ) → j < length R → j ≢ (at R i).parent → count i (children_of R j) ≡ 0

-- property row k is one of those of the node of row i
pub record Owns (R : List NodeRow) (k i : ℕ) : Type 0 where
  pub used : i < length R
  pub from : (at R i).first_property ≤ k
  pub to : k < (at R i).first_property + (at R i).property_count

pub record OneOwner (R : List NodeRow) (k : ℕ) : Type 0 where
  pub owner : ℕ
  pub owns : Owns R k owner
  pub only : (j : ℕ) → Owns R k j → j ≡ owner

-- the nodes' property rows follow one another: the first `props` belong to earlier nodes, and all end at `total`
unfoldable pub PropertiesFollow : ℕ → List NodeRow → ℕ → Type 0
PropertiesFollow props [] total = props ≡ total
PropertiesFollow props (r ∷ rs) total = (r.first_property ≡ props) × PropertiesFollow (props + r.property_count) rs total

-- However many turns the walk is given, it takes no more than there are rows: no row is met twice.
pub record IsTree (R : List NodeRow) (properties : ℕ) : Type 0 where
  pub root : 0 < length R
  pub no_parent : (at R 0).parent ≡ NONE
  pub no_sibling : (at R 0).next_sibling ≡ NONE
  pub parents : (i : ℕ) → 0 < i → i < length R → OneParent R i
  pub walked : (turns : ℕ) → length R ≤ turns → walk R turns 0 ≡ range 0 (length R)
  pub follow : PropertiesFollow 0 R properties
  pub owners : (k : ℕ) → k < properties → OneOwner R k

-- ---- the tree that is told

-- property row k has the name and the value of x
pub record PropertyTold (b : List ℕ) (P : List PropertyRow) (k : ℕ) (x : Property) : Type 0 where
  pub used : k < length P
  pub name : property_name b P k ≡ x.name
  pub value : bytes_of b (value_span P k) ≡ x.value

unfoldable pub PropertiesTold : List ℕ → List PropertyRow → ℕ → List Property → Type 0
PropertiesTold b P k [] = Unit {0}
PropertiesTold b P k (x ∷ xs) = PropertyTold b P k x × PropertiesTold b P (k + 1) xs

-- row r tells the node; row r and its later siblings tell the nodes
unfoldable mutual
  pub NodeTold : List ℕ → List NodeRow → List PropertyRow → Node → ℕ → Type 0
  NodeTold b R P (node name xs children) r =
      (r < length R)
      × (name_at b R r ≡ name)
      × ((at R r).property_count ≡ length xs)
      × PropertiesTold b P (at R r).first_property xs
      × NodesTold b R P children (at R r).first_child

  pub NodesTold : List ℕ → List NodeRow → List PropertyRow → Nodes → ℕ → Type 0
  NodesTold b R P none r = r ≡ NONE
  NodesTold b R P (n & ns) r = (r ≢ NONE) × NodeTold b R P n r × NodesTold b R P ns (at R r).next_sibling

-- ---- both, of the numbers in the lent tables

-- The tables hold one tree, and with the blob they tell the tree t.
pub record Holds (held : Tables) (b : List ℕ) (t : Tree) : Type 0 where
  pub reservations_fit : length t.reserved ≤ capacity reservation_width held.reservations
  pub nodes_fit : node_count t.root ≤ capacity node_width held.nodes
  pub properties_fit : property_count t.root ≤ capacity property_width held.properties
  pub shape : IsTree (nodes_in (node_count t.root) held.nodes) (property_count t.root)
  pub told : NodeTold b (nodes_in (node_count t.root) held.nodes) (properties_in (property_count t.root) held.properties) t.root 0
  pub reserved : reservations_in (length t.reserved) held.reservations ≡ t.reserved
