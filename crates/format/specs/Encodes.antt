-- When a blob encodes a tree (document 01, "How a blob is read"; Devicetree Specification v0.4, chapter 5):
-- what must hold of the tree, and which bytes the tree puts at which positions.
-- Every definition goes by the tree. None reads the blob.
--
-- Document 01's departures from the Specification, each with what makes it:
--   NOP (4) is refused                               NodeAt: after a property, a child or a name stands no other token than the next one's
--   END (9) isn't required                           Layout: no field for what follows the root
--   a zero size alone ends the reservation list      Rules, size_zero
--   block alignment, words 32 and 36 are unchecked   Layout: `structure`, `strings`, `reservations` are any numbers
--   name alphabets and lengths are unchecked         GoodName
--   blocks may overlap                               Has: nothing keeps two pieces apart
--   names may repeat                                 GoodNode: nothing compares two names
--   the root may be named                            Layout, root: a node like any other
--   padding may hold anything                        after_name, after_property: the bytes up to the next multiple of 4 are in no field
--   property names may lie outside the strings block PropertyAt, name, with Rules, strings_end
--   a value may not end at the blob's last byte      PropertyAt, inside
--   only version 17, whatever word 24 says           Layout, version_is, and no field for word 24
--   the blob is exactly as long as it says           Layout, length_is
use Rattle.std.specs.Prelude.{◌≡◌, ℕ, ◌+◌, ◌<◌, Bool, true, false, List, [], ◌∷◌, ◌++◌, length, take}
use Rattle.format.specs.Bytes.{Has, word, long, align, NoZero}
use Rattle.format.specs.Format.{magic, version, magic_at, total_size_at, structure_at, strings_at, reservations_at, version_at, boot_cpu_at, BEGIN_NODE, END_NODE, PROP}
use Rattle.format.specs.Utf8.{Utf8}
use Rattle.format.specs.Tree.{Property, Node, node, Nodes, none, ◌&◌, Reservation, Tree}
use Rattle.format.specs.Rules.{Rules}

-- ---- the tree

-- A zero byte ends a name, so none is in it.
pub record GoodName (name : List ℕ) : Type 0 where
  pub nonzero : NoZero name
  pub utf8 : Utf8 name

unfoldable pub GoodProperties : List Property → Type 0
GoodProperties [] = Unit {0}
GoodProperties (x ∷ xs) = GoodName x.name × GoodProperties xs

unfoldable mutual
  pub GoodNode : Node → Type 0
  GoodNode (node name props children) = GoodName name × GoodProperties props × GoodNodes children

  pub GoodNodes : Nodes → Type 0
  GoodNodes none = Unit {0}
  GoodNodes (n & ns) = GoodNode n × GoodNodes ns

-- The last reservation, and no earlier one, ends the list. "That last entry is stored too."
unfoldable pub LastEnds : (Reservation → Bool) → List Reservation → Type 0
LastEnds is_last [] = ⊥
LastEnds is_last (r ∷ []) = is_last r ≡ true
LastEnds is_last (r ∷ s ∷ rs) = (is_last r ≡ false) × LastEnds is_last (s ∷ rs)

pub record Good (rules : Rules) (t : Tree) : Type 0 where
  pub names : GoodNode t.root
  pub last : LastEnds rules.is_last t.reserved

-- ---- the bytes

-- where the names of properties stand: offsets count from the start, and a name's zero byte stands before the end
pub record Block : Type 0 where
  pub start : ℕ
  pub end : ℕ

-- A property at p: token, value size, name offset, value. "A value may not end at the blob's last byte."
pub record PropertyAt (b : List ℕ) (strings : Block) (p : ℕ) (x : Property) : Type 0 where
  pub offset : ℕ
  pub token : Has b p (word PROP)
  pub size : Has b (p + 4) (word (length x.value))
  pub name_offset : Has b (p + 8) (word offset)
  pub value : Has b (p + 12) x.value
  pub inside : p + 12 + length x.value < length b
  pub name : Has (take strings.end b) (strings.start + offset) (x.name ++ 0 ∷ [])

-- Where what follows begins: "aligned to 4 from the start of the blob, not of the block".
unfoldable pub after_property : ℕ → Property → ℕ
after_property p x = align (p + 12 + length x.value) 4

unfoldable pub after_properties : ℕ → List Property → ℕ
after_properties p [] = p
after_properties p (x ∷ xs) = after_properties (after_property p x) xs

unfoldable pub after_name : ℕ → List ℕ → ℕ
after_name p name = align (p + 4 + length name + 1) 4

unfoldable mutual
  pub after_node : ℕ → Node → ℕ
  after_node p (node name props children) = after_nodes (after_properties (after_name p name) props) children + 4

  pub after_nodes : ℕ → Nodes → ℕ
  after_nodes p none = p
  after_nodes p (n & ns) = after_nodes (after_node p n) ns

unfoldable pub PropertiesAt : List ℕ → Block → ℕ → List Property → Type 0
PropertiesAt b strings p [] = Unit {0}
PropertiesAt b strings p (x ∷ xs) = PropertyAt b strings p x × PropertiesAt b strings (after_property p x) xs

-- A node at p: token, name and its zero byte, properties, children, closing token.
unfoldable mutual
  pub NodeAt : List ℕ → Block → ℕ → Node → Type 0
  NodeAt b strings p (node name props children) =
      Has b p (word BEGIN_NODE)
      × Has b (p + 4) (name ++ 0 ∷ [])
      × PropertiesAt b strings (after_name p name) props
      × NodesAt b strings (after_properties (after_name p name) props) children
      × Has b (after_nodes (after_properties (after_name p name) props) children) (word END_NODE)

  pub NodesAt : List ℕ → Block → ℕ → Nodes → Type 0
  NodesAt b strings p none = Unit {0}
  NodesAt b strings p (n & ns) = NodeAt b strings p n × NodesAt b strings (after_node p n) ns

pub record ReservationAt (b : List ℕ) (p : ℕ) (r : Reservation) : Type 0 where
  pub offset : Has b p (long r.offset)
  pub size : Has b (p + 8) (long r.size)

-- "Pairs of 8-byte numbers, offset then size, at any alignment."
unfoldable pub ReservationsAt : List ℕ → ℕ → List Reservation → Type 0
ReservationsAt b p [] = Unit {0}
ReservationsAt b p (r ∷ rs) = ReservationAt b p r × ReservationsAt b (p + 16) rs

-- Bytes that no field names may be anything: words 24, 32 and 36, padding, whatever follows the root.
pub record Layout (rules : Rules) (b : List ℕ) (t : Tree) : Type 0 where
  pub structure : ℕ
  pub strings : ℕ
  pub reservations : ℕ
  pub magic_is : Has b magic_at (word magic)
  pub length_is : Has b total_size_at (word (length b))
  pub structure_is : Has b structure_at (word structure)
  pub strings_is : Has b strings_at (word strings)
  pub reservations_is : Has b reservations_at (word reservations)
  pub version_is : Has b version_at (word version)
  pub boot_is : Has b boot_cpu_at (word t.boot)
  pub reserved : ReservationsAt b reservations t.reserved
  pub root : NodeAt b (record { start = strings; end = rules.strings_end b }) structure t.root

pub record Encodes (rules : Rules) (b : List ℕ) (t : Tree) : Type 0 where
  pub good : Good rules t
  pub layout : Layout rules b t
