-- What is encoded is small: the blob is below 2 ^ 32 bytes long, each node and each property takes 9 of them at least (a node at an
-- unaligned structure offset is 9 to 12 long), and so every number of a row fits the table that it is written to.
-- Assumes that the blob's elements are bytes.
use Rattle.std.specs.Prelude.{◌≡◌, ℕ, ◌+◌, ◌*◌, ◌^◌, ◌<◌, ◌≤◌, List, [], ◌∷◌, ◌++◌, length}
use native.Mathlib.Omega.{arith}
use lib.ListN.{length-append}
use Rattle.format.specs.Bytes.{AreBytes, Has, big_endian, word, word_at, Below}
use Rattle.format.specs.Format.{NONE, structure_at, strings_at}
use Rattle.format.specs.Tree.{Property, Node, node, Nodes, none, ◌&◌, Reservation, Tree, node_count, node_counts, property_count, property_counts}
use Rattle.format.specs.Rules.{Rules}
use Rattle.format.specs.Encodes.{Block, PropertiesAt, after_property, after_properties, after_name, after_node, after_nodes, NodeAt, NodesAt, ReservationsAt, Encodes}
use Rattle.format.specs.Rows.{NodeRow, PropertyRow, first_row, node_rows, nodes_rows, property_row, property_rows, node_properties, nodes_properties, rows, reservation_numbers, node_numbers, property_numbers}
use Rattle.format.specs.Shape.{IsTree}
use Rattle.format.proofs.Bytes.{value_is, value_small, has_front_of, below_append, align_up}
use Rattle.format.proofs.Complete.{reservation_inside}
use Rattle.format.proofs.Rows.{numbers_append, property_numbers_append}
use Rattle.format.proofs.Shape.{shape}

pub value_fits : (b : List ℕ) (p k n : ℕ) → AreBytes b → 0 < k → p + k ≤ length b → Has b p (big_endian k n) → n < 256 ^ k
value_fits b p k n all pos fits h = rw (value_is b p k n pos h) at (value_small b p k all fits)

pub length_small : (b : List ℕ) → AreBytes b → Has b 4 (word (length b)) → length b < 2 ^ 32
unfolding big_endian
length_small b all h = value_fits b 4 4 (length b) all (omega arith) h.fits h

-- ---- how many bytes a tree takes

pub properties_span : (xs : List Property) (p : ℕ) → p + 12 * length xs ≤ after_properties p xs
unfolding after_properties after_property
properties_span [] p = omega arith
properties_span (x ∷ xs) p = omega (arith, align_up (p + 12 + length x.value), properties_span xs (after_property p x))

mutual
  unfolding after_node after_name node_count property_count

  pub node_span : (n : Node) (p : ℕ) → p + 9 * (node_count n + property_count n) ≤ after_node p n
  node_span (node name xs cs) p =
      omega (arith, align_up (p + 4 + length name + 1), properties_span xs (after_name p name), nodes_span cs (after_properties (after_name p name) xs))

  pub nodes_span : (ns : Nodes) (p : ℕ) → p + 9 * (node_counts ns + property_counts ns) ≤ after_nodes p ns
  nodes_span none p = omega arith
  nodes_span (n & ns) p = omega (arith, node_span n p, nodes_span ns (after_node p n))

pub node_inside : (b : List ℕ) (strings : Block) (p : ℕ) (n : Node) → NodeAt b strings p n → after_node p n ≤ length b
unfolding NodeAt after_node big_endian
node_inside b strings p (node name xs cs) at = at.4.fits

reservations_inside : (b : List ℕ) (p : ℕ) (rs : List Reservation) → p ≤ length b → ReservationsAt b p rs → p + 16 * length rs ≤ length b
unfolding ReservationsAt
reservations_inside b p [] h at = omega arith
reservations_inside b p (r ∷ rs) h at = omega (arith, reservations_inside b (p + 16) rs (reservation_inside b r p at.0) at.1)

reservations_few : (b : List ℕ) (p : ℕ) (rs : List Reservation) → ReservationsAt b p rs → 16 * length rs ≤ length b
unfolding ReservationsAt
reservations_few b p [] at = omega arith
reservations_few b p (r ∷ rs) at = omega (arith, reservations_inside b (p + 16) rs (reservation_inside b r p at.0) at.1)

-- ---- counts

module _ (rules : Rules) (b : List ℕ) (t : Tree) (all : AreBytes b) (e : Encodes rules b t) where
  pub few : 9 * (node_count t.root + property_count t.root) ≤ length b
  few =
      let at = e.layout in
      omega (arith, node_span t.root at.structure, node_inside b (record { start = at.strings; end = rules.strings_end b }) at.structure t.root at.root)

  -- A count is a number of 32 bits, and no row's number is "none".
  pub record CountsFit : Type 0 where
    pub reservations : length t.reserved < 2 ^ 32
    pub nodes : node_count t.root < NONE
    pub properties : property_count t.root < NONE

  pub counts_fit : CountsFit
  unfolding NONE
  counts_fit =
      let small = length_small b all e.layout.length_is in
      record {
        reservations = omega (arith, reservations_few b e.layout.reservations t.reserved e.layout.reserved);
        nodes = omega (arith, few);
        properties = omega (arith, few);
      }

-- ---- every number of a row

own_fits : (r : NodeRow) (rs : List NodeRow) → r.name_offset < 2 ^ 32 → r.name_length < 2 ^ 32 → r.parent < 2 ^ 32 → r.first_child < 2 ^ 32
    → r.next_sibling < 2 ^ 32 → r.first_property < 2 ^ 32 → r.property_count < 2 ^ 32 → Below (2 ^ 32) (node_numbers rs) → Below (2 ^ 32) (node_numbers (r ∷ rs))
unfolding node_numbers Below
own_fits r rs h₁ h₂ h₃ h₄ h₅ h₆ h₇ h = (h₁, (h₂, (h₃, (h₄, (h₅, (h₆, (h₇, h)))))))

no_rows_fit : Below (2 ^ 32) (node_numbers [])
unfolding node_numbers Below
no_rows_fit = tt

rows_fit : (xs ys : List NodeRow) → Below (2 ^ 32) (node_numbers xs) → Below (2 ^ 32) (node_numbers ys) → Below (2 ^ 32) (node_numbers (xs ++ ys))
rows_fit xs ys h k = rw numbers_append (below_append (2 ^ 32) _ _ h k)

no_property_rows_fit : Below (2 ^ 32) (property_numbers [])
unfolding property_numbers Below
no_property_rows_fit = tt

property_rows_fit : (xs ys : List PropertyRow) → Below (2 ^ 32) (property_numbers xs) → Below (2 ^ 32) (property_numbers ys) → Below (2 ^ 32) (property_numbers (xs ++ ys))
property_rows_fit xs ys h k = rw property_numbers_append (below_append (2 ^ 32) _ _ h k)

module _ (b : List ℕ) (all : AreBytes b) (small : length b < 2 ^ 32) where
  row_fits : (ns : Nodes) (row : ℕ) → row + node_counts ns < 2 ^ 32 → first_row ns row < 2 ^ 32
  unfolding first_row NONE
  row_fits none row h = omega arith
  row_fits (n & ns) row h = omega arith

  module _ (strings : Block) where
    mutual
      unfolding NodeAt node_rows node_count property_count

      node_fits : (n : Node) (p row props parent sibling : ℕ) → NodeAt b strings p n → parent < 2 ^ 32 → sibling < 2 ^ 32
          → row + node_count n < 2 ^ 32 → props + property_count n < 2 ^ 32 → Below (2 ^ 32) (node_numbers (node_rows n p row props parent sibling))
      node_fits (node name xs cs) p row props parent sibling at hp hs hr hx =
          let name-fits = rw length-append at at.1.fits in
          own_fits _ _ (omega arith) (omega arith) hp (row_fits cs (row + 1) (omega arith)) hs (omega arith) (omega arith)
          (nodes_fit cs _ (row + 1) (props + length xs) row at.3 (omega arith) (omega arith) (omega arith))

      nodes_fit : (ns : Nodes) (p row props parent : ℕ) → NodesAt b strings p ns → parent < 2 ^ 32
          → row + node_counts ns < 2 ^ 32 → props + property_counts ns < 2 ^ 32 → Below (2 ^ 32) (node_numbers (nodes_rows ns p row props parent))
      nodes_fit none p row props parent at hp hr hx = no_rows_fit
      nodes_fit (n & ns) p row props parent at hp hr hx =
          rows_fit (node_rows n p row props parent (first_row ns (row + node_count n))) (nodes_rows ns (after_node p n) (row + node_count n) (props + property_count n) parent)
          (node_fits n p row props parent _ at.0 hp (row_fits ns (row + node_count n) (omega arith)) (omega arith) (omega arith))
          (nodes_fit ns _ (row + node_count n) (props + property_count n) parent at.1 hp (omega arith) (omega arith))

    properties_fit : (xs : List Property) (p : ℕ) → PropertiesAt b strings p xs → Below (2 ^ 32) (property_numbers (property_rows b strings.start xs p))
    unfolding PropertiesAt property_rows property_row property_numbers Below
    properties_fit [] p at = tt
    properties_fit (x ∷ xs) p at =
        let offset = value_is b (p + 8) 4 at.0.offset (omega arith) at.0.name_offset in
        let name-fits = rw length-append at (has_front_of b strings.end _ _ at.0.name).fits in
        (omega arith, (omega arith, (omega (arith, at.0.inside), (omega (arith, at.0.inside), properties_fit xs (after_property p x) at.1))))

    mutual
      unfolding NodeAt node_properties

      node_properties_fit : (n : Node) (p : ℕ) → NodeAt b strings p n → Below (2 ^ 32) (property_numbers (node_properties b strings.start n p))
      node_properties_fit (node name xs cs) p at =
          property_rows_fit (property_rows b strings.start xs (after_name p name)) (nodes_properties b strings.start cs (after_properties (after_name p name) xs))
          (properties_fit xs _ at.2) (nodes_properties_fit cs _ at.3)

      nodes_properties_fit : (ns : Nodes) (p : ℕ) → NodesAt b strings p ns → Below (2 ^ 32) (property_numbers (nodes_properties b strings.start ns p))
      nodes_properties_fit none p at = no_property_rows_fit
      nodes_properties_fit (n & ns) p at =
          property_rows_fit (node_properties b strings.start n p) (nodes_properties b strings.start ns (after_node p n))
          (node_properties_fit n p at.0) (nodes_properties_fit ns _ at.1)

  reservations_fit : (rs : List Reservation) (p : ℕ) → ReservationsAt b p rs → Below (2 ^ 64) (reservation_numbers rs)
  unfolding ReservationsAt reservation_numbers Below big_endian
  reservations_fit [] p at = tt
  reservations_fit (r ∷ rs) p at = (
    value_fits b p 8 r.offset all (omega arith) at.0.offset.fits at.0.offset,
    (value_fits b (p + 8) 8 r.size all (omega arith) at.0.size.fits at.0.size, reservations_fit rs (p + 16) at.1),
  )

-- The numbers of the rows of an encoded tree fit the 64 and the 32 bits of the tables.
pub record NumbersFit (b : List ℕ) (t : Tree) : Type 0 where
  pub reservations : Below (2 ^ 64) (reservation_numbers (rows b t).reservations)
  pub nodes : Below (2 ^ 32) (node_numbers (rows b t).nodes)
  pub properties : Below (2 ^ 32) (property_numbers (rows b t).properties)

-- the offsets that the rows read off the header are the layout's
pub structure_is_lem : (rules : Rules) (b : List ℕ) (t : Tree) (e : Encodes rules b t) → word_at b structure_at ≡ e.layout.structure
structure_is_lem rules b t e = value_is b structure_at 4 e.layout.structure (omega arith) e.layout.structure_is

pub strings_is_lem : (rules : Rules) (b : List ℕ) (t : Tree) (e : Encodes rules b t) → word_at b strings_at ≡ e.layout.strings
strings_is_lem rules b t e = value_is b strings_at 4 e.layout.strings (omega arith) e.layout.strings_is

pub numbers_fit : (rules : Rules) (b : List ℕ) (t : Tree) → AreBytes b → Encodes rules b t → NumbersFit b t
unfolding rows NONE
numbers_fit rules b t all e =
    let at = e.layout in
    let strings : Block = record { start = at.strings; end = rules.strings_end b } in
    let small = length_small b all at.length_is in
    let counts = counts_fit rules b t all e in
    record {
      reservations = reservations_fit b all small t.reserved at.reservations at.reserved;
      nodes = rw (structure_is_lem rules b t e) (node_fits b all small strings t.root at.structure 0 0 NONE NONE at.root (omega arith) (omega arith) (omega (arith, counts.nodes)) (omega (arith, counts.properties)));
      properties = rw (structure_is_lem rules b t e, strings_is_lem rules b t e) (node_properties_fit b all small strings t.root at.structure at.root);
    }

-- the rows of every encoded tree have the shape of a tree
pub rows_shape : (rules : Rules) (b : List ℕ) (t : Tree) → AreBytes b → Encodes rules b t → IsTree (rows b t).nodes (property_count t.root)
unfolding rows
rows_shape rules b t all e = shape t.root (word_at b structure_at) (omega (arith, (counts_fit rules b t all e).nodes))
