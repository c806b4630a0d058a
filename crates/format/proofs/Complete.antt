-- What encodes a tree is read as that tree: `Encodes rules b t` and depth enough give `load_within rules d b ≡ ok t`. By recursion on the tree:
-- each reader finds what the layout puts there. So a blob encodes at most one tree. Assumes nothing.
use Rattle.std.specs.Prelude.{◌≡◌, ℕ, zero, suc, ◌+◌, ◌<◌, ◌≤◌, Bool, ◌≢◌, List, [], ◌∷◌, length, take}
use mathlib.Core.Path.{refl, sym, ◌∙◌}
use native.Mathlib.Omega.{arith}
use borrow.Author.Tests.{eq-eqb, ne_eqb}
use Rattle.format.specs.Bytes.{Has, big_endian, word}
use Rattle.format.specs.Format.{magic, version, magic_at, total_size_at, structure_at, strings_at, reservations_at, version_at, boot_cpu_at, BEGIN_NODE, END_NODE, PROP}
use Rattle.format.specs.Answer.{ok}
use Rattle.format.specs.Tree.{Property, Node, node, Nodes, none, ◌&◌, Reservation, Tree, depth, depths}
use Rattle.format.specs.Rules.{Rules}
use Rattle.format.specs.Encodes.{GoodName, GoodProperties, GoodNode, GoodNodes, LastEnds, Block, PropertyAt, after_property, after_properties, after_name, after_node, after_nodes, PropertiesAt, NodeAt, NodesAt, ReservationAt, ReservationsAt, Layout, Encodes}
use Rattle.format.specs.Read.{property, properties, nodes, node_load, reservation, reservations, header, body, load_within}
use Rattle.format.proofs.Tools.{if_yes, if_no}
use Rattle.format.proofs.Answer.{ok_same, then_ok, check_ok}
use Rattle.format.proofs.Bytes.{align_up}
use Rattle.format.proofs.Utf8.{utf8_exact}
use Rattle.format.proofs.Read.{read_word, read_long, read_string, read_part}

-- ---- what follows stands further on

pub properties_up : (xs : List Property) (p : ℕ) → p ≤ after_properties p xs
unfolding after_properties after_property
properties_up [] p = omega arith
properties_up (x ∷ xs) p = omega (arith, align_up (p + 12 + length x.value), properties_up xs (after_property p x))

mutual
  unfolding after_node after_name

  pub node_up : (n : Node) (p : ℕ) → p < after_node p n
  node_up (node name props children) p =
      omega (arith, align_up (p + 4 + length name + 1), properties_up props (after_name p name), nodes_up children (after_properties (after_name p name) props))

  pub nodes_up : (ns : Nodes) (p : ℕ) → p ≤ after_nodes p ns
  nodes_up none p = omega arith
  nodes_up (n & ns) p = omega (arith, node_up n p, nodes_up ns (after_node p n))

-- ---- properties and nodes

module _ (b : List ℕ) (strings : Block) where
  -- the fuel lasts: what is left of the blob is at most the fuel
  abbrev Lasts : ℕ → ℕ → Type 0
  Lasts fuel p = length b ≤ p + fuel

  pub property_complete : (x : Property) (p : ℕ) → GoodName x.name → PropertyAt b strings p x
      → property b strings p ≡ ok (record { value = x; next = after_property p x })
  unfolding property after_property
  property_complete x p good at =
      then_ok _ _ (read_word b (p + 4) at.size)
      (then_ok _ _ (read_word b (p + 8) at.name_offset)
      (then_ok _ _ (read_part b (p + 12) at.value at.inside)
      (then_ok _ _ (read_string (take strings.end b) (strings.start + at.offset) good.nonzero at.name)
      (then_ok _ _ (check_ok _ ((utf8_exact x.name).1 good.utf8)) refl))))

  pub properties_complete : (xs : List Property) (fuel p : ℕ) {token : ℕ} → Lasts fuel p → GoodProperties xs → PropertiesAt b strings p xs
      → Has b (after_properties p xs) (word token) → token ≢ PROP
      → properties b strings fuel p ≡ ok (record { value = xs; next = after_properties p xs })
  unfolding properties GoodProperties PropertiesAt after_properties after_property PROP big_endian
  properties_complete [] zero p l good at h n = absurd (omega arith)
  properties_complete [] (suc fuel) p {token} l good at h n = then_ok _ _ (read_word b p h) (if_no _ _ (ne_eqb token 3 n))
  properties_complete (x ∷ xs) zero p l good at h n = absurd (omega arith)
  properties_complete (x ∷ xs) (suc fuel) p l good at h n =
      then_ok _ _ (read_word b p {n = 3} at.0.token)
      (if_yes _ _ refl
      ∙ then_ok _ _ (property_complete x p good.0 at.0)
      (then_ok _ _ (properties_complete xs fuel (after_property p x) (omega (arith, align_up (p + 12 + length x.value))) good.1 at.1 h n) refl))

  -- a node's first word, and the word after a node's properties
  pub begins : (n : Node) {p : ℕ} → NodeAt b strings p n → Has b p (word BEGIN_NODE)
  unfolding NodeAt
  begins (node name props children) at = at.0

  record Next (p : ℕ) : Type 0 where
    token : ℕ
    stands : Has b p (word token)
    other : token ≢ PROP

  next : (ns : Nodes) {p : ℕ} → NodesAt b strings p ns → Has b (after_nodes p ns) (word END_NODE) → Next p
  unfolding NodesAt after_nodes BEGIN_NODE END_NODE PROP
  next none at h = record { token = 2; stands = h; other = omega arith }
  next (n & ns) at h = record { token = 1; stands = begins n at.0; other = omega arith }

  mutual
    unfolding node_load nodes GoodNode GoodNodes NodeAt NodesAt after_node after_name depth BEGIN_NODE END_NODE big_endian

    pub node_complete : (n : Node) (d p : ℕ) → GoodNode n → NodeAt b strings p n → depth n ≤ d
        → node_load b strings d p ≡ ok (record { value = n; next = after_node p n })
    node_complete (node name props children) zero p good at h = absurd (omega arith)
    node_complete (node name props children) (suc d) p good at h =
        then_ok _ _ (read_word b p {n = 1} at.0)
        (then_ok _ _ (check_ok _ refl)
        (then_ok _ _ (read_string b (p + 4) good.0.nonzero at.1)
        (then_ok _ _ (properties_complete props (length b) (after_name p name) (omega arith) good.1 at.2 (next children at.3 at.4).stands (next children at.3 at.4).other)
        (then_ok _ _ (nodes_complete children d (length b) (after_properties (after_name p name) props) (omega arith) good.2 at.3 at.4 (omega arith))
        (then_ok _ _ (read_word b _ {n = 2} at.4)
        (then_ok _ _ (check_ok _ refl)
        (then_ok _ _ (check_ok _ ((utf8_exact name).1 good.0.utf8)) refl)))))))

    pub nodes_complete : (ns : Nodes) (d fuel p : ℕ) → Lasts fuel p → GoodNodes ns → NodesAt b strings p ns → Has b (after_nodes p ns) (word END_NODE) → depths ns ≤ d
        → nodes b (λ q. node_load b strings d q) fuel p ≡ ok (record { value = ns; next = after_nodes p ns })
    nodes_complete none d zero p l good at h k = absurd (omega arith)
    nodes_complete none d (suc fuel) p l good at h k = then_ok _ _ (read_word b p {n = 2} h) (if_no _ _ refl)
    nodes_complete (n & ns) d zero p l good at h k = absurd (omega (arith, (begins n at.0).fits))
    nodes_complete (n & ns) d (suc fuel) p l good at h k =
        then_ok _ _ (read_word b p {n = 1} (begins n at.0))
        (if_yes _ _ refl
        ∙ then_ok _ _ (node_complete n d p good.0 at.0 (omega arith))
        (then_ok _ _ (nodes_complete ns d fuel (after_node p n) (omega (arith, node_up n p)) good.1 at.1 h (omega arith)) refl))

-- ---- reservations

module _ (b : List ℕ) where
  reservation_complete : (r : Reservation) (p : ℕ) → ReservationAt b p r → reservation b p ≡ ok r
  unfolding reservation
  reservation_complete r p at = then_ok _ _ (read_long b p at.offset) (then_ok _ _ (read_long b (p + 8) at.size) refl)

  pub reservation_inside : (r : Reservation) (p : ℕ) → ReservationAt b p r → p + 16 ≤ length b
  unfolding big_endian
  reservation_inside r p at = omega (arith, at.size.fits)

  pub reservations_complete : (is_last : Reservation → Bool) (rs : List Reservation) (fuel p : ℕ) → length b ≤ p + fuel → LastEnds is_last rs → ReservationsAt b p rs
      → reservations is_last b fuel p ≡ ok rs
  unfolding reservations LastEnds ReservationsAt
  reservations_complete is_last [] fuel p l last at = absurd last
  reservations_complete is_last (r ∷ rs) zero p l last at = absurd (omega (arith, reservation_inside r p at.0))
  reservations_complete is_last (r ∷ []) (suc fuel) p l last at = then_ok _ _ (reservation_complete r p at.0) (if_yes _ _ last)
  reservations_complete is_last (r ∷ s ∷ rs) (suc fuel) p l last at =
      then_ok _ _ (reservation_complete r p at.0)
      (if_no _ _ last.0 ∙ then_ok _ _ (reservations_complete is_last (s ∷ rs) fuel (p + 16) (omega arith) last.1 at.1) refl)

-- ---- the whole

module _ (rules : Rules) (b : List ℕ) (t : Tree) where
  pub header_complete : (at : Layout rules b t)
      → header b ≡ ok (record { structure = at.structure; strings = at.strings; reservations = at.reservations; boot = t.boot })
  unfolding header
  header_complete at =
      then_ok _ _ (read_word b magic_at at.magic_is)
      (then_ok _ _ (check_ok _ (eq-eqb magic magic refl))
      (then_ok _ _ (read_word b total_size_at at.length_is)
      (then_ok _ _ (check_ok _ (eq-eqb (length b) (length b) refl))
      (then_ok _ _ (read_word b version_at at.version_is)
      (then_ok _ _ (check_ok _ (eq-eqb version version refl))
      (then_ok _ _ (read_word b structure_at at.structure_is)
      (then_ok _ _ (read_word b strings_at at.strings_is)
      (then_ok _ _ (read_word b reservations_at at.reservations_is)
      (then_ok _ _ (read_word b boot_cpu_at at.boot_is) refl)))))))))

  -- Whatever encodes a tree, not too deep, is loaded as that tree.
  pub complete : (d : ℕ) → Encodes rules b t → depth t.root ≤ d → load_within rules d b ≡ ok t
  unfolding load_within body
  complete d e h =
      let at = e.layout in
      then_ok _ _ (header_complete at)
      (then_ok _ _ (reservations_complete b rules.is_last t.reserved (length b) at.reservations (omega arith) e.good.last at.reserved)
      (then_ok _ _ (node_complete b (record { start = at.strings; end = rules.strings_end b }) t.root d at.structure e.good.names at.root h) refl))

-- A blob encodes at most one tree.
pub only_tree : (rules : Rules) (b : List ℕ) (t u : Tree) → Encodes rules b t → Encodes rules b u → t ≡ u
only_tree rules b t u ht hu =
    let d : ℕ = depth t.root + depth u.root in
    ok_same (sym (complete rules b t d ht (omega arith)) ∙ complete rules b u d hu (omega arith))
