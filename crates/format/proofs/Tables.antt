-- Lookups over lent tables: the property readers stand on prop_raw whatever the rows hold, and on the tables that an accepted load
-- left every lookup answers what the tree's own does, so none gives 15. Assumes, for the second, that the blob's elements are bytes.
use Rattle.std.specs.Prelude.{◌≡◌, ℕ, ◌-◌, ◌<◌, ◌≤◌, true, List, length, take, drop}
use mathlib.Core.Path.{refl, sym, ap, ◌∙◌}
use native.Mathlib.Omega.{arith}
use lib.ListN.{length-take}
use lib.Seq.{length-sets, take-take}
use borrow.Author.Tests.{le-leb, lt-ltb, eq-eqb}
use Rattle.format.specs.Answer.{Outcome, ok, ◌>>=◌, Span}
use Rattle.format.specs.Bytes.{AreBytes, part, word_at}
use Rattle.format.specs.Format.{NONE, reservation_width, node_width, property_width, structure_at, strings_at}
use Rattle.format.specs.Tree.{Node, node, Tree, node_count, property_count}
use Rattle.format.specs.Rules.{ours}
use Rattle.format.specs.Rows.{rows, reservations_in, nodes_in, properties_in}
use Rattle.format.specs.Load.{Tables, capacity, tables_after, Accepted}
use Rattle.format.specs.Find.{Place, place_below, place_of, root_place, after_slash, as_number, as_string, ends0}
use Rattle.format.specs.Find as tree
use Rattle.format.specs.Lookup.{Lent, usable, reach, property_of, bytes_of}
use Rattle.format.specs.Lookup as table
use Rattle.format.specs.Agrees.{row_of, bytes_in, used, Agrees}
use Rattle.format.proofs.Tools.{if_yes}
use Rattle.format.proofs.Answer.{ok_same, step, then_ok, then_then, then_same, then_self, ok_then, check_ok}
use Rattle.format.proofs.Rows.{length_node, node_properties_lem, node_pos, reservations_stored, nodes_stored, properties_stored}
use Rattle.format.proofs.Load.{capacity_fits}
use Rattle.format.proofs.Lookup.{paths_in_rows, names_in_rows}

-- ---- on any rows: what a property reader makes of the bytes that prop_raw hands out

module _ (b : List ℕ) where
  by_bytes : {A : Type 0} (m : Outcome Span) (f : List ℕ → Outcome A) → (m >>= λ s. f (bytes_of b s)) ≡ (bytes_in b m >>= f)
  unfolding bytes_in
  by_bytes m f = then_same _ _ _ (λ s _. sym (ok_then (bytes_of b s) f)) ∙ sym (then_then m (λ s. ok (bytes_of b s)) f)

  module _ (l : Lent) (row : ℕ) (name : List ℕ) where
    pub has_prop_by_raw : table.has_prop b l row name ≡ (bytes_in b (table.prop_raw b l row name) >>= λ value. ok tt)
    unfolding table.has_prop
    has_prop_by_raw = by_bytes (table.prop_raw b l row name) (λ value. ok tt)

    pub u32_by_raw : table.prop_u32 b l row name ≡ (bytes_in b (table.prop_raw b l row name) >>= λ value. as_number 4 value)
    unfolding table.prop_u32
    u32_by_raw = by_bytes (table.prop_raw b l row name) (as_number 4)

    pub u64_by_raw : table.prop_u64 b l row name ≡ (bytes_in b (table.prop_raw b l row name) >>= λ value. as_number 8 value)
    unfolding table.prop_u64
    u64_by_raw = by_bytes (table.prop_raw b l row name) (as_number 8)

  -- the part before the last byte is the string
  string_part : (s : Span) (text : List ℕ) → as_string (bytes_of b s) ≡ ok text → bytes_of b (record { offset = s.offset; size = length text }) ≡ text
  unfolding as_string bytes_of part
  string_part s text e =
      step _ _ e λ _ _ e.
      step _ _ e λ _ _ e.
      let v : List ℕ = take s.size (drop s.offset b) in
      let n : ℕ = length v - 1 in
      let short : length v ≤ s.size = omega (arith, length-take s.size (drop s.offset b)) in
      let text_is : text ≡ take n (drop s.offset b) = sym (ok_same e) ∙ take-take n s.size (drop s.offset b) (omega arith) in
      let size : length text ≡ n = ap length (sym (ok_same e)) ∙ length-take n v ∙ omega arith in
      rw size (sym text_is)

  pub str_by_raw : (l : Lent) (row : ℕ) (name : List ℕ) → bytes_in b (table.prop_str b l row name) ≡ (bytes_in b (table.prop_raw b l row name) >>= λ value. as_string value)
  unfolding table.prop_str bytes_in
  str_by_raw l row name =
      then_then _ _ _
      ∙ then_same _ _ _ (λ s _. then_then _ _ _ ∙ then_same _ _ _ (λ text _. ok_then _ _) ∙ then_self _ _ (λ text h. ap ok (string_part s text h)))
      ∙ by_bytes (table.prop_raw b l row name) as_string

-- ---- on the tables that an accepted load left

place_here : (n : Node) (row p : ℕ) → place_below n row p row ≡ ok (record { here = n; row = row; position = p })
unfolding place_below
place_here (node name xs children) row p = if_yes _ _ (eq-eqb row row refl)

module _ (b : List ℕ) (t : Tree) (lent : Tables) (all : AreBytes b) (a : Accepted lent b t) where
  nodes_are : length (rows b t).nodes ≡ node_count t.root
  unfolding rows
  nodes_are = length_node t.root (word_at b structure_at) 0 0 NONE NONE

  properties_are : length (rows b t).properties ≡ property_count t.root
  unfolding rows
  properties_are = node_properties_lem b (word_at b strings_at) t.root (word_at b structure_at)

  -- the rows that the tables hold are the tree's
  pub reservations_there : reservations_in (length t.reserved) (tables_after lent b (ok t)).reservations ≡ t.reserved
  unfolding tables_after rows
  reservations_there = reservations_stored lent.reservations t.reserved (capacity_fits reservation_width _ lent.reservations a.reservations_fit)

  pub nodes_there : nodes_in (node_count t.root) (tables_after lent b (ok t)).nodes ≡ (rows b t).nodes
  unfolding tables_after
  nodes_there = rw (← nodes_are) (nodes_stored lent.nodes (rows b t).nodes (rw nodes_are (capacity_fits node_width _ lent.nodes a.nodes_fit)))

  pub properties_there : properties_in (property_count t.root) (tables_after lent b (ok t)).properties ≡ (rows b t).properties
  unfolding tables_after
  properties_there = rw (← properties_are) (properties_stored lent.properties (rows b t).properties (rw properties_are (capacity_fits property_width _ lent.properties a.properties_fit)))

  -- the tables keep their capacities
  pub reservations_room : length t.reserved ≤ capacity reservation_width (tables_after lent b (ok t)).reservations
  unfolding tables_after capacity
  reservations_room = rw length-sets a.reservations_fit

  pub nodes_room : node_count t.root ≤ capacity node_width (tables_after lent b (ok t)).nodes
  unfolding tables_after capacity
  nodes_room = rw length-sets a.nodes_fit

  pub properties_room : property_count t.root ≤ capacity property_width (tables_after lent b (ok t)).properties
  unfolding tables_after capacity
  properties_room = rw length-sets a.properties_fit

  usable_row : (i : ℕ) → i < node_count t.root → usable (tables_after lent b (ok t)).nodes (node_count t.root) i ≡ true
  unfolding usable
  usable_row i h = rw (le-leb _ _ nodes_room, lt-ltb i _ h)

  finds : (i : ℕ) (path : List ℕ) → i < node_count t.root
      → table.find_from b (tables_after lent b (ok t)).nodes (node_count t.root) i path ≡ reach b (rows b t).nodes i path
  unfolding table.find_from
  finds i path h = then_ok _ _ (check_ok _ (usable_row i h)) (rw nodes_there)

  reads : (i : ℕ) (name : List ℕ) → i < node_count t.root
      → table.prop_raw b (used (tables_after lent b (ok t)) t) i name ≡ property_of b (rows b t).nodes (rows b t).properties i name
  unfolding table.prop_raw used
  reads i name h = then_ok _ _ (check_ok _ (rw (usable_row i h, le-leb _ _ properties_room))) (rw (nodes_there, properties_there))

  -- Demand 2, lookups as the original: on the rows of an accepted load every lookup equals the tree's, and 15 never comes.
  pub lookups_as_the_tree : (i : ℕ) → i < node_count t.root → Agrees b t (tables_after lent b (ok t)) i
  unfolding tree.has_prop tree.prop_str tree.prop_u32 tree.prop_u64
  lookups_as_the_tree i h =
      let s = paths_in_rows ours b t all a.encodes i h in
      let r = names_in_rows ours b t all a.encodes i h in
      let same : r.start ≡ s.start = ok_same (sym r.is ∙ s.is) in
      let raw : (name : List ℕ) → bytes_in b (table.prop_raw b (used (tables_after lent b (ok t)) t) i name) ≡ tree.prop_raw s.start.here name =
      λ name. ap (bytes_in b) (reads i name h) ∙ r.reads name ∙ ap (λ p. tree.prop_raw p.here name) same in
      record {
        start = s.start;
        is = s.is;
        find_from = λ path. finds i path h ∙ s.finds path;
        has_prop = λ name. has_prop_by_raw b _ i name ∙ ap (λ m. m >>= λ value. ok tt) (raw name);
        prop_raw = raw;
        prop_str = λ name. str_by_raw b _ i name ∙ ap (λ m. m >>= λ value. as_string value) (raw name);
        prop_u32 = λ name. u32_by_raw b _ i name ∙ ap (λ m. m >>= λ value. as_number 4 value) (raw name);
        prop_u64 = λ name. u64_by_raw b _ i name ∙ ap (λ m. m >>= λ value. as_number 8 value) (raw name);
      }

  -- A tree path finds what the tree's own `find` finds.
  pub find_as_the_tree : (path : List ℕ) → table.find b (tables_after lent b (ok t)).nodes (node_count t.root) path ≡ row_of (tree.find b t path)
  unfolding table.find tree.find row_of place_of root_place
  find_as_the_tree path =
      let some : 0 < node_count t.root = node_pos t.root in
      let s = paths_in_rows ours b t all a.encodes 0 some in
      let root : s.start ≡ root_place b t = ok_same (sym s.is ∙ place_here t.root 0 (word_at b structure_at)) in
      then_ok _ _ (check_ok _ (usable_row 0 some))
      (then_same _ _ _ (λ below _. rw nodes_there (s.finds below) ∙ ap (λ p. row_of (tree.find_from p below)) root)
      ∙ sym (then_then (after_slash path) (λ below. tree.find_from (root_place b t) below) (λ place. ok place.row)))
