-- When lookups in tables say what the tree's own lookups say: the same row, the same bytes, the same number, the same refusal.
-- The tree's own never give 15, so neither do those.
use Rattle.std.specs.Prelude.{◌≡◌, ℕ, List}
use Rattle.format.specs.Answer.{Outcome, ok, ◌>>=◌, Span}
use Rattle.format.specs.Tree.{Tree, node_count, property_count}
use Rattle.format.specs.Load.{Tables}
use Rattle.format.specs.Find.{Place, place_of}
use Rattle.format.specs.Find as tree
use Rattle.format.specs.Lookup.{Lent, bytes_of}
use Rattle.format.specs.Lookup as table

-- the row of a place, and the bytes of a part
unfoldable pub row_of : Outcome Place → Outcome ℕ
row_of m = m >>= λ place. ok place.row

unfoldable pub bytes_in : List ℕ → Outcome Span → Outcome (List ℕ)
bytes_in b m = m >>= λ s. ok (bytes_of b s)

-- the tables, with the counts of the tree that was loaded
unfoldable pub used : Tables → Tree → Lent
used held t = record {
  nodes = held.nodes;
  node_count = node_count t.root;
  properties = held.properties;
  property_count = property_count t.root;
}

-- row i is a node of the tree, and every lookup from it says what that node says
pub record Agrees (b : List ℕ) (t : Tree) (held : Tables) (i : ℕ) : Type 0 where
  pub start : Place
  pub is : place_of b t i ≡ ok start
  pub find_from : (path : List ℕ) → table.find_from b held.nodes (node_count t.root) i path ≡ row_of (tree.find_from start path)
  pub has_prop : (name : List ℕ) → table.has_prop b (used held t) i name ≡ tree.has_prop start.here name
  pub prop_raw : (name : List ℕ) → bytes_in b (table.prop_raw b (used held t) i name) ≡ tree.prop_raw start.here name
  pub prop_str : (name : List ℕ) → bytes_in b (table.prop_str b (used held t) i name) ≡ tree.prop_str start.here name
  pub prop_u32 : (name : List ℕ) → table.prop_u32 b (used held t) i name ≡ tree.prop_u32 start.here name
  pub prop_u64 : (name : List ℕ) → table.prop_u64 b (used held t) i name ≡ tree.prop_u64 start.here name
