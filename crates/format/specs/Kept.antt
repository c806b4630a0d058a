-- Demand 3: what the last accepted of some loads wrote is one tree, and it is that blob's.
use Rattle.std.specs.Prelude.{◌≡◌, ℕ, ◌<◌, ◌∷◌}
use Rattle.std.proofs.Math.Option.{Option, none, some}
use Rattle.format.specs.Tree.{Tree, node_count}
use Rattle.format.specs.Rules.{ours}
use Rattle.format.specs.Encodes.{Encodes}
use Rattle.format.specs.Load.{Tables, tree_numbers, Call}
use Rattle.format.specs.Shape.{Holds}
use Rattle.format.specs.Agrees.{Agrees}

-- the tables hold the tree that the call's blob encodes, with the counts that the call answered, and lookups say what it says
pub record Kept (held : Tables) (c : Call) : Type 0 where
  pub tree : Tree
  pub encodes : Encodes ours c.blob tree
  pub counts : c.answer ≡ 0 ∷ tree_numbers tree
  pub holds : Holds held c.blob tree
  pub lookups : (i : ℕ) → i < node_count tree.root → Agrees c.blob tree held i

-- where there was such a call at all
unfoldable pub KeptIfAny : Tables → Option Call → Type 0
KeptIfAny held none = Unit {0}
KeptIfAny held (some c) = Kept held c
