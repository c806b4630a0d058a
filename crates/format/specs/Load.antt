-- A load into lent tables: its answer, and what the tables hold afterwards; and loads one after another.
use Rattle.std.specs.Prelude.{◌≡◌, ℕ, ◌/◌, ◌<◌, ◌≤◌, List, [], ◌∷◌, length, nat_eq, nat_le}
use Rattle.std.proofs.Math.Option.{Option, some}
use Rattle.std.proofs.lemmas.List.Edits.{sets}
use Rattle.format.specs.Choice.{when◌then◌else◌}
use Rattle.format.specs.Bytes.{AreBytes}
use Rattle.format.specs.Format.{version, reservation_width, node_width, property_width}
use Rattle.format.specs.Answer.{Refusal, Outcome, ok, refused, ◌>>=◌, check, numbers, first, reservation_room, node_room, property_room}
use Rattle.format.specs.Tree.{Tree, depth, node_count, property_count}
use Rattle.format.specs.Rules.{ours}
use Rattle.format.specs.Encodes.{Encodes}
use Rattle.format.specs.Rows.{rows, reservation_numbers, node_numbers, property_numbers}
use Rattle.format.specs.Read as read

-- what answer 0 carries: "version, boot CPU, counts of reservation, node, property rows"
unfoldable pub tree_numbers : Tree → List ℕ
tree_numbers t = version ∷ t.boot ∷ length t.reserved ∷ node_count t.root ∷ property_count t.root ∷ []

-- the lent tables, or what they hold
pub record Tables : Type 0 where
  pub reservations : List ℕ
  pub nodes : List ℕ
  pub properties : List ℕ

-- "A table's capacity is its length divided by 2, 7 or 4, rounded down."
unfoldable pub capacity : ℕ → List ℕ → ℕ
capacity width table = length table / width

-- "Room is judged after everything else has passed, in the order 8, 9, 10."
unfoldable pub room : Tables → Tree → Outcome Tree
room lent t = do
  let r : ℕ = length t.reserved
  let n : ℕ = node_count t.root
  let p : ℕ = property_count t.root
  _ ← check (nat_le r (capacity reservation_width lent.reservations)) (reservation_room r)
  _ ← check (nat_le n (capacity node_width lent.nodes)) (node_room n)
  _ ← check (nat_le p (capacity property_width lent.properties)) (property_room p)
  ok t

unfoldable pub load : Tables → List ℕ → Outcome Tree
load lent b = read.load ours b >>= λ t. room lent t

-- The rows stand from the start of each table; "unused places keep their bytes", and "no refusal writes anything".
unfoldable pub tables_after : Tables → List ℕ → Outcome Tree → Tables
tables_after lent b (ok t) = record {
  reservations = sets lent.reservations 0 (reservation_numbers (rows b t).reservations);
  nodes = sets lent.nodes 0 (node_numbers (rows b t).nodes);
  properties = sets lent.properties 0 (property_numbers (rows b t).properties);
}
tables_after lent b (refused r) = lent

-- A load of b into the tables `lent` answers with the numbers `answer` and leaves the tables `left`.
pub record Loads (lent : Tables) (b answer : List ℕ) (left : Tables) : Type 0 where
  pub answers : answer ≡ numbers tree_numbers (load lent b)
  pub leaves : left ≡ tables_after lent b (load lent b)

-- When a load accepts b as the tree t.
pub record Accepted (lent : Tables) (b : List ℕ) (t : Tree) : Type 0 where
  pub encodes : Encodes ours b t
  pub deep : depth t.root ≤ ours.depth_limit b
  pub reservations_fit : length t.reserved ≤ capacity reservation_width lent.reservations
  pub nodes_fit : node_count t.root ≤ capacity node_width lent.nodes
  pub properties_fit : property_count t.root ≤ capacity property_width lent.properties

-- Why a tree that was read has no room, in the order in which it is judged.
pub data NoRoom (lent : Tables) (t : Tree) : Refusal → Type 0 where
  reservations : capacity reservation_width lent.reservations < length t.reserved → NoRoom lent t (reservation_room (length t.reserved))
  nodes : length t.reserved ≤ capacity reservation_width lent.reservations
      → capacity node_width lent.nodes < node_count t.root → NoRoom lent t (node_room (node_count t.root))
  properties : length t.reserved ≤ capacity reservation_width lent.reservations → node_count t.root ≤ capacity node_width lent.nodes
      → capacity property_width lent.properties < property_count t.root → NoRoom lent t (property_room (property_count t.root))

-- What a load answers with unlimited room.
pub record Measures (b answer : List ℕ) : Type 0 where
  pub answers : answer ≡ numbers tree_numbers (read.load ours b)

-- ---- loads one after another

pub record Call : Type 0 where
  pub blob : List ℕ
  pub bytes : AreBytes blob
  pub answer : List ℕ
  pub left : Tables

-- the calls, each on what the one before it left, lead from the tables `first` to the tables `last`
unfoldable pub Calls : Tables → List Call → Tables → Type 0
Calls first [] last = last ≡ first
Calls first (c ∷ cs) last = Loads first c.blob c.answer c.left × Calls c.left cs last

-- the last call that was answered 0, or else `before`
unfoldable pub last_accepted : Option Call → List Call → Option Call
last_accepted before [] = before
last_accepted before (c ∷ cs) = last_accepted (when nat_eq (first c.answer) 0 then some c else before) cs
