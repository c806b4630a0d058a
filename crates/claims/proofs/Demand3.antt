-- Demand 3: "Over any first contents and any sequence of loads, what the last accepted load wrote is one tree, and it is that blob's."
-- `Calls` is made of the relation that load's contract cites. Assumes nothing.
use mathlib.Core.Path.{◌≡◌}
use mathlib.Core.List.{List}
use mathlib.Core.Option.{none, some}
use Rattle.format.specs.Load.{Tables, Call, Calls, last_accepted}
use Rattle.format.specs.Kept.{Kept}
use Rattle.format.proofs.Kept as laws

pub one_tree : (first : Tables) (cs : List Call) (last : Tables) → Calls first cs last → (c : Call) → last_accepted none cs ≡ some c → Kept last c
one_tree = laws.demand3
