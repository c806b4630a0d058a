-- `store` meets its contract. The invariant: what is left to store from p on leaves what storing from pos on would have left.
-- The measure is what is left of the blob. Assumes nothing.
use mathlib.Core.Path.{◌≡◌}
use Prim.Native.Nat.{◌-◌}
use lib.ListN.{length}
use Rattle.loader.proofs.StoreLaws.{StoreLeft}
use Rattle.loader.proofs.reserve.store.Given as goal

abbrev pub invariant-loop-pos : goal.invariant-loop-pos
invariant-loop-pos l =
    StoreLeft l.b l.pos l.initial.table.row l.initial.table.numbers.now l.p l.table.row l.table.numbers.now
    × (l.table.numbers.ghost_name ≡ l.initial.table.numbers.ghost_name)

abbrev pub decreases-loop-pos : goal.decreases-loop-pos
decreases-loop-pos l = length l.b - l.p
