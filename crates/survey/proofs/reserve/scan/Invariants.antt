-- `scan` meets its contract. The invariant: the list from p on ends where the list from pos on does. The measure is what is left of the
-- blob. Assumes nothing.
use mathlib.Core.Path.{◌≡◌}
use Prim.Native.Nat.{◌-◌, ◌<◌, ◌^◌}
use lib.ListN.{length}
use Rattle.survey.specs.Reserve.{scan_from}
use Rattle.survey.proofs.reserve.scan.Given as goal

abbrev pub invariant-loop-size : goal.invariant-loop-size
invariant-loop-size l = (scan_from l.b l.pos ≡ scan_from l.b l.p) × (l.p < 2 ^ 33)

abbrev pub decreases-loop-size : goal.decreases-loop-size
decreases-loop-size l = length l.b - l.p
