-- `check_props` meets its contract. The invariant: what is left from p on, with the n counted, is what there is from pos on.
-- The measure is what is left of the blob. Assumes nothing.
use mathlib.Core.Path.{◌≡◌}
use Prim.Native.Nat.{◌-◌, ◌≤◌}
use lib.ListN.{length}
use Rattle.survey.proofs.CountLaws.{all_props, props_from}
use Rattle.survey.proofs.nodes.Blob.check_props.Given as goal

abbrev pub invariant-loop-p : goal.invariant-loop-p
invariant-loop-p l =
    let b = l.self.bytes.now in
    (all_props b l.self.strings l.pos ≡ props_from b l.self.strings l.p l.n) × (l.n ≤ l.p)

abbrev pub decreases-loop-p : goal.decreases-loop-p
decreases-loop-p l = length l.self.bytes.now - l.p
