-- `dt::file::full` meets its contract, is safe and ends: each turn that goes on puts a byte or more into the room, and no more than it has. Assumes nothing.
use Rattle.std.proofs.Common.{length, ◌-◌, ◌≤◌}
use Rattle.dt.proofs.file.full.Given as goal

abbrev pub invariant-loop-done : goal.invariant-loop-done
invariant-loop-done l = l.done ≤ length l.room

abbrev pub decreases-loop-done : goal.decreases-loop-done
decreases-loop-done l = length l.room - l.done
