-- The loop of `show::escape::is_plain`: the bytes so far stand as they are. Assumes nothing.
use Rattle.std.proofs.Common.{◌≡◌, ◌<◌, ℕ, List, flat_map, take}
use Rattle.show.specs.Told.{told}
use Rattle.show.specs.declared.escape.Shown.{Shown}
use Rattle.show.proofs.escape.is_plain.Given as goal

abbrev pub invariant-loop-b : goal.invariant-loop-b
invariant-loop-b g l =
    goal.F-IsAlwaysCallable g l.how
    × ((shown : ℕ → List ℕ) → ((b : ℕ) (r : Shown) → b < 256 → goal.F-post g l.how b r → told r ≡ shown b) → flat_map shown (take l.b-index l.s) ≡ take l.b-index l.s)
