-- The loop of `show::escape::all`: what is written so far, and behind it what waits, is what the bytes so far come to, whatever that
-- is said to be.
use Rattle.std.proofs.Common.{◌≡◌, ◌<◌, ℕ, List, flat_map, take}
use Rattle.std.specs.Fmt.{IsPlainFormatter}
use Rattle.show.specs.Chunks.{waiting, Holds}
use Rattle.show.specs.Told.{told}
use Rattle.show.specs.declared.escape.Shown.{Shown}
use Rattle.show.proofs.escape.all.Given as goal

abbrev pub invariant-loop-b : goal.invariant-loop-b
invariant-loop-b g l =
    goal.F-IsAlwaysCallable g l.how
    × ((shown : ℕ → List ℕ) → ((b : ℕ) (r : Shown) → b < 256 → goal.F-post g l.how b r → told r ≡ shown b)
    → IsPlainFormatter l.initial.f → Holds g.W.Write.write_str_gives l.initial.f (flat_map shown (take l.b-index l.s)) l.f (waiting l.chunk))
