-- The loop of `show::value::Pairs`: what is written so far, and behind it what waits, is the pairs so far. Assumes nothing.
use Rattle.std.proofs.Common.{◌∷◌, ◌++◌, flat_map, take}
use Rattle.std.specs.Fmt.{IsPlainFormatter}
use Rattle.show.specs.Chunks.{waiting, Holds}
use Rattle.show.specs.Escaped.{pair}
use Rattle.show.proofs.value.PairsDisplay.fmt.Given as goal

abbrev pub invariant-loop-b : goal.invariant-loop-b
invariant-loop-b g l = IsPlainFormatter l.initial.f →
    Holds g.W.Write.write_str_gives l.initial.f (waiting l.initial.chunk ++ flat_map (λ x. 32 ∷ pair x) (take l.b-index l.rest)) l.f (waiting l.chunk)
