-- `lines::reading::Input::take` meets its contract: what is left is parted at its first line end. Assumes nothing.
use Prim.Native.Nat.{◌-◌}
use native.Mathlib.Omega.{arith}
use mathlib.Core.Path.{◌≡◌, ◌∙◌, ap}
use mathlib.Core.List.{◌++◌}
use lib.ListN.{take}
use Rattle.lines.specs.Reading.{so_far, left}
use Rattle.lines.proofs.ReadingLaws.{found, unfound, left_on}
use Rattle.lines.proofs.reading.Input.take.Goals as goal

pub returns-in-Some-clause-line : goal.returns-in-Some-clause-line
returns-in-Some-clause-line g c =
    let at = found (left c.args.self.now) c.in-Some.n (rw c.left-left.ensures at c.in-Some.ensures) in
    c.append.ensures ∙ rw c.left-left.ensures (ap (λ ys. take 66000 (so_far c.args.line.now ++ ys)) at.1)

pub returns-in-Some-clause-left : goal.returns-in-Some-clause-left
returns-in-Some-clause-left g c =
    let self = c.args.self.now in
    let at = found (left self) c.in-Some.n (rw c.left-left.ensures at c.in-Some.ensures) in
    left_on self.bytes self.at self.end c.in-Some.n at.0 ∙ at.2

pub returns-in-None-clause-line : goal.returns-in-None-clause-line
returns-in-None-clause-line g c =
    let at = unfound (left c.args.self.now) (rw c.left-left.ensures at c.in-None.ensures) in
    c.append-in-None.ensures ∙ ap (λ ys. take 66000 (so_far c.args.line.now ++ ys)) (c.left-left.ensures ∙ at.0)

pub returns-in-None-clause-left : goal.returns-in-None-clause-left
returns-in-None-clause-left g c =
    let self = c.args.self.now in
    let at = unfound (left self) (rw c.left-left.ensures at c.in-None.ensures) in
    let none : self.end - self.end ≡ 0 = omega arith in
    rw none at.1
