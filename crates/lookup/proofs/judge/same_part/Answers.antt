-- `same_part` meets its contract: the part that it lends is the definition's. Assumes nothing.
use Rattle.std.proofs.Common.{◌≡◌, ◌+◌, ◌-◌, ◌∙◌, arith}
use Rattle.format.specs.Bytes.{part}
use Rattle.lookup.proofs.judge.same_part.Goals as goal

pub returns : goal.returns
unfolding part
returns c =
    let a = c.args in
    let e : a.start + a.len - a.start ≡ a.len = omega arith in
    c.same.ensures ∙ rw e
