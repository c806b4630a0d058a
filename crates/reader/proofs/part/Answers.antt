-- `part` meets its promise: the slice that it cuts is the definition's. Assumes nothing.
use mathlib.Core.Path.{◌≡◌, ap}
use Prim.Native.Nat.{◌+◌, ◌-◌}
use native.Mathlib.Omega.{arith}
use lib.ListN.{take, drop}
use Rattle.format.specs.Bytes.{part}
use Rattle.reader.proofs.part.Goals as goal

pub returns : goal.returns
unfolding part
returns c =
    let s = c.args.span in
    let e : s.start + s.len - s.start ≡ s.len = omega arith in
    ap (λ n. take n (drop s.start c.args.buf.now)) e
