-- `lines::reading::Line::append` meets its contract. Assumes nothing.
use native.Mathlib.Omega.{arith}
use Prim.Native.Nat.{◌≤◌}
use mathlib.Core.Path.{◌≡◌, ◌∙◌, ap}
use mathlib.Core.List.{◌++◌}
use lib.ListN.{length}
use Rattle.std.proofs.Common.{rules}
use Rattle.std.proofs.lemmas.List.{length-take-le}
use Rattle.std.proofs.lemmas.Slice.{take-put_mid}
use Rattle.lines.specs.Reading.{so_far}
use Rattle.lines.proofs.ReadingLaws.{grown}
use Rattle.lines.proofs.reading.Line.append.Goals as goal

pub returns : goal.returns
returns c =
    let self = c.args.self.now in
    let room : self.len ≤ length self.bytes = search rules in
    let have : length (so_far self) ≡ self.len = length-take-le self.len self.bytes room in
    let put : length c.copy_from_slice.new.self ≡ c.min-n.result = search rules in
    take-put_mid self.len _ self.bytes c.copy_from_slice.new.self _ (omega arith) room
    ∙ ap (λ ys. so_far self ++ ys) c.copy_from_slice.ensures.after
    ∙ grown (so_far self) c.args.more.now 66000 c.min-n.result (omega (arith, self.inside)) (rw have c.min-n.ensures)
