-- A name is shown byte by byte, and where there is none that is told. Assumes nothing.
use Rattle.std.proofs.Common.{Bool, ap, if◌then◌else◌, flat_map}
use Rattle.std.proofs.Output.{has_written_of_eq}
use Rattle.std.specs.Prelude.{codes}
use Rattle.show.specs.Escaped.{in_name, name}
use Rattle.show.proofs.escape.NameDisplay.fmt.Goals as goal

pub returns-then-is_empty-clause-writes : goal.returns-then-is_empty-clause-writes
unfolding name
returns-then-is_empty-clause-writes g c = λ plain ok.
    let s = c.args.self.now.0.now in
    let is = ap (λ (none : Bool). if none then codes "/* no name */" else flat_map in_name s) c.if-is_empty.ensures in
    has_written_of_eq _ _ _ _ _ is (c.write_str.ensures.writes plain ok)

pub returns-clause-writes : goal.returns-clause-writes
unfolding name
returns-clause-writes g c = λ plain ok.
    let s = c.args.self.now.0.now in
    let is = ap (λ (none : Bool). if none then codes "/* no name */" else flat_map in_name s) c.if-is_empty.ensures in
    has_written_of_eq _ _ _ _ _ is (c.all.ensures.writes in_name (λ b r small same. same) plain ok)
