-- `write_prop` meets its contract: the total readers give the numbers of the property's row. Assumes nothing.
use native.Mathlib.Omega.{arith}
use Rattle.format.specs.Format.{property_width}
use Rattle.survey.specs.Nodes.{block}
use Rattle.loader.proofs.PropLaws.{prop_name, prop_length, prop_next, prop_stored}
use Rattle.loader.proofs.write.write_prop.Goals as goal

pub overflow_cast-name-2 : goal.overflow_cast-name-2
unfolding block
overflow_cast-name-2 c =
    let name = prop_name c.args.blob.now.small.blob c.requires c.number_at-offset.ensures in
    record { fits = omega (arith, c.requires.name_inside, c.args.blob.now.small.blob) }

pub overflow_cast-len : goal.overflow_cast-len
unfolding block
overflow_cast-len c =
    let len = prop_length c.args.blob.now.small.blob c.requires c.number_at-offset.ensures c.string_len-len.ensures in
    record { fits = omega (arith, c.requires.name_inside, c.args.blob.now.small.blob) }

pub returns-clause-next : goal.returns-clause-next
unfolding block
returns-clause-next c = prop_next c.args.blob.now.small.blob c.requires c.number_at-size.ensures c.aligned.ensures

pub returns-clause-stored : goal.returns-clause-stored
unfolding block property_width
returns-clause-stored c =
    prop_stored c.args.blob.now.small.blob c.requires c.number_at-size.ensures c.number_at-offset.ensures c.string_len-len.ensures c.push.ensures.stored
