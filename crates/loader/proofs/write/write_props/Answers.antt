-- `write_props` meets its contract. The loop's invariant: what is left to write from p on leaves what writing from pos on leaves.
-- Each turn goes further on. Assumes nothing.
use mathlib.Core.Path.{refl, ◌∙◌}
use Rattle.loader.specs.Pass.{props_state}
use Rattle.loader.proofs.PropLaws.{props_start, props_ready, props_less, props_again, props_end}
use Rattle.loader.proofs.TokenLaws.{prop_word, prop_token}
use Rattle.loader.proofs.write.write_props.Goals as goal

pub loop-props-init : goal.loop-props-init
loop-props-init c = (props_start c.requires, refl)

pub write_prop-p-requires : goal.write_prop-p-requires
write_prop-p-requires c =
    props_ready c.loop-props.invariant.0 (prop_word c.at.ensures c.in-Prop.is)

pub loop-props-smaller : goal.loop-props-smaller
loop-props-smaller c =
    props_less c.loop-props.invariant.0 (prop_word c.at.ensures c.in-Prop.is) c.write_prop-p.ensures.next

pub loop-props-preserved : goal.loop-props-preserved
loop-props-preserved c = (
  props_again c.loop-props.invariant.0 (prop_word c.at.ensures c.in-Prop.is) c.write_prop-p.ensures.next c.write_prop-p.ensures.row c.write_prop-p.ensures.stored,
  c.write_prop-p.ensures.lent ∙ c.loop-props.invariant.1,
)

pub returns-clause-stored : goal.returns-clause-stored
unfolding props_state
returns-clause-stored c =
    props_end c.loop-props.invariant.0 (λ e. c.in_default.not-Prop (prop_token c.at.ensures e))
