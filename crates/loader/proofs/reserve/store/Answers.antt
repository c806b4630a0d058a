-- `store` meets its contract. The invariant: what is left to store from p on leaves what storing from pos on would have left.
-- The measure is what is left of the blob. Assumes nothing.
use mathlib.Core.Path.{refl, ◌∙◌}
use native.Mathlib.Omega.{arith}
use Rattle.format.specs.Format.{reservation_width}
use Rattle.loader.proofs.StoreLaws.{store_start, store_inside, store_room, store_last, store_again}
use Rattle.loader.proofs.reserve.store.Goals as goal

pub loop-pos-init : goal.loop-pos-init
loop-pos-init c = (store_start _ _ _ _ c.requires, refl)

pub overflow_add-p : goal.overflow_add-p
overflow_add-p c = record { fits = omega (arith, store_inside _ c.loop-pos.invariant.0) }

pub push-requires : goal.push-requires
unfolding reservation_width
push-requires c = (omega arith, (omega arith, (omega arith, omega (arith, store_room _ c.loop-pos.invariant.0))))

pub returns-then-size-eq0-clause-stored : goal.returns-then-size-eq0-clause-stored
unfolding reservation_width
returns-then-size-eq0-clause-stored c rs here =
    c.push.ensures.stored ∙ store_last _ c.loop-pos.invariant.0 c.number_at-offset.ensures c.number_at-size.ensures c.if-size-eq0.true rs here

pub loop-pos-smaller : goal.loop-pos-smaller
loop-pos-smaller c = omega (arith, store_inside _ c.loop-pos.invariant.0)

pub loop-pos-preserved : goal.loop-pos-preserved
unfolding reservation_width
loop-pos-preserved c = (
  store_again _ c.loop-pos.invariant.0 c.number_at-offset.ensures c.number_at-size.ensures c.if-size-eq0.false c.push.ensures.row c.push.ensures.stored,
  c.push.ensures.lent ∙ c.loop-pos.invariant.1,
)

pub overflow_add-p-in-loop-pos : goal.overflow_add-p-in-loop-pos
overflow_add-p-in-loop-pos c = record { fits = omega (arith, store_inside _ c.loop-pos.invariant.0) }
