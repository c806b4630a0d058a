-- `walk` meets its contract: before each part of the path the row is judged, and what is left below it gives the whole answer (`Way`).
-- Assumes nothing.
use Rattle.std.proofs.Common.{refl, sym, ap, ◌∙◌}
use Rattle.format.specs.Results.{outcome_of}
use Rattle.format.proofs.Results.{hands_on}
use Rattle.lookup.specs.Answers.{why_of}
use Rattle.lookup.proofs.RowLaws.{nodes_length}
use Rattle.lookup.proofs.NameLaws.{some, none, name_inside, name_cut, rest_cut, last_cut}
use Rattle.lookup.proofs.PathLaws.{reach_bad, way_start, way_end, way_refused, way_down}
use Rattle.lookup.proofs.judge.Judged.walk.Goals as goal

pub returns-then-not-links_are_good : goal.returns-then-not-links_are_good
unfolding outcome_of why_of
returns-then-not-links_are_good c = reach_bad _ _ _ _ (sym c.links_are_good.ensures ∙ c.if-not-links_are_good.true)

pub loop-rest-init : goal.loop-rest-init
loop-rest-init c =
    way_start _ _ _ _ _ (rw nodes_length c.requires) (sym c.links_are_good.ensures ∙ c.if-not-links_are_good.false) c.node_at-own.ensures

pub split_at-requires : goal.split_at-requires
split_at-requires c = name_inside _ _ c.name_end.ensures

pub returns-in_err-at : goal.returns-in_err-at
unfolding outcome_of
returns-in_err-at c =
    hands_on why_of _ _ c.from_residual.ensures.1 (λ y q. ap why_of q)
    (sym (way_refused _ _ _ _ _ _ c.loop-rest.invariant _ (nodes_length _ _) (some _ c.is_empty.ensures c.loop-rest-test.true) _ _ (name_cut _ _ c.name_end.ensures c.split_at.ensures.front) refl (sym c.in_err-at.ensures.row)))

pub returns-in_default : goal.returns-in_default
unfolding outcome_of
returns-in_default c =
    way_end _ _ _ _ _ _
    (way_down _ _ _ _ _ _ c.loop-rest.invariant _ (nodes_length _ _) (some _ c.is_empty.ensures c.loop-rest-test.true) _ _ (name_cut _ _ c.name_end.ensures c.split_at.ensures.front) refl (sym c.in_ok-at.ensures.row) c.in_ok-at.ensures.below)
    (last_cut _ _ c.name_end.ensures c.split_at.ensures.back c.in_default.ensures.cases)

pub loop-rest-preserved : goal.loop-rest-preserved
unfolding outcome_of
loop-rest-preserved c =
    way_down _ _ _ _ _ _ c.loop-rest.invariant _ (nodes_length _ _) (some _ c.is_empty.ensures c.loop-rest-test.true) _ _ (name_cut _ _ c.name_end.ensures c.split_at.ensures.front) (rest_cut _ _ c.name_end.ensures c.split_at.ensures.back c.in-Some.ensures.cases.0)
    (sym c.in_ok-at.ensures.row) c.in_ok-at.ensures.below

pub returns : goal.returns
unfolding outcome_of
returns c = way_end _ _ _ _ _ _ c.loop-rest.invariant (none _ c.is_empty.ensures c.loop-rest-test.false)
