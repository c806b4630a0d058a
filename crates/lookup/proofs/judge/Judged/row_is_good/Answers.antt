-- `row_is_good` meets its contract: the links, then the name. Assumes nothing.
use Rattle.std.proofs.Common.{◌≡◌, sym, ◌∙◌}
use Rattle.format.specs.Lookup.{links_good, name_inside}
use Rattle.lookup.specs.Places.{rows_of}
use Rattle.lookup.proofs.RowLaws.{next_good, next_bad}
use Rattle.lookup.proofs.judge.Judged.row_is_good.Goals as goal
use Rattle.lookup.proofs.judge.Judged.row_is_good.Goals.{then-leads_on, else-leads_on}

pub returns-then-leads_on-2 : goal.returns-then-leads_on-2
unfolding name_inside
returns-then-leads_on-2 c =
    let is = c.requires.read in
    let links : links_good (rows_of c.args.self.nodes) c.args.row ≡ c.if-leads_on.value = elim c.if-leads_on.branch [
      | then-leads_on w ↦ next_good _ _ _ _ is.child is.next (sym c.leads_on.ensures ∙ w.if-leads_on.true) ∙ sym w.leads_on-then-leads_on.ensures ∙ sym w.value-is
      | else-leads_on w ↦ next_bad _ _ _ is.next (sym c.leads_on.ensures ∙ w.if-leads_on.false) ∙ sym w.if-leads_on.false ∙ sym w.value-is
    ] in
    rw (links, c.if-leads_on-2.true, ← is.name, ← is.len) c.lies_in.ensures

pub returns-else-leads_on-2 : goal.returns-else-leads_on-2
returns-else-leads_on-2 c =
    let is = c.requires.read in
    let links : links_good (rows_of c.args.self.nodes) c.args.row ≡ c.if-leads_on.value = elim c.if-leads_on.branch [
      | then-leads_on w ↦ next_good _ _ _ _ is.child is.next (sym c.leads_on.ensures ∙ w.if-leads_on.true) ∙ sym w.leads_on-then-leads_on.ensures ∙ sym w.value-is
      | else-leads_on w ↦ next_bad _ _ _ is.next (sym c.leads_on.ensures ∙ w.if-leads_on.false) ∙ sym w.if-leads_on.false ∙ sym w.value-is
    ] in
    rw (links, c.if-leads_on-2.false)
