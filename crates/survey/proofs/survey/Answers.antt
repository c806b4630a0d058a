-- `survey` meets its contract: the header, the list and the root are found in the order in which they are judged, and each refusal is
-- the survey's. The header says that the blob is small, which the passes ask for. Assumes nothing.
use mathlib.Core.Path.{sym}
use Rattle.format.specs.Format.{version}
use Rattle.format.specs.Results.{outcome_of}
use Rattle.format.specs.Rules.{ours}
use Rattle.survey.specs.Survey.{names_of}
use Rattle.survey.proofs.Exits.{handed}
use Rattle.survey.proofs.SurveyLaws.{scan_ready, names_small, no_header, no_list, no_root, end_after, whole}
use Rattle.survey.proofs.survey.Goals as goal

pub returns-in_err-header : goal.returns-in_err-header
unfolding outcome_of
returns-in_err-header c = handed _ _ c.from_residual.ensures.1 (no_header _ (sym c.in_err-header.ensures))

pub scan-requires : goal.scan-requires
unfolding outcome_of
scan-requires c = scan_ready (λ i. (c.type_inv.b i).fits) (sym c.in_ok-header.ensures)

pub returns-in_err-end : goal.returns-in_err-end
unfolding outcome_of
returns-in_err-end c =
    handed _ _ c.from_residual-in_err-end.ensures.1 (no_list _ _ (sym c.in_ok-header.ensures) (sym c.in_err-end.ensures))

pub invariant_of-check_node : goal.invariant_of-check_node
unfolding outcome_of
invariant_of-check_node c = record { are_bytes = λ i. (c.type_inv.b i).fits; small = names_small (λ i. (c.type_inv.b i).fits) (sym c.in_ok-header.ensures) }

pub returns-in_err-root : goal.returns-in_err-root
unfolding names_of ours outcome_of
returns-in_err-root c =
    handed _ _ c.from_residual-in_err-root.ensures.1
    (no_root _ _ (sym c.in_ok-header.ensures) _ (sym c.in_ok-end.ensures) (sym c.in_err-root.ensures))

pub overflow_sub-result : goal.overflow_sub-result
unfolding outcome_of
overflow_sub-result c = end_after _ _ (sym c.in_ok-header.ensures) _ (sym c.in_ok-end.ensures)

pub returns : goal.returns
unfolding names_of ours version outcome_of
returns c =
    sym (whole _ _ (sym c.in_ok-header.ensures) _ (sym c.in_ok-end.ensures) _ (sym c.in_ok-root.ensures))
