-- `check_prop` meets its contract: the steps of `property`, in its order. Assumes nothing.
use mathlib.Core.Path.{sym}
use Rattle.format.specs.Results.{outcome_of}
use Rattle.reader.proofs.Outcomes.{got_number, none}
use Rattle.reader.proofs.Parts.{span_part, span_none}
use Rattle.utf8.proofs.Outcomes.{checked_good, checked_bad}
use Rattle.survey.proofs.Exits.{short, not_utf8}
use Rattle.survey.proofs.CountLaws.{name_ends, prop_no_size, prop_no_offset, prop_no_value, prop_no_name, prop_bad_name, prop_good}
use Rattle.survey.proofs.nodes.Blob.check_prop.Goals as goal

pub returns-in_err-size : goal.returns-in_err-size
returns-in_err-size c = short _ c.from_residual.ensures.1 (prop_no_size _ _ _ (none _ _ c.in_err-size.ensures))

pub returns-in_err-offset : goal.returns-in_err-offset
returns-in_err-offset c =
    short _ c.from_residual-in_err-offset.ensures.1 (prop_no_offset _ _ _ (got_number c.in_ok-size.ensures) (none _ _ c.in_err-offset.ensures))

pub returns-in_err-subslice : goal.returns-in_err-subslice
returns-in_err-subslice c =
    short _ c.from_residual-in_err-subslice.ensures.1
    (prop_no_value _ _ _ (got_number c.in_ok-size.ensures) (got_number c.in_ok-offset.ensures) (span_none _ _ _ c.in_err-subslice.ensures))

pub returns-in_err-name : goal.returns-in_err-name
returns-in_err-name c =
    short _ c.from_residual-in_err-name.ensures.1
    (prop_no_name _ _ _ (got_number c.in_ok-size.ensures) (got_number c.in_ok-offset.ensures) (span_part _ _ c.in_ok-subslice.ensures)
    (span_none _ _ _ c.in_err-name.ensures))

pub overflow_add-start-2 : goal.overflow_add-start-2
overflow_add-start-2 c = record { fits = (name_ends _ c.args.self.now.small (span_part _ _ c.in_ok-name.ensures)).0 }

pub slice_bounds-from_utf8-end : goal.slice_bounds-from_utf8-end
slice_bounds-from_utf8-end c = (name_ends _ c.args.self.now.small (span_part _ _ c.in_ok-name.ensures)).1

pub returns-in_err-from_utf8 : goal.returns-in_err-from_utf8
returns-in_err-from_utf8 c =
    not_utf8 _ c.from_residual-in_err-from_utf8.ensures.1
    (prop_bad_name _ _ _ (got_number c.in_ok-size.ensures) (got_number c.in_ok-offset.ensures) (span_part _ _ c.in_ok-subslice.ensures)
    (span_part _ _ c.in_ok-name.ensures) (checked_bad c.in_err-from_utf8.ensures))

pub returns : goal.returns
unfolding outcome_of
returns c =
    sym (prop_good _ _ _ (got_number c.in_ok-size.ensures) (got_number c.in_ok-offset.ensures) (span_part _ _ c.in_ok-subslice.ensures)
    (span_part _ _ c.in_ok-name.ensures) c.args.self.now.small.blob (checked_good c.in_ok-from_utf8.ensures) c.aligned.ensures)
