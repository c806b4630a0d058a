-- `judge_header` meets its contract: each word that was read, and each test that it passed, goes to the header's outcome by one law.
-- Assumes nothing.
use Rattle.std.specs.Prelude.{◌≡◌, ℕ, Ok}
use mathlib.Core.Path.{sym}
use Rattle.format.specs.Answer.{Outcome, or_zero}
use Rattle.format.specs.Format.{magic, version}
use Rattle.format.specs.Results.{outcome_of}
use Rattle.reader.proofs.Outcomes.{got_number, none, or_zero_lem}
use Rattle.reader.specs.Outcomes as reader
use Rattle.survey.specs.Outcomes.{why_of}
use Rattle.survey.proofs.Exits.{short}
use Rattle.survey.proofs.HeaderLaws.{magic_passed, size_passed, version_passed, no_magic, bad_magic, no_size, bad_size, no_version, bad_version, no_structure, no_strings, no_reservations, no_boot, whole}
use Rattle.survey.proofs.header.judge_header.Goals as goal

-- a number that was read is what a total read gives
total : {n : ℕ} {m : Outcome ℕ} → outcome_of reader.why_of (λ n. n) (Ok n) ≡ m → n ≡ or_zero m
total e = sym (or_zero_lem (got_number e))

pub returns-in_err-magic : goal.returns-in_err-magic
returns-in_err-magic c = short _ c.from_residual.ensures.1 (no_magic _ (none _ _ c.in_err-magic.ensures))

pub returns-then-magic : goal.returns-then-magic
unfolding outcome_of why_of magic
returns-then-magic c = sym (bad_magic _ (got_number c.in_ok-magic.ensures) c.if-magic.true)

pub returns-in_err-size : goal.returns-in_err-size
unfolding magic
returns-in_err-size c =
    short _ c.from_residual-in_err-size.ensures.1 (no_size _ (magic_passed (got_number c.in_ok-magic.ensures) c.if-magic.false) (none _ _ c.in_err-size.ensures))

pub returns-then-size-b : goal.returns-then-size-b
unfolding outcome_of why_of magic
returns-then-size-b c =
    sym (bad_size _ (magic_passed (got_number c.in_ok-magic.ensures) c.if-magic.false) (got_number c.in_ok-size.ensures) c.if-size-b.true)

pub returns-in_err-version : goal.returns-in_err-version
unfolding magic
returns-in_err-version c =
    short _ c.from_residual-in_err-version.ensures.1
    (no_version _ (size_passed (got_number c.in_ok-magic.ensures) c.if-magic.false (got_number c.in_ok-size.ensures) c.if-size-b.false)
    (none _ _ c.in_err-version.ensures))

pub returns-then-version-ne-SUPPORTED_VERSION : goal.returns-then-version-ne-SUPPORTED_VERSION
unfolding outcome_of why_of magic version
returns-then-version-ne-SUPPORTED_VERSION c =
    sym (bad_version _ (size_passed (got_number c.in_ok-magic.ensures) c.if-magic.false (got_number c.in_ok-size.ensures) c.if-size-b.false)
    (got_number c.in_ok-version.ensures) c.if-version-ne-SUPPORTED_VERSION.true)

pub returns-in_err-structure : goal.returns-in_err-structure
unfolding magic version
returns-in_err-structure c =
    short _ c.from_residual-in_err-structure.ensures.1
    (no_structure _ (version_passed (got_number c.in_ok-magic.ensures) c.if-magic.false (got_number c.in_ok-size.ensures) c.if-size-b.false (got_number c.in_ok-version.ensures) c.if-version-ne-SUPPORTED_VERSION.false)
    (none _ _ c.in_err-structure.ensures))

pub returns-in_err-strings : goal.returns-in_err-strings
unfolding magic version
returns-in_err-strings c =
    short _ c.from_residual-in_err-strings.ensures.1
    (no_strings _ (version_passed (got_number c.in_ok-magic.ensures) c.if-magic.false (got_number c.in_ok-size.ensures) c.if-size-b.false (got_number c.in_ok-version.ensures) c.if-version-ne-SUPPORTED_VERSION.false)
    (got_number c.in_ok-structure.ensures) (none _ _ c.in_err-strings.ensures))

pub returns-in_err-reservations : goal.returns-in_err-reservations
unfolding magic version
returns-in_err-reservations c =
    short _ c.from_residual-in_err-reservations.ensures.1
    (no_reservations _ (version_passed (got_number c.in_ok-magic.ensures) c.if-magic.false (got_number c.in_ok-size.ensures) c.if-size-b.false (got_number c.in_ok-version.ensures) c.if-version-ne-SUPPORTED_VERSION.false)
    (got_number c.in_ok-structure.ensures) (got_number c.in_ok-strings.ensures) (none _ _ c.in_err-reservations.ensures))

pub returns-in_err-boot : goal.returns-in_err-boot
unfolding magic version
returns-in_err-boot c =
    short _ c.from_residual-in_err-boot.ensures.1
    (no_boot _ (version_passed (got_number c.in_ok-magic.ensures) c.if-magic.false (got_number c.in_ok-size.ensures) c.if-size-b.false (got_number c.in_ok-version.ensures) c.if-version-ne-SUPPORTED_VERSION.false)
    (none _ _ c.in_err-boot.ensures))

pub returns : goal.returns
unfolding outcome_of magic version
returns c =
    sym (whole _ (version_passed (got_number c.in_ok-magic.ensures) c.if-magic.false (got_number c.in_ok-size.ensures) c.if-size-b.false (got_number c.in_ok-version.ensures) c.if-version-ne-SUPPORTED_VERSION.false)
    (total c.in_ok-structure.ensures) (total c.in_ok-strings.ensures) (total c.in_ok-reservations.ensures) (got_number c.in_ok-boot.ensures))
