-- What the check's answer says, where it is known. Assumes nothing.
use Rattle.std.specs.Prelude.{◌≡◌, Ok, Err}
use mathlib.Core.Path.{sym}
use Rattle.format.specs.Answer.{Outcome, ok, refused, utf8_error}
use Rattle.format.specs.Results.{outcome, outcome_of}
use Rattle.utf8.specs.declared.Utf8Error.{Utf8Error}
use Rattle.utf8.specs.Outcomes.{why_of}

pub checked_good : {u : Unit {0}} {m : Outcome (Unit {0})} → outcome why_of (Ok u) ≡ m → m ≡ ok tt
unfolding outcome_of
checked_good e = sym e

pub checked_bad : {x : Utf8Error} {m : Outcome (Unit {0})} → outcome why_of (Err x) ≡ m → m ≡ refused utf8_error
unfolding outcome_of why_of
checked_bad e = sym e
