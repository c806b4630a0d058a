-- `lines::spelled::decimal` meets its contract. The loop's invariant: the digits left, after those that spelled n, spell
-- what all of them do. Assumes nothing.
use mathlib.Core.Path.{◌≡◌}
use lib.ListN.{drop}
use Rattle.lines.specs.Fields.{number_from, number_of}
use Rattle.lines.proofs.spelled.decimal.Given as goal

abbrev pub invariant-loop-b : goal.invariant-loop-b
invariant-loop-b l = number_of l.s ≡ number_from l.n (drop l.b-index l.s)
