-- `first_named` meets its contract: what is left of the rows gives what all of them give. Assumes nothing.
use Rattle.std.proofs.Common.{◌≡◌, ℕ, ◌+◌, ◌-◌, List, length}
use Rattle.format.specs.Rows.{PropertyRow}
use Rattle.format.specs.Lookup.{among}
use Rattle.lookup.specs.Places.{RowsFrom}
use Rattle.lookup.proofs.property.first_named.Given as goal

abbrev pub invariant-loop-row : goal.invariant-loop-row
invariant-loop-row l =
    (P : List PropertyRow) (first : ℕ) → RowsFrom P first l.rows → among l.blob P (length l.rows - l.row-index) (first + l.row-index) l.name ≡ among l.blob P (length l.rows) first l.name
