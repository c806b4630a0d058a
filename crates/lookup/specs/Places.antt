-- Rows by the numbers of their table, and the places that private functions go by. No public promise cites it.
use Rattle.std.specs.Prelude.{◌≡◌, ℕ, zero, suc, ◌+◌, ◌<◌, true, ◌&&◌, List, [], length, ◌==◌, slice_index, slice_index_or}
use Rattle.format.specs.Choice.{when◌then◌else◌}
use Rattle.format.specs.Answer.{Outcome, ok, refused, nothing_found, not_usable}
use Rattle.format.specs.Format.{NONE}
use Rattle.format.specs.Rows.{NodeRow, PropertyRow, at, property_at, nodes_in}
use Rattle.format.specs.Find.{same}
use Rattle.format.specs.Lookup.{link_good, links_good, name_inside, name_at}
use Rattle.lookup.specs.declared.Nodes.{Nodes}
use Rattle.lookup.specs.declared.judge.NodeCells.{NodeCells}

-- the rows that are counted
abbrev pub rows_of : Nodes → List NodeRow
rows_of n = nodes_in n.count n.table.now

-- the numbers of a row that were read are that row's
pub record IsNode (r : NodeCells) (x : NodeRow) : Type 0 where
  pub name : r.name ≡ x.name_offset
  pub len : r.len ≡ x.name_length
  pub child : r.child ≡ x.first_child
  pub next : r.next ≡ x.next_sibling
  pub first : r.first ≡ x.first_property
  pub count : r.count ≡ x.property_count

-- a property row by its numbers, and the rows of P from one on
unfoldable pub property_of_numbers : List ℕ → PropertyRow
property_of_numbers l = record { name_offset = slice_index l 0; name_length = slice_index l 1; value_offset = slice_index l 2; value_length = slice_index l 3 }

unfoldable pub RowsFrom : List PropertyRow → ℕ → List (List ℕ) → Type 0
RowsFrom P first rows = (i : ℕ) → i < length rows → property_at P (first + i) ≡ property_of_numbers (slice_index_or rows i [])

-- row r and its later siblings, each reached in turn up to the first named `first`: the inner part of `across`
unfoldable pub child_from : List ℕ → List NodeRow → ℕ → ℕ → List ℕ → Outcome ℕ
child_from b R zero r first = refused not_usable
child_from b R (suc turns) r first =
    when r == NONE then refused nothing_found
    else (when links_good R r && name_inside b R r
    then (when same (name_at b R r) first then ok r else child_from b R turns (at R r).next_sibling first)
    else refused not_usable)

-- a link of a row that was judged
pub record JudgedLink (R : List NodeRow) (link : ℕ) : Type 0 where
  pub low : ℕ
  pub below : low < length R
  pub good : link_good R low link ≡ true
