-- What the promises cite: which refusal an error is, by document 01 ("When the reader says no"), and what a property lookup is lent.
use Rattle.std.specs.Prelude.{ℕ, List}
use Rattle.format.specs.Answer.{Refusal, nothing_found, not_usable}
use Rattle.format.specs.Lookup.{Lent}
use Rattle.lookup.specs.declared.LookupError.{LookupError}
use Rattle.lookup.specs.declared.Rows.{Rows}
use Rattle.lookup.specs.declared.LookupError.TheVariants.{NotFound, Unusable}

unfoldable pub why_of : LookupError → Refusal
why_of NotFound = nothing_found
why_of Unusable = not_usable

-- the tables that a property lookup is lent, with their counts
unfoldable pub lent : List ℕ → ℕ → List ℕ → ℕ → Lent
lent nodes count props many = record { nodes = nodes; node_count = count; properties = props; property_count = many }

-- those of the code's `Rows`
abbrev pub lent_by : Rows → Lent
lent_by r = lent r.nodes.table.now r.nodes.count r.props.now r.many
