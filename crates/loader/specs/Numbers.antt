-- A load's answer by document 01's number and what it carries, and the tables lent to it.
use Rattle.std.specs.Prelude.{ℕ, List, [], ◌∷◌, Result, Ok, Err}
use Rattle.format.specs.Answer.{refusal_numbers}
use Rattle.format.specs.Load.{Tables}
use Rattle.survey.specs.Outcomes.{why_of}
use Rattle.survey.specs.declared.DeviceTree.{DeviceTree}
use Rattle.survey.specs.declared.DeviceTreeError.{DeviceTreeError}

-- document 01's number and what it carries
unfoldable pub loaded_numbers : Result DeviceTree DeviceTreeError → List ℕ
loaded_numbers (Ok t) = 0 ∷ t.version ∷ t.boot_cpuid_phys ∷ t.reserved ∷ t.nodes ∷ t.props ∷ []
loaded_numbers (Err why) = refusal_numbers (why_of why)

-- the lent tables
unfoldable pub lent : List ℕ → List ℕ → List ℕ → Tables
lent reserved nodes props = record { reservations = reserved; nodes = nodes; properties = props }
