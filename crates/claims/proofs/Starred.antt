-- The starred cases of document 01, one table, one claim. Assumes nothing.
use mathlib.Core.Path.{◌≡◌}
use mathlib.Core.List.{map}
use Rattle.format.specs.Cases.{Case, cases, said}
use Rattle.format.proofs.Cases as laws

pub starred : map said cases ≡ map (λ (c : Case). c.says) cases
starred = laws.starred
