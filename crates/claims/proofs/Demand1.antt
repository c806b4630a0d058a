-- Demand 1: "Any bytes, any tables, any path get an answer. A refused load leaves its tables as they were; lookups write nothing."
-- No public call of reader, loader and lookup has a `requires`, and the check proves that each call returns. `measure` is lent no table,
-- and the lookups are lent theirs by `&`, so there is nothing that they could write. What is left to say is what a refused load leaves.
-- Assumes nothing.
use mathlib.Core.Path.{◌≡◌, refl, ap}
use mathlib.Core.List.{List}
use Prim.Native.Nat.{ℕ}
use Rattle.std.specs.Prelude.{Err}
use Rattle.format.specs.Answer.{Refusal, refusal_numbers, first, Outcome, ok, refused, numbers}
use Rattle.format.specs.Tree.{Tree}
use Rattle.format.specs.Load.{Tables, tree_numbers, Loads}
use Rattle.format.specs.Load as load
use Rattle.format.proofs.Answer.{refusal_not_0}
use Rattle.format.proofs.Load as laws
use Rattle.survey.specs.Outcomes.{why_of}
use Rattle.loader.specs.Numbers.{loaded_numbers}
use Rattle.survey.specs.declared.DeviceTreeError.{DeviceTreeError}

-- an answer of refusal numbers is a refusal
refuses : (m : Outcome Tree) (r : Refusal) → refusal_numbers r ≡ numbers tree_numbers m → (s : Refusal) × (m ≡ refused s)
unfolding numbers first
refuses (ok t) r e = absurd (refusal_not_0 r (ap first e))
refuses (refused s) r e = (s, refl)

pub refused_leaves : {lent left : Tables} {b : List ℕ} (why : DeviceTreeError) → Loads lent b (loaded_numbers (Err why)) left → left ≡ lent
unfolding loaded_numbers
refused_leaves {lent} {left} {b} why l = laws.refused_leaves l (refuses (load.load lent b) (why_of why) l.answers).1
