-- Determined: a second answer that fits, with the tables that it leaves, is the same; and measure agrees with load wherever the room
-- suffices. The readers' own stand in crate reader (proofs/Determined). The theorems of the lookups are over numbers, so an outcome that a
-- contract gives meets the premise, by `ap`. Assumes nothing.
use mathlib.Core.Path.{◌≡◌, sym, ◌∙◌}
use mathlib.Core.List.{List}
use Prim.Native.Nat.{ℕ, ◌≤◌}
use Rattle.std.specs.Prelude.{Result}
use Rattle.format.specs.Answer.{first, numbers, itself, nothing, place, or_empty}
use Rattle.format.specs.Load.{Tables, Loads, Measures}
use Rattle.format.specs.Lookup as table
use Rattle.format.specs.Lookup.{Lent}
use Rattle.format.specs.Agrees.{bytes_in}
use Rattle.format.proofs.Load as laws
use Rattle.loader.specs.Numbers.{loaded_numbers}
use Rattle.survey.specs.declared.DeviceTree.{DeviceTree}
use Rattle.survey.specs.declared.DeviceTreeError.{DeviceTreeError}
use Rattle.loader.proofs.Numbered.{loaded_same}
use Rattle.format.specs.Results.{outcome, outcome_of}
use Rattle.reader.specs.Outcomes.{tells}
use Rattle.reader.specs.declared.Span.{Span}
use Rattle.lookup.specs.Answers.{why_of}
use Rattle.lookup.specs.declared.LookupError.{LookupError}
use Rattle.values.specs.Answers as values
use Rattle.values.specs.declared.error.PropError.{PropError}
use Rattle.lookup.proofs.Determined as lookups
use Rattle.values.proofs.Determined as value_laws

pub load_determined : {lent left left' : Tables} {b : List ℕ} (r s : Result DeviceTree DeviceTreeError) → Loads lent b (loaded_numbers r) left → Loads lent b (loaded_numbers s) left'
    → (r ≡ s) × (left ≡ left')
load_determined r s l m = let d = laws.loads_determined l m in (loaded_same r s d.0, d.1)

pub measure_determined : {b : List ℕ} (r s : Result DeviceTree DeviceTreeError) → Measures b (loaded_numbers r) → Measures b (loaded_numbers s) → r ≡ s
measure_determined r s l m = loaded_same r s (laws.measures_determined l m)

-- Unless load has no room (8, 9, 10), it answers what measure answers.
pub measure_agrees : {lent left : Tables} {b : List ℕ} (r s : Result DeviceTree DeviceTreeError) → Measures b (loaded_numbers r) → Loads lent b (loaded_numbers s) left
    → ((8 ≤ first (loaded_numbers s)) × (first (loaded_numbers s) ≤ 10) → ⊥) → r ≡ s
measure_agrees {lent} {left} {b} r s m l n = loaded_same r s (m.answers ∙ sym (laws.load_measures lent b (λ h. n (rw l.answers h))) ∙ sym l.answers)

-- ---- the lookups, in any tables: an answer is fixed by the blob, the tables, their counts, the row, and the path or name

module _ (b nodes : List ℕ) (count : ℕ) (path : List ℕ) where
  pub find_determined : (r s : Result ℕ LookupError) → numbers itself (outcome why_of r) ≡ numbers itself (table.find b nodes count path)
      → numbers itself (outcome why_of s) ≡ numbers itself (table.find b nodes count path) → r ≡ s
  find_determined = lookups.find_determined b nodes count path

  pub find_from_determined : (row : ℕ) (r s : Result ℕ LookupError) → numbers itself (outcome why_of r) ≡ numbers itself (table.find_from b nodes count row path)
      → numbers itself (outcome why_of s) ≡ numbers itself (table.find_from b nodes count row path) → r ≡ s
  find_from_determined = lookups.find_from_determined b nodes count path

module _ (b : List ℕ) (l : Lent) (row : ℕ) (name : List ℕ) where
  pub has_prop_determined : (r s : Result (Unit {0}) LookupError) → numbers nothing (outcome why_of r) ≡ numbers nothing (table.has_prop b l row name)
      → numbers nothing (outcome why_of s) ≡ numbers nothing (table.has_prop b l row name) → r ≡ s
  has_prop_determined = lookups.has_prop_determined b l row name

  pub prop_raw_determined : (r s : Result Span LookupError) → numbers place (outcome_of why_of tells r) ≡ numbers place (table.prop_raw b l row name)
      → numbers place (outcome_of why_of tells s) ≡ numbers place (table.prop_raw b l row name) → r ≡ s
  prop_raw_determined = lookups.prop_raw_determined b l row name

  pub prop_raw_part_determined : (r s : List ℕ) → r ≡ or_empty (bytes_in b (table.prop_raw b l row name)) → s ≡ or_empty (bytes_in b (table.prop_raw b l row name)) → r ≡ s
  prop_raw_part_determined = lookups.prop_raw_part_determined b l row name

  pub prop_str_determined : (r s : Result Span PropError) → numbers place (outcome_of values.why_of tells r) ≡ numbers place (table.prop_str b l row name)
      → numbers place (outcome_of values.why_of tells s) ≡ numbers place (table.prop_str b l row name) → r ≡ s
  prop_str_determined = value_laws.prop_str_determined b l row name

  pub prop_str_part_determined : (r s : List ℕ) → r ≡ or_empty (bytes_in b (table.prop_str b l row name)) → s ≡ or_empty (bytes_in b (table.prop_str b l row name)) → r ≡ s
  prop_str_part_determined = value_laws.prop_str_part_determined b l row name

  pub prop_u32_determined : (r s : Result ℕ PropError) → numbers itself (outcome values.why_of r) ≡ numbers itself (table.prop_u32 b l row name)
      → numbers itself (outcome values.why_of s) ≡ numbers itself (table.prop_u32 b l row name) → r ≡ s
  prop_u32_determined = value_laws.prop_u32_determined b l row name

  pub prop_u64_determined : (r s : Result ℕ PropError) → numbers itself (outcome values.why_of r) ≡ numbers itself (table.prop_u64 b l row name)
      → numbers itself (outcome values.why_of s) ≡ numbers itself (table.prop_u64 b l row name) → r ≡ s
  prop_u64_determined = value_laws.prop_u64_determined b l row name
