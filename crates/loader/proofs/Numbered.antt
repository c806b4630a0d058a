-- The numbers of a load's answer determine the answer. Assumes nothing.
use mathlib.Core.Path.{◌≡◌, refl, sym, ap, ◌∙◌}
use Prim.Native.Nat.{ℕ}
use mathlib.Core.List.{List}
use lib.ListN.{get_or}
use Rattle.std.specs.Prelude.{Result, Ok, Err}
use Rattle.format.specs.Answer.{numbers}
use Rattle.format.specs.Results.{outcome, outcome_of}
use Rattle.format.proofs.Answer.{numbers_same}
use Rattle.format.proofs.Results.{outcome_same}
use Rattle.survey.specs.Outcomes.{why_of}
use Rattle.survey.specs.declared.DeviceTree.{DeviceTree}
use Rattle.survey.specs.declared.DeviceTreeError.{DeviceTreeError}
use Rattle.survey.proofs.Determined.{error_of, error_back}
use Rattle.survey.proofs.FoundLaws.{carried}
use Rattle.loader.specs.Numbers.{loaded_numbers}

tree_back : List ℕ → DeviceTree
tree_back ns = record { version = get_or ns 0 0; boot_cpuid_phys = get_or ns 1 0; reserved = get_or ns 2 0; nodes = get_or ns 3 0; props = get_or ns 4 0 }

-- an answer's numbers are its outcome's
pub by_outcome : (r : Result DeviceTree DeviceTreeError) → loaded_numbers r ≡ numbers carried (outcome why_of r)
unfolding loaded_numbers outcome_of numbers carried
by_outcome (Ok t) = refl
by_outcome (Err why) = refl

why_same : (x y : DeviceTreeError) → why_of x ≡ why_of y → x ≡ y
why_same x y e = sym (error_back x) ∙ ap error_of e ∙ error_back y

pub loaded_same : (r s : Result DeviceTree DeviceTreeError) → loaded_numbers r ≡ loaded_numbers s → r ≡ s
unfolding carried tree_back
loaded_same r s e =
    outcome_same why_of (λ v. v) (λ v w e. e) why_same r s
    (numbers_same carried tree_back (λ t. refl) (outcome why_of r) (outcome why_of s) (sym (by_outcome r) ∙ e ∙ by_outcome s))
