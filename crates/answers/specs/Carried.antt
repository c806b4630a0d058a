-- What the values that calls give carry, beside a number alone and nothing: a part of the caller's bytes, and what a load counted.
use Rattle.std.specs.Prelude.{ℕ, List, [], ◌∷◌}
use Rattle.format.specs.Answer.{place}
use Rattle.reader.specs.declared.Span.{Span}
use Rattle.reader.specs.Outcomes.{tells}
use Rattle.survey.specs.declared.DeviceTree.{DeviceTree}

unfoldable pub part : Span → List ℕ
part s = place (tells s)

unfoldable pub counts : DeviceTree → List ℕ
counts t = t.version ∷ t.boot_cpuid_phys ∷ t.reserved ∷ t.nodes ∷ t.props ∷ []
