-- The one conditional of these definitions.
use Rattle.std.specs.Prelude.{Bool, true, false}

infix 5 when◌then◌else◌
unfoldable pub when◌then◌else◌ : {A : Type 0} → Bool → A → A → A
when true then x else y = x
when false then x else y = y
