-- What a byte comes to.
use Rattle.std.specs.Prelude.{ℕ, List, ◌∷◌, codes}
use Rattle.std.specs.Char.{encode_utf8}
use Rattle.show.specs.Escaped.{numbered}
use Rattle.show.specs.declared.escape.Shown.{Shown}
use Rattle.show.specs.declared.escape.Shown.TheVariants.{Plain, Behind, Number, Between}

abbrev pub told : Shown → List ℕ
told (Plain b) = encode_utf8 b
told (Behind b) = 92 ∷ encode_utf8 b
told (Number b) = numbered b
told Between = codes "\", \""
