-- What waits in a chunk, and what has been written before it. Assumes nothing.
use Rattle.std.specs.Prelude.{◌≡◌, ℕ, List, ◌++◌, take}
use Rattle.std.specs.Fmt.{HasWritten}
use Rattle.std.specs.declared.fmt.Formatter.{Formatter}
use Rattle.show.specs.declared.chunk.Chunk.{Chunk}

abbrev pub waiting : Chunk → List ℕ
waiting c = take c.used c.text

-- from start on f has written all of bs but the part at its end that waits
pub record Holds {W : Type 0} (took : W → List ℕ → W → Type 0) (start : Formatter W) (bs : List ℕ) (f : Formatter W) (waits : List ℕ) : Type 0 where
  pub done : List ℕ
  pub wrote : HasWritten took start done f
  pub whole : done ++ waits ≡ bs
