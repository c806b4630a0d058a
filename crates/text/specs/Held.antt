-- What has been written to an output: what its writer holds, where that is known, and behind it the text that waits.
use Rattle.std.specs.Prelude.{ℕ, List, take}
use Rattle.std.specs.Io.KnownBytes.{append_known}
use Rattle.std.specs.declared.option.Option.{Option}
use Rattle.text.specs.declared.Output.{Output}

abbrev pub writer : {W : Type 0} → Output W → W
writer out = out.to

abbrev pub waiting : {W : Type 0} → Output W → List ℕ
waiting out = take out.used out.text

abbrev pub held : {W : Type 0} → (W → Option (List ℕ)) → Output W → Option (List ℕ)
held contents out = append_known (contents (writer out)) (waiting out)
