-- `put`: as many numbers as were taken are put. Assumes nothing.
use Rattle.std.proofs.Common.{◌≡◌, take}
use Rattle.std.proofs.lemmas.List.Edits.{sets}
use Rattle.answers.proofs.lent.put.Given as goal

abbrev pub invariant-loop-at : goal.invariant-loop-at
invariant-loop-at l = l.answer ≡ sets l.initial.answer 0 (take l.at l.numbers)
