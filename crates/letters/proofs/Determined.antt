-- A second answer that fits a line is the same. Assumes nothing.
use Prim.Native.Nat.{ℕ}
use mathlib.Core.Path.{◌≡◌, sym, ◌∙◌}
use mathlib.Core.List.{List}
use Rattle.answers.specs.Answers.{answer_numbers}
use Rattle.answers.specs.declared.answer.Answer.{Answer}
use Rattle.answers.proofs.Determined.{answer_by_numbers}
use Rattle.letters.specs.Replies.{reply}

pub reply_determined : (line : List ℕ) (r q : Answer) → answer_numbers r ≡ reply 8192 line → answer_numbers q ≡ reply 8192 line → r ≡ q
reply_determined line r q e f = answer_by_numbers r q (e ∙ sym f)
