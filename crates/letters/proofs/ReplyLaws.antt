-- A line that is answered by its letter. Assumes nothing.
use Prim.Native.Nat.{ℕ, ◌-◌, ◌≤◌}
use mathlib.Core.Path.{◌≡◌}
use mathlib.Core.List.{List}
use borrow.Author.Tests.{le-ltb, eq-eqb}
use borrow.Author.Rules.{part_to_end}
use lib.ListN.{length, take, drop, get_or}
use Rattle.letters.specs.Replies.{letter_reply, reply}

module _ (room : ℕ) (line : List ℕ) where
  pub by_letter :
      (letter : ℕ) → 2 ≤ length line → get_or line 1 0 ≡ 32 → get_or line 0 0 ≡ letter →
      letter_reply room letter (take (length line - 2) (drop 2 line)) ≡ reply room line
  unfolding reply
  by_letter letter p q e = rw (part_to_end line 2, ← e) (simp (le-ltb (length line) 2 p, eq-eqb (get_or line 1 0) 32 q))
