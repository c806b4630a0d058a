-- Nothing is left to the calls: two answers that fit a promise on the same input are the same answer.
-- Each theorem is over its contract's own expression. Assumes nothing.
use mathlib.Core.Path.{◌≡◌, sym, ◌∙◌}
use Prim.Native.Nat.{ℕ}
use mathlib.Core.Bool.{Bool}
use mathlib.Core.List.{List}
use lib.ListN.{length}
use Rattle.format.specs.Find.{head, same}

pub same_determined : (s t : List ℕ) (x y : Bool) → x ≡ same s t → y ≡ same s t → x ≡ y
same_determined s t x y e f = e ∙ sym f

pub name_end_determined : (path : List ℕ) (x y : ℕ) → x ≡ length (head path) → y ≡ length (head path) → x ≡ y
name_end_determined path x y e f = e ∙ sym f
