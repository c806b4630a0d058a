-- Nothing is left to the numbering: an answer's numbers determine it, so each call has one answer, and what `put` leaves is fixed by
-- what it was given. Assumes nothing.
use Rattle.std.proofs.Common.{◌≡◌, ℕ, ◌-◌, ◌<◌, ◌≤◌, List, ◌++◌, length, drop, replicate, sym, ap, ap₂, ◌∙◌, arith}
use Rattle.std.proofs.lemmas.List.{length-take, take-append-drop}
use mathlib.Core.HLevel.{is_prop→PathP}
use native.Mathlib.Nat.{ℕ_set}
use native.Mathlib.Bridge.{le_prop}
use mathlib.Core.List.{is_set}
use Rattle.answers.specs.Answers.{answer_numbers, Put}
use Rattle.answers.specs.declared.answer.Answer.{Answer}

same : (r s : Answer) → r.len ≡ s.len → r.all ≡ s.all → r ≡ s
same r s long whole = λ i. record {
  all = whole i;
  len = long i;
  some = is_prop→PathP (λ j. 0 < long j) (λ j. le_prop) r.some s.some i;
  within = is_prop→PathP (λ j. long j ≤ length (whole j)) (λ j. le_prop) r.within s.within i;
  zeros = is_prop→PathP (λ j. drop (long j) (whole j) ≡ replicate (6 - long j) 0) (λ j. is_set ℕ_set _ _) r.zeros s.zeros i;
}

as_many : (r s : Answer) → answer_numbers r ≡ answer_numbers s → r.len ≡ s.len
unfolding answer_numbers
as_many r s e = let k = ap length e in let h = r.within in let h' = s.within in omega (arith, length-take r.len r.all, length-take s.len s.all)

-- an answer's numbers determine it: how many they are, and so the zeros past them
pub answer_by_numbers : (r s : Answer) → answer_numbers r ≡ answer_numbers s → r ≡ s
unfolding answer_numbers
answer_by_numbers r s e =
    let zeros : drop r.len r.all ≡ drop s.len s.all = r.zeros ∙ ap (λ n. replicate (6 - n) 0) (as_many r s e) ∙ sym s.zeros in
    same r s (as_many r s e) (sym (take-append-drop r.len r.all) ∙ ap₂ (λ x y. x ++ y) e zeros ∙ take-append-drop s.len s.all)

-- each of the calls that number an answer promises that its numbers are these
pub numbered_determined : (ns : List ℕ) (r s : Answer) → answer_numbers r ≡ ns → answer_numbers s ≡ ns → r ≡ s
numbered_determined ns r s h k = answer_by_numbers r s (h ∙ sym k)

pub put_determined : (a : Answer) (lent left left' : List ℕ) → Put a lent left → Put a lent left' → left ≡ left'
unfolding Put
put_determined a lent left left' h k = h ∙ sym k
