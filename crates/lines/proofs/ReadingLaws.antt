-- Bytes put behind a line, and what a line end parts. Assumes nothing.
use Prim.Native.Nat.{ℕ, ◌+◌, ◌-◌, ◌≤◌, ◌<◌}
use native.Mathlib.Omega.{arith}
use mathlib.Core.Bool.{Bool}
use mathlib.Core.Path.{◌≡◌, ap, ◌∙◌, sym}
use mathlib.Core.List.{List, [], ◌++◌}
use lib.ListN.{length, take, drop, drop_of_length-le}
use Rattle.std.specs.Prelude.{Some, None, min, ◌==◌}
use Rattle.std.specs.List.{position, position_or_len, before_first, after_first}
use Rattle.std.proofs.lemmas.Grind.{common_steps}
use Rattle.std.proofs.lemmas.List.{drop-take, drop-drop, length-take, take_all}
use Rattle.std.proofs.Math.Seq.{take-append-add}

pub grown : (xs ys : List ℕ) (room n : ℕ) → length xs ≤ room → n ≡ min (length ys) (room - length xs) → xs ++ take n ys ≡ take room (xs ++ ys)
grown xs ys room n h e =
    let f : room ≡ length xs + (room - length xs) = omega arith in
    let least : take n ys ≡ take (room - length xs) ys = grind (arith, common_steps) in
    ap (λ zs. xs ++ zs) least ∙ sym (take-append-add xs ys (room - length xs)) ∙ ap (λ k. take k (xs ++ ys)) (sym f)

module _ (s : List ℕ) where
  abbrev line_end : ℕ → Bool
  line_end b = b == 10

  first : (n : ℕ) → Some n ≡ position line_end s → (n < length s) × (n ≡ position_or_len line_end s)
  first n e = grind (arith, common_steps)

  pub found : (n : ℕ) → Some n ≡ position line_end s → (n < length s) × (take n s ≡ before_first line_end s) × (drop (n + 1) s ≡ after_first line_end s)
  found n e =
      let at = first n e in
      (at.0, ap (λ n. take n s) at.1, ap (λ n. drop (n + 1) s) at.1)

  past : None ≡ position line_end s → length s ≤ position_or_len line_end s
  past e = grind (arith, common_steps)

  pub unfound : None ≡ position line_end s → (s ≡ before_first line_end s) × ([] ≡ after_first line_end s)
  unfound e =
      let least = past e in
      (sym (take_all _ s least), sym (drop_of_length-le s (omega arith)))

pub left_on :
    (bytes : List ℕ) (at end n : ℕ) → n < length (take (end - at) (drop at bytes)) →
    take (end - (at + (n + 1))) (drop (at + (n + 1)) bytes) ≡ drop (n + 1) (take (end - at) (drop at bytes))
left_on bytes at end n h =
    let k = end - (at + (n + 1)) in
    let within : n < end - at = omega (arith, length-take (end - at) (drop at bytes)) in
    let e : end - at ≡ n + 1 + k = omega arith in
    sym (ap (λ m. drop (n + 1) (take m (drop at bytes))) e ∙ drop-take (n + 1) k (drop at bytes) ∙ ap (take k) (drop-drop (n + 1) at bytes))
