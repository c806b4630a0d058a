-- The elements xs stand in a list R from number k on: the whole, the first and what follows, a left and a right part. Assumes nothing.
use Rattle.std.specs.Prelude.{◌≡◌, ℕ, ◌+◌, ◌≤◌, List, [], ◌∷◌, ◌++◌, length, get_or, drop}
use mathlib.Core.Path.{sym, ap, ◌∙◌}
use native.Mathlib.Omega.{arith}
use mathlib.Core.List.{append_assoc, append-nil}
use lib.ListN.{length-append}
use lib.Seq.{get_or-drop, drop-drop, drop-append_seam}

module _ {A : Type 0} (R : List A) where
  pub record Run (k : ℕ) (xs : List A) : Type 0 where
    pub fits : k + length xs ≤ length R
    pub rest : List A
    pub split : drop k R ≡ xs ++ rest

  pub whole : Run 0 R
  whole = record { fits = omega arith; rest = []; split = sym (append-nil R) }

  pub run_head : (d : A) (k : ℕ) (x : A) (xs : List A) → Run k (x ∷ xs) → get_or R k d ≡ x
  run_head d k x xs h = ap (λ i. get_or R i d) (omega arith) ∙ sym (get_or-drop k R 0 d) ∙ rw h.split

  pub run_tail : (k : ℕ) (x : A) (xs : List A) → Run k (x ∷ xs) → Run (k + 1) xs
  run_tail k x xs h = record { fits = omega (arith, h.fits); rest = h.rest; split = sym (drop-drop 1 k R) ∙ rw h.split }

  pub run_left : (k : ℕ) (xs ys : List A) → Run k (xs ++ ys) → Run k xs
  run_left k xs ys h = record { fits = omega (arith, h.fits, length-append xs ys); rest = ys ++ h.rest; split = h.split ∙ append_assoc xs ys h.rest }

  pub run_right : (k : ℕ) (xs ys : List A) → Run k (xs ++ ys) → Run (k + length xs) ys
  run_right k xs ys h = record {
    fits = omega (arith, h.fits, length-append xs ys);
    rest = h.rest;
    split = sym (drop-drop (length xs) k R) ∙ rw (h.split, append_assoc) (drop-append_seam xs (ys ++ h.rest));
  }
