-- The reservation list a turn at a time: where it ends, for the scan. Assumes nothing.
use mathlib.Core.Path.{◌≡◌, refl, ap, ◌∙◌}
use mathlib.Core.Logic.{◌≢◌}
use Prim.Native.Nat.{ℕ, suc, ◌+◌, ◌*◌}
use native.Mathlib.Omega.{arith}
use mathlib.Core.List.{List, [], ◌∷◌}
use lib.ListN.{length}
use borrow.Author.Tests.{eq-eqb, ne_eqb}
use Rattle.format.specs.Choice.{when◌then◌else◌}
use Rattle.format.specs.Answer.{Refusal, ok, refused, unexpected_end_of_input, ◌>>=◌}
use Rattle.format.specs.Rules.{ours, size_zero}
use Rattle.format.specs.Read.{read_be_u64, reservation}
use Rattle.format.proofs.Tools.{if_yes, if_no}
use Rattle.format.proofs.Answer.{ok_then, then_ok, then_refused, then_then}
use Rattle.format.specs.Bytes.{value_at}
use Rattle.format.proofs.Read.{read_there, read_past_end, read_inside}
use native.Mathlib.Decide.{dec_le}
use Rattle.format.proofs.Loops.{reservations_turn}
use Rattle.survey.specs.Reserve.{listed, scan_from}

sixteen : (p n : ℕ) → p + 16 * suc n ≡ p + 16 + 16 * n
sixteen p n = omega arith

module _ (b : List ℕ) where
  pub list_turn : (p : ℕ) → listed b p ≡ (reservation b p >>= λ first.
      when size_zero first then ok (first ∷ []) else (listed b (p + 16) >>= λ rest. ok (first ∷ rest)))
  unfolding listed ours
  list_turn p = reservations_turn b size_zero p

  -- ---- the scan: an entry that is not there, the last one, another one

  module _ (p : ℕ) where
    pub scan_no_offset : {r : Refusal} → read_be_u64 b p ≡ refused r → scan_from b p ≡ refused r
    unfolding scan_from reservation
    scan_no_offset e = then_refused _ _ (list_turn p ∙ then_refused _ _ (then_refused _ _ e))

    module _ {offset : ℕ} (isOffset : read_be_u64 b p ≡ ok offset) where
      pub scan_no_size : {r : Refusal} → read_be_u64 b (p + 8) ≡ refused r → scan_from b p ≡ refused r
      unfolding scan_from reservation
      scan_no_size e = then_refused _ _ (list_turn p ∙ then_refused _ _ (then_ok _ _ isOffset (then_refused _ _ e)))

      module _ {size : ℕ} (isSize : read_be_u64 b (p + 8) ≡ ok size) where
        entry : reservation b p ≡ ok (record { offset = offset; size = size })
        unfolding reservation
        entry = then_ok _ _ isOffset (then_ok _ _ isSize refl)

        pub scan_last : size ≡ 0 → scan_from b p ≡ ok (p + 16)
        unfolding scan_from size_zero
        scan_last e = then_ok _ _ (list_turn p ∙ then_ok _ _ entry (if_yes _ _ (eq-eqb size 0 e))) refl

        pub scan_more : size ≢ 0 → scan_from b p ≡ scan_from b (p + 16)
        unfolding scan_from size_zero
        scan_more n =
            ap (λ m. m >>= λ rs. ok (p + 16 * length rs)) (list_turn p ∙ then_ok _ _ entry (if_no _ _ (ne_eqb size 0 n)))
            ∙ simp (then_then, ok_then, sixteen)

    -- the size alone says whether the entry is there
    pub scan_short : read_be_u64 b (p + 8) ≡ refused unexpected_end_of_input → scan_from b p ≡ refused unexpected_end_of_input
    scan_short e =
        elim (dec_le (p + 8) (length b)) [
          | yes h ↦ scan_no_size (read_there b 8 p h) e
          | no h ↦ scan_no_offset (read_past_end b 8 p (omega arith))
        ]

    pub offset_there : {size : ℕ} → read_be_u64 b (p + 8) ≡ ok size → read_be_u64 b p ≡ ok (value_at 8 b p)
    offset_there isSize = read_there b 8 p (omega (arith, read_inside b 8 (p + 8) isSize))
