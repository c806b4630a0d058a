-- Laws of a node's head: where its properties begin, and that the numbers stored are those of its row. Assumes nothing.
use mathlib.Core.Path.{◌≡◌, ap, ◌∙◌, subst}
use Prim.Native.Nat.{ℕ, ◌+◌, ◌*◌, ◌-◌, ◌^◌, ◌≤◌, ◌<◌}
use native.Mathlib.Omega.{arith}
use mathlib.Core.List.{List, [], ◌∷◌}
use lib.ListN.{length}
use lib.Seq.{sets}
use Rattle.format.specs.Answer.{or_else, or_zero, or_empty}
use Rattle.format.specs.Bytes.{big_endian, word_at}
use Rattle.format.specs.Format.{NONE, node_width}
use Rattle.format.specs.Tree.{Property}
use Rattle.format.specs.Encodes.{Block, after_properties}
use Rattle.format.specs.Read.{aligned, read_be_u32, read_bstring0}
use Rattle.reader.specs.declared.Token.{Token}
use Rattle.reader.specs.Outcomes.{token_of}
use Rattle.reader.proofs.Numbers.{word_total}
use Rattle.reader.proofs.Rounding.{aligned_total}
use Rattle.loader.specs.Pass.{string_length, PropsHere, PropsReady, PropsState, props_state, props_after, first_at, HeadReady, child_row, head_numbers, HeadDone}

module _ {b : List ℕ} {strings : Block} {p row prow : ℕ} {nodes props : List ℕ} (small : length b < 2 ^ 32) (h : HeadReady b strings p row prow nodes props) where
  module _ {len q : ℕ} (isLength : len ≡ length (or_empty (read_bstring0 b (p + 4)))) (isFirst : q ≡ or_else (p + 4 + len + 1) (aligned (p + 4 + len + 1) 4)) where
    first : q ≡ first_at b p
    unfolding first_at string_length
    first =
        isFirst ∙ ap (λ n. or_else (p + 4 + n + 1) (aligned (p + 4 + n + 1) 4)) isLength
        ∙ aligned_total (p + 4 + length (or_empty (read_bstring0 b (p + 4))) + 1) (omega (arith, h.name_inside, small))

    pub head_props : PropsReady b strings q prow props
    head_props =
        rw first (record { xs = h.xs; here = h.here; room = h.prop_room; few = h.prop_few })

    module _ (next prow' : ℕ) (props' : List ℕ) (wrote : (xs : List Property) → PropsHere b strings q xs → props_state next prow' props' ≡ props_after b strings xs q prow props) where
      own : (xs : List Property) → PropsHere b strings (first_at b p) xs → props_state next prow' props' ≡ props_after b strings xs (first_at b p) prow props
      own = subst (λ q. (xs : List Property) → PropsHere b strings q xs → props_state next prow' props' ≡ props_after b strings xs q prow props) first wrote

      module _ (xs : List Property) (k : PropsHere b strings (first_at b p) xs) where
        next_is : next ≡ after_properties (first_at b p) xs
        unfolding props_state props_after
        next_is = ap (λ (s : PropsState). s.next) (own xs k)

        row_is : prow' ≡ prow + length xs
        unfolding props_state props_after
        row_is = ap (λ (s : PropsState). s.row) (own xs k)

      pub head_up : prow ≤ prow'
      head_up = omega (arith, row_is h.xs h.here)

      pub head_few : prow' - prow < 2 ^ 32
      head_few = omega (arith, row_is h.xs h.here, h.prop_few)

      pub head_done : {token : Token} {child parent row' : ℕ} {nodes' : List ℕ} → token ≡ token_of (or_zero (read_be_u32 b next)) → child ≡ child_row token (row + 1)
          → nodes' ≡ sets nodes (node_width * row) ((p + 4) ∷ len ∷ parent ∷ child ∷ NONE ∷ prow ∷ (prow' - prow) ∷ []) → row' ≡ row + 1
          → (xs : List Property) → PropsHere b strings (first_at b p) xs → HeadDone b strings xs p row prow parent nodes props next row' prow' nodes' props'
      unfolding head_numbers string_length big_endian
      head_done {token} is_token isChild stored row_up xs k =
          let at = next_is xs k in
          let there : next + 4 ≤ length b = omega (arith, at, k.stands.fits) in
          let count : prow' - prow ≡ length xs = omega (arith, row_is xs k) in
          let read : token ≡ token_of (word_at b (after_properties (first_at b p) xs)) = is_token ∙ ap token_of (word_total b next there ∙ ap (word_at b) at) in
          record { own = own xs k; row_is = row_up; stored = stored ∙ rw (isChild, count, isLength, read) }
