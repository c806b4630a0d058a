-- The loops without their fuel: with the blob's length for fuel, each loop is its own next turn, since every turn passes a byte.
-- What code proofs cite. Assumes nothing.
use Rattle.std.specs.Prelude.{◌≡◌, ℕ, zero, suc, ◌+◌, ◌<◌, ◌≤◌, Bool, eqb, List, [], ◌∷◌, length}
use mathlib.Core.Path.{refl, sym, ap}
use native.Mathlib.Omega.{arith}
use Rattle.format.specs.Choice.{when◌then◌else◌}
use Rattle.format.specs.Format.{BEGIN_NODE, PROP}
use Rattle.format.specs.Answer.{Outcome, ok, refused, unexpected_end_of_input, ◌>>=◌}
use Rattle.format.specs.Tree.{Property, Node, Nodes, none, ◌&◌, Reservation}
use Rattle.format.specs.Encodes.{Block}
use Rattle.format.specs.Read.{read_be_u32, Read, property, properties, nodes, node_load, reservation, reservations}
use Rattle.format.proofs.Tools.{if_went, if_same}
use Rattle.format.proofs.Answer.{never, ok_same, step, then_refused, then_same}
use Rattle.format.proofs.Bytes.{align_up}
use Rattle.format.proofs.Read.{read_past_end}

module _ (b : List ℕ) where
  module _ (strings : Block) where
    pub property_moves_lem : (p : ℕ) (x : Read Property) → property b strings p ≡ ok x → p < x.next
    unfolding property
    property_moves_lem p x e =
        step _ _ e λ size hsize e.
        step _ _ e λ _ _ e.
        step _ _ e λ _ _ e.
        step _ _ e λ _ _ e.
        step _ _ e λ _ _ e.
        rw (← ok_same e) (omega (arith, align_up (p + 12 + size)))

    properties_fuel : (f g p : ℕ) → length b ≤ p + f → length b ≤ p + g → properties b strings f p ≡ properties b strings g p
    unfolding properties
    properties_fuel zero zero p hf hg = refl
    properties_fuel zero (suc g) p hf hg = sym (then_refused _ _ (read_past_end b 4 p (omega arith)))
    properties_fuel (suc f) zero p hf hg = then_refused _ _ (read_past_end b 4 p (omega arith))
    properties_fuel (suc f) (suc g) p hf hg =
        then_same _ _ _ λ token _.
        if_same _ _ _ _ _
        (then_same _ _ _ λ x hx.
        ap (λ m. m >>= λ rest. ok (record { value = x.value ∷ rest.value; next = rest.next }))
        (properties_fuel f g x.next (omega (arith, property_moves_lem p x hx)) (omega (arith, property_moves_lem p x hx))))
        refl

    -- the loop over properties, a turn
    pub properties_turn : (p : ℕ) → properties b strings (length b) p ≡ (read_be_u32 b p >>= λ token.
        when eqb token PROP
        then (property b strings p >>= λ first.
        properties b strings (length b) first.next >>= λ rest.
        ok (record { value = first.value ∷ rest.value; next = rest.next }))
        else ok (record { value = []; next = p }))
    unfolding properties
    properties_turn p = properties_fuel (length b) (suc (length b)) p (omega arith) (omega arith)

    pub properties_move : (f p : ℕ) (xs : Read (List Property)) → properties b strings f p ≡ ok xs → p ≤ xs.next
    unfolding properties
    properties_move zero p xs e = absurd (never e)
    properties_move (suc f) p xs e =
        step _ _ e λ token _ e.
        if_went _ _ _ e
        (λ t e.
        step _ _ e λ x hx e.
        step _ _ e λ rest hrest e.
        rw (← ok_same e) (omega (arith, property_moves_lem p x hx, properties_move f x.next rest hrest)))
        (λ t e. rw (← ok_same e) (omega arith))

  -- ---- nodes, by any reader of one that moves on

  module _ (load : ℕ → Outcome (Read Node)) (moves : (p : ℕ) (r : Read Node) → load p ≡ ok r → p < r.next) where
    nodes_fuel : (f g p : ℕ) → length b ≤ p + f → length b ≤ p + g → nodes b load f p ≡ nodes b load g p
    unfolding nodes
    nodes_fuel zero zero p hf hg = refl
    nodes_fuel zero (suc g) p hf hg = sym (then_refused _ _ (read_past_end b 4 p (omega arith)))
    nodes_fuel (suc f) zero p hf hg = then_refused _ _ (read_past_end b 4 p (omega arith))
    nodes_fuel (suc f) (suc g) p hf hg =
        then_same _ _ _ λ token _.
        if_same _ _ _ _ _
        (then_same _ _ _ λ n hn.
        ap (λ m. m >>= λ rest. ok (record { value = n.value & rest.value; next = rest.next }))
        (nodes_fuel f g n.next (omega (arith, moves p n hn)) (omega (arith, moves p n hn))))
        refl

    nodes_move : (f p : ℕ) (ns : Read Nodes) → nodes b load f p ≡ ok ns → p ≤ ns.next
    unfolding nodes
    nodes_move zero p ns e = absurd (never e)
    nodes_move (suc f) p ns e =
        step _ _ e λ token _ e.
        if_went _ _ _ e
        (λ t e.
        step _ _ e λ n hn e.
        step _ _ e λ rest hrest e.
        rw (← ok_same e) (omega (arith, moves p n hn, nodes_move f n.next rest hrest)))
        (λ t e. rw (← ok_same e) (omega arith))

  pub node_moves_lem : (strings : Block) (d p : ℕ) (r : Read Node) → node_load b strings d p ≡ ok r → p < r.next
  unfolding node_load
  node_moves_lem strings zero p r e = absurd (never e)
  node_moves_lem strings (suc d) p r e =
      step _ _ e λ _ _ e.
      step _ _ e λ _ _ e.
      step _ _ e λ name _ e.
      step _ _ e λ xs hxs e.
      step _ _ e λ ns hns e.
      step _ _ e λ _ _ e.
      step _ _ e λ _ _ e.
      step _ _ e λ _ _ e.
      rw (← ok_same e) (omega (
        arith,
        align_up (p + 4 + length name + 1),
        properties_move strings (length b) _ xs hxs,
        nodes_move (λ q. node_load b strings d q) (λ q s k. node_moves_lem strings d q s k) (length b) xs.next ns hns,
      ))

  -- the loop over children, a turn
  pub nodes_turn : (strings : Block) (d p : ℕ) → nodes b (λ q. node_load b strings d q) (length b) p ≡ (read_be_u32 b p >>= λ token.
      when eqb token BEGIN_NODE
      then (node_load b strings d p >>= λ first.
      nodes b (λ q. node_load b strings d q) (length b) first.next >>= λ rest.
      ok (record { value = first.value & rest.value; next = rest.next }))
      else ok (record { value = none; next = p }))
  unfolding nodes
  nodes_turn strings d p =
      nodes_fuel (λ q. node_load b strings d q) (node_moves_lem strings d) (length b) (suc (length b)) p (omega arith) (omega arith)

  -- ---- reservations

  module _ (is_last : Reservation → Bool) where
    reservation_past_end : (p : ℕ) → length b ≤ p → reservation b p ≡ refused unexpected_end_of_input
    unfolding reservation
    reservation_past_end p h = then_refused _ _ (read_past_end b 8 p (omega arith))

    reservations_fuel : (f g p : ℕ) → length b ≤ p + f → length b ≤ p + g → reservations is_last b f p ≡ reservations is_last b g p
    unfolding reservations
    reservations_fuel zero zero p hf hg = refl
    reservations_fuel zero (suc g) p hf hg = sym (then_refused _ _ (reservation_past_end p (omega arith)))
    reservations_fuel (suc f) zero p hf hg = then_refused _ _ (reservation_past_end p (omega arith))
    reservations_fuel (suc f) (suc g) p hf hg =
        then_same _ _ _ λ r _.
        if_same _ _ _ _ _ refl
        (ap (λ m. m >>= λ rest. ok (r ∷ rest)) (reservations_fuel f g (p + 16) (omega arith) (omega arith)))

    -- the loop over reservations, a turn
    pub reservations_turn : (p : ℕ) → reservations is_last b (length b) p ≡ (reservation b p >>= λ first.
        when is_last first
        then ok (first ∷ [])
        else (reservations is_last b (length b) (p + 16) >>= λ rest. ok (first ∷ rest)))
    unfolding reservations
    reservations_turn p = reservations_fuel (length b) (suc (length b)) p (omega arith) (omega arith)
