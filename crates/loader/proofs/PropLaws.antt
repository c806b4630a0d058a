-- Laws of the writing pass over properties: what the total readers give where a property stands, and the loop that writes one row
-- after another. Assumes nothing.
use mathlib.Core.Path.{◌≡◌, refl, sym, ap, ◌∙◌}
use mathlib.Core.Logic.{◌≢◌}
use Prim.Native.Nat.{ℕ, suc, ◌+◌, ◌*◌, ◌-◌, ◌^◌, ◌≤◌, ◌<◌}
use native.Mathlib.Omega.{arith}
use native.Mathlib.Nat.{add-zero}
use mathlib.Core.List.{List, [], ◌∷◌}
use lib.ListN.{length, take, length-append}
use lib.Seq.{sets, length-sets}
use Rattle.format.specs.Answer.{or_else, or_zero, or_empty}
use Rattle.format.specs.Bytes.{Has, big_endian, word, word_at, align}
use Rattle.format.specs.Format.{PROP, property_width}
use Rattle.format.specs.Tree.{Property}
use Rattle.format.specs.Encodes.{GoodName, GoodProperties, Block, PropertyAt, PropertiesAt, after_property, after_properties}
use Rattle.format.specs.Read.{aligned, read_be_u32, read_bstring0, Read}
use Rattle.format.specs.Rows.{property_row, property_rows, property_numbers}
use Rattle.format.proofs.Answer.{ok_same}
use Rattle.format.proofs.Bytes.{value_is, has_front_of, align_up}
use Rattle.format.proofs.Read.{read_word, read_string}
use Rattle.format.proofs.Complete.{properties_complete}
use Rattle.reader.proofs.Numbers.{word_total}
use Rattle.reader.proofs.Outcomes.{or_zero_lem, or_empty_lem}
use Rattle.reader.proofs.Rounding.{aligned_total}
use Rattle.loader.specs.Pass.{string_length, name_start, name_length, PropReady, prop_numbers, PropsHere, PropsReady, props_after}

-- ---- one property: the numbers that were read are those of its row

module _ {b : List ℕ} {strings : Block} {p row : ℕ} {table : List ℕ} (small : length b < 2 ^ 32) (h : PropReady b strings p row table) where
  prop_size : {size : ℕ} → size ≡ or_zero (read_be_u32 b (p + 4)) → size ≡ word_at b (p + 4)
  prop_size e = e ∙ word_total b (p + 4) (omega (arith, h.inside))

  pub prop_next : {size next : ℕ} → size ≡ or_zero (read_be_u32 b (p + 4)) → next ≡ or_else (p + 12 + size) (aligned (p + 12 + size) 4) → next ≡ align (p + 12 + word_at b (p + 4)) 4
  prop_next e k = k ∙ ap (λ n. or_else (p + 12 + n) (aligned (p + 12 + n) 4)) (prop_size e) ∙ aligned_total (p + 12 + word_at b (p + 4)) (omega (arith, h.inside, small))

  pub prop_name : {offset : ℕ} → offset ≡ or_zero (read_be_u32 b (p + 8)) → strings.start + offset ≡ name_start b strings p
  unfolding name_start
  prop_name e = ap (λ n. strings.start + n) (e ∙ word_total b (p + 8) (omega (arith, h.inside)))

  pub prop_length : {offset len : ℕ} → offset ≡ or_zero (read_be_u32 b (p + 8))
      → len ≡ length (or_empty (read_bstring0 (take strings.end b) (strings.start + offset))) → len ≡ name_length b strings p
  unfolding name_length string_length
  prop_length e k = k ∙ ap (λ n. length (or_empty (read_bstring0 (take strings.end b) n))) (prop_name e)

  pub prop_stored : {size offset len : ℕ} {table' : List ℕ} → size ≡ or_zero (read_be_u32 b (p + 4)) → offset ≡ or_zero (read_be_u32 b (p + 8))
      → len ≡ length (or_empty (read_bstring0 (take strings.end b) (strings.start + offset)))
      → table' ≡ sets table (property_width * row) ((strings.start + offset) ∷ len ∷ (p + 12) ∷ size ∷ [])
      → table' ≡ sets table (property_width * row) (prop_numbers b strings p)
  unfolding prop_numbers
  prop_stored isSize isOffset isLength e = e ∙ rw (prop_name isOffset, prop_length isOffset isLength, prop_size isSize)

-- ---- what stands there

-- a property, as numbers
record PropFacts (b : List ℕ) (strings : Block) (p : ℕ) (x : Property) : Type 0 where
  size_is : word_at b (p + 4) ≡ length x.value
  name_is : name_length b strings p ≡ length x.name
  inside : p + 12 + length x.value < length b
  name_inside : name_start b strings p + length x.name < length b

-- the first of some properties, and the later ones
record PropsMore (b : List ℕ) (strings : Block) (p : ℕ) (xs : List Property) : Type 0 where
  x : Property
  rest : List Property
  is : xs ≡ x ∷ rest
  size_is : length xs ≡ suc (length rest)
  facts : PropFacts b strings p x
  here : PropsHere b strings (after_property p x) rest

-- the token that stands at p is what the total reader gives there
pub token_is : {b : List ℕ} {p n : ℕ} → Has b p (word n) → or_zero (read_be_u32 b p) ≡ n
token_is {b} {p} h = or_zero_lem (read_word b p h)

module _ {b : List ℕ} {strings : Block} where
  prop_facts : {p : ℕ} (x : Property) → GoodName x.name → PropertyAt b strings p x → PropFacts b strings p x
  unfolding name_start name_length string_length
  prop_facts {p} x good at =
      let offset : word_at b (p + 8) ≡ at.offset = value_is b (p + 8) 4 at.offset (omega arith) at.name_offset in
      let fits = rw length-append at (has_front_of b strings.end _ _ at.name).fits in
      record {
        size_is = value_is b (p + 4) 4 (length x.value) (omega arith) at.size;
        name_is = rw offset (ap length (or_empty_lem (read_string (take strings.end b) (strings.start + at.offset) good.nonzero at.name)));
        inside = at.inside;
        name_inside = omega arith;
      }

  prop_row : {p : ℕ} (x : Property) → PropFacts b strings p x → prop_numbers b strings p ≡ property_numbers (property_row b strings.start p x ∷ [])
  unfolding prop_numbers property_numbers property_row name_start
  prop_row x f = rw (f.name_is, f.size_is)

  props_more : {p : ℕ} (xs : List Property) → PropsHere b strings p xs → or_zero (read_be_u32 b p) ≡ PROP → PropsMore b strings p xs
  unfolding GoodProperties PropertiesAt after_properties
  props_more [] h e = absurd (h.other (sym (token_is h.stands) ∙ e))
  props_more (x ∷ xs) h e = record {
    x = x;
    rest = xs;
    is = refl;
    size_is = refl;
    facts = prop_facts x h.good.0 h.at.0;
    here = record { good = h.good.1; at = h.at.1; token = h.token; stands = h.stands; other = h.other };
  }

  props_none : {p : ℕ} (xs : List Property) → PropsHere b strings p xs → or_zero (read_be_u32 b p) ≢ PROP → xs ≡ []
  unfolding PropertiesAt
  props_none [] h n = refl
  props_none (x ∷ xs) h n = absurd (n (token_is h.at.0.token))

  props_inside : {p : ℕ} (xs : List Property) → PropsHere b strings p xs → p + 4 ≤ length b
  unfolding PropertiesAt after_properties big_endian
  props_inside [] h = h.stands.fits
  props_inside (x ∷ xs) h = h.at.0.token.fits

  props_unique : {p : ℕ} {xs ys : List Property} → PropsHere b strings p xs → PropsHere b strings p ys → xs ≡ ys
  props_unique {p} {xs} {ys} h k =
      let e = properties_complete b strings xs (length b) p (omega arith) h.good h.at h.stands h.other in
      let f = properties_complete b strings ys (length b) p (omega arith) k.good k.at k.stands k.other in
      ap (λ (r : Read (List Property)). r.value) (ok_same (sym e ∙ f))

-- ---- what is written

module _ (b : List ℕ) (strings : Block) where
  after_more : (x : Property) (rest : List Property) (p row : ℕ) (table : List ℕ)
      → props_after b strings (x ∷ rest) p row table
      ≡ props_after b strings rest (after_property p x) (row + 1) (sets table (property_width * row) (property_numbers (property_row b strings.start p x ∷ [])))
  unfolding props_after property_rows property_numbers after_properties property_width
  after_more x rest p row table =
      let e : row + suc (length rest) ≡ row + 1 + length rest = omega arith in
      let f : 4 * (row + 1) ≡ suc (suc (suc (suc (4 * row)))) = omega arith in
      rw (e, f)

  after_none : (p row : ℕ) (table : List ℕ) → props_after b strings [] p row table ≡ record { next = p; row = row; table = table }
  unfolding props_after property_rows property_numbers after_properties
  after_none p row table = rw add-zero

  pub after_long : (xs : List Property) (p row : ℕ) (table : List ℕ) → length (props_after b strings xs p row table).table ≡ length table
  unfolding props_after
  after_long xs p row table = length-sets table (property_width * row) (property_numbers (property_rows b strings.start xs p))

-- ---- the loop over properties: what is left to write from p on leaves what writing from pos on leaves

pub record PropsInv (b : List ℕ) (strings : Block) (pos row : ℕ) (table₀ : List ℕ) (p r : ℕ) (table : List ℕ) : Type 0 where
  pub rest : List Property
  pub here : PropsHere b strings p rest
  pub room : property_width * (r + length rest) ≤ length table
  pub few : r + length rest < 2 ^ 32
  pub same : (xs : List Property) → PropsHere b strings pos xs → props_after b strings rest p r table ≡ props_after b strings xs pos row table₀

module _ {b : List ℕ} {strings : Block} {pos row : ℕ} {table₀ : List ℕ} where
  pub props_start : PropsReady b strings pos row table₀ → PropsInv b strings pos row table₀ pos row table₀
  props_start h = record {
    rest = h.xs;
    here = h.here;
    room = h.room;
    few = h.few;
    same = λ xs k. ap (λ ys. props_after b strings ys pos row table₀) (props_unique h.here k);
  }

  module _ {p r : ℕ} {table : List ℕ} (inv : PropsInv b strings pos row table₀ p r table) where
    pub props_end : or_zero (read_be_u32 b p) ≢ PROP → (xs : List Property) → PropsHere b strings pos xs
        → record { next = p; row = r; table = table } ≡ props_after b strings xs pos row table₀
    props_end n xs k =
        sym (after_none b strings p r table) ∙ ap (λ ys. props_after b strings ys p r table) (sym (props_none inv.rest inv.here n)) ∙ inv.same xs k

    module _ (token : or_zero (read_be_u32 b p) ≡ PROP) where
      more : PropsMore b strings p inv.rest
      more = props_more inv.rest inv.here token

      pub props_ready : PropReady b strings p r table
      unfolding property_width
      props_ready =
          let facts = more.facts in
          record {
            inside = omega (arith, facts.size_is, facts.inside);
            name_inside = omega (arith, facts.name_is, facts.name_inside);
            room = omega (arith, inv.room, more.size_is);
          }

      module _ {q : ℕ} (next : q ≡ align (p + 12 + word_at b (p + 4)) 4) where
        pub props_less : length b + 4 - q < length b + 4 - p
        props_less = omega (arith, props_inside inv.rest inv.here, align_up (p + 12 + word_at b (p + 4)))

        after : after_property p more.x ≡ q
        unfolding after_property
        after = sym (next ∙ ap (λ n. align (p + 12 + n) 4) more.facts.size_is)

        pub props_again : {r' : ℕ} {table' : List ℕ} → r' ≡ r + 1 → table' ≡ sets table (property_width * r) (prop_numbers b strings p) → PropsInv b strings pos row table₀ q r' table'
        props_again {r'} {table'} up e =
            let stored : sets table (property_width * r) (property_numbers (property_row b strings.start p more.x ∷ [])) ≡ table' =
            sym (e ∙ ap (sets table (property_width * r)) (prop_row more.x more.facts)) in
            let long : length table' ≡ length table = ap length e ∙ length-sets table (property_width * r) (prop_numbers b strings p) in
            let left : r + length inv.rest ≡ r' + length more.rest = omega (arith, up, more.size_is) in
            record {
              rest = more.rest;
              here = rw after at more.here;
              room = rw (long, ← left) inv.room;
              few = rw (← left) inv.few;
              same = λ xs k.
                  rw (← after, up, ← stored) (sym (after_more b strings more.x more.rest p r table))
                  ∙ ap (λ ys. props_after b strings ys p r table) (sym more.is) ∙ inv.same xs k;
            }
