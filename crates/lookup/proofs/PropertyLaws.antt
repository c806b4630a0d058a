-- Looking up a property, a row at a time, and `prop_raw` by cases. Assumes nothing.
use Rattle.std.proofs.Common.{◌≡◌, ℕ, suc, ◌+◌, ◌-◌, ◌/◌, ◌<◌, ◌≤◌, true, false, leb, List, [], length, length-drop, get_or, take, drop, leb-true, sym, refl, ap, ◌∙◌, arith, le-leb}
use borrow.Author.Tests.{lt-leb}
use lib.Seq.{length-take-le}
use Rattle.std.specs.Simd.{first_chunks}
use Rattle.format.specs.Answer.{Outcome, ok, refused, Span, nothing_found, not_usable}
use Rattle.format.specs.Bytes.{part}
use Rattle.format.specs.Format.{property_width}
use Rattle.format.specs.Rows.{PropertyRow, at, property_at, nodes_in, properties_in}
use Rattle.format.specs.Load.{capacity}
use Rattle.format.specs.Find.{same}
use Rattle.format.specs.Lookup.{Lent, usable, parts_inside, property_name, value_span, among, properties_inside, property_of, prop_raw, has_prop}
use Rattle.format.proofs.Tools.{if_yes, if_no}
use Rattle.format.proofs.Answer.{then_ok, then_refused, check_ok, check_no}
use Rattle.lookup.specs.Answers.{lent}
use Rattle.lookup.specs.Places.{IsNode, RowsFrom, property_of_numbers}
use Rattle.lookup.specs.declared.judge.NodeCells.{NodeCells}
use Rattle.lookup.proofs.RowLaws.{properties_length, chunks_from}

-- ---- a turn: the property rows from number i on, of those that are lent, which are rows of P from number `first` on

module _ (b name : List ℕ) (P : List PropertyRow) (first : ℕ) (rows : List (List ℕ)) (all : RowsFrom P first rows) (i : ℕ) where
  abbrev left : Outcome Span
  left = among b P (length rows - i) (first + i) name

  pub none_left : length rows ≤ i → refused nothing_found ≡ left
  unfolding among
  none_left h = let e : length rows - i ≡ 0 = omega arith in rw e

  module _ (h : i < length rows) where
    abbrev number : ℕ → ℕ
    number k = get_or (get_or rows i []) k 0

    row : property_at P (first + i) ≡ record { name_offset = number 0; name_length = number 1; value_offset = number 2; value_length = number 3 }
    unfolding RowsFrom property_of_numbers
    row = all i h

    one_more : length rows - i ≡ suc (length rows - (i + 1))
    one_more = omega arith

    pub bad_name : leb (number 0 + number 1) (length b) ≡ false → refused not_usable ≡ left
    unfolding among parts_inside
    bad_name e = rw one_more (sym (if_no _ _ (rw (row, e))))

    module _ (e : leb (number 0 + number 1) (length b) ≡ true) where
      pub bad_value : leb (number 2 + number 3) (length b) ≡ false → refused not_usable ≡ left
      unfolding among parts_inside
      bad_value f = rw one_more (sym (if_no _ _ (rw (row, e, f))))

      module _ (f : leb (number 2 + number 3) (length b) ≡ true) where
        inside : parts_inside b P (first + i) ≡ true
        unfolding parts_inside
        inside = rw (row, e, f)

        named : property_name b P (first + i) ≡ part b (number 0) (number 1)
        unfolding property_name
        named = rw row

        value : value_span P (first + i) ≡ record { offset = number 2; size = number 3 }
        unfolding value_span
        value = rw row

        pub found_here : same (part b (number 0) (number 1)) name ≡ true → ok (record { offset = number 2; size = number 3 }) ≡ left
        unfolding among
        found_here g = rw one_more (sym (if_yes _ _ inside ∙ if_yes _ _ (rw named g) ∙ ap ok value))

        pub goes_on : same (part b (number 0) (number 1)) name ≡ false → left ≡ among b P (length rows - (i + 1)) (first + (i + 1)) name
        unfolding among
        goes_on g =
            let next : first + i + 1 ≡ first + (i + 1) = omega arith in
            rw one_more (if_yes _ _ inside ∙ if_no _ _ (rw named g) ∙ ap (λ k. among b P (length rows - (i + 1)) k name) next)

-- ---- the whole

module _ (b nodes : List ℕ) (n : ℕ) (props : List ℕ) (m row : ℕ) (name : List ℕ) where
  abbrev goal : Outcome Span
  goal = prop_raw b (lent nodes n props m) row name

  pub raw_unusable : usable nodes n row ≡ false → refused not_usable ≡ goal
  unfolding prop_raw lent
  raw_unusable u = sym (then_refused _ _ (check_no _ (rw u)))

  module _ (u : usable nodes n row ≡ true) where
    pub raw_many : length props / 4 < m → refused not_usable ≡ goal
    unfolding prop_raw lent capacity property_width
    raw_many l = sym (then_refused _ _ (check_no _ (rw (u, lt-leb m (length props / 4) l))))

    module _ (l : m ≤ length props / 4) (x : NodeCells) (is : IsNode x (at (nodes_in n nodes) row)) where
      raw_is : goal ≡ property_of b (nodes_in n nodes) (properties_in m props) row name
      unfolding prop_raw lent capacity property_width
      raw_is = then_ok _ _ (check_ok _ (rw (u, le-leb m (length props / 4) l))) refl

      pub raw_past : leb (x.first + x.count) m ≡ false → refused not_usable ≡ goal
      unfolding property_of properties_inside
      raw_past e = sym (raw_is ∙ then_refused _ _ (check_no _ (rw (← is.first, ← is.count, properties_length, e))))

      module _ (e : leb (x.first + x.count) m ≡ true) (chunks : List (List ℕ)) (are : chunks ≡ first_chunks 4 (length props / 4) props) (size : length chunks ≡ length props / 4) where
        abbrev own : List (List ℕ)
        own = take (x.first + x.count - x.first) (drop x.first chunks)

        fits : x.first + x.count ≤ m
        fits = leb-true _ _ e

        -- the node's own rows, as they are lent
        pub raw_rows : RowsFrom (properties_in m props) x.first own
        raw_rows = chunks_from props (length props / 4) m x.first (x.first + x.count - x.first) (omega (arith, fits)) l (ap (λ s. take (x.first + x.count - x.first) (drop x.first s)) are)

        own_length : length own ≡ x.count
        own_length = length-take-le (x.first + x.count - x.first) (drop x.first chunks) (rw length-drop (omega (arith, fits, size, l))) ∙ omega arith

        pub raw_among : among b (properties_in m props) (length own) x.first name ≡ goal
        unfolding property_of properties_inside
        raw_among = sym (raw_is ∙ then_ok _ _ (check_ok _ (rw (← is.first, ← is.count, properties_length, e))) (rw (← is.first, ← is.count, own_length)))

-- ---- whether there is one

pub has_it : (b : List ℕ) (l : Lent) (row : ℕ) (name : List ℕ) {s : Span} → ok s ≡ prop_raw b l row name → ok tt ≡ has_prop b l row name
unfolding has_prop
has_it b l row name e = sym (then_ok _ _ (sym e) refl)
