-- The rows of the reservation list that are left to store, a turn at a time. Assumes nothing.
use mathlib.Core.Path.{◌≡◌, refl, sym, ap, ◌∙◌}
use mathlib.Core.Logic.{◌≢◌}
use Prim.Native.Nat.{ℕ, suc, ◌+◌, ◌*◌, ◌≤◌}
use native.Mathlib.Omega.{arith}
use mathlib.Core.List.{List, [], ◌∷◌}
use lib.ListN.{length}
use lib.Seq.{sets, length-sets}
use borrow.Author.Tests.{eqb-true, eqb-false}
use Rattle.format.specs.Choice.{when◌then◌else◌}
use Rattle.format.specs.Format.{reservation_width}
use Rattle.format.specs.Answer.{ok, ◌>>=◌, or_zero}
use Rattle.format.specs.Tree.{Reservation}
use Rattle.format.specs.Rules.{size_zero}
use Rattle.format.specs.Read.{read_be_u64, reservation}
use Rattle.format.specs.Rows.{reservation_numbers}
use Rattle.format.proofs.Tools.{if_went}
use Rattle.format.proofs.Answer.{ok_same, step}
use Rattle.format.proofs.Read.{read_inside}
use Rattle.reader.proofs.Outcomes.{or_zero_lem}
use Rattle.survey.specs.Reserve.{listed}
use Rattle.survey.proofs.ReserveLaws.{list_turn}
use Rattle.loader.specs.Store.{StoreReady}

-- what follows the first entry of a list at p
record Later (b : List ℕ) (p : ℕ) (first : Reservation) (rs : List Reservation) : Type 0 where
  later : List Reservation
  is : rs ≡ first ∷ later
  ends : first.size ≡ 0 → later ≡ []
  goes : first.size ≢ 0 → listed b (p + 16) ≡ ok later

-- a list at p by its first entry
record Front (b : List ℕ) (p : ℕ) (rs : List Reservation) : Type 0 where
  first : Reservation
  offset : read_be_u64 b p ≡ ok first.offset
  size : read_be_u64 b (p + 8) ≡ ok first.size
  after : Later b p first rs

-- The list from p on is left to store, from a row on in the table; with it the table is what the list from pos on makes of the first table.
pub record StoreLeft (b : List ℕ) (pos row₀ : ℕ) (table₀ : List ℕ) (p row : ℕ) (table : List ℕ) : Type 0 where
  pub rest : List Reservation
  pub here : listed b p ≡ ok rest
  pub room : reservation_width * (row + length rest) ≤ length table
  pub long : length table ≡ length table₀
  pub same : (rs : List Reservation) → listed b pos ≡ ok rs → sets table (reservation_width * row) (reservation_numbers rest) ≡ sets table₀ (reservation_width * row₀) (reservation_numbers rs)

module _ (b : List ℕ) where
  -- ---- a list that stands there

  later : (p : ℕ) (first : Reservation) (rs : List Reservation)
      → (when size_zero first then ok (first ∷ []) else (listed b (p + 16) >>= λ rest. ok (first ∷ rest))) ≡ ok rs → Later b p first rs
  unfolding size_zero
  later p first rs e =
      if_went _ _ _ e
      (λ t e. record { later = []; is = sym (ok_same e); ends = λ _. refl; goes = λ n. absurd (n (eqb-true _ _ t)) })
      (λ t e. step _ _ e λ rest is_rest e. record { later = rest; is = sym (ok_same e); ends = λ z. absurd (eqb-false _ _ t z); goes = λ _. is_rest })

  front : (p : ℕ) (rs : List Reservation) → listed b p ≡ ok rs → Front b p rs
  unfolding reservation
  front p rs e =
      step _ _ (sym (list_turn b p) ∙ e) λ first isFirst e.
      step _ _ isFirst λ offset isOffset k.
      step _ _ k λ size isSize k.
      record {
        first = first;
        offset = isOffset ∙ ap (λ r. ok r.offset) (ok_same k);
        size = isSize ∙ ap (λ r. ok r.size) (ok_same k);
        after = later p first rs e;
      }

  -- ---- the stores

  pub store_start : (pos row : ℕ) (table : List ℕ) → StoreReady b pos row table → StoreLeft b pos row table pos row table
  store_start pos row table h = record {
    rest = h.rs;
    here = h.here;
    room = h.room;
    long = refl;
    same = λ rs k. ap (λ rs. sets table (reservation_width * row) (reservation_numbers rs)) (ok_same (sym h.here ∙ k));
  }

  module _ {pos row₀ : ℕ} {table₀ : List ℕ} {p row : ℕ} {table : List ℕ} (left : StoreLeft b pos row₀ table₀ p row table) where
    found : Front b p left.rest
    found = front p left.rest left.here

    pub store_inside : p + 16 ≤ length b
    store_inside = omega (arith, read_inside b 8 (p + 8) found.size)

    pub store_room : reservation_width * (row + 1) ≤ length table
    unfolding reservation_width
    store_room = omega (arith, left.room, ap (λ (l : List Reservation). length l) found.after.is)

    -- the row that the code stores is the first of the list
    module _ {offset size : ℕ} (isOffset : offset ≡ or_zero (read_be_u64 b p)) (isSize : size ≡ or_zero (read_be_u64 b (p + 8))) where
      abbrev stored : List ℕ
      stored = sets table (reservation_width * row) (offset ∷ size ∷ [])

      size_is : size ≡ found.first.size
      size_is = isSize ∙ or_zero_lem found.size

      is_first : stored ≡ sets table (reservation_width * row) (found.first.offset ∷ found.first.size ∷ [])
      is_first = rw (isOffset ∙ or_zero_lem found.offset, size_is) refl

      pub store_last : size ≡ 0 → (rs : List Reservation) → listed b pos ≡ ok rs → stored ≡ sets table₀ (reservation_width * row₀) (reservation_numbers rs)
      unfolding reservation_numbers
      store_last e rs k =
          let whole : left.rest ≡ found.first ∷ [] = found.after.is ∙ ap (λ l. found.first ∷ l) (found.after.ends (sym size_is ∙ e)) in
          is_first ∙ ap (λ l. sets table (reservation_width * row) (reservation_numbers l)) (sym whole) ∙ left.same rs k

      pub store_again : size ≢ 0 → {row' : ℕ} {table' : List ℕ} → row' ≡ row + 1 → table' ≡ stored → StoreLeft b pos row₀ table₀ (p + 16) row' table'
      unfolding reservation_numbers reservation_width
      store_again n {table' = table'} up is_stored =
          let kept : length table' ≡ length table = ap length is_stored ∙ length-sets table (reservation_width * row) (offset ∷ size ∷ []) in
          let at : reservation_width * (row + 1) ≡ suc (suc (reservation_width * row)) = omega arith in
          record {
            rest = found.after.later;
            here = found.after.goes (λ e. n (size_is ∙ e));
            room = omega (arith, up, kept, left.room, ap (λ (l : List Reservation). length l) found.after.is);
            long = kept ∙ left.long;
            same = λ rs k. rw (is_stored ∙ is_first, up, at) (ap (λ l. sets table (reservation_width * row) (reservation_numbers l)) (sym found.after.is) ∙ left.same rs k);
          }
