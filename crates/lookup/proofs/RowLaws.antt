-- The rows that a table holds, by their places in it, and where a good link leads. Assumes nothing.
use Rattle.std.proofs.Common.{◌≡◌, ◌∙◌, ℕ, zero, suc, ◌+◌, ◌-◌, ◌*◌, ◌%◌, ◌^◌, ◌<◌, ◌≤◌, true, false, eqb, leb, ◌≢◌, List, [], length, length-take, get_or, take, drop, refl, sym, ap, ⊎_elim, arith, get_or-drop, get_or-take, le-ltb, lt-ltb, ne_eqb, eqb-true, le-leb}
use Rattle.std.proofs.Math.Bool.{and-true, and-false}
use borrow.Author.Tests.{eqb-false}
use Rattle.std.specs.Simd.{first_chunks}
use Rattle.format.specs.Choice.{when◌then◌else◌}
use Rattle.format.specs.Bytes.{part}
use Rattle.format.specs.Format.{NONE, node_width, property_width}
use Rattle.format.specs.Rows.{NodeRow, at, property_at, nodes_in, properties_in}
use Rattle.format.specs.Lookup.{link_good, links_good}
use Rattle.format.proofs.Tools.{tested, if_yes, if_no}
use Rattle.format.proofs.Reached.{follows}
use Rattle.lookup.specs.Places.{IsNode, RowsFrom, property_of_numbers}

-- ---- rows by their places

-- row r of a table
unfoldable node_in : List ℕ → ℕ → NodeRow
node_in t r = record {
  name_offset = get_or t (node_width * r) 0;
  name_length = get_or t (node_width * r + 1) 0;
  parent = get_or t (node_width * r + 2) 0;
  first_child = get_or t (node_width * r + 3) 0;
  next_sibling = get_or t (node_width * r + 4) 0;
  first_property = get_or t (node_width * r + 5) 0;
  property_count = get_or t (node_width * r + 6) 0;
}

moved : (t : List ℕ) (w i j : ℕ) → w + i ≡ j → get_or (drop w t) i 0 ≡ get_or t j 0
moved t w i j e = get_or-drop w t i 0 ∙ ap (λ k. get_or t k 0) e

pub nodes_length : (n : ℕ) (t : List ℕ) → length (nodes_in n t) ≡ n
unfolding nodes_in
nodes_length zero t = refl
nodes_length (suc n) t = ap suc (nodes_length n (drop node_width t))

node_shift : (t : List ℕ) (r : ℕ) → node_in (drop node_width t) r ≡ node_in t (suc r)
unfolding node_in node_width
node_shift t r =
    let e₀ = moved t 7 (7 * r) (7 * suc r) (omega arith) in
    let e₁ = moved t 7 (7 * r + 1) (7 * suc r + 1) (omega arith) in
    let e₂ = moved t 7 (7 * r + 2) (7 * suc r + 2) (omega arith) in
    let e₃ = moved t 7 (7 * r + 3) (7 * suc r + 3) (omega arith) in
    let e₄ = moved t 7 (7 * r + 4) (7 * suc r + 4) (omega arith) in
    let e₅ = moved t 7 (7 * r + 5) (7 * suc r + 5) (omega arith) in
    let e₆ = moved t 7 (7 * r + 6) (7 * suc r + 6) (omega arith) in
    cc

node_is : (n : ℕ) (t : List ℕ) (r : ℕ) → r < n → at (nodes_in n t) r ≡ node_in t r
unfolding nodes_in at node_in node_width
node_is zero t r h = absurd (omega arith)
node_is (suc n) t zero h = refl
node_is (suc n) t (suc r) h = node_is n (drop 7 t) r (omega arith) ∙ node_shift t r

pub properties_length : (n : ℕ) (t : List ℕ) → length (properties_in n t) ≡ n
unfolding properties_in
properties_length zero t = refl
properties_length (suc n) t = ap suc (properties_length n (drop property_width t))

-- a number of the table from p on, as it is lent
abbrev from : List ℕ → ℕ → List ℕ
from t p = part t p (length t - p)

from_at : (t : List ℕ) (p i k : ℕ) → k < length t → p + i ≡ k → get_or (from t p) i 0 ≡ get_or t k 0
unfolding part
from_at t p i k h e = get_or-take (length t - p) (drop p t) i 0 (omega arith) ∙ moved t p i k e

-- where `node_at` reads a row's
pub cells : (n : ℕ) (t : List ℕ) (r : ℕ) → r < n → 7 * n ≤ length t
    → IsNode
    (record {
      name = get_or (from t (6 * r)) r 0;
      len = get_or (from t (6 * r)) (r + 1) 0;
      child = get_or (from t (6 * r)) (r + 3) 0;
      next = get_or (from t (2 * r)) (5 * r + 4) 0;
      first = get_or (from t (6 * r)) (r + 5) 0;
      count = get_or (from t (6 * r)) (r + 6) 0;
    })
    (at (nodes_in n t) r)
unfolding node_in node_width
cells n t r h room = rw (node_is n t r h) (record {
  name = from_at t _ _ _ (omega arith) (omega arith);
  len = from_at t _ _ _ (omega arith) (omega arith);
  child = from_at t _ _ _ (omega arith) (omega arith);
  next = from_at t _ _ _ (omega arith) (omega arith);
  first = from_at t _ _ _ (omega arith) (omega arith);
  count = from_at t _ _ _ (omega arith) (omega arith);
})

-- a property row's numbers are the chunk of its number
property_chunk : (k n r : ℕ) (t : List ℕ) → r < k → r < n → property_at (properties_in n t) r ≡ property_of_numbers (get_or (first_chunks 4 k t) r [])
unfolding properties_in property_at property_of_numbers property_width
property_chunk zero n r t h l = absurd (omega arith)
property_chunk (suc k) zero r t h l = absurd (omega arith)
property_chunk (suc k) (suc n) zero t h l =
    let e₀ = get_or-take 4 t 0 0 (omega arith) in
    let e₁ = get_or-take 4 t 1 0 (omega arith) in
    let e₂ = get_or-take 4 t 2 0 (omega arith) in
    let e₃ = get_or-take 4 t 3 0 (omega arith) in
    cc
property_chunk (suc k) (suc n) (suc r) t h l = property_chunk k n r (drop 4 t) (omega arith) (omega arith)

-- the rows of a part of the chunks
pub chunks_from : (t : List ℕ) (k n first count : ℕ) → first + count ≤ n → n ≤ k → {rows : List (List ℕ)} → rows ≡ take count (drop first (first_chunks 4 k t))
    → RowsFrom (properties_in n t) first rows
unfolding RowsFrom
chunks_from t k n first count fits few {rows} e i h =
    let inside : i < count = omega (arith, length-take count (drop first (first_chunks 4 k t)), rw e at h) in
    property_chunk k n (first + i) t (omega arith) (omega arith)
    ∙ ap property_of_numbers (sym (rw e (get_or-take count (drop first (first_chunks 4 k t)) i [] inside ∙ get_or-drop first (first_chunks 4 k t) i [])))

-- ---- links

module _ (R : List NodeRow) where
  -- where a good link leads
  pub leads : (r l : ℕ) → link_good R r l ≡ true → l ≢ NONE → (r < l) × (l < length R)
  leads r l e n = ⊎_elim (λ same. absurd (n same)) (λ k. (k.above, k.inside)) (follows [] R r l e)

  -- a link of a row below none that leads to no later row is bad
  pub back_bad : (r l : ℕ) → r < NONE → l ≤ r → link_good R r l ≡ false
  unfolding link_good
  back_bad r l k h = simp (ne_eqb l NONE (λ e. absurd (omega (arith, k, h, e))), le-ltb r l h)

  -- one to a later row is good if, one more and modulo 2^32, it is within the count: none gives 0
  pub on_good : (r l n : ℕ) → l < 2 ^ 32 → r < l → length R ≡ n → link_good R r l ≡ leb ((l + 1) % 2 ^ 32) n
  unfolding link_good NONE
  on_good r l n h o e =
      tested (eqb l NONE)
      (λ t. let none : (l + 1) % 2 ^ 32 ≡ 0 = omega (arith, eqb-true l NONE t) in simp (t, none, le-leb 0 n (omega arith)))
      (λ t. let some : (l + 1) % 2 ^ 32 ≡ suc l = omega (arith, eqb-false l NONE t) in simp (t, some, lt-ltb r l o, e))

  -- both links, of the numbers read: the next one's judgement, then the other's
  pub next_good : (r l m : ℕ) → l ≡ (at R r).first_child → m ≡ (at R r).next_sibling → link_good R r m ≡ true → links_good R r ≡ link_good R r l
  unfolding links_good
  next_good r l m is js e = rw (← is, ← js, e) (and-true _)

  pub next_bad : (r m : ℕ) → m ≡ (at R r).next_sibling → link_good R r m ≡ false → links_good R r ≡ false
  unfolding links_good
  next_bad r m js e = rw (← js, e) (and-false _)

-- how many rows are ahead of a link
unfoldable pub ahead : ℕ → ℕ → ℕ
ahead n link = when eqb link NONE then 0 else (n - link)

-- fewer from link to link
pub fewer_ahead : (R : List NodeRow) (r l : ℕ) → r ≢ NONE → r < length R → link_good R r l ≡ true → ahead (length R) l < ahead (length R) r
unfolding ahead
fewer_ahead R r l some h e =
    let here : (when eqb r NONE then 0 else (length R - r)) ≡ length R - r = if_no _ _ (ne_eqb r NONE some) in
    tested (eqb l NONE)
    (λ t. let there : (when eqb l NONE then 0 else (length R - l)) ≡ 0 = if_yes _ _ t in omega arith)
    (λ t. let there : (when eqb l NONE then 0 else (length R - l)) ≡ length R - l = if_no _ _ t in
    let k = leads R r l e (eqb-false l NONE t) in
    omega arith)
