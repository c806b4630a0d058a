-- Comparing names, a byte and a word at a time, and the first name of a path. Assumes, for words, that the elements are bytes.
use mathlib.Core.Path.{◌≡◌, refl, sym, ap, ◌∙◌}
use mathlib.Core.Logic.{◌≢◌}
use Prim.Native.Nat.{ℕ, zero, suc, ◌+◌, ◌-◌, ◌*◌, ◌/◌, ◌≤◌, ◌<◌}
use native.Mathlib.Omega.{arith}
use native.Mathlib.Nat.{add-zero}
use native.Mathlib.Numerals.{add-one}
use mathlib.Core.List.{List, [], ◌∷◌}
use mathlib.Core.Bool.{true, false, ◌&&◌, not, cond}
use lib.ListN.{length, drop, get_or}
use lib.Seq.{drop-cons, ext_get_or}
use lib.Dec.{eqb, ltb}
use lib.Pointwise.{pointwise}
use borrow.Author.Tests.{eqb-true, eqb-false, eq-eqb, ne_eqb}
use mir.Syntax.{w8}
use mir.Val.{Fits}
use Rattle.std.specs.Prelude.{slice_index}
use Rattle.std.specs.List.{position, position_or_len}
use Rattle.std.specs.Option.{unwrap_or}
use Rattle.std.specs.Simd.{first_chunks}
use Rattle.std.specs.declared.option.Option.TheVariants.{Some, None}
use Rattle.std.proofs.lemmas.Bool.{ltb-false}
use Rattle.std.proofs.lemmas.List.{get_or-take, get_or-drop}
use Rattle.std.proofs.lemmas.List.Sums.{prefix_len-le-length}
use Rattle.format.specs.Bytes.{AreBytes}
use Rattle.format.specs.Choice.{when◌then◌else◌}
use Rattle.format.specs.Find.{SLASH, head, same}
use Rattle.format.proofs.Tools.{split, tested, if_no}
use Rattle.format.proofs.Names.{same_is}
use Rattle.names.specs.Words.{lowest, Scan}

-- ---- the same bytes

same_self : (xs : List ℕ) → same xs xs ≡ true
unfolding same
same_self [] = refl
same_self (x ∷ xs) = rw (eq-eqb x x refl, same_self xs)

-- `==` of slices
pub pairs_same : (xs ys : List ℕ) → pointwise eqb xs ys ≡ same xs ys
unfolding same
pairs_same [] [] = refl
pairs_same [] (y ∷ ys) = refl
pairs_same (x ∷ xs) [] = refl
pairs_same (x ∷ xs) (y ∷ ys) = ap (λ r. eqb x y && r) (pairs_same xs ys)

unequal : (xs ys : List ℕ) → (xs ≡ ys → ⊥) → same xs ys ≡ false
unequal xs ys n = tested (same xs ys) (λ e. absurd (n (same_is xs ys e))) (λ e. e)

-- what a `&[u8]` brings with it
pub lent_bytes : (s : List ℕ) → ((k : ℕ) → Fits w8 (slice_index s k)) → AreBytes s
unfolding AreBytes
lent_bytes s fits k = (fits k).fits

module _ (s t : List ℕ) where
  pub length_differs : length s ≢ length t → false ≡ same s t
  length_differs d = sym (unequal s t (λ e. d (ap length e)))

  -- every byte from i on is the same
  abbrev pub Alike : ℕ → Type 0
  Alike i = (k : ℕ) → i ≤ k → k < length s → get_or s k 0 ≡ get_or t k 0

  pub alike_same : length s ≡ length t → Alike 0 → true ≡ same s t
  alike_same size all =
      let e : s ≡ t = ext_get_or 0 s t size (λ i h. all i (omega arith) h) in
      sym (rw e (same_self t))

  -- ---- a word at a time

  -- words that are the same have the same bytes, and the other way round
  record Fours (p : ℕ) : Type 0 where
    first : get_or s p 0 ≡ get_or t p 0
    second : get_or s (p + 1) 0 ≡ get_or t (p + 1) 0
    third : get_or s (p + 2) 0 ≡ get_or t (p + 2) 0
    fourth : get_or s (p + 3) 0 ≡ get_or t (p + 3) 0

  fours : (p : ℕ) → AreBytes s → AreBytes t → lowest s p ≡ lowest t p → Fours p
  unfolding AreBytes lowest
  fours p bs bt e = omega (arith, bs p, bs (p + 1), bs (p + 2), bs (p + 3), bt p, bt (p + 1), bt (p + 2), bt (p + 3))

  four_alike : (p : ℕ) → Fours p → (j : ℕ) → j < 4 → get_or s (p + j) 0 ≡ get_or t (p + j) 0
  four_alike p each zero h = rw (add-zero p) each.first
  four_alike p each (suc zero) h = each.second
  four_alike p each (suc (suc zero)) h = each.third
  four_alike p each (suc (suc (suc zero))) h = each.fourth
  four_alike p each (suc (suc (suc (suc j)))) h = absurd (omega arith)

  pub word_alike : AreBytes s → AreBytes t → (i : ℕ) → lowest s i ≡ lowest t i → Alike (i + 4) → Alike i
  word_alike bs bt i e all k lo l = split (i + 4) k (λ g. all k g l) (λ g.
      let x : i + (k - i) ≡ k = omega arith in
      rw x at (four_alike i (fours i bs bt e) (k - i) (omega arith)))

  -- the words that the code has read are the same
  pub read_alike : ((k : ℕ) → Fits w8 (slice_index s k)) → ((k : ℕ) → Fits w8 (slice_index t k)) → (i : ℕ) {v w : ℕ}
      → v ≡ lowest s i → v ≡ w → w ≡ lowest t i → Alike (i + 4) → Alike i
  read_alike fs ft i p e q all = word_alike (lent_bytes s fs) (lent_bytes t ft) i (sym p ∙ e ∙ q) all

  pub word_differs : (i : ℕ) → lowest s i ≢ lowest t i → false ≡ same s t
  word_differs i d = sym (unequal s t (λ e. d (ap (λ l. lowest l i) e)))

  -- all but the first word is the same
  pub first_word : AreBytes s → AreBytes t → length s ≡ length t → Alike 4 → eqb (lowest s 0) (lowest t 0) ≡ same s t
  first_word bs bt size all =
      tested (eqb (lowest s 0) (lowest t 0))
      (λ e. e ∙ alike_same size (word_alike bs bt 0 (eqb-true _ _ e) all))
      (λ e. e ∙ word_differs 0 (eqb-false _ _ e))

-- ---- the first name of a path, a word at a time

pub scan_start : (p : List ℕ) → Scan p 0
scan_start p = record { inside = omega arith; first = omega arith }

-- what follows i begins with the byte there
first_goes_on : (p : List ℕ) (i : ℕ) → i < length p → get_or p i 0 ≢ 0x2f → head (drop i p) ≡ get_or p i 0 ∷ head (drop (i + 1) p)
unfolding head SLASH
first_goes_on p i h d = rw (add-one i, drop-cons p i 0 h) (if_no _ _ (ne_eqb (get_or p i 0) 0x2f d))

scan_more : (p : List ℕ) (i : ℕ) → Scan p i → i < length p → get_or p i 0 ≢ 0x2f → Scan p (i + 1)
scan_more p i x h d = record { inside = omega arith; first = omega (arith, x.first, ap length (first_goes_on p i h d)) }

-- n bytes without a slash
scan_bytes : (p : List ℕ) (i n : ℕ) → i + n ≤ length p → ((j : ℕ) → j < n → get_or p (i + j) 0 ≢ 0x2f) → Scan p i → Scan p (i + n)
scan_bytes p i zero h none x = rw (add-zero i) x
scan_bytes p i (suc n) h none x =
    let e : i + suc n ≡ i + n + 1 = omega arith in
    rw e (scan_more p (i + n) (scan_bytes p i n (omega arith) (λ j l. none j (omega arith)) x) (omega arith) (none n (omega arith)))

-- a byte of a word is the path's
word_byte : (k : ℕ) (p : List ℕ) (i j : ℕ) → i < k → j < 4 → get_or (get_or (first_chunks 4 k p) i []) j 0 ≡ get_or p (i * 4 + j) 0
word_byte zero p i j h g = absurd (omega arith)
word_byte (suc k) p zero j h g = let e : 0 * 4 + j ≡ j = omega arith in rw e (get_or-take 4 p j 0 g)
word_byte (suc k) p (suc i) j h g =
    let e : 4 + (i * 4 + j) ≡ suc i * 4 + j = omega arith in
    word_byte k (drop 4 p) i j (omega arith) g ∙ get_or-drop 4 p (i * 4 + j) 0 ∙ ap (λ n. get_or p n 0) e

pub scan_word : (p : List ℕ) (words : List (List ℕ)) (i : ℕ) → words ≡ first_chunks 4 (length p / 4) p → i < length p / 4
    → ((j : ℕ) → j < 4 → slice_index (get_or words i []) j ≢ 0x2f) → Scan p (i * 4) → Scan p ((i + 1) * 4)
scan_word p words i e h none x =
    let next : (i + 1) * 4 ≡ i * 4 + 4 = omega arith in
    let same : (j : ℕ) → j < 4 → get_or (get_or words i []) j 0 ≡ get_or p (i * 4 + j) 0
    = λ j g. ap (λ l. get_or (get_or l i []) j 0) e ∙ word_byte (length p / 4) p i j h g in
    rw next (scan_bytes p (i * 4) 4 (omega arith) (λ j g q. none j g (same j g ∙ q)) x)

-- ---- the first name of a path

-- its length is the place of the first slash, or the path's length
name_length : (p : List ℕ) → position_or_len (λ x. eqb x 0x2f) p ≡ length (head p)
unfolding head SLASH when◌then◌else◌
name_length [] = refl
name_length (c ∷ s) = tested (eqb c 0x2f) (λ e. rw e) (λ e. rw e (omega (arith, name_length s)))

pub head_inside : (p : List ℕ) → length (head p) ≤ length p
head_inside p = rw name_length at (prefix_len-le-length (λ x. not (eqb x 0x2f)) p)

place_or_end : (i n : ℕ) → i ≤ n → unwrap_or (cond (ltb i n) (Some i) None) n ≡ i
place_or_end i n h = tested (ltb i n) (λ e. rw e) (λ e. rw e (omega (arith, ltb-false i n e)))

-- what `position` gives, or else the path's length
pub slash_or_end : (p : List ℕ) → unwrap_or (position (λ x. eqb x 0x2f) p) (length p) ≡ length (head p)
slash_or_end p = place_or_end _ _ (prefix_len-le-length (λ x. not (eqb x 0x2f)) p) ∙ name_length p
