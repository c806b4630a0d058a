-- Laws of bytes at positions: numbers and their big-endian bytes, what stands at a position, rounding up. Assumes nothing.
use Rattle.std.specs.Prelude.{◌≡◌, ℕ, zero, suc, ◌+◌, ◌-◌, ◌*◌, ◌/◌, ◌%◌, ◌^◌, ◌<◌, ◌≤◌, List, [], ◌∷◌, ◌++◌, length, take, drop}
use mathlib.Core.Path.{refl, sym, ap, ◌∙◌}
use native.Mathlib.Omega.{arith}
use native.Mathlib.Decide.{ℕ_discrete}
use native.Mathlib.Nat.{le_trans, mul_assoc, one-mul, mul-le-mul_right, pow-succ', add-zero, mod-lt, mod_self, mod-eq_of_lt, sub-zero, mod-add-mod}
use mathlib.Core.List.{append_assoc, append-nil}
use lib.ListN.{length-append, length-take, length-drop, take-append-drop}
use lib.Seq.{take-append_seam, length-take-le, drop-append-le}
use Rattle.format.specs.Bytes.{part, Has, big_endian, number, value_at, align, AreBytes, Below}

-- ---- numbers and their bytes, at every width

pub number_append : (high : ℕ) (xs ys : List ℕ) → number high (xs ++ ys) ≡ number (number high xs) ys
unfolding number
number_append high [] ys = refl
number_append high (x ∷ xs) ys = number_append (high * 256 + x) xs ys

-- the bytes of a number stand for it
pub number_bytes : (k n : ℕ) → 0 < k → number 0 (big_endian k n) ≡ n
unfolding big_endian number
number_bytes zero n h = absurd (omega arith)
number_bytes (suc zero) n h = omega arith
number_bytes (suc (suc k)) n h =
    number_append 0 (big_endian (suc k) (n / 256)) (n % 256 ∷ []) ∙ ap (λ m. m * 256 + n % 256) (number_bytes (suc k) (n / 256) (omega arith)) ∙ omega arith

pub length_bytes : (k n : ℕ) → length (big_endian k n) ≡ k
unfolding big_endian
length_bytes zero n = refl
length_bytes (suc zero) n = refl
length_bytes (suc (suc k)) n = length-append (big_endian (suc k) (n / 256)) _ ∙ rw (length_bytes (suc k) (n / 256)) (omega arith)

last_byte : (j high x : ℕ) → x < 256 → big_endian (suc (suc j)) (high * 256 + x) ≡ big_endian (suc j) high ++ x ∷ []
unfolding big_endian
last_byte j high x h =
    let q : (high * 256 + x) / 256 ≡ high = omega arith in
    let r : (high * 256 + x) % 256 ≡ x = omega arith in
    rw (q, r)

-- bytes after those of a number `high`
bytes_after : (j high : ℕ) (xs : List ℕ) → Below 256 xs → big_endian (length xs + suc j) (number high xs) ≡ big_endian (suc j) high ++ xs
unfolding number Below
bytes_after j high [] all = ap (λ k. big_endian k high) (omega arith) ∙ sym (append-nil _)
bytes_after j high (x ∷ xs) all =
    let e : suc (length xs) + suc j ≡ length xs + suc (suc j) = omega arith in
    ap (λ k. big_endian k (number (high * 256 + x) xs)) e
    ∙ bytes_after (suc j) (high * 256 + x) xs all.1
    ∙ ap (λ l. l ++ xs) (last_byte j high x all.0)
    ∙ append_assoc (big_endian (suc j) high) (x ∷ []) xs

-- bytes are the bytes of the number that they stand for
pub bytes_number : (xs : List ℕ) → Below 256 xs → 0 < length xs → big_endian (length xs) (number 0 xs) ≡ xs
unfolding number Below big_endian
bytes_number [] all h = absurd (omega arith)
bytes_number (x ∷ xs) all h =
    let e : suc (length xs) ≡ length xs + 1 = omega arith in
    let z : 0 * 256 + x ≡ x = omega arith in
    ap (λ k. big_endian k (number (0 * 256 + x) xs)) e ∙ bytes_after 0 (0 * 256 + x) xs all.1 ∙ rw (big_endian, z)

-- and that number is small
pub number_small : (high : ℕ) (xs : List ℕ) → Below 256 xs → number high xs < (high + 1) * 256 ^ length xs
unfolding number Below
number_small high [] all = omega arith
number_small high (x ∷ xs) all =
    let m : (high * 256 + x + 1) * 256 ^ length xs ≤ ((high + 1) * 256) * 256 ^ length xs = mul-le-mul_right (256 ^ length xs) (omega (arith, all.0)) in
    let e : (high + 1) * 256 ^ suc (length xs) ≡ ((high + 1) * 256) * 256 ^ length xs = ap (λ k. (high + 1) * k) (pow-succ' 256 (length xs)) ∙ sym (mul_assoc (high + 1) 256 (256 ^ length xs)) in
    rw e (le_trans (number_small (high * 256 + x) xs all.1) m)

-- ---- the bytes of a blob

bytes_below : (l : List ℕ) → AreBytes l → Below 256 l
unfolding AreBytes Below
bytes_below [] all = tt
bytes_below (x ∷ l) all = (all 0, bytes_below l (λ i. all (suc i)))

below_take : (n k : ℕ) (l : List ℕ) → Below n l → Below n (take k l)
unfolding Below
below_take n zero l h = tt
below_take n (suc k) [] h = tt
below_take n (suc k) (x ∷ l) h = (h.0, below_take n k l h.1)

below_drop : (n k : ℕ) (l : List ℕ) → Below n l → Below n (drop k l)
unfolding Below
below_drop n zero l h = h
below_drop n (suc k) [] h = tt
below_drop n (suc k) (x ∷ l) h = below_drop n k l h.1

pub below_append : (n : ℕ) (xs ys : List ℕ) → Below n xs → Below n ys → Below n (xs ++ ys)
unfolding Below
below_append n [] ys h k = k
below_append n (x ∷ xs) ys h k = (h.0, below_append n xs ys h.1 k)

pub part_below : (b : List ℕ) (p k : ℕ) → AreBytes b → Below 256 (part b p k)
unfolding part
part_below b p k all = below_take 256 k (drop p b) (below_drop 256 p b (bytes_below b all))

pub part_length : (b : List ℕ) (p k : ℕ) → p + k ≤ length b → length (part b p k) ≡ k
unfolding part
part_length b p k h = length-take-le k (drop p b) (rw length-drop (omega arith))

module _ (b : List ℕ) where
  -- the bytes that stand at p, and those after them
  pub has_rest : (p : ℕ) {xs : List ℕ} → Has b p xs → drop p b ≡ xs ++ drop (length xs) (drop p b)
  unfolding part
  has_rest p {xs} h = sym (take-append-drop (length xs) (drop p b)) ∙ rw h.same

  pub has_front : (p : ℕ) (xs rest : List ℕ) → 0 < length xs → drop p b ≡ xs ++ rest → Has b p xs
  unfolding part
  has_front p xs rest pos e =
      let sizes = simp (length-drop, length-append) at (ap length e) in
      record { fits = omega arith; same = rw e (take-append_seam xs rest) }

-- the front of what stands there
pub has_left : (b : List ℕ) (p : ℕ) (xs ys : List ℕ) → Has b p (xs ++ ys) → part b p (length xs) ≡ xs
unfolding part
has_left b p xs ys h = rw (has_rest b p h, append_assoc) (take-append_seam xs _)

-- what stands in the front of a blob stands in the blob
pub has_front_of : (b : List ℕ) (e p : ℕ) (xs : List ℕ) → Has (take e b) p xs → Has b p xs
unfolding part
has_front_of b e p xs h =
    let whole : drop p b ≡ (xs ++ drop (length xs) (drop p (take e b))) ++ drop e b =
    ap (drop p) (sym (take-append-drop e b)) ∙ drop-append-le p (take e b) (drop e b) (omega (arith, h.fits)) ∙ ap (λ l. l ++ drop e b) (has_rest (take e b) p h) in
    record {
      fits = omega (arith, h.fits, length-take e b);
      same = ap (take (length xs)) (whole ∙ append_assoc xs _ _) ∙ take-append_seam xs _;
    }

-- the number that bytes at p stand for
pub value_is : (b : List ℕ) (p k n : ℕ) → 0 < k → Has b p (big_endian k n) → value_at k b p ≡ n
unfolding value_at
value_is b p k n pos h = ap (number 0) (rw (length_bytes k n) at h.same) ∙ number_bytes k n pos

-- k bytes of a blob are the bytes of their number
pub value_stands : (b : List ℕ) (p k : ℕ) → AreBytes b → 0 < k → p + k ≤ length b → Has b p (big_endian k (value_at k b p))
unfolding value_at
value_stands b p k all pos fits =
    let size = part_length b p k fits in
    let same : big_endian k (number 0 (part b p k)) ≡ part b p k = rw size at (bytes_number (part b p k) (part_below b p k all) (rw size pos)) in
    record { fits = rw (length_bytes k (number 0 (part b p k))) fits; same = rw (length_bytes k (number 0 (part b p k))) (sym same) }

pub value_small : (b : List ℕ) (p k : ℕ) → AreBytes b → p + k ≤ length b → value_at k b p < 256 ^ k
unfolding value_at
value_small b p k all fits = omega (arith, rw (part_length b p k fits) at (number_small 0 (part b p k) (part_below b p k all)), one-mul (256 ^ k))

-- ---- rounding up

-- `align` gives the least multiple from `val` on
pub record RoundedUp (val to r : ℕ) : Type 0 where
  pub multiple : r % to ≡ 0
  pub above : val ≤ r
  pub near : r < val + to

pub align_same : (val to : ℕ) → val % to ≡ 0 → align val to ≡ val
unfolding align
align_same val to e = simp (e, sub-zero, mod_self, add-zero)

pub align_more : (val to : ℕ) → 0 < to → (val % to ≡ 0 → ⊥) → align val to ≡ val + (to - val % to)
unfolding align
align_more val to h n =
    let l : val % to < to = mod-lt val h in
    let m : to - val % to < to = omega (arith, n) in
    simp (mod-eq_of_lt m)

pub align_rounds : (val to : ℕ) → 0 < to → RoundedUp val to (align val to)
align_rounds val to pos = elim (ℕ_discrete (val % to) 0) [
  | yes e ↦ rw (align_same val to e) (record { multiple = e; above = omega arith; near = omega arith })
  | no n ↦ rw (align_more val to pos n) (record { multiple = whole; above = omega arith; near = omega (arith, n) })
]
  where
    less : val % to < to
    less = mod-lt val pos

    -- val is its remainder and a multiple, so what is added makes it a multiple
    whole : (val + (to - val % to)) % to ≡ 0
    whole =
        let e : val % to + (to - val % to) ≡ to = omega (arith, less) in
        sym (mod-add-mod val to (to - val % to)) ∙ ap (λ k. k % to) e ∙ mod_self to

pub align_up : (p : ℕ) → p ≤ align p 4
unfolding align
align_up p = omega arith

pub align_near : (p : ℕ) → align p 4 < p + 4
unfolding align
align_near p = omega arith
