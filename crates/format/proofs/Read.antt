-- Each reader gives its answer exactly where the bytes stand. Assumes nothing but, where it is named, that the blob's elements are bytes.
use Rattle.std.specs.Prelude.{◌≡◌, ℕ, zero, suc, ◌+◌, ◌-◌, ◌<◌, ◌≤◌, List, [], ◌∷◌, ◌++◌, length, drop}
use mathlib.Core.Path.{refl, sym, ap, ◌∙◌, subst}
use native.Mathlib.Omega.{arith}
use mathlib.Core.List.{append_assoc}
use lib.ListN.{length-append, length-drop}
use lib.Seq.{length-take-le}
use borrow.Author.Tests.{leb-true, ltb-true, le-leb, lt-leb, lt-ltb}
use Rattle.format.specs.Bytes.{part, Has, big_endian, word, long, value_at, AreBytes, NoZero}
use Rattle.format.specs.Answer.{unexpected_end_of_input, ok, refused}
use Rattle.format.specs.Read.{read_be, read_be_u32, read_be_u64, until_zero, read_bstring0, subslice}
use Rattle.format.proofs.Answer.{never, ok_same, step, then_ok, then_refused, check_ok, check_no, checked}
use Rattle.format.proofs.Bytes.{length_bytes, value_is, value_stands, has_rest, has_front}

-- ---- numbers, at every width

module _ (b : List ℕ) (k p : ℕ) where
  pub read_there : p + k ≤ length b → read_be k b p ≡ ok (value_at k b p)
  unfolding read_be
  read_there h = then_ok _ _ (check_ok _ (le-leb (p + k) (length b) h)) refl

  pub read_past_end : length b < p + k → read_be k b p ≡ refused unexpected_end_of_input
  unfolding read_be
  read_past_end h = then_refused _ _ (check_no _ (lt-leb (p + k) (length b) h))

  pub read_inside : {n : ℕ} → read_be k b p ≡ ok n → p + k ≤ length b
  unfolding read_be
  read_inside e = step _ _ e λ _ h e. leb-true _ _ (checked _ _ h)

-- what stands at p is read, and what is read stands there
pub read_value : (b : List ℕ) (k p : ℕ) {n : ℕ} → 0 < k → Has b p (big_endian k n) → read_be k b p ≡ ok n
read_value b k p {n} pos h = read_there b k p (rw (length_bytes k n) at h.fits) ∙ ap ok (value_is b p k n pos h)

pub value_read : (b : List ℕ) (k p : ℕ) → AreBytes b → 0 < k → {n : ℕ} → read_be k b p ≡ ok n → Has b p (big_endian k n)
value_read b k p all pos {n} e =
    let fits = read_inside b k p e in
    let same : value_at k b p ≡ n = ok_same (sym (read_there b k p fits) ∙ e) in
    rw same at (value_stands b p k all pos fits)

module _ (b : List ℕ) (p : ℕ) where
  pub read_word : {n : ℕ} → Has b p (word n) → read_be_u32 b p ≡ ok n
  read_word h = read_value b 4 p (omega arith) h

  pub word_read : AreBytes b → {n : ℕ} → read_be_u32 b p ≡ ok n → Has b p (word n)
  word_read all e = value_read b 4 p all (omega arith) e

  pub read_long : {n : ℕ} → Has b p (long n) → read_be_u64 b p ≡ ok n
  read_long h = read_value b 8 p (omega arith) h

  pub long_read : AreBytes b → {n : ℕ} → read_be_u64 b p ≡ ok n → Has b p (long n)
  long_read all e = value_read b 8 p all (omega arith) e

-- ---- strings

-- l is xs, which has no zero, a zero, and something more
record Until (l xs : List ℕ) : Type 0 where
  nonzero : NoZero xs
  rest : List ℕ
  split : l ≡ xs ++ 0 ∷ rest

until_read : (l : List ℕ) {xs : List ℕ} → until_zero l ≡ ok xs → Until l xs
unfolding until_zero NoZero
until_read [] e = absurd (never e)
until_read (zero ∷ l) {xs} e = subst (Until (zero ∷ l)) (ok_same e) (record { nonzero = tt; rest = l; split = refl })
until_read (suc x ∷ l) {xs} e =
    step _ _ e λ s hs e.
    let ih = until_read l hs in
    subst (Until (suc x ∷ l)) (ok_same e) (record { nonzero = (omega arith, ih.nonzero); rest = ih.rest; split = ap (λ t. suc x ∷ t) ih.split })

read_until : (xs rest : List ℕ) → NoZero xs → until_zero (xs ++ 0 ∷ rest) ≡ ok xs
unfolding until_zero NoZero
read_until [] rest h = refl
read_until (zero ∷ xs) rest h = absurd (omega arith)
read_until (suc x ∷ xs) rest h = then_ok _ _ (read_until xs rest h.1) refl

-- a string that stands at p
pub record StringAt (b : List ℕ) (p : ℕ) (xs : List ℕ) : Type 0 where
  pub nonzero : NoZero xs
  pub bytes : Has b p (xs ++ 0 ∷ [])

module _ (b : List ℕ) (p : ℕ) where
  pub read_string : {xs : List ℕ} → NoZero xs → Has b p (xs ++ 0 ∷ []) → read_bstring0 b p ≡ ok xs
  unfolding read_bstring0
  read_string {xs} nz h = rw (has_rest b p h, append_assoc) (read_until xs _ nz)

  pub string_read : {xs : List ℕ} → read_bstring0 b p ≡ ok xs → StringAt b p xs
  unfolding read_bstring0
  string_read {xs} e =
      let u = until_read (drop p b) e in
      record {
        nonzero = u.nonzero;
        bytes = has_front b p (xs ++ 0 ∷ []) u.rest (rw length-append (omega arith)) (u.split ∙ sym (append_assoc xs (0 ∷ []) u.rest));
      }

-- ---- parts

module _ (b : List ℕ) where
  pub read_part : (p : ℕ) {xs : List ℕ} → Has b p xs → p + length xs < length b → subslice b p (p + length xs) ≡ ok xs
  unfolding subslice
  read_part p {xs} h inside =
      let e : p + length xs - p ≡ length xs = omega arith in
      then_ok _ _ (check_ok _ (le-leb p (p + length xs) (omega arith)))
      (then_ok _ _ (check_ok _ (lt-ltb (p + length xs) (length b) inside)) (ap ok (rw e h.same)))

  -- the n bytes at p end before the blob's last
  pub record Inside (p n : ℕ) (xs : List ℕ) : Type 0 where
    pub size : length xs ≡ n
    pub bytes : Has b p xs
    pub ends : p + n < length b

  pub part_read : (p n : ℕ) {xs : List ℕ} → subslice b p (p + n) ≡ ok xs → Inside p n xs
  unfolding subslice part
  part_read p n {xs} e =
      step _ _ e λ _ _ e.
      step _ _ e λ _ below e.
      let ends : p + n < length b = ltb-true _ _ (checked _ _ below) in
      let same : p + n - p ≡ n = omega arith in
      let value : part b p n ≡ xs = rw same at (ok_same e) in
      let size : length xs ≡ n = rw (← value) (length-take-le n (drop p b) (rw length-drop (omega arith))) in
      record { size = size; bytes = record { fits = omega arith; same = rw size value }; ends = ends }
