-- A span that a reader gives tells where that which it read stands, so the span lies in the bytes and cuts just that out of them.
-- Assumes nothing.
use Rattle.std.specs.Prelude.{Ok, Err}
use mathlib.Core.Path.{◌≡◌, refl, sym, ap, ◌∙◌}
use Prim.Native.Nat.{ℕ, ◌+◌, ◌-◌, ◌≤◌, ◌<◌}
use native.Mathlib.Omega.{arith}
use mathlib.Core.List.{List, [], ◌∷◌}
use Rattle.std.proofs.lemmas.List.{take_all}
use lib.ListN.{length, take, drop, length-append, length-drop}
use lib.Seq.{length-take-le}
use borrow.Author.Tests.{leb-true, le-leb, lt-leb, lt-ltb, le-ltb}
use Rattle.format.specs.Answer.{Outcome, ok, refused, ◌>>=◌, span_at, or_empty, unexpected_end_of_input}
use Rattle.format.specs.Bytes.{part, Has}
use Rattle.format.specs.Results.{outcome_of}
use Rattle.format.specs.Read.{read_bstring0, subslice}
use Rattle.format.proofs.Answer.{never, ok_same, refused_same, step, checked, then_ok, then_refused, check_ok, check_no}
use Rattle.format.proofs.Bytes.{has_left}
use Rattle.format.proofs.Read.{string_read, part_read}
use Rattle.reader.specs.declared.SliceReadError.{SliceReadError}
use Rattle.reader.specs.declared.Span.{Span}
use Rattle.reader.specs.Outcomes.{why_of, tells}
use Rattle.reader.proofs.Outcomes.{why_short, or_empty_lem}

-- what the library cuts out from p on
pub rest_is : (b : List ℕ) (p : ℕ) {rest : List ℕ} → rest ≡ take (length b - p) (drop p b) → rest ≡ drop p b
rest_is b p e = e ∙ take_all (length b - p) (drop p b) (rw length-drop (omega arith))

-- the first n bytes of it
pub chunk_there : (b : List ℕ) (p n : ℕ) {rest bytes : List ℕ} → p ≤ length b → rest ≡ drop p b → n ≤ length rest → bytes ≡ take n rest
    → (p + n ≤ length b) × (bytes ≡ part b p n)
unfolding part
chunk_there b p n inside same fits e =
    let size = ap length same ∙ length-drop p b in
    (omega arith, e ∙ ap (take n) same)

-- the first n of the n bytes at p
pub cut_there : (b : List ℕ) (p n : ℕ) {bytes : List ℕ} → p + n ≤ length b → bytes ≡ take n (take (p + n - p) (drop p b))
    → (p + n ≤ length b) × (bytes ≡ part b p n)
unfolding part
cut_there b p n fits e =
    let just : p + n - p ≡ n = omega arith in
    let sized : length (take n (drop p b)) ≡ n = length-take-le n (drop p b) (rw length-drop (omega arith)) in
    (fits, e ∙ rw just (take_all n (take n (drop p b)) (omega arith)))

-- what was read, and that the span tells its place
pub record Told (p : ℕ) (m : Outcome (List ℕ)) (s : Span) : Type 0 where
  pub bytes : List ℕ
  pub read : m ≡ ok bytes
  pub at : s.start ≡ p
  pub size : s.len ≡ length bytes

module _ (p : ℕ) where
  pub span_part : (m : Outcome (List ℕ)) {s : Span} → outcome_of {E = SliceReadError} why_of tells (Ok s) ≡ span_at p m → Told p m s
  unfolding outcome_of tells span_at ◌>>=◌
  span_part (ok xs) e =
      let same = ok_same e in
      record { bytes = xs; read = refl; at = ap (λ s. s.offset) same; size = ap (λ s. s.size) same }
  span_part (refused r) e = absurd (never (sym e))

  pub span_none : (m : Outcome (List ℕ)) (x : SliceReadError) → outcome_of {T = Span} why_of tells (Err x) ≡ span_at p m → m ≡ refused unexpected_end_of_input
  unfolding outcome_of span_at ◌>>=◌
  span_none (ok xs) x e = absurd (never e)
  span_none (refused r) x e = ap refused (sym (refused_same e) ∙ why_short x)

  -- nothing is cut out where there is no span
  pub cut_none : (m : Outcome (List ℕ)) (x : SliceReadError) → outcome_of {T = Span} why_of tells (Err x) ≡ span_at p m → [] ≡ or_empty m
  unfolding or_empty
  cut_none m x e = sym (ap or_empty (span_none m x e))

  -- what a span tells the length of is what was read, and where there is none nothing was
  pub span_size : (m : Outcome (List ℕ)) (s : Span) → outcome_of {E = SliceReadError} why_of tells (Ok s) ≡ span_at p m → s.len ≡ length (or_empty m)
  span_size m s e = let t = span_part m {s = s} e in t.size ∙ ap length (sym (or_empty_lem t.read))

  pub none_size : (m : Outcome (List ℕ)) (x : SliceReadError) → outcome_of {T = Span} why_of tells (Err x) ≡ span_at p m → 0 ≡ length (or_empty m)
  none_size m x e = ap length (cut_none m x e)

-- the span lies in the bytes, and what is cut out there is what was read
pub record Cut (b : List ℕ) (s : Span) (xs : List ℕ) : Type 0 where
  pub within : s.start + s.len ≤ length b
  pub same : part b s.start s.len ≡ xs

module _ (b : List ℕ) (p : ℕ) where
  -- what was read stands at p, so the span's part is it
  pub span_cut : (m : Outcome (List ℕ)) → ((xs : List ℕ) → m ≡ ok xs → Has b p xs) → {s : Span} → outcome_of {E = SliceReadError} why_of tells (Ok s) ≡ span_at p m → Cut b s (or_empty m)
  unfolding part
  span_cut m has e =
      let t = span_part p m e in
      let h = has t.bytes t.read in
      record { within = rw (t.at, t.size) h.fits; same = rw (t.at, t.size) (h.same ∙ sym (or_empty_lem t.read)) }

  -- a string stands where it was read, and its zero byte after it
  pub string_has : (xs : List ℕ) → read_bstring0 b p ≡ ok xs → Has b p xs
  string_has xs e =
      let h = (string_read b p e).bytes in
      record { fits = omega (arith, h.fits, length-append xs (0 ∷ [])); same = has_left b p xs (0 ∷ []) h }

  pub string_ends : (xs : List ℕ) → read_bstring0 b p ≡ ok xs → p + length xs < length b
  string_ends xs e = omega (arith, (string_read b p e).bytes.fits, simp length-append at (string_read b p e).bytes.fits)

  pub part_has : (end : ℕ) (xs : List ℕ) → subslice b p end ≡ ok xs → Has b p xs
  unfolding subslice
  part_has end xs e =
      step _ _ e λ _ below _.
      let h : p ≤ end = leb-true _ _ (checked _ _ below) in
      let whole : p + (end - p) ≡ end = omega arith in
      (part_read b p (end - p) (rw whole e)).bytes

-- when `subslice` gives a part, and where that stands
module _ (b : List ℕ) (start end : ℕ) where
  pub part_backwards : end < start → span_at start (subslice b start end) ≡ refused unexpected_end_of_input
  unfolding span_at subslice
  part_backwards h = then_refused _ _ (then_refused _ _ (check_no _ (lt-leb start end h)))

  module _ (forwards : start ≤ end) where
    pub part_past_end : length b ≤ end → span_at start (subslice b start end) ≡ refused unexpected_end_of_input
    unfolding span_at subslice
    part_past_end h = then_refused _ _ (then_ok _ _ (check_ok _ (le-leb start end forwards)) (then_refused _ _ (check_no _ (le-ltb end (length b) h))))

    pub part_there : end < length b → span_at start (subslice b start end) ≡ ok (record { offset = start; size = end - start })
    unfolding span_at subslice part
    part_there h =
        let size : length (take (end - start) (drop start b)) ≡ end - start = length-take-le (end - start) (drop start b) (rw length-drop (omega arith)) in
        then_ok _ _ (then_ok _ _ (check_ok _ (le-leb start end forwards)) (then_ok _ _ (check_ok _ (lt-ltb end (length b) h)) refl)) (rw size)
