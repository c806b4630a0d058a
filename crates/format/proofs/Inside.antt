-- Where the value and the text that a property lookup tells lie, and what bytes they are. Assumes nothing.
use Rattle.std.specs.Prelude.{◌≡◌, ℕ, zero, suc, ◌+◌, ◌-◌, ◌≤◌, leb, List, [], length, take, drop}
use native.Mathlib.Omega.{arith}
use lib.ListN.{length-take}
use borrow.Author.Tests.{leb-true}
use Rattle.format.specs.Answer.{Refusal, Outcome, ok, refused, ◌>>=◌, Span, or_empty}
use Rattle.format.specs.Bytes.{part}
use Rattle.format.specs.Rows.{PropertyRow, property_at, properties_in}
use Rattle.format.specs.Find.{as_string}
use Rattle.format.specs.Lookup.{Lent, bytes_of, parts_inside, value_span, among, property_of, prop_raw, prop_str}
use Rattle.format.specs.Agrees.{bytes_in}
use Rattle.format.proofs.Tools.{both, if_went}
use Rattle.format.proofs.Answer.{never, ok_same, step}

among_inside : (b : List ℕ) (P : List PropertyRow) (n k : ℕ) (name : List ℕ) (s : Span) → among b P n k name ≡ ok s → s.offset + s.size ≤ length b
unfolding among parts_inside value_span
among_inside b P zero k name s e = absurd (never e)
among_inside b P (suc n) k name s e =
    if_went _ _ _ e
    (λ inside e. if_went _ _ _ e
    (λ _ e. let is = ok_same e in rw (← is) (leb-true _ _ (both (leb ((property_at P k).name_offset + (property_at P k).name_length) (length b)) (leb ((property_at P k).value_offset + (property_at P k).value_length) (length b)) inside).1))
    (λ _ e. among_inside b P n (k + 1) name s e))
    (λ _ e. absurd (never e))

module _ (b : List ℕ) (l : Lent) (row : ℕ) (name : List ℕ) where
  pub raw_inside : (s : Span) → prop_raw b l row name ≡ ok s → s.offset + s.size ≤ length b
  unfolding prop_raw property_of
  raw_inside s e = step _ _ e λ _ _ e. step _ _ e λ _ _ e. among_inside b (properties_in l.property_count l.properties) _ _ name s e

  pub str_inside : (s : Span) → prop_str b l row name ≡ ok s → s.offset + s.size ≤ length b
  unfolding prop_str as_string bytes_of part
  str_inside s e =
      step _ _ e λ value raw e.
      step _ _ e λ text is e.
      step _ _ is λ _ _ is.
      step _ _ is λ _ _ is.
      let v : List ℕ = take value.size (drop value.offset b) in
      let short : length v ≤ value.size = omega (arith, length-take value.size (drop value.offset b)) in
      let size : length text ≤ length v = rw (← ok_same is) (omega (arith, length-take (length v - 1) v)) in
      rw (← ok_same e) (omega (arith, raw_inside value raw))

-- the part that a span is of the blob, and none where there is no span
pub bytes_there : (b : List ℕ) {m : Outcome Span} {p n : ℕ} → m ≡ ok (record { offset = p; size = n }) → (k : ℕ) → k ≡ n → take k (drop p b) ≡ or_empty (bytes_in b m)
unfolding or_empty bytes_in ◌>>=◌ bytes_of part
bytes_there b e k i = rw (e, i)

pub bytes_none : (b : List ℕ) {m : Outcome Span} {r : Refusal} → m ≡ refused r → [] ≡ or_empty (bytes_in b m)
unfolding or_empty bytes_in ◌>>=◌
bytes_none b e = rw e
