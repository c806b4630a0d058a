-- What the digits, numbers and byte strings of a field come to, one step at a time. Assumes nothing.
use Prim.Native.Nat.{ℕ, zero, suc, ◌+◌, ◌*◌, ◌^◌, ◌-◌, ◌/◌, ◌%◌, ◌≤◌, ◌<◌}
use native.Mathlib.Omega.{arith}
use native.Mathlib.Numerals.{add-one, one-add}
use mathlib.Core.Bool.{true, false, cond, not}
use mathlib.Core.Path.{◌≡◌, refl, ap, ◌∙◌, sym}
use mathlib.Core.List.{List, [], ◌∷◌, ◌++◌, append_assoc, append-nil}
use Rattle.std.specs.Prelude.{Option, Some, None, min, ltb, ◌==◌}
use borrow.Author.Rules.{part_to_end}
use borrow.Author.Tests.{lt-ltb, le-ltb, le-leb, lt-leb, eq-eqb, ne_eqb}
use Rattle.std.specs.Char.{digit_value}
use Rattle.std.specs.List.{position, position_or_len}
use Rattle.std.specs.Option.{unwrap_or}
use Rattle.std.proofs.lemmas.Grind.{common_steps}
use Rattle.std.proofs.lemmas.List.Sums.{prefix_len-le-length}
use lib.ListN.{length, take, drop, get_or, set, length-set, drop_of_length-le}
use Rattle.std.proofs.lemmas.List.{get_or-take, get_or-drop, drop-drop}
use lib.Seq.{drop-cons, take-suc-set}
use Rattle.format.specs.Answer.{or_zero}
use Rattle.format.specs.Read.{read_be_u32}
use Rattle.std.specs.Simd.{first_chunks}
use Rattle.format.specs.Bytes.{part}
use Rattle.reader.proofs.Numbers.{word_is}
use Rattle.reader.proofs.Outcomes.{or_zero_lem}
use Rattle.lines.specs.Fields.{digit_of, first_of, rest_of, number_from, before, pair_of, pairs_of, hex_of, words_in, gathered, Ends, Put}

-- ---- digits

-- the kit's digits have more letters
pub digit_value_of : (b : ℕ) → digit_of b ≡ min (digit_value b) 16
unfolding digit_of
digit_value_of b = grind (arith, common_steps)

-- ---- numbers

pub number_end : (n : ℕ) (s : List ℕ) (i : ℕ) → length s ≤ i → number_from n (drop i s) ≡ Some n
unfolding number_from
number_end n s i h = rw (drop_of_length-le s h)

abbrev digit : List ℕ → ℕ → ℕ
digit s i = digit_value (get_or s i 0)

module _ (n : ℕ) (s : List ℕ) (i : ℕ) (h : i < length s) where
  number_next : digit s i < 10 → number_from n (drop i s) ≡ cond (ltb (n * 10 + digit s i) (2 ^ 64)) (number_from (n * 10 + digit s i) (drop (i + 1) s)) None
  unfolding number_from
  number_next p =
      let e : digit_of (get_or s i 0) ≡ digit s i = omega (arith, digit_value_of (get_or s i 0)) in
      rw (add-one i, drop-cons s i 0 h, e) (simp (le-leb (digit s i) 9 (omega arith)))

  pub number_step : digit s i < 10 → n * 10 + digit s i < 2 ^ 64 → number_from n (drop i s) ≡ number_from (n * 10 + digit s i) (drop (i + 1) s)
  number_step p q = number_next p ∙ simp (lt-ltb (n * 10 + digit s i) (2 ^ 64) q)

  pub number_over : digit s i < 10 → (n * 10 + digit s i < 2 ^ 64 → ⊥) → number_from n (drop i s) ≡ None
  number_over p q = number_next p ∙ simp (le-ltb (n * 10 + digit s i) (2 ^ 64) (omega arith))

  pub number_other : (digit s i < 10 → ⊥) → number_from n (drop i s) ≡ None
  unfolding number_from
  number_other p =
      rw (drop-cons s i 0 h) (simp (lt-leb (digit_of (get_or s i 0)) 9 (omega (arith, digit_value_of (get_or s i 0)))))

pub ruleset number_laws = (number_end, number_step, number_over, number_other)

-- ---- chunks

-- a chunk is the part that begins at its number of elements
chunk_is : {X : Type 0} (n k : ℕ) (s : List X) (i : ℕ) → i < k → get_or (first_chunks n k s) i [] ≡ take n (drop (i * n) s)
chunk_is n zero s i h = absurd (omega arith)
chunk_is n (suc k) s zero h = let e : 0 ≡ 0 * n = omega arith in ap (λ j. take n (drop j s)) e
chunk_is n (suc k) s (suc i) h = chunk_is n k (drop n s) i (omega arith) ∙ ap (take n) (drop-drop (i * n) n s ∙ ap (λ j. drop j s) (omega arith))

-- ---- bytes

pub before_before : (xs ys : List ℕ) (m : Option (List ℕ)) → before xs (before ys m) ≡ before (xs ++ ys) m
unfolding before
before_before xs ys None = refl
before_before xs ys (Some zs) = simp append_assoc

pub before_nil : (m : Option (List ℕ)) → m ≡ before [] m
unfolding before
before_nil None = refl
before_nil (Some zs) = refl

pub before_end : (xs : List ℕ) → before xs (Some []) ≡ Some xs
unfolding before
before_end xs = simp append-nil

pub pairs_end : (s : List ℕ) (i : ℕ) → length s ≤ i → pairs_of (drop i s) ≡ Some []
unfolding pairs_of
pairs_end s i h = rw (drop_of_length-le s h)

two : (s : List ℕ) (i : ℕ) → i * 2 + 1 < length s → drop (i * 2) s ≡ get_or s (i * 2) 0 ∷ get_or s (i * 2 + 1) 0 ∷ drop ((i + 1) * 2) s
two s i h =
    let e : (i + 1) * 2 ≡ suc (suc (i * 2)) = omega arith in
    let f : i * 2 + 1 ≡ suc (i * 2) = omega arith in
    rw (e, f, drop-cons s (i * 2) 0 (omega arith), drop-cons s (suc (i * 2)) 0 (omega arith))

abbrev digits : List ℕ → ℕ → ℕ
digits s i = pair_of (get_or s (i * 2) 0) (get_or s (i * 2 + 1) 0)

-- the digits that a pair has
pub pair_at : (s : List ℕ) (pairs : List (List ℕ)) (i : ℕ) → pairs ≡ first_chunks 2 (length s / 2) s → i < length s / 2
    → pair_of (get_or (get_or pairs i []) 0 0) (get_or (get_or pairs i []) 1 0) ≡ digits s i
pair_at s pairs i e h =
    let two : get_or pairs i [] ≡ take 2 (drop (i * 2) s) = ap (λ l. get_or l i []) e ∙ chunk_is 2 (length s / 2) s i h in
    let at : i * 2 + 0 ≡ i * 2 = omega arith in
    rw (two, get_or-take 2 (drop (i * 2) s) 0 0 (omega arith), get_or-take 2 (drop (i * 2) s) 1 0 (omega arith), get_or-drop (i * 2) s 0 0, get_or-drop (i * 2) s 1 0, at) refl

module _ (s : List ℕ) (i : ℕ) (h : i * 2 + 1 < length s) where
  pairs_step : digits s i < 256 → pairs_of (drop (i * 2) s) ≡ before (digits s i ∷ []) (pairs_of (drop ((i + 1) * 2) s))
  unfolding pairs_of
  pairs_step p = rw (two s i h) (simp (lt-ltb (digits s i) 256 p))

  pairs_bad : (digits s i < 256 → ⊥) → pairs_of (drop (i * 2) s) ≡ None
  unfolding pairs_of
  pairs_bad p = rw (two s i h) (simp (le-ltb (digits s i) 256 (omega arith)))

module _ (room : ℕ) (s : List ℕ) where
  hex_pairs : length s % 2 ≡ 0 → length s ≤ room * 2 → hex_of room s ≡ pairs_of s
  unfolding hex_of
  hex_pairs p q = simp (ne_eqb (length s % 2) 1 (λ e. omega arith), le-ltb (room * 2) (length s) q)

-- where hex is: the i bytes that are put, before what the rest of the digits spell, are what all of them spell
pub record Hexed (room : ℕ) (s out : List ℕ) (i : ℕ) : Type 0 where
  pub even : length s % 2 ≡ 0
  pub fits : length s ≤ length out * 2
  pub lent : length out ≡ room
  pub spelled : hex_of room s ≡ before (take i out) (pairs_of (drop (i * 2) s))

pub hex_begins : (s out : List ℕ) → length s % 2 ≡ 0 → length s ≤ length out * 2 → Hexed (length out) s out 0
hex_begins s out p q =
    record { even = p; fits = q; lent = refl; spelled = hex_pairs (length out) s p q ∙ before_nil (pairs_of s) }

module _ {room : ℕ} {s out : List ℕ} {i : ℕ} (h : Hexed room s out i) (p : i < length s / 2) where
  pub hex_step : (x : ℕ) → digits s i < 256 → x ≡ digits s i → Hexed room s (set out i x) (i + 1)
  hex_step x q e = record {
    even = h.even;
    fits = simp length-set h.fits;
    lent = simp length-set h.lent;
    spelled =
        h.spelled ∙ ap (before (take i out)) (pairs_step s i (omega arith) q) ∙ before_before (take i out) (digits s i ∷ []) (pairs_of (drop ((i + 1) * 2) s))
        ∙ rw (add-one i, take-suc-set out i x (omega arith), e);
  }

  pub hex_bad : (digits s i < 256 → ⊥) → hex_of room s ≡ None
  unfolding before
  hex_bad q = h.spelled ∙ ap (before (take i out)) (pairs_bad s i (omega arith) q)

pub hex_ends : {room : ℕ} {s out : List ℕ} {i : ℕ} → Hexed room s out i → i ≡ length s / 2 → Put (Some (length s / 2)) (hex_of room s) out
hex_ends {room} {s} {out} {i} h e =
    let q : length s ≤ i * 2 = omega arith in
    record {
      within = omega arith;
      same = sym (h.spelled ∙ ap (before (take i out)) (pairs_end s (i * 2) q) ∙ before_end (take i out) ∙ ap (λ (k : ℕ). Some (take k out)) e);
    }

pub ruleset hex_laws = (hex_begins, hex_bad, hex_ends)

-- ---- words

-- the word that a chunk has
pub word_at : (b : List ℕ) (words : List (List ℕ)) (i n : ℕ) → words ≡ first_chunks 4 (length b / 4) b → i < length b / 4
    → (let c = get_or words i [] in n ≡ get_or c 0 0 * 16777216 + get_or c 1 0 * 65536 + get_or c 2 0 * 256 + get_or c 3 0)
    → n ≡ or_zero (read_be_u32 b (i * 4))
unfolding part
word_at b words i n e h is =
    sym (or_zero_lem (sym (word_is b (i * 4) (omega arith, ap (λ l. get_or l i []) e ∙ chunk_is 4 (length b / 4) b i h) is)))

-- where gather is: the i words that are put are the first of the bytes' words
pub record Gathered (room : ℕ) (b out : List ℕ) (i : ℕ) : Type 0 where
  pub whole : length b % 4 ≡ 0
  pub fits : length b / 4 ≤ length out
  pub lent : length out ≡ room
  pub put : take i out ≡ words_in i b

pub gather_begins : (b out : List ℕ) → length b % 4 ≡ 0 → length b / 4 ≤ length out → Gathered (length out) b out 0
unfolding words_in
gather_begins b out p q = record { whole = p; fits = q; lent = refl; put = refl }

pub gather_step :
    {room : ℕ} {b out : List ℕ} {i : ℕ} → Gathered room b out i → (x : ℕ) → x ≡ or_zero (read_be_u32 b (i * 4)) → i < length b / 4 →
    Gathered room b (set out i x) (i + 1)
unfolding words_in
gather_step {room} {b} {out} {i} h x e p =
    let q : i < length out = omega arith in
    record {
      whole = h.whole;
      fits = simp length-set h.fits;
      lent = simp length-set h.lent;
      put = rw (add-one i, take-suc-set out i x q, h.put, e);
    }

pub gather_ends : {room : ℕ} {b out : List ℕ} {i : ℕ} → Gathered room b out i → i ≡ length b / 4 → Put (Some (length b / 4)) (gathered room b) out
unfolding gathered
gather_ends {room} {b} {out} {i} h e = record {
  within = h.fits;
  same = simp (eq-eqb (length b % 4) 0 h.whole, le-leb (length b / 4) room (omega arith)) (ap Some (rw e at h.put));
}

pub ruleset gather_laws = (gather_begins, gather_ends)

-- ---- a field

abbrev space : List ℕ → ℕ
space s = position_or_len (λ b. b == 32) s

first_until : (s : List ℕ) → first_of s ≡ take (space s) s
unfolding first_of
first_until [] = refl
first_until (b ∷ s) =
    elim (b == 32) as (λ v. cond v [] (b ∷ first_of s) ≡ take (cond (not v) (1 + space s) 0) (b ∷ s))
    [ true ↦ refl | false ↦ rw (one-add (space s)) (ap (λ l. b ∷ l) (first_until s)) ]

rest_after : (s : List ℕ) → rest_of s ≡ drop (space s + 1) s
unfolding rest_of
rest_after [] = refl
rest_after (b ∷ s) =
    elim (b == 32) as (λ v. cond v s (rest_of s) ≡ drop (cond (not v) (1 + space s) 0 + 1) (b ∷ s))
    [ true ↦ refl | false ↦ rw (one-add (space s), add-one (suc (space s))) (let q = rest_after s in rw (add-one (space s)) at q) ]

pub ends_at : (s : List ℕ) (end : ℕ) → end ≡ unwrap_or (position (λ b. b == 32) s) (length s) → Ends s end
ends_at s end e =
    let least : space s ≤ length s = prefix_len-le-length _ s in
    let at : end ≡ space s = grind (arith, common_steps) in
    record { within = omega arith; first = rw at (first_until s); rest = rw at (rest_after s) }

-- where no field follows, nothing does, with or without a space
pub tail_none : (s : List ℕ) (a : ℕ) → a ≡ length s → take (length s - a) (drop a s) ≡ drop (a + 1) s
tail_none s a e =
    let g : length s ≤ a = omega arith in
    let h : length s ≤ a + 1 = omega arith in
    part_to_end s a ∙ drop_of_length-le s g ∙ sym (drop_of_length-le s h)
