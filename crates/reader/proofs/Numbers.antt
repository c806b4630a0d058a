-- Big-endian numbers by their bytes, and what the total readers give. Assumes nothing.
use Rattle.std.specs.Prelude.{◌≡◌, ℕ, ◌+◌, ◌*◌, ◌≤◌, List, [], ◌∷◌, length, drop, slice_index}
use mathlib.Core.Path.{sym, ap, ◌∙◌}
use native.Mathlib.Omega.{arith}
use lib.ListN.{length-drop}
use lib.Seq.{length-take-le}
use Rattle.format.specs.Answer.{ok, or_zero}
use Rattle.format.specs.Bytes.{number, part, value_at, word_at}
use Rattle.format.specs.Read.{read_be_u32, read_be_u64}
use Rattle.format.proofs.Read.{read_there}
use Rattle.reader.proofs.Outcomes.{or_zero_lem}

pub number_4 : (l : List ℕ) → length l ≡ 4 → number 0 l ≡ slice_index l 0 * 16777216 + slice_index l 1 * 65536 + slice_index l 2 * 256 + slice_index l 3
unfolding number
number_4 [] sized = absurd (omega arith)
number_4 (a ∷ []) sized = absurd (omega arith)
number_4 (a ∷ b ∷ []) sized = absurd (omega arith)
number_4 (a ∷ b ∷ c ∷ []) sized = absurd (omega arith)
number_4 (a ∷ b ∷ c ∷ d ∷ []) sized = omega arith
number_4 (a ∷ b ∷ c ∷ d ∷ x ∷ xs) sized = absurd (omega arith)

pub number_8 : (l : List ℕ) → length l ≡ 8 → number 0 l ≡ slice_index l 0 * 72057594037927936 + slice_index l 1 * 281474976710656 + slice_index l 2 * 1099511627776 + slice_index l 3 * 4294967296 + slice_index l 4 * 16777216 + slice_index l 5 * 65536 + slice_index l 6 * 256 + slice_index l 7
unfolding number
number_8 [] sized = absurd (omega arith)
number_8 (a ∷ []) sized = absurd (omega arith)
number_8 (a ∷ b ∷ []) sized = absurd (omega arith)
number_8 (a ∷ b ∷ c ∷ []) sized = absurd (omega arith)
number_8 (a ∷ b ∷ c ∷ d ∷ []) sized = absurd (omega arith)
number_8 (a ∷ b ∷ c ∷ d ∷ e ∷ []) sized = absurd (omega arith)
number_8 (a ∷ b ∷ c ∷ d ∷ e ∷ f ∷ []) sized = absurd (omega arith)
number_8 (a ∷ b ∷ c ∷ d ∷ e ∷ f ∷ g ∷ []) sized = absurd (omega arith)
number_8 (a ∷ b ∷ c ∷ d ∷ e ∷ f ∷ g ∷ h ∷ []) sized = omega arith
number_8 (a ∷ b ∷ c ∷ d ∷ e ∷ f ∷ g ∷ h ∷ x ∷ xs) sized = absurd (omega arith)

part_length : (b : List ℕ) (p n : ℕ) → p + n ≤ length b → length (part b p n) ≡ n
unfolding part
part_length b p n h = length-take-le n (drop p b) (rw length-drop (omega arith))

module _ (b : List ℕ) (p : ℕ) {bytes : List ℕ} {n : ℕ} where
  -- the number of 4 bytes that were read
  pub word_is : (p + 4 ≤ length b) × (bytes ≡ part b p 4)
      → n ≡ slice_index bytes 0 * 16777216 + slice_index bytes 1 * 65536 + slice_index bytes 2 * 256 + slice_index bytes 3 → ok n ≡ read_be_u32 b p
  unfolding value_at
  word_is (fits, same) e =
      ap ok (e ∙ sym (number_4 bytes (ap length same ∙ part_length b p 4 fits)) ∙ ap (number 0) same) ∙ sym (read_there b 4 p fits)

  pub long_is : (p + 8 ≤ length b) × (bytes ≡ part b p 8)
      → n ≡ slice_index bytes 0 * 72057594037927936 + slice_index bytes 1 * 281474976710656 + slice_index bytes 2 * 1099511627776 + slice_index bytes 3 * 4294967296 + slice_index bytes 4 * 16777216 + slice_index bytes 5 * 65536 + slice_index bytes 6 * 256 + slice_index bytes 7
      → ok n ≡ read_be_u64 b p
  unfolding value_at
  long_is (fits, same) e =
      ap ok (e ∙ sym (number_8 bytes (ap length same ∙ part_length b p 8 fits)) ∙ ap (number 0) same) ∙ sym (read_there b 8 p fits)

module _ (b : List ℕ) (p : ℕ) where
  -- what `number_at` promises of a word, where its bytes are there
  pub word_total : p + 4 ≤ length b → or_zero (read_be_u32 b p) ≡ word_at b p
  word_total h = or_zero_lem (read_there b 4 p h)
