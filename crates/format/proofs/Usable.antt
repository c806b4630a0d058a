-- The tree's own lookups never give 15, so neither do those that say the same. Assumes nothing.
use Rattle.std.specs.Prelude.{◌≡◌, ℕ, Bool, true, false, ◌≢◌, List}
use mathlib.Core.Path.{refl, sym, ap}
use native.Mathlib.Omega.{arith}
use Rattle.format.specs.Answer.{Refusal, refusal_numbers, Outcome, ok, refused, ◌>>=◌, check, first, numbers, Span}
use Rattle.format.specs.Answer.{invalid_magic_number, size_mismatch, unexpected_end_of_input, parse_error, utf8_error, version_not_supported, too_deep, reservation_room, node_room, property_room, nothing_found, missing0, too_short, not_usable}
use Rattle.format.specs.Tree.{Node, Tree}
use Rattle.format.specs.Find.{Place, properties_of, find_from, find, prop_raw, has_prop, as_number, prop_u32, prop_u64, as_string, prop_str}
use Rattle.format.specs.Agrees.{row_of, bytes_in}
use Rattle.format.proofs.Answer.{never, refused_same}
use Rattle.format.proofs.Names.{Found, found, nothing, path_found, tree_found, name_found}

-- ---- an answer that is not 15

other : (r : Refusal) → r ≢ not_usable → first (refusal_numbers r) ≢ 15
unfolding first refusal_numbers
other invalid_magic_number n = omega arith
other size_mismatch n = omega arith
other unexpected_end_of_input n = omega arith
other (parse_error p) n = omega arith
other utf8_error n = omega arith
other version_not_supported n = omega arith
other (too_deep p) n = omega arith
other (reservation_room k) n = omega arith
other (node_room k) n = omega arith
other (property_room k) n = omega arith
other nothing_found n = omega arith
other missing0 n = omega arith
other too_short n = omega arith
other not_usable n = absurd (n refl)

pub data Usable {A : Type 0} : Outcome A → Type 0 where
  given : (a : A) → Usable (ok a)
  refuses : (r : Refusal) → r ≢ not_usable → Usable (refused r)

pub not_15 : {A : Type 0} (carries : A → List ℕ) (m : Outcome A) → Usable m → first (numbers carries m) ≢ 15
unfolding first numbers
not_15 carries m (given a) = omega arith
not_15 carries m (refuses r n) = other r n

then_usable : {A B : Type 0} (m : Outcome A) (f : A → Outcome B) → Usable m → ((a : A) → Usable (f a)) → Usable (m >>= f)
unfolding ◌>>=◌
then_usable m f (given a) h = h a
then_usable m f (refuses r n) h = refuses r n

check_usable : (t : Bool) (r : Refusal) → r ≢ not_usable → Usable (check t r)
unfolding check
check_usable true r n = given tt
check_usable false r n = refuses r n

differ : {r : Refusal} → first (refusal_numbers r) ≢ 15 → r ≢ not_usable
unfolding first refusal_numbers
differ n e = n (ap (λ r. first (refusal_numbers r)) e)

found_usable : {A : Type 0} (m : Outcome A) → Found m → Usable m
unfolding first refusal_numbers
found_usable m (found a) = given a
found_usable m nothing = refuses nothing_found (differ (omega arith))

-- ---- through the row of a place, and the bytes of a part

pub row_usable : (m : Outcome Place) → Usable m → Usable (row_of m)
unfolding row_of
row_usable m u = then_usable m _ u (λ place. given _)

pub bytes_usable : (b : List ℕ) (m : Outcome Span) → Usable (bytes_in b m) → Usable m
unfolding bytes_in ◌>>=◌
bytes_usable b (ok s) u = given s
bytes_usable b (refused r) u = same_usable r u
  where
    same_usable : (r : Refusal) → Usable {A = List ℕ} (refused r) → Usable {A = Span} (refused r)
    same_usable r u = elim u [ refuses r n ↦ refuses r n ]

pub bytes_refused : (b : List ℕ) (m : Outcome Span) {r : Refusal} → bytes_in b m ≡ refused r → m ≡ refused r
unfolding bytes_in ◌>>=◌
bytes_refused b (ok s) e = absurd (never (sym e))
bytes_refused b (refused r) e = ap refused (refused_same e)

-- ---- the tree's own lookups

pub from_usable : (start : Place) (path : List ℕ) → Usable (find_from start path)
unfolding find_from
from_usable start path = found_usable _ (path_found start.here start.row start.position path)

pub find_usable : (b : List ℕ) (t : Tree) (path : List ℕ) → Usable (find b t path)
find_usable b t path = found_usable _ (tree_found b t path)

module _ (n : Node) (name : List ℕ) where
  pub raw_usable : Usable (prop_raw n name)
  unfolding prop_raw
  raw_usable = found_usable _ (name_found (properties_of n) name)

  pub has_usable : Usable (has_prop n name)
  unfolding has_prop
  has_usable = then_usable _ _ raw_usable (λ value. given tt)

  number_usable : (k : ℕ) (value : List ℕ) → Usable (as_number k value)
  unfolding as_number first refusal_numbers
  number_usable k value = then_usable _ _ (check_usable _ too_short (differ (omega arith))) (λ _. given _)

  pub u32_usable : Usable (prop_u32 n name)
  unfolding prop_u32
  u32_usable = then_usable _ _ raw_usable (λ value. number_usable 4 value)

  pub u64_usable : Usable (prop_u64 n name)
  unfolding prop_u64
  u64_usable = then_usable _ _ raw_usable (λ value. number_usable 8 value)

  string_usable : (value : List ℕ) → Usable (as_string value)
  unfolding as_string first refusal_numbers
  string_usable value =
      then_usable _ _ (check_usable _ missing0 (differ (omega arith))) λ _.
      then_usable _ _ (check_usable _ utf8_error (differ (omega arith))) λ _.
      given _

  pub str_usable : Usable (prop_str n name)
  unfolding prop_str
  str_usable = then_usable _ _ raw_usable string_usable
