-- The header, a word at a time: what the code has read so far decides what the header's outcome is, or what is left of it.
-- Assumes nothing.
use mathlib.Core.Path.{◌≡◌, refl, sym, ap, ◌∙◌, subst}
use mathlib.Core.Logic.{◌≢◌}
use Prim.Native.Nat.{ℕ, ◌+◌, ◌≤◌, ◌<◌, ◌^◌}
use native.Mathlib.Omega.{arith}
use mathlib.Core.List.{List}
use mathlib.Core.Bool.{true}
use lib.ListN.{length}
use lib.Dec.{eqb}
use borrow.Author.Tests.{eqb-true, eq-eqb, ne_eqb}
use Rattle.format.specs.Answer.{Refusal, invalid_magic_number, size_mismatch, version_not_supported, Outcome, ok, refused, ◌>>=◌, check, or_zero}
use Rattle.format.specs.Bytes.{AreBytes}
use Rattle.format.specs.Format.{magic, version, magic_at, total_size_at, structure_at, strings_at, reservations_at, version_at, boot_cpu_at}
use Rattle.format.specs.Read.{read_be_u32}
use Rattle.format.specs.Read as read
use Rattle.format.proofs.Answer.{ok_same, step, then_ok, then_refused, checked, check_ok, check_no}
use Rattle.format.proofs.Bytes.{value_small}
use Rattle.format.proofs.Read.{read_there, read_inside}
use Rattle.reader.proofs.Numbers.{word_total}
use Rattle.survey.specs.Survey.{header_of}
use Rattle.survey.specs.declared.header.Header.{Header}

-- what has been read and judged so far: the magic number, then the size too, then the version too
pub record Magic (b : List ℕ) : Type 0 where
  pub word : ℕ
  pub is : read_be_u32 b magic_at ≡ ok word
  pub good : word ≡ magic

pub record Sized (b : List ℕ) : Type 0 where
  pub before : Magic b
  pub word : ℕ
  pub is : read_be_u32 b total_size_at ≡ ok word
  pub good : word ≡ length b

pub record Judged (b : List ℕ) : Type 0 where
  pub before : Sized b
  pub word : ℕ
  pub is : read_be_u32 b version_at ≡ ok word
  pub good : word ≡ version

-- what has passed, by what was read and the tests: the magic number, then the size too, then the version too
module _ {b : List ℕ} {m : ℕ} (is_magic : read_be_u32 b magic_at ≡ ok m) (good : m ≡ magic) where
  pub magic_passed : Magic b
  magic_passed = record { word = m; is = is_magic; good = good }

  module _ {s : ℕ} (is_size : read_be_u32 b total_size_at ≡ ok s) (same : s ≡ length b) where
    pub size_passed : Sized b
    size_passed = record { before = magic_passed; word = s; is = is_size; good = same }

    pub version_passed : {v : ℕ} → read_be_u32 b version_at ≡ ok v → v ≡ version → Judged b
    version_passed {v} e k = record { before = size_passed; word = v; is = e; good = k }

-- what is left once the version has passed, and once the size has
words_from : List ℕ → Outcome read.Header
words_from b =
    read_be_u32 b structure_at >>= λ structure.
    read_be_u32 b strings_at >>= λ strings.
    read_be_u32 b reservations_at >>= λ reservations.
    read_be_u32 b boot_cpu_at >>= λ boot.
    ok (record { structure = structure; strings = strings; reservations = reservations; boot = boot })

after_size : List ℕ → Outcome read.Header
after_size b =
    read_be_u32 b version_at >>= λ v.
    check (eqb v version) version_not_supported >>= λ _.
    words_from b

module _ (b : List ℕ) where
  refuses : {r : Refusal} → read.header b ≡ refused r → header_of b ≡ refused r
  unfolding header_of
  refuses e = then_refused _ _ e

  pub no_magic : {r : Refusal} → read_be_u32 b magic_at ≡ refused r → header_of b ≡ refused r
  unfolding read.header
  no_magic e = refuses (then_refused _ _ e)

  pub bad_magic : {m : ℕ} → read_be_u32 b magic_at ≡ ok m → m ≢ magic → header_of b ≡ refused invalid_magic_number
  unfolding read.header
  bad_magic {m} e n = refuses (then_ok _ _ e (then_refused _ _ (check_no _ (ne_eqb m magic n))))

  module _ (m : Magic b) where
    good_magic : eqb m.word magic ≡ true
    good_magic = eq-eqb m.word magic m.good

    pub no_size : {r : Refusal} → read_be_u32 b total_size_at ≡ refused r → header_of b ≡ refused r
    unfolding read.header
    no_size e = refuses (then_ok _ _ m.is (then_ok _ _ (check_ok _ good_magic) (then_refused _ _ e)))

    pub bad_size : {s : ℕ} → read_be_u32 b total_size_at ≡ ok s → s ≢ length b → header_of b ≡ refused size_mismatch
    unfolding read.header
    bad_size {s} e n = refuses (then_ok _ _ m.is (then_ok _ _ (check_ok _ good_magic) (then_ok _ _ e (then_refused _ _ (check_no _ (ne_eqb s (length b) n))))))

  sized : Sized b → read.header b ≡ after_size b
  unfolding read.header after_size words_from
  sized s =
      then_ok _ _ s.before.is (then_ok _ _ (check_ok _ (good_magic s.before))
      (then_ok _ _ s.is (then_ok _ _ (check_ok _ (eq-eqb s.word (length b) s.good)) refl)))

  pub no_version : {r : Refusal} → Sized b → read_be_u32 b version_at ≡ refused r → header_of b ≡ refused r
  unfolding after_size
  no_version s e = refuses (sized s ∙ then_refused _ _ e)

  pub bad_version : {v : ℕ} → Sized b → read_be_u32 b version_at ≡ ok v → v ≢ version → header_of b ≡ refused version_not_supported
  unfolding after_size
  bad_version {v} s e n = refuses (sized s ∙ then_ok _ _ e (then_refused _ _ (check_no _ (ne_eqb v version n))))

  -- the words that a load needs, once the version is judged
  module _ (j : Judged b) where
    judged : {r : Outcome read.Header} → words_from b ≡ r → read.header b ≡ r
    unfolding after_size
    judged e = sized j.before ∙ then_ok _ _ j.is (then_ok _ _ (check_ok _ (eq-eqb j.word version j.good)) e)

    pub no_structure : {r : Refusal} → read_be_u32 b structure_at ≡ refused r → header_of b ≡ refused r
    unfolding words_from
    no_structure e = refuses (judged (then_refused _ _ e))

    module _ {s : ℕ} (is_structure : read_be_u32 b structure_at ≡ ok s) where
      pub no_strings : {r : Refusal} → read_be_u32 b strings_at ≡ refused r → header_of b ≡ refused r
      unfolding words_from
      no_strings e = refuses (judged (then_ok _ _ is_structure (then_refused _ _ e)))

      module _ {n : ℕ} (is_strings : read_be_u32 b strings_at ≡ ok n) where
        pub no_reservations : {r : Refusal} → read_be_u32 b reservations_at ≡ refused r → header_of b ≡ refused r
        unfolding words_from
        no_reservations e = refuses (judged (then_ok _ _ is_structure (then_ok _ _ is_strings (then_refused _ _ e))))

    -- the words before the version are there where the version is, so a total read gives them
    pub there : (p : ℕ) → p ≤ version_at → read_be_u32 b p ≡ ok (or_zero (read_be_u32 b p))
    there p h = let inside : p + 4 ≤ length b = omega (arith, read_inside b 4 version_at j.is) in read_there b 4 p inside ∙ ap ok (sym (word_total b p inside))

    -- so the last word alone decides
    last : {r : Outcome read.Header}
        → (read_be_u32 b boot_cpu_at >>= λ boot. ok (record {
          structure = or_zero (read_be_u32 b structure_at);
          strings = or_zero (read_be_u32 b strings_at);
          reservations = or_zero (read_be_u32 b reservations_at);
          boot = boot;
        })) ≡ r → read.header b ≡ r
    unfolding words_from
    last e =
        judged (then_ok _ _ (there structure_at (omega arith)) (then_ok _ _ (there strings_at (omega arith)) (then_ok _ _ (there reservations_at (omega arith)) e)))

    pub no_boot : {r : Refusal} → read_be_u32 b boot_cpu_at ≡ refused r → header_of b ≡ refused r
    no_boot e = refuses (last (then_refused _ _ e))

    -- the whole header, by what the reads gave
    pub whole : {s n r boot : ℕ} → s ≡ or_zero (read_be_u32 b structure_at) → n ≡ or_zero (read_be_u32 b strings_at) → r ≡ or_zero (read_be_u32 b reservations_at)
        → read_be_u32 b boot_cpu_at ≡ ok boot → header_of b ≡ ok (record { structure = s; strings = n; reservations = r; boot = boot })
    unfolding header_of
    whole {s} {n} {r} {boot} e₁ e₂ e₃ e = then_ok _ _ (last (then_ok _ _ e refl)) (rw (e₁, e₂, e₃))

-- ---- a header that was read: the blob is small, and so is every offset

pub record Fits (b : List ℕ) (h : Header) : Type 0 where
  pub blob : length b < 2 ^ 32
  pub structure : h.structure < 2 ^ 32
  pub strings : h.strings < 2 ^ 32
  pub reservations : h.reservations < 2 ^ 32

word_fits : (b : List ℕ) (p : ℕ) {n : ℕ} → AreBytes b → read_be_u32 b p ≡ ok n → n < 2 ^ 32
word_fits b p all e =
    let inside = read_inside b 4 p e in
    rw (ok_same (sym (read_there b 4 p inside) ∙ e)) at (value_small b p 4 all inside)

pub header_fits : (b : List ℕ) (h : Header) → AreBytes b → header_of b ≡ ok h → Fits b h
unfolding header_of read.header
header_fits b h all e =
    step _ _ e λ g isG e.
    step _ _ isG λ _ _ isG.
    step _ _ isG λ _ _ isG.
    step _ _ isG λ size isSize isG.
    step _ _ isG λ _ same isG.
    step _ _ isG λ _ _ isG.
    step _ _ isG λ _ _ isG.
    step _ _ isG λ structure isStructure isG.
    step _ _ isG λ strings isStrings isG.
    step _ _ isG λ reservations isReservations isG.
    step _ _ isG λ boot _ isG.
    let words : record { structure = structure; strings = strings; reservations = reservations; boot = boot } ≡ g = ok_same isG in
    let blob : length b < 2 ^ 32 = rw (eqb-true size (length b) (checked _ _ same)) at (word_fits b total_size_at all isSize) in
    subst (Fits b) (ok_same e)
    (subst (λ (g : read.Header). Fits b (record { structure = g.structure; strings = g.strings; reservations = g.reservations; boot = g.boot })) words
    (record {
      blob = blob;
      structure = word_fits b structure_at all isStructure;
      strings = word_fits b strings_at all isStrings;
      reservations = word_fits b reservations_at all isReservations;
    }))
