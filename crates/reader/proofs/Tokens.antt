-- What a token that was read says of the word that stands there. Assumes nothing.
use Rattle.std.specs.Prelude.{◌≡◌, ◌≢◌, ℕ, List, eqb, Ok, Err}
use mathlib.Core.Path.{refl, sym, ap, ◌∙◌}
use borrow.Author.Tests.{eqb-true}
use Rattle.format.specs.Answer.{Refusal, Outcome, ok, refused, ◌>>=◌, unexpected_end_of_input}
use Rattle.format.specs.Format.{BEGIN_NODE, END_NODE, PROP}
use Rattle.format.specs.Results.{outcome, outcome_of}
use Rattle.format.specs.Read.{read_be_u32}
use Rattle.format.proofs.Answer.{never, ok_same, refused_same, then_ok, then_refused}
use Rattle.format.proofs.Tools.{tested}
use Rattle.reader.specs.declared.SliceReadError.{SliceReadError}
use Rattle.reader.specs.declared.Token.{Token}
use Rattle.reader.specs.declared.Token.TheVariants.{BeginNode, EndNode, Prop}
use Rattle.reader.specs.Outcomes.{why_of, token_of, number_of, token_at}
use Rattle.reader.proofs.Outcomes.{why_short}

-- a word is its token's
pub number_token : (n : ℕ) → number_of (token_of n) ≡ n
unfolding number_of token_of
number_token n =
    tested (eqb n BEGIN_NODE) (λ e. rw (e) (sym (eqb-true n BEGIN_NODE e))) λ e.
    tested (eqb n END_NODE) (λ f. rw (e, f) (sym (eqb-true n END_NODE f))) λ f.
    tested (eqb n PROP) (λ g. rw (e, f, g) (sym (eqb-true n PROP g))) λ g.
    rw (e, f, g)

module _ (b : List ℕ) (p : ℕ) (t : Token) (e : outcome why_of (Ok t) ≡ token_at b p) where
  -- the word that stands there
  pub token_word : read_be_u32 b p ≡ ok (number_of t)
  unfolding outcome_of token_at ◌>>=◌
  token_word = go (read_be_u32 b p) refl
    where
      go : (m : Outcome ℕ) → read_be_u32 b p ≡ m → read_be_u32 b p ≡ ok (number_of t)
      go (ok n) k =
          let same : t ≡ token_of n = ok_same (e ∙ ap (λ m. m >>= λ n. ok (token_of n)) k) in
          k ∙ ap ok (sym (ap number_of same ∙ number_token n))
      go (refused r) k = absurd (never (sym (e ∙ ap (λ m. m >>= λ n. ok (token_of n)) k)))

  -- where it is none of those, the word is not theirs
  other_word : (u : Token) → (t ≡ u → ⊥) → token_of (number_of u) ≡ u → number_of t ≢ number_of u
  unfolding outcome_of token_at ◌>>=◌
  other_word u n own k = go (read_be_u32 b p) refl
    where
      go : (m : Outcome ℕ) → read_be_u32 b p ≡ m → ⊥
      go (ok w) l =
          let same : t ≡ token_of w = ok_same (e ∙ ap (λ m. m >>= λ n. ok (token_of n)) l) in
          let word : w ≡ number_of u = sym (number_token w) ∙ sym (ap number_of same) ∙ k in
          n (same ∙ ap token_of word ∙ own)
      go (refused r) l = never (sym (e ∙ ap (λ m. m >>= λ n. ok (token_of n)) l))

  pub not_begin : (t ≡ BeginNode → ⊥) → number_of t ≢ 1
  unfolding number_of token_of BEGIN_NODE END_NODE PROP
  not_begin n = other_word BeginNode n refl

  pub not_end : (t ≡ EndNode → ⊥) → number_of t ≢ 2
  unfolding number_of token_of BEGIN_NODE END_NODE PROP
  not_end n = other_word EndNode n refl

  pub not_prop : (t ≡ Prop → ⊥) → number_of t ≢ 3
  unfolding number_of token_of BEGIN_NODE END_NODE PROP
  not_prop n = other_word Prop n refl

module _ {t : Token} where
  pub is_begin : t ≡ BeginNode → number_of t ≡ 1
  unfolding number_of BEGIN_NODE END_NODE PROP
  is_begin e = ap number_of e

  pub is_end : t ≡ EndNode → number_of t ≡ 2
  unfolding number_of BEGIN_NODE END_NODE PROP
  is_end e = ap number_of e

  pub is_prop : t ≡ Prop → number_of t ≡ 3
  unfolding number_of BEGIN_NODE END_NODE PROP
  is_prop e = ap number_of e

-- where no 4 bytes are, no token is
pub no_token : (b : List ℕ) (p : ℕ) {r : Refusal} → read_be_u32 b p ≡ refused r → token_at b p ≡ refused r
unfolding token_at
no_token b p e = then_refused _ _ e

pub token_is : (b : List ℕ) (p : ℕ) {n : ℕ} {t : Token} → read_be_u32 b p ≡ ok n → t ≡ token_of n → outcome why_of (Ok t) ≡ token_at b p
unfolding outcome_of token_at
token_is b p e k = sym (then_ok _ _ e (ap ok (sym k)))

pub word_missing : (b : List ℕ) (p : ℕ) (x : SliceReadError) → outcome {T = Token} why_of (Err x) ≡ token_at b p → read_be_u32 b p ≡ refused unexpected_end_of_input
unfolding outcome_of token_at ◌>>=◌
word_missing b p x e = go (read_be_u32 b p) refl
  where
    go : (m : Outcome ℕ) → read_be_u32 b p ≡ m → read_be_u32 b p ≡ refused unexpected_end_of_input
    go (ok n) k = absurd (never (e ∙ ap (λ m. m >>= λ n. ok (token_of n)) k))
    go (refused r) k = k ∙ ap refused (sym (refused_same (e ∙ ap (λ m. m >>= λ n. ok (token_of n)) k)) ∙ why_short x)
