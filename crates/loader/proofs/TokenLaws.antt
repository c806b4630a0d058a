-- What the kind of a token says of the word that it is, and the other way. Assumes nothing.
use mathlib.Core.Path.{◌≡◌, refl, sym, ap, ◌∙◌}
use Prim.Native.Nat.{ℕ}
use Rattle.format.specs.Format.{NONE, BEGIN_NODE, END_NODE, PROP}
use Rattle.reader.specs.declared.Token.{Token}
use Rattle.reader.specs.declared.Token.TheVariants.{BeginNode, EndNode, Prop, Other}
use Rattle.reader.specs.Outcomes.{token_of, number_of}
use Rattle.reader.proofs.Tokens.{number_token}
use Rattle.loader.specs.Pass.{child_row}

module _ {w : ℕ} {t : Token} (e : t ≡ token_of w) where
  pub begin_word : t ≡ BeginNode → w ≡ BEGIN_NODE
  unfolding number_of
  begin_word k = sym (number_token w) ∙ ap number_of (sym e ∙ k)

  pub begin_token : w ≡ BEGIN_NODE → t ≡ BeginNode
  unfolding token_of BEGIN_NODE END_NODE PROP
  begin_token k = e ∙ ap token_of k

  pub prop_word : t ≡ Prop → w ≡ PROP
  unfolding number_of
  prop_word k = sym (number_token w) ∙ ap number_of (sym e ∙ k)

  pub prop_token : w ≡ PROP → t ≡ Prop
  unfolding token_of BEGIN_NODE END_NODE PROP
  prop_token k = e ∙ ap token_of k

-- no other token opens a first child
pub no_child : (t : Token) (row : ℕ) → (t ≡ BeginNode → ⊥) → child_row t row ≡ NONE
unfolding child_row
no_child BeginNode row n = absurd (n refl)
no_child EndNode row n = refl
no_child Prop row n = refl
no_child (Other n) row m = refl
