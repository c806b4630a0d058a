-- The first name of a path and what follows it, by the name's end r. Assumes nothing.
use Rattle.std.proofs.Common.{◌≡◌, ℕ, suc, ◌+◌, ◌-◌, ◌<◌, ◌≤◌, Bool, true, false, eqb, eqb-true, List, [], ◌∷◌, length, take, drop, length-drop, drop-drop, sym, refl, ap, ◌∙◌, add-one, arith}
use borrow.Author.Rules.{part_to_end}
use borrow.Author.Tests.{eqb-false}
use Rattle.format.specs.Bytes.{part}
use Rattle.format.specs.Find.{SLASH, head, rest}
use Rattle.format.proofs.Tools.{tested, if_yes, if_no}
use Rattle.names.proofs.NameLaws.{head_inside}

-- whether there is a path, as the code asks
pub some : (p : List ℕ) {t : Bool} → t ≡ eqb (length p) 0 → t ≡ false → 0 < length p
some p e t = omega (arith, eqb-false _ _ (sym e ∙ t))

pub none : (p : List ℕ) {t : Bool} → t ≡ eqb (length p) 0 → t ≡ true → length p ≤ 0
none p e t = omega (arith, eqb-true _ _ (sym e ∙ t))

head_is : (p : List ℕ) → head p ≡ take (length (head p)) p
unfolding head
head_is [] = refl
head_is (c ∷ p) = tested (eqb c SLASH) (λ e. rw (if_yes _ _ e)) (λ e. rw (if_no _ _ e) (ap (λ s. c ∷ s) (head_is p)))

rest_is : (p : List ℕ) → rest p ≡ drop (suc (length (head p))) p
unfolding head rest
rest_is [] = refl
rest_is (c ∷ p) = tested (eqb c SLASH) (λ e. rw (if_yes _ _ e, if_yes _ _ e)) (λ e. rw (if_no _ _ e, if_no _ _ e) (rest_is p))

module _ (p : List ℕ) (r : ℕ) (end : r ≡ length (head p)) where
  pub name_inside : r ≤ length p
  name_inside = omega (arith, head_inside p)

  -- the path, cut where its first name ends
  pub name_cut : {name : List ℕ} → name ≡ take r p → head p ≡ name
  name_cut e = head_is p ∙ rw (← end) (sym e)

  rest_later : {later : List ℕ} → later ≡ drop r p → rest p ≡ drop 1 later
  rest_later e = rest_is p ∙ rw (← end, e) (sym (drop-drop 1 r p ∙ ap (λ k. drop k p) (add-one r)))

  pub rest_cut : {later below : List ℕ} {slash : ℕ} → later ≡ drop r p → later ≡ slash ∷ below → rest p ≡ below
  rest_cut e f = rest_later e ∙ ap (drop 1) f

  -- what follows the name, as a part
  pub rest_lent : rest p ≡ part p (r + 1) (length p - (r + 1))
  unfolding part
  rest_lent =
      let later : rest p ≡ drop (r + 1) p = rest_is p ∙ rw (add-one r, end) in
      later ∙ sym (part_to_end p (r + 1))

  pub last_cut : {later : List ℕ} → later ≡ drop r p → length later ≡ 0 → length (rest p) ≤ 0
  last_cut e f = rw (rest_later e, length-drop) (omega arith)
