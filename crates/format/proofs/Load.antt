-- A load accepts a blob exactly when it encodes some tree and depth and room suffice; a refusal leaves the tables; the answer and the
-- tables are determined. Assumes, for acceptance, that the blob's elements are bytes.
use Rattle.std.specs.Prelude.{◌≡◌, ℕ, ◌*◌, ◌/◌, ◌≤◌, Bool, true, false, ◌⊎◌, ◌↔◌, List, length}
use mathlib.Core.Path.{refl, sym, ap, ◌∙◌, subst}
use mathlib.Core.Logic.{inl, inr, ⊎_elim}
use native.Mathlib.Omega.{arith}
use native.Mathlib.Nat.{le_trans, mul_comm, mul-le-mul_left, div-mul-le_self}
use borrow.Author.Tests.{leb-true, leb-false, le-leb, lt-leb}
use Rattle.format.specs.Bytes.{AreBytes}
use Rattle.format.specs.Answer.{Refusal, refusal_numbers, first, code, Outcome, ok, refused, ◌>>=◌, check, numbers}
use Rattle.format.specs.Tree.{Tree}
use Rattle.format.specs.Rules.{ours}
use Rattle.format.specs.Load.{Tables, tree_numbers, capacity, room, load, tables_after, Loads, Measures, Accepted, NoRoom, reservations, nodes, properties}
use Rattle.format.specs.Read as read
use Rattle.format.proofs.Answer.{never, ok_same, step, then_ok, then_refused, checked, check_ok, check_no, check_went}
use Rattle.format.proofs.Sound.{sound}
use Rattle.format.proofs.Complete.{complete}

-- Demand 2: accepted exactly when it encodes some tree.
pub accepted : (lent : Tables) (b : List ℕ) → AreBytes b → (t : Tree) → (load lent b ≡ ok t) ↔ Accepted lent b t
unfolding load read.load room
accepted lent b all t = (there, back)
  where
    there : load lent b ≡ ok t → Accepted lent b t
    there e =
        step _ _ e λ u hu e.
        step _ _ e λ _ hr e.
        step _ _ e λ _ hn e.
        step _ _ e λ _ hp e.
        let s = sound b all ours (ours.depth_limit b) u hu in
        subst (Accepted lent b) (ok_same e) (record {
          encodes = s.encodes;
          deep = s.deep;
          reservations_fit = leb-true _ _ (checked _ _ hr);
          nodes_fit = leb-true _ _ (checked _ _ hn);
          properties_fit = leb-true _ _ (checked _ _ hp);
        })

    back : Accepted lent b t → load lent b ≡ ok t
    back a =
        then_ok _ _ (complete ours b t (ours.depth_limit b) a.encodes a.deep)
        (then_ok _ _ (check_ok _ (le-leb _ _ a.reservations_fit))
        (then_ok _ _ (check_ok _ (le-leb _ _ a.nodes_fit))
        (then_ok _ _ (check_ok _ (le-leb _ _ a.properties_fit)) refl)))

-- Demand 2, each refusal: it is the first failure of reading, or what was read has no room.
pub record Roomless (lent : Tables) (b : List ℕ) (r : Refusal) : Type 0 where
  pub tree : Tree
  pub read_as : read.load ours b ≡ ok tree
  pub why : NoRoom lent tree r

room_refuses : (lent : Tables) (t : Tree) (r : Refusal) → room lent t ≡ refused r → NoRoom lent t r
unfolding room
room_refuses lent t r e =
    check_went _ _ _ e
    (λ full same. subst (NoRoom lent t) same (reservations (leb-false _ _ full)))
    λ r-fits e.
    check_went _ _ _ e
    (λ full same. subst (NoRoom lent t) same (nodes (leb-true _ _ r-fits) (leb-false _ _ full)))
    λ n-fits e.
    check_went _ _ _ e
    (λ full same. subst (NoRoom lent t) same (properties (leb-true _ _ r-fits) (leb-true _ _ n-fits) (leb-false _ _ full)))
    λ _ e. absurd (never (sym e))

no_room : (lent : Tables) (t : Tree) {r : Refusal} → NoRoom lent t r → room lent t ≡ refused r
unfolding room
no_room lent t (reservations full) = then_refused _ _ (check_no _ (lt-leb _ _ full))
no_room lent t (nodes r-fits full) = then_ok _ _ (check_ok _ (le-leb _ _ r-fits)) (then_refused _ _ (check_no _ (lt-leb _ _ full)))
no_room lent t (properties r-fits n-fits full) =
    then_ok _ _ (check_ok _ (le-leb _ _ r-fits)) (then_ok _ _ (check_ok _ (le-leb _ _ n-fits)) (then_refused _ _ (check_no _ (lt-leb _ _ full))))

refusal_of : (lent : Tables) (b : List ℕ) (r : Refusal) (m : Outcome Tree) → read.load ours b ≡ m → (m >>= λ t. room lent t) ≡ refused r
    → (read.load ours b ≡ refused r) ⊎ Roomless lent b r
unfolding ◌>>=◌
refusal_of lent b r (ok t) e h = inr (record { tree = t; read_as = e; why = room_refuses lent t r h })
refusal_of lent b r (refused s) e h = inl (e ∙ h)

pub each_refusal : (lent : Tables) (b : List ℕ) (r : Refusal) → (load lent b ≡ refused r) ↔ ((read.load ours b ≡ refused r) ⊎ Roomless lent b r)
unfolding load
each_refusal lent b r = (
  λ e. refusal_of lent b r (read.load ours b) refl e,
  λ w. ⊎_elim (λ e. then_refused _ _ e) (λ w. then_ok _ _ w.read_as (no_room lent w.tree w.why)) w,
)

-- Demand 1: a refused load leaves its tables as they were.
pub refused_leaves : {lent left : Tables} {b answer : List ℕ} {r : Refusal} → Loads lent b answer left → load lent b ≡ refused r → left ≡ lent
unfolding tables_after
refused_leaves {lent} {left} {b} l e = l.leaves ∙ ap (tables_after lent b) e

-- Determined: a second answer that fits, with its tables, is the same.
pub loads_determined : {lent left left' : Tables} {b answer answer' : List ℕ} → Loads lent b answer left → Loads lent b answer' left'
    → (answer ≡ answer') × (left ≡ left')
loads_determined l l' = (l.answers ∙ sym l'.answers, l.leaves ∙ sym l'.leaves)

pub measures_determined : {b answer answer' : List ℕ} → Measures b answer → Measures b answer' → answer ≡ answer'
measures_determined m m' = m.answers ∙ sym m'.answers

-- the code of an outcome is the first of its numbers
pub code_first : (m : Outcome Tree) → code m ≡ first (numbers tree_numbers m)
unfolding code numbers first
code_first (ok t) = refl
code_first (refused r) = refl

-- 8, 9, 10
abbrev RoomCode : ℕ → Type 0
RoomCode n = (8 ≤ n) × (n ≤ 10)

checked_or : (t : Bool) (r : Refusal) → RoomCode (first (refusal_numbers r)) → {A : Type 0} (f : Unit {0} → Outcome A) → (RoomCode (code (check t r >>= f)) → ⊥) → (check t r >>= f) ≡ f tt
unfolding check ◌>>=◌ code
checked_or true r h f n = refl
checked_or false r h f n = absurd (n h)

-- a tree has room, or the answer is 8, 9 or 10
pub room_or : (lent : Tables) (t : Tree) → ((8 ≤ code (room lent t)) × (code (room lent t) ≤ 10) → ⊥) → room lent t ≡ ok t
unfolding room refusal_numbers first
room_or lent t n =
    let e₁ = checked_or _ _ (omega arith) _ n in
    let n₂ = rw e₁ at n in
    let e₂ = checked_or _ _ (omega arith) _ n₂ in
    let n₃ = rw e₂ at n₂ in
    e₁ ∙ e₂ ∙ checked_or _ _ (omega arith) _ n₃

measured_by : (lent : Tables) (m : Outcome Tree) → ((8 ≤ first (numbers tree_numbers (m >>= λ t. room lent t))) × (first (numbers tree_numbers (m >>= λ t. room lent t)) ≤ 10) → ⊥)
    → (m >>= λ t. room lent t) ≡ m
unfolding ◌>>=◌
measured_by lent (ok t) n = room_or lent t (λ h. n (rw code_first at h))
measured_by lent (refused r) n = refl

-- Unless a load has no room, it answers what measure answers.
pub load_measures : (lent : Tables) (b : List ℕ) → ((8 ≤ first (numbers tree_numbers (load lent b))) × (first (numbers tree_numbers (load lent b)) ≤ 10) → ⊥)
    → numbers tree_numbers (load lent b) ≡ numbers tree_numbers (read.load ours b)
unfolding load
load_measures lent b n = ap (numbers tree_numbers) (measured_by lent (read.load ours b) n)

-- rows that fit a capacity fit the table
pub capacity_fits : (width n : ℕ) (table : List ℕ) → n ≤ capacity width table → width * n ≤ length table
unfolding capacity
capacity_fits width n table h = le_trans (mul-le-mul_left width h) (rw (mul_comm width (length table / width)) (div-mul-le_self (length table) width))
