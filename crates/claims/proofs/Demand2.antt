-- Demand 2: "Every answer is pinned down, equals the Rust's wherever the Rust gives one (unless refused with 7 to 10), and a blob is
-- accepted exactly when it encodes some tree. That tree is the only one." Assumes, for acceptance, that the blob's elements are bytes,
-- which a `&[u8]` brings with it.
use mathlib.Core.Path.{◌≡◌, refl, sym, ap, ◌∙◌}
use mathlib.Core.Logic.{◌⊎◌}
use mathlib.Core.List.{List, ◌∷◌}
use Prim.Native.Nat.{ℕ}
use Rattle.std.specs.Prelude.{Result, Ok, Err}
use Rattle.format.specs.Answer.{first, code, Limit, Outcome, ok, refused, numbers}
use Rattle.format.specs.Bytes.{AreBytes}
use Rattle.format.specs.Tree.{Tree}
use Rattle.format.specs.Rules.{Rules, ours, original}
use Rattle.format.specs.Encodes.{Encodes}
use Rattle.format.specs.Read as read
use Rattle.format.specs.Load.{Tables, tree_numbers, tables_after, Loads, Accepted}
use Rattle.format.specs.Load as load
use Rattle.format.proofs.Answer.{refusal_not_0, numbers_refused}
use Rattle.format.proofs.Complete as complete
use Rattle.format.proofs.Original as origin
use Rattle.format.proofs.Load as laws
use Rattle.survey.specs.Outcomes.{why_of}
use Rattle.loader.specs.Numbers.{loaded_numbers}
use Rattle.survey.specs.declared.DeviceTreeError.{DeviceTreeError}
use Rattle.survey.specs.declared.DeviceTree.{DeviceTree}

-- a load answered 0 with that tree, and left its rows
pub record Said (lent : Tables) (b : List ℕ) (r : Result DeviceTree DeviceTreeError) (left : Tables) (t : Tree) : Type 0 where
  pub numbers_are : loaded_numbers r ≡ 0 ∷ tree_numbers t
  pub tables_are : left ≡ tables_after lent b (ok t)

-- some tree is encoded, with depth and room
pub record Encoded (lent : Tables) (b : List ℕ) : Type 0 where
  pub tree : Tree
  pub is : Accepted lent b tree

-- Whatever encodes a tree, with depth and room, is accepted as that tree.
pub accepted : {lent left : Tables} {b : List ℕ} (r : Result DeviceTree DeviceTreeError) (t : Tree) → AreBytes b → Loads lent b (loaded_numbers r) left → Accepted lent b t → Said lent b r left t
unfolding numbers
accepted {lent} {left} {b} r t all l a =
    let e : load.load lent b ≡ ok t = (laws.accepted lent b all t).1 a in
    record { numbers_are = l.answers ∙ ap (numbers tree_numbers) e; tables_are = l.leaves ∙ ap (tables_after lent b) e }

accepted_by : (lent : Tables) (b : List ℕ) → AreBytes b → (m : Outcome Tree) → load.load lent b ≡ m → first (numbers tree_numbers m) ≡ 0 → Encoded lent b
unfolding numbers
accepted_by lent b all (ok t) e z = record { tree = t; is = (laws.accepted lent b all t).0 e }
accepted_by lent b all (refused r) e z = absurd (refusal_not_0 r z)

-- And nothing else is.
pub accepted_only : {lent left : Tables} {b : List ℕ} (tree : DeviceTree) → AreBytes b → Loads lent b (loaded_numbers (Ok tree)) left → Encoded lent b
unfolding loaded_numbers first
accepted_only {lent} {left} {b} tree all l = accepted_by lent b all (load.load lent b) refl (sym (ap first l.answers))

-- A blob encodes at most one tree.
pub only_tree : (rules : Rules) (b : List ℕ) (t u : Tree) → Encodes rules b t → Encodes rules b u → t ≡ u
only_tree = complete.only_tree

-- An answer other than 7 to 10 is the Rust's.
pub as_the_original : {lent left : Tables} {b : List ℕ} (r : Result DeviceTree DeviceTreeError) → Loads lent b (loaded_numbers r) left → (Limit (first (loaded_numbers r)) → ⊥)
    → loaded_numbers r ≡ numbers tree_numbers (read.load original b)
as_the_original {lent} {left} {b} r l n =
    l.answers ∙ ap (numbers tree_numbers) (origin.as_the_original lent b (λ h. n (rw (l.answers, ← laws.code_first (load.load lent b)) h)))

pub the_original_never_7 : (b : List ℕ) → code (read.load original b) ≡ 7 → ⊥
the_original_never_7 = origin.original_never_7

-- Each refusal: the first failure of reading, then 8, 9, 10 by the capacities; and at no other time.
pub each_refusal : {lent left : Tables} {b : List ℕ} (why : DeviceTreeError) → Loads lent b (loaded_numbers (Err why)) left
    → (read.load ours b ≡ refused (why_of why)) ⊎ laws.Roomless lent b (why_of why)
unfolding loaded_numbers
each_refusal {lent} {left} {b} why l = (laws.each_refusal lent b (why_of why)).0 (numbers_refused tree_numbers (load.load lent b) (why_of why) (sym l.answers))

pub refused_when : {lent left : Tables} {b : List ℕ} (r : Result DeviceTree DeviceTreeError) (why : DeviceTreeError) → Loads lent b (loaded_numbers r) left
    → (read.load ours b ≡ refused (why_of why)) ⊎ laws.Roomless lent b (why_of why) → loaded_numbers r ≡ loaded_numbers (Err why)
unfolding loaded_numbers numbers
refused_when {lent} {left} {b} r why l w = l.answers ∙ ap (numbers tree_numbers) ((laws.each_refusal lent b (why_of why)).1 w)
