-- What a path finds is a place of the tree: the row that it gives is the row of the node that it gives. So a property looked up at that
-- row is the property of that node. By recursion on the tree. Assumes nothing.
use Rattle.std.specs.Prelude.{◌≡◌, ℕ, ◌+◌, ◌<◌, ◌≤◌, Bool, true, false, List, [], ◌∷◌}
use mathlib.Core.Path.{refl, sym, ◌∙◌, subst}
use native.Mathlib.Omega.{arith}
use borrow.Author.Tests.{eq-eqb, ne_eqb, lt-ltb, le-ltb}
use Rattle.format.specs.Choice.{when◌then◌else◌}
use Rattle.format.specs.Answer.{Outcome, ok, ◌>>=◌}
use Rattle.format.specs.Tree.{Property, Node, node, Nodes, none, ◌&◌, node_count, node_counts, Tree}
use Rattle.format.specs.Encodes.{after_properties, after_name, after_node}
use Rattle.format.specs.Find.{head, rest, same, Place, name_of, find_below, find_among, find_from, find, root_place, place_below, place_among, place_of}
use Rattle.format.proofs.Tools.{if_yes, if_no, if_went}
use Rattle.format.proofs.Answer.{never, ok_same, step}

-- the place is one of the rows from `row` on, n of them, and is where `place_of` finds that row
record Stands (o : ℕ → Outcome Place) (row n : ℕ) (place : Place) : Type 0 where
  low : row ≤ place.row
  high : place.row < row + n
  is : o place.row ≡ ok place

-- the rows below a node, of the first of some nodes, of the later ones
module _ (name : List ℕ) (xs : List Property) (cs : Nodes) (row p : ℕ) (place : Place) where
  stands_under : Stands (place_among cs (row + 1) (after_properties (after_name p name) xs)) (row + 1) (node_counts cs) place
      → Stands (place_below (node name xs cs) row p) row (node_count (node name xs cs)) place
  unfolding place_below node_count
  stands_under s = record {
    low = omega (arith, s.low);
    high = omega (arith, s.high);
    is = if_no _ _ (ne_eqb place.row row (omega (arith, s.low))) ∙ s.is;
  }

module _ (n : Node) (ns : Nodes) (row p : ℕ) (place : Place) where
  stands_first : Stands (place_below n row p) row (node_count n) place → Stands (place_among (n & ns) row p) row (node_counts (n & ns)) place
  unfolding place_among node_counts
  stands_first s = record {
    low = s.low;
    high = omega (arith, s.high);
    is = if_yes _ _ (lt-ltb place.row (row + node_count n) s.high) ∙ s.is;
  }

  stands_later : Stands (place_among ns (row + node_count n) (after_node p n)) (row + node_count n) (node_counts ns) place
      → Stands (place_among (n & ns) row p) row (node_counts (n & ns)) place
  unfolding place_among node_counts
  stands_later s = record {
    low = omega (arith, s.low);
    high = omega (arith, s.high);
    is = if_no _ _ (le-ltb place.row (row + node_count n) s.low) ∙ s.is;
  }

stands_here : (name : List ℕ) (xs : List Property) (cs : Nodes) (row p : ℕ)
    → Stands (place_below (node name xs cs) row p) row (node_count (node name xs cs)) (record { here = node name xs cs; row = row; position = p })
unfolding place_below node_count
stands_here name xs cs row p = record { low = omega arith; high = omega arith; is = if_yes _ _ (eq-eqb row row refl) }

-- what a path finds stands
mutual
  unfolding find_below

  found_below : (n : Node) (row p : ℕ) (path : List ℕ) (place : Place) → find_below n row p path ≡ ok place → Stands (place_below n row p) row (node_count n) place
  found_below (node name xs cs) row p [] place e = rw (← ok_same e) (stands_here name xs cs row p)
  found_below (node name xs cs) row p (c ∷ path) place e = stands_under name xs cs row p place (found_among cs (row + 1) _ (head (c ∷ path)) (rest (c ∷ path)) place e)

  found_among : (ns : Nodes) (row p : ℕ) (first later : List ℕ) (place : Place) → find_among ns row p first later ≡ ok place → Stands (place_among ns row p) row (node_counts ns) place
  found_among none row p first later place e = absurd (never e)
  found_among (n & ns) row p first later place e =
      if_went _ _ _ e
      (λ t e. stands_first n ns row p place (found_below n row p later place e))
      (λ t e. stands_later n ns row p place (found_among ns _ _ first later place e))

-- a place of a part of the tree is a place of the whole
mutual
  unfolding place_below

  inside_below : (n : Node) (row p i : ℕ) (start : Place) → place_below n row p i ≡ ok start
      → (place : Place) → Stands (place_below start.here start.row start.position) start.row (node_count start.here) place → Stands (place_below n row p) row (node_count n) place
  inside_below (node name xs cs) row p i start e place s =
      if_went _ _ _ e
      (λ t e. subst (λ at. Stands (place_below at.here at.row at.position) at.row (node_count at.here) place) (sym (ok_same e)) s)
      (λ t e. stands_under name xs cs row p place (inside_among cs _ _ i start e place s))

  inside_among : (ns : Nodes) (row p i : ℕ) (start : Place) → place_among ns row p i ≡ ok start
      → (place : Place) → Stands (place_below start.here start.row start.position) start.row (node_count start.here) place → Stands (place_among ns row p) row (node_counts ns) place
  inside_among none row p i start e place s = absurd (never e)
  inside_among (n & ns) row p i start e place s =
      if_went _ _ _ e
      (λ t e. stands_first n ns row p place (inside_below n row p i start e place s))
      (λ t e. stands_later n ns row p place (inside_among ns _ _ i start e place s))

-- What a path finds from a place of the tree is a place of the tree.
pub found_place : (b : List ℕ) (t : Tree) (i : ℕ) (start : Place) (path : List ℕ) (place : Place)
    → place_of b t i ≡ ok start → find_from start path ≡ ok place → place_of b t place.row ≡ ok place
unfolding place_of find_from
found_place b t i start path place is e =
    (inside_below t.root 0 _ i start is place (found_below start.here start.row start.position path place e)).is

pub found_tree_place : (b : List ℕ) (t : Tree) (path : List ℕ) (place : Place) → find b t path ≡ ok place → place_of b t place.row ≡ ok place
unfolding find place_of find_from root_place
found_tree_place b t path place e = step _ _ e λ below _ e. (found_below t.root 0 _ below place e).is

-- ---- The node that is found does not depend on how rows and positions are counted: it is the Rust's.

here_of : Outcome Place → Outcome Node
here_of m = m >>= λ place. ok place.here

here_if : (t : Bool) (x x' y y' : Outcome Place) → here_of x ≡ here_of x' → here_of y ≡ here_of y' → here_of (when t then x else y) ≡ here_of (when t then x' else y')
unfolding when◌then◌else◌
here_if true x x' y y' h k = h
here_if false x x' y y' h k = k

mutual
  unfolding find_below here_of ◌>>=◌

  pub node_found : (n : Node) (row p row' p' : ℕ) (path : List ℕ) → (find_below n row p path >>= λ place. ok place.here) ≡ (find_below n row' p' path >>= λ place. ok place.here)
  node_found (node name xs cs) row p row' p' [] = refl
  node_found (node name xs cs) row p row' p' (c ∷ path) = nodes_found cs _ _ _ _ (head (c ∷ path)) (rest (c ∷ path))

  nodes_found : (ns : Nodes) (row p row' p' : ℕ) (first later : List ℕ) → (find_among ns row p first later >>= λ place. ok place.here) ≡ (find_among ns row' p' first later >>= λ place. ok place.here)
  nodes_found none row p row' p' first later = refl
  nodes_found (n & ns) row p row' p' first later = here_if (same (name_of n) first) _ _ _ _ (node_found n row p row' p' later) (nodes_found ns _ _ _ _ first later)
