-- Laws of rows: how many there are, where those of a part of the tree stand, what a table of their numbers holds, and storing them
-- in pieces. Assumes nothing.
use Rattle.std.specs.Prelude.{◌≡◌, ℕ, suc, ◌+◌, ◌*◌, ◌<◌, ◌≤◌, List, [], ◌∷◌, ◌++◌, length, set}
use mathlib.Core.Path.{refl, ap, ◌∙◌}
use native.Mathlib.Omega.{arith}
use native.Mathlib.Nat.{add-zero}
use lib.ListN.{length-append}
use lib.Seq.{sets, sets-eq, set_comm}
use Rattle.format.specs.Format.{reservation_width, node_width, property_width}
use Rattle.format.specs.Tree.{Property, Node, node, Nodes, none, ◌&◌, Reservation, node_count, node_counts, property_count, property_counts}
use Rattle.format.specs.Encodes.{after_property, after_properties, after_name, after_node}
use Rattle.format.specs.Rows.{NodeRow, PropertyRow, blank, at, first_row, node_rows, nodes_rows, property_rows, node_properties, nodes_properties, reservation_numbers, node_numbers, property_numbers, reservations_in, nodes_in, properties_in}
use Rattle.format.proofs.Runs.{Run, run_head, run_left, run_right}

-- ---- how many rows

mutual
  unfolding node_rows node_count

  pub length_node : (n : Node) (p row props parent sibling : ℕ) → length (node_rows n p row props parent sibling) ≡ node_count n
  length_node (node name xs children) p row props parent sibling = ap suc (length_nodes children _ _ _ _)

  pub length_nodes : (ns : Nodes) (p row props parent : ℕ) → length (nodes_rows ns p row props parent) ≡ node_counts ns
  length_nodes none p row props parent = refl
  length_nodes (n & ns) p row props parent =
      length-append (node_rows n p row props parent (first_row ns (row + node_count n))) (nodes_rows ns (after_node p n) (row + node_count n) (props + property_count n) parent)
      ∙ rw (length_node n p row props parent (first_row ns (row + node_count n)), length_nodes ns (after_node p n) (row + node_count n) (props + property_count n) parent)

pub node_pos : (n : Node) → 0 < node_count n
unfolding node_count
node_pos (node name xs children) = omega arith

pub properties_length : (b : List ℕ) (strings : ℕ) (xs : List Property) (p : ℕ) → length (property_rows b strings xs p) ≡ length xs
unfolding property_rows
properties_length b strings [] p = refl
properties_length b strings (x ∷ xs) p = ap suc (properties_length b strings xs (after_property p x))

mutual
  unfolding node_properties property_count

  pub node_properties_lem : (b : List ℕ) (strings : ℕ) (n : Node) (p : ℕ) → length (node_properties b strings n p) ≡ property_count n
  node_properties_lem b strings (node name xs cs) p =
      length-append (property_rows b strings xs (after_name p name)) _
      ∙ rw (properties_length b strings xs (after_name p name), nodes_properties_lem b strings cs (after_properties (after_name p name) xs))

  pub nodes_properties_lem : (b : List ℕ) (strings : ℕ) (ns : Nodes) (p : ℕ) → length (nodes_properties b strings ns p) ≡ property_counts ns
  nodes_properties_lem b strings none p = refl
  nodes_properties_lem b strings (n & ns) p =
      length-append (node_properties b strings n p) _ ∙ rw (node_properties_lem b strings n p, nodes_properties_lem b strings ns (after_node p n))

-- ---- where the rows of a part stand

module _ (R : List NodeRow) where
  pub row_head : (k : ℕ) (x : NodeRow) (xs : List NodeRow) → Run R k (x ∷ xs) → at R k ≡ x
  unfolding at
  row_head k x xs h = run_head R blank k x xs h

  -- the rows of the first of some nodes, and of the later ones
  module _ (n : Node) (ns : Nodes) (p row props parent : ℕ) (h : Run R row (nodes_rows (n & ns) p row props parent)) where
    pub first_run : Run R row (node_rows n p row props parent (first_row ns (row + node_count n)))
    unfolding nodes_rows
    first_run = run_left R row _ (nodes_rows ns (after_node p n) (row + node_count n) (props + property_count n) parent) h

    pub later_run : Run R (row + node_count n) (nodes_rows ns (after_node p n) (row + node_count n) (props + property_count n) parent)
    unfolding nodes_rows
    later_run =
        rw (length_node n p row props parent (first_row ns (row + node_count n)))
        at (run_right R row (node_rows n p row props parent (first_row ns (row + node_count n))) _ h)

-- ---- the numbers of rows

pub numbers_append : (xs ys : List NodeRow) → node_numbers (xs ++ ys) ≡ node_numbers xs ++ node_numbers ys
unfolding node_numbers
numbers_append [] ys = refl
numbers_append (x ∷ xs) ys = rw (numbers_append xs ys)

pub property_numbers_append : (xs ys : List PropertyRow) → property_numbers (xs ++ ys) ≡ property_numbers xs ++ property_numbers ys
unfolding property_numbers
property_numbers_append [] ys = refl
property_numbers_append (x ∷ xs) ys = rw (property_numbers_append xs ys)

pub numbers_length : (xs : List NodeRow) → length (node_numbers xs) ≡ node_width * length xs
unfolding node_numbers node_width
numbers_length [] = refl
numbers_length (x ∷ xs) = omega (arith, numbers_length xs)

pub reservations_numbers_length : (rs : List Reservation) → length (reservation_numbers rs) ≡ reservation_width * length rs
unfolding reservation_numbers reservation_width
reservations_numbers_length [] = refl
reservations_numbers_length (r ∷ rs) = omega (arith, reservations_numbers_length rs)

pub property_numbers_length : (rs : List PropertyRow) → length (property_numbers rs) ≡ property_width * length rs
unfolding property_numbers property_width
property_numbers_length [] = refl
property_numbers_length (r ∷ rs) = omega (arith, property_numbers_length rs)

-- ---- storing in pieces

pub sets_append : (t : List ℕ) (k : ℕ) (xs ys : List ℕ) → sets t k (xs ++ ys) ≡ sets (sets t k xs) (k + length xs) ys
sets_append t k [] ys = rw add-zero
sets_append t k (x ∷ xs) ys =
    let e : k + suc (length xs) ≡ suc k + length xs = omega arith in
    rw e (sets_append (set t k x) (suc k) xs ys)

pub set_sets : (t : List ℕ) (i j v : ℕ) (ys : List ℕ) → i < j → set (sets t j ys) i v ≡ sets (set t i v) j ys
set_sets t i j v [] h = refl
set_sets t i j v (y ∷ ys) h = set_sets (set t j y) i (suc j) v ys (omega arith) ∙ ap (λ l. sets l (suc j) ys) (set_comm t j i y v (omega arith))

-- the later part may be stored first
pub sets_swap : (t : List ℕ) (k : ℕ) (xs ys : List ℕ) → sets (sets t (k + length xs) ys) k xs ≡ sets t k (xs ++ ys)
sets_swap t k [] ys = rw add-zero
sets_swap t k (x ∷ xs) ys =
    let e : k + suc (length xs) ≡ suc k + length xs = omega arith in
    ap (λ l. sets l (suc k) xs) (set_sets t k (k + suc (length xs)) x ys (omega arith)) ∙ rw e (sets_swap (set t k x) (suc k) xs ys)

-- the seven numbers of one row
unfoldable pub own : NodeRow → List ℕ
own r = node_numbers (r ∷ [])

-- a row after those that follow it
pub row_last : (t : List ℕ) (row : ℕ) (r : NodeRow) (rs : List NodeRow)
    → sets (sets t (node_width * (row + 1)) (node_numbers rs)) (node_width * row) (own r) ≡ sets t (node_width * row) (node_numbers (r ∷ rs))
unfolding own node_numbers node_width
row_last t row r rs =
    let e : 7 * (row + 1) ≡ 7 * row + 7 = omega arith in
    rw e (sets_swap t (7 * row) (node_numbers (r ∷ [])) (node_numbers rs))

-- the first of some nodes, then the later ones
pub first_then_later : (t : List ℕ) (n : Node) (ns : Nodes) (p row props parent : ℕ)
    → sets t (node_width * row) (node_numbers (nodes_rows (n & ns) p row props parent))
    ≡ sets (sets t (node_width * row) (node_numbers (node_rows n p row props parent (first_row ns (row + node_count n)))))
    (node_width * (row + node_count n)) (node_numbers (nodes_rows ns (after_node p n) (row + node_count n) (props + property_count n) parent))
unfolding nodes_rows
first_then_later t n ns p row props parent =
    let first = node_rows n p row props parent (first_row ns (row + node_count n)) in
    let later = nodes_rows ns (after_node p n) (row + node_count n) (props + property_count n) parent in
    let e : node_width * row + length (node_numbers first) ≡ node_width * (row + node_count n) =
    ap (λ k. node_width * row + k) (numbers_length first ∙ ap (λ k. node_width * k) (length_node n p row props parent (first_row ns (row + node_count n)))) ∙ omega arith in
    ap (λ l. sets t (node_width * row) l) (numbers_append first later) ∙ sets_append t (node_width * row) (node_numbers first) (node_numbers later) ∙ ap (λ k. sets (sets t (node_width * row) (node_numbers first)) k (node_numbers later)) e

-- ---- what a table holds

nodes_read : (R : List NodeRow) (rest : List ℕ) → nodes_in (length R) (node_numbers R ++ rest) ≡ R
unfolding nodes_in node_numbers node_width
nodes_read [] rest = refl
nodes_read (r ∷ R) rest = ap (λ l. r ∷ l) (nodes_read R rest)

properties_read : (P : List PropertyRow) (rest : List ℕ) → properties_in (length P) (property_numbers P ++ rest) ≡ P
unfolding properties_in property_numbers property_width
properties_read [] rest = refl
properties_read (r ∷ P) rest = ap (λ l. r ∷ l) (properties_read P rest)

reservations_read : (rs : List Reservation) (rest : List ℕ) → reservations_in (length rs) (reservation_numbers rs ++ rest) ≡ rs
unfolding reservations_in reservation_numbers reservation_width
reservations_read [] rest = refl
reservations_read (r ∷ rs) rest = ap (λ l. r ∷ l) (reservations_read rs rest)

-- what a load stored is what a lookup reads
pub reservations_stored : (t : List ℕ) (rs : List Reservation) → reservation_width * length rs ≤ length t → reservations_in (length rs) (sets t 0 (reservation_numbers rs)) ≡ rs
reservations_stored t rs h = rw (sets-eq (reservation_numbers rs) t 0 (omega (arith, reservations_numbers_length rs))) (reservations_read rs _)

pub nodes_stored : (t : List ℕ) (R : List NodeRow) → node_width * length R ≤ length t → nodes_in (length R) (sets t 0 (node_numbers R)) ≡ R
nodes_stored t R h = rw (sets-eq (node_numbers R) t 0 (omega (arith, numbers_length R))) (nodes_read R _)

pub properties_stored : (t : List ℕ) (P : List PropertyRow) → property_width * length P ≤ length t → properties_in (length P) (sets t 0 (property_numbers P)) ≡ P
properties_stored t P h = rw (sets-eq (property_numbers P) t 0 (omega (arith, property_numbers_length P))) (properties_read P _)
