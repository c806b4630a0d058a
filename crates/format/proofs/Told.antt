-- The rows of an encoded tree tell that tree, and rows tell at most one. By recursion on the tree. Assumes, for the first, that the
-- blob's elements are bytes.
use Rattle.std.specs.Prelude.{◌≡◌, ℕ, ◌+◌, ◌<◌, ◌≤◌, List, [], ◌∷◌, length}
use mathlib.Core.Path.{refl, sym, ap₂, ◌∙◌}
use native.Mathlib.Omega.{arith}
use Rattle.format.specs.Bytes.{AreBytes, word_at}
use Rattle.format.specs.Format.{NONE, structure_at, strings_at}
use Rattle.format.specs.Tree.{Property, Node, node, Nodes, none, ◌&◌, node_count, property_count, Tree}
use Rattle.format.specs.Rules.{Rules}
use Rattle.format.specs.Encodes.{Block, PropertiesAt, NodeAt, NodesAt, Encodes, after_property, after_name}
use Rattle.format.specs.Rows.{NodeRow, PropertyRow, at, first_row, node_rows, nodes_rows, property_rows, node_properties, nodes_properties, rows}
use Rattle.format.specs.Shape.{PropertyTold, PropertiesTold, NodeTold, NodesTold}
use Rattle.format.proofs.Runs.{Run, whole, run_tail, run_left, run_right}
use Rattle.format.proofs.Rows.{length_node, row_head, first_run, later_run, properties_length, node_properties_lem}
use Rattle.format.proofs.Sizes.{counts_fit}
use Rattle.format.proofs.Lookup.{row_says, property_says, strings, root_stands}

module _ (b : List ℕ) (strings : Block) (R : List NodeRow) (P : List PropertyRow) (small : length R ≤ NONE) where
  properties_told : (xs : List Property) (p k : ℕ) → Run P k (property_rows b strings.start xs p) → PropertiesAt b strings p xs → PropertiesTold b P k xs
  unfolding property_rows PropertiesAt PropertiesTold
  properties_told [] p k h n = tt
  properties_told (x ∷ xs) p k h n =
      let says = property_says b strings P x p k _ h n.0 in (
        record { used = omega (arith, h.fits); name = says.name_is; value = says.value_is },
        properties_told xs (after_property p x) (k + 1) (run_tail P k _ _ h) n.1,
      )

  -- what the row of a node says of its properties
  record Numbered (row props count : ℕ) : Type 0 where
    first : (at R row).first_property ≡ props
    size : (at R row).property_count ≡ count

  numbered : (name : List ℕ) (xs : List Property) (cs : Nodes) (p row props parent sibling : ℕ) → Run R row (node_rows (node name xs cs) p row props parent sibling) → Numbered row props (length xs)
  unfolding node_rows
  numbered name xs cs p row props parent sibling h = let e = row_head R row _ _ h in record { first = rw e; size = rw e }

  next_row : (n : Node) (p row props parent sibling : ℕ) → Run R row (node_rows n p row props parent sibling) → (at R row).next_sibling ≡ sibling
  unfolding node_rows
  next_row (node name xs cs) p row props parent sibling h = rw (row_head R row _ _ h)

  run_inside : (n : Node) (p row props parent sibling : ℕ) → Run R row (node_rows n p row props parent sibling) → row < length R
  unfolding node_rows
  run_inside (node name xs cs) p row props parent sibling h = omega (arith, h.fits)

  mutual
    unfolding NodeAt node_rows node_properties node_count property_count NodeTold first_row

    node_told : (n : Node) (p row props parent sibling : ℕ) → Run R row (node_rows n p row props parent sibling)
        → Run P props (node_properties b strings.start n p) → NodeAt b strings p n → NodeTold b R P n row
    node_told (node name xs cs) p row props parent sibling h hp n =
        let says = row_says b strings R small name xs cs p row props parent sibling h n in
        let mine = numbered name xs cs p row props parent sibling h in
        let here = run_left P props (property_rows b strings.start xs (after_name p name)) _ hp in
        let after = rw (properties_length b strings.start xs (after_name p name)) at (run_right P props (property_rows b strings.start xs (after_name p name)) _ hp) in (
          says.inside,
          says.name_is,
          mine.size,
          rw mine.first (properties_told xs (after_name p name) props here n.2),
          rw says.child (nodes_told cs _ (row + 1) (props + length xs) row (run_tail R row _ _ h) after n.3),
        )

    nodes_told : (ns : Nodes) (p row props parent : ℕ) → Run R row (nodes_rows ns p row props parent)
        → Run P props (nodes_properties b strings.start ns p) → NodesAt b strings p ns → NodesTold b R P ns (first_row ns row)
    nodes_told none p row props parent h hp n = refl
    nodes_told (n & ns) p row props parent h hp at-ns =
        let here = first_run R n ns p row props parent h in
        let later = later_run R n ns p row props parent h in
        let mine = run_left P props (node_properties b strings.start n p) _ hp in
        let after = rw (node_properties_lem b strings.start n p) at (run_right P props (node_properties b strings.start n p) _ hp) in
        let next = next_row n p row props parent (first_row ns (row + node_count n)) here in (
          omega (arith, run_inside n p row props parent (first_row ns (row + node_count n)) here),
          node_told n p row props parent _ here mine at-ns.0,
          rw next (nodes_told ns _ _ _ parent later after at-ns.1),
        )

-- The rows of an encoded tree tell it.
pub rows_tell : (rules : Rules) (b : List ℕ) (t : Tree) → AreBytes b → Encodes rules b t → NodeTold b (rows b t).nodes (rows b t).properties t.root 0
unfolding rows strings
rows_tell rules b t all e =
    let p : ℕ = word_at b structure_at in
    let R : List NodeRow = node_rows t.root p 0 0 NONE NONE in
    let small : length R ≤ NONE = omega (arith, (counts_fit rules b t all e).nodes, length_node t.root p 0 0 NONE NONE) in
    node_told b (strings rules b t all e) R (node_properties b (word_at b strings_at) t.root p) small t.root p 0 0 NONE NONE (whole R) (whole _) (root_stands rules b t all e)

-- ---- rows tell at most one tree

module _ (b : List ℕ) (R : List NodeRow) (P : List PropertyRow) where
  same_property : (k : ℕ) (x y : Property) → PropertyTold b P k x → PropertyTold b P k y → x ≡ y
  same_property k x y h i =
      let n : x.name ≡ y.name = sym h.name ∙ i.name in
      let v : x.value ≡ y.value = sym h.value ∙ i.value in
      ap₂ (λ n v. record { name = n; value = v }) n v

  same_properties : (xs ys : List Property) (k : ℕ) → length xs ≡ length ys → PropertiesTold b P k xs → PropertiesTold b P k ys → xs ≡ ys
  unfolding PropertiesTold
  same_properties [] [] k e h i = refl
  same_properties [] (y ∷ ys) k e h i = absurd (omega arith)
  same_properties (x ∷ xs) [] k e h i = absurd (omega arith)
  same_properties (x ∷ xs) (y ∷ ys) k e h i = ap₂ (λ z zs. z ∷ zs) (same_property k x y h.0 i.0) (same_properties xs ys (k + 1) (omega arith) h.1 i.1)

  mutual
    unfolding NodeTold

    pub told_once : (n m : Node) (r : ℕ) → NodeTold b R P n r → NodeTold b R P m r → n ≡ m
    told_once (node name xs cs) (node name' xs' cs') r h i =
        let e₁ : name ≡ name' = sym h.1 ∙ i.1 in
        let e₂ : xs ≡ xs' = same_properties xs xs' (at R r).first_property (sym h.2 ∙ i.2) h.3 i.3 in
        let e₃ : cs ≡ cs' = nodes_told_once cs cs' (at R r).first_child h.4 i.4 in
        cc

    nodes_told_once : (ns ms : Nodes) (r : ℕ) → NodesTold b R P ns r → NodesTold b R P ms r → ns ≡ ms
    nodes_told_once none none r h i = refl
    nodes_told_once none (m & ms) r h i = absurd (i.0 h)
    nodes_told_once (n & ns) none r h i = absurd (h.0 i)
    nodes_told_once (n & ns) (m & ms) r h i =
        let e₁ : n ≡ m = told_once n m r h.1 i.1 in
        let e₂ : ns ≡ ms = nodes_told_once ns ms (at R r).next_sibling h.2 i.2 in
        cc
