-- Laws of the writing pass over nodes: what stands at a node, what its rows are made of, and the loop over children.
-- Assumes nothing.
use mathlib.Core.Path.{◌≡◌, refl, sym, ap, ◌∙◌}
use mathlib.Core.Logic.{◌≢◌}
use Prim.Native.Nat.{ℕ, suc, ◌+◌, ◌*◌, ◌≤◌, ◌<◌, max}
use native.Mathlib.Omega.{arith}
use native.Mathlib.Nat.{add-zero, add_assoc}
use mathlib.Core.List.{List}
use lib.ListN.{length, set, length-append}
use lib.Seq.{sets, length-sets}
use Rattle.format.specs.Answer.{or_zero, or_empty}
use Rattle.format.specs.Bytes.{big_endian, word_at, align}
use Rattle.format.specs.Format.{NONE, BEGIN_NODE, END_NODE, PROP, node_width, property_width}
use Rattle.format.specs.Tree.{Property, Node, node, Nodes, none, ◌&◌, depth, depths, node_count, node_counts, property_count, property_counts}
use Rattle.format.specs.Encodes.{GoodProperties, GoodNode, GoodNodes, Block, PropertiesAt, NodeAt, NodesAt, after_properties, after_name, after_node, after_nodes}
use Rattle.format.specs.Read.{read_be_u32, read_bstring0, Read}
use Rattle.format.specs.Rows.{first_row, node_rows, nodes_rows, property_rows, node_properties, nodes_properties, node_numbers, property_numbers}
use Rattle.format.proofs.Answer.{ok_same}
use Rattle.format.proofs.Read.{read_string}
use Rattle.format.proofs.Complete.{begins, node_complete, nodes_complete}
use Rattle.format.proofs.Rows.{node_properties_lem, properties_length, first_then_later}
use Rattle.reader.specs.declared.Token.{Token}
use Rattle.reader.specs.declared.Token.TheVariants.{BeginNode}
use Rattle.reader.specs.Outcomes.{token_of}
use Rattle.reader.proofs.Numbers.{word_total}
use Rattle.reader.proofs.Outcomes.{or_empty_lem}
use Rattle.loader.specs.Pass.{string_length, PropsHere, props_after, first_at, child_row, head_numbers}
use Rattle.loader.specs.Pass.{NodesHere, NodeHere, State, node_after, nodes_after}
use Rattle.loader.proofs.RowLaws.{relink, properties_then}
use Rattle.loader.proofs.PropLaws.{token_is}
use Rattle.loader.proofs.TokenLaws.{begin_word, begin_token}

-- ---- what stands at a node

pub record NodeParts (b : List ℕ) (strings : Block) (p : ℕ) (n : Node) : Type 0 where
  pub name : List ℕ
  pub xs : List Property
  pub cs : Nodes
  pub is : n ≡ node name xs cs
  pub node_is : node_count n ≡ suc (node_counts cs)
  pub prop_is : property_count n ≡ length xs + property_counts cs
  pub deep_is : depth n ≡ suc (depths cs)
  pub name_is : string_length b (p + 4) ≡ length name
  pub first : first_at b p ≡ after_name p name
  pub name_inside : p + 4 + string_length b (p + 4) < length b
  pub props : PropsHere b strings (first_at b p) xs
  pub kids : NodesHere b strings (after_properties (first_at b p) xs) cs

-- the first of some nodes, and the later ones
pub record NodesMore (b : List ℕ) (strings : Block) (p : ℕ) (ns : Nodes) : Type 0 where
  pub n : Node
  pub rest : Nodes
  pub is : ns ≡ n & rest
  pub node_is : node_counts ns ≡ node_count n + node_counts rest
  pub prop_is : property_counts ns ≡ property_count n + property_counts rest
  pub deep_is : depths ns ≡ max (depth n) (depths rest)
  pub first : NodeHere b strings p n
  pub here : NodesHere b strings (after_node p n) rest

module _ {b : List ℕ} {strings : Block} where
  -- what follows a node's properties opens no further one
  props_here : (cs : Nodes) {p : ℕ} {xs : List Property} → GoodProperties xs → PropertiesAt b strings p xs → NodesHere b strings (after_properties p xs) cs
      → PropsHere b strings p xs
  unfolding NodesAt after_nodes BEGIN_NODE END_NODE PROP
  props_here none good at kids = record { good = good; at = at; token = 2; stands = kids.ends; other = omega arith }
  props_here (n & ns) good at kids = record { good = good; at = at; token = 1; stands = begins b strings n kids.at.0; other = omega arith }

  pub node_parts : {p : ℕ} (n : Node) → NodeHere b strings p n → NodeParts b strings p n
  unfolding GoodNode NodeAt first_at after_name string_length node_count property_count depth
  node_parts {p} (node name xs cs) h =
      let name_is : length (or_empty (read_bstring0 b (p + 4))) ≡ length name = ap length (or_empty_lem (read_string b (p + 4) h.good.0.nonzero h.at.1)) in
      let first : align (p + 4 + length (or_empty (read_bstring0 b (p + 4))) + 1) 4 ≡ align (p + 4 + length name + 1) 4 = ap (λ n. align (p + 4 + n + 1) 4) name_is in
      let fits = rw length-append at h.at.1.fits in
      let kids : NodesHere b strings (after_properties (align (p + 4 + length name + 1) 4) xs) cs = record { good = h.good.2; at = h.at.3; ends = h.at.4 } in
      record {
        name = name;
        xs = xs;
        cs = cs;
        is = refl;
        node_is = refl;
        prop_is = refl;
        deep_is = refl;
        name_is = name_is;
        first = first;
        name_inside = omega arith;
        props = rw first (props_here cs h.good.1 h.at.2 kids);
        kids = rw first kids;
      }

  -- the token of some nodes: the first one's, or the end
  token_none : {p : ℕ} → NodesHere b strings p none → or_zero (read_be_u32 b p) ≡ END_NODE
  unfolding after_nodes
  token_none h = token_is h.ends

  token_some : {p : ℕ} {n : Node} {ns : Nodes} → NodesHere b strings p (n & ns) → or_zero (read_be_u32 b p) ≡ BEGIN_NODE
  unfolding NodesAt
  token_some {p} {n} h = token_is (begins b strings n h.at.0)

  pub token_inside : {p : ℕ} (ns : Nodes) → NodesHere b strings p ns → p + 4 ≤ length b
  unfolding NodesAt after_nodes big_endian
  token_inside none h = h.ends.fits
  token_inside (n & ns) h = (begins b strings n h.at.0).fits

  pub nodes_more : {p : ℕ} (ns : Nodes) → NodesHere b strings p ns → or_zero (read_be_u32 b p) ≡ BEGIN_NODE → NodesMore b strings p ns
  unfolding GoodNodes NodesAt after_nodes node_counts property_counts depths BEGIN_NODE END_NODE
  nodes_more none h e = absurd (omega (arith, token_none h))
  nodes_more (n & ns) h e = record {
    n = n;
    rest = ns;
    is = refl;
    node_is = refl;
    prop_is = refl;
    deep_is = refl;
    first = record { good = h.good.0; at = h.at.0 };
    here = record { good = h.good.1; at = h.at.1; ends = h.ends };
  }

  pub nodes_none : {p : ℕ} (ns : Nodes) → NodesHere b strings p ns → or_zero (read_be_u32 b p) ≢ BEGIN_NODE → ns ≡ none
  nodes_none none h n = refl
  nodes_none (m & ms) h n = absurd (n (token_some h))

  pub node_unique : {p : ℕ} {n m : Node} → NodeHere b strings p n → NodeHere b strings p m → n ≡ m
  node_unique {p} {n} {m} h k =
      let e = node_complete b strings n (depth n + depth m) p h.good h.at (omega arith) in
      let f = node_complete b strings m (depth n + depth m) p k.good k.at (omega arith) in
      ap (λ (r : Read Node). r.value) (ok_same (sym e ∙ f))

  pub nodes_unique : {p : ℕ} {ns ms : Nodes} → NodesHere b strings p ns → NodesHere b strings p ms → ns ≡ ms
  nodes_unique {p} {ns} {ms} h k =
      let d = depths ns + depths ms in
      let e = nodes_complete b strings ns d (length b) p (omega arith) h.good h.at h.ends (omega arith) in
      let f = nodes_complete b strings ms d (length b) p (omega arith) k.good k.at k.ends (omega arith) in
      ap (λ (r : Read Nodes). r.value) (ok_same (sym e ∙ f))

  -- ---- what is written

  first_child : {p : ℕ} (row : ℕ) (ns : Nodes) → NodesHere b strings p ns → child_row (token_of (word_at b p)) row ≡ first_row ns row
  unfolding first_row child_row token_of BEGIN_NODE END_NODE PROP
  first_child {p} row none h = rw (sym (word_total b p (token_inside none h)) ∙ token_none h) refl
  first_child {p} row (n & ns) h = rw (sym (word_total b p (token_inside (n & ns) h)) ∙ token_some h) refl

  -- the next sibling's row, stored where the token after a node opens one
  pub linked : (n : Node) (rest : Nodes) (p row prow parent : ℕ) (t : List ℕ) {token : Token} {next : ℕ} {t' t'' : List ℕ}
      → NodesHere b strings (after_node p n) rest → token ≡ token_of (or_zero (read_be_u32 b (after_node p n))) → next ≡ row + node_count n
      → t' ≡ sets t (node_width * row) (node_numbers (node_rows n p row prow parent NONE))
      → (token ≡ BeginNode → t'' ≡ set t' (node_width * row + 4) next) × (token ≢ BeginNode → t'' ≡ t')
      → t'' ≡ sets t (node_width * row) (node_numbers (node_rows n p row prow parent (first_row rest (row + node_count n))))
  unfolding first_row BEGIN_NODE END_NODE
  linked n none p row prow parent t here is_token is_next wrote link = link.1 (λ e. omega (arith, token_none here, begin_word is_token e)) ∙ wrote
  linked n (m & ms) p row prow parent t {token} {next} here is_token is_next wrote link =
      link.0 (begin_token is_token (token_some here)) ∙ ap (λ l. set l (node_width * row + 4) next) wrote ∙ relink n p row prow parent NONE next t ∙ rw is_next

-- a state at the end of a node's children, past the node's closing token
unfoldable pub closed : State → State
closed s = record { next = s.next + 4; row = s.row; prow = s.prow; nodes = s.nodes; props = s.props }

module _ (b : List ℕ) (strings : Block) where
  pub after_first : (n : Node) (rest : Nodes) (p row prow parent : ℕ) (nodes props : List ℕ)
      → nodes_after b strings (n & rest) p row prow parent nodes props
      ≡ nodes_after b strings rest (after_node p n) (row + node_count n) (prow + property_count n) parent
      (sets nodes (node_width * row) (node_numbers (node_rows n p row prow parent (first_row rest (row + node_count n)))))
      (sets props (property_width * prow) (property_numbers (node_properties b strings.start n p)))
  unfolding nodes_after after_nodes node_counts property_counts nodes_properties
  after_first n rest p row prow parent nodes props =
      rw (
        first_then_later nodes n rest p row prow parent,
        properties_then props prow (property_count n) (node_properties b strings.start n p) (nodes_properties b strings.start rest (after_node p n))
            (node_properties_lem b strings.start n p),
        ← add_assoc row (node_count n) (node_counts rest),
        ← add_assoc prow (property_count n) (property_counts rest),
      )

  pub after_none : (p row prow parent : ℕ) (nodes props : List ℕ)
      → nodes_after b strings none p row prow parent nodes props ≡ record { next = p; row = row; prow = prow; nodes = nodes; props = props }
  unfolding nodes_after after_nodes node_counts property_counts nodes_rows nodes_properties node_numbers property_numbers
  after_none p row prow parent nodes props = rw (add-zero row, add-zero prow)

  -- a node is its head, then its children
  pub after_node_lem : (name : List ℕ) (xs : List Property) (cs : Nodes) (p row prow parent : ℕ) (nodes props : List ℕ)
      → string_length b (p + 4) ≡ length name → first_at b p ≡ after_name p name → NodesHere b strings (after_properties (first_at b p) xs) cs
      → closed (nodes_after b strings cs (after_properties (first_at b p) xs) (row + 1) (prow + length xs) row
      (sets nodes (node_width * row) (head_numbers b xs p row prow parent)) (props_after b strings xs (first_at b p) prow props).table)
      ≡ node_after b strings (node name xs cs) p row prow parent NONE nodes props
  unfolding closed node_after nodes_after props_after node_rows node_numbers node_properties node_count property_count after_node head_numbers node_width
  after_node_lem name xs cs p row prow parent nodes props name_is first kids =
      let e : 7 * (row + 1) ≡ suc (suc (suc (suc (suc (suc (suc (7 * row))))))) = omega arith in
      let f : row + suc (node_counts cs) ≡ row + 1 + node_counts cs = omega arith in
      let g : prow + (length xs + property_counts cs) ≡ prow + length xs + property_counts cs = omega arith in
      rw (
        first_child (row + 1) cs kids,
        first,
        name_is,
        e,
        f,
        g,
        properties_then props prow (length xs) (property_rows b strings.start xs (after_name p name)) (nodes_properties b strings.start cs (after_properties (after_name p name) xs))
            (properties_length b strings.start xs (after_name p name)),
      )

-- ---- what `write_node` promises, part by part

pub record Written (b : List ℕ) (strings : Block) (n : Node) (p row prow parent sibling : ℕ) (nodes props : List ℕ) (s : State) : Type 0 where
  pub next_is : s.next ≡ after_node p n
  pub row_is : s.row ≡ row + node_count n
  pub prow_is : s.prow ≡ prow + property_count n
  pub nodes_are : s.nodes ≡ sets nodes (node_width * row) (node_numbers (node_rows n p row prow parent sibling))
  pub props_are : s.props ≡ sets props (property_width * prow) (property_numbers (node_properties b strings.start n p))
  pub nodes_long : length s.nodes ≡ length nodes
  pub props_long : length s.props ≡ length props

pub written : (b : List ℕ) (strings : Block) (n : Node) (p row prow parent sibling : ℕ) (nodes props : List ℕ) {s : State}
    → s ≡ node_after b strings n p row prow parent sibling nodes props → Written b strings n p row prow parent sibling nodes props s
unfolding node_after
written b strings n p row prow parent sibling nodes props e = record {
  next_is = ap (λ (s : State). s.next) e;
  row_is = ap (λ (s : State). s.row) e;
  prow_is = ap (λ (s : State). s.prow) e;
  nodes_are = ap (λ (s : State). s.nodes) e;
  props_are = ap (λ (s : State). s.props) e;
  nodes_long = ap (λ (s : State). length s.nodes) e ∙ simp length-sets;
  props_long = ap (λ (s : State). length s.props) e ∙ simp length-sets;
}
