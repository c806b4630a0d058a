-- The loop over a node's children: its start after the node's head, a turn, and its end. What is left to write from p on leaves
-- what writing from the first child on leaves. Assumes nothing.
use mathlib.Core.Path.{◌≡◌, sym, ap, ◌∙◌}
use mathlib.Core.Logic.{◌≢◌}
use Prim.Native.Nat.{ℕ, ◌+◌, ◌*◌, ◌-◌, ◌^◌, ◌≤◌, ◌<◌}
use native.Mathlib.Omega.{arith}
use mathlib.Core.List.{List}
use lib.ListN.{length, set}
use lib.Seq.{sets, length-sets}
use Rattle.format.specs.Answer.{or_zero}
use Rattle.format.specs.Format.{NONE, node_width, property_width}
use Rattle.format.specs.Tree.{Property, Node, Nodes, none, depths, node_count, node_counts, property_counts}
use Rattle.format.specs.Encodes.{Block, after_properties}
use Rattle.format.specs.Read.{read_be_u32}
use Rattle.format.specs.Rows.{first_row, node_rows, node_numbers}
use Rattle.format.proofs.Complete.{node_up}
use Rattle.format.proofs.Rows.{node_pos}
use Rattle.reader.specs.declared.Token.{Token}
use Rattle.reader.specs.declared.Token.TheVariants.{BeginNode}
use Rattle.reader.specs.Outcomes.{token_of}
use Rattle.loader.specs.Pass.{PropsHere, PropsState, props_state, props_after, first_at, HeadReady, head_numbers, HeadDone}
use Rattle.loader.specs.Pass.{NodesHere, NodeHere, NodeReady, passed, node_after, nodes_after}
use Rattle.loader.proofs.TokenLaws.{begin_word, begin_token}
use Rattle.loader.proofs.PropLaws.{after_long}
use Rattle.loader.proofs.NodeLaws.{NodeParts, node_parts, NodesMore, nodes_more, nodes_none, token_inside, node_unique, nodes_unique}
use Rattle.loader.proofs.NodeLaws.{linked, closed, after_first, after_none, after_node_lem, Written, written}

-- The node of row `parent`, which may be `depth` deep, has its first child at `start`.
pub record NodesInv (b : List ℕ) (strings : Block) (depth parent start row₀ prow₀ : ℕ) (nodes₀ props₀ : List ℕ) (p row prow : ℕ) (token : Token) (nodes props : List ℕ) : Type 0 where
  pub rest : Nodes
  pub here : NodesHere b strings p rest
  pub deep : depths rest < depth
  pub node_room : node_width * (row + node_counts rest) ≤ length nodes
  pub prop_room : property_width * (prow + property_counts rest) ≤ length props
  pub node_few : row + node_counts rest < 2 ^ 32
  pub prop_few : prow + property_counts rest < 2 ^ 32
  pub parent_few : parent < 2 ^ 32
  pub is_token : token ≡ token_of (or_zero (read_be_u32 b p))
  pub same : (ns : Nodes) → NodesHere b strings start ns
      → nodes_after b strings rest p row prow parent nodes props ≡ nodes_after b strings ns start row₀ prow₀ parent nodes₀ props₀

-- ---- a node: its head, and the loop's start and end

module _ {b : List ℕ} {strings : Block} {depth p row prow : ℕ} {nodes props : List ℕ} (h : NodeReady b strings depth p row prow nodes props) where
  parts : NodeParts b strings p h.tree
  parts = node_parts h.tree h.here

  pub node_few_lem : row + 1 < 2 ^ 32
  node_few_lem = omega (arith, h.node_few, parts.node_is)

  pub node_head : HeadReady b strings p row prow nodes props
  unfolding node_width property_width
  node_head = record {
    xs = parts.xs;
    here = parts.props;
    name_inside = parts.name_inside;
    node_room = omega (arith, h.node_room, parts.node_is);
    prop_room = omega (arith, h.prop_room, parts.prop_is);
    node_few = node_few_lem;
    prop_few = omega (arith, h.prop_few, parts.prop_is);
  }

  module _ {parent next row₁ prow₁ : ℕ} {nodes₁ props₁ : List ℕ}
      (done : (xs : List Property) → PropsHere b strings (first_at b p) xs → HeadDone b strings xs p row prow parent nodes props next row₁ prow₁ nodes₁ props₁) where
    own : HeadDone b strings parts.xs p row prow parent nodes props next row₁ prow₁ nodes₁ props₁
    own = done parts.xs parts.props

    is_next : next ≡ after_properties (first_at b p) parts.xs
    unfolding props_state props_after
    is_next = ap (λ (s : PropsState). s.next) own.own

    is_row : prow₁ ≡ prow + length parts.xs
    unfolding props_state props_after
    is_row = ap (λ (s : PropsState). s.row) own.own

    is_table : props₁ ≡ (props_after b strings parts.xs (first_at b p) prow props).table
    unfolding props_state
    is_table = ap (λ (s : PropsState). s.table) own.own

    kids : NodesHere b strings next parts.cs
    kids = rw is_next parts.kids

    nodes_long_lem : length nodes₁ ≡ length nodes
    nodes_long_lem = ap length own.stored ∙ length-sets nodes (node_width * row) (head_numbers b parts.xs p row prow parent)

    props_long_lem : length props₁ ≡ length props
    props_long_lem = ap length is_table ∙ after_long b strings parts.xs (first_at b p) prow props

    pub node_start : {token : Token} → token ≡ token_of (or_zero (read_be_u32 b next))
        → NodesInv b strings depth row next row₁ prow₁ nodes₁ props₁ next row₁ prow₁ token nodes₁ props₁
    unfolding node_width property_width
    node_start is_token = record {
      rest = parts.cs;
      here = kids;
      deep = omega (arith, h.deep, parts.deep_is);
      node_room = omega (arith, h.node_room, parts.node_is, nodes_long_lem, own.row_is);
      prop_room = omega (arith, h.prop_room, parts.prop_is, is_row, props_long_lem);
      node_few = omega (arith, h.node_few, parts.node_is, own.row_is);
      prop_few = omega (arith, h.prop_few, parts.prop_is, is_row);
      parent_few = omega (arith, node_few_lem);
      is_token = is_token;
      same = λ ns k. ap (λ ns. nodes_after b strings ns next row₁ prow₁ row nodes₁ props₁) (nodes_unique kids k);
    }

    module _ {q row' prow' : ℕ} {token : Token} {nodes' props' : List ℕ}
        (inv : NodesInv b strings depth row next row₁ prow₁ nodes₁ props₁ q row' prow' token nodes' props') (stop : token ≢ BeginNode) where
      empty : inv.rest ≡ none
      empty = nodes_none inv.rest inv.here (λ e. stop (begin_token inv.is_token e))

      all : record { next = q; row = row'; prow = prow'; nodes = nodes'; props = props' }
          ≡ nodes_after b strings parts.cs (after_properties (first_at b p) parts.xs) (row + 1) (prow + length parts.xs) row
          (sets nodes (node_width * row) (head_numbers b parts.xs p row prow parent)) (props_after b strings parts.xs (first_at b p) prow props).table
      all =
          sym (after_none b strings q row' prow' row nodes' props')
          ∙ ap (λ ns. nodes_after b strings ns q row' prow' row nodes' props') (sym empty)
          ∙ inv.same parts.cs kids
          ∙ rw (is_next, own.row_is, is_row, own.stored, is_table)

      pub node_end : (n : Node) → NodeHere b strings p n
          → record { next = q + 4; row = row'; prow = prow'; nodes = nodes'; props = props' } ≡ node_after b strings n p row prow parent NONE nodes props
      unfolding closed
      node_end n here =
          ap closed all
          ∙ after_node_lem b strings parts.name parts.xs parts.cs p row prow parent nodes props parts.name_is parts.first parts.kids
          ∙ ap (λ n. node_after b strings n p row prow parent NONE nodes props) (sym parts.is ∙ node_unique h.here here)

-- ---- the loop

module _ {b : List ℕ} {strings : Block} {depth parent start row₀ prow₀ : ℕ} {nodes₀ props₀ : List ℕ} {p row prow : ℕ} {token : Token} {nodes props : List ℕ}
    (inv : NodesInv b strings depth parent start row₀ prow₀ nodes₀ props₀ p row prow token nodes props) where
  pub turn_inside : p + 4 ≤ length b
  turn_inside = token_inside inv.rest inv.here

  module _ (go : token ≡ BeginNode) where
    more : NodesMore b strings p inv.rest
    more = nodes_more inv.rest inv.here (begin_word inv.is_token go)

    pub child_ready : NodeReady b strings (depth - 1) p row prow nodes props
    unfolding node_width property_width
    child_ready = record {
      tree = more.n;
      here = more.first;
      deep = omega (arith, inv.deep, more.deep_is);
      node_room = omega (arith, inv.node_room, more.node_is);
      prop_room = omega (arith, inv.prop_room, more.prop_is);
      node_few = omega (arith, inv.node_few, more.node_is);
      prop_few = omega (arith, inv.prop_few, more.prop_is);
    }

    module _ (next row' prow' : ℕ) (nodes' props' : List ℕ)
        (wrote : (n : Node) → NodeHere b strings p n → passed next row' prow' nodes' props' ≡ node_after b strings n p row prow parent NONE nodes props) where
      child : Written b strings more.n p row prow parent NONE nodes props (record { next = next; row = row'; prow = prow'; nodes = nodes'; props = props' })
      unfolding passed
      child = written b strings more.n p row prow parent NONE nodes props (wrote more.n more.first)

      pub child_few : row' < 2 ^ 32
      child_few = omega (arith, inv.node_few, more.node_is, child.row_is)

      pub child_room : node_width * (row + 1) ≤ length nodes'
      unfolding node_width
      child_room = omega (arith, inv.node_room, more.node_is, child.nodes_long, node_pos more.n)

      pub child_less : length b + 4 - next < length b + 4 - p
      child_less = omega (arith, turn_inside, child.next_is, node_up more.n p)

      module _ {token' : Token} {nodes'' : List ℕ} (is_token : token' ≡ token_of (or_zero (read_be_u32 b next)))
          (link : (token' ≡ BeginNode → nodes'' ≡ set nodes' (node_width * row + 4) row') × (token' ≢ BeginNode → nodes'' ≡ nodes')) where
        stored : nodes'' ≡ sets nodes (node_width * row) (node_numbers (node_rows more.n p row prow parent (first_row more.rest (row + node_count more.n))))
        stored =
            linked more.n more.rest p row prow parent nodes more.here (is_token ∙ ap (λ q. token_of (or_zero (read_be_u32 b q))) child.next_is) child.row_is child.nodes_are link

        pub child_again : NodesInv b strings depth parent start row₀ prow₀ nodes₀ props₀ next row' prow' token' nodes'' props'
        unfolding node_width property_width
        child_again =
            let kept : length nodes'' ≡ length nodes = ap length stored ∙ simp length-sets in
            record {
              rest = more.rest;
              here = rw child.next_is more.here;
              deep = omega (arith, inv.deep, more.deep_is);
              node_room = omega (arith, inv.node_room, more.node_is, child.row_is);
              prop_room = omega (arith, inv.prop_room, more.prop_is, child.prow_is, child.props_long);
              node_few = omega (arith, inv.node_few, more.node_is, child.row_is);
              prop_few = omega (arith, inv.prop_few, more.prop_is, child.prow_is);
              parent_few = inv.parent_few;
              is_token = is_token;
              same = λ ns k.
                  rw (child.next_is, child.row_is, child.prow_is, stored, child.props_are) (sym (after_first b strings more.n more.rest p row prow parent nodes props))
                  ∙ ap (λ ns. nodes_after b strings ns p row prow parent nodes props) (sym more.is) ∙ inv.same ns k;
            }
