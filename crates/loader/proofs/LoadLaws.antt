-- What the survey found is what a load answers, and the stores may begin; and what the stores leave is what a load is to leave.
-- Assumes, where it is named, that the blob's elements are bytes.
use mathlib.Core.Path.{◌≡◌, refl, sym, ap, ap₂, ◌∙◌, subst}
use Prim.Native.Nat.{ℕ, ◌*◌, ◌<◌, ◌^◌}
use native.Mathlib.Omega.{arith}
use native.Mathlib.Nat.{zero-add}
use mathlib.Core.List.{List, ◌∷◌}
use lib.ListN.{length}
use lib.Seq.{sets}
use mir.Syntax.{w8}
use mir.Val.{Fits}
use Rattle.std.specs.Prelude.{nat_le, slice_index, Result, Ok, Err}
use Rattle.std.specs.Result.{IsErrAnd}
use Rattle.format.specs.Answer.{Refusal, refusal_numbers, Outcome, ok, refused, check, numbers, reservation_room, node_room, property_room}
use Rattle.format.specs.Bytes.{AreBytes, big_endian}
use Rattle.format.specs.Format as format
use Rattle.format.specs.Format.{strings_at, reservation_width, node_width, property_width}
use Rattle.format.specs.Tree.{Node, Reservation, Tree}
use Rattle.format.specs.Rules.{ours}
use Rattle.format.specs.Encodes.{NodeAt}
use Rattle.format.specs.Encodes as encodes
use Rattle.format.specs.Rows.{reservation_numbers, node_numbers, property_numbers, node_rows, node_properties, rows}
use Rattle.format.specs.Load.{Tables, tree_numbers, capacity, room, tables_after, Loads, Measures, Accepted}
use Rattle.format.specs.Load as load
use Rattle.format.proofs.Answer.{then_ok, then_refused}
use Rattle.format.proofs.Bytes.{value_small}
use Rattle.format.proofs.Load.{capacity_fits, accepted}
use Rattle.format.proofs.Sizes.{counts_fit, length_small, structure_is_lem, strings_is_lem}
use Rattle.survey.specs.Nodes.{block, Small}
use Rattle.survey.specs.Outcomes.{why_of}
use Rattle.survey.specs.Reserve.{listed}
use Rattle.survey.specs.Survey.{survey_of}
use Rattle.survey.specs.declared.Block.{Block}
use Rattle.survey.specs.declared.DeviceTree.{DeviceTree}
use Rattle.survey.specs.declared.DeviceTreeError.{DeviceTreeError}
use Rattle.survey.specs.declared.Plan.{Plan}
use Rattle.survey.proofs.FoundLaws.{Finds, survey_finds, survey_refused, carried}
use Rattle.loader.specs.Numbers.{loaded_numbers, lent}
use Rattle.loader.specs.Pass.{NodeHere, NodeReady, State, node_after}
use Rattle.loader.specs.Store.{StoreReady}

-- ---- measure

answer_says : (b : List ℕ) (v : Plan) (f : Finds b v) → loaded_numbers (Ok v.tree) ≡ 0 ∷ tree_numbers f.tree
unfolding loaded_numbers carried
answer_says b v f = ap (λ ns. 0 ∷ ns) f.says

-- where `?` hands an error on, the answer's numbers are its refusal's
handed_numbers : (r : Result DeviceTree DeviceTreeError) (x : DeviceTreeError) → IsErrAnd r (λ y. y ≡ x) → {m : Outcome Tree} → m ≡ refused (why_of x)
    → loaded_numbers r ≡ numbers tree_numbers m
unfolding numbers loaded_numbers
handed_numbers (Ok t) x q e = absurd q
handed_numbers (Err y) x q e = ap (λ x. refusal_numbers (why_of x)) q ∙ sym (ap (numbers tree_numbers) e)

module _ (b : List ℕ) where
  pub measured : (v : Plan) → survey_of b ≡ ok v → Measures b (loaded_numbers (Ok v.tree))
  unfolding numbers
  measured v e = let f = survey_finds b v e in record { answers = answer_says b v f ∙ sym (ap (numbers tree_numbers) f.loads) }

  pub not_measured : (r : Result DeviceTree DeviceTreeError) (x : DeviceTreeError) → IsErrAnd r (λ y. y ≡ x) → survey_of b ≡ refused (why_of x)
      → Measures b (loaded_numbers r)
  not_measured r x q e = record { answers = handed_numbers r x q (survey_refused b _ e) }

-- ---- a node that stands stands where its block and its position are said otherwise

block_is : (k : Block) {a e : ℕ} → k.start ≡ a → k.end ≡ e → block k ≡ record { start = a; end = e }
unfolding block
block_is k p q = ap₂ (λ a e. record { start = a; end = e }) p q

stands_at : (b : List ℕ) (n : Node) {s s' : encodes.Block} {p p' : ℕ} → s ≡ s' → p ≡ p' → NodeAt b s' p' n → NodeAt b s p n
stands_at b n {s} {s'} {p} {p'} e₁ e₂ h = subst (λ k. NodeAt b k p n) (sym e₁) (subst (λ q. NodeAt b s' q n) (sym e₂) h)

-- ---- load: refusals leave the tables

-- where `?` hands an error on
pub handed : (t : Tables) (b : List ℕ) (r : Result DeviceTree DeviceTreeError) (x : DeviceTreeError) → IsErrAnd r (λ y. y ≡ x)
    → load.load t b ≡ refused (why_of x) → Loads t b (loaded_numbers r) t
unfolding tables_after
handed t b r x q e = record { answers = handed_numbers r x q e; leaves = sym (ap (tables_after t b) e) }

pub survey_refuses : (t : Tables) (b : List ℕ) {r : Refusal} → survey_of b ≡ refused r → load.load t b ≡ refused r
unfolding load.load
survey_refuses t b e = then_refused _ _ (survey_refused b _ e)

-- what the code judges the room of each table by
abbrev Judged : List ℕ → ℕ → ℕ → Refusal → Outcome (Unit {0})
Judged table width rows why = check (nat_le rows (capacity width table)) why

-- what is known once the room has been judged
pub record Passes (t : Tables) (b : List ℕ) (v : Plan) : Type 0 where
  pub finds : Finds b v
  pub loads : load.load t b ≡ ok finds.tree
  pub bytes : AreBytes b

module _ (t : Tables) (b : List ℕ) (v : Plan) (e : survey_of b ≡ ok v) where
  -- the tree that was found
  found : Finds b v
  found = survey_finds b v e

  roomed : {m : Outcome Tree} → room t found.tree ≡ m → load.load t b ≡ m
  unfolding load.load
  roomed h = then_ok _ _ found.loads h

  pub no_reservation_room : {r : Refusal} → Judged t.reservations reservation_width v.tree.reserved (reservation_room v.tree.reserved) ≡ refused r
      → load.load t b ≡ refused r
  unfolding room
  no_reservation_room h = roomed (then_refused _ _ (rw found.reserved at h))

  module _ {u : Unit {0}} (rs : Judged t.reservations reservation_width v.tree.reserved (reservation_room v.tree.reserved) ≡ ok u) where
    pub no_node_room : {r : Refusal} → Judged t.nodes node_width v.tree.nodes (node_room v.tree.nodes) ≡ refused r → load.load t b ≡ refused r
    unfolding room
    no_node_room h = roomed (then_ok _ _ (rw found.reserved at rs) (then_refused _ _ (rw found.nodes at h)))

    module _ {w : Unit {0}} (ns : Judged t.nodes node_width v.tree.nodes (node_room v.tree.nodes) ≡ ok u) where
      pub no_property_room : {r : Refusal} → Judged t.properties property_width v.tree.props (property_room v.tree.props) ≡ refused r
          → load.load t b ≡ refused r
      unfolding room
      no_property_room h = roomed (then_ok _ _ (rw found.reserved at rs) (then_ok _ _ (rw found.nodes at ns) (then_refused _ _ (rw found.props at h))))

      passes : {o : Unit {0}} → Judged t.properties property_width v.tree.props (property_room v.tree.props) ≡ ok o → ((i : ℕ) → Fits w8 (slice_index b i)) → Passes t b v
      unfolding room AreBytes
      passes ps bytes = record {
        finds = found;
        loads = roomed (then_ok _ _ (rw found.reserved at rs) (then_ok _ _ (rw found.nodes at ns) (then_ok _ _ (rw found.props at ps) refl)));
        bytes = λ i. (bytes i).fits;
      }

-- the survey, the code's tests of the room, and that a `&[u8]` has bytes, make a load pass
pub passes_when : (reserved nodes properties : List ℕ) {b : List ℕ} {v : Plan} {u w o : Unit {0}} → ok v ≡ survey_of b
    → ok u ≡ Judged reserved reservation_width v.tree.reserved (reservation_room v.tree.reserved)
    → ok w ≡ Judged nodes node_width v.tree.nodes (node_room v.tree.nodes)
    → ok o ≡ Judged properties property_width v.tree.props (property_room v.tree.props)
    → ((i : ℕ) → Fits w8 (slice_index b i)) → Passes (lent reserved nodes properties) b v
unfolding lent
passes_when reserved nodes properties {b} {v} e rs ns ps bytes = passes (lent reserved nodes properties) b v (sym e) (sym rs) (sym ns) (sym ps) bytes

-- ---- load: what is found is stored

module _ {t : Tables} {b : List ℕ} {v : Plan} (h : Passes t b v) where
  tree : Tree
  tree = h.finds.tree

  fine : Accepted t b tree
  unfolding tree
  fine = (accepted t b h.bytes tree).0 h.loads

  small : length b < 2 ^ 32
  small = length_small b h.bytes fine.encodes.layout.length_is

  -- the writing pass may go by the plan's strings block
  pub blob_small : Small b v.strings
  unfolding ours big_endian
  blob_small = record {
    blob = small;
    start = rw h.finds.start (value_small b strings_at 4 h.bytes (omega (arith, fine.encodes.layout.strings_is.fits)));
    end = rw h.finds.end (omega arith);
  }

  pub stores_ready : StoreReady b v.reservations 0 t.reservations
  unfolding tree
  stores_ready = record {
    rs = h.finds.tree.reserved;
    here = h.finds.listed_at;
    room = rw zero-add (capacity_fits reservation_width _ t.reservations fine.reservations_fit);
  }

  root_here : NodeHere b (block v.strings) v.structure tree.root
  root_here =
      let at = fine.encodes in
      record {
        good = at.good.names;
        at = stands_at b tree.root (block_is v.strings (h.finds.start ∙ strings_is_lem ours b tree at) h.finds.end) (h.finds.structure ∙ structure_is_lem ours b tree at) at.layout.root;
      }

  pub writes_ready : NodeReady b (block v.strings) (ours.depth_limit b) v.structure 0 0 t.nodes t.properties
  unfolding block ours format.NONE
  writes_ready =
      let few = counts_fit ours b tree h.bytes fine.encodes in
      record {
        tree = tree.root;
        here = root_here;
        deep = fine.deep;
        node_room = rw zero-add (capacity_fits node_width _ t.nodes fine.nodes_fit);
        prop_room = rw zero-add (capacity_fits property_width _ t.properties fine.properties_fit);
        node_few = omega (arith, few.nodes);
        prop_few = omega (arith, few.properties);
      }

  pub loaded : {nodes' properties' reserved' : List ℕ} {next row prow : ℕ}
      → ((rs : List Reservation) → listed b v.reservations ≡ ok rs → reserved' ≡ sets t.reservations (reservation_width * 0) (reservation_numbers rs))
      → ((m : Node) → NodeHere b (block v.strings) v.structure m → record { next = next; row = row; prow = prow; nodes = nodes'; props = properties' } ≡ node_after b (block v.strings) m v.structure 0 0 format.NONE format.NONE t.nodes t.properties)
      → Loads t b (loaded_numbers (Ok v.tree)) (lent reserved' nodes' properties')
  unfolding lent tables_after numbers rows node_after reservation_width node_width property_width block tree
  loaded {nodes'} {properties'} {reserved'} stored written =
      let w = written tree.root root_here in
      let first = stored tree.reserved h.finds.listed_at in
      let nodes_are : nodes' ≡ sets t.nodes 0 (node_numbers (rows b tree).nodes) =
      ap (λ (s : State). s.nodes) w ∙ ap (λ q. sets t.nodes 0 (node_numbers (node_rows tree.root q 0 0 format.NONE format.NONE))) h.finds.structure in
      let properties_are : properties' ≡ sets t.properties 0 (property_numbers (rows b tree).properties) =
      ap (λ (s : State). s.props) w ∙ ap₂ (λ q k. sets t.properties 0 (property_numbers (node_properties b k tree.root q))) h.finds.structure h.finds.start in
      record {
        answers = answer_says b v h.finds ∙ sym (ap (numbers tree_numbers) h.loads);
        leaves = rw (first, nodes_are, properties_are) (sym (ap (tables_after t b) h.loads));
      }
