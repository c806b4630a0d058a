-- Demand 2 for the lookups: "on the rows of an accepted load every lookup equals the tree's own, and 15 never comes there".
-- Each statement is of an answer that fits the call's promise by its numbers, so of what the code answers: the outcome that the contract
-- gives meets the premise, by `ap`. Assumes that the blob's elements are bytes, which a `&[u8]` brings with it.
use mathlib.Core.Path.{◌≡◌, ap, ◌∙◌}
use mathlib.Core.Logic.{◌≢◌}
use mathlib.Core.List.{List, [], ◌∷◌}
use mathlib.Core.Bool.{false}
use Prim.Native.Nat.{ℕ, ◌≤◌, ◌<◌}
use Rattle.std.specs.Prelude.{Result}
use Rattle.format.specs.Answer.{ok, refused, ◌>>=◌, nothing_found, refusal_numbers, first, numbers, itself, nothing, place, or_empty}
use Rattle.format.specs.Bytes.{AreBytes}
use Rattle.format.specs.Utf8.{from_utf8}
use Rattle.format.specs.Tree.{Node, Tree, node_count}
use Rattle.format.specs.Rows.{nodes_in}
use Rattle.format.specs.Load.{Tables, tables_after, Accepted}
use Rattle.format.specs.Find.{Place, place_of}
use Rattle.format.specs.Find as tree
use Rattle.format.specs.Lookup.{Lent, compared_from}
use Rattle.format.specs.Lookup as table
use Rattle.format.specs.Shape.{count}
use Rattle.format.specs.Agrees.{row_of, bytes_in, used}
use Rattle.format.proofs.Answer.{itself_same, nothing_same, place_same}
use Rattle.format.proofs.Tables.{lookups_as_the_tree, find_as_the_tree}
use Rattle.format.proofs.Names.{bad_path_in_tables, bad_tree_path_in_tables, bad_name_in_tables}
use Rattle.format.proofs.Reached.{path_compares_once}
use Rattle.format.proofs.Usable.{not_15, row_usable, bytes_usable, bytes_refused, from_usable, find_usable, raw_usable, has_usable, str_usable, u32_usable, u64_usable}
use Rattle.format.proofs.Tables as tables
use Rattle.format.specs.Results.{outcome, outcome_of}
use Rattle.reader.specs.Outcomes.{tells}
use Rattle.reader.specs.declared.Span.{Span}
use Rattle.lookup.specs.Answers.{why_of}
use Rattle.lookup.specs.declared.LookupError.{LookupError}
use Rattle.values.specs.Answers as values
use Rattle.values.specs.declared.error.PropError.{PropError}

-- what a load that accepted b as t left in its tables, and what a property lookup is then lent
abbrev pub left : Tables → List ℕ → Tree → Tables
left lent b t = tables_after lent b (ok t)

abbrev pub loaded : Tables → List ℕ → Tree → Lent
loaded lent b t = used (left lent b t) t

-- Row i is a node of the tree, and whatever the calls answer there is what that node's own lookups say. A part is compared by its bytes.
pub record AsTheOriginal (lent : Tables) (b : List ℕ) (t : Tree) (i : ℕ) : Type 0 where
  pub start : Place
  pub is : place_of b t i ≡ ok start
  pub find_from : (path : List ℕ) (r : Result ℕ LookupError)
      → numbers itself (outcome why_of r) ≡ numbers itself (table.find_from b (left lent b t).nodes (node_count t.root) i path)
      → outcome why_of r ≡ row_of (tree.find_from start path)
  pub has_prop : (name : List ℕ) (r : Result (Unit {0}) LookupError) → numbers nothing (outcome why_of r) ≡ numbers nothing (table.has_prop b (loaded lent b t) i name)
      → outcome why_of r ≡ tree.has_prop start.here name
  pub prop_raw : (name : List ℕ) (r : Result Span LookupError) → numbers place (outcome_of why_of tells r) ≡ numbers place (table.prop_raw b (loaded lent b t) i name)
      → bytes_in b (outcome_of why_of tells r) ≡ tree.prop_raw start.here name
  pub prop_raw_part : (name r : List ℕ) → r ≡ or_empty (bytes_in b (table.prop_raw b (loaded lent b t) i name)) → r ≡ or_empty (tree.prop_raw start.here name)
  pub prop_str : (name : List ℕ) (r : Result Span PropError)
      → numbers place (outcome_of values.why_of tells r) ≡ numbers place (table.prop_str b (loaded lent b t) i name)
      → bytes_in b (outcome_of values.why_of tells r) ≡ tree.prop_str start.here name
  pub prop_str_part : (name r : List ℕ) → r ≡ or_empty (bytes_in b (table.prop_str b (loaded lent b t) i name)) → r ≡ or_empty (tree.prop_str start.here name)
  pub prop_u32 : (name : List ℕ) (r : Result ℕ PropError) → numbers itself (outcome values.why_of r) ≡ numbers itself (table.prop_u32 b (loaded lent b t) i name)
      → outcome values.why_of r ≡ tree.prop_u32 start.here name
  pub prop_u64 : (name : List ℕ) (r : Result ℕ PropError) → numbers itself (outcome values.why_of r) ≡ numbers itself (table.prop_u64 b (loaded lent b t) i name)
      → outcome values.why_of r ≡ tree.prop_u64 start.here name

-- No answer there is 15.
pub record Never15 (lent : Tables) (b : List ℕ) (t : Tree) (i : ℕ) : Type 0 where
  pub find_from : (path : List ℕ) (r : Result ℕ LookupError)
      → numbers itself (outcome why_of r) ≡ numbers itself (table.find_from b (left lent b t).nodes (node_count t.root) i path)
      → first (numbers itself (outcome why_of r)) ≢ 15
  pub has_prop : (name : List ℕ) (r : Result (Unit {0}) LookupError) → numbers nothing (outcome why_of r) ≡ numbers nothing (table.has_prop b (loaded lent b t) i name)
      → first (numbers nothing (outcome why_of r)) ≢ 15
  pub prop_raw : (name : List ℕ) (r : Result Span LookupError) → numbers place (outcome_of why_of tells r) ≡ numbers place (table.prop_raw b (loaded lent b t) i name)
      → first (numbers place (outcome_of why_of tells r)) ≢ 15
  pub prop_str : (name : List ℕ) (r : Result Span PropError) → numbers place (outcome_of values.why_of tells r) ≡ numbers place (table.prop_str b (loaded lent b t) i name)
      → first (numbers place (outcome_of values.why_of tells r)) ≢ 15
  pub prop_u32 : (name : List ℕ) (r : Result ℕ PropError) → numbers itself (outcome values.why_of r) ≡ numbers itself (table.prop_u32 b (loaded lent b t) i name)
      → first (numbers itself (outcome values.why_of r)) ≢ 15
  pub prop_u64 : (name : List ℕ) (r : Result ℕ PropError) → numbers itself (outcome values.why_of r) ≡ numbers itself (table.prop_u64 b (loaded lent b t) i name)
      → first (numbers itself (outcome values.why_of r)) ≢ 15

module _ (lent : Tables) (b : List ℕ) (t : Tree) (all : AreBytes b) (a : Accepted lent b t) where
  -- A tree path finds the node that the Rust's `DeviceTree::find` finds, or nothing.
  pub find_as_the_original : (path : List ℕ) (r : Result ℕ LookupError)
      → numbers itself (outcome why_of r) ≡ numbers itself (table.find b (left lent b t).nodes (node_count t.root) path)
      → outcome why_of r ≡ row_of (tree.find b t path)
  find_as_the_original path r e = itself_same _ _ e ∙ find_as_the_tree b t lent all a path

  pub find_never_15 : (path : List ℕ) (r : Result ℕ LookupError)
      → numbers itself (outcome why_of r) ≡ numbers itself (table.find b (left lent b t).nodes (node_count t.root) path)
      → first (numbers itself (outcome why_of r)) ≢ 15
  find_never_15 path r e = rw (find_as_the_original path r e) (not_15 itself _ (row_usable _ (find_usable b t path)))

  -- From every row of the tree, every lookup says what that row's node says.
  pub lookups_as_the_original : (i : ℕ) → i < node_count t.root → AsTheOriginal lent b t i
  lookups_as_the_original i h =
      let s = lookups_as_the_tree b t lent all a i h in
      record {
        start = s.start;
        is = s.is;
        find_from = λ path r e. itself_same _ _ e ∙ s.find_from path;
        has_prop = λ name r e. nothing_same _ _ e ∙ s.has_prop name;
        prop_raw = λ name r e. ap (bytes_in b) (place_same _ _ e) ∙ s.prop_raw name;
        prop_raw_part = λ name r e. e ∙ ap or_empty (s.prop_raw name);
        prop_str = λ name r e. ap (bytes_in b) (place_same _ _ e) ∙ s.prop_str name;
        prop_str_part = λ name r e. e ∙ ap or_empty (s.prop_str name);
        prop_u32 = λ name r e. itself_same _ _ e ∙ s.prop_u32 name;
        prop_u64 = λ name r e. itself_same _ _ e ∙ s.prop_u64 name;
      }

  pub never_15 : (i : ℕ) → i < node_count t.root → Never15 lent b t i
  never_15 i h =
      let s = lookups_as_the_tree b t lent all a i h in
      let n : Node = s.start.here in
      record {
        find_from = λ path r e. rw (e ∙ ap (numbers itself) (s.find_from path)) (not_15 itself _ (row_usable _ (from_usable s.start path)));
        has_prop = λ name r e. rw (e ∙ ap (numbers nothing) (s.has_prop name)) (not_15 nothing _ (has_usable n name));
        prop_raw = λ name r e. rw e (not_15 place _ (bytes_usable b _ (rw (s.prop_raw name) (raw_usable n name))));
        prop_str = λ name r e. rw e (not_15 place _ (bytes_usable b _ (rw (s.prop_str name) (str_usable n name))));
        prop_u32 = λ name r e. rw (e ∙ ap (numbers itself) (s.prop_u32 name)) (not_15 itself _ (u32_usable n name));
        prop_u64 = λ name r e. rw (e ∙ ap (numbers itself) (s.prop_u64 name)) (not_15 itself _ (u64_usable n name));
      }

  -- "One that isn't UTF-8 finds nothing in a loaded tree": 11.
  pub bad_tree_path : (path : List ℕ) → from_utf8 path ≡ false → (r : Result ℕ LookupError)
      → numbers itself (outcome why_of r) ≡ numbers itself (table.find b (left lent b t).nodes (node_count t.root) path) → numbers itself (outcome why_of r) ≡ 11 ∷ []
  unfolding numbers refusal_numbers
  bad_tree_path path bad r e = e ∙ ap (numbers itself) (bad_tree_path_in_tables b t lent all a path bad)

  module _ (i : ℕ) (h : i < node_count t.root) where
    pub bad_path : (path : List ℕ) → from_utf8 path ≡ false → (r : Result ℕ LookupError)
        → numbers itself (outcome why_of r) ≡ numbers itself (table.find_from b (left lent b t).nodes (node_count t.root) i path)
        → numbers itself (outcome why_of r) ≡ 11 ∷ []
    unfolding numbers refusal_numbers
    bad_path path bad r e = e ∙ ap (numbers itself) (bad_path_in_tables b t lent all a i path h bad)

    module _ (name : List ℕ) (bad : from_utf8 name ≡ false) where
      none : bytes_in b (table.prop_raw b (loaded lent b t) i name) ≡ refused nothing_found
      none = bad_name_in_tables b t lent all a i name h bad

      pub bad_name_raw : (r : Result Span LookupError) → numbers place (outcome_of why_of tells r) ≡ numbers place (table.prop_raw b (loaded lent b t) i name)
          → numbers place (outcome_of why_of tells r) ≡ 11 ∷ []
      unfolding numbers refusal_numbers
      bad_name_raw r e = e ∙ ap (numbers place) (bytes_refused b _ none)

      pub bad_name_has : (r : Result (Unit {0}) LookupError) → numbers nothing (outcome why_of r) ≡ numbers nothing (table.has_prop b (loaded lent b t) i name)
          → numbers nothing (outcome why_of r) ≡ 11 ∷ []
      unfolding numbers refusal_numbers ◌>>=◌
      bad_name_has r e = e ∙ ap (numbers nothing) (tables.has_prop_by_raw b (loaded lent b t) i name ∙ ap (λ m. m >>= λ value. ok tt) none)

      pub bad_name_str : (r : Result Span PropError) → numbers place (outcome_of values.why_of tells r) ≡ numbers place (table.prop_str b (loaded lent b t) i name)
          → numbers place (outcome_of values.why_of tells r) ≡ 11 ∷ []
      unfolding numbers refusal_numbers ◌>>=◌
      bad_name_str r e = e ∙ ap (numbers place) (bytes_refused b _ (tables.str_by_raw b (loaded lent b t) i name ∙ ap (λ m. m >>= tree.as_string) none))

      pub bad_name_u32 : (r : Result ℕ PropError) → numbers itself (outcome values.why_of r) ≡ numbers itself (table.prop_u32 b (loaded lent b t) i name)
          → numbers itself (outcome values.why_of r) ≡ 11 ∷ []
      unfolding numbers refusal_numbers ◌>>=◌
      bad_name_u32 r e = e ∙ ap (numbers itself) (tables.u32_by_raw b (loaded lent b t) i name ∙ ap (λ m. m >>= tree.as_number 4) none)

      pub bad_name_u64 : (r : Result ℕ PropError) → numbers itself (outcome values.why_of r) ≡ numbers itself (table.prop_u64 b (loaded lent b t) i name)
          → numbers itself (outcome values.why_of r) ≡ 11 ∷ []
      unfolding numbers refusal_numbers ◌>>=◌
      bad_name_u64 r e = e ∙ ap (numbers itself) (tables.u64_by_raw b (loaded lent b t) i name ∙ ap (λ m. m >>= tree.as_number 8) none)

-- In any tables, whatever they hold: a path lookup compares no row twice.
pub compares_once : (b nodes : List ℕ) (rows row x : ℕ) (path : List ℕ) → count x (compared_from b (nodes_in rows nodes) row path) ≤ 1
compares_once b nodes rows row x path = path_compares_once b (nodes_in rows nodes) row x path
