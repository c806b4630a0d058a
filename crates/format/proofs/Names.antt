-- "One that isn't UTF-8 finds nothing in a loaded tree": what a path or a name finds was compared with names of the tree, which are
-- UTF-8, so the path or the name is. Assumes nothing.
use Rattle.std.specs.Prelude.{◌≡◌, ℕ, ◌<◌, Bool, true, false, eqb, List, [], ◌∷◌, ◌++◌}
use mathlib.Core.Path.{refl, sym, ap, ◌∙◌, subst}
use native.Mathlib.Omega.{arith}
use borrow.Author.Tests.{eqb-true}
use Rattle.format.specs.Choice.{when◌then◌else◌}
use Rattle.format.specs.Answer.{Outcome, ok, refused, nothing_found, ◌>>=◌}
use Rattle.format.specs.Bytes.{AreBytes, word_at}
use Rattle.format.specs.Format.{structure_at}
use Rattle.format.specs.Utf8.{Utf8, end, utf8_1, utf8_2, utf8_3_e0, utf8_3_e1, utf8_3_ed, utf8_3_ee, utf8_4_f0, utf8_4_f1, utf8_4_f4, from_utf8}
use Rattle.format.specs.Tree.{Property, Node, node, Nodes, none, ◌&◌, node_count, Tree}
use Rattle.format.specs.Encodes.{GoodProperties, GoodNode, GoodNodes}
use Rattle.format.specs.Find.{SLASH, head, rest, same, Place, name_of, properties_of, find_below, find_among, find_from, place_below, place_among, place_of, first_named, prop_raw, after_slash, root_place}
use Rattle.format.specs.Load.{Tables, tables_after, Accepted}
use Rattle.format.specs.Find as tree
use Rattle.format.specs.Lookup as table
use Rattle.format.specs.Agrees.{row_of, bytes_in, used}
use Rattle.format.proofs.Tools.{both, never_both, tested, if_yes, if_no, if_went}
use Rattle.format.proofs.Answer.{never, ok_same, step}
use Rattle.format.proofs.Utf8.{utf8_exact}
use Rattle.format.proofs.Tables.{lookups_as_the_tree, find_as_the_tree}

pub same_is : (xs ys : List ℕ) → same xs ys ≡ true → xs ≡ ys
unfolding same
same_is [] [] e = refl
same_is [] (y ∷ ys) e = absurd (never_both refl e)
same_is (x ∷ xs) [] e = absurd (never_both refl e)
same_is (x ∷ xs) (y ∷ ys) e =
    let h = both (eqb x y) (same xs ys) e in
    let first : x ≡ y = eqb-true x y h.0 in
    let later : xs ≡ ys = same_is xs ys h.1 in
    cc

utf8_append : {xs : List ℕ} (ys : List ℕ) → Utf8 xs → Utf8 ys → Utf8 (xs ++ ys)
utf8_append ys end v = v
utf8_append ys (utf8_1 h u) v = utf8_1 h (utf8_append ys u v)
utf8_append ys (utf8_2 h i u) v = utf8_2 h i (utf8_append ys u v)
utf8_append ys (utf8_3_e0 h i j u) v = utf8_3_e0 h i j (utf8_append ys u v)
utf8_append ys (utf8_3_e1 h i j u) v = utf8_3_e1 h i j (utf8_append ys u v)
utf8_append ys (utf8_3_ed h i j u) v = utf8_3_ed h i j (utf8_append ys u v)
utf8_append ys (utf8_3_ee h i j u) v = utf8_3_ee h i j (utf8_append ys u v)
utf8_append ys (utf8_4_f0 h i j k u) v = utf8_4_f0 h i j k (utf8_append ys u v)
utf8_append ys (utf8_4_f1 h i j k u) v = utf8_4_f1 h i j k (utf8_append ys u v)
utf8_append ys (utf8_4_f4 h i j k u) v = utf8_4_f4 h i j k (utf8_append ys u v)

-- a path is its first name, and either nothing more or a `/` and the rest
record Pieces (s : List ℕ) : Type 0 where
  more : List ℕ
  utf8 : Utf8 more
  joined : s ≡ head s ++ more

pieces : (s : List ℕ) → Utf8 (rest s) → Pieces s
unfolding head rest SLASH
pieces [] v = record { more = []; utf8 = end; joined = refl }
pieces (c ∷ s) v =
    tested (eqb c 0x2f)
    (λ e.
    let ascii : c ≡ 0x2f = eqb-true c 0x2f e in
    record { more = c ∷ s; utf8 = utf8_1 (omega arith) (subst Utf8 (if_yes s (rest s) e) v); joined = ap (λ l. l ++ c ∷ s) (sym (if_yes [] (c ∷ head s) e)) })
    (λ e.
    let later = pieces s (subst Utf8 (if_no s (rest s) e) v) in
    record { more = later.more; utf8 = later.utf8; joined = ap (λ l. c ∷ l) later.joined ∙ ap (λ l. l ++ later.more) (sym (if_no [] (c ∷ head s) e)) })

path_utf8 : (s : List ℕ) → Utf8 (head s) → Utf8 (rest s) → Utf8 s
path_utf8 s u v = let p = pieces s v in subst Utf8 (sym p.joined) (utf8_append p.more u p.utf8)

good_name : (n : Node) → GoodNode n → Utf8 (name_of n)
unfolding GoodNode name_of
good_name (node name xs cs) good = good.0.utf8

mutual
  unfolding find_below GoodNode

  found_utf8 : (n : Node) (row p : ℕ) (path : List ℕ) (place : Place) → GoodNode n → find_below n row p path ≡ ok place → Utf8 path
  found_utf8 (node name xs cs) row p [] place good e = end
  found_utf8 (node name xs cs) row p (c ∷ path) place good e =
      let h = among_utf8 cs _ _ (head (c ∷ path)) (rest (c ∷ path)) place good.2 e in
      path_utf8 (c ∷ path) h.0 h.1

  among_utf8 : (ns : Nodes) (row p : ℕ) (first later : List ℕ) (place : Place) → GoodNodes ns → find_among ns row p first later ≡ ok place → Utf8 first × Utf8 later
  among_utf8 none row p first later place good e = absurd (never e)
  among_utf8 (n & ns) row p first later place good e =
      if_went _ _ _ e
      (λ t e. (subst Utf8 (same_is (name_of n) first t) (good_name n good.0), found_utf8 n row p later place good.0 e))
      (λ t e. among_utf8 ns _ _ first later place good.1 e)

-- a path of the tree: its slash, and what follows
slash_utf8 : (path below : List ℕ) → after_slash path ≡ ok below → Utf8 below → Utf8 path
unfolding after_slash SLASH
slash_utf8 [] below e u = absurd (never e)
slash_utf8 (c ∷ path) below e u =
    if_went _ _ _ e
    (λ is same. let ascii : c ≡ 0x2f = eqb-true c 0x2f is in utf8_1 (omega arith) (subst Utf8 (sym (ok_same same)) u))
    (λ _ e. absurd (never e))

tree_utf8 : (b : List ℕ) (t : Tree) (path : List ℕ) (place : Place) → GoodNode t.root → tree.find b t path ≡ ok place → Utf8 path
unfolding tree.find root_place find_from
tree_utf8 b t path place good e = step _ _ e λ below slash e. slash_utf8 path below slash (found_utf8 t.root 0 _ below place good e)

-- a tree's lookup that gives nothing says 11
pub data Found {A : Type 0} : Outcome A → Type 0 where
  found : (a : A) → Found (ok a)
  nothing : Found (refused nothing_found)

found_if : {A : Type 0} (t : Bool) (x y : Outcome A) → Found x → Found y → Found (when t then x else y)
unfolding when◌then◌else◌
found_if true x y h k = h
found_if false x y h k = k

mutual
  unfolding find_below

  pub path_found : (n : Node) (row p : ℕ) (path : List ℕ) → Found (find_below n row p path)
  path_found (node name xs cs) row p [] = found _
  path_found (node name xs cs) row p (c ∷ path) = among_found cs _ _ (head (c ∷ path)) (rest (c ∷ path))

  among_found : (ns : Nodes) (row p : ℕ) (first later : List ℕ) → Found (find_among ns row p first later)
  among_found none row p first later = nothing
  among_found (n & ns) row p first later = found_if (same (name_of n) first) _ _ (path_found n row p later) (among_found ns _ _ first later)

slash_found : (path : List ℕ) → Found (after_slash path)
unfolding after_slash
slash_found [] = nothing
slash_found (c ∷ path) = found_if (eqb c SLASH) _ _ (found path) nothing

then_found : {A B : Type 0} (m : Outcome A) (f : A → Outcome B) → Found m → ((a : A) → Found (f a)) → Found (m >>= f)
unfolding ◌>>=◌
then_found m f (found a) h = h a
then_found m f nothing h = nothing

pub tree_found : (b : List ℕ) (t : Tree) (path : List ℕ) → Found (tree.find b t path)
unfolding tree.find find_from root_place
tree_found b t path = then_found (after_slash path) _ (slash_found path) (λ below. path_found t.root 0 (word_at b structure_at) below)

name_utf8 : (xs : List Property) (name value : List ℕ) → GoodProperties xs → first_named xs name ≡ ok value → Utf8 name
unfolding first_named GoodProperties
name_utf8 [] name value good e = absurd (never e)
name_utf8 (x ∷ xs) name value good e =
    if_went _ _ _ e
    (λ t e. subst Utf8 (same_is x.name name t) good.0.utf8)
    (λ t e. name_utf8 xs name value good.1 e)

pub name_found : (xs : List Property) (name : List ℕ) → Found (first_named xs name)
unfolding first_named
name_found [] name = nothing
name_found (x ∷ xs) name = found_if (same x.name name) _ _ (found _) (name_found xs name)

not_found : {A : Type 0} (s : List ℕ) (m : Outcome A) → Found m → ((a : A) → m ≡ ok a → Utf8 s) → from_utf8 s ≡ false → m ≡ refused nothing_found
not_found s m nothing h bad = refl
not_found s m (found a) h bad = absurd (never_both bad ((utf8_exact s).1 (h a refl)))

-- The two claims, in a tree.
pub bad_path_finds_nothing : (n : Node) (row p : ℕ) (path : List ℕ) → GoodNode n → from_utf8 path ≡ false → find_below n row p path ≡ refused nothing_found
bad_path_finds_nothing n row p path good bad = not_found path _ (path_found n row p path) (λ place e. found_utf8 n row p path place good e) bad

pub bad_name_finds_nothing : (xs : List Property) (name : List ℕ) → GoodProperties xs → from_utf8 name ≡ false → first_named xs name ≡ refused nothing_found
bad_name_finds_nothing xs name good bad = not_found name _ (name_found xs name) (λ value e. name_utf8 xs name value good e) bad

-- ---- and on the tables that an accepted load left

properties_good : (n : Node) → GoodNode n → GoodProperties (properties_of n)
unfolding GoodNode properties_of
properties_good (node name xs cs) good = good.1

mutual
  unfolding place_below GoodNode

  place_good : (n : Node) (row p i : ℕ) (start : Place) → GoodNode n → place_below n row p i ≡ ok start → GoodNode start.here
  place_good (node name xs cs) row p i start good e =
      if_went _ _ _ e
      (λ t e. subst (λ (at : Place). GoodNode at.here) (ok_same e) good)
      (λ t e. among_good cs _ _ i start good.2 e)

  among_good : (ns : Nodes) (row p i : ℕ) (start : Place) → GoodNodes ns → place_among ns row p i ≡ ok start → GoodNode start.here
  among_good none row p i start good e = absurd (never e)
  among_good (n & ns) row p i start good e =
      if_went _ _ _ e
      (λ t e. place_good n row p i start good.0 e)
      (λ t e. among_good ns _ _ i start good.1 e)

module _ (b : List ℕ) (t : Tree) (lent : Tables) (all : AreBytes b) (a : Accepted lent b t) where
  pub bad_path_in_tables : (i : ℕ) (path : List ℕ) → i < node_count t.root → from_utf8 path ≡ false
      → table.find_from b (tables_after lent b (ok t)).nodes (node_count t.root) i path ≡ refused nothing_found
  unfolding place_of find_from row_of ◌>>=◌
  bad_path_in_tables i path h bad =
      let s = lookups_as_the_tree b t lent all a i h in
      let good = place_good t.root 0 _ i s.start a.encodes.good.names s.is in
      s.find_from path ∙ ap row_of (bad_path_finds_nothing s.start.here s.start.row s.start.position path good bad)

  pub bad_tree_path_in_tables : (path : List ℕ) → from_utf8 path ≡ false → table.find b (tables_after lent b (ok t)).nodes (node_count t.root) path ≡ refused nothing_found
  unfolding tree.find row_of ◌>>=◌ root_place find_from
  bad_tree_path_in_tables path bad = find_as_the_tree b t lent all a path ∙ ap row_of (not_found path _ (tree_found b t path) (λ place e. tree_utf8 b t path place a.encodes.good.names e) bad)

  pub bad_name_in_tables : (i : ℕ) (name : List ℕ) → i < node_count t.root → from_utf8 name ≡ false
      → bytes_in b (table.prop_raw b (used (tables_after lent b (ok t)) t) i name) ≡ refused nothing_found
  unfolding place_of prop_raw
  bad_name_in_tables i name h bad =
      let s = lookups_as_the_tree b t lent all a i h in
      let good = place_good t.root 0 _ i s.start a.encodes.good.names s.is in
      s.prop_raw name ∙ bad_name_finds_nothing (properties_of s.start.here) name (properties_good s.start.here good) bad
