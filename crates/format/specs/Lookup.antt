-- Lookups in rows and in lent tables, whatever they hold (document 01, "Finding a node and a property").
-- Answer 15 comes exactly where a test here fails.
use Rattle.std.specs.Prelude.{ℕ, zero, suc, ◌+◌, Bool, ◌&&◌, ◌||◌, List, [], ◌∷◌, length, ◌==◌, nat_le, nat_lt}
use Rattle.format.specs.Choice.{when◌then◌else◌}
use Rattle.format.specs.Answer.{Outcome, ok, refused, ◌>>=◌, check, Span, nothing_found, not_usable}
use Rattle.format.specs.Bytes.{part}
use Rattle.format.specs.Format.{NONE, node_width, property_width}
use Rattle.format.specs.Rows.{NodeRow, PropertyRow, at, property_at, nodes_in, properties_in}
use Rattle.format.specs.Load.{capacity}
use Rattle.format.specs.Find.{head, rest, same, after_slash, as_number, as_string}

-- ---- rows: b the blob, R the node rows below the count, P the property rows below theirs

-- "both links of a row reached (none, or greater than that row and below the count)"
unfoldable pub link_good : List NodeRow → ℕ → ℕ → Bool
link_good R r l = l == NONE || (nat_lt r l && nat_lt l (length R))

unfoldable pub links_good : List NodeRow → ℕ → Bool
links_good R r = link_good R r (at R r).first_child && link_good R r (at R r).next_sibling

-- "its name lies in the blob (offset plus length at most its length)"
unfoldable pub name_inside : List ℕ → List NodeRow → ℕ → Bool
name_inside b R r = nat_le ((at R r).name_offset + (at R r).name_length) (length b)

unfoldable pub name_at : List ℕ → List NodeRow → ℕ → List ℕ
name_at b R r = part b (at R r).name_offset (at R r).name_length

-- Row r and its later siblings, each reached in turn up to the first named `first`, and `later` from that one.
-- The links that are followed rise, so as many turns as there are rows are enough.
unfoldable pub across : List ℕ → List NodeRow → ℕ → ℕ → List ℕ → List ℕ → Outcome ℕ
across b R zero r first later = refused not_usable
across b R (suc turns) r first later =
    when r == NONE then refused nothing_found
    else (when links_good R r && name_inside b R r
    then (when same (name_at b R r) first
    then (elim later [ [] ↦ ok r | c ∷ s ↦ across b R turns (at R r).first_child (head (c ∷ s)) (rest (c ∷ s)) ])
    else across b R turns (at R r).next_sibling first later)
    else refused not_usable)

-- the rows whose names are compared on the way
unfoldable pub compared : List ℕ → List NodeRow → ℕ → ℕ → List ℕ → List ℕ → List ℕ
compared b R zero r first later = []
compared b R (suc turns) r first later =
    when r == NONE then []
    else (when links_good R r && name_inside b R r
    then (r ∷ (when same (name_at b R r) first
    then (elim later [ [] ↦ [] | c ∷ s ↦ compared b R turns (at R r).first_child (head (c ∷ s)) (rest (c ∷ s)) ])
    else compared b R turns (at R r).next_sibling first later))
    else [])

-- those of a path from row r
unfoldable pub compared_from : List ℕ → List NodeRow → ℕ → List ℕ → List ℕ
compared_from b R r [] = []
compared_from b R r (c ∷ path) = compared b R (length R) (at R r).first_child (head (c ∷ path)) (rest (c ∷ path))

-- a path from a row that is reached and judged
unfoldable pub down : List ℕ → List NodeRow → ℕ → List ℕ → Outcome ℕ
down b R r [] = ok r
down b R r (c ∷ path) = across b R (length R) (at R r).first_child (head (c ∷ path)) (rest (c ∷ path))

unfoldable pub reach : List ℕ → List NodeRow → ℕ → List ℕ → Outcome ℕ
reach b R r path = check (links_good R r) not_usable >>= λ _. down b R r path

-- "judges that name and value lie in the blob"
unfoldable pub parts_inside : List ℕ → List PropertyRow → ℕ → Bool
parts_inside b P k =
    nat_le ((property_at P k).name_offset + (property_at P k).name_length) (length b)
    && nat_le ((property_at P k).value_offset + (property_at P k).value_length) (length b)

unfoldable pub property_name : List ℕ → List PropertyRow → ℕ → List ℕ
property_name b P k = part b (property_at P k).name_offset (property_at P k).name_length

unfoldable pub value_span : List PropertyRow → ℕ → Span
value_span P k = record { offset = (property_at P k).value_offset; size = (property_at P k).value_length }

-- n property rows from number k on, in turn up to the first of that name
unfoldable pub among : List ℕ → List PropertyRow → ℕ → ℕ → List ℕ → Outcome Span
among b P zero k name = refused nothing_found
among b P (suc n) k name =
    when parts_inside b P k
    then (when same (property_name b P k) name then ok (value_span P k) else among b P n (k + 1) name)
    else refused not_usable

-- "judges of its node only that first property plus count is within the property count"
unfoldable pub properties_inside : List NodeRow → List PropertyRow → ℕ → Bool
properties_inside R P r = nat_le ((at R r).first_property + (at R r).property_count) (length P)

unfoldable pub property_of : List ℕ → List NodeRow → List PropertyRow → ℕ → List ℕ → Outcome Span
property_of b R P r name =
    check (properties_inside R P r) not_usable >>= λ _. among b P (at R r).property_count (at R r).first_property name

-- ---- tables: what the public lookups answer

-- "such a count exceeds its capacity, or the starting row is not below the node count (both before the path is looked at)"
unfoldable pub usable : List ℕ → ℕ → ℕ → Bool
usable nodes count row = nat_le count (capacity node_width nodes) && nat_lt row count

-- from a node
unfoldable pub find_from : List ℕ → List ℕ → ℕ → ℕ → List ℕ → Outcome ℕ
find_from b nodes count row path = do
  _ ← check (usable nodes count row) not_usable
  reach b (nodes_in count nodes) row path

-- "Then a tree path without its `/` gives 11, and only then is the starting row reached": row 0.
unfoldable pub find : List ℕ → List ℕ → ℕ → List ℕ → Outcome ℕ
find b nodes count path = do
  _ ← check (usable nodes count 0) not_usable
  below ← after_slash path
  reach b (nodes_in count nodes) 0 below

-- what a property lookup is lent: both tables, with the rows that are used
pub record Lent : Type 0 where
  pub nodes : List ℕ
  pub node_count : ℕ
  pub properties : List ℕ
  pub property_count : ℕ

unfoldable pub prop_raw : List ℕ → Lent → ℕ → List ℕ → Outcome Span
prop_raw b l row name = do
  _ ← check (usable l.nodes l.node_count row && nat_le l.property_count (capacity property_width l.properties)) not_usable
  property_of b (nodes_in l.node_count l.nodes) (properties_in l.property_count l.properties) row name

unfoldable pub has_prop : List ℕ → Lent → ℕ → List ℕ → Outcome (Unit {0})
has_prop b l row name = prop_raw b l row name >>= λ value. ok tt

-- the part that a span is of the blob
unfoldable pub bytes_of : List ℕ → Span → List ℕ
bytes_of b s = part b s.offset s.size

unfoldable pub prop_u32 : List ℕ → Lent → ℕ → List ℕ → Outcome ℕ
prop_u32 b l row name = prop_raw b l row name >>= λ value. as_number 4 (bytes_of b value)

unfoldable pub prop_u64 : List ℕ → Lent → ℕ → List ℕ → Outcome ℕ
prop_u64 b l row name = prop_raw b l row name >>= λ value. as_number 8 (bytes_of b value)

-- the part before the last byte
unfoldable pub prop_str : List ℕ → Lent → ℕ → List ℕ → Outcome Span
prop_str b l row name = do
  value ← prop_raw b l row name
  text ← as_string (bytes_of b value)
  ok (record { offset = value.offset; size = length text })
