-- The starred cases, one claim, by computation; and with them that acceptance is not empty. Assumes nothing.
use Rattle.std.specs.Prelude.{◌≡◌, ℕ, zero, suc, ◌≤◌, Bool, true, ◌&&◌, ltb, ◌≢◌, List, [], ◌∷◌, map, length, get_or}
use mathlib.Core.Path.{refl, ap}
use native.Mathlib.Omega.{arith}
use borrow.Author.Tests.{ltb-true, ne_eqb}
use Rattle.format.specs.Choice.{when◌then◌else◌}
use Rattle.format.specs.Answer.{refusal_numbers, Outcome, ok, refused, invalid_magic_number, numbers, first, itself, ◌>>=◌, check}
use Rattle.format.specs.Bytes.{part, big_endian, number, value_at, word_at, align, AreBytes}
use Rattle.format.specs.Format.{magic, version, magic_at, BEGIN_NODE, END_NODE, PROP, reservation_width, node_width, property_width, NONE}
use Rattle.format.specs.Utf8.{leading_ones, within, tail, second, further_by, further, goes_on, from_utf8}
use Rattle.format.specs.Tree.{Tree, node_count, property_count}
use Rattle.format.specs.Rules.{Rules, size_zero, ours}
use Rattle.format.specs.Encodes.{after_property, after_properties, after_name, after_node}
use Rattle.format.specs.Read.{read_be, until_zero, read_bstring0, subslice, property, properties, nodes, node_load, reservation, reservations, header, body, load_within, load}
use Rattle.format.specs.Rows.{blank, at, property_at, first_row, node_rows, property_row, property_rows, node_properties, rows, reservation_numbers, node_numbers, property_numbers, nodes_in, properties_in}
use Rattle.format.specs.Load.{tree_numbers, capacity, room, tables_after, Accepted}
use Rattle.format.specs.Load as into
use Rattle.format.specs.Find.{SLASH, head, rest, same, after_slash, as_number}
use Rattle.format.specs.Lookup.{link_good, links_good, name_inside, name_at, across, down, reach, parts_inside, property_name, value_span, among, properties_inside, property_of, usable, find, prop_raw, bytes_of, prop_u32}
use Rattle.format.specs.Agrees.{used}
use Rattle.format.specs.Cases.{words, S, lent, Case, cases, after_load, said}
use Rattle.format.proofs.Tools.{both}
use Rattle.format.proofs.Answer.{then_ok, then_refused, check_no, refusal_not_0}
use Rattle.format.proofs.Read.{read_there}
use Rattle.format.proofs.Load.{accepted}

-- The one claim.
pub starred : map said cases ≡ map (λ (c : Case). c.says) cases
unfolding said after_load cases S words lent used big_endian part number value_at align when◌then◌else◌ numbers itself refusal_numbers ◌>>=◌ check magic version BEGIN_NODE END_NODE PROP reservation_width node_width property_width NONE leading_ones within tail second further_by further goes_on from_utf8 node_count property_count size_zero ours after_property after_properties after_name after_node read_be until_zero read_bstring0 subslice property properties nodes node_load reservation reservations header body load_within load blank at property_at first_row node_rows property_row property_rows node_properties rows reservation_numbers node_numbers property_numbers nodes_in properties_in tree_numbers capacity room tables_after into.load SLASH head rest same after_slash as_number link_good links_good name_inside name_at across down reach parts_inside property_name value_span among properties_inside property_of usable find prop_raw bytes_of prop_u32
starred = refl

-- "Four bytes other than the magic": whatever they are, and whatever follows.
pub not_magic : (rules : Rules) (b : List ℕ) → 4 ≤ length b → word_at b magic_at ≢ magic → load rules b ≡ refused invalid_magic_number
unfolding load load_within header
not_magic rules b h n = then_refused _ _ (then_ok _ _ (read_there b 4 magic_at h) (then_refused _ _ (check_no _ (ne_eqb (word_at b magic_at) magic n))))

-- ---- acceptance is not empty: S encodes a tree, and is accepted

bytes_all : List ℕ → Bool
bytes_all [] = true
bytes_all (x ∷ xs) = ltb x 256 && bytes_all xs

are_bytes : (l : List ℕ) → bytes_all l ≡ true → AreBytes l
unfolding bytes_all AreBytes
are_bytes [] e i = omega arith
are_bytes (x ∷ l) e zero = ltb-true _ _ (both _ _ e).0
are_bytes (x ∷ l) e (suc i) = are_bytes l (both (ltb x 256) (bytes_all l) e).1 i

S_bytes : AreBytes S
unfolding bytes_all S words big_endian
S_bytes = are_bytes S refl

pub record SomeTree : Type 0 where
  pub tree : Tree
  pub is : Accepted lent S tree

S_answer : first (numbers tree_numbers (into.load lent S)) ≡ 0
unfolding cases said after_load first
S_answer = ap (λ l. first (get_or l 0 [])) starred

pub S_accepted : SomeTree
unfolding numbers
S_accepted = go (into.load lent S) refl S_answer
  where
    go : (m : Outcome Tree) → into.load lent S ≡ m → first (numbers tree_numbers m) ≡ 0 → SomeTree
    go (ok t) e h = record { tree = t; is = (accepted lent S S_bytes t).0 e }
    go (refused r) e h = absurd (refusal_not_0 r h)
