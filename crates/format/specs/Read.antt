-- How a blob is read, step by step (document 01; the Rust's src/util.rs and src/lib.rs, whose names these are).
-- The first failure is the answer.
use Rattle.std.specs.Prelude.{ℕ, zero, suc, ◌+◌, ◌-◌, ◌^◌, Bool, not, List, [], ◌∷◌, length, take, drop, ◌==◌, nat_le, nat_lt}
use Rattle.format.specs.Choice.{when◌then◌else◌}
use Rattle.format.specs.Answer.{Outcome, ok, refused, ◌>>=◌, check, unexpected_end_of_input, parse_error, utf8_error, too_deep, invalid_magic_number, size_mismatch, version_not_supported}
use Rattle.format.specs.Bytes.{part, value_at, align}
use Rattle.format.specs.Format.{magic, version, magic_at, total_size_at, structure_at, strings_at, reservations_at, version_at, boot_cpu_at, BEGIN_NODE, END_NODE, PROP}
use Rattle.format.specs.Utf8.{from_utf8}
use Rattle.format.specs.Tree.{Property, Node, node, Nodes, none, ◌&◌, Reservation, Tree}
use Rattle.format.specs.Rules.{Rules}
use Rattle.format.specs.Encodes.{Block}

-- ---- src/util.rs

-- `align` called alone: refused at 0 and past the range, where the Rust would panic or wrap
unfoldable pub aligned : ℕ → ℕ → Outcome ℕ
aligned val to = do
  _ ← check (not (to == 0)) unexpected_end_of_input
  _ ← check (nat_lt (align val to) (2 ^ 64)) unexpected_end_of_input
  ok (align val to)

-- "4 or 8 bytes at a position, given exactly when the position plus 4 or 8 is at most the length"
unfoldable pub read_be : ℕ → List ℕ → ℕ → Outcome ℕ
read_be k b p = do
  _ ← check (nat_le (p + k) (length b)) unexpected_end_of_input
  ok (value_at k b p)

abbrev pub read_be_u32 : List ℕ → ℕ → Outcome ℕ
read_be_u32 b p = read_be 4 b p

abbrev pub read_be_u64 : List ℕ → ℕ → Outcome ℕ
read_be_u64 b p = read_be 8 b p

-- what stands before the first zero byte
unfoldable pub until_zero : List ℕ → Outcome (List ℕ)
until_zero [] = refused unexpected_end_of_input
until_zero (zero ∷ xs) = ok []
until_zero (suc x ∷ xs) = do
  s ← until_zero xs
  ok (suc x ∷ s)

unfoldable pub read_bstring0 : List ℕ → ℕ → Outcome (List ℕ)
read_bstring0 b p = until_zero (drop p b)

-- "Given exactly if start ≤ end < length."
unfoldable pub subslice : List ℕ → ℕ → ℕ → Outcome (List ℕ)
subslice b start end = do
  _ ← check (nat_le start end) unexpected_end_of_input
  _ ← check (nat_lt end (length b)) unexpected_end_of_input
  ok (part b start (end - start))

-- ---- src/lib.rs

-- what was read, and the position after it
pub record Read (A : Type 0) : Type 0 where
  pub value : A
  pub next : ℕ

-- the property whose token stands at p
unfoldable pub property : List ℕ → Block → ℕ → Outcome (Read Property)
property b strings p = do
  size ← read_be_u32 b (p + 4)
  offset ← read_be_u32 b (p + 8)
  value ← subslice b (p + 12) (p + 12 + size)
  name ← read_bstring0 (take strings.end b) (strings.start + offset)
  _ ← check (from_utf8 name) utf8_error
  ok (record { value = record { name = name; value = value }; next = align (p + 12 + size) 4 })

-- Each turn of a loop passes at least one byte, so the blob's length is fuel enough: where it is spent,
-- the position is past the end, and "an unreadable position gives 3".
unfoldable pub properties : List ℕ → Block → ℕ → ℕ → Outcome (Read (List Property))
properties b strings zero p = refused unexpected_end_of_input
properties b strings (suc fuel) p = do
  token ← read_be_u32 b p
  when token == PROP
      then (do
        first ← property b strings p
        rest ← properties b strings fuel first.next
        ok (record { value = first.value ∷ rest.value; next = rest.next }))
      else ok (record { value = []; next = p })

-- the nodes from p on, each read by `load`
unfoldable pub nodes : List ℕ → (ℕ → Outcome (Read Node)) → ℕ → ℕ → Outcome (Read Nodes)
nodes b load zero p = refused unexpected_end_of_input
nodes b load (suc fuel) p = do
  token ← read_be_u32 b p
  when token == BEGIN_NODE
      then (do
        first ← load p
        rest ← nodes b load fuel first.next
        ok (record { value = first.value & rest.value; next = rest.next }))
      else ok (record { value = none; next = p })

-- `Node::load`, with how many levels of nodes may still open
unfoldable pub node_load : List ℕ → Block → ℕ → ℕ → Outcome (Read Node)
node_load b strings zero p = refused (too_deep p)
node_load b strings (suc depth) p = do
  token ← read_be_u32 b p
  _ ← check (token == BEGIN_NODE) (parse_error p)
  name ← read_bstring0 b (p + 4)
  props ← properties b strings (length b) (align (p + 4 + length name + 1) 4)
  children ← nodes b (λ q. node_load b strings depth q) (length b) props.next
  token ← read_be_u32 b children.next
  _ ← check (token == END_NODE) (parse_error children.next)
  _ ← check (from_utf8 name) utf8_error
  ok (record { value = node name props.value children.value; next = children.next + 4 })

unfoldable pub reservation : List ℕ → ℕ → Outcome Reservation
reservation b p = do
  offset ← read_be_u64 b p
  size ← read_be_u64 b (p + 8)
  ok (record { offset = offset; size = size })

unfoldable pub reservations : (Reservation → Bool) → List ℕ → ℕ → ℕ → Outcome (List Reservation)
reservations is_last b zero p = refused unexpected_end_of_input
reservations is_last b (suc fuel) p = do
  first ← reservation b p
  when is_last first
      then ok (first ∷ [])
      else (do
        rest ← reservations is_last b fuel (p + 16)
        ok (first ∷ rest))

pub record Header : Type 0 where
  pub structure : ℕ
  pub strings : ℕ
  pub reservations : ℕ
  pub boot : ℕ

unfoldable pub header : List ℕ → Outcome Header
header b = do
  m ← read_be_u32 b magic_at
  _ ← check (m == magic) invalid_magic_number
  size ← read_be_u32 b total_size_at
  _ ← check (size == length b) size_mismatch
  v ← read_be_u32 b version_at
  _ ← check (v == version) version_not_supported
  structure ← read_be_u32 b structure_at
  strings ← read_be_u32 b strings_at
  reservations ← read_be_u32 b reservations_at
  boot ← read_be_u32 b boot_cpu_at
  ok (record { structure = structure; strings = strings; reservations = reservations; boot = boot })

-- what follows the header, with nodes at most `depth` deep
unfoldable pub body : Rules → ℕ → List ℕ → Header → Outcome Tree
body rules depth b h = do
  reserved ← reservations rules.is_last b (length b) h.reservations
  root ← node_load b (record { start = h.strings; end = rules.strings_end b }) depth h.structure
  ok (record { boot = h.boot; reserved = reserved; root = root.value })

unfoldable pub load_within : Rules → ℕ → List ℕ → Outcome Tree
load_within rules depth b = do
  h ← header b
  body rules depth b h

-- `DeviceTree::load`. Room for the rows is judged after this.
unfoldable pub load : Rules → List ℕ → Outcome Tree
load rules b = load_within rules (rules.depth_limit b) b

-- ---- the UTF-8 check called alone

unfoldable pub utf8_check : List ℕ → Outcome (Unit {0})
utf8_check s = check (from_utf8 s) utf8_error
