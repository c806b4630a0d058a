-- The numbers of the format and of the tables, each once
-- (Devicetree Specification v0.4, chapter 5; document 01, "How a blob is read" and "What a load writes").
use Rattle.std.specs.Prelude.{ℕ}

unfoldable pub magic : ℕ
magic = 0xd00dfeed

unfoldable pub version : ℕ
version = 17

-- where the header has each of its words; those at 24, 32 and 36 are never read
abbrev pub magic_at : ℕ
magic_at = 0

abbrev pub total_size_at : ℕ
total_size_at = 4

abbrev pub structure_at : ℕ
structure_at = 8

abbrev pub strings_at : ℕ
strings_at = 12

abbrev pub reservations_at : ℕ
reservations_at = 16

abbrev pub version_at : ℕ
version_at = 20

abbrev pub boot_cpu_at : ℕ
boot_cpu_at = 28

-- the tokens
unfoldable pub BEGIN_NODE : ℕ
BEGIN_NODE = 1

unfoldable pub END_NODE : ℕ
END_NODE = 2

unfoldable pub PROP : ℕ
PROP = 3

-- how many numbers a row of each table has
unfoldable pub reservation_width : ℕ
reservation_width = 2

unfoldable pub node_width : ℕ
node_width = 7

unfoldable pub property_width : ℕ
property_width = 4

-- how a row says that there is no such row
unfoldable pub NONE : ℕ
NONE = 4294967295
