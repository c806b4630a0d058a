-- What may differ between this reader and the Rust it follows, as one record with two values.
-- Every theorem that compares the two speaks of both values; a change of a rule is a change of `ours` alone.
use Rattle.std.specs.Prelude.{ℕ, suc, Bool, List, length, ◌==◌}
use Rattle.format.specs.Tree.{Reservation}

pub record Rules : Type 0 where
  -- how deep the nodes of a blob may nest; the root is at depth 1
  pub depth_limit : List ℕ → ℕ
  -- which reservation ends the list
  pub is_last : Reservation → Bool
  -- the position by which the name of a property, with its zero byte, has to end
  pub strings_end : List ℕ → ℕ

-- "The list stops at the first entry of size 0."
unfoldable pub size_zero : Reservation → Bool
size_zero r = r.size == 0

-- "Property names may lie outside the strings block": anywhere in the blob.
unfoldable pub ours : Rules
ours = record { depth_limit = λ b. 64; is_last = size_zero; strings_end = λ b. length b }

-- The Rust has no limit: each node takes more than a byte, so none is deeper than the blob is long.
unfoldable pub original : Rules
original = record { depth_limit = λ b. suc (length b); is_last = size_zero; strings_end = λ b. length b }
