-- What the answers about nodes and properties are to be: positions and counts of what crate format's reader reads.
use Rattle.std.specs.Prelude.{ℕ, ◌+◌, ◌≤◌, ◌<◌, ◌^◌, List, eqb, length}
use Rattle.format.specs.Answer as answer
use Rattle.format.specs.Answer.{Outcome, ok, ◌>>=◌, check}
use Rattle.format.specs.Bytes.{align}
use Rattle.format.specs.Format.{BEGIN_NODE, END_NODE}
use Rattle.format.specs.Tree.{Property, Node, node_count, property_count}
use Rattle.format.specs.Encodes as encodes
use Rattle.format.specs.Read.{read_be_u32, read_bstring0, utf8_check, Read, properties}
use Rattle.survey.specs.declared.Block.{Block}
use Rattle.survey.specs.declared.nodes.Props.{Props}
use Rattle.survey.specs.declared.nodes.Head.{Head}
use Rattle.survey.specs.declared.nodes.Passed.{Passed}

-- the strings block, as crate format has it
unfoldable pub block : Block → encodes.Block
block s = record { start = s.start; end = s.end }

-- every sum of positions fits: the header has checked the blob's length, and a word is below 2 ^ 32
pub record Small (b : List ℕ) (strings : Block) : Type 0 where
  pub blob : length b < 2 ^ 32
  pub start : strings.start < 2 ^ 32
  pub end : strings.end ≤ length b

unfoldable pub counted_props : Outcome (Read (List Property)) → Outcome Props
counted_props m = m >>= λ r. ok (record { next = r.next; props = length r.value })

unfoldable pub counted : Outcome (Read Node) → Outcome Passed
counted m = m >>= λ r. ok (record { next = r.next; nodes = node_count r.value; props = property_count r.value })

unfoldable pub head_of : List ℕ → encodes.Block → ℕ → Outcome Head
head_of b strings p =
    read_be_u32 b p >>= λ token.
    check (eqb token BEGIN_NODE) (answer.parse_error p) >>= λ _.
    read_bstring0 b (p + 4) >>= λ name.
    counted_props (properties b strings (length b) (align (p + 4 + length name + 1) 4)) >>= λ own.
    ok (record { len = length name; next = own.next; props = own.props })

-- a node's closing token at p, and its name, judged last
unfoldable pub end_of : List ℕ → List ℕ → ℕ → Outcome ℕ
end_of b name p =
    read_be_u32 b p >>= λ token.
    check (eqb token END_NODE) (answer.parse_error p) >>= λ _.
    utf8_check name >>= λ _.
    ok (p + 4)
