-- `show::chunk::Chunk::put_char` puts a character's UTF-8 behind what waits. Assumes nothing.
use Rattle.std.proofs.Common.{rules, ◌≡◌, ℕ, ◌+◌, ◌/◌, ◌%◌, ◌<◌, ◌≤◌, [], ◌∷◌, arith}
use Rattle.std.specs.Char.{encode_utf8}
use Rattle.show.proofs.chunk.Chunk.put_char.Goals as goal

two : (b : ℕ) → 128 ≤ b → b < 256 → encode_utf8 b ≡ (192 + b / 64) ∷ (128 + b % 64) ∷ []
unfolding encode_utf8
two b low high = grind arith

pub returns-else-b-lt128-clause-text : goal.returns-else-b-lt128-clause-text
returns-else-b-lt128-clause-text c = rw (two c.args.b (omega arith) (omega arith)) (search rules)
