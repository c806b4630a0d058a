-- `show::chunk::Chunk::make_room` keeps what is written and what waits together. Assumes nothing.
use Rattle.show.proofs.Chunks.{holds_handed}
use Rattle.show.proofs.chunk.Chunk.make_room.Goals as goal

pub returns-clause-holds : goal.returns-clause-holds
returns-clause-holds g c = λ start bs h ok.
    holds_handed _ _ _ _ _ _ _ (c.hand_out.ensures.empty ok) h (c.hand_out.ensures.writes h.wrote.plain ok)
