-- `plain_words` meets its contract: no slash stands in the words before the one that is looked at. Assumes nothing.
use native.Mathlib.Omega.{arith}
use Rattle.names.proofs.NameLaws.{scan_word}
use Rattle.names.proofs.plain_words.Goals as goal

pub loop-i-preserved : goal.loop-i-preserved
loop-i-preserved c =
    let words = c.as_chunks.ensures in
    scan_word _ _ c.loop-i.i words.front (omega (arith, c.loop-i-test.true, words.front_len)) (c.has_slash.ensures c.if-has_slash.false) c.loop-i.invariant
