-- `same_bytes` meets its contract: before each turn every byte after the word at i is the same. Assumes nothing.
use native.Mathlib.Omega.{arith}
use mathlib.Core.Path.{sym, ◌∙◌}
use Rattle.names.proofs.NameLaws.{lent_bytes, read_alike, word_differs, first_word}
use Rattle.names.proofs.same_bytes.Goals as goal

pub loop-i-init : goal.loop-i-init
loop-i-init c = (omega (arith, c.requires.0), λ k h l. absurd (omega (arith, c.requires.0)))

pub returns-then-word_of : goal.returns-then-word_of
returns-then-word_of c = word_differs _ _ _ (λ e. c.if-word_of.true (c.word_of.ensures ∙ e ∙ sym c.word_of-in-loop-i.ensures))

pub returns-then-i-lt-WORD : goal.returns-then-i-lt-WORD
returns-then-i-lt-WORD c =
    let alike = read_alike _ _ c.type_inv.s c.type_inv.t _ c.word_of.ensures c.if-word_of.false c.word_of-in-loop-i.ensures c.loop-i.invariant.1 in
    rw (c.word_of-then-i-lt-WORD.ensures, c.word_of-then-i-lt-WORD-2.ensures)
    (first_word _ _ (lent_bytes _ c.type_inv.s) (lent_bytes _ c.type_inv.t) c.requires.1 (λ k h l. alike k (omega (arith, c.if-i-lt-WORD.true)) l))

pub loop-i-preserved : goal.loop-i-preserved
loop-i-preserved c =
    let alike = read_alike _ _ c.type_inv.s c.type_inv.t _ c.word_of.ensures c.if-word_of.false c.word_of-in-loop-i.ensures c.loop-i.invariant.1 in
    (omega (arith, c.loop-i.invariant.0), λ k h l. alike k (omega (arith, c.if-i-lt-WORD.false)) l)

pub word_of-requires-then-i-lt-WORD : goal.word_of-requires-then-i-lt-WORD
word_of-requires-then-i-lt-WORD c = omega (arith, c.loop-i.invariant.0)

pub word_of-requires-then-i-lt-WORD-2 : goal.word_of-requires-then-i-lt-WORD-2
word_of-requires-then-i-lt-WORD-2 c = omega (arith, c.loop-i.invariant.0, c.requires.1)

pub loop-i-smaller : goal.loop-i-smaller
loop-i-smaller c = omega (arith, c.if-i-lt-WORD.false)
