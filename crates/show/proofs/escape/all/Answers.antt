-- `show::escape::all` writes what its bytes come to, one behind another. Assumes nothing.
use Rattle.std.proofs.Common.{rules, ◌++◌, ◌∙◌, true, refl, ap, sym, take, take_all}
use Rattle.std.proofs.Output.{has_written_of_eq}
use Rattle.std.proofs.lemmas.List.{take_more, flat_map_more}
use Rattle.std.specs.Prelude.{[], flat_map}
use Rattle.show.proofs.Chunks.{holds_more, holds_of_eq, written}
use Rattle.show.proofs.escape.all.Goals as goal

pub loop-b-preserved : goal.loop-b-preserved
loop-b-preserved g c = (
  c.loop-b.invariant.0,
  λ shown same plain.
      let s = c.args.s.now in
      let i = c.loop-b.b-index in
      let so_far = c.in_ok-make_room.ensures.holds _ _ (c.loop-b.invariant.1 shown same plain) (refl {a = true}) in
      let byte = same _ c.how.result (search rules) c.how.ensures in
      let more = flat_map_more shown [] (take i s) _ ∙ ap (flat_map shown) (sym (take_more s i 0 c.loop-b-test.true)) in
      holds_of_eq _ _ _ _ _ _ (ap (λ t. flat_map shown (take i s) ++ t) byte ∙ more) (holds_more _ _ _ _ _ _ _ c.put.ensures so_far),
)

pub returns-then-is_plain-clause-writes : goal.returns-then-is_plain-clause-writes
returns-then-is_plain-clause-writes g c = λ shown same plain ok.
    has_written_of_eq _ _ _ _ _ (sym (c.if-is_plain.ensures refl shown same)) (c.hand_over.ensures plain ok)

pub returns-clause-writes : goal.returns-clause-writes
returns-clause-writes g c = λ shown same plain ok.
    let so_far = c.loop-b.invariant.1 shown same plain in
    let whole = ap (flat_map shown) (take_all _ c.args.s.now c.loop-b-test.false) in
    written _ _ _ _ _ _ (holds_of_eq _ _ _ _ _ _ whole so_far) (c.hand_out.ensures.writes so_far.wrote.plain ok)
