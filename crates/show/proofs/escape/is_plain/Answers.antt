-- `show::escape::is_plain` finds that bytes are shown as they are. Assumes nothing.
use Rattle.std.proofs.Common.{rules, get_or, ◌++◌, [], ◌∙◌, ap, sym, take, take_all}
use Rattle.std.proofs.lemmas.List.{take_more, flat_map_more}
use Rattle.std.specs.Prelude.{flat_map}
use Rattle.show.proofs.escape.is_plain.Goals as goal

pub loop-b-preserved : goal.loop-b-preserved
loop-b-preserved g c = (
  c.loop-b.invariant.0,
  λ shown same.
      let s = c.args.s.now in
      let i = c.loop-b.b-index in
      let b = get_or s i 0 in
      let byte = same b c.how.result (search rules) c.how.ensures in
      let is = c.is.ensures c.if-not-is.false in
      let more = flat_map_more shown [] (take i s) b ∙ ap (flat_map shown) (sym (take_more s i 0 c.loop-b-test.true)) in
      sym more ∙ ap (λ l. l ++ shown b) (c.loop-b.invariant.1 shown same) ∙ ap (λ l. take i s ++ l) (sym byte ∙ is) ∙ sym (take_more s i 0 c.loop-b-test.true),
)

pub returns : goal.returns
returns g c = λ _ shown same.
    let s = c.args.s.now in
    let all = take_all _ s c.loop-b-test.false in
    ap (flat_map shown) (sym all) ∙ c.loop-b.invariant.1 shown same ∙ all
