-- `show::value::Pairs` writes the pairs of its bytes. Assumes nothing.
use Rattle.std.proofs.Common.{[], ◌∷◌, ◌++◌, true, refl, ap, sym, ◌∙◌, flat_map, take, take_all, append_assoc, append-nil}
use Rattle.std.proofs.Output.{has_written_of_eq, writes_in_calls_nil}
use Rattle.std.proofs.lemmas.List.{take_more, flat_map_more, nil_from_length}
use Rattle.show.specs.Chunks.{waiting}
use Rattle.show.specs.Escaped.{pair, pairs}
use Rattle.show.proofs.Chunks.{holds_waiting, holds_more, holds_of_eq, written}
use Rattle.show.proofs.value.PairsDisplay.fmt.Goals as goal

pub returns-in_default-clause-writes : goal.returns-in_default-clause-writes
unfolding pairs
returns-in_default-clause-writes g c = λ plain _.
    has_written_of_eq _ _ _ _ _ (ap pairs (sym (nil_from_length c.args.self.now.0.now c.in_default.ensures.cases))) (record { wrote = writes_in_calls_nil _ _; plain = plain })

pub loop-b-init : goal.loop-b-init
loop-b-init g c = λ plain. holds_of_eq _ _ _ _ _ _ (sym (append-nil (waiting c.put.new.self))) (holds_waiting _ _ _ plain)

pub loop-b-preserved : goal.loop-b-preserved
loop-b-preserved g c = λ plain.
    let s = c.in-Some.rest.now in
    let i = c.loop-b.b-index in
    let so_far = c.in_ok-make_room.ensures.holds _ _ (c.loop-b.invariant plain) (refl {a = true}) in
    let apart = c.put-in-loop-b-2.ensures.text ∙ ap (λ l. l ++ c.pair-in-loop-b.result) c.put-in-loop-b.ensures.text ∙ append_assoc _ (32 ∷ []) _ in
    let digits = ap (λ p. waiting c.make_room.new.self ++ (32 ∷ p)) c.pair-in-loop-b.ensures in
    let more = flat_map_more (λ x. 32 ∷ pair x) [] (take i s) _ ∙ ap (flat_map (λ x. 32 ∷ pair x)) (sym (take_more s i 0 c.loop-b-test.true)) in
    holds_of_eq _ _ _ _ _ _ (append_assoc (waiting c.put.new.self) _ _ ∙ ap (λ l. waiting c.put.new.self ++ l) more) (holds_more _ _ _ _ _ _ _ (apart ∙ digits) so_far)

pub returns-clause-writes : goal.returns-clause-writes
unfolding pairs
returns-clause-writes g c = λ plain ok.
    let s = c.in-Some.rest.now in
    let so_far = c.loop-b.invariant plain in
    let first = c.put.ensures.text ∙ ap (λ l. l ++ c.pair.result) c.new-chunk.ensures.empty ∙ c.pair.ensures in
    let all = ap (λ t. waiting c.put.new.self ++ flat_map (λ x. 32 ∷ pair x) t) (take_all _ s c.loop-b-test.false) in
    let whole = all ∙ ap (λ l. l ++ flat_map (λ x. 32 ∷ pair x) s) first ∙ ap pairs (sym c.in-Some.ensures.cases.0) in
    written _ _ _ _ _ _ (holds_of_eq _ _ _ _ _ _ whole so_far) (c.hand_out.ensures.writes so_far.wrote.plain ok)
