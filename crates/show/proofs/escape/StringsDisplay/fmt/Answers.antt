-- Strings are shown byte by byte, between quotation marks. Assumes nothing.
use Rattle.std.proofs.Common.{◌≡◌, ℕ, ◌-◌, List, [], ◌∷◌, Bool, false, refl, ap, sym, ◌∙◌, if◌then◌else◌, length, take, ◌==◌, arith}
use Rattle.std.proofs.Output.{has_written_append, has_written_of_eq, writes_in_calls_nil}
use Rattle.std.proofs.Math.Dec.{eqb-suc-zero}
use Prim.Native.Nat.{suc}
use Rattle.std.proofs.Math.Seq.{take-append_seam}
use Rattle.std.specs.List.{IsLastAndRest}
use Rattle.show.specs.Escaped.{in_strings, quoted, strings}
use Rattle.show.proofs.escape.StringsDisplay.fmt.Goals as goal

-- all but the last byte, between quotation marks
of_rest : (s rest : List ℕ) (x : ℕ) → IsLastAndRest s x rest → quoted rest ≡ strings s
unfolding strings
of_rest s rest x (is, long) =
    let n : length s - 1 ≡ length rest = omega arith in
    let cut : take (length s - 1) s ≡ rest = ap (λ k. take k s) n ∙ ap (take (length rest)) is ∙ take-append_seam rest (x ∷ []) in
    let more : length s ≡ suc (length rest) = omega arith in
    let some : false ≡ (length s == 0) = sym (ap (λ k. k == 0) more ∙ eqb-suc-zero (length rest)) in
    ap quoted (sym cut) ∙ ap (λ (none : Bool). if none then [] else quoted (take (length s - 1) s)) some

of_none : (s : List ℕ) → length s ≡ 0 → [] ≡ strings s
unfolding strings
of_none s none = ap (λ (is : Bool). if is then [] else quoted (take (length s - 1) s)) (sym (ap (λ k. k == 0) none))

pub returns-in_default-clause-writes : goal.returns-in_default-clause-writes
returns-in_default-clause-writes g c = λ plain ok.
    has_written_of_eq _ _ _ _ _ (of_none c.args.self.now.0.now c.in_default.ensures.cases) (record { wrote = writes_in_calls_nil _ _; plain = plain })

pub returns-clause-writes : goal.returns-clause-writes
returns-clause-writes g c = λ plain ok.
    let first = c.in_ok-write_str.ensures.writes plain refl in
    let bytes = c.in_ok-all.ensures.writes in_strings (λ b r small same. same) first.plain refl in
    let last = c.write_str-2.ensures.writes bytes.plain ok in
    let is = of_rest c.args.self.now.0.now c.in-Some.s.now c.in-Some.field-0-0.now c.in-Some.ensures.cases in
    has_written_of_eq _ _ _ _ _ is (has_written_append _ _ _ _ _ _ first (has_written_append _ _ _ _ _ _ bytes last))
