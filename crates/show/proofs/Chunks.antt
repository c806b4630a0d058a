-- Laws of text that waits in a chunk. Assumes nothing.
use Rattle.std.proofs.Common.{◌≡◌, ℕ, List, [], ◌++◌, refl, sym, ap, ◌∙◌, append_assoc, append-nil}
use Rattle.std.proofs.Output.{has_written_append, has_written_of_eq, writes_in_calls_nil}
use Rattle.std.specs.Fmt.{HasWritten, IsPlainFormatter}
use Rattle.std.specs.declared.fmt.Formatter.{Formatter}
use Rattle.show.specs.Chunks.{Holds}

module _ {W : Type 0} (took : W → List ℕ → W → Type 0) (start : Formatter W) where
  -- nothing is written yet
  pub holds_waiting : (waits : List ℕ) → IsPlainFormatter start → Holds took start waits start waits
  holds_waiting waits plain = record { done = []; wrote = record { wrote = writes_in_calls_nil _ _; plain = plain }; whole = refl }

  -- more waits
  pub holds_more : (bs more waits waits' : List ℕ) (f : Formatter W) → waits' ≡ waits ++ more → Holds took start bs f waits → Holds took start (bs ++ more) f waits'
  holds_more bs more waits waits' f is h =
      record { done = h.done; wrote = h.wrote; whole = ap (λ l. h.done ++ l) is ∙ sym (append_assoc h.done waits more) ∙ ap (λ l. l ++ more) h.whole }

  -- the same text in another form
  pub holds_of_eq : (bs cs waits : List ℕ) (f : Formatter W) → bs ≡ cs → Holds took start bs f waits → Holds took start cs f waits
  holds_of_eq bs cs waits f is h = record { done = h.done; wrote = h.wrote; whole = h.whole ∙ is }

  -- what waits is written
  pub written : (bs waits : List ℕ) (f g : Formatter W) → Holds took start bs f waits → HasWritten took f waits g → HasWritten took start bs g
  written bs waits f g h w = has_written_of_eq _ _ _ _ _ h.whole (has_written_append _ _ _ _ _ _ h.wrote w)

  -- it is, and nothing waits any more
  pub holds_handed : (bs waits waits' : List ℕ) (f g : Formatter W) → waits' ≡ [] → Holds took start bs f waits → HasWritten took f waits g → Holds took start bs g waits'
  holds_handed bs waits waits' f g none h w =
      record { done = bs; wrote = written bs waits f g h w; whole = ap (λ l. bs ++ l) none ∙ append-nil bs }
