-- Numbers put into a slice one by one. Assumes nothing.
use Rattle.std.proofs.Common.{◌≡◌, ℕ, ◌+◌, ◌≤◌, ◌<◌, List, [], ◌∷◌, length, take, get_or, sym, ap, ◌∙◌, arith}
use Rattle.std.proofs.lemmas.List.{length-take, take_more}
use Rattle.std.proofs.lemmas.List.Edits.{sets}
use Rattle.std.proofs.Math.ListN.{set}
use Rattle.std.proofs.Math.Seq.{set_out}
use Rattle.format.proofs.Rows.{sets_append}

-- storing where no place is changes nothing
pub no_place : (t : List ℕ) (at n : ℕ) → length t ≤ at → set t at n ≡ t
no_place = set_out

-- one number more, after those that were put
pub one_more : {u v : List ℕ} (t ns : List ℕ) (at d : ℕ) → at < length ns → u ≡ sets t 0 (take at ns) → v ≡ set u at (get_or ns at d) → v ≡ sets t 0 (take (at + 1) ns)
one_more t ns at d h put e =
    let as_many : 0 + length (take at ns) ≡ at = omega (arith, length-take at ns) in
    e ∙ ap (λ u. set u at (get_or ns at d)) put ∙ ap (λ k. set (sets t 0 (take at ns)) k (get_or ns at d)) (sym as_many)
    ∙ sym (sets_append t 0 (take at ns) (get_or ns at d ∷ [])) ∙ ap (sets t 0) (sym (take_more ns at d h))
