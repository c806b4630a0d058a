-- A second answer that fits what was spelled is the same: how much was put, and what. (The other contracts of `lines` are equations.)
-- Assumes nothing.
use Prim.Native.Nat.{ℕ, ◌≤◌}
use mathlib.Core.Path.{◌≡◌, refl, ap, sym, ◌∙◌}
use mathlib.Core.List.{List}
use Rattle.std.specs.Prelude.{Option, Some, None}
use lib.ListN.{length, take}
use lib.Seq.{length-take-le}
use Rattle.lines.specs.Fields.{many, put_by, Put}

same_count : (r q : Option ℕ) (out left : List ℕ) → many r ≤ length out → many q ≤ length left → put_by r out ≡ put_by q left → r ≡ q
same_count (Some m) (Some n) out left p q e =
    let same : take m out ≡ take n left = cc in
    ap Some (sym (length-take-le m out p) ∙ ap length same ∙ length-take-le n left q)
same_count (Some m) None out left p q e = cc
same_count None (Some n) out left p q e = cc
same_count None None out left p q e = refl

pub put_determined : {r q : Option ℕ} {m : Option (List ℕ)} {out left : List ℕ} → Put r m out → Put q m left → (r ≡ q) × (put_by r out ≡ put_by q left)
put_determined {r} {q} {m} {out} {left} h k =
    let e = h.same ∙ sym k.same in
    (same_count r q out left h.within k.within e, e)
