-- The reservation list: what it has, and where it ends.
use Rattle.std.specs.Prelude.{ℕ, ◌+◌, ◌*◌, ◌<◌, ◌^◌, List, length}
use Rattle.format.specs.Answer.{Outcome, ok, ◌>>=◌}
use Rattle.format.specs.Tree.{Reservation}
use Rattle.format.specs.Rules.{ours}
use Rattle.format.specs.Read.{reservations}

unfoldable pub listed : List ℕ → ℕ → Outcome (List Reservation)
listed b p = reservations ours.is_last b (length b) p

-- the position after the last of the reservations from p on
unfoldable pub scan_from : List ℕ → ℕ → Outcome ℕ
scan_from b p = listed b p >>= λ rs. ok (p + 16 * length rs)

pub record ScanReady (b : List ℕ) (p : ℕ) : Type 0 where
  pub blob : length b < 2 ^ 32
  pub start : p < 2 ^ 32
