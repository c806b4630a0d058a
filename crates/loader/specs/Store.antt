-- What storing the reservation list needs.
use Rattle.std.specs.Prelude.{◌≡◌, ℕ, ◌+◌, ◌*◌, ◌≤◌, List, length}
use Rattle.format.specs.Format.{reservation_width}
use Rattle.format.specs.Answer.{ok}
use Rattle.format.specs.Tree.{Reservation}
use Rattle.survey.specs.Reserve.{listed}

pub record StoreReady (b : List ℕ) (p row : ℕ) (table : List ℕ) : Type 0 where
  pub rs : List Reservation
  pub here : listed b p ≡ ok rs
  pub room : reservation_width * (row + length rs) ≤ length table
