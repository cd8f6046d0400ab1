-- What contracts see of a seat, and what is true of it between calls.
use Rattle.std.specs.Prelude.{◌≡◌, ℕ, ◌+◌, ◌<◌, None, [], All}
use Rattle.atomic_table.specs.Seated.{TableId}
use Rattle.atomic_table.specs.declared.shared.Seat.{Seat}
use Rattle.ppq_table.specs.declared.place.Place.{Place}
use Rattle.ppq_pool.specs.declared.hand.Hand.{Hand}

-- which pool the seat is of, which pass it is in the history that the pool shows, and what it knows
pub record Known (T : Type 0) : Type 0 where
  pub pool : TableId
  pub pass : ℕ
  pub hand : Hand T

-- the seat has a share, no place in its hands, and numbers of its pool alone
pub record IsBetweenCalls {T : Type 0} (s : Seat (Place T) (Hand T)) : Type 0 where
  pub part : 0 < s.me.0.shares
  pub free : s.me.0.in_hand ≡ None
  pub bare : s.me.1 ≡ []
  pub in_range : All (λ i. i + 1 < s.table_id.slots) s.me.0.numbers
