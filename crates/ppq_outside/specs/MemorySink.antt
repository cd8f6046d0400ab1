-- What contracts see of a sink in memory, and what a put makes of it.
use Rattle.std.specs.Prelude.{ℕ, ◌-◌, ◌==◌, Bool, ◌&&◌, List, [], ◌∷◌, ◌++◌, length, take, min, Option, Some, None, is_none, if◌then◌else◌}
use Rattle.ppq_outside.specs.Told.{next_count}

-- a sink in memory: the bytes that it took, how many bytes it has room for in all, the planned failures,
-- each the number of a put and how many bytes that put may take, how many puts were made, and how many
-- of them failed
pub record SinkState : Type 0 where
  pub taken : List ℕ
  pub room : ℕ
  pub plan : List (ℕ × ℕ)
  pub puts : ℕ
  pub faults : ℕ

-- a sink that took nothing yet
abbrev pub fresh_sink : ℕ → List (ℕ × ℕ) → SinkState
fresh_sink room plan = record { taken = []; room = room; plan = plan; puts = 0; faults = 0 }

-- no more than a number of bytes, where there is one
abbrev pub at_most : Option ℕ → ℕ → ℕ
at_most None count = count
at_most (Some most) count = min most count

-- the smallest of the numbers that the plan gives for a put, where smallest is what its earlier part gave
abbrev pub limit_from : Option ℕ → List (ℕ × ℕ) → ℕ → Option ℕ
limit_from least [] put = least
limit_from least (failure ∷ plan) put = limit_from (if failure.0 == put then Some (at_most least failure.1) else least) plan put

-- how many bytes the next put may take by the plan, and None where it is not planned to fail
abbrev pub next_limit : SinkState → Option ℕ
next_limit sink = limit_from None sink.plan (next_count sink.puts)

-- how many bytes of a piece still fit
abbrev pub fitting : SinkState → List ℕ → ℕ
fitting sink piece = min (length piece) (sink.room - length sink.taken)

-- the next put succeeds: it is not planned to fail, and its whole piece fits
abbrev pub put_succeeds : SinkState → List ℕ → Bool
put_succeeds sink piece = is_none (next_limit sink) && (fitting sink piece == length piece)

-- the sink after a put of this piece
abbrev pub after_put : SinkState → List ℕ → SinkState
after_put sink piece = record sink {
  taken = sink.taken ++ take (at_most (next_limit sink) (fitting sink piece)) piece;
  puts = next_count sink.puts;
  faults = if put_succeeds sink piece then sink.faults else next_count sink.faults;
}
