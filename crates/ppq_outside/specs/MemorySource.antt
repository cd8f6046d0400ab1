-- What contracts see of a source in memory, and what a call makes of it.
use Rattle.std.specs.Prelude.{◌≡◌, ℕ, ◌<◌, ◌≤◌, Bool, List, [], ◌++◌, if◌then◌else◌}
use Rattle.ppq_outside.specs.Told.{next_count}
use Rattle.ppq_outside.specs.Plan.{fails_at}

-- a source in memory: the bytes that it gave, those to come, how many a call gives at the most, the numbers of the calls that are to fail,
-- how many calls were made, and how many of them failed
pub record SourceState : Type 0 where
  pub given : List ℕ
  pub coming : List ℕ
  pub most : ℕ
  pub plan : List ℕ
  pub calls : ℕ
  pub faults : ℕ

-- a source that gave nothing yet
abbrev pub fresh_source : List ℕ → ℕ → List ℕ → SourceState
fresh_source bytes most plan = record { given = []; coming = bytes; most = most; plan = plan; calls = 0; faults = 0 }

-- the next call fails
abbrev pub source_fails : SourceState → Bool
source_fails source = fails_at source.plan (next_count source.calls)

-- the source after a call, but for the bytes that it gave
abbrev pub after_get : SourceState → SourceState
after_get source = record source {
  calls = next_count source.calls;
  faults = if source_fails source then next_count source.faults else source.faults;
}

-- These are the next bytes that come, and none of them comes only if there is room for none or none is left
pub record GivesNext (room : ℕ) (old new : SourceState) (piece : List ℕ) : Type 0 where
  pub coming : old.coming ≡ piece ++ new.coming
  pub given : new.given ≡ old.given ++ piece
  pub over : piece ≡ [] → 0 < room → new.coming ≡ []
  pub rest : new ≡ record old { given = new.given; coming = new.coming }
