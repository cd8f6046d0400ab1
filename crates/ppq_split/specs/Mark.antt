-- Marks: records with their places.
use Rattle.std.specs.Prelude.{◌≡◌, ◌+◌, ◌^◌, ◌<◌, List, length, slice_get, Some}
use Rattle.ppq_record.specs.Runs.{list_at}
use Rattle.ppq_split.specs.declared.mark.Mark.{Mark}

-- the record stands at its place in its run
abbrev pub IsMark : {X : Type 0} → List (List X) → Mark X → Type 0
IsMark qs m = (m.run < length qs) × (slice_get (list_at qs m.run) m.place ≡ Some m.item) × (m.place + 1 < 2 ^ 64)
