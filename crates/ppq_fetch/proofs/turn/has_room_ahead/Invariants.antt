use Rattle.std.proofs.Common.{◌≡◌, take}
use Rattle.ppq_array.specs.Holdings.{external_buffers}
use Rattle.ppq_fetch.specs.Fetching.{fronts_in}
use Rattle.ppq_fetch.proofs.turn.has_room_ahead.Given as goal

abbrev pub invariant-loop-array : goal.invariant-loop-array
invariant-loop-array g l = record {
  buffers : l.buffers ≡ external_buffers (take l.array-index l.external);
  fronts : l.fronts ≡ fronts_in (take l.array-index l.external);
}
