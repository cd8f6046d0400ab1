use Rattle.std.proofs.Common.{◌≡◌, ◌+◌, ◌≤◌, ◌++◌, length, map, reverse, vec_len, vec_capacity}
use Rattle.ppq_table.specs.declared.place.Place.TheVariants.{Item}
use Rattle.ppq_table.proofs.laying.unlay.Given as goal

-- the places that are left and the items that came out of theirs are all places
abbrev pub invariant-loop-place : goal.invariant-loop-place
invariant-loop-place g l = record {
  all : l.places.items ++ map Item (reverse l.room.items) ≡ l.initial.places.items;
  room : vec_len l.places + vec_len l.room ≤ vec_capacity l.room;
}

abbrev pub decreases-loop-place : goal.decreases-loop-place
decreases-loop-place g l = length l.places.items
