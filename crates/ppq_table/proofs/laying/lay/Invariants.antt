use Rattle.std.proofs.Common.{◌≡◌, ◌+◌, ◌≤◌, ◌++◌, length, map, reverse, vec_len, vec_capacity}
use Rattle.ppq_table.specs.declared.place.Place.TheVariants.{Item}
use Rattle.ppq_table.proofs.laying.lay.Given as goal

-- the places and the items that are left are all items, and have room
abbrev pub invariant-loop-item : goal.invariant-loop-item
invariant-loop-item g l = record {
  all : l.places.items ++ map Item (reverse l.items.items) ≡ map Item (reverse l.initial.items.items);
  places : vec_len l.places + vec_len l.items + 1 ≤ vec_capacity l.places;
  room : vec_len l.initial.items ≤ vec_capacity l.items;
}

abbrev pub decreases-loop-item : goal.decreases-loop-item
decreases-loop-item g l = length l.items.items
