-- One place of a list is written.
use Rattle.std.proofs.Common.{◌≡◌, ℕ, ◌-◌, ◌<◌, true, List, length, get_or, set, map, sym, ap, ◌∙◌, nat_le, None}
use Rattle.std.proofs.lemmas.List.{map-set, get_or-map}
use Rattle.ppq_record.specs.declared.triple.Triple.{Triple}
use Rattle.ppq_handler.specs.Roster.{Place, answered}
use Rattle.ppq_handler.specs.Agenda.{places_after}

module _ {B : Type 0} (place : B → Place) where
  -- the place of an event is written as its handler leaves it
  pub places_set :
      (seats : List B) (base peers i : ℕ) (e : Triple) (d new : B) → nat_le base e.target ≡ true → e.target - base ≡ i → i < length seats
      → place new ≡ answered (place (get_or seats i d)) e.time e.target peers e.word
      → map place (set seats i new) ≡ places_after base peers (map place seats) e
  places_set seats base peers i e d new le is within h =
      let was : get_or (map place seats) i None ≡ place (get_or seats i d) = get_or-map place seats i d None within in
      map-set place seats i new ∙ rw (le, is) (ap (set (map place seats) i) (h ∙ ap (λ p. answered p e.time e.target peers e.word) (sym was)))
