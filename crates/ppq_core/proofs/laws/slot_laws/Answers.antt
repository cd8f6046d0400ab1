use Rattle.ppq_core.proofs.Slots.{draws_in_order, draws_once, stores_once, stores_its_draw, tells_slots}
use Rattle.ppq_core.proofs.laws.slot_laws.Goals as goal

pub returns : goal.returns
returns g c = record {
  in_order = draws_in_order _;
  drawn_once = draws_once _;
  stored_once = stores_once _;
  stored_after = stores_its_draw _;
  places = tells_slots _;
}
