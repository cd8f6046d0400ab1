-- What a store of a pass keeps.
use Rattle.std.specs.Prelude.{◌≡◌, ℕ, ◌<◌}
use Rattle.ppq_extract.specs.ppq_outside.Shown.{Shown}
use Rattle.ppq_extract.specs.ppq_array.Kept.{Kept}
use Rattle.ppq_extract.specs.ppq_array.Holdings.{CanTakeBack}
use Rattle.ppq_spill.specs.Body.{held_by}
use Rattle.ppq_spill.specs.Storing.{HasOneSize, LanesRest, RoomsRest, StillTell, StillUntold, WritesFew}
use Rattle.ppq_spill.specs.declared.body.PassBody.{PassBody}
use Rattle.ppq_pass.specs.declared.shared.Shared.{Shared}
use Rattle.ppq_pass.specs.declared.parts.PassParts.{PassParts}
use Rattle.ppq_pass.specs.Passing.{IsPass, IsSince, steps_of}
use Rattle.ppq_pass.specs.PassState.{stock_of}

-- Whatever a store answers: the pass is of the same session, with the same shares; no slot and no buffer is lost or made, and slots go on
-- telling; buffers, lists and lanes are as a store leaves them; where a draw had answered None, that is counted still; and the places that
-- it drew stand behind those that it had
pub record StoreKept {S R : Type 0} (shown : S → Shown) (width records : ℕ) (shared : Shared S R) (old new : PassBody S R) (before now : PassParts S R) : Type 0 where
  pub supply : IsPass shown width shared now.row_seat now.pool_seat now.stash now.numbers now.block now.dry now.scant
  pub items : now.row_seat.hand.items ≡ before.row_seat.hand.items
  pub row_shares : now.row_seat.hand.shares ≡ before.row_seat.hand.shares
  pub pool_shares : now.pool_seat.hand.shares ≡ before.pool_seat.hand.shares
  pub dry : 0 < before.dry → 0 < now.dry
  pub since : IsSince before.row_seat.hand.places (steps_of before.row_seat before.pool_seat) now.row_seat now.pool_seat
  pub kept : Kept (stock_of shown before) (stock_of shown now) (held_by shown old) (held_by shown new)
  pub takes_back : CanTakeBack shown (stock_of shown now) new.runs.internal.items new.runs.external.items
  pub tells : StillTell shown old new (stock_of shown before) (stock_of shown now)
  pub untold : StillUntold shown old new (stock_of shown before) (stock_of shown now)
  pub writes : WritesFew shown records old new (stock_of shown before) (stock_of shown now)
  pub lanes : LanesRest old.lanes new.lanes
  pub size : HasOneSize shown width new (stock_of shown now)
  pub rooms : RoomsRest old new
