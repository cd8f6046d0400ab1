use Rattle.std.proofs.Common.{sym, ap, ◌∙◌, arith, length, ◌<◌, ◌∷◌}
use Rattle.atomic_table.specs.Table.{rest}
use Rattle.ppq_table.specs.declared.place.Place.TheVariants.{Item}
use Rattle.ppq_row.proofs.Steps.{draws_one}
use Rattle.ppq_row.proofs.row.Row.draw.Goals as goal

pub fetch_add-found-requires : goal.fetch_add-found-requires
fetch_add-found-requires g c = (
  ap (λ s. s.row) c.seat.view_is ∙ c.requires.row ∙ sym c.self.view_is,
  omega (arith, c.self.invariant.0),
  draws_one _ _ _ _ c.seat.invariant.1 (sym c.seat.invariant.0 ∙ c.if-seat.false),
)

pub exchange-requires : goal.exchange-requires
exchange-requires g c = let told = c.fetch_add-found.ensures in let below : c.fetch_add-found.result < length c.seat.inside.seat.me.0.items = omega (arith, told.2.0, c.if-found-end.false, c.slot_count.ensures) in
    let drew = told.2.1 below in (
      told.0 ∙ ap (λ s. s.row) c.seat.view_is ∙ c.requires.row ∙ sym c.self.view_is,
      (Item drew.0, drew.2 ∙ (λ i. (c.fetch_add-found.result, Item drew.0) ∷ sym (ap rest drew.2) i)),
    )
