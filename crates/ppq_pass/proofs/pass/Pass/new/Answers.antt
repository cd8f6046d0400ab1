use Rattle.std.proofs.Common.{◌∙◌, None, refl, arith}
use Rattle.ppq_pass.specs.declared.parts.PassParts.{PassParts}
use Rattle.ppq_pass.proofs.PassBegun.{new_passed, new_sound, new_counted}
use Rattle.ppq_pass.proofs.pass.Pass.new.Goals as goal

pub invariant_of-result : goal.invariant_of-result
invariant_of-result g c =
    let shown = g.S.Slot.shown in
    let a = c.args in
    let r = c.requires in
    let parts : PassParts g.row.S.Denot g.row.R.Denot = record { row_seat = a.row_seat; stash = c.empty.result; pool_seat = a.pool_seat; numbers = a.numbers; block = c.block.result; dry = 0; scant = 0; room_when_scant = 0 } in (
      new_passed shown g.R.Ord.cmp g.R.Record.record_of g.R.Record.WIDTH a.sizes a.heap a.body parts c.block.ensures.range r.body c.block.ensures.same c.empty.ensures refl refl r.undrawn r.slots r.bytes r.untaken r.shape r.numbers r.room r.heap (omega (arith, c.len.ensures.within, c.len.ensures.value)) r.buffers,
      (λ _. new_sound shown g.R.Ord.cmp g.R.Record.record_of g.R.Record.WIDTH a.sizes a.heap a.body parts c.block.ensures.range r.body c.block.ensures.same c.empty.ensures refl refl r.undrawn r.slots r.bytes r.untaken r.shape r.numbers r.room c.from-begun.result (c.from-begun.ensures ∙ c.len.ensures.value)),
      new_counted shown g.R.Ord.cmp g.R.Record.record_of g.R.Record.WIDTH a.sizes a.heap a.body parts c.block.ensures.range r.body c.block.ensures.same c.empty.ensures refl refl r.undrawn r.slots r.bytes r.untaken r.shape r.numbers r.room c.from-begun.result (c.from-begun.ensures ∙ c.len.ensures.value) None,
    )
