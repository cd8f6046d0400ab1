use Rattle.std.proofs.Common.{arith}
use Rattle.ppq_pass.proofs.Passes.{IsPass-took, IsPass-scant, room_for}
use Rattle.ppq_pool.specs.Seats.{count_of}
use Rattle.ppq_pass.proofs.PassSince.{since_took, since_scant}
use Rattle.ppq_pass.proofs.pass_supply.PassSupplySupply.take_buffer.Goals as goal

pub push_reserved-requires : goal.push_reserved-requires
push_reserved-requires g c =
    let s = c.self.inside in
    omega (
      arith,
      room_for c.self.invariant.0 c.in-Some.taken.0 c.in-Some.ensures.number c.in-Some.ensures.taken.was_free,
      s.numbers.ok.0,
    )

pub invariant_of-self : goal.invariant_of-self
invariant_of-self g c =
    let s = c.self.inside in (
      IsPass-took c.self.invariant.0 c.take.new.seat c.push_reserved.new.self c.take.ensures.pool c.in-Some.taken.0 c.in-Some.ensures.number c.in-Some.ensures.taken c.push_reserved.ensures.items c.push_reserved.ensures.capacity,
      c.self.invariant.1,
      since_took c.self.invariant.2 c.take.new.seat c.in-Some.taken.0 c.in-Some.ensures.taken,
    )

pub invariant_of-self-in-None : goal.invariant_of-self-in-None
invariant_of-self-in-None g c =
    let s = c.self.inside in (
      IsPass-scant c.self.invariant.0 c.take.new.seat c.take.ensures.pool c.in-None.ensures.none c.saturating_add-self-inside.result (omega (arith, c.saturating_add-self-inside.ensures)),
      c.self.invariant.1,
      since_scant c.self.invariant.2 c.take.new.seat (count_of s.shared.now.pool) c.in-None.ensures.none,
    )
