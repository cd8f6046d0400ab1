use Rattle.std.proofs.Common.{◌*◌, All, length, refl, sym, ap, ◌∙◌, subst, arith}
use Rattle.std.proofs.lemmas.List.Elements.{All-nil}
use Rattle.ppq_pass.specs.ppq_array.declared.berth.DeviceBlock.{DeviceBlock}
use Rattle.ppq_pass.specs.ppq_array.Owner.{HasBlock, HasSlot}
use Rattle.ppq_pass.specs.ppq_row.declared.hand.Hand.{Hand as RowHand}
use Rattle.ppq_pass.specs.ppq_pool.declared.hand.Hand.{Hand as PoolHand}
use Rattle.ppq_pass.specs.declared.shared.PoolBuf.{PoolBuf}
use Rattle.ppq_session.proofs.equip.new_pass.Goals as goal

pub new-requires-clause-body : goal.new-requires-clause-body
new-requires-clause-body g c =
    let u = c.requires.outfit in
    let b = c.args.sizes.block in
    let empty : All (HasBlock b) c.args.outfit.body.lanes.idle = subst (All (HasBlock b)) (sym u.no_idle) (All-nil (HasBlock b)) in
    let one = c.lend.ensures.blocks b c.requires.may.blocks empty in
    record {
      no_internal = u.no_internal;
      no_external = u.no_external;
      internal_room = u.internal_room;
      external_room = u.external_room;
      two = omega (arith, c.lend.ensures.moved, c.lend-2.ensures.moved, ap length u.no_idle);
      blocks = (c.lend-2.ensures.blocks b one.0 one.1).1;
      no_job = u.no_job;
      leaves = u.leaves;
    }

pub new-requires-clause-bytes : goal.new-requires-clause-bytes
new-requires-clause-bytes g c =
    subst (All (HasSlot g.S.Slot.shown (c.args.sizes.block * g.R.Record.WIDTH))) (sym (ap (λ (h : RowHand (DeviceBlock g.row.S.Denot g.row.R.Denot)). h.items) c.split-row_seat.ensures.new)) c.requires.may.bytes

pub returns-clause-equipped : goal.returns-clause-equipped
returns-clause-equipped g c =
    let u = c.requires.outfit in
    let m = c.requires.may in
    let b = c.args.sizes.block in
    let s = c.args.session.now in
    let empty : All (HasBlock b) c.args.outfit.body.lanes.idle = subst (All (HasBlock b)) (sym u.no_idle) (All-nil (HasBlock b)) in
    let one = c.lend.ensures.blocks b m.blocks empty in
    let row = c.split-row_seat.ensures in
    let pool = c.split-pool_seat.ensures in
    let row_less = ap (λ (h : RowHand (DeviceBlock g.row.S.Denot g.row.R.Denot)). h.shares) row.old in
    let pool_less = ap (λ (h : PoolHand (PoolBuf g.row.R.Denot)). h.shares) pool.old in
    record {
      buffers = omega (arith, c.lend.ensures.count, c.lend-2.ensures.count);
      blocks = (c.lend-2.ensures.blocks b one.0 one.1).0;
      shared = refl;
      row = row.row.0 ∙ sym m.row;
      row_hand = ap (λ (h : RowHand (DeviceBlock g.row.S.Denot g.row.R.Denot)). record h { shares = s.row_seat.hand.shares }) row.old;
      row_shares = omega (arith, row_less, m.row_shares);
      pool = pool.pool.0 ∙ sym m.pool;
      pool_hand = ap (λ (h : PoolHand (PoolBuf g.row.R.Denot)). record h { shares = s.pool_seat.hand.shares }) pool.old;
      pool_shares = omega (arith, pool_less, m.pool_shares);
    }
