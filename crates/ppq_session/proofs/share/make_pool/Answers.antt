use Rattle.std.proofs.Common.{◌≡◌, All, length, sym, ap, subst, arith}
use Rattle.std.proofs.lemmas.List.Elements.{All-nil}
use Rattle.ppq_pass.specs.declared.shared.PoolBuf.{PoolBuf}
use Rattle.ppq_session.proofs.Emptying.{one_shape}
use Rattle.ppq_session.proofs.share.make_pool.Goals as goal

pub take_buffers-requires-clause-room : goal.take_buffers-requires-clause-room
take_buffers-requires-clause-room g c = omega (arith, ap length c.requires.none, c.requires.room)

pub take_buffers-requires-clause-shape : goal.take_buffers-requires-clause-shape
take_buffers-requires-clause-shape g c =
    let fits = λ (b : PoolBuf g.row.R.Denot). b.buf.block ≡ c.args.supply.now.block in
    subst (All fits) (sym c.requires.none) (All-nil fits)

pub new-requires-clause-one_shape : goal.new-requires-clause-one_shape
new-requires-clause-one_shape g c = (c.args.supply.now.block, c.take_buffers.ensures.shape)

pub returns-in-Ok-clause-made : goal.returns-in-Ok-clause-made
returns-in-Ok-clause-made g c =
    let e = c.in-Ok.ensures in
    let buffers = c.take_buffers.new.buffers.items in
    let count : length buffers ≡ c.args.supply.now.sure_buffers = omega (arith, c.take_buffers.ensures.count, ap length c.requires.none) in
    record {
      pool_is = e.pool.0;
      shares = ap (λ h. h.shares) e.seat;
      untaken = ap (λ h. h.numbers) e.seat;
      count_is = omega (arith, e.pool.1, count);
      shape = λ some. one_shape (λ (b : PoolBuf g.row.R.Denot). b.buf.block) buffers _ _ e.shape c.take_buffers.ensures.shape (omega (arith, some, e.pool.1));
    }
