use Rattle.std.proofs.Common.{◌*◌, All, subst}
use Rattle.std.proofs.lemmas.List.Elements.{All-head}
use Rattle.ppq_array.specs.Owner.{HasBlock, HasSlot}
use Rattle.ppq_fetch.proofs.Landing.{may_read, may_land, loaded, lost}
use Rattle.ppq_fetch.proofs.load.load_block.Goals as goal

pub run_job-requires-after_bounds : goal.run_job-requires-after_bounds
run_job-requires-after_bounds g c κs within =
    let w = g.R.Record.WIDTH in
    let n = (g.P.Supply.stock c.args.supply.now).block in
    let l = c.lift_block-job in
    let size = All-head (HasSlot g.S.Slot.shown (n * w)) l.result.slot l.new.array.stored (subst (All (HasSlot g.S.Slot.shown (n * w))) l.ensures.lifted.stored c.requires.may.sizes) in
    let has = All-head (HasBlock n) l.result.buf l.new.idle (subst (All (HasBlock n)) l.ensures.lifted.taken c.requires.may.idle.blocks) in
    may_read g.R.Record.bytes_of g.R.Record.record_of w g.S.Slot.shown c.args.array.now l.new.array c.args.idle.now l.new.idle l.result l.ensures.lifted n c.record_laws.ensures.width.0 size has

pub land_block-requires-clause-may : goal.land_block-requires-clause-may
land_block-requires-clause-may g c =
    let w = g.R.Record.WIDTH in
    let s = g.P.Supply.stock c.args.supply.now in
    let l = c.lift_block-job in
    let size = All-head (HasSlot g.S.Slot.shown (s.block * w)) l.result.slot l.new.array.stored (subst (All (HasSlot g.S.Slot.shown (s.block * w))) l.ensures.lifted.stored c.requires.may.sizes) in
    may_land g.R.Record.bytes_of g.R.Record.record_of w g.S.Slot.shown c.args.array.now l.new.array c.args.idle.now l.new.idle l.result l.ensures.lifted c.requires.may.none_lifted c.run_job.new.job c.run_job.ensures s size c.requires.may.room c.requires.may.few

pub returns-clause-loaded : goal.returns-clause-loaded
returns-clause-loaded g c =
    let w = g.R.Record.WIDTH in
    let l = c.lift_block-job in
    let d = c.land_block in
    let s = g.P.Supply.stock c.args.supply.now in
    let t = g.P.Supply.stock d.new.supply in
    loaded g.R.Record.bytes_of g.R.Record.record_of w g.S.Slot.shown d.result c.args.array.now l.new.array d.new.array c.args.idle.now l.new.idle d.new.idle l.result c.run_job.new.job s t l.ensures.lifted c.requires.may.none_lifted c.run_job.ensures d.ensures.landed

pub returns-clause-lost : goal.returns-clause-lost
returns-clause-lost g c =
    let w = g.R.Record.WIDTH in
    let l = c.lift_block-job in
    let d = c.land_block in
    let s = g.P.Supply.stock c.args.supply.now in
    let t = g.P.Supply.stock d.new.supply in
    lost g.R.Record.bytes_of g.R.Record.record_of w g.S.Slot.shown d.result c.args.array.now l.new.array d.new.array c.args.idle.now l.new.idle d.new.idle l.result c.run_job.new.job s t l.ensures.lifted c.requires.may.none_lifted c.run_job.ensures d.ensures.failed
