use Rattle.std.proofs.Common.{◌∷◌, [], length, ap, arith, length-append}
use Rattle.ppq_spill.specs.Grouping.{slot_of, buf_of}
use Rattle.ppq_spill.proofs.Jobs.{long_as_before}
use Rattle.ppq_spill.proofs.groups.give_rest.Goals as goal

pub push_back-requires : goal.push_back-requires
push_back-requires g c =
    let l = c.loop-job in
    omega (arith, c.requires.few_idle, long_as_before buf_of l.idle c.args.idle.now l.jobs.items c.args.jobs.now.items l.invariant.idle, ap length c.in-Some.ensures.items, length-append c.pop.new.self.items (c.in-Some.job ∷ []))

pub push_back-requires-in-Some : goal.push_back-requires-in-Some
push_back-requires-in-Some g c =
    let l = c.loop-job in
    omega (arith, c.requires.few_slots, long_as_before slot_of l.berths c.args.berths.now l.jobs.items c.args.jobs.now.items l.invariant.berths, ap length c.in-Some.ensures.items, length-append c.pop.new.self.items (c.in-Some.job ∷ []))
