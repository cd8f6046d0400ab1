use Rattle.std.proofs.Common.{◌∙◌, refl, subst, arith}
use Rattle.ppq_sweep.specs.Notes.{TookUpTo}
use Rattle.ppq_sweep.proofs.Served.{takes_none, takes_more}
use Rattle.ppq_sweep.proofs.Turning.{hears-begin, hears-next, hears-end}
use Rattle.ppq_sweep.proofs.node.hear.Goals as goal

pub hearing-init : goal.hearing-init
hearing-init g c = record { takes = takes_none c.args.notes.now; quiet = refl; heard = λ tell. hears-begin c.args.node c.args.notes.now.bag; fits = omega arith }

pub hearing-preserved : goal.hearing-preserved
hearing-preserved g c =
    let it = c.hearing.invariant in
    let one = c.in_ok-take_up_to.ensures in
    let node = c.args.node in
    let old = c.args.notes.now in
    let mid = c.hearing.notes in
    let new = c.take_up_to.new.queue in
    record {
      takes = takes_more old mid new it.takes one.takes;
      quiet = one.sound.quiet ∙ it.quiet;
      heard = λ tell.
          hears-next node old.bag mid.bag new.bag c.hearing.level c.max-level.result c.in-Some.note (it.heard tell) (subst (TookUpTo node mid.bag new.bag) c.in-Some.is (one.taken (it.takes.keeps.tells tell)))
          (omega (arith, c.max-level.ensures, c.saturating_add.ensures));
      fits = c.max-level.type_inv;
    }

pub returns-in-None-clause-takes : goal.returns-in-None-clause-takes
returns-in-None-clause-takes g c = takes_more c.args.notes.now c.hearing.notes c.take_up_to.new.queue c.hearing.invariant.takes c.in_ok-take_up_to.ensures.takes

pub returns-in-None-clause-heard : goal.returns-in-None-clause-heard
returns-in-None-clause-heard g c tell =
    let it = c.hearing.invariant in
    let mid = c.hearing.notes.bag in
    let new = c.take_up_to.new.queue.bag in
    hears-end c.args.node c.args.notes.now.bag mid new c.hearing.level (it.heard tell) (subst (TookUpTo c.args.node mid new) c.in-None.is (c.in_ok-take_up_to.ensures.taken (it.takes.keeps.tells tell)))

pub returns-in_err-take_up_to-clause-takes : goal.returns-in_err-take_up_to-clause-takes
returns-in_err-take_up_to-clause-takes g c = takes_more c.args.notes.now c.hearing.notes c.take_up_to.new.queue c.hearing.invariant.takes c.in_err-take_up_to.ensures.takes
