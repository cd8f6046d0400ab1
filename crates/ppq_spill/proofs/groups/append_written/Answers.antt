use Rattle.std.proofs.Common.{◌≡◌, ◌∷◌, ◌++◌, [], length, refl, sym, ap, ◌∙◌, subst, arith, length-append, append-nil, Some}
use Rattle.std.proofs.lemmas.List.{nil_from_length}
use Rattle.ppq_fetch.specs.ppq_array.External.{external, IsLabelled}
use Rattle.ppq_spill.specs.Grouping.{Taking, CanEnd, block_of}
use Rattle.ppq_spill.proofs.Taken.{block_is, last_of, but_last, items_last, taking_none, taking_more, taking_stop, taking_all, size_on, none_some}
use Rattle.ppq_spill.proofs.Jobs.{long_on}
use Rattle.ppq_spill.proofs.groups.append_written.Goals as goal

pub loop-job-init : goal.loop-job-init
loop-job-init g c =
    record {
      taking = taking_none c.args.jobs.now.items c.args.idle.now c.args.array.now c.requires.none_lifted;
      can = c.requires.can;
      idle = refl;
      stored = refl;
      size = refl;
      none_lifted = c.requires.none_lifted;
      capacity = refl;
    }

pub at-minimum-requires : goal.at-minimum-requires
at-minimum-requires g c = (last_of (CanEnd g.R.Record.record_of g.R.Record.WIDTH g.S.Slot.shown) c.pop.new.self.items c.in-Some.job c.in-Some.ensures.items c.loop-job.invariant.can).some

pub unreachable-requires : goal.unreachable-requires
unreachable-requires g c =
    none_some c.in-Some.job.done c.in_default-done.is (last_of (CanEnd g.R.Record.record_of g.R.Record.WIDTH g.S.Slot.shown) c.pop.new.self.items c.in-Some.job c.in-Some.ensures.items c.loop-job.invariant.can).done

pub append-requires-clause-labelled : goal.append-requires-clause-labelled
append-requires-clause-labelled g c =
    let shown = g.S.Slot.shown in
    let can = last_of (CanEnd g.R.Record.record_of g.R.Record.WIDTH shown) c.pop.new.self.items c.in-Some.job c.in-Some.ensures.items c.loop-job.invariant.can in
    subst (IsLabelled g.R.Record.record_of g.R.Record.WIDTH shown) (block_is c.in-Some.job c.at-minimum.result c.len-count.result c.at-minimum.ensures.record c.len-count.ensures.len)
    (can.labelled (c.in-Ok.field-0, c.in-Some-done.is ∙ ap (λ a. Some a) c.in-Ok.is))

pub loop-job-preserved : goal.loop-job-preserved
loop-job-preserved g c =
    let l = c.loop-job in
    let i = l.invariant in
    let j = c.in-Some.job in
    let e = c.in-Some.ensures.items in
    let block = block_is j c.at-minimum.result c.len-count.result c.at-minimum.ensures.record c.len-count.ensures.len in
    let put_on = c.append.ensures ∙ ap (λ b. external l.array.level l.array.loaded [] (l.array.stored ++ b ∷ [])) (sym block) in
    record {
      taking = taking_more c.args.jobs.now.items c.pop.new.self.items j e c.args.idle.now l.idle c.push_back.new.self c.args.array.now l.array c.append.new.self i.taking (c.in-Ok.field-0, c.in-Some-done.is ∙ ap (λ a. Some a) c.in-Ok.is) c.push_back.ensures put_on;
      can = but_last (CanEnd g.R.Record.record_of g.R.Record.WIDTH g.S.Slot.shown) c.pop.new.self.items j e i.can;
      idle = omega (arith, i.idle, ap length e, ap length c.push_back.ensures, length-append c.pop.new.self.items (j ∷ []), length-append l.idle (j.buf ∷ []));
      stored = omega (arith, i.stored, ap length e, long_on l.array.stored (block_of j) (ap (λ a. a.stored) put_on), length-append c.pop.new.self.items (j ∷ []));
      size = omega (arith, i.size, items_last c.pop.new.self.items j e, size_on j l.array c.append.new.self i.none_lifted put_on);
      none_lifted = ap (λ a. a.lifted) c.append.ensures;
      capacity = c.pop.ensures.capacity ∙ i.capacity;
    }

pub returns-in-Err-clause-taken : goal.returns-in-Err-clause-taken
returns-in-Err-clause-taken g c =
    let l = c.loop-job in
    taking_stop c.args.jobs.now.items c.pop.new.self.items c.in-Some.job c.in-Some.ensures.items c.args.idle.now l.idle c.push_back.new.self c.args.array.now l.array l.invariant.taking (c.in-Err.field-0, c.in-Some-done.is ∙ ap (λ a. Some a) c.in-Err.is) c.push_back.ensures

pub returns-clause-taken : goal.returns-clause-taken
returns-clause-taken g c =
    let l = c.loop-job in
    let same = c.in_default.ensures.items ∙ append-nil c.pop.new.self.items in
    let none : c.pop.new.self.items ≡ [] = nil_from_length c.pop.new.self.items (omega (arith, c.in_default.ensures.cases)) in
    taking_all c.args.jobs.now.items c.pop.new.self.items none c.args.idle.now l.idle c.args.array.now l.array (subst (λ js. Taking c.args.jobs.now.items js c.args.idle.now l.idle c.args.array.now l.array) same l.invariant.taking)
