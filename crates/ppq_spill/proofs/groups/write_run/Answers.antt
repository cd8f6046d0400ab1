use Rattle.std.proofs.Common.{ap, ◌∙◌}
use Rattle.std.specs.Prelude.{vec_capacity}
use Rattle.ppq_spill.proofs.groups.write_run.Goals as goal

pub write_groups-failed-requires-clause-may : goal.write_groups-failed-requires-clause-may
write_groups-failed-requires-clause-may g c κs within =
    let may = c.requires.may in
    record {
      some = may.some;
      leaves = may.leaves;
      idle = may.idle;
      few_idle = may.few_idle;
      blocks = may.blocks;
      no_job = c.take_jobs-jobs.ensures.none;
      empty = may.empty;
      few = may.few;
      few_slots = may.few_slots;
      sizes = may.sizes;
      room = may.room;
      least = may.least;
    }

pub returns-clause-rests : goal.returns-clause-rests
returns-clause-rests g c =
    let wrote = c.write_groups-failed.ensures in
    let rests = wrote.rests in
    record {
      leaves = rests.leaves;
      idle = rests.idle;
      no_job = wrote.no_job;
      job_room = wrote.room ∙ ap (λ v. vec_capacity v) c.take_jobs-jobs.ensures.taken;
      batch = rests.batch;
      internal_room = rests.internal_room;
      external = rests.external;
    }
