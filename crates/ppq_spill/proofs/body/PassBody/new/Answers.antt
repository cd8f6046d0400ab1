use Rattle.std.proofs.Common.{◌∙◌, length, ap, arith}
use Rattle.std.proofs.lemmas.List.{length-replicate}
use Rattle.ppq_spill.proofs.body.PassBody.new.Goals as goal

pub returns : goal.returns
returns g c =
    record {
      no_internal = c.in_ok-runs.ensures.no_internal;
      no_external = c.in_ok-runs.ensures.no_external;
      internal_room = omega (arith, c.in_ok-runs.ensures.internal_room);
      external_room = omega (arith, c.in_ok-runs.ensures.external_room);
      two = c.in_ok-lanes.ensures.idle;
      blocks = λ k d h. ap (λ b. b.block) (c.in_ok-lanes.ensures.empty k d h);
      no_job = c.in_ok-lanes.ensures.no_job;
      leaves = ap length c.in_ok-tree.ensures.items ∙ length-replicate _ _;
    }
