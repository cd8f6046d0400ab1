use Rattle.std.proofs.Common.{◌≡◌, [], ◌∙◌, All, length, ap, subst, arith}
use Rattle.std.proofs.lemmas.List.{length-replicate}
use Rattle.ppq_extract.specs.ppq_block.Block.{holding}
use Rattle.ppq_queue.proofs.parts.new_body.Goals as goal

pub returns : goal.returns
returns g c =
    let runs = c.in_ok-runs.ensures in
    let lanes = c.in_ok-lanes.ensures in
    record {
      no_internal = runs.no_internal;
      no_external = runs.no_external;
      internal_room = omega (arith, runs.internal_room);
      external_room = omega (arith, runs.external_room, c.blocks-2.ensures.same);
      idle = omega (arith, lanes.idle, c.workers-workers.ensures.same);
      blocks = subst (λ k. All (λ b. b ≡ holding k []) c.in_ok-lanes.lanes.idle) c.block.ensures.same lanes.empty;
      no_job = lanes.no_job;
      batch = ap length lanes.batch ∙ length-replicate _ _ ∙ c.batch.ensures.same;
      leaves = ap length c.in_ok-tree.ensures.items ∙ length-replicate _ _;
    }

pub returns-in_err-runs : goal.returns-in_err-runs
returns-in_err-runs g c = grind arith

pub returns-in_err-lanes : goal.returns-in_err-lanes
returns-in_err-lanes g c = grind arith

pub returns-in_err-tree : goal.returns-in_err-tree
returns-in_err-tree g c = grind arith
