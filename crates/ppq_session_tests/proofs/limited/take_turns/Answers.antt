use Rattle.std.proofs.Common.{◌∙◌}
use Rattle.ppq_session.specs.LimitSession.{front_key}
use Rattle.ppq_session_tests.proofs.limited.take_turns.Goals as goal

-- what was added to the first pass changed no key and no limit
pub least_of_all-requires-after_bounds : goal.least_of_all-requires-after_bounds
least_of_all-requires-after_bounds g c κs bounds =
    let of = c.requires.limited in
    record {
      count = c.add_to_first-added.auto.passes ∙ of.count;
      keys = c.add_to_first-added.ensures.keys (front_key c.args.front.now) of.keys;
      limits = c.add_to_first-added.ensures.limits c.args.front.now.limit of.limits;
    }
