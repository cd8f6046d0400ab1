use Rattle.std.proofs.Common.{subst}
use Rattle.ppq_pass.specs.ppq_array.Owner.{slots_shown}
use Rattle.ppq_session.specs.Gathering.{GetsBack}
use Rattle.ppq_session.proofs.gather.empty_array.Goals as goal

pub returns-clause-back : goal.returns-clause-back
returns-clause-back g c = subst (λ l. GetsBack (slots_shown g.S.Slot.shown l) c.args.supply.now c.free_stored.new.supply) c.empty_loaded-array.ensures.stored c.free_stored.ensures
