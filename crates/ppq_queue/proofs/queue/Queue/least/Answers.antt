use Rattle.std.proofs.Common.{◌∙◌, ap, ap₂}
use Rattle.ppq_heap.specs.ppq_record.Bag.{least}
use Rattle.ppq_queue.specs.Choice.{first_of_two}
use Rattle.ppq_queue.proofs.Firsts.{least_of_all, none_of_all}
use Rattle.ppq_queue.proofs.queue.Queue.least.Goals as goal

pub returns : goal.returns
returns g c =
    let laws = c.record_laws.ensures in
    let view = c.self.view_is in
    let first = c.first_of_two.ensures ∙ ap₂ (λ a b. first_of_two g.R.Ord.cmp a b) c.min.ensures.value c.front.ensures in
    record {
      answer = λ tell. least_of_all c.self.invariant.0 view c.requires laws.order laws.same c.first_of_two.result first tell ∙ ap (λ q. least g.R.Ord.cmp q.bag) view;
      none = none_of_all c.self.invariant.0 view c.requires laws.order laws.same c.first_of_two.result first;
    }
