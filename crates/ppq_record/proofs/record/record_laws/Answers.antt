use Rattle.std.proofs.Common.{◌∙◌, sym, ap}
use Rattle.ppq_record.proofs.record.record_laws.Goals as goal

pub returns : goal.returns
returns g c =
    let order = g.met.R.Ord in
    let laws = g.met.R.Record in
    record {
      order = order.total;
      same = laws.same;
      bytes_length = laws.bytes_length;
      take_put = laws.take_put;
      put_take = laws.put_take;
      equal_bytes = λ x y h k e. sym (laws.take_put x h) ∙ ap g.R.Record.record_of e ∙ laws.take_put y k;
      width = laws.width;
    }
