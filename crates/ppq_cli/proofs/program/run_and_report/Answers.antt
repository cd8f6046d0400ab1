use Rattle.ppq_cli.specs.AllWords.{AllWords}
use Rattle.ppq_cli.proofs.AllWords.{said_by_status}
use Rattle.ppq_cli.proofs.program.run_and_report.Goals as goal

pub returns : goal.returns
returns g c =
    let call = c.all_words-ended in
    let ended = call.result in
    let said = c.report_end.ensures in
    let all : AllWords g.L.Library g.K.Rack g.O.Sink g.K.Slot.Slot.shown c.args.words.now _ c.args.library.now call.new.library c.args.rack.now call.new.rack c.args.out.now call.new.out ended =
    record { run = call.ensures.run; sim = call.ensures.sim; sweep = call.ensures.sweep } in
    let by = said_by_status g.L.Library g.K.Rack g.O.Sink g.K.Slot.Slot.shown c.args.words.now _ c.args.library.now call.new.library c.args.rack.now call.new.rack c.args.out.now call.new.out ended c.report_end.result said.status all in
    record {
      outcome = (ended, (all, (said.status, said.line)));
      done = by.done;
      part = by.part;
      nothing = by.nothing;
      above = by.above;
      errors_later = said.later;
    }
