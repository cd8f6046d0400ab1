use Rattle.ppq_handler.specs.Agenda.{ending_text}
use Rattle.ppq_event.proofs.Gathered.{part_gathered}
use Rattle.ppq_event.proofs.journal.end_journal.Goals as goal

pub returns-clause-part : goal.returns-clause-part
returns-clause-part g c =
    let told = g.O.Sink.told in
    part_gathered (told c.args.out.now) (told c.put_ending.new.out) (told c.put.new.out) c.args.lines.now c.put_ending.new.lines (ending_text c.args.ending) c.in_ok-put_ending.ensures.ok c.put.ensures.part
