use Rattle.std.proofs.Common.{rules, ◌++◌, ◌∙◌, None}
use Rattle.std.specs.Prelude.{flat_map}
use Rattle.ppq_handler.specs.ppq_outside.Told.{TakesPart}
use Rattle.ppq_handler.specs.Agenda.{entry_text}
use Rattle.ppq_event.specs.Going.{entries_of}
use Rattle.ppq_event.proofs.Results.{on_err}
use Rattle.ppq_event.proofs.Listed.{lines_part, lines_more}
use Rattle.ppq_event.proofs.lines.put_lines.Goals as goal

pub returns-in_err-put_entry : goal.returns-in_err-put_entry
returns-in_err-put_entry g c =
    let told = g.O.Sink.told in
    record {
      text = search rules;
      part = on_err c.from_residual.result (TakesPart (told c.args.out.now) (told c.put_entry.new.out) (c.args.lines.now ++ flat_map entry_text (entries_of c.args.events.now c.args.answers.now)))
          (lines_part (told c.args.out.now) (told c.putting.out) (told c.put_entry.new.out) c.args.lines.now c.putting.lines c.args.events.now c.args.answers.now c.putting.i c.requires c.putting.invariant.text c.in_err-put_entry.ensures.part);
      cause = search rules;
    }

pub putting-preserved : goal.putting-preserved
putting-preserved g c =
    let told = g.O.Sink.told in
    record {
      text =
          lines_more (told c.args.out.now) (told c.putting.out) (told c.put_entry.new.out) c.args.lines.now c.putting.lines c.put_entry.new.lines c.args.events.now c.args.answers.now c.putting.i (record { time = 0; target = 0; word = 0 }) None c.putting-test.true c.requires c.putting.invariant.text c.in_ok-put_entry.ensures.ok;
      faults = c.in_ok-put_entry.ensures.cause.ok ∙ c.putting.invariant.faults;
    }
