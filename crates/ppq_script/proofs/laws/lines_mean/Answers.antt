use Rattle.std.proofs.Common.{refl}
use Rattle.ppq_script.specs.Words.{words}
use Rattle.ppq_script.specs.Lines.{lines_of}
use Rattle.ppq_script.proofs.WordLaws.{laws_of}
use Rattle.ppq_script.proofs.Heads.{HasHead-head_at, head_at-HasHead}
use Rattle.ppq_script.proofs.Spelling.{Spells-number_of, number_of-Spells, value_from-append, Reads-Plain, Plain-Reads, ReadsFile-OfFile, OfFile-ReadsFile, IsBlankOrComment-Skipped, Skipped-IsBlankOrComment}
use Rattle.ppq_script.proofs.FieldLemmas.{text_of-return, text_of-other, fields_of-spaces, spaces-fields_of, fields_of-first}
use Rattle.ppq_script.proofs.LineLemmas.{lines_of-first, lines_of-last}
use Rattle.ppq_script.proofs.BadLines.{IsFirstBad-first_bad, first_bad-IsFirstBad, AreGood-first_bad, first_bad-AreGood, AreCommands-numbered_of}
use Rattle.ppq_script.proofs.Sessions.{one_session, Stands-may_stand, may_stand-Stands}
use Rattle.ppq_script.proofs.laws.lines_mean.Goals as goal

pub returns : goal.returns
returns g c =
    let w = words g.R.PartialEq g.R.PartialOrd g.R.Ord g.R.Record g.R.Fields in
    let laws = laws_of w c.fields_laws.ensures c.record_laws.ensures.same in
    record {
      number = λ digits n. (Spells-number_of digits n, number_of-Spells digits n);
      no_digit = refl;
      last_digit = value_from-append 0;
      no_text = refl;
      return = text_of-return;
      no_return = text_of-other;
      no_field = λ text. (spaces-fields_of text, fields_of-spaces text);
      first_field = fields_of-first;
      skipped = λ line. (IsBlankOrComment-Skipped w line, Skipped-IsBlankOrComment w line);
      command = λ line command. (Reads-Plain w laws line command, Plain-Reads w laws line command);
      file = λ line name. (ReadsFile-OfFile w line name, OfFile-ReadsFile w line name);
      head = λ bytes head. (HasHead-head_at (lines_of bytes) head, head_at-HasHead (lines_of bytes) head);
      no_line = refl;
      first_line = lines_of-first;
      last_line = lines_of-last;
      session = one_session w laws;
      stands = λ workers session command. (Stands-may_stand w laws workers session command, may_stand-Stands w laws workers session command);
      bad = λ usable workers lines n. (IsFirstBad-first_bad w laws usable workers lines n, first_bad-IsFirstBad w laws usable workers lines n);
      none_bad = λ usable workers lines. (AreGood-first_bad w laws usable workers lines, first_bad-AreGood w laws usable workers lines);
      commands = AreCommands-numbered_of w laws;
    }
