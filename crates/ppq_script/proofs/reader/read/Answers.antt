use Rattle.std.proofs.Common.{◌≡◌, ◌∙◌, List, [], length, map, Some, ap, sym, subst, arith, rules}
use Rattle.std.specs.Prelude.{string_bytes, IsTrue, IsFalse}
use Rattle.std.proofs.lemmas.List.{length-map}
use Rattle.ppq_script.specs.Lines.{lines_of}
use Rattle.ppq_script.specs.Checking.{bad_of}
use Rattle.ppq_script.specs.Shown.{kind_in}
use Rattle.ppq_script.specs.Words.{words}
use Rattle.ppq_script.proofs.WordLaws.{laws_of}
use Rattle.ppq_script.proofs.Takings.{Fronts, fronts_first, fronts_more, fronts_bad, fronts_end, nothing_left}
use Rattle.ppq_script.specs.Reading.{Reading}
use Rattle.ppq_script.specs.declared.session.Session.TheVariants.{Outside}
use Rattle.ppq_script.proofs.BadFiles.{parts_named, parts_in_place, parts_files}
use Rattle.ppq_script.proofs.reader.read.Goals as goal

pub from_parts-requires-clause-files : goal.from_parts-requires-clause-files
from_parts-requires-clause-files g c =
    let w = words g.R.PartialEq g.R.PartialOrd g.R.Ord g.R.Record g.R.Fields in
    let laws = laws_of w g.met.R.Fields.fields g.met.R.Record.same in
    let l = c.loop-rest in
    let not : IsFalse c.in_ok-take_line.field-0 = search rules in
    let line = c.in_ok-take_line.ensures.bad not in
    let parts = fronts_bad w c.args.workers c.args.bytes.now l.rest.now c.cut_line.result.0.now c.cut_line.result.1.now l.line l.session (kind_in c.read_line-what.result) (kind_in c.place-here.result) l.commands.items (map string_bytes l.names.items)
    l.invariant.fronts c.cut_line.ensures.lines c.read_line-what.ensures c.place-here.ensures line.0 in
    parts_named w laws c.args.workers (lines_of c.args.bytes.now) c.take_line.new.commands.items (map string_bytes l.names.items) (length c.take_line.new.names.items) (parts.0 ∙ sym line.1.0) parts.1.0
    (length-map l.names.items string_bytes ∙ ap length (sym line.1.1))

pub returns-then-not-branch-clause-files : goal.returns-then-not-branch-clause-files
returns-then-not-branch-clause-files g c = λ usable.
    let w = words g.R.PartialEq g.R.PartialOrd g.R.Ord g.R.Record g.R.Fields in
    let laws = laws_of w g.met.R.Fields.fields g.met.R.Record.same in
    let l = c.loop-rest in
    let not : IsFalse c.in_ok-take_line.field-0 = search rules in
    let line = c.in_ok-take_line.ensures.bad not in
    let parts = fronts_bad w c.args.workers c.args.bytes.now l.rest.now c.cut_line.result.0.now c.cut_line.result.1.now l.line l.session (kind_in c.read_line-what.result) (kind_in c.place-here.result) l.commands.items (map string_bytes l.names.items)
    l.invariant.fronts c.cut_line.ensures.lines c.read_line-what.ensures c.place-here.ensures line.0 in
    ap (bad_of usable) c.from_parts.ensures
    ∙ parts_files w laws usable c.args.workers (lines_of c.args.bytes.now) c.take_line.new.commands.items (map string_bytes c.take_line.new.names.items) (Some l.line) (parts.0 ∙ sym line.1.0) (parts.1.0 ∙ ap (map string_bytes) (sym line.1.1)) parts.1.1

pub from_parts-requires-2-clause-files : goal.from_parts-requires-2-clause-files
from_parts-requires-2-clause-files g c =
    let w = words g.R.PartialEq g.R.PartialOrd g.R.Ord g.R.Record g.R.Fields in
    let laws = laws_of w g.met.R.Fields.fields g.met.R.Record.same in
    let l = c.loop-rest in
    let empty : l.rest.now ≡ [] = nothing_left l.rest.now (search rules) in
    let parts = fronts_end w c.args.workers c.args.bytes.now l.rest.now l.line l.session l.commands.items (map string_bytes l.names.items) l.invariant.fronts empty in
    parts_named w laws c.args.workers (lines_of c.args.bytes.now) l.commands.items (map string_bytes l.names.items) (length l.names.items) parts.0 parts.1.0 (length-map l.names.items string_bytes)

pub from_parts-requires-2-clause-in_place : goal.from_parts-requires-2-clause-in_place
from_parts-requires-2-clause-in_place g c =
    let w = words g.R.PartialEq g.R.PartialOrd g.R.Ord g.R.Record g.R.Fields in
    let laws = laws_of w g.met.R.Fields.fields g.met.R.Record.same in
    let l = c.loop-rest in
    let empty : l.rest.now ≡ [] = nothing_left l.rest.now (search rules) in
    let parts = fronts_end w c.args.workers c.args.bytes.now l.rest.now l.line l.session l.commands.items (map string_bytes l.names.items) l.invariant.fronts empty in
    parts_in_place w laws c.args.workers (lines_of c.args.bytes.now) l.commands.items c.bad_at_end-bad.result parts.0 (parts.1.1 ∙ sym c.bad_at_end-bad.ensures)

pub returns-clause-files : goal.returns-clause-files
returns-clause-files g c = λ usable.
    let w = words g.R.PartialEq g.R.PartialOrd g.R.Ord g.R.Record g.R.Fields in
    let laws = laws_of w g.met.R.Fields.fields g.met.R.Record.same in
    let l = c.loop-rest in
    let empty : l.rest.now ≡ [] = nothing_left l.rest.now (search rules) in
    let parts = fronts_end w c.args.workers c.args.bytes.now l.rest.now l.line l.session l.commands.items (map string_bytes l.names.items) l.invariant.fronts empty in
    ap (bad_of usable) c.from_parts-2.ensures
    ∙ parts_files w laws usable c.args.workers (lines_of c.args.bytes.now) l.commands.items (map string_bytes l.names.items) c.bad_at_end-bad.result parts.0 parts.1.0 (parts.1.1 ∙ sym c.bad_at_end-bad.ensures)

pub loop-rest-init : goal.loop-rest-init
loop-rest-init g c =
    let w = words g.R.PartialEq g.R.PartialOrd g.R.Ord g.R.Record g.R.Fields in
    let rest = c.behind_head-line.result.0.now in
    let line = c.behind_head-line.result.1 in
    let none : length c.new-names.result.items ≡ 0 = ap length c.new-names.ensures.items in
    let first : Fronts w c.args.workers c.args.bytes.now line Outside rest [] [] = fronts_first w c.args.workers c.args.bytes.now rest line c.behind_head-line.ensures.lines in
    let named : Fronts w c.args.workers c.args.bytes.now line Outside rest [] (map string_bytes c.new-names.result.items) =
    subst (λ (names : List _). Fronts w c.args.workers c.args.bytes.now line Outside rest [] (map string_bytes names)) (sym c.new-names.ensures.items) first in
    record {
      fronts = subst (λ (items : List _). Fronts w c.args.workers c.args.bytes.now line Outside rest items (map string_bytes c.new-names.result.items)) (sym c.new-commands.ensures.items) named;
      long = omega (arith, c.behind_head-line.ensures.long, c.requires.length);
      few = omega (arith, none);
    }

pub loop-rest-preserved : goal.loop-rest-preserved
loop-rest-preserved g c =
    let w = words g.R.PartialEq g.R.PartialOrd g.R.Ord g.R.Record g.R.Fields in
    let l = c.loop-rest in
    let good : IsTrue c.in_ok-take_line.field-0 = search rules in
    let taken = c.in_ok-take_line.ensures.good good in
    record {
      fronts = fronts_more w c.args.workers c.args.bytes.now l.rest.now c.cut_line.result.0.now c.cut_line.result.1.now l.line l.session c.session_after-next.result (kind_in c.read_line-what.result) (kind_in c.place-here.result)
          l.commands.items c.take_line.new.commands.items (map string_bytes l.names.items) (map string_bytes c.take_line.new.names.items)
          l.invariant.fronts c.cut_line.ensures.lines c.read_line-what.ensures c.place-here.ensures c.session_after-next.ensures taken;
      long = omega (arith, l.invariant.long, c.cut_line.ensures.shorter);
      few = omega (arith, l.invariant.few, taken.few, length-map l.names.items string_bytes, length-map c.take_line.new.names.items string_bytes);
    }

pub returns-then-not-branch-clause-commands : goal.returns-then-not-branch-clause-commands
returns-then-not-branch-clause-commands g c =
    let w = words g.R.PartialEq g.R.PartialOrd g.R.Ord g.R.Record g.R.Fields in
    let l = c.loop-rest in
    let not : IsFalse c.in_ok-take_line.field-0 = search rules in
    let line = c.in_ok-take_line.ensures.bad not in
    let parts = fronts_bad w c.args.workers c.args.bytes.now l.rest.now c.cut_line.result.0.now c.cut_line.result.1.now l.line l.session (kind_in c.read_line-what.result) (kind_in c.place-here.result) l.commands.items (map string_bytes l.names.items)
    l.invariant.fronts c.cut_line.ensures.lines c.read_line-what.ensures c.place-here.ensures line.0 in
    ap (λ (r : Reading _). r.commands) c.from_parts.ensures ∙ line.1.0 ∙ sym parts.0

pub returns-clause-commands : goal.returns-clause-commands
returns-clause-commands g c =
    let w = words g.R.PartialEq g.R.PartialOrd g.R.Ord g.R.Record g.R.Fields in
    let l = c.loop-rest in
    let empty : l.rest.now ≡ [] = nothing_left l.rest.now (search rules) in
    let parts = fronts_end w c.args.workers c.args.bytes.now l.rest.now l.line l.session l.commands.items (map string_bytes l.names.items) l.invariant.fronts empty in
    ap (λ (r : Reading _). r.commands) c.from_parts-2.ensures ∙ sym parts.0

pub returns-clause-names : goal.returns-clause-names
returns-clause-names g c =
    let w = words g.R.PartialEq g.R.PartialOrd g.R.Ord g.R.Record g.R.Fields in
    let l = c.loop-rest in
    let empty : l.rest.now ≡ [] = nothing_left l.rest.now (search rules) in
    let parts = fronts_end w c.args.workers c.args.bytes.now l.rest.now l.line l.session l.commands.items (map string_bytes l.names.items) l.invariant.fronts empty in
    ap (λ (r : Reading _). r.names) c.from_parts-2.ensures ∙ sym parts.1.0

pub returns-clause-bad : goal.returns-clause-bad
returns-clause-bad g c =
    let w = words g.R.PartialEq g.R.PartialOrd g.R.Ord g.R.Record g.R.Fields in
    let l = c.loop-rest in
    let empty : l.rest.now ≡ [] = nothing_left l.rest.now (search rules) in
    let parts = fronts_end w c.args.workers c.args.bytes.now l.rest.now l.line l.session l.commands.items (map string_bytes l.names.items) l.invariant.fronts empty in
    ap (λ (r : Reading _). r.bad) c.from_parts-2.ensures ∙ c.bad_at_end-bad.ensures ∙ sym parts.1.1
