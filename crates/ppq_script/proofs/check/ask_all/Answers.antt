use Rattle.std.proofs.Common.{◌≡◌, ◌<◌, ◌≤◌, ◌∙◌, List, length, take, get_or, map, refl, sym, subst, arith, rules}
use Rattle.std.specs.Prelude.{string_bytes}
use Rattle.std.proofs.lemmas.List.{take_all}
use Rattle.ppq_outside.specs.Told.{RepliesOnly}
use Rattle.ppq_outside.proofs.Replies.{no_replies}
use Rattle.ppq_outside.proofs.Shrunk.{done_more, left_more}
use Rattle.ppq_script.specs.declared.numbered.Numbered.{Numbered}
use Rattle.ppq_script.specs.Files.{NamesFile, IsLength}
use Rattle.ppq_script.specs.Checking.{IsAsked, IsKeptAmong, IsSameItem, ItemRefusalIsRight, RisesByRead}
use Rattle.ppq_script.specs.Words.{words}
use Rattle.ppq_files.proofs.Asked.{keeps-none, keeps-then}
use Rattle.ppq_script.proofs.Asking.{kept_more}
use Rattle.ppq_script.proofs.Checks.{same_items, item_here, all_asked_later, commands_refusal, AllZip-set, IsSameItem-IsAsked}
use Rattle.ppq_script.proofs.check.ask_all.Goals as goal

pub loop-item-init : goal.loop-item-init
loop-item-init g c =
    let w = words g.R.PartialEq g.R.PartialOrd g.R.Ord g.R.Record g.R.Fields in
    record { done = tt; same = same_items w c.args.commands.now; left = refl; long = refl; library = keeps-none g.L.Library.told g.L.Library.replied IsLength c.args.library.now; once = no_replies (g.L.Library.replied c.args.library.now) _; faults = refl }

pub ask-requires-after_bounds : goal.ask-requires-after_bounds
ask-requires-after_bounds g c κs within =
    let w = words g.R.PartialEq g.R.PartialOrd g.R.Ord g.R.Record g.R.Fields in
    let l = c.loop-item in
    let first = c.item-item.result in
    let below : l.item-index < length c.args.commands.now = c.loop-item-test.true in
    subst (λ (n : Numbered _). NamesFile (length c.args.names.now) n.command) (sym (item_here w c.args.commands.now l.commands l.item-index first below l.invariant.long l.invariant.left)) (c.requires l.item-index first below)

pub returns-in-Err-clause-refused : goal.returns-in-Err-clause-refused
returns-in-Err-clause-refused g c =
    let w = words g.R.PartialEq g.R.PartialOrd g.R.Ord g.R.Record g.R.Fields in
    let l = c.loop-item in
    let first = c.item-item.result in
    let names = map string_bytes c.args.names.now in
    let replied = g.L.Library.replied c.ask.new.library in
    let below : l.item-index < length c.args.commands.now = c.loop-item-test.true in
    commands_refusal w replied names l.item-index c.args.commands.now l.commands first c.in-Err.fault below
    (all_asked_later w (g.L.Library.replied l.library) replied names (take l.item-index c.args.commands.now) (take l.item-index l.commands) c.ask.ensures.library.remembers l.invariant.done)
    (subst (λ (n : Numbered _). ItemRefusalIsRight w replied names n c.in-Err.fault) (item_here w c.args.commands.now l.commands l.item-index first below l.invariant.long l.invariant.left) c.in-Err.ensures.refused)

pub loop-item-preserved : goal.loop-item-preserved
loop-item-preserved g c =
    let w = words g.R.PartialEq g.R.PartialOrd g.R.Ord g.R.Record g.R.Fields in
    let l = c.loop-item in
    let first = c.item-item.result in
    let names = map string_bytes c.args.names.now in
    let replied = g.L.Library.replied c.ask.new.library in
    let below : l.item-index < length c.args.commands.now = c.loop-item-test.true in
    let here : get_or l.commands l.item-index first ≡ get_or c.args.commands.now l.item-index first = item_here w c.args.commands.now l.commands l.item-index first below l.invariant.long l.invariant.left in
    let asked : IsAsked w replied names (get_or l.commands l.item-index first) c.ask.new.item = c.in-Ok.ensures.asked in
    record {
      done = done_more (IsAsked w replied names) c.args.commands.now l.commands l.item-index first c.ask.new.item below l.invariant.long l.invariant.left
          (all_asked_later w (g.L.Library.replied l.library) replied names (take l.item-index c.args.commands.now) (take l.item-index l.commands) c.ask.ensures.library.remembers l.invariant.done) asked;
      same = AllZip-set IsSameItem c.args.commands.now l.commands l.item-index first c.ask.new.item l.invariant.same (subst (λ (n : Numbered _). IsSameItem n c.ask.new.item) here (IsSameItem-IsAsked w replied names (get_or l.commands l.item-index first) c.ask.new.item asked));
      left = left_more c.args.commands.now l.commands l.item-index first c.ask.new.item below l.invariant.long l.invariant.left;
      long = search rules;
      library = keeps-then g.L.Library.told g.L.Library.replied IsLength l.invariant.library c.ask.ensures.library;
      once = kept_more (g.L.Library.replied c.args.library.now) (g.L.Library.replied l.library) replied names l.commands l.item-index c.ask.new.item (subst (λ n. l.item-index < n) (sym l.invariant.long) below) l.invariant.once c.in-Ok.ensures.once;
      faults = c.in-Ok.ensures.faults ∙ l.invariant.faults;
    }

pub returns-clause-once : goal.returns-clause-once
returns-clause-once g c =
    let w = words g.R.PartialEq g.R.PartialOrd g.R.Ord g.R.Record g.R.Fields in
    let l = c.loop-item in
    let names = map string_bytes c.args.names.now in
    let over : length l.commands ≤ l.item-index = omega arith in
    subst (λ (items : List (Numbered _)). RepliesOnly (g.L.Library.replied c.args.library.now) (g.L.Library.replied l.library) (IsKeptAmong names items)) (take_all l.item-index l.commands over) l.invariant.once

pub returns-in-Err-clause-library : goal.returns-in-Err-clause-library
returns-in-Err-clause-library g c = keeps-then g.L.Library.told g.L.Library.replied IsLength c.loop-item.invariant.library c.ask.ensures.library

pub returns-in-Err-clause-faults : goal.returns-in-Err-clause-faults
returns-in-Err-clause-faults g c = subst (λ n. RisesByRead n (g.L.Library.faults c.ask.new.library) c.in-Err.fault) c.loop-item.invariant.faults c.in-Err.ensures.faults
