use Rattle.std.proofs.Common.{◌≡◌, ◌∙◌, Option, Some, map, refl, ap, sym, subst, inl, inr}
use Rattle.std.specs.Prelude.{option_map, IfSome}
use Rattle.ppq_words.specs.Reading.{Reading, as_reading}
use Rattle.ppq_words.proofs.ppq_outside.Replies.{no_replies}
use Rattle.ppq_files.specs.Whole.{IsLoadedAs}
use Rattle.ppq_files.specs.declared.whole.WholeFault.TheVariants.{Memory}
use Rattle.ppq_cli.specs.Replies.{AsksAreRight, RefusalIsRight, CompletesAsGiven}
use Rattle.ppq_jobs.proofs.ppq_engine.Running.{takes_none}
use Rattle.ppq_cli.specs.Device.{IsSurelyRun, HasAllBlocks}
use Rattle.ppq_cli.specs.RunWords.{reading, blocks_given, WritesPart, WritesToFile, WritesToLoad}
use Rattle.ppq_cli.proofs.Blocks.{made_nothing_named}
use Rattle.ppq_cli.proofs.Ends.{no_blocks, unloaded_rose, unloaded_stays}
use Rattle.ppq_cli.proofs.Outside.{rose_below}
use Rattle.ppq_cli.proofs.Loaded.{of_loaded}
use Rattle.ppq_cli.proofs.Transfers.{of_any, of_every, any_script, any_reply}
use Rattle.ppq_cli.proofs.top_call.run_words.Goals as goal

-- memory was wanting for the arguments

pub returns-in-Err-clause-part : goal.returns-in-Err-clause-part
returns-in-Err-clause-part g c = λ tells. of_every g.L.Library.told c.args.library.now c.args.words.now (WritesPart g.O.Sink.told c.args.out.now c.args.out.now) (λ type r given commands. takes_none (g.O.Sink.told c.args.out.now) _)

-- nothing was written
pub returns-in-Err-clause-to_load : goal.returns-in-Err-clause-to_load
returns-in-Err-clause-to_load g c = λ is tells. of_every g.L.Library.told c.args.library.now c.args.words.now (WritesToLoad g.O.Sink.told c.args.out.now c.args.out.now) (λ type r given commands. inl refl)

pub returns-in-Err-clause-to_file : goal.returns-in-Err-clause-to_file
returns-in-Err-clause-to_file g c = λ is tells. of_every g.L.Library.told c.args.library.now c.args.words.now (WritesToFile g.O.Sink.told c.args.out.now c.args.out.now) (λ type r given commands. inl refl)

pub returns-in_default-clause-to_load : goal.returns-in_default-clause-to_load
returns-in_default-clause-to_load g c = λ is tells. of_every g.L.Library.told c.args.library.now c.args.words.now (WritesToLoad g.O.Sink.told c.args.out.now c.args.out.now) (λ type r given commands. inl refl)

pub returns-in_default-clause-to_file : goal.returns-in_default-clause-to_file
returns-in_default-clause-to_file g c = λ is tells. of_every g.L.Library.told c.args.library.now c.args.words.now (WritesToFile g.O.Sink.told c.args.out.now c.args.out.now) (λ type r given commands. inl refl)

pub returns-in-Err-read_whole-clause-to_load : goal.returns-in-Err-read_whole-clause-to_load
returns-in-Err-read_whole-clause-to_load g c = λ is tells. of_every g.L.Library.told c.args.library.now c.args.words.now (WritesToLoad g.O.Sink.told c.args.out.now c.args.out.now) (λ type r given commands. inl refl)

pub returns-in-Err-read_whole-clause-to_file : goal.returns-in-Err-read_whole-clause-to_file
returns-in-Err-read_whole-clause-to_file g c = λ is tells. of_every g.L.Library.told c.args.library.now c.args.words.now (WritesToFile g.O.Sink.told c.args.out.now c.args.out.now) (λ type r given commands. inl refl)

pub returns-in-Err-clause-ran : goal.returns-in-Err-clause-ran
returns-in-Err-clause-ran g c = of_any (reading c.args.words.now) _ (λ r. inl (record { maybe = λ run. subst IsSurelyRun c.without_blocks.ensures.end run; same = refl }))

pub returns-in-Err-clause-blocks : goal.returns-in-Err-clause-blocks
returns-in-Err-clause-blocks g c =
    let ended = c.without_blocks in
    let shown = g.K.Slot.Slot.shown in
    of_any (reading c.args.words.now) _ (λ r. no_blocks (blocks_given r) ended.result.end (map shown ended.result.blocks.items) (λ all. subst HasAllBlocks ended.ensures.end all) (ap (map shown) ended.ensures.none))

pub returns-in-Err-clause-complete : goal.returns-in-Err-clause-complete
returns-in-Err-clause-complete g c = λ tells fault. of_any (reading c.args.words.now) _ (λ r. of_any (g.L.Library.told c.args.library.now) _ (λ files. of_any (files r.script) _ (λ bytes good room. inr c.without_blocks.ensures.end)))

pub returns-in-Err-clause-complete_any : goal.returns-in-Err-clause-complete_any
returns-in-Err-clause-complete_any g c = λ fault. of_any (reading c.args.words.now) _ (λ r. of_any (g.L.Library.told c.args.library.now) _ (λ files. of_any (files r.script) _ (λ bytes good room. inr c.without_blocks.ensures.end)))

pub returns-in-Err-clause-made : goal.returns-in-Err-clause-made
returns-in-Err-clause-made g c = made_nothing_named (λ s. (g.K.Slot.Slot.shown s).number) _ (g.K.Rack.made c.args.rack.now) c.args.words.now c.without_blocks.ensures.none

pub returns-in_default-clause-made : goal.returns-in_default-clause-made
returns-in_default-clause-made g c = made_nothing_named (λ s. (g.K.Slot.Slot.shown s).number) _ (g.K.Rack.made c.args.rack.now) c.args.words.now c.without_blocks-in_default.ensures.none

pub returns-in-Err-read_whole-clause-made : goal.returns-in-Err-read_whole-clause-made
returns-in-Err-read_whole-clause-made g c = made_nothing_named (λ s. (g.K.Slot.Slot.shown s).number) _ (g.K.Rack.made c.args.rack.now) c.args.words.now c.without_blocks-in-Err-read_whole.ensures.none

pub returns-in-Err-clause-transfers : goal.returns-in-Err-clause-transfers
returns-in-Err-clause-transfers g c = any_script g.K.Slot.Slot.shown c.without_blocks.result g.L.Library.told c.args.library.now c.args.words.now c.without_blocks.ensures.none

pub returns-in-Err-clause-transfers_any : goal.returns-in-Err-clause-transfers_any
returns-in-Err-clause-transfers_any g c = any_reply g.K.Slot.Slot.shown c.without_blocks.result g.L.Library.told c.args.library.now g.L.Library.replied _ c.args.words.now c.without_blocks.ensures.none

pub returns-in_default-clause-transfers : goal.returns-in_default-clause-transfers
returns-in_default-clause-transfers g c = any_script g.K.Slot.Slot.shown c.without_blocks-in_default.result g.L.Library.told c.args.library.now c.args.words.now c.without_blocks-in_default.ensures.none

pub returns-in_default-clause-transfers_any : goal.returns-in_default-clause-transfers_any
returns-in_default-clause-transfers_any g c = any_reply g.K.Slot.Slot.shown c.without_blocks-in_default.result g.L.Library.told c.args.library.now g.L.Library.replied _ c.args.words.now c.without_blocks-in_default.ensures.none

pub returns-in-Err-read_whole-clause-transfers : goal.returns-in-Err-read_whole-clause-transfers
returns-in-Err-read_whole-clause-transfers g c = any_script g.K.Slot.Slot.shown c.without_blocks-in-Err-read_whole.result g.L.Library.told c.args.library.now c.args.words.now c.without_blocks-in-Err-read_whole.ensures.none

pub returns-in-Err-read_whole-clause-transfers_any : goal.returns-in-Err-read_whole-clause-transfers_any
returns-in-Err-read_whole-clause-transfers_any g c = any_reply g.K.Slot.Slot.shown c.without_blocks-in-Err-read_whole.result g.L.Library.told c.args.library.now g.L.Library.replied _ c.args.words.now c.without_blocks-in-Err-read_whole.ensures.none

-- what was asked: nothing, or of a script that was not loaded no other file
pub returns-in-Err-clause-reads : goal.returns-in-Err-clause-reads
returns-in-Err-clause-reads g c = of_any (reading c.args.words.now) _ (λ r. inl (no_replies (g.L.Library.replied c.args.library.now) _))

pub returns-in_default-clause-reads : goal.returns-in_default-clause-reads
returns-in_default-clause-reads g c = of_any (reading c.args.words.now) _ (λ r. inl (no_replies (g.L.Library.replied c.args.library.now) _))

pub returns-in-Err-read_whole-clause-reads : goal.returns-in-Err-read_whole-clause-reads
returns-in-Err-read_whole-clause-reads g c =
    let r = as_reading c.in-Some.arguments in
    let named : reading c.args.words.now ≡ Some r = sym c.in-Ok.ensures.reading ∙ ap (option_map as_reading) c.in-Some.is in
    let P : Option Reading → Type 0 = λ o. IfSome o (λ r. AsksAreRight (g.L.Library.told c.args.library.now) (g.L.Library.replied c.args.library.now) (g.L.Library.replied c.read_whole.new.library) r c.without_blocks-in-Err-read_whole.result.end) in
    subst P (sym named) (inl c.read_whole.ensures.library.asks)

-- a script that was not loaded: the library's count rose if a read failed
pub returns-in-Err-read_whole-clause-library_stays : goal.returns-in-Err-read_whole-clause-library_stays
returns-in-Err-read_whole-clause-library_stays g c = λ read written. unloaded_stays _ _ c.in-Err-read_whole.fault _ (c.without_blocks-in-Err-read_whole.ensures.end ∙ c.end_of.ensures) c.in-Err-read_whole.ensures.counts.cause read

pub returns-in-Err-read_whole-clause-read : goal.returns-in-Err-read_whole-clause-read
returns-in-Err-read_whole-clause-read g c = λ is. rose_below _ _ c.requires.library (unloaded_rose _ _ c.in-Err-read_whole.fault _ (c.without_blocks-in-Err-read_whole.ensures.end ∙ c.end_of.ensures) c.in-Err-read_whole.ensures.counts.cause is)

pub returns-in-Err-clause-refused : goal.returns-in-Err-clause-refused
returns-in-Err-clause-refused g c = of_any (reading c.args.words.now) _ (λ r. inl (Memory, (c.without_blocks.ensures.end, tt)))

pub returns-in-Err-read_whole-clause-refused : goal.returns-in-Err-read_whole-clause-refused
returns-in-Err-read_whole-clause-refused g c =
    let r = as_reading c.in-Some.arguments in
    let named : reading c.args.words.now ≡ Some r = sym c.in-Ok.ensures.reading ∙ ap (option_map as_reading) c.in-Some.is in
    let P : Option Reading → Type 0 = λ o. IfSome o (λ r. RefusalIsRight (g.L.Library.told c.args.library.now) (g.L.Library.replied c.read_whole.new.library) r c.without_blocks-in-Err-read_whole.result.end) in
    subst P (sym named) (inl (c.in-Err-read_whole.fault, (c.without_blocks-in-Err-read_whole.ensures.end ∙ c.end_of.ensures, c.in-Err-read_whole.ensures.refused)))

-- a script that was not loaded
pub returns-in-Err-clause-complete_given : goal.returns-in-Err-clause-complete_given
returns-in-Err-clause-complete_given g c = λ fault. of_any (reading c.args.words.now) _ (λ r. inl (Memory, (c.without_blocks.ensures.end, tt)))

pub returns-in-Err-read_whole-clause-complete_given : goal.returns-in-Err-read_whole-clause-complete_given
returns-in-Err-read_whole-clause-complete_given g c = λ fault.
    let r = as_reading c.in-Some.arguments in
    let named : reading c.args.words.now ≡ Some r = sym c.in-Ok.ensures.reading ∙ ap (option_map as_reading) c.in-Some.is in
    let P : Option Reading → Type 0 = λ o. IfSome o (λ r. CompletesAsGiven (g.L.Library.told c.args.library.now) (g.L.Library.replied c.read_whole.new.library) r c.without_blocks-in-Err-read_whole.result.end) in
    subst P (sym named) (inl (c.in-Err-read_whole.fault, (c.without_blocks-in-Err-read_whole.ensures.end ∙ c.end_of.ensures, c.in-Err-read_whole.ensures.refused)))

pub returns-in-Ok-read_whole : goal.returns-in-Ok-read_whole
returns-in-Ok-read_whole g c =
    let r = as_reading c.in-Some.arguments in
    let named : reading c.args.words.now ≡ Some r = sym c.in-Ok.ensures.reading ∙ ap (option_map as_reading) c.in-Some.is in
    let loaded = subst (IsLoadedAs (g.L.Library.told c.args.library.now) (g.L.Library.replied c.read_whole.new.library) r.script 1048576) (sym c.deref.ensures.value) c.in-Ok-read_whole.ensures.loaded in
    let e = of_loaded g.L.Library g.K.Rack g.O.Sink g.K.Slot.Slot.shown c.args.words.now r named c.args.library.now c.read_whole.new.library c.run_bytes.new.library c.args.rack.now c.run_bytes.new.rack c.args.out.now c.run_bytes.new.out
    c.run_bytes.result c.deref.result.now loaded c.read_whole.ensures.library c.in-Ok-read_whole.ensures.counts.stays c.run_bytes.ensures c.requires.library c.requires.rack c.requires.sink in
    record {
      done = e.written.done;
      part = e.written.part;
      nothing = e.written.nothing;
      room = e.room;
      to_file = e.to_file;
      to_load = e.to_load;
      ran = e.ran;
      used = e.used;
      used_any = e.used_any;
      transfers = e.transfers;
      transfers_any = e.transfers_any;
      reads = e.reads;
      made = e.outside.made;
      blocks = e.outside.blocks;
      unfailed = e.outside.unfailed;
      failed = e.outside.failed;
      rack_tells = e.outside.rack_tells;
      files = e.outside.files;
      remembers = e.outside.remembers;
      read = e.outside.faults.read;
      write = e.outside.faults.write;
      device = e.outside.faults.device;
      library_later = e.outside.faults.library_later;
      library_stays = e.outside.faults.library_stays;
      rack_later = e.outside.faults.rack_later;
      rack_stays = e.outside.faults.rack_stays;
      sink_later = e.outside.faults.sink_later;
      sink_stays = e.outside.faults.sink_stays;
      usage = e.unreadable.usage;
      no_reading = e.unreadable.no_reading;
      early = e.unreadable.early;
      none = e.unreadable.none;
      unasked = e.unreadable.unasked;
      answer = e.answer;
      refused = e.refused;
      above = e.above;
      above_any = e.above_any;
      complete = e.complete;
      complete_any = e.complete_any;
      complete_given = e.complete_given;
    }
