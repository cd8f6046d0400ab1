use Rattle.std.proofs.Common.{◌≡◌, ◌+◌, ◌/◌, ◌++◌, ℕ, List, [], length, Option, Some, max, refl, ap, ◌∙◌, subst}
use Rattle.std.proofs.lemmas.Result.{IfErr-weaker}
use Rattle.ppq_script.specs.Words.{words}
use Rattle.ppq_script.specs.ppq_record.Bag.{IsSameBag}
use Rattle.ppq_load.specs.Given.{records_of}
use Rattle.ppq_script.specs.ppq_outside.Shown.{AllTell}
use Rattle.ppq_script.specs.ppq_outside.Told.{bytes_or_none}
use Rattle.ppq_script.proofs.ppq_outside.Replies.{replies_wider}
use Rattle.ppq_script.specs.declared.command.Command.TheVariants.{Bulk}
use Rattle.ppq_load.specs.ppq_files.Reading.{IsReadWithin}
use Rattle.ppq_load.proofs.Counting.{few-to}
use Rattle.ppq_engine.specs.Calls.{Adds, RunsStep, StopsStep}
use Rattle.ppq_engine.specs.Files.{EndsEarly, IsReadInScript}
use Rattle.ppq_engine.specs.Running.{StopsFor, ChangedIn}
use Rattle.ppq_engine.specs.declared.stop.Stop.{Stop}
use Rattle.ppq_engine.proofs.Lengths.{file-bag}
use Rattle.ppq_engine.proofs.Loads.{loaded-ok, loaded-adds, loaded-refused, loaded-quiet, loaded-by_file, loaded-ended, loaded-counts}
use Rattle.ppq_engine.proofs.Results.{on-ok-map, on-ok-both}
use Rattle.ppq_engine.proofs.Stops.{file_of_file, file_changed}
use Rattle.ppq_engine.proofs.Turns.{adds-runs, adds-prints, turn-goes}
use Rattle.ppq_engine.proofs.machine.Machine.push_file.Goals as goal

pub load_file-queue-requires-clause-long : goal.load_file-queue-requires-clause-long
load_file-queue-requires-clause-long g c = λ lives fits files tells.
    ap (λ (n : List ℕ). length (bytes_or_none (files n))) c.name-name.ensures ∙ c.requires.lengths files tells c.args.place c.args.file c.args.said c.requires.turn.first

pub returns : goal.returns
returns g c = let w = words g.R.PartialEq g.R.PartialOrd g.R.Ord g.R.Record g.R.Fields in
    let script = c.args.script.now in
    let place = c.args.place in
    let queue = c.args.self.queue in
    let had = c.args.self.desk.gathered in
    let file = c.args.file in
    let said = c.args.said in
    let k = Bulk file said in
    let name = c.name-name.result.now in
    let line = c.line-line.result in
    let here = c.requires.turn.first in
    let q = c.load_file-queue in
    let new = q.result.0 in
    let faults = g.L.Library.faults in
    let told = g.L.Library.told c.args.library.now in
    let before = g.L.Library.replied c.args.library.now in
    let replied = g.L.Library.replied q.new.library in
    let r = c.stopped.result in
    let same = c.stopped.ensures in
    let Loaded : Type 0 = AllTell queue.slots → (files : List ℕ → Option (List ℕ)) → told ≡ Some files → IsSameBag new.bag (records_of w.record_of w.WIDTH (bytes_or_none (files name)) ++ queue.bag) in
    let Why : Stop → Type 0 = StopsFor (max queue.peak (queue.size + said / w.WIDTH)) queue.sizes queue.limited new.slots in
    let Early : Stop → Type 0 = EndsEarly told replied name line said in
    let Adds' : Type 0 = Adds queue new (said / w.WIDTH) in
    let adds = on-ok-both r Loaded Adds' (loaded-ok line said q.result.1 r same Loaded q.ensures.bag) (loaded-adds line said q.result.1 r same queue new (said / w.WIDTH) q.ensures.size q.ensures.sound q.ensures.quiet q.ensures.peak) in
    let by = loaded-by_file line said q.result.1 r same in
    let refused = loaded-refused line said q.result.1 r same (max queue.peak (queue.size + said / w.WIDTH)) queue.sizes queue.limited new.slots q.ensures.refused in
    let early = loaded-ended line said q.result.1 r same told replied name q.ensures.ended in
    let N : Stop → List ℕ → Type 0 = λ stop n. EndsEarly told replied n line said stop in
    record {
      goes =
          λ put.
          turn-goes w c.args.world.now.form told script queue.sizes.workers k (record { stands = refl; stays = refl }) queue new put put had had r (adds-prints queue.slots put had [] r refl by) q.ensures.kept (few-to queue new q.result.1 r (loaded-ok line said q.result.1 r same) q.ensures.counted)
          (on-ok-map r (Loaded × Adds') (RunsStep w told script queue new k)
          (λ both. adds-runs w k (λ leaves. refl) (λ tells. file-bag w told script place file said k name queue.bag new.bag here refl c.name-name.ensures (both.0 tells)) both.1) adds)
          (IfErr-weaker r Why (StopsStep w queue new k) (λ stop why. record { refused = why; of_file = file_of_file g.row.R.Denot file said stop }) refused)
          (loaded-quiet line said q.result.1 r same queue new (said / w.WIDTH) q.ensures.left);
      by_file = by;
      library = record {
        told = q.ensures.told;
        remembers = q.ensures.remembers;
        asks =
            replies_wider before replied (IsReadWithin name said) (IsReadInScript script)
            (λ reply within. record { at = place; file = file; said = said; here = here; within = let P : List ℕ → Type 0 = λ n. IsReadWithin n said reply in subst P c.name-name.ensures within }) q.ensures.asks;
        later = q.ensures.later;
        stays = loaded-ok line said q.result.1 r same (faults q.new.library ≡ faults c.args.library.now) q.ensures.stays;
        cause = loaded-counts line said q.result.1 r same (faults c.args.library.now) (faults q.new.library) q.ensures.cause;
        changed = IfErr-weaker r Early (ChangedIn told replied script) (λ stop ends. file_changed told replied script place file said line stop here c.line-line.ensures (subst (N stop) c.name-name.ensures ends)) early;
      };
    }
