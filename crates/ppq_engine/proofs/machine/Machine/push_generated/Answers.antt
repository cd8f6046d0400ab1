use Rattle.std.proofs.Common.{◌+◌, ◌++◌, [], max, refl}
use Rattle.std.proofs.lemmas.Result.{IfErr-weaker}
use Rattle.ppq_script.specs.Words.{words}
use Rattle.ppq_script.specs.ppq_record.Bag.{IsSameBag}
use Rattle.ppq_load.specs.Given.{generated_by}
use Rattle.ppq_script.specs.ppq_outside.Shown.{AllTell}
use Rattle.ppq_script.specs.declared.command.Command.TheVariants.{Gen}
use Rattle.ppq_load.proofs.Counting.{few-to}
use Rattle.ppq_engine.specs.Calls.{Adds, RunsStep, StopsStep}
use Rattle.ppq_engine.specs.Files.{IsByFile, IsBySession}
use Rattle.ppq_engine.specs.Running.{StopsFor}
use Rattle.ppq_engine.specs.declared.stop.Stop.{Stop}
use Rattle.ppq_engine.proofs.Loads.{loaded-ok, loaded-adds, loaded-refused, loaded-quiet, loaded-by_session}
use Rattle.ppq_engine.proofs.Results.{if-err-both, on-ok-map, on-ok-both}
use Rattle.ppq_engine.proofs.Stops.{session_by_file, session-by_limit, limit_of_file}
use Rattle.ppq_engine.proofs.Turns.{adds-runs, adds-prints, turn-goes}
use Rattle.ppq_engine.proofs.machine.Machine.push_generated.Goals as goal

pub returns : goal.returns
returns g c = let w = words g.R.PartialEq g.R.PartialOrd g.R.Ord g.R.Record g.R.Fields in
    let queue = c.args.self.queue in
    let had = c.args.self.desk.gathered in
    let count = c.args.count in
    let k = Gen c.args.seed count in
    let q = c.load_generated-queue in
    let new = q.result.0 in
    let r = c.stopped.result in
    let same = c.stopped.ensures in
    let Loaded : Type 0 = AllTell queue.slots → IsSameBag new.bag (generated_by w.COUNT w.of_fields c.args.seed count ++ queue.bag) in
    let Why : Stop → Type 0 = StopsFor (max queue.peak (queue.size + count)) queue.sizes queue.limited new.slots in
    let adds = on-ok-both r Loaded (Adds queue new count) (loaded-ok 0 0 q.result.1 r same Loaded q.ensures.bag) (loaded-adds 0 0 q.result.1 r same queue new count q.ensures.size q.ensures.sound q.ensures.quiet q.ensures.peak) in
    let by = loaded-by_session 0 0 q.result.1 r same q.ensures.by_load in
    let why = if-err-both r Why IsBySession (loaded-refused 0 0 q.result.1 r same (max queue.peak (queue.size + count)) queue.sizes queue.limited new.slots q.ensures.refused) by in
    record {
      goes =
          λ form files script put.
          turn-goes w form files script queue.sizes.workers k (record { stands = refl; stays = refl }) queue new put put had had r (adds-prints queue.slots put had [] r refl (IfErr-weaker r IsBySession IsByFile session_by_file by)) q.ensures.kept (few-to queue new q.result.1 r (loaded-ok 0 0 q.result.1 r same) q.ensures.counted)
          (on-ok-map r (Loaded × Adds queue new count) (RunsStep w files script queue new k) (λ both. adds-runs w k (λ leaves. refl) (λ tells given are. both.0 tells) both.1) adds)
          (IfErr-weaker r (λ stop. Why stop × IsBySession stop) (StopsStep w queue new k)
          (λ stop both. record { refused = both.0; of_file = limit_of_file k stop tt (session-by_limit stop both.1) }) why)
          (loaded-quiet 0 0 q.result.1 r same queue new count q.ensures.left);
      by_session = by;
    }
