use Rattle.std.proofs.Common.{◌≡◌, ◌∙◌, List, [], ◌∷◌, ◌++◌, Some, refl, sym, ap, append_assoc, append-nil}
use Rattle.ppq_engine.specs.ppq_script.Words.{words}
use Rattle.ppq_engine.specs.ppq_script.declared.command.Command.{Command}
use Rattle.ppq_engine.specs.ppq_script.declared.command.Command.TheVariants.{Size}
use Rattle.ppq_engine.specs.Running.{LendsQueue}
use Rattle.ppq_requests.specs.Requests.{commands_of, request_of}
use Rattle.ppq_answer.proofs.Asked.{some-is, one-of, request-parts, request-over, request-lends}
use Rattle.ppq_answer.proofs.Lending.{each-append}
use Rattle.ppq_answer.proofs.Serving.{executes-none, serves-next, serves-stop, serves-last}
use Rattle.ppq_answer.proofs.answer.answer.Goals as goal

pub operations-init : goal.operations-init
operations-init g c = let w = words g.R.PartialEq g.R.PartialOrd g.R.Ord g.R.Record g.R.Fields in
    let some = some-is (request_of w c.args.request.now) c.requires.request in
    record {
      done = [];
      left = some.0;
      whole = some.1;
      behind = some.1;
      run = executes-none w c.args.world.now.form (g.O.Sink.told c.args.out.now) c.args.machine.now.queue c.args.machine.now.desk.gathered;
      sound = c.requires.sound;
      stays = refl {a = g.O.Sink.faults c.args.out.now};
    }

pub operations-preserved : goal.operations-preserved
operations-preserved g c = let w = words g.R.PartialEq g.R.PartialOrd g.R.Ord g.R.Record g.R.Fields in
    let v = c.operations.invariant in
    let old = c.args.machine.now in
    let between = c.operations.machine in
    let new = c.operate.new.machine in
    let told = g.O.Sink.told in
    let faults = g.O.Sink.faults in
    let commands = commands_of w c.in-Some.operation in
    let parts = request-parts w c.operations.rest.now c.in-Some.behind.now commands v.left c.in-Some.ensures.operation v.behind in
    let next = serves-next w c.args.world.now.form (told c.args.out.now) (told c.operations.out) (told c.operate.new.out) old.queue between.queue new.queue old.desk.gathered between.desk.gathered new.desk.gathered
    (faults c.args.out.now) (faults c.operations.out) (faults c.operate.new.out) v.done commands v.run v.stays c.operate.result tt c.in-Ok.is c.operate.ensures in
    record {
      done = v.done ++ commands;
      left = parts.0;
      whole = v.whole ∙ ap (λ (xs : List (Command g.row.R.Denot)). Some xs) (ap (λ (xs : List (Command g.row.R.Denot)). v.done ++ xs) parts.2 ∙ sym (append_assoc v.done commands parts.0));
      behind = parts.1;
      run = next.0;
      sound = next.1;
      stays = next.2;
    }

pub returns-in-None : goal.returns-in-None
returns-in-None g c = let w = words g.R.PartialEq g.R.PartialOrd g.R.Ord g.R.Record g.R.Fields in
    let v = c.operations.invariant in
    let old = c.args.machine.now in
    let between = c.operations.machine in
    let new = c.conclude.new.machine in
    let told = g.O.Sink.told in
    let faults = g.O.Sink.faults in
    let none = request-over w c.operations.rest.now v.left c.in-None.ensures.operation v.behind in
    record {
      serves =
          λ commands is.
          let all : commands ≡ v.done = one-of (sym is ∙ v.whole) ∙ ap (λ (xs : List (Command g.row.R.Denot)). v.done ++ xs) none ∙ append-nil v.done in
          serves-last w c.args.world.now.form (told c.args.out.now) (told c.operations.out) (told c.conclude.new.out) old.queue between.queue new.queue old.desk.gathered between.desk.gathered new.desk.gathered
          (faults c.args.out.now) (faults c.operations.out) (faults c.conclude.new.out) v.done (Size ∷ []) (commands ++ Size ∷ []) v.run v.stays (ap (λ (xs : List (Command g.row.R.Denot)). xs ++ Size ∷ []) all) c.conclude.result c.conclude.ensures.serves;
      put = c.conclude.ensures.put;
    }

pub returns-in-Err : goal.returns-in-Err
returns-in-Err g c = let w = words g.R.PartialEq g.R.PartialOrd g.R.Ord g.R.Record g.R.Fields in
    let v = c.operations.invariant in
    let old = c.args.machine.now in
    let between = c.operations.machine in
    let new = c.operate.new.machine in
    let told = g.O.Sink.told in
    let faults = g.O.Sink.faults in
    let own = commands_of w c.in-Some.operation in
    let parts = request-parts w c.operations.rest.now c.in-Some.behind.now own v.left c.in-Some.ensures.operation v.behind in
    let more = parts.0 ++ Size ∷ [] in
    record {
      serves =
          λ commands is.
          let all : commands ≡ v.done ++ (own ++ parts.0) = one-of (sym is ∙ v.whole) ∙ ap (λ (xs : List (Command g.row.R.Denot)). v.done ++ xs) parts.2 in
          serves-stop w c.args.world.now.form (told c.args.out.now) (told c.operations.out) (told c.operate.new.out) old.queue between.queue new.queue old.desk.gathered between.desk.gathered new.desk.gathered
          (faults c.args.out.now) (faults c.operations.out) (faults c.operate.new.out) v.done own v.run v.stays c.operate.result c.in-Err.stop c.in-Err.is c.operate.ensures more (commands ++ Size ∷ [])
          (each-append LendsQueue parts.0 (Size ∷ []) (request-lends w c.in-Some.behind.now parts.0 parts.1) (tt, tt))
          (ap (λ (xs : List (Command g.row.R.Denot)). xs ++ Size ∷ []) all ∙ append_assoc v.done (own ++ parts.0) (Size ∷ []) ∙ ap (λ (xs : List (Command g.row.R.Denot)). v.done ++ xs) (append_assoc own parts.0 (Size ∷ [])));
      put = tt;
    }
