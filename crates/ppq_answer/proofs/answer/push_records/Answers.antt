use Rattle.std.proofs.Common.{◌≡◌, ◌∙◌, List, [], ◌∷◌, ◌++◌, length, map, refl, sym, ap, subst, arith, append-nil, append_assoc}
use Rattle.ppq_engine.specs.ppq_script.Words.{words}
use Rattle.ppq_engine.specs.ppq_script.declared.command.Command.{Command}
use Rattle.ppq_engine.specs.ppq_script.declared.command.Command.TheVariants.{Push}
use Rattle.ppq_requests.specs.Requests.{records_in}
use Rattle.ppq_answer.specs.Serving.{Executes}
use Rattle.ppq_answer.proofs.Asked.{pushes-append, pushes-lend}
use Rattle.ppq_answer.proofs.Serving.{executes-none, serves-next, serves-stop, serves-all}
use Rattle.ppq_answer.proofs.answer.push_records.Goals as goal

pub pushing-init : goal.pushing-init
pushing-init g c = let w = words g.R.PartialEq g.R.PartialOrd g.R.Ord g.R.Record g.R.Fields in
    let m = c.args.machine.now in
    record {
      done = [];
      all = ap (records_in w) (sym c.new-piece.ensures);
      run = executes-none w c.args.world.now.form (g.O.Sink.told c.args.out.now) m.queue m.desk.gathered;
      sound = c.requires.sound;
      stays = refl;
    }

pub pushing-smaller : goal.pushing-smaller
pushing-smaller g c = omega (arith, ap length c.in-Some.ensures.made)

pub pushing-preserved : goal.pushing-preserved
pushing-preserved g c = let w = words g.R.PartialEq g.R.PartialOrd g.R.Ord g.R.Record g.R.Fields in
    let v = c.pushing.invariant in
    let old = c.args.machine.now in
    let between = c.pushing.machine in
    let new = c.execute.new.machine in
    let told = g.O.Sink.told in
    let faults = g.O.Sink.faults in
    let form = c.args.world.now.form in
    let item = c.in-Some.item in
    let next = serves-next w form (told c.args.out.now) (told c.pushing.out) (told c.execute.new.out) old.queue between.queue new.queue old.desk.gathered between.desk.gathered new.desk.gathered
    (faults c.args.out.now) (faults c.pushing.out) (faults c.execute.new.out) (map Push v.done) (Push item ∷ []) v.run v.stays c.execute.result tt c.in-Ok.is c.execute.ensures in
    let P : List (Command g.row.R.Denot) → Type 0 = λ xs. Executes w form (told c.args.out.now) (told c.execute.new.out) old.queue new.queue old.desk.gathered new.desk.gathered xs in
    record {
      done = v.done ++ item ∷ [];
      all = v.all ∙ ap (λ (xs : List g.row.R.Denot). v.done ++ xs) c.in-Some.ensures.made ∙ sym (append_assoc v.done (item ∷ []) (records_in w c.make-next.new.self));
      run = subst P (sym (pushes-append v.done (item ∷ []))) next.0;
      sound = next.1;
      stays = next.2;
    }

pub returns-in-None : goal.returns-in-None
returns-in-None g c = let w = words g.R.PartialEq g.R.PartialOrd g.R.Ord g.R.Record g.R.Fields in
    let v = c.pushing.invariant in
    let old = c.args.machine.now in
    let new = c.pushing.machine in
    let told = g.O.Sink.told in
    let all : v.done ≡ records_in w c.args.records.now = sym (v.all ∙ ap (λ (xs : List g.row.R.Denot). v.done ++ xs) c.in-None.ensures.end ∙ append-nil v.done) in
    serves-all w c.args.world.now.form (told c.args.out.now) (told c.pushing.out) old.queue new.queue old.desk.gathered new.desk.gathered (map Push v.done) (map Push (records_in w c.args.records.now))
    (g.O.Sink.faults c.args.out.now) (g.O.Sink.faults c.pushing.out) tt v.run v.sound v.stays (ap (λ (xs : List g.row.R.Denot). map Push xs) all)

pub returns-in-Err : goal.returns-in-Err
returns-in-Err g c = let w = words g.R.PartialEq g.R.PartialOrd g.R.Ord g.R.Record g.R.Fields in
    let v = c.pushing.invariant in
    let old = c.args.machine.now in
    let between = c.pushing.machine in
    let new = c.execute.new.machine in
    let told = g.O.Sink.told in
    let faults = g.O.Sink.faults in
    let item = c.in-Some.item in
    let left = records_in w c.make-next.new.self in
    let all : records_in w c.args.records.now ≡ v.done ++ item ∷ left = v.all ∙ ap (λ (xs : List g.row.R.Denot). v.done ++ xs) c.in-Some.ensures.made in
    serves-stop w c.args.world.now.form (told c.args.out.now) (told c.pushing.out) (told c.execute.new.out) old.queue between.queue new.queue old.desk.gathered between.desk.gathered new.desk.gathered
    (faults c.args.out.now) (faults c.pushing.out) (faults c.execute.new.out) (map Push v.done) (Push item ∷ []) v.run v.stays c.execute.result c.in-Err.stop c.in-Err.is c.execute.ensures
    (map Push left) (map Push (records_in w c.args.records.now)) (pushes-lend left) (ap (λ (xs : List g.row.R.Denot). map Push xs) all ∙ pushes-append v.done (item ∷ left))
