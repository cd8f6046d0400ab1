use Rattle.std.proofs.Common.{◌≡◌, ◌∙◌, ◌+◌, ℕ, List, [], ◌∷◌, ◌++◌, length, Option, refl, sym, ap, subst, arith, inl, inr, length-append, append-nil}
use Rattle.ppq_engine.specs.ppq_script.Words.{words}
use Rattle.ppq_engine.specs.ppq_script.declared.command.Command.{Command}
use Rattle.ppq_engine.specs.ppq_script.declared.command.Command.TheVariants.{Size}
use Rattle.ppq_engine.specs.ppq_queue.Holding.{Holding}
use Rattle.ppq_engine.proofs.Results.{at-ok}
use Rattle.ppq_frames.specs.declared.filled.Filled.{Filled}
use Rattle.ppq_frames.specs.Frames.{first_request}
use Rattle.ppq_requests.specs.Requests.{request_of}
use Rattle.ppq_requests.proofs.Sequences.{AreAsked-push}
use Rattle.ppq_answer.specs.Serving.{Executes}
use Rattle.ppq_answer.specs.Talking.{talk_of, Talks}
use Rattle.ppq_answer.specs.Waiting.{IsAwaited}
use Rattle.ppq_answer.specs.declared.halt.Halt.TheVariants.{Bad}
use Rattle.ppq_answer.proofs.Serving.{serves-next, serves-stop}
use Rattle.ppq_answer.proofs.Talked.{came-next, came-none, talk-push, is-some}
use Rattle.ppq_answer.proofs.talk.talk.Goals as goal

-- the answer to the first frame was not put
pub returns-in-Err : goal.returns-in-Err
returns-in-Err g c = record {
  requests = [];
  came = λ told taken was. came-none taken c.args.incoming.now was;
  are = tt;
  halts = (c.in-Err.ensures.serves.stopped, refl {a = g.I.Source.faults c.args.source.now}, c.in-Err.ensures.serves.counts.cause);
}

pub requests-init : goal.requests-init
requests-init g c = let s = c.in-Ok.ensures.serves in
    record {
      requests = [];
      counted = omega arith;
      came = λ told taken was. came-none taken c.args.incoming.now was;
      are = tt;
      run = s.done;
      put = c.in-Ok.ensures.put;
      sound = s.sound;
      stays = s.counts.stays;
      unfailed = refl {a = g.I.Source.faults c.args.source.now};
    }

-- one request more was answered
pub requests-preserved : goal.requests-preserved
requests-preserved g c = let w = words g.R.PartialEq g.R.PartialOrd g.R.Ord g.R.Record g.R.Fields in
    let v = c.requests.invariant in
    let a = c.in-Some.ensures.taken in
    let old = c.args.machine.now in
    let between = c.requests.machine in
    let new = c.answer_first.new.machine in
    let told = g.O.Sink.told in
    let faults = g.O.Sink.faults in
    let request = first_request c.wait.new.incoming in
    let next = serves-next w c.args.world.now.form (told c.args.out.now) (told c.requests.out) (told c.answer_first.new.out) old.queue between.queue new.queue old.desk.gathered between.desk.gathered new.desk.gathered
    (faults c.args.out.now) (faults c.requests.out) (faults c.answer_first.new.out) (talk_of w v.requests) (a.commands ++ Size ∷ []) v.run v.stays c.in-Some.answered c.in-Ok-answered.field-0 c.in-Ok-answered.is a.serves in
    let P : List (Command g.row.R.Denot) → Type 0 = λ xs. Executes w c.args.world.now.form (told c.args.out.now) (told c.answer_first.new.out) old.queue new.queue old.desk.gathered new.desk.gathered xs in
    record {
      requests = v.requests ++ request ∷ [];
      counted = omega (arith, v.counted, length-append v.requests (request ∷ []));
      came =
          λ told taken was.
          came-next told (g.I.Source.told c.wait.new.source) (g.I.Source.gave c.wait.new.source) taken v.requests request c.wait.new.incoming c.answer_first.new.incoming
          (c.wait.ensures.came told (taken ++ v.requests) (v.came told taken was)) a.next;
      are = AreAsked-push w v.requests request v.are (is-some (request_of w request) a.commands a.asked);
      run = subst P (sym (talk-push w v.requests request a.commands v.are a.asked)) next.0;
      put = at-ok c.in-Some.answered c.in-Ok-answered.field-0 (new.desk.gathered ≡ []) c.in-Ok-answered.is a.put;
      sound = next.1;
      stays = next.2;
      unfailed = c.in-Ok-wait.ensures.cause.ok ∙ v.unfailed;
    }

pub returns-in-Err-answered : goal.returns-in-Err-answered
returns-in-Err-answered g c = let w = words g.R.PartialEq g.R.PartialOrd g.R.Ord g.R.Record g.R.Fields in
    let v = c.requests.invariant in
    let a = c.in-Some.ensures.taken in
    let old = c.args.machine.now in
    let between = c.requests.machine in
    let new = c.answer_first.new.machine in
    let told = g.O.Sink.told in
    let faults = g.O.Sink.faults in
    let request = first_request c.wait.new.incoming in
    let own = a.commands ++ Size ∷ [] in
    let s = serves-stop w c.args.world.now.form (told c.args.out.now) (told c.requests.out) (told c.answer_first.new.out) old.queue between.queue new.queue old.desk.gathered between.desk.gathered new.desk.gathered
    (faults c.args.out.now) (faults c.requests.out) (faults c.answer_first.new.out) (talk_of w v.requests) own v.run v.stays c.in-Some.answered c.in-Err-answered.stop c.in-Err-answered.is a.serves
    [] (talk_of w (v.requests ++ request ∷ [])) tt (talk-push w v.requests request a.commands v.are a.asked ∙ ap (λ (xs : List (Command g.row.R.Denot)). talk_of w v.requests ++ xs) (sym (append-nil own))) in
    record {
      requests = v.requests ++ request ∷ [];
      came =
          λ told taken was.
          came-next told (g.I.Source.told c.wait.new.source) (g.I.Source.gave c.wait.new.source) taken v.requests request c.wait.new.incoming c.answer_first.new.incoming
          (c.wait.ensures.came told (taken ++ v.requests) (v.came told taken was)) a.next;
      are = AreAsked-push w v.requests request v.are (is-some (request_of w request) a.commands a.asked);
      halts = (s.stopped, c.in-Ok-wait.ensures.cause.ok ∙ v.unfailed, s.counts.cause);
    }

pub returns-in-End : goal.returns-in-End
returns-in-End g c =
    let v = c.requests.invariant in
    let P : Filled → Type 0 = λ f. IsAwaited (g.I.Source.over c.wait.new.source) c.wait.new.incoming f in
    let ended = subst P c.in-End.is c.in-Ok-wait.ensures.awaited in
    record {
      requests = v.requests;
      came = λ told taken was. c.wait.ensures.came told (taken ++ v.requests) (v.came told taken was);
      are = v.are;
      halts = (record { done = v.run; put = v.put; same = v.stays }, c.in-Ok-wait.ensures.cause.ok ∙ v.unfailed, ended.0, ended.1);
    }

pub returns-in-CutOff : goal.returns-in-CutOff
returns-in-CutOff g c =
    let v = c.requests.invariant in
    let P : Filled → Type 0 = λ f. IsAwaited (g.I.Source.over c.wait.new.source) c.wait.new.incoming f in
    let ended = subst P c.in-CutOff.is c.in-Ok-wait.ensures.awaited in
    record {
      requests = v.requests;
      came = λ told taken was. c.wait.ensures.came told (taken ++ v.requests) (v.came told taken was);
      are = v.are;
      halts = (record { done = v.run; put = v.put; same = v.stays }, c.in-Ok-wait.ensures.cause.ok ∙ v.unfailed, v.counted, inr (inl ended));
    }

-- what stands first is no request; nothing was done
pub returns-in-None : goal.returns-in-None
returns-in-None g c = let w = words g.R.PartialEq g.R.PartialOrd g.R.Ord g.R.Record g.R.Fields in
    let v = c.requests.invariant in
    let told = g.O.Sink.told in
    let faults = g.O.Sink.faults in
    let old = c.args.machine.now in
    let same = c.in-None.ensures.untouched in
    let T : Option (List ℕ) → ℕ → Holding g.row.R.Denot → List ℕ → List ℕ → Type 0 =
    λ now count queue has waiting.
    Talks w c.args.world.now.form g.I.Source c.args.source.now c.wait.new.source waiting (told c.args.out.now) now (faults c.args.out.now) count old.queue queue old.desk.gathered has c.args.incoming.now (Bad c.requests.number) in
    let talked : T (told c.requests.out) (faults c.requests.out) c.requests.machine.queue c.requests.machine.desk.gathered c.wait.new.incoming =
    record {
      requests = v.requests;
      came = λ told taken was. c.wait.ensures.came told (taken ++ v.requests) (v.came told taken was);
      are = v.are;
      halts = (record { done = v.run; put = v.put; same = v.stays }, c.in-Ok-wait.ensures.cause.ok ∙ v.unfailed, v.counted, inl c.in-None.ensures.refused);
    } in
    let new = c.answer_first.new in
    let A : Holding g.row.R.Denot → Type 0 = λ q. T (told c.requests.out) (faults c.requests.out) q c.requests.machine.desk.gathered c.wait.new.incoming in
    let B : List ℕ → Type 0 = λ has. T (told c.requests.out) (faults c.requests.out) new.machine.queue has c.wait.new.incoming in
    let C : List ℕ → Type 0 = λ waiting. T (told c.requests.out) (faults c.requests.out) new.machine.queue new.machine.desk.gathered waiting in
    let D : Option (List ℕ) → Type 0 = λ now. T now (faults c.requests.out) new.machine.queue new.machine.desk.gathered new.incoming in
    let E : ℕ → Type 0 = λ count. T (told new.out) count new.machine.queue new.machine.desk.gathered new.incoming in
    subst E (sym same.2.1) (subst D (sym same.2.0) (subst C (sym same.1) (subst B (sym same.0.1) (subst A (sym same.0.0) talked))))

-- the numbers are used up
pub returns : goal.returns
returns g c =
    let v = c.requests.invariant in
    let last : 18446744073709551615 ≡ length v.requests + 2 = omega (arith, v.counted, c.requests-test.false, c.requests.auto.number, c.requests.auto.number-end) in
    record {
      requests = v.requests;
      came = v.came;
      are = v.are;
      halts = (record { done = v.run; put = v.put; same = v.stays }, v.unfailed, last, inr (inr (omega (arith, last))));
    }
