-- What is gathered is put: all of it, or the sink failed.
use Rattle.std.proofs.Common.{◌≡◌, ◌∙◌, ◌≤◌, ℕ, List, [], ◌++◌, Option, None, sym, ap, subst, arith, append_assoc, append-nil}
use Rattle.std.specs.Prelude.{Ok, Err, ⊤}
use Rattle.ppq_engine.specs.ppq_script.Words.{Words}
use Rattle.ppq_engine.specs.ppq_script.declared.form.Form.{Form}
use Rattle.ppq_engine.specs.ppq_script.declared.command.Command.{Command}
use Rattle.ppq_engine.specs.ppq_script.ppq_outside.Told.{TakesAll, TakesPart, Rose}
use Rattle.ppq_engine.specs.ppq_queue.Holding.{Holding}
use Rattle.ppq_engine.specs.Output.{outside, given_of, state_of, output_of, output_from}
use Rattle.ppq_engine.specs.Running.{IsGathered}
use Rattle.ppq_engine.specs.declared.stop.Stop.TheVariants.{Sink}
use Rattle.ppq_engine.proofs.Orders.{HasLaws}
use Rattle.ppq_engine.proofs.Running.{output_from-append, gathered-part}
use Rattle.ppq_engine.proofs.ppq_load.ppq_queue.ppq_outside.Takes.{takes_two, part_of_more}
use Rattle.ppq_answer.specs.Serving.{script_of, Served, Executes, StopsAmong, Serves}
use Rattle.ppq_answer.proofs.Lending.{commands-are}

-- nothing is gathered any more
gathered-none : (before mid now : Option (List ℕ)) (had text : List ℕ) → IsGathered before mid had text → TakesAll mid now had → IsGathered before now [] text
gathered-none before mid now had text out took = record { written = out.written ++ had; told = takes_two before mid now out.written had out.told took; all = out.all ∙ sym (append-nil (out.written ++ had)) }

module _ {R : Type 0} (w : Words R) (laws : HasLaws w) (form : Form) (mid between now : Option (List ℕ)) (old new : Holding R) (had has left : List ℕ) (part : List (Command R)) (ran : Executes w form mid between old new had has part) where
  pub executes-put : left ≡ [] → TakesAll between now has → Executes w form mid now old new had left part
  executes-put none took = λ first before cs s.
      let t = ran first before cs s in
      let P : List ℕ → Type 0 = λ g. Served w form first before now (cs ++ part) new g in
      subst P (sym none)
      (record {
        run = λ tells given. let r = t.run tells given in record { closed = r.closed; output = gathered-none before between now has (output_of w form given (cs ++ part)) r.output took; holds = r.holds; counted = r.counted; highest = r.highest; crest = r.crest };
        has = t.has;
        lend = t.lend;
        unlimited = t.unlimited;
        quiet = t.quiet;
        kept = t.kept;
      })

  pub put-stops : TakesPart between now has → StopsAmong w form mid now old new had left part Sink
  put-stops took = λ first before cs behind block each s.
      let t = ran first before cs s in
      let all = cs ++ (part ++ behind) in
      record {
        stopped =
            λ tells files are.
            let given = given_of w files (script_of all) in
            let text = output_of w form given (cs ++ part) in
            let more = output_from w form given (state_of w given (cs ++ part)) behind in
            let P : List ℕ → Type 0 = λ o. TakesPart before now o in
            subst P (sym (ap (output_of w form given) (commands-are all ∙ sym (append_assoc cs part behind)) ∙ output_from-append w laws form given (outside []) (cs ++ part) behind))
            (part_of_more before now text more (gathered-part before between now has text (t.run tells given).output took));
        quiet = tt;
        slots = t.kept.slots;
        no_file = tt;
      }

  -- as what a call says that puts behind a call that executed them
  module _ (sink sink_mid sink_now : ℕ) (sound : new.failed ≡ None) (stays : sink_mid ≡ sink) where
    pub concludes : (v : ⊤) → left ≡ [] → TakesAll between now has → sink_now ≡ sink_mid → Serves w form mid now old new had left part sink sink_now (Ok v)
    concludes v none took same = record { done = executes-put none took; sound = sound; stopped = tt; counts = record { later = omega (arith, stays, same); stays = same ∙ stays; cause = tt } }

    pub concludes-stop : TakesPart between now has → sink_mid ≤ sink_now → Rose sink_mid sink_now → Serves w form mid now old new had left part sink sink_now (Err Sink)
    concludes-stop took more rose = record { done = tt; sound = tt; stopped = put-stops took; counts = record { later = omega (arith, more, stays); stays = tt; cause = let P : ℕ → Type 0 = λ n. Rose n sink_now in subst P stays rose } }
