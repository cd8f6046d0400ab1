-- Commands of requests that are executed one by one, and where they stop.
use Rattle.std.proofs.Common.{◌≡◌, ◌∙◌, ◌≤◌, ℕ, Bool, List, [], ◌∷◌, ◌++◌, length, max, Option, None, refl, sym, ap, subst, arith, append_assoc, append-nil}
use Rattle.std.specs.Prelude.{Result, Ok, Err, ⊤}
use Rattle.std.specs.List.{AllByRecursion as Each}
use Rattle.ppq_engine.specs.ppq_script.Words.{Words}
use Rattle.ppq_engine.specs.ppq_script.declared.form.Form.{Form}
use Rattle.ppq_engine.specs.ppq_script.declared.command.Command.{Command}
use Rattle.ppq_engine.specs.ppq_script.declared.part.Part.TheVariants as part
use Rattle.ppq_engine.specs.ppq_script.ppq_outside.Shown.{AllTell}
use Rattle.ppq_engine.specs.ppq_load.ppq_budget.Sizes.{Numbers}
use Rattle.ppq_engine.specs.ppq_queue.Holding.{Holding}
use Rattle.ppq_engine.specs.Refusal.{Keeps}
use Rattle.ppq_engine.specs.Calls.{Leaves, Lends}
use Rattle.ppq_engine.specs.Gathers.{Gathers}
use Rattle.ppq_engine.specs.Loads.{none_go, all_go, size_after, begins_limit, FitsWritten}
use Rattle.ppq_engine.specs.Output.{outside, text_of, after, given_of}
use Rattle.ppq_engine.specs.Popping.{NotByFile}
use Rattle.ppq_engine.specs.Running.{HasRun, HasSizes, LendsQueue, WroteInPart, StopsFor, StopsQuiet, SinkAfter}
use Rattle.ppq_engine.specs.declared.stop.Stop.{Stop}
use Rattle.ppq_engine.proofs.Advancing.{lone-stops}
use Rattle.ppq_engine.proofs.Kept.{stops-then}
use Rattle.ppq_engine.proofs.Orders.{HasLaws}
use Rattle.ppq_engine.proofs.Sizes.{sizes-part}
use Rattle.ppq_engine.proofs.Steps.{run-part}
use Rattle.ppq_engine.proofs.Stops.{not_of_file, stopped-part, stops-more}
use Rattle.ppq_engine.proofs.ppq_load.ppq_queue.Flushed.{keeps-more}
use Rattle.ppq_answer.specs.Serving.{script_of, Served, Halted, Executes, StopsAmong, Serves}
use Rattle.ppq_answer.proofs.Lending.{each-append, lends-line, lends-closed, lends-begin, lends-length, first-commands, part-behind_all}

-- one command
module _ {R : Type 0} (w : Words R) (laws : HasLaws w) (form : Form) (mid now : Option (List ℕ)) (old new : Holding R) (had has : List ℕ) (c : Command R) (lends : LendsQueue c) (kept : Keeps old new) (up : new.peak ≤ max old.peak (size_after w none_go old.size c)) where
  abbrev here : List (Command R)
  here = c ∷ []

  -- was executed
  pub lend-done :
      (AllTell old.slots → Gathers mid now had (text_of w form (outside old.bag) c) has)
      → ((given : ℕ → List R) → Leaves old new (after w given (outside old.bag) c).bag (size_after w all_go old.size c) (size_after w none_go old.size c))
      → (AllTell new.slots → length new.bag ≡ new.size) → FitsWritten new.size new.sizes new.slots → Executes w form mid now old new had has here
  lend-done text leaves counted fits = λ first before cs s.
      let any = leaves (λ file. []) in
      let Fits : Numbers → Type 0 = λ n. FitsWritten new.size n new.slots in
      let room = subst Fits (kept.sizes ∙ s.kept.sizes) fits in
      let Put : List ℕ → Type 0 = λ t. Gathers mid now had t has in
      record {
        run =
            λ tells given.
            let t = s.kept.tells tells in
            run-part w laws form given before mid had old.bag old.size old.peak first.sizes old.slots cs (s.run tells given) (part.One c) 1 (lends-line w 1 c lends) (lends-length w given c lends)
            now has new.bag new.size new.peak new.slots (subst Put (sym (append-nil (text_of w form (outside old.bag) c))) (text t)) ((leaves given).bag t) (counted (kept.tells t)) up room kept.writes;
        has = sizes-part w old.size new.size old.peak new.peak first.sizes old.slots new.slots cs (part.One c) 1 (lends-line w 1 c lends) (lends-closed w cs s.lend) s.has any.low any.high up room kept.writes;
        lend = each-append LendsQueue cs here s.lend (lends, tt);
        unlimited = kept.limited ∙ s.unlimited;
        quiet = any.quiet ∙ s.quiet;
        kept = keeps-more first old new s.kept kept;
      }

  -- stopped
  pub lend-stops :
      (stop : Stop) → (AllTell old.slots → WroteInPart mid now had (text_of w form (outside old.bag) c) has stop) → StopsFor new.peak new.sizes new.limited new.slots stop
      → StopsQuiet old.slots new.slots stop → NotByFile stop → StopsAmong w form mid now old new had has here stop
  lend-stops stop wrote why quiet by = λ first before cs behind block each s.
      let all = cs ++ c ∷ behind in
      let first_are = first-commands w cs c behind lends each in
      let Why : Numbers → Bool → Type 0 = λ n b. StopsFor new.peak n b new.slots stop in
      let own : Why first.sizes old.limited = subst (λ (b : Bool). Why first.sizes b) kept.limited (subst (λ (n : Numbers). Why n new.limited) (kept.sizes ∙ s.kept.sizes) why) in
      let Sized : List (Command R) → Type 0 = λ xs. HasSizes w old.size old.peak first.sizes old.slots xs in
      record {
        stopped =
            stopped-part w laws form None (script_of all) first.slots before mid now had has old.bag old.size old.peak first.sizes old.slots old.slots new.slots old.limited (length cs) (part.One c)
            (part-behind_all w cs c behind lends each) block s.kept.tells (s.unlimited ∙ sym (ap begins_limit first_are ∙ lends-begin cs s.lend)) (λ files are. lends-length w (given_of w files (script_of all)) c lends)
            (λ tells files are. let Run : List (Command R) → Type 0 = λ xs. HasRun w form (given_of w files (script_of all)) before mid had old.bag old.size old.peak first.sizes old.slots xs in subst Run (sym first_are) (s.run tells (given_of w files (script_of all))))
            (subst Sized (sym first_are) s.has) stop
            (lone-stops w form old.slots mid now had has old.bag old.size old.peak first.sizes old.limited new.slots 1 c (lends-line w 1 c lends) stop wrote (stops-more first.sizes old.limited new.slots new.peak (max old.peak (size_after w none_go old.size c)) stop block up own))
            (not_of_file c stop by);
        quiet = stops-then first.slots old.slots new.slots s.quiet stop quiet;
        slots = (keeps-more first old new s.kept kept).slots;
        no_file = by;
      }

-- a call that lends the queue
module _ {R : Type 0} (w : Words R) (laws : HasLaws w) (form : Form) (mid now : Option (List ℕ)) (old new : Holding R) (had has : List ℕ) (c : Command R) (lends : LendsQueue c) (sink sink_now : ℕ)
    (counted : new.failed ≡ None → AllTell new.slots → length new.bag ≡ new.size) (fits : new.failed ≡ None → FitsWritten new.size new.sizes new.slots)
  where
    pub lend-serves : (r : Result ⊤ Stop) → Lends w form mid now sink sink_now old new had has c r → Serves w form mid now old new had has (c ∷ []) sink sink_now r
    lend-serves (Ok v) l =
        let sound = (l.left (λ file. [])).sound in
        record { done = lend-done w laws form mid now old new had has c lends l.lent.kept l.lent.peak l.prints.text l.left (counted sound) (fits sound); sound = sound; stopped = tt; counts = l.counts }
    lend-serves (Err stop) l =
        record { done = tt; sound = tt; stopped = lend-stops w laws form mid now old new had has c lends l.lent.kept l.lent.peak stop l.prints.part l.lent.refused l.lent.quiet l.lent.no_file; counts = l.counts }

-- calls one after the other
module _ {R : Type 0} (w : Words R) (form : Form) (first_told mid now : Option (List ℕ)) (old between new : Holding R) (was had has : List ℕ) (one other : List (Command R)) where
  pub executes-both : Executes w form first_told mid old between was had one → Executes w form mid now between new had has other → Executes w form first_told now old new was has (one ++ other)
  executes-both ran next = λ first before cs s.
      let P : List (Command R) → Type 0 = λ xs. Served w form first before now xs new has in
      subst P (append_assoc cs one other) (next first before (cs ++ one) (ran first before cs s))

  pub executes-stops : (stop : Stop) → Executes w form first_told mid old between was had one → StopsAmong w form mid now between new had has other stop → StopsAmong w form first_told now old new was has (one ++ other) stop
  executes-stops stop ran next = λ first before cs behind block each s.
      let P : List (Command R) → Type 0 = λ xs. Halted w form first before now xs new has stop in
      subst P (append_assoc cs one (other ++ behind) ∙ ap (λ (xs : List (Command R)). cs ++ xs) (sym (append_assoc one other behind)))
      (next first before (cs ++ one) behind block each (ran first before cs s))

-- no command
pub executes-none : {R : Type 0} (w : Words R) (form : Form) (told : Option (List ℕ)) (q : Holding R) (had : List ℕ) → Executes w form told told q q had had []
executes-none {R} w form told q had = λ first before cs s. let P : List (Command R) → Type 0 = λ xs. Served w form first before told xs q had in subst P (sym (append-nil cs)) s

-- stopped in front of further commands
pub stops-longer :
    {R : Type 0} (w : Words R) (form : Form) (mid now : Option (List ℕ)) (old new : Holding R) (had has : List ℕ) (part more : List (Command R)) (stop : Stop)
    → Each LendsQueue more → StopsAmong w form mid now old new had has part stop → StopsAmong w form mid now old new had has (part ++ more) stop
stops-longer {R} w form mid now old new had has part more stop lend stops = λ first before cs behind block each s.
    let P : List (Command R) → Type 0 = λ xs. Halted w form first before now xs new has stop in
    subst P (ap (λ (xs : List (Command R)). cs ++ xs) (sym (append_assoc part more behind))) (stops first before cs (more ++ behind) block (each-append LendsQueue more behind lend each) s)

-- calls of a loop
module _ {R : Type 0} (w : Words R) (form : Form) (first_told mid now : Option (List ℕ)) (old between new : Holding R) (was had has : List ℕ) (sink sink_mid sink_now : ℕ) (one other : List (Command R)) (ran : Executes w form first_told mid old between was had one) (stays : sink_mid ≡ sink) where
  -- the next was executed
  pub serves-next : (r : Result ⊤ Stop) (v : ⊤) → r ≡ Ok v → Serves w form mid now between new had has other sink_mid sink_now r → Executes w form first_told now old new was has (one ++ other) × (new.failed ≡ None) × (sink_now ≡ sink)
  serves-next (Ok v) u is s = (executes-both w form first_told mid now old between new was had has one other ran s.done, s.sound, s.counts.stays ∙ stays)
  serves-next (Err stop) u is s = cc

  -- or stopped in front of further commands
  pub serves-stop :
      (r : Result ⊤ Stop) (stop : Stop) → r ≡ Err stop → Serves w form mid now between new had has other sink_mid sink_now r
      → (more whole : List (Command R)) → Each LendsQueue more → whole ≡ one ++ (other ++ more) → Serves w form first_told now old new was has whole sink sink_now (Err stop)
  serves-stop (Ok v) stop is s more whole lend all = cc
  serves-stop (Err own) stop is s more whole lend all =
      let same : own ≡ stop = cc in
      let P : List (Command R) → Type 0 = λ xs. StopsAmong w form first_told now old new was has xs stop in
      let Stops : Stop → Type 0 = λ x. StopsAmong w form mid now between new had has other x in
      let After : ℕ → Stop → Type 0 = λ n x. SinkAfter n sink_now x in
      record {
        done = tt;
        sound = tt;
        stopped =
            subst P (append_assoc one other more ∙ sym all)
            (stops-longer w form first_told now old new was has (one ++ other) more stop lend (executes-stops w form first_told mid now old between new was had has one other stop ran (subst Stops same s.stopped)));
        counts = record { later = omega (arith, s.counts.later, stays); stays = tt; cause = subst (After sink) same (subst (λ (n : ℕ). After n own) stays s.counts.cause) };
      }

-- all was executed
pub serves-all :
    {R : Type 0} (w : Words R) (form : Form) (mid now : Option (List ℕ)) (old new : Holding R) (had has : List ℕ) (part whole : List (Command R)) (sink sink_now : ℕ) (v : ⊤)
    → Executes w form mid now old new had has part → new.failed ≡ None → sink_now ≡ sink → part ≡ whole → Serves w form mid now old new had has whole sink sink_now (Ok v)
serves-all {R} w form mid now old new had has part whole sink sink_now v ran sound stays same =
    let P : List (Command R) → Type 0 = λ xs. Executes w form mid now old new had has xs in
    record { done = subst P same ran; sound = sound; stopped = tt; counts = record { later = omega (arith, stays); stays = stays; cause = tt } }

-- the last call, whatever it answers
pub serves-last :
    {R : Type 0} (w : Words R) (form : Form) (first_told mid now : Option (List ℕ)) (old between new : Holding R) (was had has : List ℕ) (sink sink_mid sink_now : ℕ) (one other whole : List (Command R))
    → Executes w form first_told mid old between was had one → sink_mid ≡ sink → whole ≡ one ++ other → (r : Result ⊤ Stop) → Serves w form mid now between new had has other sink_mid sink_now r
    → Serves w form first_told now old new was has whole sink sink_now r
serves-last {R} w form first_told mid now old between new was had has sink sink_mid sink_now one other whole ran stays all (Ok v) s =
    let n = serves-next w form first_told mid now old between new was had has sink sink_mid sink_now one other ran stays (Ok v) v refl s in
    serves-all w form first_told now old new was has (one ++ other) whole sink sink_now v n.0 n.1 n.2 (sym all)
serves-last {R} w form first_told mid now old between new was had has sink sink_mid sink_now one other whole ran stays all (Err stop) s =
    serves-stop w form first_told mid now old between new was had has sink sink_mid sink_now one other ran stays (Err stop) stop refl s [] whole tt (all ∙ ap (λ (xs : List (Command R)). one ++ xs) (sym (append-nil other)))
