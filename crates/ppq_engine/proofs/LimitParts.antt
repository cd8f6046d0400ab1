-- A limit session of a script as a whole: what stands where it ended, and where it stopped.
use Rattle.std.proofs.Common.{◌≡◌, ℕ, ◌+◌, ◌-◌, ◌<◌, ◌≤◌, true, List, [], ◌∷◌, ◌++◌, length, max, Option, None, refl, sym, ap, ◌∙◌, subst, arith, append_assoc, append-nil, length-append}
use Rattle.std.specs.Prelude.{count_by, Result, Ok, Err, OnOk, OnErr, IfErr, ⊤}
use Rattle.ppq_script.specs.Words.{Words}
use Rattle.ppq_engine.proofs.Orders.{HasLaws}
use Rattle.ppq_script.specs.declared.form.Form.{Form}
use Rattle.ppq_script.specs.ppq_record.Bag.{IsSameBag}
use Rattle.ppq_script.specs.ppq_outside.Shown.{Shown, AllTell}
use Rattle.ppq_script.specs.ppq_outside.Told.{TakesPart, HasOneCause}
use Rattle.ppq_script.specs.ppq_outside.declared.fault.Failed.{Failed}
use Rattle.ppq_script.specs.declared.command.Command.{Command}
use Rattle.ppq_script.specs.declared.command.Command.TheVariants.{LimitBegin, LimitEnd}
use Rattle.ppq_script.specs.declared.session.Session.TheVariants.{InLimit}
use Rattle.ppq_script.specs.Parts.{AreLines, limit_part}
use Rattle.ppq_script.specs.Reading.{Reading}
use Rattle.ppq_load.specs.ppq_queue.Holding.{Holding, CountsFew}
use Rattle.ppq_load.specs.ppq_array.declared.store_fault.StoreFault.{StoreFault as QueueFault}
use Rattle.ppq_load.specs.ppq_array.declared.store_fault.StoreFault.TheVariants.{NoFreeBlock, Device}
use Rattle.ppq_load.specs.Refusal.{Keeps, IsRefusedBy}
use Rattle.ppq_load.proofs.Counting.{few-to}
use Rattle.ppq_load.proofs.Refusals.{cause-later}
use Rattle.ppq_load.specs.ppq_session.Asks.{pops_in, left_after}
use Rattle.ppq_load.specs.ppq_session.LimitSessions.{LimitSessionHolding, InLimits, AreGoing, IsOver, IsOverBy, begun_in}
use Rattle.ppq_engine.specs.Calls.{RunsPart, SinkCounts}
use Rattle.ppq_engine.specs.Files.{IsBySession}
use Rattle.ppq_engine.specs.Gathers.{Gathers}
use Rattle.ppq_engine.specs.Loads.{none_go, all_go, size_from}
use Rattle.ppq_engine.specs.Output.{State, outside, state_from, output_from, given_of}
use Rattle.ppq_engine.specs.Pushes.{pushed_in}
use Rattle.ppq_engine.specs.Popping.{IsByLimit}
use Rattle.ppq_engine.specs.Running.{RefusedAt, PartStops, StopsFor, StopsQuiet}
use Rattle.ppq_engine.specs.Limits.{asks_in, answers_of, HasJustBegun, RunsLines, BreaksOff, session_end}
use Rattle.ppq_engine.specs.declared.stop.Stop.{Stop}
use Rattle.ppq_engine.specs.declared.stop.Stop.TheVariants.{Sink, Queue}
use Rattle.ppq_engine.proofs.Advancing.{Keeps-begun, lines-refused}
use Rattle.ppq_engine.proofs.Asked.{inside, lines-high, lines-low, lines-output, lines-bag}
use Rattle.ppq_engine.proofs.Lines.{size_from-append}
use Rattle.ppq_engine.proofs.Popped.{gathers-nothing}
use Rattle.ppq_engine.proofs.Pushes.{lines-split, pushed-append}
use Rattle.ppq_engine.proofs.Running.{output_from-append, state_from-append}

module _ {R : Type 0} (w : Words R) (laws : HasLaws w) (workers : ℕ) (limit : R) (lines : List (Command R)) (are : AreLines w workers (InLimit limit) lines) where
  -- its first lines, whatever comes behind them
  pub first-output : (form : Form) (given : ℕ → List R) (bag : List R) → output_from w form given (outside bag) (LimitBegin limit ∷ lines) ≡ answers_of w form limit bag lines
  first-output form given bag = lines-output w laws workers limit given form [] bag bag 0 lines are tt (λ p. refl)

  pub first-size : (size : ℕ) → size_from w none_go size (LimitBegin limit ∷ lines) ≡ size + length (pushed_in lines)
  first-size size = lines-high w laws workers limit size lines are

  -- the whole session
  pub whole-output : (form : Form) (given : ℕ → List R) (bag : List R) → output_from w form given (outside bag) (limit_part limit lines) ≡ answers_of w form limit bag lines
  whole-output form given bag = output_from-append w laws form given (inside limit bag 0) lines (LimitEnd ∷ []) ∙ append-nil (output_from w form given (inside limit bag 0) lines) ∙ first-output form given bag

  pub whole-bag : (given : ℕ → List R) (bag : List R) → IsSameBag (state_from w given (outside bag) (limit_part limit lines)).bag (pushed_in lines ++ left_after w.cmp limit bag (asks_in lines))
  whole-bag given bag p =
      ap (λ (st : State R). count_by p st.bag) (state_from-append w laws given (inside limit bag 0) lines (LimitEnd ∷ [])) ∙ lines-bag w laws workers limit given [] bag bag 0 lines are tt (λ q. refl) p

  pub whole-high : (size : ℕ) → size_from w none_go size (limit_part limit lines) ≡ size + length (pushed_in lines)
  whole-high size = size_from-append w none_go size lines (LimitEnd ∷ []) ∙ lines-high w laws workers limit size lines are

  pub whole-low : (size : ℕ) → size_from w all_go size (limit_part limit lines) ≤ (size - pops_in (asks_in lines)) + length (pushed_in lines)
  whole-low size = omega (arith, size_from-append w all_go size lines (LimitEnd ∷ []), lines-low w laws workers limit size lines are)

-- a session of lines ends well only if its end is Ok
end-on : (printed : Result ⊤ Failed) (ended : Result ⊤ QueueFault) (A : Type 0) → OnOk ended A → OnOk (session_end printed ended) A
end-on (Ok v) (Ok w) A holds = holds
end-on (Ok v) (Err fault) A holds = tt
end-on (Err failed) ended A holds = tt

-- the first lines of a session push no more than all
pushed-first : {R : Type 0} (lines rest body : List (Command R)) → body ≡ lines ++ rest → length (pushed_in lines) ≤ length (pushed_in body)
pushed-first {R} lines rest body all = omega (arith, ap (λ (cs : List (Command R)). length (pushed_in cs)) all, ap length (pushed-append lines rest), length-append (pushed_in lines) (pushed_in rest))

module _ {R : Type 0} (w : Words R) (laws : HasLaws w)
    {S : Type 0} (shown : S → Shown) (form : Form) (queue : Holding R) (before now : Option (List ℕ)) (had has : List ℕ) (mid : LimitSessionHolding S R)
    (workers : ℕ) (limit : R) (body : List (Command R)) (are : AreLines w workers (InLimit limit) body)
  where
    abbrev part : List (Command R)
    part = limit_part limit body

    -- how the session ended
    pub record SessionRan (old : LimitSessionHolding S R) (new : Holding R) (printed : Result ⊤ Failed) (ended : Result ⊤ QueueFault) : Type 0 where
      pub begun : HasJustBegun w shown queue limit old
      pub lines : OnOk printed (RunsLines w shown form body before now had has old mid)
      pub broken : OnErr printed (BreaksOff w shown form body before now had old mid)
      pub going : OnOk ended (AreGoing mid)
      pub over : (given left : List R) (popped : ℕ) → InLimits shown queue limit given left popped mid → IsOver queue given left popped new ended
      pub left : IfErr ended (IsOverBy shown mid new)

    -- these lines were run, and their answers are gathered
    record LinesRan (new : Holding R) (ended : Result ⊤ QueueFault) (lines : List (Command R)) : Type 0 where
      over : IsOver queue (pushed_in lines) (left_after w.cmp limit queue.bag (asks_in lines)) (pops_in (asks_in lines)) new ended
      text : mid.front.failed ≡ None → AllTell queue.slots → Gathers before now had (answers_of w form limit queue.bag lines) has

    module _ (old : LimitSessionHolding S R) (new : Holding R) where
      lines-ran : (v : ⊤) (ended : Result ⊤ QueueFault) (run : SessionRan old new (Ok v) ended) → LinesRan new ended run.lines.lines
      lines-ran v ended run = let lines = run.lines.lines in record {
        over = run.over (pushed_in lines) (left_after w.cmp limit queue.bag (asks_in lines)) (pops_in (asks_in lines)) (run.lines.session queue limit run.begun);
        text = λ sound. run.lines.text sound queue limit run.begun;
      }

      -- the sink failed when these lines were run
      broken-over :
          (failed : Failed) (ended : Result ⊤ QueueFault) (run : SessionRan old new (Err failed) ended)
          → IsOver queue (pushed_in run.broken.lines) (left_after w.cmp limit queue.bag (asks_in run.broken.lines)) (pops_in (asks_in run.broken.lines)) new ended
      broken-over failed ended run =
          let lines = run.broken.lines in
          run.over (pushed_in lines) (left_after w.cmp limit queue.bag (asks_in lines)) (pops_in (asks_in lines)) (run.broken.session queue limit run.begun)

      -- what stands where all was run, whatever files a library has
      runs-part : (v : ⊤) → LinesRan new (Ok v) body → mid.front.failed ≡ None → (script : Reading R) (told : Option (List ℕ → Option (List ℕ))) → RunsPart w form told script queue new before now had has part
      runs-part v it sound script told =
          let most = whole-high w laws workers limit body are queue.size in
          record {
            text = λ tells given. let P : List ℕ → Type 0 = λ t. Gathers before now had t has in subst P (sym (whole-output w laws workers limit body are form given queue.bag)) (it.text sound tells);
            bag = λ tells files known p. it.over.bag tells p ∙ sym (whole-bag w laws workers limit body are (given_of w files script) queue.bag p);
            low = omega (arith, whole-low w laws workers limit body are queue.size, it.over.low, it.over.least);
            high = omega (arith, most, it.over.high);
            sound = it.over.sound;
            quiet = it.over.quiet;
            peak = omega (arith, most, it.over.peak);
            kept = Keeps-begun queue new limit body it.over.kept;
          }

      ran : (printed : Result ⊤ Failed) (ended : Result ⊤ QueueFault) → SessionRan old new printed ended → OnOk (session_end printed ended) ((script : Reading R) (told : Option (List ℕ → Option (List ℕ))) → RunsPart w form told script queue new before now had has part)
      ran (Ok v) (Ok w) run =
          let all : run.lines.lines ≡ body = sym (run.lines.all ∙ ap (λ (cs : List (Command R)). run.lines.lines ++ cs) (run.lines.end run.going) ∙ append-nil run.lines.lines) in
          runs-part w (subst (LinesRan new (Ok w)) all (lines-ran v (Ok w) run)) run.going.front
      ran (Ok v) (Err fault) run = tt
      ran (Err failed) ended run = tt

      -- the queue refused: up to the last line that was run all is gathered, or what was answered before a call of a slot failed
      refused : (v : ⊤) (fault : QueueFault) → SessionRan old new (Ok v) (Err fault) → RefusedAt w form queue.slots before now had queue.bag queue.size queue.peak part queue.sizes true new.slots has fault
      refused v NoFreeBlock run =
          let lines = run.lines.lines in
          let rest = run.lines.rest ++ LimitEnd ∷ [] in
          let it = lines-ran v (Err NoFreeBlock) run in
          let lines_are = (lines-split w workers (InLimit limit) lines run.lines.rest body run.lines.all are).0 in
          let same : lines ++ rest ≡ body ++ LimitEnd ∷ [] = sym (append_assoc lines run.lines.rest (LimitEnd ∷ [])) ∙ ap (λ (cs : List (Command R)). cs ++ LimitEnd ∷ []) (sym run.lines.all) in
          let P : List (Command R) → Type 0 = λ cs. RefusedAt w form queue.slots before now had queue.bag queue.size queue.peak (LimitBegin limit ∷ cs) queue.sizes true new.slots has NoFreeBlock in
          let Q : List ℕ → Type 0 = λ t. Gathers before now had t has in
          let R : ℕ → Type 0 = λ n. IsRefusedBy (max queue.peak n) queue.sizes true new.slots NoFreeBlock in
          subst P same
          (lines-refused w laws form queue.slots before now had has queue.bag queue.size queue.peak queue.sizes true new.slots NoFreeBlock (LimitBegin limit) lines rest (omega (arith, length-append run.lines.rest (LimitEnd ∷ [])))
          (λ tells given. subst Q (sym (first-output w laws workers limit lines lines_are form given queue.bag)) (it.text run.left.no_fault.0 tells))
          (subst R (sym (first-size w laws workers limit lines lines_are queue.size)) it.over.refused))
      refused v (Device number) run = record {
        done = 0;
        within = omega arith;
        cut =
            λ tells given.
            let lines = run.lines.lines in
            let had_part = run.lines.part queue limit run.begun tells in
            let lines_are = (lines-split w workers (InLimit limit) lines run.lines.rest body run.lines.all are).0 in
            let more = output_from w form given (state_from w given (outside queue.bag) (LimitBegin limit ∷ lines)) (run.lines.rest ++ LimitEnd ∷ []) in
            record {
              text = had_part.part;
              rest = had_part.rest ++ more;
              all =
                  ap (λ (cs : List (Command R)). output_from w form given (outside queue.bag) (LimitBegin limit ∷ (cs ++ LimitEnd ∷ []))) run.lines.all
                  ∙ ap (λ (cs : List (Command R)). output_from w form given (outside queue.bag) (LimitBegin limit ∷ cs)) (append_assoc lines run.lines.rest (LimitEnd ∷ []))
                  ∙ output_from-append w laws form given (outside queue.bag) (LimitBegin limit ∷ lines) (run.lines.rest ++ LimitEnd ∷ [])
                  ∙ ap (λ (t : List ℕ). t ++ more) (first-output w laws workers limit lines lines_are form given queue.bag ∙ had_part.all) ∙ append_assoc had_part.part had_part.rest more;
              gathers = had_part.gathers;
            };
        cause = (lines-ran v (Err (Device number)) run).over.refused;
      }

      abbrev Stops : Stop → Type 0
      Stops stop = PartStops w form queue.slots before now had queue.bag queue.size queue.peak part queue.sizes true new.slots has stop

      stopped : (printed : Result ⊤ Failed) (ended : Result ⊤ QueueFault) → SessionRan old new printed ended → IfErr (session_end printed ended) Stops
      stopped (Ok v) (Ok w) run = tt
      stopped (Ok v) (Err fault) run = refused v fault run
      stopped (Err failed) ended run = λ tells given.
          let P : List ℕ → Type 0 = λ t. TakesPart before now (had ++ t) in
          subst P (sym (whole-output w laws workers limit body are form given queue.bag)) (run.broken.text queue limit run.begun tells)

      -- where no block was free, no call of a block failed
      quiet : (printed : Result ⊤ Failed) (ended : Result ⊤ QueueFault) → SessionRan old new printed ended → IfErr (session_end printed ended) (StopsQuiet queue.slots new.slots)
      quiet (Ok v) (Ok w) run = tt
      quiet (Ok v) (Err NoFreeBlock) run = run.left.quiet ∙ (run.lines.session queue limit run.begun).keeps.quiet run.left.no_fault.0
      quiet (Ok v) (Err (Device number)) run = tt
      quiet (Err failed) ended run = tt

      -- what its end keeps
      pub ended-kept : (printed : Result ⊤ Failed) (ended : Result ⊤ QueueFault) → SessionRan old new printed ended → Keeps (begun_in queue) new
      ended-kept (Ok v) ended run = (lines-ran v ended run).over.kept
      ended-kept (Err failed) ended run = (broken-over failed ended run).kept

      -- the lines of which its passes were given the records, and that the queue counts no more of it
      abbrev pub ended-given : (printed : Result ⊤ Failed) (ended : Result ⊤ QueueFault) → SessionRan old new printed ended → List (Command R)
      ended-given (Ok v) ended run = run.lines.lines
      ended-given (Err failed) ended run = run.broken.lines

      pub ended-few : (printed : Result ⊤ Failed) (ended : Result ⊤ QueueFault) (run : SessionRan old new printed ended) → length (pushed_in (ended-given printed ended run)) ≤ length (pushed_in body)
      ended-few (Ok v) ended run = pushed-first run.lines.lines run.lines.rest body run.lines.all
      ended-few (Err failed) ended run = pushed-first run.broken.lines run.broken.rest body run.broken.all

      ended-counted : (printed : Result ⊤ Failed) (ended : Result ⊤ QueueFault) (run : SessionRan old new printed ended) → CountsFew (length (pushed_in (ended-given printed ended run))) 1 queue new ended
      ended-counted (Ok v) ended run = (lines-ran v ended run).over.counted
      ended-counted (Err failed) ended run = (broken-over failed ended run).counted

      module _ (printed : Result ⊤ Failed) (ended : Result ⊤ QueueFault) (s : Result ⊤ Stop) (e : s ≡ session_end printed ended) (run : SessionRan old new printed ended) where
        pub ended-runs : OnOk s ((script : Reading R) (told : Option (List ℕ → Option (List ℕ))) → RunsPart w form told script queue new before now had has part)
        ended-runs = let P : Result ⊤ Stop → Type 0 = λ x. OnOk x ((script : Reading R) (told : Option (List ℕ → Option (List ℕ))) → RunsPart w form told script queue new before now had has part) in subst P (sym e) (ran printed ended run)

        pub ended-stopped : IfErr s Stops
        ended-stopped = let P : Result ⊤ Stop → Type 0 = λ x. IfErr x Stops in subst P (sym e) (stopped printed ended run)

        pub ended-quiet : IfErr s (StopsQuiet queue.slots new.slots)
        ended-quiet = let P : Result ⊤ Stop → Type 0 = λ x. IfErr x (StopsQuiet queue.slots new.slots) in subst P (sym e) (quiet printed ended run)

        pub ended-counts_few : CountsFew (length (pushed_in (ended-given printed ended run))) 1 queue new s
        ended-counts_few =
            let n = length (pushed_in (ended-given printed ended run)) in
            subst (CountsFew n 1 queue new) (sym e) (few-to queue new ended (session_end printed ended) (end-on printed ended) (ended-counted printed ended run))

-- a session did not begin
pub begin-stopped :
    {R : Type 0} (w : Words R) (form : Form) (told : Option (List ℕ)) (had : List ℕ) (queue : Holding R) (slots : List Shown) (limit : R) (body : List (Command R)) (stop : Stop) → 0 < queue.sizes.block → StopsFor queue.peak queue.sizes true slots stop → IsBySession stop
    → PartStops w form queue.slots told told had queue.bag queue.size queue.peak (limit_part limit body) queue.sizes true slots had stop
begin-stopped w form told had queue slots limit body Sink some cause by = absurd by
begin-stopped w form told had queue slots limit body (Queue fault) some cause by = record {
  done = 0;
  within = omega arith;
  cut = λ tells given. record { text = []; rest = output_from w form given (outside queue.bag) (limit_part limit body); all = refl; gathers = gathers-nothing told had };
  cause = cause-later queue.sizes true true queue.peak (max queue.peak queue.size) some (λ same. same) (omega arith) slots fault cause;
}
begin-stopped w form told had queue slots limit body _ some cause by = λ tells. gathers-nothing told had

-- that it was neither a file nor the library, and what the sink counts
ended_counts : (was is : ℕ) (printed : Result ⊤ Failed) (ended : Result ⊤ QueueFault) → HasOneCause was is printed → SinkCounts was is (session_end printed ended)
ended_counts was is (Ok v) (Ok w) cause = record { later = cause.later; stays = cause.ok; cause = tt }
ended_counts was is (Ok v) (Err fault) cause = record { later = cause.later; stays = tt; cause = cause.ok }
ended_counts was is (Err failed) ended cause = record { later = cause.later; stays = tt; cause = cause.failed }

ended_by : (printed : Result ⊤ Failed) (ended : Result ⊤ QueueFault) → IfErr (session_end printed ended) IsByLimit
ended_by (Ok v) (Ok w) = tt
ended_by (Ok v) (Err fault) = tt
ended_by (Err failed) ended = tt

module _ (printed : Result ⊤ Failed) (ended : Result ⊤ QueueFault) (s : Result ⊤ Stop) (e : s ≡ session_end printed ended) where
  pub ended-by_limit : IfErr s IsByLimit
  ended-by_limit = let P : Result ⊤ Stop → Type 0 = λ x. IfErr x IsByLimit in subst P (sym e) (ended_by printed ended)

  pub ended-counts : (was is : ℕ) → HasOneCause was is printed → SinkCounts was is s
  ended-counts was is cause = subst (SinkCounts was is) (sym e) (ended_counts was is printed ended cause)
