-- What one command says, as what it says of the commands that run together.
use Rattle.std.proofs.Common.{◌≡◌, ℕ, Bool, true, List, [], ◌∷◌, ◌+◌, ◌<◌, ◌≤◌, Option, length, max, refl, sym, ◌∙◌, subst, arith, append-nil}
use Rattle.std.specs.Prelude.{Result, Ok, Err, IfErr, OnOk, ⊤}
use Rattle.std.proofs.Math.Bool.{or-true}
use Rattle.std.proofs.lemmas.Result.{IfErr-weaker}
use Rattle.ppq_script.specs.Words.{Words}
use Rattle.ppq_engine.proofs.Orders.{HasLaws}
use Rattle.ppq_script.specs.declared.form.Form.{Form}
use Rattle.ppq_script.specs.ppq_record.Bag.{IsSameBag}
use Rattle.ppq_script.specs.ppq_outside.Shown.{Shown, AllTell}
use Rattle.ppq_script.specs.ppq_outside.Told.{Reply}
use Rattle.ppq_script.proofs.ppq_outside.Replies.{no_replies}
use Rattle.ppq_script.specs.declared.command.Command.{Command}
use Rattle.ppq_script.specs.declared.command.Command.TheVariants.{BulkBegin, LimitBegin}
use Rattle.ppq_script.specs.declared.session.Session.TheVariants.{Outside, InBulk}
use Rattle.ppq_script.specs.Parts.{IsLine, AreLines, bulk_part, limit_part}
use Rattle.ppq_script.specs.Reading.{Reading}
use Rattle.ppq_load.specs.ppq_queue.Holding.{Holding, CountsFew}
use Rattle.ppq_load.specs.ppq_array.Kept.{SameSlots}
use Rattle.ppq_load.specs.ppq_array.declared.store_fault.StoreFault.{StoreFault as QueueFault}
use Rattle.ppq_load.specs.ppq_array.declared.store_fault.StoreFault.TheVariants.{NoFreeBlock, Device}
use Rattle.ppq_load.specs.Loading.{SessionHolding, InSession, IsLoaded, IsLeftBy}
use Rattle.ppq_load.specs.Refusal.{Keeps}
use Rattle.ppq_load.proofs.Counting.{few-to}
use Rattle.ppq_load.proofs.Refusals.{cause-later}
use Rattle.ppq_engine.specs.Calls.{Adds, Prints, SinkCounts, LibraryCounts, RunsStep, StopsStep, RunsPart, StopsPart, Goes, GoesAlone}
use Rattle.ppq_engine.specs.Files.{IsByFile, IsBySession, IsReadInScript}
use Rattle.ppq_engine.specs.Gathers.{Gathers}
use Rattle.ppq_engine.specs.Limits.{session_end}
use Rattle.ppq_engine.specs.Loads.{none_go, all_go, size_after}
use Rattle.ppq_engine.specs.Output.{outside, text_of, after, given_of, AreFilesOf}
use Rattle.ppq_engine.specs.Pushes.{pushed_in}
use Rattle.ppq_engine.specs.Popping.{IsByLimit}
use Rattle.ppq_engine.specs.Running.{WroteInPart, PartStops, StopsFor, QuietIfFull, StopsQuiet, SinkAfter, LibraryAfter, ChangedIn}
use Rattle.ppq_engine.specs.Work.{pushes_of, begins_of}
use Rattle.ppq_engine.specs.declared.stop.Stop.{Stop}
use Rattle.ppq_engine.specs.declared.stop.Stop.TheVariants.{Queue}
use Rattle.ppq_engine.proofs.Advancing.{Keeps-none, lone-stops, bulk-stops}
use Rattle.ppq_engine.proofs.Counted.{few-ok, lone-counts, bulk-counts, limit-counts}
use Rattle.ppq_engine.proofs.Lines.{lone-begins, bulk-begins, bulk-part_size, bulk-bag, bulk-silent}
use Rattle.ppq_engine.proofs.Popped.{file-part, gathers-nothing}
use Rattle.ppq_engine.proofs.Results.{on-ok, on-ok-map, on-ok-both, if-err-both}
use Rattle.ppq_engine.proofs.Stops.{file_unput, limit_unasked, limit_of_file, limit_not_changed, session-by_limit}

-- one command that runs together with no other
module _ {R : Type 0} (w : Words R)
    (form : Form) (told : Option (List ℕ → Option (List ℕ))) (script : Reading R) (workers : ℕ) (c : Command R) (is : IsLine w workers Outside c) (old new : Holding R) (before now : Option (List ℕ)) (had has : List ℕ) (r : Result ⊤ Stop)
    (prints : Prints old.slots before now had (text_of w form (outside old.bag) c) has r)
  where
    pub turn-goes :
        Keeps old new → CountsFew (pushes_of w c) (begins_of c) old new r → OnOk r (RunsStep w told script old new c) → IfErr r (StopsStep w old new c)
        → IfErr r (StopsQuiet old.slots new.slots) → Goes w form told script c (c ∷ []) before now old new had has r
    turn-goes kept counts runs stops quiet =
        let text = text_of w form (outside old.bag) c in
        let Text : Type 0 = AllTell old.slots → Gathers before now had text has in
        let Wrote : Stop → Type 0 = λ stop. AllTell old.slots → WroteInPart before now had text has stop in
        record {
          runs =
              on-ok-map r (RunsStep w told script old new c × Text) (RunsPart w form told script old new before now had has (c ∷ []))
              (λ both. let ran = both.0 in record {
                text = λ tells given. let P : List ℕ → Type 0 = λ t. Gathers before now had t has in subst P (sym (append-nil text)) (both.1 tells);
                bag = ran.bag;
                low = ran.low;
                high = ran.high;
                sound = ran.sound;
                quiet = ran.quiet;
                peak = ran.peak;
                kept = Keeps-none old new (c ∷ []) (lone-begins w workers c is) kept;
              }) (on-ok-both r (RunsStep w told script old new c) Text runs prints.text);
          stopped =
              IfErr-weaker r (λ stop. StopsStep w old new c stop × Wrote stop) (StopsPart w form old new before now had has c (c ∷ []))
              (λ stop both. record {
                wrote = lone-stops w form old.slots before now had has old.bag old.size old.peak old.sizes old.limited new.slots workers c is stop both.1 both.0.refused;
                of_file = both.0.of_file;
              }) (if-err-both r (StopsStep w old new c) Wrote stops prints.part);
          quiet = quiet;
          slots = kept.slots;
          sizes = kept.sizes;
          counted = lone-counts w old new r c counts;
        }

-- where a session ended without a free block, no call of a block failed since it began
pub session-quiet :
    {S R T : Type 0} (shown : S → Shown) (queue : Holding R) (records : List R) (load : SessionHolding S R) (new : Holding R) (over : Result T QueueFault)
    → InSession shown queue records load → IfErr over (IsLeftBy shown load new) → IfErr over (QuietIfFull queue.slots new.slots)
session-quiet shown queue records load new (Ok v) session left = tt
session-quiet shown queue records load new (Err NoFreeBlock) session left = left.quiet ∙ session.keeps.quiet refl
session-quiet shown queue records load new (Err (Device number)) session left = tt

-- a bulk session
module _ {R : Type 0} (w : Words R) (laws : HasLaws w) (workers : ℕ) (body : List (Command R)) (are : AreLines w workers InBulk body) (old new : Holding R) (had : List ℕ) where
  -- it ran to its end
  bulk-ran : (v : ⊤) → IsLoaded old (pushed_in body) new (Ok v) → GoesAlone w BulkBegin (bulk_part body) old new had had (Ok v)
  bulk-ran v loaded =
      let least = bulk-part_size w all_go workers old.size body are in
      let most = bulk-part_size w none_go workers old.size body are in
      record {
        goes = λ form files script put. record {
          runs = record {
            text = λ tells given. let P : List ℕ → Type 0 = λ t. Gathers put put had t had in subst P (sym (bulk-silent w laws given form workers old.bag body are)) (gathers-nothing put had);
            bag = λ tells files known p. loaded.bag tells p ∙ sym (bulk-bag w laws (given_of w files script) workers old.bag body are p);
            low = omega (arith, loaded.size, least);
            high = omega (arith, loaded.size, most);
            sound = loaded.sound;
            quiet = loaded.quiet;
            peak = omega (arith, loaded.peak, most);
            kept = Keeps-none old new (bulk_part body) (bulk-begins w workers body are) loaded.kept;
          };
          stopped = tt;
          quiet = tt;
          slots = loaded.kept.slots;
          sizes = loaded.kept.sizes;
          counted = bulk-counts w old new (Ok v) (length (pushed_in body)) body (omega arith) (few-ok old new loaded.counted);
        };
        by_session = tt;
      }

  -- it did not, or did not begin
  pub bulk-stopped :
      {T E : Type 0} {q : Result T E} (stop : Stop) → IsBySession stop → StopsFor (max old.peak (old.size + length (pushed_in body))) old.sizes old.limited new.slots stop → StopsQuiet old.slots new.slots stop → Keeps old new
      → (n : ℕ) → n ≤ length (pushed_in body) → CountsFew n 1 old new q → GoesAlone w BulkBegin (bulk_part body) old new had had (Err stop)
  bulk-stopped {q = q} stop by why quiet kept n few counts = record {
    goes = λ form files script put. record {
      runs = tt;
      stopped = record { wrote = bulk-stops w laws form old.slots put had old.bag old.size old.peak old.sizes old.limited new.slots workers body are stop by why; of_file = limit_of_file BulkBegin stop tt (session-by_limit stop by) };
      quiet = quiet;
      slots = kept.slots;
      sizes = kept.sizes;
      counted = bulk-counts w old new (Err stop) n body few (few-to old new q (Err stop) (λ A holds. tt) counts);
    };
    by_session = by;
  }

  -- what its end answered: where no pass has stopped, all its records were given
  pub bulk-ended :
      (printed : ⊤) (over : Result ⊤ QueueFault) (s : Result ⊤ Stop) → s ≡ session_end (Ok printed) over → OnOk over (IsLoaded old (pushed_in body) new over)
      → (given : List R) → length given ≤ length (pushed_in body) → 0 < old.sizes.block → IsLoaded old given new over → IfErr over (QuietIfFull old.slots new.slots) → GoesAlone w BulkBegin (bulk_part body) old new had had s
  bulk-ended printed (Ok v) s e all given fewer block loaded quiet = subst (GoesAlone w BulkBegin (bulk_part body) old new had had) (sym e) (bulk-ran v all)
  bulk-ended printed (Err fault) s e all given fewer block loaded quiet =
      let few = max old.peak (old.size + length given) in
      let most = max old.peak (old.size + length (pushed_in body)) in
      subst (GoesAlone w BulkBegin (bulk_part body) old new had had) (sym e)
      (bulk-stopped (Queue fault) tt (cause-later old.sizes old.limited old.limited few most block (λ same. same) (omega (arith, fewer)) new.slots fault loaded.refused) quiet loaded.kept (length given) fewer loaded.counted)

-- a limit session
pub limit-goes :
    {R : Type 0} (w : Words R) (form : Form) (limit : R) (body : List (Command R)) (old new : Holding R) (before now : Option (List ℕ)) (had has : List ℕ) (s : Result ⊤ Stop)
    → OnOk s ((script : Reading R) (files : Option (List ℕ → Option (List ℕ))) → RunsPart w form files script old new before now had has (limit_part limit body)) → IfErr s IsByLimit
    → IfErr s (PartStops w form old.slots before now had old.bag old.size old.peak (limit_part limit body) old.sizes true new.slots has) → IfErr s (StopsQuiet old.slots new.slots) → SameSlots old.slots new.slots → new.sizes ≡ old.sizes
    → (n : ℕ) → n ≤ length (pushed_in body) → CountsFew n 1 old new s → (files : Option (List ℕ → Option (List ℕ))) (script : Reading R) → Goes w form files script (LimitBegin limit) (limit_part limit body) before now old new had has s
limit-goes {R} w form limit body old new before now had has s runs by stops quiet slots sizes n few counts files script =
    let part = limit_part limit body in
    let Wrote : Bool → Stop → Type 0 = λ l stop. PartStops w form old.slots before now had old.bag old.size old.peak part old.sizes l new.slots has stop in
    record {
      runs = on-ok-map s ((script : Reading R) (told : Option (List ℕ → Option (List ℕ))) → RunsPart w form told script old new before now had has part) (RunsPart w form files script old new before now had has part) (λ all. all script files) runs;
      stopped =
          IfErr-weaker s (λ stop. IsByLimit stop × Wrote true stop) (StopsPart w form old new before now had has (LimitBegin limit) part)
          (λ stop why. record { wrote = let P : Bool → Type 0 = λ l. Wrote l stop in subst P (sym (or-true old.limited)) why.1; of_file = limit_of_file (LimitBegin limit) stop tt why.0 })
          (if-err-both s IsByLimit (Wrote true) by stops);
      quiet = quiet;
      slots = slots;
      sizes = sizes;
      counted = limit-counts w old new s n limit body few counts;
    }

-- a command that adds records and prints nothing
module _ {R : Type 0} (w : Words R) {told : Option (List ℕ → Option (List ℕ))} {script : Reading R} {old new : Holding R} {more : ℕ} (k : Command R) (size : (leaves : ℕ → ℕ → ℕ) → size_after w leaves old.size k ≡ old.size + more) where
  pub adds-runs :
      (AllTell old.slots → (files : List ℕ → Option (List ℕ)) → AreFilesOf told script files → IsSameBag new.bag (after w (given_of w files script) (outside old.bag) k).bag) → Adds old new more → RunsStep w told script old new k
  adds-runs bag adds = record { bag = bag; low = omega (arith, adds.size, size all_go); high = omega (arith, adds.size, size none_go); sound = adds.sound; quiet = adds.quiet; peak = omega (arith, adds.peak, size none_go) }

pub adds-prints : (first : List Shown) (told : Option (List ℕ)) (had text : List ℕ) (r : Result ⊤ Stop) → text ≡ [] → IfErr r IsByFile → Prints first told told had text had r
adds-prints first told had text r none by =
    let P : List ℕ → Type 0 = λ t. Gathers told told had t had in
    record {
      text = on-ok r (AllTell first → Gathers told told had text had) (λ tells. subst P (sym none) (gathers-nothing told had));
      part = IfErr-weaker r IsByFile (λ stop. AllTell first → WroteInPart told told had text had stop) (λ stop file tells. file-part told had text stop file) by;
    }

pub adds-sink : {T : Type 0} (count : ℕ) (r : Result T Stop) → IfErr r IsByFile → SinkCounts count count r
adds-sink count r by = record { later = omega arith; stays = on-ok r (count ≡ count) refl; cause = IfErr-weaker r IsByFile (SinkAfter count count) (file_unput count) by }

-- a command that asks the library for nothing
pub library-unasked : {R : Type 0} {T : Type 0} (told : Option (List ℕ → Option (List ℕ))) (replied : Reply → Type 0) (script : Reading R) (count : ℕ) (r : Result T Stop) → IfErr r IsByLimit → LibraryCounts told told replied replied script count count r
library-unasked told replied script count r by = record {
  told = refl;
  remembers = λ reply had. had;
  asks = no_replies replied (IsReadInScript script);
  later = omega arith;
  stays = on-ok r (count ≡ count) refl;
  cause = IfErr-weaker r IsByLimit (LibraryAfter count count) (limit_unasked count) by;
  changed = IfErr-weaker r IsByLimit (ChangedIn told replied script) (limit_not_changed told replied script) by;
}
