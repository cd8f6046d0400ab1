-- How the end of a run follows from those of its parts: of loading the script, and of running it over a device.
use Rattle.std.proofs.Common.{◌≡◌, ℕ, ◌<◌, ◌≤◌, List, [], length, Option, Some, None, refl, sym, ap, ◌∙◌, subst, arith, inl, inr}
use Rattle.std.specs.Prelude.{◌⊎◌, Bool, true, false, if◌then◌else◌, nat_lt, IfSome, MatchOption, map}
use Rattle.std.proofs.lemmas.List.Elements.{All-nil}
use Rattle.std.proofs.lemmas.List.Sorted.{IsPermutation-refl}
use Rattle.std.proofs.lemmas.Bool.{ltb-true, ltb-false, le-ltb}
use Rattle.ppq_files.specs.Whole.{WholeFaultAfter}
use Rattle.ppq_files.specs.declared.whole.WholeFault.{WholeFault}
use Rattle.ppq_files.specs.declared.whole.WholeFault.TheVariants as whole
use Rattle.ppq_words.specs.ppq_outside.Shown.{Shown, AllTell}
use Rattle.ppq_words.specs.ppq_outside.Told.{Reply, Rose, bytes_or_none}
use Rattle.ppq_words.specs.ppq_budget.Sizes.{Numbers, fixed_of}
use Rattle.ppq_words.specs.ppq_script.Words.{Words}
use Rattle.ppq_words.specs.ppq_script.declared.numbered.Numbered.{Numbered}
use Rattle.ppq_words.specs.ppq_script.declared.check.CheckFault.{CheckFault}
use Rattle.ppq_words.specs.ppq_script.declared.check.CheckFault.TheVariants as check
use Rattle.ppq_words.specs.ppq_script.Files.{name_at}
use Rattle.ppq_words.specs.ppq_script.Lines.{names_of, numbered_of}
use Rattle.ppq_words.specs.ppq_script.Checking.{with_sizes}
use Rattle.ppq_words.specs.ppq_script.declared.form.Form.{Form}
use Rattle.ppq_words.specs.ppq_script.Reading.{Reading, command_list}
use Rattle.ppq_words.specs.Reading.{Reading as Arguments, sizes_at}
use Rattle.ppq_jobs.specs.ppq_engine.ppq_load.Given.{records_of}
use Rattle.ppq_jobs.specs.ppq_engine.Loads.{begins_limit}
use Rattle.ppq_jobs.specs.ppq_engine.Refusal.{HasRoom, HasNoRoom}
use Rattle.ppq_jobs.specs.ppq_engine.Output.{AreFilesOf, KeepsLengths, given_of}
use Rattle.ppq_jobs.specs.ppq_engine.Running.{HasChanged}
use Rattle.ppq_jobs.specs.ppq_engine.Outcome.{TakesBeforeFile, TakesBeforeLoad, FaultBeforeFile}
use Rattle.ppq_jobs.specs.ppq_engine.Ends.{Class, Refused, HasBegun, IsRefusal, class_of, budget_refusal, BeganCommands, BeganOrRefused, NoFault}
use Rattle.ppq_jobs.specs.ppq_engine.declared.end.End.{End}
use Rattle.ppq_jobs.specs.ppq_engine.declared.end.End.TheVariants.{Done, BadLine, ReadFault, WriteFault, DeviceFault, NoFreeBlock, BudgetTooSmall, Memory, FileChanged, NoDevice, NoScript, ScriptTooLong, BadEdge}
use Rattle.ppq_jobs.proofs.ppq_engine.Lengths.{keeps_lengths}
use Rattle.ppq_cli.specs.declared.plan.Plan.{Plan}
use Rattle.ppq_cli.specs.Budget.{plan_for, refusal_by}
use Rattle.ppq_cli.specs.Load.{load_end, check_end, script_kinds}
use Rattle.ppq_cli.specs.RunWords.{refusal_of_budget, refusal_of_bad, refusal_of_bytes, refusal_of_file, script_commands, script_given, IsTried, IsGivenUp, IsAnswer, IsTriedOrRefusal, About, Measure, OfBytes, OfFile, IsTooLarge, EndsWell}
use Rattle.ppq_cli.specs.Outside.{MayWrite}
use Rattle.ppq_cli.specs.RunOver.{RunWrites}
use Rattle.ppq_cli.specs.Device.{IsSurelyRun, HasAllBlocks, DeviceShape, IsBlock, AreBlocks}
use Rattle.ppq_cli.specs.Replies.{Files, IsScript, IsRefused, OfGood, RefusalOf, RunOf, WroteNothing, HasRunToFile, HasRunToLoad, FaultToFile}
use Rattle.ppq_cli.specs.Types.{typed, type_of}

-- the three ways of a script that was read, for a budget with this fixed part: it is too small, the script was tried, or memory was wanting
abbrev pub Ways : ℕ → ℕ → ℕ → End → Type 0
Ways memory fixed need end = ((memory < fixed) × (end ≡ BudgetTooSmall need)) ⊎ (((fixed ≤ memory) × IsTried end) ⊎ (end ≡ Memory))

ways_by : (small : Bool) (memory fixed need : ℕ) (end : End) → (small ≡ true → memory < fixed) → (small ≡ false → fixed ≤ memory)
    → MatchOption (if small then Some (BudgetTooSmall need) else None) (IsTried end) (λ e. end ≡ e) ⊎ (end ≡ Memory) → Ways memory fixed need end
ways_by true memory fixed need end below enough (inl is) = inl (below refl, is)
ways_by true memory fixed need end below enough (inr memory_is) = inr (inr memory_is)
ways_by false memory fixed need end below enough (inl tried) = inr (inl (enough refl, tried))
ways_by false memory fixed need end below enough (inr memory_is) = inr (inr memory_is)

-- a class of ends with which the commands were begun is none of refusals
pub begun_unrefused : (class : Class) → HasBegun class → IsRefusal class → ⊥
begun_unrefused Refused began refused = began
begun_unrefused class began refused = refused

-- a script that was run has a budget that is large enough
reaches : (memory fixed need : ℕ) (end : End) → BeganCommands end → Ways memory fixed need end → fixed ≤ memory
reaches memory fixed need end run (inl (h, is)) = absurd (subst BeganCommands is run)
reaches memory fixed need end run (inr (inl (h, tried))) = h
reaches memory fixed need end run (inr (inr is)) = absurd (subst BeganCommands is run)

-- the same by what the end says of the budget of a plan
module _ (plan : Plan) where
  pub ways : (end : End) → IsTriedOrRefusal (refusal_by plan) end → Ways plan.sizes.memory (fixed_of plan.sizes) plan.need end
  ways end answer =
      let memory = plan.sizes.memory in
      let fixed = fixed_of plan.sizes in
      ways_by (nat_lt memory fixed) memory fixed plan.need end (ltb-true memory fixed) (ltb-false memory fixed) answer

  pub enough : (end : End) → BeganCommands end → IsTriedOrRefusal (refusal_by plan) end → fixed_of plan.sizes ≤ plan.sizes.memory
  enough end run answer = reaches plan.sizes.memory (fixed_of plan.sizes) plan.need end run (ways end answer)

-- where nothing was begun, and memory was not wanting, the sink took nothing
unwritten : (X : Type 0) (end : End) → (BeganCommands end → ⊥) → (end ≡ Memory → ⊥) → MayWrite end ⊎ X → X
unwritten X end began memory (inl (inl run)) = absurd (began run)
unwritten X end began memory (inl (inr is)) = absurd (memory is)
unwritten X end began memory (inr same) = same

idle : (before now : Option (List ℕ)) (end : End) → (IsSurelyRun end → ⊥) → (BeganCommands end → ⊥) → (end ≡ Memory → ⊥) → MayWrite end ⊎ (now ≡ before) → WroteNothing before now end
idle before now end maybe began memory nothing = record { maybe = maybe; same = unwritten (now ≡ before) end began memory nothing }

module _ {R : Type 0} (words : Words R) (told : Option Files) (replied : Reply → Type 0) (r : Arguments) (bytes : List ℕ) where
  run_refuses : (end : End) → BeganCommands end → ((line said got : ℕ) → end ≡ FileChanged line said got → RefusalOf words told replied r bytes (FileChanged line said got)) → RefusalOf words told replied r bytes end
  run_refuses (BadLine line) run changed = absurd run
  run_refuses (BudgetTooSmall need) run changed = absurd run
  run_refuses (FileChanged line said got) run changed = changed line said got refl
  run_refuses NoDevice run changed = absurd run
  run_refuses (BadEdge at) run changed = absurd run
  run_refuses end run changed = begun_unrefused (class_of end) run

  -- a script that was read is refused for its budget, its device, or a file that had changed
  pub loaded_refusal :
      (script : Reading R) (end : End) → IsScript words told replied bytes r.given.numbers.workers script → IsTriedOrRefusal (refusal_of_budget words r) end
      → ((line said got : ℕ) → end ≡ FileChanged line said got → HasChanged told replied script line said got) → RefusalOf words told replied r bytes end
  loaded_refusal script end is answer changed =
      let good : OfGood words told replied r bytes (λ script. Unit {0}) = (script, (is, tt)) in
      let P : End → Type 0 = λ e. RefusalOf words told replied r bytes e in
      elim (ways (plan_for words.WIDTH r.given) end answer) as (λ _. RefusalOf words told replied r bytes end) [
        | inl (h, e) ↦ subst P (sym e) ((h, refl), good)
        | inr (inl (h, inl run)) ↦ run_refuses end run (λ line said got e. (h, (script, (is, changed line said got e))))
        | inr (inl (h, inr e)) ↦ subst P (sym e) (h, good)
        | inr (inr e) ↦ subst P (sym e) (λ refused. refused)
      ]

  -- how a script that was read was run
  pub loaded_run :
      (tells : Type 0) (script : Reading R) (before now : Option (List ℕ)) (blocks : List Shown) (end : End)
      → IsScript words told replied bytes r.given.numbers.workers script → IsTriedOrRefusal (refusal_of_budget words r) end → RunWrites words tells told before now r script blocks end
      → WroteNothing before now end ⊎ RunOf words tells told replied r bytes before now blocks end
  loaded_run tells script before now blocks Done is answer w = inr (enough (plan_for words.WIDTH r.given) Done tt answer, (script, (is, w.done refl)))
  loaded_run tells script before now blocks ReadFault is answer w = inr (enough (plan_for words.WIDTH r.given) ReadFault tt answer, (script, (is, w.file)))
  loaded_run tells script before now blocks WriteFault is answer w = inr (enough (plan_for words.WIDTH r.given) WriteFault tt answer, (script, (is, w.part)))
  loaded_run tells script before now blocks (DeviceFault number) is answer w = inr (enough (plan_for words.WIDTH r.given) (DeviceFault number) tt answer, (script, (is, w.part)))
  loaded_run tells script before now blocks NoFreeBlock is answer w = inr (enough (plan_for words.WIDTH r.given) NoFreeBlock tt answer, (script, (is, w.full refl)))
  loaded_run tells script before now blocks Memory is answer w =
      elim (w.memory refl) as (λ _. WroteNothing before now Memory ⊎ OfGood words told replied r bytes (HasRunToLoad words r.form tells told before now)) [
        | inl same ↦ inl (record { maybe = λ run. run; same = same })
        | inr ran ↦ inr (script, (is, ran))
      ]
  loaded_run tells script before now blocks (FileChanged line said got) is answer w = inr (enough (plan_for words.WIDTH r.given) (FileChanged line said got) tt answer, (script, (is, w.file)))
  loaded_run tells script before now blocks end is answer w = inl (idle before now end (λ run. run) (λ run. run) (λ e. cc) w.nothing)

-- the answer for a script that was read
pub loaded_answer :
    {R : Type 0} (words : Words R) (told : Option Files) (replied : Reply → Type 0) (r : Arguments) (bytes : List ℕ) (script : Reading R) (end : End)
    → IsScript words told replied bytes r.given.numbers.workers script → IsTriedOrRefusal (refusal_of_budget words r) end → IfSome told (λ files. IsAnswer (refusal_of_bytes words files bytes r) end)
loaded_answer words None replied r bytes script end is answer = tt
loaded_answer words (Some files) replied r bytes script end is answer =
    let same : refusal_of_bytes words files bytes r ≡ refusal_of_budget words r = ap (λ (b : Option ℕ). refusal_of_bad words b r) is.usable in
    let P : Option End → Type 0 = λ e. IsAnswer e end in
    subst P (sym same) (elim answer as (λ _. IsAnswer (refusal_of_budget words r) end) [ inl is ↦ inl is | inr memory ↦ inr (inl memory) ])

-- and for one that was refused
pub refused_answer :
    {R : Type 0} (words : Words R) (told : Option Files) (replied : Reply → Type 0) (r : Arguments) (bytes : List ℕ) (fault : CheckFault)
    → IsRefused words told replied bytes r.given.numbers.workers fault → IfSome told (λ files. IsAnswer (refusal_of_bytes words files bytes r) (check_end fault))
refused_answer words None replied r bytes fault refused = tt
refused_answer words (Some files) replied r bytes (check.BadLine line) refused =
    let P : Option ℕ → Type 0 = λ b. IsAnswer (refusal_of_bad words b r) (BadLine line) in
    subst P (sym refused.files) (inl refl)
refused_answer words (Some files) replied r bytes check.ReadFault refused = inr (inr refl)
refused_answer words (Some files) replied r bytes check.Memory refused = inr (inl refl)

pub refused_refusal :
    {R : Type 0} (words : Words R) (told : Option Files) (replied : Reply → Type 0) (r : Arguments) (bytes : List ℕ) (fault : CheckFault)
    → IsRefused words told replied bytes r.given.numbers.workers fault → RefusalOf words told replied r bytes (check_end fault)
refused_refusal words told replied r bytes (check.BadLine line) refused = refused.replies
refused_refusal words told replied r bytes check.ReadFault refused = λ other. other
refused_refusal words told replied r bytes check.Memory refused = λ other. other

-- the output of the commands before one that reads a file, where blocks tell
to_file : {R : Type 0} (words : Words R) (form : Form) (tells : Type 0) (told : Option Files) (script : Reading R) (first : List Shown) (before now : Option (List ℕ)) → (tells → AllTell first)
    → TakesBeforeFile words form told script first before now → HasRunToFile words form tells told before now script
to_file words form tells told script first before now blocks ran = record { done = ran.done; file = ran.file; size = ran.size; here = ran.here; took = λ t files are. ran.took (blocks t) files are }

-- or before one that begins a session
pub ran_to_load : {R : Type 0} (words : Words R) (form : Form) (tells : Type 0) (told : Option Files) (script : Reading R) (first : List Shown) (before now : Option (List ℕ)) → (tells → AllTell first)
    → (now ≡ before) ⊎ TakesBeforeLoad words form told script first before now → (now ≡ before) ⊎ HasRunToLoad words form tells told before now script
ran_to_load words form tells told script first before now blocks (inl same) = inl same
ran_to_load words form tells told script first before now blocks (inr ran) = inr (record { done = ran.done; command = ran.command; here = ran.here; loads = ran.loads; took = λ t files are. ran.took (blocks t) files are })

-- where a file could not be read, or had changed, by the end of a run
pub fault_to_file : {R : Type 0} (words : Words R) (form : Form) (tells : Type 0) (told : Option Files) (script : Reading R) (first : List Shown) (before now : Option (List ℕ)) (end : End) → (tells → AllTell first)
    → FaultBeforeFile words form told script first before now end → FaultToFile words form tells told before now script end
fault_to_file words form tells told script first before now ReadFault blocks ran = to_file words form tells told script first before now blocks ran
fault_to_file words form tells told script first before now (FileChanged line said got) blocks ran = to_file words form tells told script first before now blocks ran
fault_to_file words form tells told script first before now end blocks ran = tt

nothing_by : (X : Type 0) (small : Bool) (need : ℕ) (end : End) → MatchOption (if small then Some (BudgetTooSmall need) else None) (BeganCommands end) (λ e. end ≡ e) ⊎ (end ≡ Memory) → ((n : ℕ) → end ≡ BudgetTooSmall n → X) → MayWrite end ⊎ X
nothing_by X true need end (inl is) nothing = inr (nothing need is)
nothing_by X true need end (inr memory) nothing = inl (inr memory)
nothing_by X false need end (inl run) nothing = inl (inl run)
nothing_by X false need end (inr memory) nothing = inl (inr memory)

-- where the budget is too small, nothing was written
pub may_write : (X : Type 0) (sizes : Numbers) (end : End) → BeganOrRefused (budget_refusal sizes) end → ((n : ℕ) → end ≡ BudgetTooSmall n → X) → MayWrite end ⊎ X
may_write X sizes end answer nothing = nothing_by X (nat_lt sizes.memory (fixed_of sizes)) (fixed_of sizes) end answer nothing

-- all blocks were made where a script was surely run
pub surely_all : (end : End) → IsSurelyRun end → HasAllBlocks end
surely_all (BadEdge at) run = absurd run
surely_all end run = run

-- a script that was not read was not run
pub unread_not_run : (fault : CheckFault) → HasAllBlocks (check_end fault) → ⊥
unread_not_run (check.BadLine line) run = run
unread_not_run check.ReadFault run = run
unread_not_run check.Memory run = run

-- the library's count rose where a script was not loaded since a read failed, and else stayed
pub unloaded_rose : (before now : ℕ) (fault : WholeFault) (end : End) → end ≡ load_end fault → WholeFaultAfter before now fault → end ≡ ReadFault → Rose before now
unloaded_rose before now whole.Failed end is counts read = counts
unloaded_rose before now whole.Memory end is counts read = let other : Memory ≡ ReadFault = sym is ∙ read in cc
unloaded_rose before now whole.Absent end is counts read = let other : NoScript ≡ ReadFault = sym is ∙ read in cc
unloaded_rose before now whole.TooLong end is counts read = let other : ScriptTooLong ≡ ReadFault = sym is ∙ read in cc
unloaded_rose before now (whole.Ended said got) end is counts read = let other : FileChanged 0 said got ≡ ReadFault = sym is ∙ read in cc

pub unloaded_stays : (before now : ℕ) (fault : WholeFault) (end : End) → end ≡ load_end fault → WholeFaultAfter before now fault → ¬ (end ≡ ReadFault) → now ≡ before
unloaded_stays before now whole.Failed end is counts read = absurd (read is)
unloaded_stays before now whole.Memory end is counts read = counts
unloaded_stays before now whole.Absent end is counts read = counts
unloaded_stays before now whole.TooLong end is counts read = counts
unloaded_stays before now (whole.Ended said got) end is counts read = counts

-- a script that was not run has no blocks
pub no_blocks : (shape : DeviceShape) (end : End) (slots : List Shown) → (HasAllBlocks end → ⊥) → slots ≡ [] → AreBlocks shape end slots
no_blocks shape end slots not_run none =
    let P : List Shown → Type 0 = λ s. AreBlocks shape end s in
    subst P (sym none) (record { numbers = IsPermutation-refl []; each = All-nil (IsBlock shape.IsSize); most = omega arith; all = λ run. absurd (not_run run); all_or_none = λ run. inr refl; none = λ refused. refl })

-- a script that was read keeps the lengths of its files
pub keeps :
    {R : Type 0} (words : Words R) (told : Option Files) (replied : Reply → Type 0) (bytes : List ℕ) (workers : ℕ) (script : Reading R) → IsScript words told replied bytes workers script
    → (files : Files) → told ≡ Some files → KeepsLengths files script
keeps {R} words told replied bytes workers script is files e =
    let asked : List (Numbered R) = numbered_of 1 (script_kinds words bytes workers) in
    let lengths : script.commands ≡ with_sizes files (names_of (script_kinds words bytes workers)) asked =
    (let P : Option Files → Type 0 = λ t. IfSome t (λ files. script.commands ≡ with_sizes files (names_of (script_kinds words bytes workers)) asked) in subst P e is.lengths) in
    let Q : List (List ℕ) → Type 0 = λ ns. script.commands ≡ with_sizes files ns asked in
    keeps_lengths files script asked (subst Q (sym is.names) lengths)

-- a fact about the commands and the records of their files holds of those of the bytes, where the library tells
pub of_commands :
    {R : Type 0} (words : Words R) (told : Option Files) (replied : Reply → Type 0) (r : Arguments) (bytes : List ℕ) (script : Reading R) (P : About)
    → IsScript words told replied bytes r.given.numbers.workers script → ((files : Files) → AreFilesOf told script files → P (typed words) r (given_of words files script) (command_list script))
    → OfBytes told (typed words) r bytes P
of_commands words None replied r bytes script P is holds = tt
of_commands {R} words (Some files) replied r bytes script P is holds =
    let Q : List (List ℕ) → Type 0 = λ ns. P (typed words) r (λ (file : ℕ). records_of words.record_of words.WIDTH (bytes_or_none (files (name_at ns file)))) (command_list script) in
    let S : List (Numbered R) → Type 0 = λ items. P (typed words) r (script_given words files bytes r.given.numbers.workers) (map (λ (n : Numbered R). n.command) items) in
    subst S is.lengths (subst Q is.names (holds files (inl refl)))

-- a fact about bytes as which the library gave the file is one about the file
pub of_bytes : (told : Option Files) (r : Arguments) (bytes : List ℕ) (P : About) → IfSome told (λ files. files r.script ≡ Some bytes) → OfBytes told (type_of bytes) r bytes P → OfFile told r P
of_bytes None r bytes P is holds = tt
of_bytes (Some files) r bytes P is holds =
    let Q : Option (List ℕ) → Type 0 = λ o. IfSome o (λ b. OfBytes (Some files) (type_of b) r b P) in
    subst Q (sym is) holds

-- so is the answer
pub answer_of_bytes :
    (told : Option Files) (r : Arguments) (bytes : List ℕ) (end : End) → length bytes ≤ 1048576 → IfSome told (λ files. files r.script ≡ Some bytes)
    → IfSome told (λ files. IsAnswer (refusal_of_bytes (type_of bytes).words files bytes r) end) → IfSome told (λ files. IsAnswer (refusal_of_file files (files r.script) r) end)
answer_of_bytes None r bytes end short is answer = tt
answer_of_bytes (Some files) r bytes end short is answer =
    let same : refusal_of_file files (files r.script) r ≡ refusal_of_bytes (type_of bytes).words files bytes r =
    ap (λ (f : Option (List ℕ)). refusal_of_file files f r) is ∙ ap (λ b. if b then Some ScriptTooLong else refusal_of_bytes (type_of bytes).words files bytes r) (le-ltb 1048576 (length bytes) short) in
    let P : Option End → Type 0 = λ e. IsAnswer e end in
    subst P (sym same) answer

-- where the end names no fault and there is room, a script without a refusal is done, or memory was wanting
pub completed :
    (files : Files) (sizes : Numbers) (limited : Bool) (load : ℕ) (end : End) → IsTried end ⊎ IsGivenUp end → ((line said got : ℕ) → end ≡ FileChanged line said got → Some files ≡ None)
    → (end ≡ NoFreeBlock → HasNoRoom sizes limited load) → NoFault end → HasRoom sizes limited load → (end ≡ Done) ⊎ (end ≡ Memory)
completed files sizes limited load end (inr (inl memory)) changed above fault room = inr memory
completed files sizes limited load end (inr (inr read)) changed above fault room = absurd (subst NoFault read fault)
completed files sizes limited load end (inl (inr unmade)) changed above fault room = absurd (subst NoFault unmade fault)
completed files sizes limited load Done (inl (inl began)) changed above fault room = inl refl
completed files sizes limited load NoFreeBlock (inl (inl began)) changed above fault room =
    let much = above refl in
    elim room as (λ _. (NoFreeBlock ≡ Done) ⊎ (NoFreeBlock ≡ Memory)) [ inl (unlimited, heap) ↦ absurd (omega (arith, much.0 unlimited, heap)) | inr device ↦ absurd (omega (arith, much.1, device)) ]
completed files sizes limited load (FileChanged line said got) (inl (inl began)) changed above fault room = let e = changed line said got refl in cc
completed files sizes limited load ReadFault (inl (inl began)) changed above fault room = absurd fault
completed files sizes limited load WriteFault (inl (inl began)) changed above fault room = absurd fault
completed files sizes limited load (DeviceFault number) (inl (inl began)) changed above fault room = absurd fault
completed files sizes limited load end (inl (inl began)) changed above fault room = absurd began

file_completed :
    (files : Files) (file : Option (List ℕ)) (r : Arguments) (measure : Measure) (end : End)
    → IsAnswer (refusal_of_file files file r) end → ((line said got : ℕ) → end ≡ FileChanged line said got → Some files ≡ None)
    → (end ≡ NoFreeBlock → IfSome file (λ bytes. OfBytes (Some files) (type_of bytes) r bytes (IsTooLarge measure))) → NoFault end
    → IfSome file (λ bytes. EndsWell measure r files bytes end)
file_completed files None r measure end answer changed above fault = tt
file_completed files (Some bytes) r measure end answer changed above fault = λ good room.
    let type = type_of bytes in
    let commands = script_commands type.words files bytes r.given.numbers.workers in
    let P : Option End → Type 0 = λ e. IsAnswer e end in
    completed files (sizes_at type.words.WIDTH r) (begins_limit commands) (measure type (script_given type.words files bytes r.given.numbers.workers) commands) end (subst P good answer) changed above fault room

pub named_completed :
    (told : Option Files) (r : Arguments) (measure : Measure) (end : End)
    → IfSome told (λ files. IsAnswer (refusal_of_file files (files r.script) r) end) → ((line said got : ℕ) → end ≡ FileChanged line said got → told ≡ None)
    → (end ≡ NoFreeBlock → OfFile told r (IsTooLarge measure)) → NoFault end
    → IfSome told (λ files. IfSome (files r.script) (λ bytes. EndsWell measure r files bytes end))
named_completed None r measure end answer changed above fault = tt
named_completed (Some files) r measure end answer changed above fault = file_completed files (files r.script) r measure end answer changed above fault
