-- A device that was made, and one that was not: what that says of the end of a run and of the outside.
use Rattle.std.proofs.Common.{◌≡◌, inl, inr, ℕ, zero, suc, ◌*◌, ◌<◌, ◌≤◌, List, map, length, Option, Some, None, refl, sym, ◌∙◌, subst, arith}
use Rattle.std.specs.Prelude.{◌⊎◌, Bool, true, false, if◌then◌else◌, nat_lt, MatchOption, All}
use Rattle.std.specs.List.{range_with_len}
use Rattle.std.specs.List.Sorted.{IsPermutation}
use Rattle.std.proofs.lemmas.Bool.{lt-ltb, le-ltb}
use Rattle.std.proofs.lemmas.List.{length-map}
use Rattle.ppq_words.specs.ppq_outside.declared.fault.OutsideFault.{OutsideFault}
use Rattle.ppq_words.specs.ppq_outside.declared.fault.OutsideFault.TheVariants as outside
use Rattle.ppq_words.specs.ppq_outside.declared.library.Library.{Ghosts as LibraryShows}
use Rattle.ppq_words.specs.ppq_outside.declared.rack.Rack.{Ghosts as RackShows}
use Rattle.ppq_words.specs.ppq_outside.declared.sink.Sink.{Ghosts as SinkShows}
use Rattle.ppq_words.specs.ppq_outside.Shown.{Shown}
use Rattle.ppq_words.specs.ppq_outside.Told.{Remembers, Rose}
use Rattle.ppq_words.specs.ppq_budget.Sizes.{Numbers, fixed_of}
use Rattle.ppq_jobs.specs.ppq_engine.ppq_array.Kept.{HasFailed, SameSlots}
use Rattle.ppq_jobs.specs.ppq_engine.ppq_array.Supply.{IsSlot}
use Rattle.ppq_jobs.specs.ppq_engine.ppq_queue.Holding.{IsNewSlot}
use Rattle.ppq_jobs.specs.ppq_engine.Ends.{class_of, BeganCommands, BeganOrRefused, budget_refusal}
use Rattle.ppq_jobs.specs.ppq_engine.declared.end.End.{End}
use Rattle.ppq_jobs.specs.ppq_engine.declared.end.End.TheVariants.{Done, ReadFault, WriteFault, DeviceFault, NoFreeBlock, BudgetTooSmall, Memory, NoDevice, BadEdge}
use Rattle.ppq_jobs.specs.ppq_engine.declared.end.Ended.{Ended}
use Rattle.ppq_jobs.proofs.ppq_engine.Returned.{blocks_back, new_slots_are}
use Rattle.ppq_cli.specs.declared.plan.Plan.{Plan}
use Rattle.ppq_cli.specs.Budget.{refusal_by}
use Rattle.ppq_cli.specs.Device.{DeviceShape, IsBlock, AreBlocks, ComesBeforeBlocks, HasAllBlocks, HasNoBlock, HasReason, IsSurelyRun, make_end}
use Rattle.ppq_cli.specs.DeviceFor.{plan_shape, HasShape, IsDevice, LacksDevice}
use Rattle.ppq_cli.specs.Outside.{Faults, OutsideKept}
use Rattle.ppq_cli.specs.RunWords.{IsTried, IsTriedOrRefusal}
use Rattle.ppq_cli.proofs.Blocks.{returned, made_just}
use Rattle.ppq_cli.proofs.Ends.{begun_unrefused}
use Rattle.ppq_cli.proofs.Outside.{unrun_unfailed, unrun_failed}

module _ (plan : Plan) where
  -- the budget is too small
  pub small_answer : plan.sizes.memory < fixed_of plan.sizes → IsTriedOrRefusal (refusal_by plan) (BudgetTooSmall plan.need)
  small_answer small =
      let P : Bool → Type 0 = λ b. MatchOption (if b then Some (BudgetTooSmall plan.need) else None) (IsTried (BudgetTooSmall plan.need)) (λ e. BudgetTooSmall plan.need ≡ e) in
      inl (subst P (sym (lt-ltb plan.sizes.memory (fixed_of plan.sizes) small)) refl)

  -- the device could not be made
  no_device : fixed_of plan.sizes ≤ plan.sizes.memory → IsTriedOrRefusal (refusal_by plan) NoDevice
  no_device enough =
      let P : Bool → Type 0 = λ b. MatchOption (if b then Some (BudgetTooSmall plan.need) else None) (IsTried NoDevice) (λ e. NoDevice ≡ e) in
      inl (subst P (sym (le-ltb plan.sizes.memory (fixed_of plan.sizes) enough)) (inr refl))

  pub unmade_answer : fixed_of plan.sizes ≤ plan.sizes.memory → (fault : OutsideFault) → IsTriedOrRefusal (refusal_by plan) (make_end fault)
  unmade_answer enough outside.Failed = no_device enough
  unmade_answer enough outside.Memory = inr refl

-- a run that was begun, or whose budget is too small, was tried or refused
tried : (refusal : Option End) (end : End) → BeganOrRefused refusal end → IsTriedOrRefusal refusal end
tried None end (inl run) = inl (inl run)
tried (Some e) end (inl is) = inl is
tried refusal end (inr memory) = inr memory

-- so it was tried where the budget is large enough
pub begun_answer : (plan : Plan) (end : End) → fixed_of plan.sizes ≤ plan.sizes.memory → BeganOrRefused (budget_refusal plan.sizes) end → IsTriedOrRefusal (refusal_by plan) end
begun_answer plan end enough answer =
    let large = le-ltb plan.sizes.memory (fixed_of plan.sizes) enough in
    let P : Bool → Type 0 = λ b. BeganOrRefused (if b then Some (BudgetTooSmall (fixed_of plan.sizes)) else None) end in
    let Q : Bool → Type 0 = λ b. IsTriedOrRefusal (if b then Some (BudgetTooSmall plan.need) else None) end in
    subst Q (sym large) (tried None end (subst P large answer))

device_made : (refusal : Bool) (need : ℕ) → MatchOption (if refusal then Some (BudgetTooSmall need) else None) (BeganCommands NoDevice) (λ e. NoDevice ≡ e) ⊎ (NoDevice ≡ Memory) → ⊥
device_made true need (inl is) = cc
device_made false need (inl run) = run
device_made true need (inr is) = cc
device_made false need (inr is) = cc

-- a run that was begun has a device
pub run_made : (sizes : Numbers) (end : End) → BeganOrRefused (budget_refusal sizes) end → end ≡ NoDevice → ⊥
run_made sizes end answer is = device_made (nat_lt sizes.memory (fixed_of sizes)) (fixed_of sizes) (let P : End → Type 0 = λ e. BeganOrRefused (budget_refusal sizes) e in subst P is answer)

-- the end of a run whose budget is large enough is none of a refusal
unrefused_by : (small : Bool) (need : ℕ) (end : End) → small ≡ false → BeganOrRefused (if small then Some (BudgetTooSmall need) else None) end → ComesBeforeBlocks end → ⊥
unrefused_by true need end large answer refused = cc
unrefused_by false need end large (inl began) refused = begun_unrefused (class_of end) began refused
unrefused_by false need end large (inr memory) refused = subst ComesBeforeBlocks memory refused

-- an end before a block is made is one of a refusal, or names no edge
pub unmade_by : (end : End) → HasNoBlock end → ComesBeforeBlocks end ⊎ (end ≡ BadEdge 0)
unmade_by (BadEdge zero) none = inr refl
unmade_by (BadEdge (suc at)) none = absurd none
unmade_by end none = inl none

-- a run of a script or an agenda looks at no edge
no_edge : (refusal : Bool) (need : ℕ) → MatchOption (if refusal then Some (BudgetTooSmall need) else None) (BeganCommands (BadEdge 0)) (λ e. BadEdge 0 ≡ e) ⊎ (BadEdge 0 ≡ Memory) → ⊥
no_edge true need (inl is) = cc
no_edge false need (inl run) = run
no_edge true need (inr is) = cc
no_edge false need (inr is) = cc

pub run_unrefused : (sizes : Numbers) (end : End) → fixed_of sizes ≤ sizes.memory → BeganOrRefused (budget_refusal sizes) end → HasNoBlock end → ⊥
run_unrefused sizes end enough answer none = elim (unmade_by end none) as (λ _. ⊥) [
  | inl refused ↦ unrefused_by (nat_lt sizes.memory (fixed_of sizes)) (fixed_of sizes) end (le-ltb sizes.memory (fixed_of sizes) enough) answer refused
  | inr is ↦ no_edge (nat_lt sizes.memory (fixed_of sizes)) (fixed_of sizes) (let P : End → Type 0 = λ e. BeganOrRefused (budget_refusal sizes) e in subst P is answer)
]

-- the device could not be made: the rack's count rose where it failed
pub unmade_faults : (library rack rack_now sink : ℕ) (fault : OutsideFault) → rack ≤ rack_now → HasReason rack rack_now fault → Faults Rose library library rack rack_now sink sink (make_end fault)
unmade_faults library rack rack_now sink outside.Failed later reason = record {
  read = λ is. cc;
  write = λ is. cc;
  device = λ is. reason;
  library_later = omega arith;
  library_stays = λ read written. refl;
  rack_later = later;
  rack_stays = λ unmade. absurd (unmade refl);
  sink_later = omega arith;
  sink_stays = λ written. refl;
}
unmade_faults library rack rack_now sink outside.Memory later reason = record {
  read = λ is. cc;
  write = λ is. cc;
  device = λ is. cc;
  library_later = omega arith;
  library_stays = λ read written. refl;
  rack_later = later;
  rack_stays = λ unmade. reason;
  sink_later = omega arith;
  sink_stays = λ written. refl;
}

-- with such an end no run was begun
pub unmade_unbegun : (fault : OutsideFault) → BeganCommands (make_end fault) → ⊥
unmade_unbegun outside.Failed run = run
unmade_unbegun outside.Memory run = run

unmade_unrun : (fault : OutsideFault) → HasAllBlocks (make_end fault) → ⊥
unmade_unrun outside.Failed run = run
unmade_unrun outside.Memory run = run

-- nor is it one of a refusal
unmade_unrefused : (fault : OutsideFault) → HasNoBlock (make_end fault) → ⊥
unmade_unrefused outside.Failed refused = refused
unmade_unrefused outside.Memory refused = refused

-- slots of so many bytes are blocks of a shape where each may have so many
pub shaped : (IsSize : ℕ → Type 0) (bytes : ℕ) (slots : List Shown) → IsSize bytes → All (IsSlot bytes) slots → All (IsBlock IsSize) slots
shaped IsSize bytes slots fits each = λ k d below. let slot = each k d below in record { size = subst IsSize (sym slot.size) fits; spent = slot.spent }

-- the blocks of a plan's device are those of a shape that it has
reshaped : (plan : Plan) (width : ℕ) (shape : DeviceShape) (end : End) (slots : List Shown) → HasShape plan width shape → AreBlocks (plan_shape plan width) end slots → AreBlocks shape end slots
reshaped plan width shape end slots has are = record {
  numbers = are.numbers;
  each = λ k d below. let slot = are.each k d below in record { size = subst shape.IsSize (sym slot.size) has.size; spent = slot.spent };
  most = omega (arith, are.most, has.blocks);
  all = λ run. are.all run ∙ has.blocks;
  all_or_none = λ run. elim (are.all_or_none run) as (λ _. (length slots ≡ shape.blocks) ⊎ (length slots ≡ 0)) [ inl all ↦ inl (all ∙ has.blocks) | inr none ↦ inr none ];
  none = are.none;
}

-- the blocks that were made before one that could not be
pub unmade_blocks :
    (plan : Plan) (width : ℕ) (slots : List Shown) (fault : OutsideFault) → IsPermutation (map (λ s. s.number) slots) (range_with_len 0 (length slots)) → All (IsNewSlot (plan.sizes.block * width)) slots → length slots ≤ plan.blocks
    → AreBlocks (plan_shape plan width) (make_end fault) slots
unmade_blocks plan width slots fault numbers new within = record { numbers = numbers; each = shaped (λ bytes. bytes ≡ plan.sizes.block * width) (plan.sizes.block * width) slots refl (new_slots_are (plan.sizes.block * width) slots new); most = within; all = λ run. absurd (unmade_unrun fault run); all_or_none = λ run. absurd (unmade_unbegun fault run); none = λ refused. absurd (unmade_unrefused fault refused) }

-- ends that come of a run alone come of one that was begun
pub surely_begun : (end : End) → IsSurelyRun end → BeganCommands end
surely_begun Done run = tt
surely_begun WriteFault run = tt
surely_begun (DeviceFault number) run = tt
surely_begun NoFreeBlock run = tt
surely_begun end run = absurd run

module _
    {A L K O S : Type 0} (library : LibraryShows L) (rack : RackShows K S) (sink : SinkShows O) (shown : S → Shown) (device : A → List ℕ) (shape : A → DeviceShape) (plan : Plan) (width : ℕ) (a : A) (has : HasShape plan width (shape a))
    (old_rack new_rack : K) (ended : Ended S) where
  -- no device was made, and library and sink were left alone
  pub unmade_outside : (held : L) (out : O) → LacksDevice rack shown width plan (device a) old_rack new_rack ended → OutsideKept Rose library rack sink shown (Some a) device shape held held old_rack new_rack out out ended
  unmade_outside held out lacks =
      let unrun : IsSurelyRun ended.end → ⊥ = λ run. lacks.unbegun (surely_begun ended.end run) in
      record {
        made = lacks.made;
        blocks = reshaped plan width (shape a) ended.end (map shown ended.blocks.items) has lacks.blocks;
        unfailed = unrun_unfailed ended.end unrun;
        failed = λ number is. absurd (unrun_failed ended.end unrun number is);
        rack_tells = lacks.kept;
        files = refl;
        remembers = λ reply had. had;
        faults = lacks.faults (library.faults held) (sink.faults out);
      }

  -- a device was made, a run was tried over it, and all its blocks come back
  pub ran_outside :
      (old_library new_library : L) (old_out new_out : O) (slots : List S)
      → IsDevice rack shown width plan (device a) old_rack new_rack slots → (ended.end ≡ NoDevice → ⊥) → (HasNoBlock ended.end → ⊥) → SameSlots (map shown slots) (map shown ended.blocks.items)
      → ((ended.end ≡ Done) ⊎ (ended.end ≡ NoFreeBlock) → All (λ (s : Shown). s.faults ≡ 0) (map shown ended.blocks.items)) → ((number : ℕ) → ended.end ≡ DeviceFault number → HasFailed number (map shown ended.blocks.items))
      → library.told new_library ≡ library.told old_library → Remembers (library.replied old_library) (library.replied new_library)
      → (ended.end ≡ ReadFault → Rose (library.faults old_library) (library.faults new_library)) → (ended.end ≡ WriteFault → Rose (sink.faults old_out) (sink.faults new_out))
      → library.faults old_library ≤ library.faults new_library → (¬ (ended.end ≡ ReadFault) → ¬ (ended.end ≡ WriteFault) → library.faults new_library ≡ library.faults old_library)
      → sink.faults old_out ≤ sink.faults new_out → (¬ (ended.end ≡ WriteFault) → sink.faults new_out ≡ sink.faults old_out)
      → OutsideKept Rose library rack sink shown (Some a) device shape old_library new_library old_rack new_rack old_out new_out ended
  ran_outside old_library new_library old_out new_out slots made made_some unrefused back unfailed failed files remembers read write library_later library_stays sink_later sink_stays =
      let slots_back = map shown ended.blocks.items in
      let numbers = returned (map shown slots) slots_back back made.new.numbers in
      let all : length slots_back ≡ (shape a).blocks = back.length ∙ length-map slots shown ∙ made.all ∙ has.blocks in
      let bytes = plan.sizes.block * width in
      let each = shaped (shape a).IsSize bytes slots_back has.size (blocks_back bytes (length (map shown slots)) (map shown slots) slots_back made.new.numbers made.new.each back) in
      record {
        made = made_just shown ended.blocks.items (rack.made old_rack (device a)) (rack.made new_rack (device a)) (length slots) numbers (back.length ∙ length-map slots shown) made.made;
        blocks = record { numbers = numbers; each = each; most = omega (arith, all); all = λ run. all; all_or_none = λ run. inl all; none = λ refused. absurd (unrefused refused) };
        unfailed = unfailed;
        failed = failed;
        rack_tells = made.kept;
        files = files;
        remembers = remembers;
        faults = record {
          read = read;
          write = write;
          device = λ is. absurd (made_some is);
          library_later = library_later;
          library_stays = library_stays;
          rack_later = omega (arith, made.stays);
          rack_stays = λ unmade. made.stays;
          sink_later = sink_later;
          sink_stays = sink_stays;
        };
      }
