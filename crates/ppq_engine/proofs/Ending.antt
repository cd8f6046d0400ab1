-- What follows from what the end of a run says, for each end.
use Rattle.std.proofs.Common.{◌≡◌, ℕ, ◌≤◌, List, Bool, Option, Some, None, All, ap, refl, sym, ◌∙◌, subst, arith, inl, inr}
use Rattle.ppq_script.specs.declared.form.Form.{Form}
use Rattle.ppq_script.specs.ppq_outside.Shown.{Shown, AllTell}
use Rattle.ppq_script.specs.ppq_outside.Told.{Reply, TakesAll, Rose}
use Rattle.std.specs.Prelude.{◌⊎◌, if◌then◌else◌}
use Rattle.std.proofs.lemmas.Bool.{le-ltb}
use Rattle.ppq_script.specs.Words.{Words}
use Rattle.ppq_load.specs.ppq_budget.Sizes.{Numbers, fixed_of}
use Rattle.ppq_load.specs.ppq_array.Kept.{SameSlots, SameSums, HasFailed, weight_at, all_writes}
use Rattle.ppq_load.specs.ppq_queue.Holding.{IsNewSlot}
use Rattle.ppq_script.specs.Reading.{Reading, command_list}
use Rattle.ppq_load.specs.Refusal.{HasRoom, HasNoRoom}
use Rattle.ppq_load.proofs.Refusals.{room-not_none}
use Rattle.ppq_load.proofs.ppq_queue.Slots.{slots-sums}
use Rattle.ppq_load.proofs.ppq_queue.ppq_spill.SameSlots.{SameSlots-trans}
use Rattle.ppq_engine.specs.Loads.{most_of, least_of, begins_limit, FitsWritten}
use Rattle.ppq_engine.specs.Output.{AreFilesOf, given_of, output_of, load_of, crest_of, TakesWithin}
use Rattle.ppq_engine.specs.Outcome.{EndSays, TakesBeforeLoad}
use Rattle.ppq_engine.specs.Ends.{budget_refusal, BeganOrRefused, IsQuiet, NoneFailed, IsCompleted}
use Rattle.ppq_engine.specs.declared.end.End.{End}
use Rattle.ppq_engine.specs.declared.end.End.TheVariants.{Done, ReadFault, WriteFault, DeviceFault, NoFreeBlock, BudgetTooSmall, Memory, FileChanged}
use Rattle.ppq_engine.proofs.Sizes.{fits-more}
use Rattle.ppq_engine.proofs.Slots.{new-unfailed, none-failed}

-- a count that rose is not quiet
not_quiet : (before now : ℕ) → Rose before now → IsQuiet before now → ⊥
not_quiet before now rose quiet = omega (arith, rose, quiet.0, quiet.1)

-- the blocks that come back are those that were handed in
pub same_blocks : (first held slots later : List Shown) → held ≡ first → SameSlots held slots → SameSums slots later → SameSlots first later
same_blocks first held slots later is same sums = let P : List Shown → Type 0 = λ f. SameSlots f later in subst P is (SameSlots-trans held slots later same (slots-sums slots later sums))

module _ {R : Type 0} (w : Words R) (form : Form) (told : Option (List ℕ → Option (List ℕ))) (replied : Reply → Type 0) (script : Reading R) (first : List Shown) (sizes : Numbers) (before now : Option (List ℕ)) (sink sink_now library library_now : ℕ) where
  -- what an end says of these slots
  abbrev pub Says : List Shown → End → Type 0
  Says slots end = EndSays w form told replied script first slots sizes before now sink sink_now library library_now end

  -- the blocks that a queue began with are those that were handed in, and its sizes are those of the run
  pub says-first : (held : List Shown) (own : Numbers) (slots : List Shown) (end : End) → held ≡ first → own ≡ sizes → EndSays w form told replied script held slots own before now sink sink_now library library_now end → Says slots end
  says-first held own slots end is_first is_own says =
      let P : List Shown → Type 0 = λ f. EndSays w form told replied script f slots own before now sink sink_now library library_now end in
      let Q : Numbers → Type 0 = λ o. EndSays w form told replied script first slots o before now sink sink_now library library_now end in
      subst Q is_own (subst P is_first says)

  -- the same slots as they come back
  says-later : (slots later : List Shown) (end : End) → SameSums slots later → Says slots end → Says later end
  says-later slots later Done sums says =
      let more : all_writes slots ≤ all_writes later = omega (arith, sums (λ s. s.writes)) in (
        λ tells files is. record { took = (says.0 tells files is).took; crest = fits-more (crest_of w (given_of w files script) (command_list script)) sizes slots later (says.0 tells files is).crest more },
        fits-more (least_of w (command_list script)) sizes slots later says.1 more,
        says.2,
        sym (sums (λ s. s.faults)) ∙ says.3,
      )
  says-later slots later NoFreeBlock sums says = (says.0, says.1, says.2, sym (sums (λ s. s.faults)) ∙ says.3)
  says-later slots later (DeviceFault number) sums says = (omega (arith, says.0, sums (weight_at (λ s. s.faults) number)), says.1)
  says-later slots later _ sums says = says

  module _ (slots later : List Shown) (end : End) (sums : SameSums slots later) (says : Says slots end) where
    says-is : (wanted : End) → end ≡ wanted → Says later wanted
    says-is wanted is = subst (λ e. Says later e) is (says-later slots later end sums says)

    pub end-done : end ≡ Done → AllTell first → (files : List ℕ → Option (List ℕ)) → AreFilesOf told script files → TakesAll before now (output_of w form (given_of w files script) (command_list script))
    end-done is tells files are = ((says-is Done is).0 tells files are).took

    pub end-used : end ≡ Done → AllTell first → (files : List ℕ → Option (List ℕ)) → AreFilesOf told script files → FitsWritten (crest_of w (given_of w files script) (command_list script)) sizes later
    end-used is tells files are = ((says-is Done is).0 tells files are).crest

    pub end-used_any : end ≡ Done → FitsWritten (least_of w (command_list script)) sizes later
    end-used_any is = (says-is Done is).1

    -- no call of a block failed
    pub end-unfailed : (bytes : ℕ) → All (IsNewSlot bytes) first → (end ≡ Done) ⊎ (end ≡ NoFreeBlock) → All (λ (s : Shown). s.faults ≡ 0) later
    end-unfailed bytes fresh (inl is) = none-failed later ((says-is Done is).3 ∙ new-unfailed bytes first fresh)
    end-unfailed bytes fresh (inr is) = none-failed later ((says-is NoFreeBlock is).3 ∙ new-unfailed bytes first fresh)

    pub end-within : end ≡ NoFreeBlock → AllTell first → (files : List ℕ → Option (List ℕ)) → AreFilesOf told script files → TakesWithin w form (given_of w files script) before now sizes (command_list script)
    end-within is tells files are = ((says-is NoFreeBlock is).0 tells files are).within

    pub end-above : end ≡ NoFreeBlock → AllTell first → (files : List ℕ → Option (List ℕ)) → AreFilesOf told script files → HasNoRoom sizes (begins_limit (command_list script)) (load_of w (given_of w files script) (command_list script))
    end-above is tells files are = ((says-is NoFreeBlock is).0 tells files are).above

    pub end-above_any : end ≡ NoFreeBlock → HasNoRoom sizes (begins_limit (command_list script)) (most_of w (command_list script))
    end-above_any is = (says-is NoFreeBlock is).1

    -- memory was wanting where a command begins a session
    pub end-memory : end ≡ Memory → TakesBeforeLoad w form told script first before now
    end-memory is = (says-is Memory is).0

    pub end-failed : (number : ℕ) → end ≡ DeviceFault number → HasFailed number later
    end-failed number is = (says-is (DeviceFault number) is).0

  -- the count of the sink rises with one end alone
  pub says-sink_stays : (slots : List Shown) (end : End) → Says slots end → ¬ (end ≡ WriteFault) → sink_now ≡ sink
  says-sink_stays slots Done says written = says.2.sink_same
  says-sink_stays slots ReadFault says written = says.1
  says-sink_stays slots WriteFault says written = absurd (written refl)
  says-sink_stays slots (DeviceFault number) says written = says.1.sink_same
  says-sink_stays slots NoFreeBlock says written = says.2.sink_same
  says-sink_stays slots Memory says written = says.1.sink_same
  says-sink_stays slots (FileChanged line said got) says written = says.1.sink_same
  says-sink_stays slots _ says written = absurd says

  -- that of the library with its own, and with that of the sink, to which gathered text is put after a read failed
  pub says-library_stays : (slots : List Shown) (end : End) → Says slots end → ¬ (end ≡ ReadFault) → ¬ (end ≡ WriteFault) → library_now ≡ library
  says-library_stays slots Done says read written = says.2.library_same
  says-library_stays slots ReadFault says read written = absurd (read refl)
  says-library_stays slots WriteFault says read written = absurd (written refl)
  says-library_stays slots (DeviceFault number) says read written = says.1.library_same
  says-library_stays slots NoFreeBlock says read written = says.2.library_same
  says-library_stays slots Memory says read written = says.1.library_same
  says-library_stays slots (FileChanged line said got) says read written = says.1.library_same
  says-library_stays slots _ says read written = absurd says

  -- of an open queue an end has one of the causes that come after the beginning
  began : (slots : List Shown) (end : End) → Says slots end → BeganOrRefused None end
  began slots Done says = inl tt
  began slots ReadFault says = inl tt
  began slots WriteFault says = inl tt
  began slots (DeviceFault number) says = inl tt
  began slots NoFreeBlock says = inl tt
  began slots Memory says = inr refl
  began slots (FileChanged line said got) says = inl tt
  began slots _ says = absurd says

  pub says-began : (slots : List Shown) (end : End) → Says slots end → fixed_of sizes ≤ sizes.memory → BeganOrRefused (budget_refusal sizes) end
  says-began slots end says enough =
      let none : budget_refusal sizes ≡ None = ap (λ (b : Bool). if b then Some (BudgetTooSmall (fixed_of sizes)) else None) (le-ltb sizes.memory (fixed_of sizes) enough) in
      let P : Option End → Type 0 = λ r. BeganOrRefused r end in
      subst P (sym none) (began slots end says)

  -- with no fault, and where there is room, the end is done or want of memory, or a file had changed
  says-completed :
      (slots : List Shown) (end : End) → Says slots end → IsQuiet sink sink_now → IsQuiet library library_now → NoneFailed slots
      → (end ≡ NoFreeBlock → ⊥) → IsCompleted told end
  says-completed slots Done says s l none room = tt
  says-completed slots ReadFault says s l none room = not_quiet library library_now says.0 l
  says-completed slots WriteFault says s l none room = not_quiet sink sink_now says s
  says-completed slots (DeviceFault number) says s l none room = none number says.0
  says-completed slots NoFreeBlock says s l none room = room refl
  says-completed slots Memory says s l none room = tt
  says-completed slots (FileChanged line said got) says s l none room = says.0.untold
  says-completed slots _ says s l none room = says

  module _ (slots later : List Shown) (end : End) (sums : SameSums slots later) (says : Says slots end) where
    pub end-complete :
        AllTell first → (files : List ℕ → Option (List ℕ)) → AreFilesOf told script files → HasRoom sizes (begins_limit (command_list script)) (load_of w (given_of w files script) (command_list script))
        → IsQuiet sink sink_now → IsQuiet library library_now → NoneFailed later → IsCompleted told end
    end-complete tells files are room s l none =
        says-completed later end (says-later slots later end sums says) s l none
        (λ is. room-not_none sizes (begins_limit (command_list script)) (load_of w (given_of w files script) (command_list script)) room (end-above slots later end sums says is tells files are))

    pub end-complete_any : HasRoom sizes (begins_limit (command_list script)) (most_of w (command_list script)) → IsQuiet sink sink_now → IsQuiet library library_now → NoneFailed later → IsCompleted told end
    end-complete_any room s l none =
        says-completed later end (says-later slots later end sums says) s l none
        (λ is. room-not_none sizes (begins_limit (command_list script)) (most_of w (command_list script)) room (says-is slots later end sums says NoFreeBlock is).1)
