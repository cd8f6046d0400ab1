-- An end that names no fault is right for the script as the library gave it.
use Rattle.std.proofs.Common.{ℕ, List, Option, refl, inl, inr}
use Rattle.std.specs.Prelude.{◌⊎◌}
use Rattle.ppq_words.specs.ppq_outside.Shown.{Shown}
use Rattle.ppq_words.specs.ppq_outside.Told.{Reply}
use Rattle.ppq_words.specs.ppq_script.Reading.{command_list}
use Rattle.ppq_words.specs.ppq_script.Words.{Words}
use Rattle.ppq_words.specs.Reading.{Reading as Arguments, sizes_at}
use Rattle.ppq_jobs.specs.ppq_engine.Ends.{NoFault}
use Rattle.ppq_jobs.specs.ppq_engine.Loads.{most_of, begins_limit}
use Rattle.ppq_jobs.specs.ppq_engine.declared.end.End.{End}
use Rattle.ppq_jobs.specs.ppq_engine.declared.end.End.TheVariants.{Done, BadLine, Usage, ReadFault, WriteFault, DeviceFault, NoFreeBlock, BudgetTooSmall, Memory, FileChanged, NoDevice, NoScript, ScriptTooLong, BadAgenda, BadEdge}
use Rattle.ppq_jobs.proofs.ppq_engine.ppq_load.Refusals.{room-not_none}
use Rattle.ppq_cli.specs.Replies.{Files, RefusalOf, RunOf, WroteNothing, CompletesOf}

module _ {R : Type 0} (words : Words R) (tells : Type 0) (told : Option Files) (replied : Reply → Type 0) (r : Arguments) (bytes : List ℕ) (before now : Option (List ℕ)) (blocks : List Shown) where
  pub completes_of : (end : End) → WroteNothing before now end ⊎ RunOf words tells told replied r bytes before now blocks end → RefusalOf words told replied r bytes end → NoFault end → CompletesOf words told replied r bytes end
  completes_of Done (inl wrote) refusal fault = absurd (wrote.maybe tt)
  completes_of Done (inr run) refusal fault = inr (inr (run.0, (run.1.0, (run.1.1.0, λ room. tt))))
  completes_of (BadLine line) ran refusal fault = inl (tt, refusal)
  completes_of Usage ran refusal fault = absurd (refusal tt)
  completes_of ReadFault ran refusal fault = absurd fault
  completes_of WriteFault ran refusal fault = absurd fault
  completes_of (DeviceFault number) ran refusal fault = absurd fault
  completes_of NoFreeBlock (inl wrote) refusal fault = absurd (wrote.maybe tt)
  completes_of NoFreeBlock (inr run) refusal fault =
      let commands = command_list run.1.0 in
      inr (inr (run.0, (run.1.0, (run.1.1.0, λ room. absurd (room-not_none (sizes_at words.WIDTH r) (begins_limit commands) (most_of words commands) room run.1.1.1.above_any)))))
  completes_of (BudgetTooSmall need) ran refusal fault = inl (tt, refusal)
  completes_of Memory ran refusal fault = inr (inl refl)
  completes_of (FileChanged line said got) ran refusal fault = inr (inr (refusal.0, (refusal.1.0, (refusal.1.1.0, λ room. refusal.1.1.1.untold))))
  completes_of NoDevice ran refusal fault = absurd fault
  completes_of NoScript ran refusal fault = absurd (refusal tt)
  completes_of ScriptTooLong ran refusal fault = absurd (refusal tt)
  completes_of BadAgenda ran refusal fault = absurd (refusal tt)
  completes_of (BadEdge at) ran refusal fault = absurd refusal
