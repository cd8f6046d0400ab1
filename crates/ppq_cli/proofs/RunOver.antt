-- What `run_over` says of the shape of its device, and where no device was made, and how its end follows from the device's and the script's.
use Rattle.std.proofs.Common.{◌≡◌, inl, inr, ℕ, List, Option, refl, sym, subst}
use Rattle.ppq_words.specs.ppq_outside.Shown.{Shown}
use Rattle.ppq_words.specs.ppq_outside.Told.{Reply}
use Rattle.ppq_words.specs.ppq_script.Words.{Words}
use Rattle.ppq_words.specs.ppq_script.Reading.{Reading}
use Rattle.ppq_words.specs.Reading.{Reading as Arguments}
use Rattle.ppq_jobs.specs.ppq_engine.Ends.{Class, Finished, Refused, Unmade, Unread, Broken, Shrunk, Spoiled, Full, GaveUp, class_of, HasBegun, IfFile, BeganCommands}
use Rattle.ppq_jobs.specs.ppq_engine.declared.end.End.{End}
use Rattle.ppq_jobs.specs.ppq_engine.declared.end.End.TheVariants.{FileChanged}
use Rattle.ppq_jobs.proofs.ppq_engine.Running.{takes_none}
use Rattle.ppq_cli.specs.declared.plan.Plan.{Plan}
use Rattle.ppq_cli.specs.Budget.{plan_for}
use Rattle.ppq_cli.specs.DeviceFor.{HasShape}
use Rattle.ppq_cli.specs.Replies.{Files}
use Rattle.ppq_cli.specs.RunOver.{RunWrites, RunEnds}
use Rattle.ppq_cli.specs.RunWords.{blocks_given, refusal_of_budget, IsTriedOrRefusal}

-- the device of a plan for records of this width has the shape that the arguments give
pub shape_planned : (width : ℕ) (r : Arguments) (plan : Plan) → plan ≡ plan_for width r.given → HasShape plan width (blocks_given r)
shape_planned width r plan planned =
    let P : Plan → Type 0 = λ p. HasShape p width (blocks_given r) in
    subst P (sym planned) (record { blocks = refl; size = (width, refl) })

-- no file was read where nothing was begun
no_file : (class : Class) (P : Type 0) → (HasBegun class → ⊥) → IfFile class P
no_file Finished P unbegun = tt
no_file Refused P unbegun = tt
no_file Unmade P unbegun = tt
no_file Unread P unbegun = absurd (unbegun tt)
no_file Broken P unbegun = tt
no_file Shrunk P unbegun = absurd (unbegun tt)
no_file Spoiled P unbegun = tt
no_file Full P unbegun = tt
no_file GaveUp P unbegun = tt

module _ {R : Type 0} (words : Words R) (told : Option Files) (r : Arguments) (script : Reading R) (end : End) (unbegun : BeganCommands end → ⊥) where
  unlike : (other : End) → BeganCommands other → end ≡ other → ⊥
  unlike other began is = unbegun (subst BeganCommands (sym is) began)

  -- nothing was written, and the end is that of no run
  pub unbegun_wrote : (tells : Type 0) (took : Option (List ℕ)) (blocks : List Shown) → RunWrites words tells told took took r script blocks end
  unbegun_wrote tells took blocks = record {
    done = λ is. absurd (unlike _ tt is);
    full = λ is. absurd (unlike _ tt is);
    part = λ t files are. takes_none took _;
    memory = λ is. inl refl;
    file = no_file (class_of end) _ unbegun;
    nothing = inr refl;
  }

  pub unbegun_ends : (replied : Reply → Type 0) → IsTriedOrRefusal (refusal_of_budget words r) end → RunEnds words told replied r script end
  unbegun_ends replied answer = record { answer = answer; changed = λ line said got is. absurd (unlike (FileChanged line said got) tt is) }
