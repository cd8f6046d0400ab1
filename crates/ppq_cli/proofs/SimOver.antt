-- What `sim_over` says where no device was made, and where a device was too small for a run.
use Rattle.std.proofs.Common.{◌≡◌, inr, ℕ, List, take, Option, refl, sym, subst, arith}
use Rattle.std.specs.Prelude.{false}
use Rattle.ppq_words.specs.ppq_outside.declared.library.Library.{Ghosts as LibraryShows}
use Rattle.ppq_words.specs.ppq_outside.declared.rack.Rack.{Ghosts as RackShows}
use Rattle.ppq_words.specs.ppq_outside.declared.sink.Sink.{Ghosts as SinkShows}
use Rattle.ppq_words.specs.ppq_outside.Shown.{Shown}
use Rattle.ppq_words.specs.ppq_budget.Sizes.{Numbers, AreInRange}
use Rattle.ppq_words.proofs.ppq_outside.Replies.{no_replies}
use Rattle.ppq_words.specs.SimReading.{SimReading}
use Rattle.ppq_jobs.specs.ppq_engine.Refusal.{HasNoRoom}
use Rattle.ppq_jobs.specs.ppq_engine.Ends.{BeganCommands}
use Rattle.ppq_jobs.specs.ppq_engine.declared.end.End.{End}
use Rattle.ppq_jobs.specs.ppq_engine.declared.end.Ended.{Ended}
use Rattle.ppq_jobs.proofs.ppq_engine.Running.{takes_none}
use Rattle.ppq_jobs.proofs.ppq_engine.ppq_load.Refusals.{no_room-later}
use Rattle.ppq_jobs.proofs.Runs.{greatest-take}
use Rattle.ppq_jobs.specs.ppq_event.Going.{greatest}
use Rattle.ppq_jobs.specs.ppq_handler.Roster.{Place}
use Rattle.ppq_jobs.specs.ppq_handler.Agenda.{Run}
use Rattle.ppq_jobs.specs.Asked.{Asked, count_of, run_of, load_of_run, OfRun}
use Rattle.ppq_jobs.specs.Ending.{RanOut}
use Rattle.ppq_cli.specs.Budget.{plan_for}
use Rattle.ppq_cli.specs.DeviceFor.{LacksDevice}
use Rattle.ppq_cli.specs.SimOver.{SimsOver}
use Rattle.ppq_cli.specs.SimWords.{sim_device, sim_blocks}
use Rattle.ppq_cli.proofs.Making.{unmade_outside}

-- a device without room for what waited by some turn has none for all of the run
ran_out_above : (sizes : Numbers) (count : ℕ) (run : Run) (before now : Option (List ℕ)) → AreInRange sizes → RanOut sizes count run before now → HasNoRoom sizes false (load_of_run count run)
ran_out_above sizes count run before now range out =
    no_room-later sizes false false (greatest count (take out.turns run.waiting)) (load_of_run count run) (omega (arith, range.two_records)) (λ unlimited. unlimited) (greatest-take count out.turns run.waiting) out.room

module _ (told : Option (List ℕ → Option (List ℕ))) (asked : Asked) (places : List Place) (sizes : Numbers) (before now : Option (List ℕ)) where
  -- the same of the sizes that these are
  pub runs_out_of : (other : Numbers) → other ≡ sizes → OfRun told asked places (λ run. RanOut other (count_of asked) run before now) → OfRun told asked places (λ run. RanOut sizes (count_of asked) run before now)
  runs_out_of other same out = let P : Numbers → Type 0 = λ n. OfRun told asked places (λ run. RanOut n (count_of asked) run before now) in subst P same out

  pub above_load : AreInRange sizes → OfRun told asked places (λ run. RanOut sizes (count_of asked) run before now) → OfRun told asked places (λ run. HasNoRoom sizes false (load_of_run (count_of asked) run))
  above_load range out files is = ran_out_above sizes (count_of asked) (run_of files asked places) before now range (out files is)

-- no device was made, so nothing was asked or written
pub unmade_sims :
    {L K O S : Type 0} (library : LibraryShows L) (rack : RackShows K S) (sink : SinkShows O) (shown : S → Shown) (r : SimReading) (size : ℕ) (places : List Place) (held : L) (old_rack new_rack : K) (out : O) (ended : Ended S)
    → LacksDevice rack shown 24 (plan_for 24 r.given) r.device old_rack new_rack ended → SimsOver library rack sink shown r size places held held old_rack new_rack out out ended
unmade_sims library rack sink shown r size places held old_rack new_rack out ended lacks =
    let no : (end : End) → BeganCommands end → ended.end ≡ end → ⊥ = λ end began is. lacks.unbegun (subst BeganCommands (sym is) began) in
    record {
      done = λ is. absurd (no _ tt is);
      part = λ tells files told. takes_none (sink.told out) _;
      before = inr refl;
      full = λ is. absurd (no _ tt is);
      above = λ is. absurd (no _ tt is);
      full_any = λ is. absurd (no _ tt is);
      answer = lacks.answer;
      changed = λ line said got is. absurd (no _ tt is);
      asks = no_replies (library.replied held) _;
      outside = unmade_outside library rack sink shown sim_device sim_blocks (plan_for 24 r.given) 24 r (record { blocks = refl; size = refl }) old_rack new_rack ended held out lacks;
    }
