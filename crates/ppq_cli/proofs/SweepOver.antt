-- What `sweep_over` says where no device was made, and how its end follows from that of a sweep over a device.
use Rattle.std.proofs.Common.{◌≡◌, ◌∙◌, inl, inr, ℕ, suc, ◌≤◌, Bool, true, false, List, [], ◌∷◌, Option, Some, refl, sym, subst, arith}
use Rattle.std.specs.Prelude.{◌⊎◌, if◌then◌else◌}
use Rattle.ppq_words.specs.ppq_outside.declared.library.Library.{Ghosts as LibraryShows}
use Rattle.ppq_words.specs.ppq_outside.declared.rack.Rack.{Ghosts as RackShows}
use Rattle.ppq_words.specs.ppq_outside.declared.sink.Sink.{Ghosts as SinkShows}
use Rattle.ppq_words.specs.ppq_outside.Shown.{Shown}
use Rattle.ppq_words.specs.ppq_outside.Told.{Reply}
use Rattle.ppq_words.specs.ppq_script.ppq_record.declared.pair.Pair.{Pair}
use Rattle.ppq_words.specs.ppq_script.ppq_record.Pair.{pair_of}
use Rattle.ppq_words.specs.ppq_budget.Sizes.{Numbers, fixed_of}
use Rattle.ppq_words.proofs.ppq_outside.Replies.{no_replies}
use Rattle.ppq_words.specs.SweepReading.{SweepReading}
use Rattle.ppq_jobs.specs.Edges.{Wanted, is_edge, first_bad_from, FindsBad}
use Rattle.ppq_jobs.specs.ppq_engine.ppq_load.Given.{records_of}
use Rattle.ppq_jobs.specs.ppq_engine.Ends.{BeganCommands, BeganOrRefused, budget_refusal}
use Rattle.ppq_jobs.specs.ppq_engine.declared.end.End.{End}
use Rattle.ppq_jobs.specs.ppq_engine.declared.end.End.TheVariants.{NoDevice, BadEdge}
use Rattle.ppq_jobs.specs.ppq_engine.declared.end.Ended.{Ended}
use Rattle.ppq_jobs.proofs.ppq_engine.Running.{takes_none}
use Rattle.ppq_cli.specs.declared.plan.Plan.{Plan}
use Rattle.ppq_cli.specs.Budget.{half_plan_for, refusal_by}
use Rattle.ppq_cli.specs.Device.{ComesBeforeBlocks, HasNoBlock}
use Rattle.ppq_cli.specs.DeviceFor.{LacksDevice}
use Rattle.ppq_cli.specs.RunWords.{IsTriedOrRefusal}
use Rattle.ppq_cli.specs.SweepOver.{IsSweptOrRefusal, SweepsOver}
use Rattle.ppq_cli.specs.SweepWords.{sweep_device, sweep_blocks}
use Rattle.ppq_cli.proofs.Ends.{ways}
use Rattle.ppq_cli.proofs.Making.{begun_answer, run_made, run_unrefused, unmade_by, unmade_outside}

-- a sweep over queues of these sizes was begun, or its budget is too small, or a record is no edge
abbrev IsSwept : Numbers → End → Type 0
IsSwept sizes end = BeganOrRefused (budget_refusal sizes) end ⊎ ((at : ℕ) × (end ≡ BadEdge at))

-- so it has a device
pub swept_made : (sizes : Numbers) (end : End) → IsSwept sizes end → end ≡ NoDevice → ⊥
swept_made sizes end (inl answer) is = run_made sizes end answer is
swept_made sizes end (inr (at, bad)) is = let other : BadEdge at ≡ NoDevice = sym bad ∙ is in cc

-- and where the budget is large enough, its end is none of a refusal
pub swept_unrefused : (sizes : Numbers) (end : End) → fixed_of sizes ≤ sizes.memory → IsSwept sizes end → ((at : ℕ) → end ≡ BadEdge at → 1 ≤ at) → HasNoBlock end → ⊥
swept_unrefused sizes end enough (inl answer) counted none = run_unrefused sizes end enough answer none
swept_unrefused sizes end enough (inr (at, bad)) counted none = elim (unmade_by end none) as (λ _. ⊥) [
  | inl refused ↦ subst ComesBeforeBlocks bad refused
  | inr is ↦ absurd (omega (arith, counted 0 is))
]

-- records are counted from 1
by_edge : (edge : Bool) (first at : ℕ) (rest : Option ℕ) → (rest ≡ Some at → first ≤ at) → (if edge then rest else Some first) ≡ Some at → first ≤ at
by_edge true first at rest later is = later is
by_edge false first at rest later is = let here : first ≡ at = cc in omega (arith, here)

bad_from : (nodes first at : ℕ) (records : List Pair) → first_bad_from nodes first records ≡ Some at → first ≤ at
bad_from nodes first at [] is = cc
bad_from nodes first at (r ∷ records) is = by_edge (is_edge nodes r) first at (first_bad_from nodes (suc first) records) (λ same. omega (arith, bad_from nodes (suc first) at records same)) is

pub bad_counted : (told : Option (List ℕ → Option (List ℕ))) (replied : Reply → Type 0) (wanted : Wanted) (at : ℕ) → FindsBad told replied wanted at → 1 ≤ at
bad_counted told replied wanted at bad = bad_from wanted.nodes 1 at (records_of pair_of 16 bad.bytes) bad.bad

-- it was tried or refused, or a record is no edge
pub swept_answer : (plan : Plan) (end : End) → fixed_of plan.sizes ≤ plan.sizes.memory → IsSwept plan.sizes end → IsSweptOrRefusal plan end
swept_answer plan end enough (inl answer) = inl (begun_answer plan end enough answer)
swept_answer plan end enough (inr bad) = inr (enough, bad)

-- without a device no record was looked at
unmade_good : (plan : Plan) (end : End) (at : ℕ) → IsTriedOrRefusal (refusal_by plan) end → end ≡ BadEdge at → ⊥
unmade_good plan end at answer is =
    let P : End → Type 0 = λ e. IsTriedOrRefusal (refusal_by plan) e in
    elim (ways plan (BadEdge at) (subst P is answer)) as (λ _. ⊥) [ inl (small, other) ↦ cc | inr (inl (large, inl began)) ↦ began | inr (inl (large, inr other)) ↦ cc | inr (inr other) ↦ cc ]

-- no device was made, so nothing was asked or written
pub unmade_sweeps :
    {L K O S : Type 0} (library : LibraryShows L) (rack : RackShows K S) (sink : SinkShows O) (shown : S → Shown) (r : SweepReading) (size : ℕ) (held : L) (old_rack new_rack : K) (out : O) (ended : Ended S)
    → LacksDevice rack shown 16 (half_plan_for 16 r.given) r.device old_rack new_rack ended → SweepsOver library rack sink shown r size held held old_rack new_rack out out ended
unmade_sweeps library rack sink shown r size held old_rack new_rack out ended lacks =
    let no : (end : End) → BeganCommands end → ended.end ≡ end → ⊥ = λ end began is. lacks.unbegun (subst BeganCommands (sym is) began) in
    record {
      done = λ is. absurd (no _ tt is);
      part = λ tells files told. takes_none (sink.told out) _;
      before = inr refl;
      full = λ is. absurd (no _ tt is);
      answer = inl lacks.answer;
      bad = λ at is. absurd (unmade_good (half_plan_for 16 r.given) ended.end at lacks.answer is);
      good = λ either. absurd (elim either as (λ _. ⊥) [ inl is ↦ no _ tt is | inr is ↦ no _ tt is ]);
      changed = λ line said got is. absurd (no _ tt is);
      asks = no_replies (library.replied held) _;
      outside = unmade_outside library rack sink shown sweep_device sweep_blocks (half_plan_for 16 r.given) 16 r (record { blocks = refl; size = refl }) old_rack new_rack ended held out lacks;
    }
