-- A plan of queues for a budget and a device, and a budget that is too small for it.
use Rattle.std.specs.Prelude.{◌≡◌, ◌<◌, ◌*◌, ℕ, Option, Some, None, if◌then◌else◌, nat_lt}
use Rattle.ppq_words.specs.ppq_budget.Sizes.{fixed_of}
use Rattle.ppq_words.specs.Given.{Given}
use Rattle.ppq_words.specs.Reading.{in_unit, sizes_for, half_sizes_for}
use Rattle.ppq_jobs.specs.ppq_engine.declared.end.End.{End}
use Rattle.ppq_jobs.specs.ppq_engine.declared.end.End.TheVariants.{BudgetTooSmall}
use Rattle.ppq_cli.specs.declared.plan.Plan.{Plan}

-- one queue for records of this width
abbrev pub plan_for : ℕ → Given → Plan
plan_for width given = record { sizes = sizes_for width given; blocks = (sizes_for width given).blocks; need = in_unit width given.unit (fixed_of (sizes_for width given)) }

-- two queues for such records, which have half of the device and half of the budget each
abbrev pub half_plan_for : ℕ → Given → Plan
half_plan_for width given = record { sizes = half_sizes_for width given; blocks = 2 * (half_sizes_for width given).blocks; need = in_unit width given.unit (2 * fixed_of (half_sizes_for width given)) }

-- the answer that refuses a budget below the fixed part of a queue, and none to another
abbrev pub refusal_by : Plan → Option End
refusal_by plan = if nat_lt plan.sizes.memory (fixed_of plan.sizes) then Some (BudgetTooSmall plan.need) else None

-- the budget is below the fixed part of a queue, and this is the least one
abbrev pub IsBelow : Plan → ℕ → Type 0
IsBelow plan need = (plan.sizes.memory < fixed_of plan.sizes) × (need ≡ plan.need)

-- the same of one queue
abbrev pub need_for : ℕ → Given → ℕ
need_for width given = (plan_for width given).need

abbrev pub refusal_for : ℕ → Given → Option End
refusal_for width given = refusal_by (plan_for width given)

abbrev pub IsBelowNeed : ℕ → Given → ℕ → Type 0
IsBelowNeed width given need = IsBelow (plan_for width given) need
