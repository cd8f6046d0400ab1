-- What handlers do with events.
use Rattle.std.specs.Prelude.{ℕ, ◌+◌, ◌-◌, ◌/◌, ◌%◌, ◌^◌, Bool, false, cond, nat_lt, nat_eq, Option, Some, None}
use Rattle.ppq_record.specs.declared.triple.Triple.{Triple}
use Rattle.ppq_handler.specs.declared.kind.Kind.{Kind}
use Rattle.ppq_handler.specs.declared.kind.Kind.TheVariants.{Count, Relay, Fork, Mortal}
use Rattle.ppq_handler.specs.declared.outcome.Outcome.{Outcome}

-- what is told of a handler: its kind, and the number that it keeps
pub record Standing : Type 0 where
  pub kind : Kind
  pub kept : ℕ

abbrev pub standing : Kind → ℕ → Standing
standing kind kept = record { kind = kind; kept = kept }

abbrev pub event : ℕ → ℕ → ℕ → Triple
event time target word = record { time = time; target = target; word = word }

-- the event, unless its time is too late for eight bytes
abbrev pub in_time : Triple → Option Triple
in_time e = cond (nat_lt e.time (2 ^ 64)) (Some e) None

-- the event so many ticks later for the place so many further on
abbrev pub ahead : ℕ → ℕ → ℕ → ℕ → ℕ → Option Triple
ahead by now me peers word = in_time (event (now + by) ((me + by) % peers) word)

-- the number that a handler keeps after a word
abbrev pub kept_after : Kind → ℕ → ℕ → ℕ
kept_after Count kept word = (kept + word) % 2 ^ 64
kept_after Relay kept word = (kept + 1) % 2 ^ 64
kept_after Fork kept word = word
kept_after Mortal kept word = (kept + 1) % 2 ^ 64

abbrev pub outcome : ℕ → Option Triple → Option Triple → Bool → Outcome
outcome reply first second retire = record { reply = reply; first = first; second = second; retire = retire }

-- what a handler answers
abbrev pub outcome_of : Kind → ℕ → ℕ → ℕ → ℕ → ℕ → Outcome
outcome_of Count kept now me peers word = outcome ((kept + word) % 2 ^ 64) None None false
outcome_of Relay kept now me peers word = outcome word (cond (nat_lt 0 word) (ahead 1 now me peers (word - 1)) None) None false
outcome_of Fork kept now me peers word = outcome kept (cond (nat_lt 1 word) (ahead 1 now me peers (word / 2)) None) (cond (nat_lt 1 word) (ahead 2 now me peers (word / 2)) None) false
outcome_of Mortal kept now me peers word = outcome ((kept + 1) % 2 ^ 64) None None (nat_eq word 0)

-- a handler after a word
abbrev pub after_word : Standing → ℕ → Standing
after_word h word = standing h.kind (kept_after h.kind h.kept word)

-- what a handler answers to an event of this time and word, in the place `me` of `peers`
abbrev pub answer_by : Standing → ℕ → ℕ → ℕ → ℕ → Outcome
answer_by h now me peers word = outcome_of h.kind h.kept now me peers word
