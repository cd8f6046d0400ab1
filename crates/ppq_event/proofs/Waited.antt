-- Calls of the queue, one after the other.
use Rattle.std.proofs.Common.{◌≡◌, ℕ, ◌*◌, ◌≤◌, List, [], ◌∷◌, ◌++◌, length, Option, Some, None, refl, ◌∙◌, arith, length-append}
use Rattle.std.specs.Prelude.{flat_map}
use Rattle.ppq_handler.specs.ppq_record.declared.triple.Triple.{Triple}
use Rattle.ppq_handler.specs.declared.outcome.Outcome.{Outcome}
use Rattle.ppq_handler.specs.Agenda.{some_of, follow_ups}
use Rattle.ppq_queue.proofs.ppq_heap.ppq_record.Order.{count_by-append}
use Rattle.ppq_queue.specs.Holding.{Holding, Keeps, IsRefusal}
use Rattle.ppq_queue.specs.ppq_array.declared.store_fault.StoreFault.{StoreFault as QueueFault}
use Rattle.ppq_queue.specs.ppq_array.declared.store_fault.StoreFault.TheVariants.{NoFreeBlock, Device}
use Rattle.ppq_queue.proofs.Flushed.{keeps-slots, keeps-more}
use Rattle.ppq_event.specs.Waiting.{IsSound, Refuses, HasGrown, HasRefused}

-- no more than two events follow from each answer
pub follow_few : (answers : List (Option Outcome)) → length (flat_map follow_ups answers) ≤ 2 * length answers
follow_few [] = omega arith
follow_few (a ∷ answers) = omega (arith, length-append (follow_ups a) (flat_map follow_ups answers), one a, follow_few answers)
  where
    some : (e : Option Triple) → length (some_of e) ≤ 1
    some None = omega arith
    some (Some e) = omega arith

    one : (a : Option Outcome) → length (follow_ups a) ≤ 2
    one None = omega arith
    one (Some o) = omega (arith, length-append (some_of o.first) (some_of o.second), some o.first, some o.second)

pub keeps_same : (q : Holding Triple) → Keeps q q
keeps_same q = keeps-slots q q refl refl refl

pub sound_more : (a b c : Holding Triple) → IsSound a b → IsSound b c → IsSound a c
sound_more a b c h k = record { sound = k.sound; quiet = k.quiet ∙ h.quiet }

-- nothing was added yet
pub grown_none : (q : Holding Triple) → q.failed ≡ None → HasGrown q q []
grown_none q sound = record {
  bag = λ tell p. omega (arith, count_by-append p q.bag []);
  size = omega arith;
  peak = omega arith;
  sound = record { sound = sound; quiet = refl };
  keeps = keeps_same q;
}

pub grown_more : (a b c : Holding Triple) (xs ys : List Triple) → HasGrown a b xs → HasGrown b c ys → HasGrown a c (xs ++ ys)
grown_more a b c xs ys h k = record {
  bag = λ tell p. omega (arith, h.bag tell p, k.bag (h.keeps.tells tell) p, count_by-append p a.bag xs, count_by-append p b.bag ys, count_by-append p a.bag (xs ++ ys), count_by-append p xs ys);
  size = omega (arith, h.size, k.size, length-append xs ys);
  peak = omega (arith, h.peak, k.peak, h.size, k.size);
  sound = sound_more a b c h.sound k.sound;
  keeps = keeps-more a b c h.keeps k.keeps;
}

pub refuses_more : (a b c : Holding Triple) (fault : QueueFault) → IsSound a b → Refuses b c fault → Refuses a c fault
refuses_more a b c NoFreeBlock h k = record { sound = sound_more a b c h k.sound; room = k.room; above = k.above }
refuses_more a b c (Device number) h k = k

-- a refusal after events were added
pub refused_more :
    (a b c : Holding Triple) (xs : List Triple) (most top : ℕ) (fault : QueueFault) → HasGrown a b xs → HasRefused b c most fault → b.size ≤ top → most ≤ top → HasRefused a c top fault
refused_more a b c xs most top fault h k low high = record {
  refuses = refuses_more a b c fault h.sound k.refuses;
  peak = omega (arith, h.peak, k.peak, low, high);
  keeps = keeps-more a b c h.keeps k.keeps;
}

-- what a refusal of the queue says
pub refuses_by : (a b : Holding Triple) (fault : QueueFault) → IsRefusal a b fault → Refuses a b fault
refuses_by a b NoFreeBlock h = record { sound = record { sound = h.sound; quiet = h.quiet }; room = h.room; above = h.above }
refuses_by a b (Device number) h = record { fault = h.fault; kept = h.kept }

pub refused_by : (a b : Holding Triple) (most : ℕ) (fault : QueueFault) → IsRefusal a b fault → b.peak ≡ a.peak → Keeps a b → HasRefused a b most fault
refused_by a b most fault h peak keeps = record { refuses = refuses_by a b fault h; peak = omega (arith, peak); keeps = keeps }
