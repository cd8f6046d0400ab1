-- What calls of the queue keep, one after the other.
use Rattle.std.proofs.Common.{◌≡◌, ◌≤◌, ◌∙◌, ℕ, List, refl, arith}
use Rattle.std.specs.Prelude.{Result, IsErrAnd}
use Rattle.ppq_script.specs.ppq_outside.Shown.{Shown}
use Rattle.ppq_load.specs.ppq_array.Kept.{AreQuiet}
use Rattle.ppq_load.specs.ppq_queue.Holding.{Holding, CountsFew}
use Rattle.ppq_load.specs.ppq_array.declared.store_fault.StoreFault.{StoreFault as QueueFault}
use Rattle.ppq_load.specs.ppq_array.declared.store_fault.StoreFault.TheVariants.{NoFreeBlock, Device}
use Rattle.ppq_load.specs.Refusal.{Keeps}
use Rattle.ppq_load.proofs.Counting.{few-to}
use Rattle.ppq_load.proofs.ppq_queue.Flushed.{keeps-slots, keeps-more}
use Rattle.ppq_engine.specs.Calls.{IsLent, SinkCounts}
use Rattle.ppq_engine.specs.Popping.{NotByFile}
use Rattle.ppq_engine.specs.Running.{StopsFor, QuietIfFull, StopsQuiet, SinkAfter}
use Rattle.ppq_engine.specs.declared.stop.Stop.{Stop}
use Rattle.ppq_engine.specs.declared.stop.Stop.TheVariants.{Queue}
use Rattle.ppq_engine.proofs.Results.{if-err, not-ok}

pub Keeps-refl : {R : Type 0} (q : Holding R) → Keeps q q
Keeps-refl q = keeps-slots q q refl refl refl

-- no call of a block failed before, nor at a refusal for want of a free block
module _ (first mid last : List Shown) (before : AreQuiet first mid) where
  pub quiet-then : (fault : QueueFault) → QuietIfFull mid last fault → QuietIfFull first last fault
  quiet-then NoFreeBlock now = now ∙ before
  quiet-then (Device number) now = tt

  -- nor at a stop
  pub stops-then : (stop : Stop) → StopsQuiet mid last stop → StopsQuiet first last stop
  stops-then (Queue fault) now = quiet-then fault now
  stops-then _ now = tt

-- what a command that stopped says of the queue, and of the sink
module _ {T : Type 0} (r : Result T Stop) (stop : Stop) (is : IsErrAnd r (λ x. x ≡ stop)) where
  pub lent-stop :
      {R U F : Type 0} {q : Result U F} (a b c : Holding R) (most pushes : ℕ) → Keeps a b → Keeps b c → c.peak ≤ most → CountsFew pushes 0 a c q → StopsFor c.peak c.sizes c.limited c.slots stop → StopsQuiet a.slots c.slots stop → NotByFile stop
      → IsLent a c most pushes r
  lent-stop {q = q} a b c most pushes h k peak counts why quiet by = record {
    kept = keeps-more a b c h k;
    peak = peak;
    counted = few-to a c q r (λ A holds. not-ok r (λ x. x ≡ stop) A is) counts;
    refused = if-err r stop (StopsFor c.peak c.sizes c.limited c.slots) is why;
    quiet = if-err r stop (StopsQuiet a.slots c.slots) is quiet;
    no_file = if-err r stop NotByFile is by;
  }

  pub sink-stop : (before now : ℕ) → before ≤ now → SinkAfter before now stop → SinkCounts before now r
  sink-stop before now later why = record { later = later; stays = not-ok r (λ x. x ≡ stop) (now ≡ before) is; cause = if-err r stop (SinkAfter before now) is why }

-- a peak that may be higher
pub lent-more : {R : Type 0} {T : Type 0} {a b : Holding R} {most more pushes : ℕ} {r : Result T Stop} → IsLent a b most pushes r → most ≤ more → IsLent a b more pushes r
lent-more l h = record { kept = l.kept; peak = omega (arith, l.peak, h); counted = l.counted; refused = l.refused; quiet = l.quiet; no_file = l.no_file }
