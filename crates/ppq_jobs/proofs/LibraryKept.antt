-- What calls that read one file leave of a library.
use Rattle.std.proofs.Common.{ℕ, List, Option, refl, ◌∙◌}
use Rattle.ppq_sweep.specs.ppq_outside.Told.{Reply}
use Rattle.ppq_event.proofs.ppq_queue.ppq_outside.Replies.{no_replies, replies_then}
use Rattle.ppq_engine.specs.ppq_files.Reading.{IsReadWithin, ReadsFile}

module _ {L : Type 0} (files : L → Option (List ℕ → Option (List ℕ))) (replied : L → Reply → Type 0) (name : List ℕ) (end : ℕ) where
  -- nothing was asked
  pub reads-none : (library : L) → ReadsFile files replied name end library library
  reads-none library = record { told = refl; remembers = λ reply had. had; asks = no_replies (replied library) (IsReadWithin name end) }

  -- two calls, one after the other
  pub reads-then : (old mid new : L) → ReadsFile files replied name end old mid → ReadsFile files replied name end mid new → ReadsFile files replied name end old new
  reads-then old mid new first next = record {
    told = next.told ∙ first.told;
    remembers = λ reply had. next.remembers reply (first.remembers reply had);
    asks = replies_then (replied old) (replied mid) (replied new) (IsReadWithin name end) first.asks next.asks;
  }
