-- What stays of a library, one command after the other.
use Rattle.std.proofs.Common.{◌≡◌, ℕ, List, Option, refl, ◌∙◌, subst, arith}
use Rattle.std.specs.Prelude.{Result, Err}
use Rattle.ppq_script.specs.ppq_outside.Told.{Reply}
use Rattle.ppq_script.proofs.ppq_outside.Replies.{no_replies, replies_then}
use Rattle.ppq_engine.specs.Calls.{LibraryStays, LibraryCounts}
use Rattle.ppq_script.specs.Reading.{Reading}
use Rattle.ppq_engine.specs.Files.{IsReadInScript}
use Rattle.ppq_engine.specs.Running.{LibraryAfter, ChangedIn}
use Rattle.ppq_engine.specs.declared.stop.Stop.{Stop}
use Rattle.ppq_engine.proofs.Results.{at-err}

-- it was not asked
pub library-none : {R : Type 0} (told : Option (List ℕ → Option (List ℕ))) (replied : Reply → Type 0) (script : Reading R) (count : ℕ) → LibraryStays told told replied replied script count count
library-none told replied script count = record { told = refl; remembers = λ reply had. had; asks = no_replies replied (IsReadInScript script); later = omega arith }

-- whatever a command answers
pub library-stays :
    {R : Type 0} {T : Type 0} {told now : Option (List ℕ → Option (List ℕ))} {replied replied_now : Reply → Type 0} {script : Reading R} {before after : ℕ} {r : Result T Stop}
    → LibraryCounts told now replied replied_now script before after r → LibraryStays told now replied replied_now script before after
library-stays c = record { told = c.told; remembers = c.remembers; asks = c.asks; later = c.later }

module _ {R : Type 0} {told mid now : Option (List ℕ → Option (List ℕ))} {replied replied_mid replied_now : Reply → Type 0} {script : Reading R} {before between after : ℕ} where
  pub library-then : LibraryStays told mid replied replied_mid script before between → LibraryStays mid now replied_mid replied_now script between after → LibraryStays told now replied replied_now script before after
  library-then h k = record {
    told = k.told ∙ h.told;
    remembers = λ reply had. k.remembers reply (h.remembers reply had);
    asks = replies_then replied replied_mid replied_now (IsReadInScript script) h.asks k.asks;
    later = omega (arith, h.later, k.later);
  }

  -- a command stopped behind others that did not
  pub library-stop :
      {T U : Type 0} (r : Result T Stop) (stop : Stop) → r ≡ Err stop → LibraryStays told mid replied replied_mid script before between → between ≡ before → LibraryCounts mid now replied_mid replied_now script between after r
      → LibraryCounts {T = U} told now replied replied_now script before after (Err stop)
  library-stop r stop is h same k =
      let all = library-then h (library-stays k) in
      record {
        told = all.told;
        remembers = all.remembers;
        asks = all.asks;
        later = all.later;
        stays = tt;
        cause = let P : ℕ → Type 0 = λ n. LibraryAfter n after stop in subst P same (at-err r stop (LibraryAfter between after) is k.cause);
        changed = let P : Option (List ℕ → Option (List ℕ)) → Type 0 = λ t. ChangedIn t replied_now script stop in subst P h.told (at-err r stop (ChangedIn mid replied_now script) is k.changed);
      }
