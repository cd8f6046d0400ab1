-- What a read of a slot that is not trusted gave: bytes that have the sum which is kept are those that the slot was given.
use Rattle.std.proofs.Common.{ℕ, List, Option, Some, None, refl, sym, ap, ◌∙◌}
use Rattle.ppq_outside.specs.Told.{Keeps}
use Rattle.ppq_checked.specs.Kept.{HasSum, HoldsSum}
use Rattle.ppq_checked.specs.Untrusted.{SameOrNoticed}

pub given_is : (kept : Option ℕ) (told : Option (List ℕ)) (bytes : List ℕ) → HoldsSum kept told → HasSum kept bytes → SameOrNoticed told bytes → Keeps told told bytes
given_is None told bytes holds has same = absurd has
given_is (Some kept) None bytes holds has same = refl
given_is (Some kept) (Some given) bytes holds has same = ap Some (sym (same (has ∙ sym holds)))
