-- Where slots tell, as a sum: how many of them do not.
use Rattle.std.proofs.Common.{◌≡◌, ◌≤◌, List, sum_by, sym, ◌∙◌, arith}
use Rattle.ppq_fetch.specs.ppq_outside.Shown.{Shown, AllTell}
use Rattle.ppq_fetch.specs.ppq_array.Kept.{SameSums}
use Rattle.ppq_spill.specs.Untold.{untold}
pub use Rattle.ppq_fetch.proofs.Sums.{tell_sum, sum_tell}

-- slots that were only moved tell as before
pub tell_moved : (xs ys : List Shown) → SameSums xs ys → AllTell xs → AllTell ys
tell_moved xs ys same t = sum_tell ys (sym (same untold) ∙ tell_sum xs t)

-- slots of which fewer do not tell
pub tell_part : (xs ys : List Shown) → sum_by untold ys ≤ sum_by untold xs → AllTell xs → AllTell ys
tell_part xs ys h t = sum_tell ys (let e : sum_by untold ys ≡ 0 = omega (arith, h, tell_sum xs t) in e)
