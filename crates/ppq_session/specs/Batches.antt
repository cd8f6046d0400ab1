-- Lines that are pushed to the passes of a limit session.
use Rattle.std.specs.Prelude.{◌≡◌, ◌<◌, ◌^◌, false, List, length, map, All}
use Rattle.std.specs.declared.cmp.Ordering.{Ordering}
use Rattle.ppq_pass.specs.ppq_record.Order.{is_before}
use Rattle.ppq_pass.specs.ppq_outside.Shown.{Shown}
use Rattle.ppq_pass.specs.Passed.{IsOf}
use Rattle.ppq_pass.specs.declared.shared.Shared.{Shared}
use Rattle.ppq_session.specs.Dealing.{IsGoing, EachAdds, Dealt, records_in, records_for}
use Rattle.ppq_session.specs.declared.line.Line.{Line}
use Rattle.ppq_session.specs.Limited.{LimitHolding}
pub use Rattle.ppq_session.specs.Limited.{passes_of}

-- no record of the lines is below a limit
abbrev pub AreAbove : {R : Type 0} → (R → R → Ordering) → R → List (Line R) → Type 0
AreAbove cmp limit lines = All (λ line. is_before cmp line.record limit ≡ false) lines

module _ {S R : Type 0} where
  -- lines can be pushed to passes: each names one of them, its record is not below the limit, and no push of a pass was refused
  pub record MayPush (cmp : R → R → Ordering) (shared : Shared S R) (lines : List (Line R)) (passes : List (LimitHolding S R)) : Type 0 where
    pub some : 0 < length passes
    pub workers : length passes < 2 ^ 32
    pub named : All (λ line. line.pass < length passes) lines
    pub above : All (λ p. AreAbove cmp p.limit lines) passes
    pub of : All (λ p. IsOf shared p.pass) passes
    pub going : All (λ p. IsGoing p.pass) passes

  -- lines were pushed to passes: each was given the records of those that name it, and has its limit still
  pub record Pushed (shown : S → Shown) (lines : List (Line R)) (old new : List (LimitHolding S R)) : Type 0 where
    pub dealt : Dealt shown (records_in lines) (passes_of old) (passes_of new)
    pub each : EachAdds shown (λ pass. records_for pass lines) (passes_of old) (passes_of new)
    pub limits : map (λ p. p.limit) new ≡ map (λ p. p.limit) old
