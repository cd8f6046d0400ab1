-- What passes accepted, as the pushes of a history that pool and row show.
use Rattle.std.specs.Prelude.{◌≡◌, ◌+◌, ◌-◌, ◌<◌, ℕ, zero, suc, Bool, true, false, List, [], ◌∷◌, ◌++◌, filter, length, take, get_or, All, None}
use Rattle.ppq_pass.specs.ppq_record.Bag.{IsSameBag}
use Rattle.ppq_pass.specs.ppq_outside.Shown.{Shown}
use Rattle.ppq_pass.specs.ppq_array.declared.berth.DeviceBlock.{DeviceBlock}
use Rattle.ppq_pass.specs.ppq_core.declared.event.Event.{Event}
use Rattle.ppq_pass.specs.ppq_core.declared.event.Event.TheVariants.{Take, Give, Draw, Push, Store}
use Rattle.ppq_pass.specs.ppq_core.History.{pushed_by}
use Rattle.ppq_pass.specs.declared.shared.PoolBuf.{PoolBuf}
use Rattle.ppq_pass.specs.Passed.{PassHolding, PassTells}
use Rattle.ppq_session.specs.BulkSession.{bag_of}
use Rattle.ppq_session.specs.Dealing.{IsGoing, HasNoFault, EachAdds}
use Rattle.ppq_session.specs.OneHistory.{PoolAndRow, Seating, ShowsTogether}

module _ {R : Type 0} where
  -- the event is no push
  abbrev pub is_no_push : Event R → Bool
  is_no_push (Take p b) = true
  is_no_push (Give p b) = true
  is_no_push (Draw p s) = true
  is_no_push (Push p r) = false
  is_no_push (Store p s) = true

  -- a history without its pushes
  abbrev pub without_pushes : List (Event R) → List (Event R)
  without_pushes h = filter is_no_push h

  -- each push of it is by one of so many passes
  abbrev pub ArePushesOf : ℕ → List (Event R) → Type 0
  ArePushesOf passes [] = Unit {0}
  ArePushesOf passes (Take p b ∷ h) = ArePushesOf passes h
  ArePushesOf passes (Give p b ∷ h) = ArePushesOf passes h
  ArePushesOf passes (Draw p s ∷ h) = ArePushesOf passes h
  ArePushesOf passes (Push p r ∷ h) = (p < passes) × ArePushesOf passes h
  ArePushesOf passes (Store p s ∷ h) = ArePushesOf passes h

  -- what so many passes pushed, of which this is the first
  abbrev pub pushed_from : ℕ → ℕ → List (Event R) → List R
  pushed_from p zero h = []
  pushed_from p (suc n) h = pushed_by p h ++ pushed_from (suc p) n h

module _ {S R : Type 0} (shown : S → Shown) where
  -- The pushes of the pass p are just what it accepted since it was the first one: as many as it counts more, and its records are these and those that
  -- it had, if no call of a slot failed and slots tell
  pub record HasPushed (p : ℕ) (h : List (Event R)) (first now : PassHolding S R) : Type 0 where
    pub count : now.accepted ≡ first.accepted + length (pushed_by p h)
    pub tells : PassTells shown first → PassTells shown now
    pub bag : now.failed ≡ None → PassTells shown first → IsSameBag now.bag (pushed_by p h ++ first.bag)

  -- the same of each of several passes
  pub record HavePushed (h : List (Event R)) (firsts nows : List (PassHolding S R)) : Type 0 where
    pub count : length nows ≡ length firsts
    pub each : (p : ℕ) (d : PassHolding S R) → p < length firsts → HasPushed p h (get_or firsts p d) (get_or nows p d)

-- Pushes may stand anywhere: a history that differs by pushes alone, each by a pass of the session, is shown too
abbrev pub PushesStandAnywhere : Type 0 → Type 0 → Type 0 → Type 0
PushesStandAnywhere B S R = (x : Seating B S) (s : PoolAndRow B S) (h k : List (Event R)) → ShowsTogether x s h → without_pushes k ≡ without_pushes h → ArePushesOf x.passes k → ShowsTogether x s k

module _ (S R : Type 0) (shown : S → Shown) where
  -- passes to which nothing was given yet have pushed nothing
  abbrev pub NothingIsPushed : Type 0
  NothingIsPushed = (firsts : List (PassHolding S R)) (h : List (Event R)) → HavePushed shown (without_pushes h) firsts firsts

  -- In the history h the passes have pushed what they accepted, and then they were given records, each its own. Whatever history g pool and row show
  -- now, there is one with the same takes, gives, draws and stores in which they have pushed what they accepted. It has the pushes of h, and after
  -- them, of each pass, those of its records that it accepted now, in their order
  abbrev pub GivenArePushed : Type 0
  GivenArePushed =
      (x : Seating (PoolBuf R) (DeviceBlock S R)) (s : PoolAndRow (PoolBuf R) (DeviceBlock S R)) (firsts olds news : List (PassHolding S R)) (records_of : ℕ → List R) (h g : List (Event R))
      → length firsts ≡ x.passes
      → HavePushed shown h firsts olds
      → All IsGoing olds
      → EachAdds shown records_of olds news
      → ShowsTogether x s g
      → (k : List (Event R)) × ShowsTogether x s k × (without_pushes k ≡ without_pushes g) × HavePushed shown k firsts news
      × ((p : ℕ) (d : PassHolding S R) → p < x.passes → pushed_by p k ≡ pushed_by p h ++ take ((get_or news p d).accepted - (get_or olds p d).accepted) (records_of p))

  -- where slots tell and no call of one failed, the passes have what they had and all that was pushed
  abbrev pub PushedAreAdded : Type 0
  PushedAreAdded = (firsts nows : List (PassHolding S R)) (h : List (Event R)) → HavePushed shown h firsts nows → All HasNoFault nows → All (PassTells shown) firsts → IsSameBag (bag_of nows) (pushed_from 0 (length firsts) h ++ bag_of firsts)
