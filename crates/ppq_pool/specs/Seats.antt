-- What a clause says of a pool and its seats.
use Rattle.std.specs.Prelude.{◌≡◌, ℕ, zero, suc, ◌-◌, ◌<◌, ◌==◌, if◌then◌else◌, List, [], ◌∷◌, ◌++◌, All, Contains, map, length}
use Rattle.atomic_table.specs.Seated.{TableId}
use Rattle.ppq_table.specs.Sums.{times, all_shares}
use Rattle.ppq_pool.specs.declared.hand.Hand.{Hand}
use Rattle.ppq_pool.specs.declared.hand.Move.{Move}
use Rattle.ppq_pool.specs.declared.hand.Move.TheVariants.{Took, Gave, Saw}
use Rattle.ppq_pool.specs.Hands.{looks_below, elsewhere}
use Rattle.ppq_pool.specs.Known.{Known}

-- how many items the pool has, at home or held
abbrev pub count_of : TableId → ℕ
count_of pool = pool.slots - 1

-- the numbers below n that stand not in the list, in order
abbrev pub others_below : ℕ → List ℕ → List ℕ
others_below zero held = []
others_below (suc n) held = others_below n held ++ (if times n held == 0 then n ∷ [] else [])

-- the move is a look, which found an item held
abbrev pub IsLook : Move → Type 0
IsLook (Took i) = ⊥
IsLook (Gave i) = ⊥
IsLook (Saw i) = Unit {0}

module _ {T : Type 0} where
  abbrev pub IsSeatOf : TableId → Known T → Type 0
  IsSeatOf pool seat = seat.pool ≡ pool

  abbrev pub Holds : Hand T → ℕ → Type 0
  Holds v i = 0 < times i v.numbers

  -- it has all shares, so no other seat is left
  abbrev pub IsOnly : Hand T → Type 0
  IsOnly v = v.shares ≡ all_shares

  -- the item i, which it did not hold, is held now. That is its one move
  pub record Takes (v : Hand T) (i : ℕ) (w : Hand T) : Type 0 where
    pub was_free : times i v.numbers ≡ 0
    pub numbers : w.numbers ≡ v.numbers ++ i ∷ []
    pub moves : w.moves ≡ Took i ∷ v.moves
    pub put : w.put ≡ elsewhere i v.put
    pub shares : w.shares ≡ v.shares
    pub shape : w.shape ≡ v.shape
    pub joins : w.joins ≡ v.joins
    -- after it on the trail stand the looks that this call made before, and then what stood there
    pub trail : (looks : List Move) × All IsLook looks × (w.trail ≡ Took i ∷ looks ++ v.trail)

  -- One look of its own at each of n items, all at moments after what stood on its trail before, found the item held. Nothing else changed
  pub record FoundHeld (n : ℕ) (v w : Hand T) : Type 0 where
    pub same : w ≡ record v { trail = w.trail; moments = w.moments }
    pub looked : w.trail ≡ looks_below n ++ v.trail
    pub moments : (new : List ℕ) × (length new ≡ n) × (w.moments ≡ new ++ v.moments)

  -- of n items these are the ones that it does not hold, in the order of their numbers, and each was put in with its number
  abbrev pub IsLeft : ℕ → Hand T → List T → Type 0
  IsLeft n v items = (pairs : List (ℕ × T)) × (map (λ p. p.1) pairs ≡ items) × (map (λ p. p.0) pairs ≡ others_below n v.numbers) × All (Contains v.put) pairs
