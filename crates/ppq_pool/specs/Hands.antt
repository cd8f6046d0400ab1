-- What a seat knows, and how each step changes it.
use Rattle.std.specs.Prelude.{ℕ, zero, suc, ◌+◌, ◌-◌, ◌==◌, List, [], ◌∷◌, ◌++◌, if◌then◌else◌, Option, Some, None}
use Rattle.ppq_pool.specs.declared.hand.Hand.{Hand}
use Rattle.ppq_pool.specs.declared.hand.Move.{Move}
use Rattle.ppq_pool.specs.declared.hand.Move.TheVariants.{Took, Gave, Saw}
use Rattle.ppq_table.specs.Sums.{all_shares}

-- one look at each item below n, in the order of their numbers, each of which found it held; the newest look first
abbrev pub looks_below : ℕ → List Move
looks_below zero = []
looks_below (suc n) = Saw n ∷ looks_below n

-- the first of the moments, which is the newest; 0 where there is none
abbrev pub newest : List ℕ → ℕ
newest [] = 0
newest (moment ∷ moments) = moment

-- the first of the members i is taken out
abbrev pub without : ℕ → List ℕ → List ℕ
without i [] = []
without i (x ∷ xs) = if x == i then xs else x ∷ without i xs

module _ {T : Type 0} where
  -- when the seat made its newest move
  abbrev pub last_moment : Hand T → ℕ
  last_moment v = newest v.moments

  -- the items with their numbers, which count up from n
  abbrev pub numbered : ℕ → List T → List (ℕ × T)
  numbered n [] = []
  numbered n (x ∷ xs) = (n, x) ∷ numbered (n + 1) xs

  -- the shape of the first, which all have; 0 where there is none
  abbrev pub common_shape : (T → ℕ) → List T → ℕ
  common_shape shape_of [] = 0
  common_shape shape_of (x ∷ xs) = shape_of x

  -- the pairs with other numbers
  abbrev pub elsewhere : ℕ → List (ℕ × T) → List (ℕ × T)
  elsewhere i [] = []
  elsewhere i (p ∷ ps) = if p.0 == i then elsewhere i ps else p ∷ elsewhere i ps

  -- the first seat of a pool of these items
  abbrev pub first_hand : ℕ → List T → Hand T
  first_hand shape items = record { shares = all_shares; shape = shape; numbers = []; put = numbered 0 items; moves = []; trail = []; moments = []; joins = 0; in_hand = None }

  -- a seat after a split
  abbrev pub less_one : Hand T → Hand T
  less_one v = record v { shares = v.shares - 1 }

  -- the seat that was split off: one share, and nothing taken, put in or found
  abbrev pub newcomer : Hand T → Hand T
  newcomer v = record { shares = 1; shape = v.shape; numbers = []; put = []; moves = []; trail = []; moments = []; joins = 0; in_hand = None }

  -- two seats in one. The trail is that of the first
  abbrev pub together : Hand T → Hand T → Hand T
  together v w = record v { shares = v.shares + w.shares; numbers = v.numbers ++ w.numbers; put = v.put ++ w.put; moves = w.moves ++ v.moves; joins = v.joins + w.joins + 1 }

  -- 1 for a view that is void, and else 0
  abbrev pub one_if_void : Hand T → ℕ
  one_if_void v = if v.shares == 0 then 1 else 0

  -- what a seat that was joined leaves behind
  abbrev pub void_hand : Hand T
  void_hand = record { shares = 0; shape = 0; numbers = []; put = []; moves = []; trail = []; moments = []; joins = 0; in_hand = None }

  -- the item i was found free at this moment and is held now, with its place in hand
  abbrev pub with_claim : ℕ → ℕ → Hand T → Hand T
  with_claim moment i v =
      record v { numbers = v.numbers ++ i ∷ []; put = elsewhere i v.put; moves = Took i ∷ v.moves; trail = Took i ∷ v.trail; moments = moment ∷ v.moments; in_hand = Some i }

  -- the item i was found held at this moment
  abbrev pub with_look : ℕ → ℕ → Hand T → Hand T
  with_look moment i v = record v { trail = Saw i ∷ v.trail; moments = moment ∷ v.moments }

  -- another place is in hand, or none
  abbrev pub with_place : Option ℕ → Hand T → Hand T
  with_place place v = record v { in_hand = place }

  -- the item x was put in at this moment with the number i, which is held no more
  abbrev pub with_give : ℕ → ℕ → T → Hand T → Hand T
  with_give moment i x v =
      record v { numbers = without i v.numbers; put = v.put ++ (i, x) ∷ []; moves = Gave i ∷ v.moves; trail = Gave i ∷ v.trail; moments = moment ∷ v.moments; in_hand = None }
