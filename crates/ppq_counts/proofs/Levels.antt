-- What a store and a merge of a level do to an account, told by levels and lengths of runs.
use Rattle.std.proofs.Common.{◌≡◌, ℕ, suc, min, ◌+◌, ◌-◌, ◌*◌, ◌<◌, ◌≤◌, List, [], ◌∷◌, ◌++◌, length, sum_by, All, refl, ap, ◌∙◌, arith, IsPermutation}
use Rattle.std.proofs.Math.Nat.{pow-suc, mul-le-mul_left, mul_comm}
use Rattle.std.proofs.lemmas.List.Sums.{sum_by-cons, sum_by-append}
use Rattle.std.proofs.lemmas.List.Sorted.{sum_by-IsPermutation}
use Rattle.std.proofs.lemmas.List.Elements.{All-head, All-tail}
use Rattle.ppq_counts.specs.Tally.{last}
use Rattle.ppq_counts.specs.Account.{toll, heft, too_heavy, tolls, hefts, blocks_of, account, Costs, Stops}

-- a run of a level is as heavy as 8 of the level below
pub heft-suc : (l : ℕ) → heft (suc l) ≡ 8 * heft l
unfolding heft
heft-suc l = omega (arith, pow-suc 8 l)

pub heft-zero : heft 0 ≡ 1
unfolding heft
heft-zero = refl

-- writing so many blocks costs no more than the records in them and a block
pub blocks-cost : (block k records : ℕ) → k * block < records + block → 7 * (block * k) ≤ 7 * (records + block)
blocks-cost block k records few = omega (arith, few, mul_comm block k)

module _ {X : Type 0} (level size : X → ℕ) where
  abbrev f : ℕ → X → ℕ
  f block x = toll block (level x) (size x)

  abbrev w : X → ℕ
  w x = heft (level x)

  -- what they are, as sums
  pub tolls-sum : (block : ℕ) (xs : List X) → tolls level size block xs ≡ sum_by (f block) xs
  unfolding tolls
  tolls-sum block xs = refl

  pub hefts-sum : (xs : List X) → hefts level size xs ≡ sum_by w xs
  unfolding hefts
  hefts-sum xs = refl

  -- of one run more
  tolls-cons : (block : ℕ) (x : X) (xs : List X) → tolls level size block (x ∷ xs) ≡ f block x + tolls level size block xs
  tolls-cons block x xs = omega (arith, tolls-sum block (x ∷ xs), tolls-sum block xs, sum_by-cons (f block) x xs)

  hefts-cons : (x : X) (xs : List X) → hefts level size (x ∷ xs) ≡ w x + hefts level size xs
  hefts-cons x xs = omega (arith, hefts-sum (x ∷ xs), hefts-sum xs, sum_by-cons w x xs)

  -- of two lists
  pub tolls-append : (block : ℕ) (xs ys : List X) → tolls level size block (xs ++ ys) ≡ tolls level size block xs + tolls level size block ys
  tolls-append block xs ys = omega (arith, tolls-sum block (xs ++ ys), tolls-sum block xs, tolls-sum block ys, sum_by-append (f block) xs ys)

  pub hefts-append : (xs ys : List X) → hefts level size (xs ++ ys) ≡ hefts level size xs + hefts level size ys
  hefts-append xs ys = omega (arith, hefts-sum (xs ++ ys), hefts-sum xs, hefts-sum ys, sum_by-append w xs ys)

  -- of a list with one run more at its end
  tolls-push : (block : ℕ) (xs : List X) (x : X) → tolls level size block (xs ++ x ∷ []) ≡ tolls level size block xs + f block x
  tolls-push block xs x = omega (arith, tolls-append block xs (x ∷ []), tolls-sum block (x ∷ []), sum_by-cons (f block) x [])

  hefts-push : (xs : List X) (x : X) → hefts level size (xs ++ x ∷ []) ≡ hefts level size xs + w x
  hefts-push xs x = omega (arith, hefts-append xs (x ∷ []), hefts-sum (x ∷ []), sum_by-cons w x [])

  -- of the same runs in another order
  pub tolls-moved : (block : ℕ) (xs ys : List X) → IsPermutation xs ys → tolls level size block ys ≡ tolls level size block xs
  tolls-moved block xs ys p = omega (arith, tolls-sum block xs, tolls-sum block ys, sum_by-IsPermutation (f block) xs ys p)

  pub hefts-moved : (xs ys : List X) → IsPermutation xs ys → hefts level size ys ≡ hefts level size xs
  hefts-moved xs ys p = omega (arith, hefts-sum xs, hefts-sum ys, sum_by-IsPermutation w xs ys p)

  tolls-nil : (block : ℕ) → tolls level size block [] ≡ 0
  tolls-nil block = tolls-sum block []

  hefts-nil : hefts level size [] ≡ 0
  hefts-nil = hefts-sum []

  -- of runs of one level
  pub tolls-level : (block l : ℕ) (xs : List X) → All (λ x. level x ≡ l) xs → tolls level size block xs ≡ 7 * ((7 - l) * sum_by size xs) + length xs * block
  tolls-level block l [] all = omega (arith, tolls-nil block)
  tolls-level block l (x ∷ xs) all =
      let P : X → Type 0 = λ x. level x ≡ l in
      let here : toll block (level x) (size x) ≡ toll block l (size x) = ap (λ k. toll block k (size x)) (All-head P x xs all) in
      let product : (7 - l) * sum_by size (x ∷ xs) ≡ (7 - l) * size x + (7 - l) * sum_by size xs = ap (λ k. (7 - l) * k) (sum_by-cons size x xs) ∙ (omega arith) in
      omega (arith, tolls-cons block x xs, here, product, tolls-level block l xs (All-tail P x xs all))

  pub hefts-level : (l : ℕ) (xs : List X) → All (λ x. level x ≡ l) xs → hefts level size xs ≡ length xs * heft l
  hefts-level l [] all = omega (arith, hefts-nil)
  hefts-level l (x ∷ xs) all =
      let P : X → Type 0 = λ x. level x ≡ l in
      let here : heft (level x) ≡ heft l = ap heft (All-head P x xs all) in
      omega (arith, hefts-cons x xs, here, hefts-level l xs (All-tail P x xs all))

  -- what runs owe, as two sums: the levels that are above their records, and how many runs there are
  pub tolls-parts : (block : ℕ) (xs : List X) → tolls level size block xs ≡ 7 * sum_by (λ x. (7 - level x) * size x) xs + length xs * block
  tolls-parts block [] = omega (arith, tolls-nil block)
  tolls-parts block (x ∷ xs) = omega (arith, tolls-cons block x xs, sum_by-cons (λ x. (7 - level x) * size x) x xs, tolls-parts block xs)

  -- runs that are not too heavy have fewer than 8 of level 7
  pub few-top : (others inputs : List X) → length inputs ≡ 8 → All (λ x. level x ≡ 7) inputs → hefts level size (others ++ inputs) < too_heavy → ⊥
  few-top others inputs eight all light = omega (arith, light, hefts-append others inputs, hefts-level 7 inputs all, ap (λ k. k * heft 7) eight)

  -- a run of the same level with no more records owes no more
  pub toll-fewer : (block : ℕ) (x y : X) → level y ≡ level x → size y ≤ size x → toll block (level y) (size y) ≤ toll block (level x) (size x)
  toll-fewer block x y same fewer =
      let product : (7 - level x) * size y ≤ (7 - level x) * size x = mul-le-mul_left (7 - level x) fewer in
      let here : toll block (level y) (size y) ≡ toll block (level x) (size y) = ap (λ k. toll block k (size y)) same in
      omega (arith, product, here)

-- how many blocks runs have stored
module _ {X : Type 0} (blocks : X → ℕ) where
  pub blocks-sum : (xs : List X) → blocks_of blocks xs ≡ sum_by blocks xs
  unfolding blocks_of
  blocks-sum xs = refl

  -- of two lists
  pub blocks-append : (xs ys : List X) → blocks_of blocks (xs ++ ys) ≡ blocks_of blocks xs + blocks_of blocks ys
  blocks-append xs ys = omega (arith, blocks-sum (xs ++ ys), blocks-sum xs, blocks-sum ys, sum_by-append blocks xs ys)

  -- of a list with one run more at its end
  pub blocks-push : (xs : List X) (x : X) → blocks_of blocks (xs ++ x ∷ []) ≡ blocks_of blocks xs + blocks x
  blocks-push xs x = omega (arith, blocks-append xs (x ∷ []), blocks-sum (x ∷ []), sum_by-cons blocks x [])

  -- of the same runs in another order
  pub blocks-moved : (xs ys : List X) → IsPermutation xs ys → blocks_of blocks ys ≡ blocks_of blocks xs
  blocks-moved xs ys p = omega (arith, blocks-sum xs, blocks-sum ys, sum_by-IsPermutation blocks xs ys p)

-- what steps cost. They read blocks from the one number to the other, and wrote them likewise
module _ {X : Type 0} (level size blocks : X → ℕ) where
  module _ (block writes writes' reads reads' k : ℕ) (more : writes' ≤ writes + k) where
    -- what the writes of k blocks with so many records add
    written-most : (records : ℕ) → k * block < records + block → 7 * (block * writes') ≤ 7 * (block * writes) + 7 * (records + block)
    written-most records few =
        let product : block * writes' ≤ block * (writes + k) = mul-le-mul_left block more in
        let sum : block * (writes + k) ≡ block * writes + block * k = omega arith in
        omega (arith, product, sum, blocks-cost block k records few)

    -- a list of n records and m records in memory became a run of level 0, whose blocks were all written
    pub stored-costs :
        (n m : ℕ) (old new : List X) (made : X) → level made ≡ 0 → size made ≡ n + m → new ≡ old ++ made ∷ [] → k * block < n + m + block → writes ≤ writes' → (writes' < last → writes + blocks made ≤ writes') → reads' ≤ reads
        → Costs (56 * n + 8 * block) 1 (account level size blocks block writes reads old m) (account level size blocks block writes' reads' new 0)
    stored-costs n m old new made level_is size_is new_is few stay least unread =
        let one : toll block (level made) (size made) ≡ toll block 0 (n + m) = ap (λ l. toll block l (size made)) level_is ∙ ap (toll block 0) size_is in
        let owed : tolls level size block new ≡ tolls level size block old + toll block 0 (n + m) = ap (tolls level size block) new_is ∙ (omega (arith, tolls-push level size block old made, one)) in
        let heavy : heft (level made) ≡ 1 = ap heft level_is ∙ heft-zero in
        let weight : hefts level size new ≡ hefts level size old + 1 = ap (hefts level size) new_is ∙ (omega (arith, hefts-push level size old made, heavy)) in
        let stored : blocks_of blocks new ≡ blocks_of blocks old + blocks made = ap (blocks_of blocks) new_is ∙ blocks-push blocks old made in
        record { rises = λ light. record { spent = omega (arith, owed, written-most (n + m) few); weight = omega (arith, weight) }; stay = stay; read = λ exact. omega (arith, stored, least exact, unread) }

    -- a write of one of its blocks failed
    pub stored-stops :
        (n m : ℕ) (old new : List X) (m' : ℕ) → k * block < n + m + block → writes ≤ writes' → reads' ≤ reads
        → Stops (56 * n + 8 * block) 1 (account level size blocks block writes reads old m) (account level size blocks block writes' reads' new m')
    stored-stops n m old new m' few stay unread = record { written = λ light. omega (arith, written-most (n + m) few); stay = stay; read = λ exact. omega (arith, stay, unread) }

    module _ (l : ℕ) (old inputs others : List X) (at_most : l ≤ 7) (parted : IsPermutation old (others ++ inputs)) (eight : length inputs ≡ 8) (levels : All (λ x. level x ≡ l) inputs) where
      old-owed : tolls level size block old ≡ tolls level size block others + (7 * ((7 - l) * sum_by size inputs) + 8 * block)
      old-owed = omega (arith, tolls-moved level size block old (others ++ inputs) parted, tolls-append level size block others inputs, tolls-level level size block l inputs levels, ap (λ k. k * block) eight)

      old-weight : hefts level size old ≡ hefts level size others + 8 * heft l
      old-weight = omega (arith, hefts-moved level size old (others ++ inputs) parted, hefts-append level size others inputs, hefts-level level size l inputs levels, ap (λ k. k * heft l) eight)

      old-stored : blocks_of blocks old ≡ blocks_of blocks others + sum_by blocks inputs
      old-stored = omega (arith, blocks-moved blocks old (others ++ inputs) parted, blocks-append blocks others inputs, blocks-sum blocks inputs)

      below-top : hefts level size old < too_heavy → l < 7
      below-top light = let top : l ≡ 7 → ⊥ = λ e. (omega (arith, light, old-weight, ap heft e)) in omega (arith, at_most, top)

      -- 8 runs of a level, of which each block was read once at most, became one of the next, whose blocks were all written
      pub merged-costs :
          (m : ℕ) (new : List X) (made : X) → level made ≡ min (l + 1) 7 → size made ≡ sum_by size inputs → new ≡ others ++ made ∷ [] → k * block < sum_by size inputs + block
          → writes ≤ writes' → (writes' < last → writes + blocks made ≤ writes') → reads' ≤ reads + sum_by blocks inputs
          → Costs 0 0 (account level size blocks block writes reads old m) (account level size blocks block writes' reads' new m)
      merged-costs m new made level_is size_is new_is few stay least most =
          let records = sum_by size inputs in
          let stored : blocks_of blocks new ≡ blocks_of blocks others + blocks made = ap (blocks_of blocks) new_is ∙ blocks-push blocks others made in
          record {
            rises = λ light.
                let below = below-top (omega (arith, light)) in
                let next : level made ≡ suc l = level_is ∙ (let e : min (l + 1) 7 ≡ suc l = omega (arith, below) in e) in
                let one : toll block (level made) (size made) ≡ toll block (suc l) records = ap (λ l. toll block l (size made)) next ∙ ap (toll block (suc l)) size_is in
                let owed : tolls level size block new ≡ tolls level size block others + toll block (suc l) records = ap (tolls level size block) new_is ∙ (omega (arith, tolls-push level size block others made, one)) in
                let heavy : heft (level made) ≡ 8 * heft l = ap heft next ∙ heft-suc l in
                let weight : hefts level size new ≡ hefts level size others + 8 * heft l = ap (hefts level size) new_is ∙ (omega (arith, hefts-push level size others made, heavy)) in
                let step : (7 - l) * records ≡ records + (7 - suc l) * records = ap (λ k. k * records) (let e : 7 - l ≡ 1 + (7 - suc l) = omega (arith, below) in e) ∙ (omega arith) in
                record { spent = omega (arith, owed, old-owed, step, written-most records few); weight = omega (arith, weight, old-weight) };
            stay = stay;
            read = λ exact. omega (arith, old-stored, stored, least exact, most);
          }

      -- a read or a write failed
      pub merged-stops :
          (m m' : ℕ) (new : List X) → k * block < sum_by size inputs + block → writes ≤ writes' → reads' ≤ reads + sum_by blocks inputs
          → Stops 0 0 (account level size blocks block writes reads old m) (account level size blocks block writes' reads' new m')
      merged-stops m m' new few stay most =
          let records = sum_by size inputs in
          record {
            written = λ light.
                let below = below-top (omega (arith, light)) in
                let step : (7 - l) * records ≡ records + (6 - l) * records = ap (λ k. k * records) (let e : 7 - l ≡ 1 + (6 - l) = omega (arith, below) in e) ∙ (omega arith) in
                omega (arith, old-owed, step, written-most records few);
            stay = stay;
            read = λ exact. omega (arith, old-stored, stay, most);
          }

  -- Of two eights of a level that were merged side by side, each into blocks of their own, a read or a write failed
  pub pair-stops :
      (block writes writes' reads reads' k j : ℕ) → writes' ≤ writes + (k + j) → (l : ℕ) (old one two others : List X) → l ≤ 7 → IsPermutation old (others ++ two ++ one) → length one ≡ 8 → length two ≡ 8 → All (λ x. level x ≡ l) one
      → All (λ x. level x ≡ l) two → (m m' : ℕ) (new : List X) → k * block < sum_by size one + block → j * block < sum_by size two + block → writes ≤ writes' → reads' ≤ reads + (sum_by blocks one + sum_by blocks two)
      → Stops 0 0 (account level size blocks block writes reads old m) (account level size blocks block writes' reads' new m')
  pair-stops block writes writes' reads reads' k j more l old one two others at_most parted eight eight' levels levels' m m' new few few' stay most =
      let a = sum_by size one in
      let b = sum_by size two in
      let owed : tolls level size block old ≡ tolls level size block others + (7 * ((7 - l) * b) + 8 * block) + (7 * ((7 - l) * a) + 8 * block) =
      omega (
        arith,
        tolls-moved level size block old (others ++ two ++ one) parted,
        tolls-append level size block (others ++ two) one,
        tolls-append level size block others two,
        tolls-level level size block l one levels,
        tolls-level level size block l two levels',
        ap (λ k. k * block) eight,
        ap (λ k. k * block) eight',
      ) in
      let weight : hefts level size old ≡ hefts level size others + 8 * heft l + 8 * heft l =
      omega (
        arith,
        hefts-moved level size old (others ++ two ++ one) parted,
        hefts-append level size (others ++ two) one,
        hefts-append level size others two,
        hefts-level level size l one levels,
        hefts-level level size l two levels',
        ap (λ k. k * heft l) eight,
        ap (λ k. k * heft l) eight',
      ) in
      let stored : blocks_of blocks old ≡ blocks_of blocks others + sum_by blocks two + sum_by blocks one =
      omega (arith, blocks-moved blocks old (others ++ two ++ one) parted, blocks-append blocks (others ++ two) one, blocks-append blocks others two, blocks-sum blocks one, blocks-sum blocks two) in
      record {
        written = λ light.
            let top : l ≡ 7 → ⊥ = λ e. (omega (arith, light, weight, ap heft e)) in
            let below : l < 7 = omega (arith, at_most, top) in
            let up : 7 - l ≡ 1 + (6 - l) = omega (arith, below) in
            let step : (7 - l) * a ≡ a + (6 - l) * a = ap (λ k. k * a) up ∙ (omega arith) in
            let step' : (7 - l) * b ≡ b + (6 - l) * b = ap (λ k. k * b) up ∙ (omega arith) in
            let product : block * writes' ≤ block * (writes + (k + j)) = mul-le-mul_left block more in
            let sum : block * (writes + (k + j)) ≡ block * writes + block * k + block * j = omega arith in
            omega (arith, owed, step, step', product, sum, blocks-cost block k a few, blocks-cost block j b few');
        stay = stay;
        read = λ exact. omega (arith, stored, stay, most);
      }

  module _ (block writes writes' reads reads' : ℕ) (none : writes' ≡ writes) where
    -- the same runs, in any order, and no block was written or read
    pub same-costs : (m : ℕ) (old new : List X) → IsPermutation old new → reads' ≤ reads → Costs 0 0 (account level size blocks block writes reads old m) (account level size blocks block writes' reads' new m)
    same-costs m old new moved unread =
        let product : block * writes' ≡ block * writes = ap (λ k. block * k) none in
        record {
          rises = λ light. record { spent = omega (arith, product, tolls-moved level size block old new moved); weight = omega (arith, hefts-moved level size old new moved) };
          stay = omega (arith, none);
          read = λ exact. omega (arith, none, unread, blocks-moved blocks old new moved);
        }

    -- no block was written or read, and n records more lie in memory
    pub held-costs : (n m : ℕ) (runs : List X) → reads' ≤ reads → Costs (56 * n) 0 (account level size blocks block writes reads runs m) (account level size blocks block writes' reads' runs (m + n))
    held-costs n m runs unread =
        let product : block * writes' ≡ block * writes = ap (λ k. block * k) none in
        record { rises = λ light. record { spent = omega (arith, product); weight = omega arith }; stay = omega (arith, none); read = λ exact. omega (arith, none, unread) }

    -- records left the runs, of which no more owe more or weigh more. No block was written, and each that was read is stored no more
    pub taken-costs :
        (m m' : ℕ) (old new : List X) → m' ≤ m → tolls level size block new ≤ tolls level size block old → hefts level size new ≤ hefts level size old → reads' + blocks_of blocks new ≤ reads + blocks_of blocks old
        → Costs 0 0 (account level size blocks block writes reads old m) (account level size blocks block writes' reads' new m')
    taken-costs m m' old new fewer owed weight read =
        let product : block * writes' ≡ block * writes = ap (λ k. block * k) none in
        record { rises = λ light. record { spent = omega (arith, product, fewer, owed); weight = omega (arith, weight) }; stay = omega (arith, none); read = λ exact. omega (arith, none, read) }

    -- a block could not be read
    pub taken-stops : (m m' : ℕ) (old new : List X) → reads' ≤ reads + blocks_of blocks old → Stops 0 0 (account level size blocks block writes reads old m) (account level size blocks block writes' reads' new m')
    taken-stops m m' old new read =
        let product : block * writes' ≡ block * writes = ap (λ k. block * k) none in
        record { written = λ light. omega (arith, product); stay = omega (arith, none); read = λ exact. omega (arith, none, read) }
