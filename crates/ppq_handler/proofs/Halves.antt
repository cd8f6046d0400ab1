-- Two parts of a roster answer for the whole.
use Rattle.std.proofs.Common.{◌≡◌, ℕ, zero, suc, ◌+◌, ◌-◌, ◌*◌, ◌/◌, ◌^◌, ◌<◌, ◌≤◌, ◌≢◌, Bool, true, List, [], ◌∷◌, ◌++◌, length, take, drop, get_or, set, map, refl, sym, ap, ap₂, subst, ◌∙◌, arith, nat_le, Option, None}
use Rattle.std.specs.List.{AllByRecursion as Each}
use Rattle.std.proofs.lemmas.Bool.Decides.{nat_tests}
use Rattle.std.proofs.lemmas.List.{length-map, map-append, length-set, set-append_left, set-append_right, get_or_append_left, get_or-append_right, take-append-drop, length-take}
use Rattle.std.proofs.Math.Nat.{div-mul-le_self, div-le_of_le-mul, mul-le-mul_right, zero-div, mul-div_cancel_left}
use Rattle.std.proofs.lemmas.Nat.{le-div}
use Rattle.ppq_record.specs.declared.triple.Triple.{Triple}
use Rattle.ppq_record.specs.Order.{Rising}
use Rattle.ppq_record.proofs.Order.{Each-append_left}
use Rattle.ppq_handler.specs.declared.outcome.Outcome.{Outcome}
use Rattle.ppq_handler.specs.Roster.{Place, answered, outcome_at}
use Rattle.ppq_handler.specs.Agenda.{place_in, places_after, answers_to, places_after_all, AreFrom}
use Rattle.ppq_handler.specs.Parts.{AreByTarget, begin_of, IsPart, IsSplit, AnswersAll}

-- a later worker begins no earlier
pub begin_rises : (workers peers one other : ℕ) → 0 < workers → one ≤ other → begin_of workers peers one ≤ begin_of workers peers other
begin_rises workers peers one other some le =
    let low = div-mul-le_self (one * peers) workers in
    let rises = mul-le-mul_right peers le in
    le-div (one * peers / workers) (other * peers) workers some (omega (arith, low, rises))

-- and none behind the last place
pub begin_within : (workers peers worker : ℕ) → worker ≤ workers → begin_of workers peers worker ≤ peers
begin_within workers peers worker le = div-le_of_le-mul workers (mul-le-mul_right peers le)

module _ (workers peers first count base size cut : ℕ) (p : IsPart workers peers first count base size) (is : cut ≡ begin_of workers peers (first + count / 2)) where
  low_rises : base ≤ cut
  low_rises = omega (arith, is, p.begin, begin_rises workers peers first (first + count / 2) (omega (arith, p.some, p.numbers)) (omega arith))

  high_rises : cut ≤ base + size
  high_rises = omega (arith, is, p.end, begin_rises workers peers (first + count / 2) (first + count) (omega (arith, p.some, p.numbers)) (omega arith))

  -- the upper half begins within the places
  pub in_half : (base + (cut - base) ≡ cut) × (cut - base ≤ size)
  in_half = (omega (arith, low_rises), omega (arith, high_rises))

  pub low_half : (low : ℕ) → count ≢ 1 → low ≡ cut - base → IsPart workers peers first (count / 2) base low
  low_half low more e = record {
    some = omega (arith, p.some, more);
    numbers = omega (arith, p.numbers);
    width = p.width;
    few = p.few;
    begin = p.begin;
    end = omega (arith, e, low_rises, is);
  }

  pub high_half : (high : ℕ) → high + (cut - base) ≡ size → IsPart workers peers (first + count / 2) (count - count / 2) cut high
  high_half high e =
      let sum : first + count / 2 + (count - count / 2) ≡ first + count = omega arith in
      record {
        some = omega (arith, p.some);
        numbers = omega (arith, p.numbers, sum);
        width = p.width;
        few = p.few;
        begin = is;
        end = rw sum (omega (arith, e, low_rises, high_rises, p.end));
      }

module _ (base peers middle : ℕ) where
  length_after : (places : List Place) (e : Triple) → base ≤ e.target → length (places_after base peers places e) ≡ length places
  length_after places e le =
      let test : nat_le base e.target ≡ true = grind (arith, nat_tests, le) in
      rw test (length-set places (e.target - base) (answered (get_or places (e.target - base) None) e.time e.target peers e.word))

  place_left : (low high : List Place) (target : ℕ) → base + length low ≡ middle → base ≤ target → target < middle → place_in base (low ++ high) target ≡ place_in base low target
  place_left low high target m le lt =
      let test : nat_le base target ≡ true = grind (arith, nat_tests, le) in
      rw test (get_or_append_left low high None (target - base) (omega (arith, m, le, lt)))

  after_left : (low high : List Place) (e : Triple) → base + length low ≡ middle → base ≤ e.target → e.target < middle → places_after base peers (low ++ high) e ≡ places_after base peers low e ++ high
  after_left low high e m le lt =
      let test : nat_le base e.target ≡ true = grind (arith, nat_tests, le) in
      let i = e.target - base in
      let within : i < length low = omega (arith, m, le, lt) in
      rw test (ap (λ p. set (low ++ high) i (answered p e.time e.target peers e.word)) (get_or_append_left low high None i within) ∙ set-append_left low high i (answered (get_or low i None) e.time e.target peers e.word) within)

  place_right : (low high : List Place) (target : ℕ) → base + length low ≡ middle → middle ≤ target → place_in base (low ++ high) target ≡ place_in middle high target
  place_right low high target m le =
      let one : nat_le base target ≡ true = grind (arith, nat_tests, le, m) in
      let two : nat_le middle target ≡ true = grind (arith, nat_tests, le) in
      let i : target - base - length low ≡ target - middle = omega (arith, m, le) in
      rw (one, two) (get_or-append_right low high (length low) (target - base) None refl (omega (arith, m, le)) ∙ ap (λ n. get_or high n None) i)

  after_right : (low high : List Place) (e : Triple) → base + length low ≡ middle → middle ≤ e.target → places_after base peers (low ++ high) e ≡ low ++ places_after middle peers high e
  after_right low high e m le =
      let one : nat_le base e.target ≡ true = grind (arith, nat_tests, le, m) in
      let two : nat_le middle e.target ≡ true = grind (arith, nat_tests, le) in
      let i : e.target - base - length low ≡ e.target - middle = omega (arith, m, le) in
      let far : length low ≤ e.target - base = omega (arith, m, le) in
      rw (one, two) (
      ap (λ p. set (low ++ high) (e.target - base) (answered p e.time e.target peers e.word)) (get_or-append_right low high (length low) (e.target - base) None refl far ∙ ap (λ n. get_or high n None) i)
      ∙ set-append_right low high (length low) (e.target - base) (answered (get_or high (e.target - middle) None) e.time e.target peers e.word) refl far
      ∙ ap (λ n. low ++ set high n (answered (get_or high (e.target - middle) None) e.time e.target peers e.word)) i)

  -- events for the upper part leave the lower one alone
  answers_right :
      (events : List Triple) (low high : List Place) → base + length low ≡ middle → Each (λ e. middle ≤ e.target) events
      → (answers_to base peers events (low ++ high) ≡ answers_to middle peers events high) × (places_after_all base peers events (low ++ high) ≡ low ++ places_after_all middle peers events high)
  answers_right [] low high m h = (refl, refl)
  answers_right (e ∷ es) low high m h =
      let next = after_right low high e m h.0 in
      let rest = answers_right es low (places_after middle peers high e) m h.1 in (
        ap₂ (λ a rest. a ∷ rest) (ap (λ p. outcome_at p e.time e.target peers e.word) (place_right low high e.target m h.0)) (ap (answers_to base peers es) next ∙ rest.0),
        ap (places_after_all base peers es) next ∙ rest.1,
      )

  -- events for both parts, those for the lower one first
  answers_both :
      (events later : List Triple) (low high : List Place) → base + length low ≡ middle → Each (λ e. (base ≤ e.target) × (e.target < middle)) events → Each (λ e. middle ≤ e.target) later
      → (answers_to base peers (events ++ later) (low ++ high) ≡ answers_to base peers events low ++ answers_to middle peers later high)
      × (places_after_all base peers (events ++ later) (low ++ high) ≡ places_after_all base peers events low ++ places_after_all middle peers later high)
  answers_both [] later low high m h k = answers_right later low high m k
  answers_both (e ∷ es) later low high m h k =
      let next = after_left low high e m h.0.0 h.0.1 in
      let rest = answers_both es later (places_after base peers low e) high (omega (arith, m, length_after low e h.0.0)) h.1 k in (
        ap₂ (λ a rest. a ∷ rest) (ap (λ p. outcome_at p e.time e.target peers e.word) (place_left low high e.target m h.0.0 h.0.1)) (ap (answers_to base peers (es ++ later)) next ∙ rest.0),
        ap (places_after_all base peers (es ++ later)) next ∙ rest.1,
      )

each_and : {X : Type 0} (P Q R : X → Type 0) → ((x : X) → P x → Q x → R x) → (xs : List X) → Each P xs → Each Q xs → Each R xs
each_and P Q R f [] p q = tt
each_and P Q R f (x ∷ xs) p q = (f x p.0 q.0, each_and P Q R f xs p.1 q.1)

rising_take : {X : Type 0} (lt : X → X → Bool) (n : ℕ) (xs : List X) → Rising lt xs → Rising lt (take n xs)
rising_take lt zero xs h = tt
rising_take lt (suc n) [] h = tt
rising_take lt (suc n) (x ∷ xs) h = (Each-append_left _ (take n xs) (drop n xs) (subst (Each _) (sym (take-append-drop n xs)) h.0), rising_take lt n xs h.1)

rising_drop : {X : Type 0} (lt : X → X → Bool) (n : ℕ) (xs : List X) → Rising lt xs → Rising lt (drop n xs)
rising_drop lt zero xs h = h
rising_drop lt (suc n) [] h = tt
rising_drop lt (suc n) (x ∷ xs) h = rising_drop lt n xs h.1

-- what two parts answered is what the whole is to answer
pub joined_parts :
    {B : Type 0} (place : B → Place) (base peers middle at k : ℕ) (events : List Triple) (seats low high : List B) (one other : List (Option Outcome))
    → IsSplit events middle at → base + k ≡ middle → k ≤ length seats
    → AnswersAll base peers (take at events) (map place (take k seats)) (map place low) one
    → AnswersAll middle peers (drop at events) (map place (drop k seats)) (map place high) other
    → AnswersAll base peers events (map place seats) (map place (low ++ high)) (one ++ other)
joined_parts place base peers middle at k events seats low high one other split m within first second by all =
    let parts = take-append-drop at events in
    let each = subst (AreFrom base) (sym parts) all in
    let from = Each-append_left _ (take at events) (drop at events) each in
    let lower = each_and _ _ (λ (e : Triple). (base ≤ e.target) × (e.target < middle)) (λ e p q. (p, q)) (take at events) from split.below in
    let upper = split.above by in
    let size : length (map place (take k seats)) ≡ k = omega (arith, length-map (take k seats) place, length-take k seats, within) in
    let a = first (rising_take _ at events by) from in
    let b = second (rising_drop _ at events by) upper in
    let both = answers_both base peers middle (take at events) (drop at events) (map place (take k seats)) (map place (drop k seats)) (omega (arith, size, m)) lower upper in
    let seated : map place (take k seats) ++ map place (drop k seats) ≡ map place seats = sym (map-append place (take k seats) (drop k seats)) ∙ ap (map place) (take-append-drop k seats) in (
      ap₂ (λ xs ys. xs ++ ys) a.0 b.0 ∙ sym both.0 ∙ ap₂ (answers_to base peers) parts seated,
      map-append place low high ∙ ap₂ (λ xs ys. xs ++ ys) a.1 b.1 ∙ sym both.1 ∙ ap₂ (places_after_all base peers) parts seated,
    )

-- where the event at a place is not for a place below `cut`, none from there on is
above_here : (events : List Triple) (cut at : ℕ) (d : Triple) → (at < length events → cut ≤ (get_or events at d).target) → AreByTarget events → Each (λ e. cut ≤ e.target) (drop at events)
above_here [] cut zero d h by = tt
above_here [] cut (suc at) d h by = tt
above_here (e ∷ es) cut zero d h by =
    let first : cut ≤ e.target = h (omega arith) in
    (first, each_and _ _ (λ (x : Triple). cut ≤ x.target) (λ x p q. grind (arith, nat_tests, p, first)) es by.0 by.0)
above_here (e ∷ es) cut (suc at) d h by = above_here es cut at d (λ l. h (omega (arith, l))) by.1

-- the events are split here
pub split_here : (events : List Triple) (cut at : ℕ) (d : Triple) → at ≤ length events → Each (λ e. e.target < cut) (take at events) → (at < length events → cut ≤ (get_or events at d).target) → IsSplit events cut at
split_here events cut at d within below h = record { within = within; below = below; above = above_here events cut at d h }

-- all workers have all places
pub whole_part : (workers peers : ℕ) → 0 < workers → workers < 2 ^ 32 → peers ≤ 65536 → IsPart workers peers 0 workers 0 peers
whole_part workers peers some width few =
    let none : 0 * peers ≡ 0 = omega arith in
    let all : 0 + workers ≡ workers = omega arith in
    let same : 0 + peers ≡ peers = omega arith in
    record {
      some = some;
      numbers = omega arith;
      width = width;
      few = few;
      begin = sym (ap (λ n. n / workers) none ∙ zero-div workers);
      end = same ∙ sym (ap (λ n. n * peers / workers) all ∙ mul-div_cancel_left peers some);
    }
