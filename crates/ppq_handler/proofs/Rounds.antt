-- A round is as many turns as it has events: what follows from an event is later, so it stands behind all events of the round.
use Rattle.std.proofs.Common.{◌≡◌, ℕ, zero, suc, ◌+◌, ◌-◌, ◌/◌, ◌%◌, ◌<◌, ◌^◌, Bool, true, false, cond, List, [], ◌∷◌, ◌++◌, length, set, refl, sym, ap, ap₂, subst, ◌∙◌, arith, nat_lt, nat_le, Option, Some, None}
use Rattle.std.specs.Prelude.{flat_map}
use Rattle.std.specs.List.{AllByRecursion as Each}
use Rattle.std.specs.declared.cmp.Ordering.TheVariants.{Greater}
use Rattle.std.specs.Ordering.{nat_cmp}
use Rattle.std.specs.Cmp.{IsTotalOrder, nat_cmp_is}
use Rattle.std.proofs.lemmas.Cmp.{nat_cmp_total, on_total, then_total}
use Rattle.std.proofs.lemmas.List.{length-append, append-nil, length-set}
use Rattle.ppq_record.specs.declared.triple.Triple.{Triple}
use Rattle.ppq_record.specs.Triple.{triple_cmp, triple_same}
use Rattle.ppq_record.specs.Bag.{IsSameBag}
use Rattle.ppq_record.specs.Order.{is_before, Le, Rising, Ascends}
use Rattle.ppq_record.proofs.Order.{count_by-append, IsSameBag-length, in_order-same_bag, Rising-in_order, Rising-append, Each-append, Each-append_left, Each-append_right, Each_le-same_bag}
use Rattle.ppq_record.proofs.Fronts.{ranks, ascending_is, ascending-same_bag}
use Rattle.ppq_handler.specs.declared.kind.Kind.{Kind}
use Rattle.ppq_handler.specs.declared.kind.Kind.TheVariants.{Count, Relay, Fork, Mortal}
use Rattle.ppq_handler.specs.Handling.{ahead}
use Rattle.ppq_handler.specs.Roster.{Place, answered, outcome_at}
use Rattle.ppq_handler.specs.Agenda.{Run, turned, entry, some_of, follow_ups, answer_of, place_in, places_after, answers_to, places_after_all, in_turn, run_from}
use Rattle.ppq_handler.specs.Rounds.{after_turns, after_round, RoundsAreTurns}

pub triples_total : IsTotalOrder triple_cmp
triples_total = then_total (on_total (λ (t : Triple). t.time) nat_cmp_total) (then_total (on_total (λ (t : Triple). t.target) nat_cmp_total) (on_total (λ (t : Triple). t.word) nat_cmp_total))

lt : Triple → Triple → Bool
lt = is_before triple_cmp

-- an event is not after a later one
later_is : (one other : Triple) → one.time < other.time → Le (is_before triple_cmp) one other
later_is one other h =
    let e : Greater ≡ nat_cmp other.time one.time = nat_cmp_is other.time one.time Greater h in
    rw (sym e) refl

-- what is ahead is later
ahead_later : (by now me peers word : ℕ) → 0 < by → Each (λ (f : Triple). now < f.time) (some_of (ahead by now me peers word))
ahead_later by now me peers word some =
    elim (nat_lt (now + by) (2 ^ 64)) as (λ b. Each (λ (f : Triple). now < f.time) (some_of (cond b (Some (record { time = now + by; target = (me + by) % peers; word = word })) None))) [
      | true ↦ (omega (arith, some), tt)
      | false ↦ tt
    ]

when : (b : Bool) (o : Option Triple) (now : ℕ) → Each (λ (f : Triple). now < f.time) (some_of o) → Each (λ (f : Triple). now < f.time) (some_of (cond b o None))
when true o now h = h
when false o now h = tt

-- what follows from an event is later
follow_later : (place : Place) (now me peers word : ℕ) → Each (λ (f : Triple). now < f.time) (follow_ups (outcome_at place now me peers word))
follow_later None now me peers word = tt
follow_later (Some h) now me peers word = by_kind h.kind
  where
    by_kind : (kind : Kind) → Each (λ (f : Triple). now < f.time) (follow_ups (outcome_at (Some (record { kind = kind; kept = h.kept })) now me peers word))
    by_kind Count = tt
    by_kind Relay = Each-append _ (some_of (cond (nat_lt 0 word) (ahead 1 now me peers (word - 1)) None)) [] (when (nat_lt 0 word) (ahead 1 now me peers (word - 1)) now (ahead_later 1 now me peers (word - 1) (omega arith))) tt
    by_kind Fork =
        Each-append _ (some_of (cond (nat_lt 1 word) (ahead 1 now me peers (word / 2)) None)) (some_of (cond (nat_lt 1 word) (ahead 2 now me peers (word / 2)) None))
        (when (nat_lt 1 word) (ahead 1 now me peers (word / 2)) now (ahead_later 1 now me peers (word / 2) (omega arith)))
        (when (nat_lt 1 word) (ahead 2 now me peers (word / 2)) now (ahead_later 2 now me peers (word / 2) (omega arith)))
    by_kind Mortal = tt

module _ {X : Type 0} (before : X → X → Bool) where
  pub rising_left : (xs ys : List X) → Rising before (xs ++ ys) → Rising before xs
  rising_left [] ys h = tt
  rising_left (x ∷ xs) ys h = (Each-append_left _ xs ys h.0, rising_left xs ys h.1)

  rising_over : (xs ys : List X) → Rising before (xs ++ ys) → Each (λ a. Each (Le before a) ys) xs
  rising_over [] ys h = tt
  rising_over (x ∷ xs) ys h = (Each-append_right _ xs ys h.0, rising_over xs ys h.1)

-- events of one time are before all later ones
before_later : (time : ℕ) (events later : List Triple) → Each (λ e. e.time ≡ time) events → Each (λ f. time < f.time) later → Each (λ a. Each (Le (is_before triple_cmp) a) later) events
before_later time [] later h k = tt
before_later time (e ∷ es) later h k = (each_later e later h.0 k, before_later time es later h.1 k)
  where
    each_later : (e : Triple) (later : List Triple) → e.time ≡ time → Each (λ f. time < f.time) later → Each (Le (is_before triple_cmp) e) later
    each_later e [] is k = tt
    each_later e (f ∷ fs) is k = (later_is e f (omega (arith, is, k.0)), each_later e fs is k.1)

each_pair : {X : Type 0} (le : X → X → Type 0) (xs ys zs : List X) → Each (λ a. Each (le a) ys) xs → Each (λ a. Each (le a) zs) xs → Each (λ a. Each (le a) (ys ++ zs)) xs
each_pair le [] ys zs h k = tt
each_pair le (x ∷ xs) ys zs h k = (Each-append (le x) ys zs h.0 k.0, each_pair le xs ys zs h.1 k.1)

-- later events go behind the events of a round
seam : (time : ℕ) (events others later : List Triple) → Each (λ e. e.time ≡ time) events → Ascends triple_cmp (events ++ others) → Each (λ f. time < f.time) later
    → in_turn ((events ++ others) ++ later) ≡ events ++ in_turn (others ++ later)
seam time events others later h up k =
    let o = ranks triples_total in
    let behind = in_turn (others ++ later) in
    let same : IsSameBag behind (others ++ later) = in_order-same_bag (is_before triple_cmp) o (others ++ later) in
    let over = each_pair (Le (is_before triple_cmp)) events others later (rising_over (is_before triple_cmp) events others up) (before_later time events later h k) in
    let ends = Each_le-same_bag (is_before triple_cmp) o events (others ++ later) events behind (λ p. refl) (λ p. sym (same p)) over in
    let rises = Rising-append (is_before triple_cmp) o events behind (rising_left (is_before triple_cmp) events others up) (Rising-in_order (is_before triple_cmp) o (others ++ later)) ends in
    let bag : IsSameBag (events ++ behind) ((events ++ others) ++ later) = λ p. omega (arith, count_by-append p events behind, same p, count_by-append p others later, count_by-append p (events ++ others) later, count_by-append p events others) in
    sym (ascending_is triples_total triple_same ((events ++ others) ++ later) (events ++ behind) rises bag)

-- no place is lost or made
length_after : (peers : ℕ) (places : List Place) (e : Triple) → length (places_after 0 peers places e) ≡ length places
length_after peers places e =
    let now = answered (place_in 0 places e.target) e.time e.target peers e.word in
    elim (nat_le 0 e.target) as (λ b. length (cond b (set places (e.target - 0) now) places) ≡ length places) [ true ↦ length-set places (e.target - 0) now | false ↦ refl ]

module _ (until time : ℕ) (due : nat_lt until time ≡ false) where
  in_rounds :
      (turns left count after : ℕ) (events others : List Triple) (places : List Place)
      → turns ≡ length events + left → after ≡ count + length events → Each (λ e. e.time ≡ time) events → Ascends triple_cmp (events ++ others)
      → run_from until turns count (events ++ others) places ≡ after_round until left after events others places
  in_rounds turns left count after [] others places t c h up =
      let same : in_turn (others ++ []) ≡ others = ap in_turn (append-nil others) ∙ sym (ascending_is triples_total triple_same others others up (λ p. refl)) in
      let tl : turns ≡ left = omega (arith, t) in
      let ca : count ≡ after = omega (arith, c) in
      ap (λ n. run_from until n count others places) tl ∙ ap (λ n. run_from until left n others places) ca ∙ ap (λ es. run_from until left after es places) (sym same)
  in_rounds zero left count after (e ∷ es) others places t c h up = absurd (omega (arith, t))
  in_rounds (suc n) left count after (e ∷ es) others places t c h up =
      let peers = length places in
      let answer = answer_of 0 peers places e in
      let later = follow_ups answer in
      let next = places_after 0 peers places e in
      let test : nat_lt until e.time ≡ false = ap (nat_lt until) h.0 ∙ due in
      let is_later : Each (λ (f : Triple). time < f.time) later = subst (λ (m : ℕ). Each (λ (f : Triple). m < f.time) later) h.0 (follow_later (place_in 0 places e.target) e.time e.target peers e.word) in
      let joins = seam time es others later h.1 up.1 is_later in
      let o = ranks triples_total in
      let behind = in_turn (others ++ later) in
      let same : IsSameBag behind (others ++ later) = in_order-same_bag (is_before triple_cmp) o (others ++ later) in
      let rises : Ascends triple_cmp (es ++ behind) = subst (Ascends triple_cmp) joins (Rising-in_order (is_before triple_cmp) o ((es ++ others) ++ later)) in
      let rest = in_rounds n left (suc count) after es behind next (omega (arith, t)) (omega (arith, c)) h.1 rises in
      let size = length_after peers places e in
      let answers = answers_to 0 peers es next in
      let all = flat_map follow_ups answers in
      let ends : in_turn (behind ++ all) ≡ in_turn (others ++ (later ++ all)) =
      ascending-same_bag triples_total triple_same (behind ++ all) (others ++ (later ++ all)) (λ p. omega (arith, count_by-append p behind all, same p, count_by-append p others later, count_by-append p others (later ++ all), count_by-append p later all)) in
      let waits : length behind ≡ length others + length later = IsSameBag-length behind (others ++ later) same ∙ length-append others later in
      let all_waits : length ((es ++ others) ++ later) ≡ length es + length others + length later = omega (arith, length-append (es ++ others) later, length-append es others) in
      let finish : List Triple → Run = λ agenda. run_from until left after agenda (places_after_all 0 peers es next) in
      let tail : run_from until n (suc count) (in_turn ((es ++ others) ++ later)) next ≡ after_turns es answers (length others + length later) (finish (in_turn (others ++ (later ++ all)))) =
      ap (λ agenda. run_from until n (suc count) agenda next) joins
      ∙ (rest
      ∙ (ap (λ k. after_turns es (answers_to 0 k es next) (length behind) (run_from until left after (in_turn (behind ++ flat_map follow_ups (answers_to 0 k es next))) (places_after_all 0 k es next))) size
      ∙ (ap (λ w. after_turns es answers w (finish (in_turn (behind ++ all)))) waits ∙ ap (λ agenda. after_turns es answers (length others + length later) (finish agenda)) ends))) in
      rw test (ap₂ (turned (entry e answer)) all_waits tail)

pub rounds_are_turns : RoundsAreTurns
rounds_are_turns until time left count events others places round = in_rounds until time round.due (length events + left) left count (count + length events) events others places refl refl round.one_time round.ascends
