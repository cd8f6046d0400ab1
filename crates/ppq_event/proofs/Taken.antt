-- The events of a round are the first ones of the agenda, and of one time.
use Rattle.std.proofs.Common.{◌≡◌, ℕ, zero, suc, ◌+◌, ◌-◌, ◌<◌, ◌≤◌, ◌^◌, true, false, List, [], ◌∷◌, ◌++◌, length, drop, cond, take, get_or, refl, sym, ap, subst, inl, inr, ◌∙◌, arith, nat_lt, Option, Some, None, Ok}
use Rattle.std.specs.Prelude.{count_by}
use Rattle.std.specs.List.{AllByRecursion as Each}
use Rattle.std.specs.declared.cmp.Ordering.TheVariants.{Less, Equal, Greater}
use Rattle.std.specs.Ordering.{nat_cmp}
use Rattle.std.specs.Cmp.{nat_cmp_is}
use Rattle.std.proofs.lemmas.Bool.{cases_Bool}
use Rattle.std.proofs.lemmas.Bool.Decides.{nat_tests}
use Rattle.std.proofs.lemmas.List.{length-take, take_more}
use Rattle.ppq_handler.specs.ppq_record.declared.triple.Triple.{Triple}
use Rattle.ppq_handler.specs.ppq_record.Triple.{triple_cmp}
use Rattle.ppq_handler.specs.ppq_record.Bag.{IsSameBag, least, first_of, size_below}
use Rattle.ppq_handler.specs.ppq_record.Order.{is_before, Le, Rising}
use Rattle.ppq_handler.proofs.Rounds.{triples_total}
use Rattle.ppq_handler.specs.Agenda.{in_turn}
use Rattle.ppq_queue.specs.Shown.{AllTell}
use Rattle.ppq_queue.specs.Holding.{Holding}
use Rattle.ppq_queue.specs.ppq_fetch.Taking.{wanted}
use Rattle.ppq_queue.specs.Bulk.{TookFront, BulkLeaves}
use Rattle.ppq_queue.specs.Out.{Listed}
use Rattle.ppq_queue.proofs.ppq_heap.ppq_record.Order.{Each-append, count_by-cons, none_pass, Rising-in_order, in_order-same_bag, Le-trans}
use Rattle.ppq_queue.proofs.ppq_heap.ppq_record.Fronts.{ranks}
use Rattle.ppq_event.specs.Waiting.{TookFirst, TakesRound}

abbrev pub next_time : ℕ → Triple
next_time time = record { time = time + 1; target = 0; word = 0 }

-- an event of a later time is not before the next time
not_before_next : (e : Triple) (time : ℕ) → time < e.time → is_before triple_cmp e (next_time time) ≡ false
not_before_next e time late = elim (cases_Bool (nat_lt (time + 1) e.time)) as (λ _. is_before triple_cmp e (next_time time) ≡ false) [
  | inl t ↦ (let far : time + 1 < e.time = grind (arith, nat_tests, t) in
      let a : Greater ≡ nat_cmp e.time (time + 1) = nat_cmp_is e.time (time + 1) Greater far in
      rw (sym a) refl)
  | inr f ↦ (let same : e.time ≡ time + 1 = grind (arith, nat_tests, f, late) in
      let a : Equal ≡ nat_cmp e.time (time + 1) = nat_cmp_is e.time (time + 1) Equal same in
      elim (cases_Bool (nat_lt 0 e.target)) as (λ _. is_before triple_cmp e (next_time time) ≡ false) [
        | inl t2 ↦ (let far : 0 < e.target = grind (arith, nat_tests, t2) in
            let b : Greater ≡ nat_cmp e.target 0 = nat_cmp_is e.target 0 Greater far in
            rw (sym a, sym b) refl)
        | inr f2 ↦ (let none : e.target ≡ 0 = grind (arith, nat_tests, f2) in
            let b : Equal ≡ nat_cmp e.target 0 = nat_cmp_is e.target 0 Equal none in
            elim (cases_Bool (nat_lt 0 e.word)) as (λ _. is_before triple_cmp e (next_time time) ≡ false) [
              | inl t3 ↦ (let far : 0 < e.word = grind (arith, nat_tests, t3) in
                  let d : Greater ≡ nat_cmp e.word 0 = nat_cmp_is e.word 0 Greater far in
                  rw (sym a, sym b, sym d) refl)
              | inr f3 ↦ (let no_word : e.word ≡ 0 = grind (arith, nat_tests, f3) in
                  let d : Equal ≡ nat_cmp e.word 0 = nat_cmp_is e.word 0 Equal no_word in
                  rw (sym a, sym b, sym d) refl)
            ])
      ])
]

-- an event before the next time is not later
not_later : (e : Triple) (time : ℕ) → is_before triple_cmp e (next_time time) ≡ true → e.time ≤ time
not_later e time is = elim (cases_Bool (nat_lt time e.time)) as (λ _. e.time ≤ time) [
  | inl t ↦ (let late : time < e.time = grind (arith, nat_tests, t) in
      let f = not_before_next e time late in cc)
  | inr f ↦ grind (arith, nat_tests, f)
]

-- an event of this time is before the next time
is_before_next : (e : Triple) (time : ℕ) → e.time ≡ time → is_before triple_cmp e (next_time time) ≡ true
is_before_next e time is =
    let less : e.time < time + 1 = omega (arith, is) in
    let a : Less ≡ nat_cmp e.time (time + 1) = nat_cmp_is e.time (time + 1) Less less in
    rw (sym a) refl

-- an event behind another one is no earlier
no_earlier : (e x : Triple) → Le (is_before triple_cmp) e x → e.time ≤ x.time
no_earlier e x le = elim (cases_Bool (nat_lt x.time e.time)) as (λ _. e.time ≤ x.time) [
  | inl t ↦ (let less : x.time < e.time = grind (arith, nat_tests, t) in
      let a : Less ≡ nat_cmp x.time e.time = nat_cmp_is x.time e.time Less less in
      let early : is_before triple_cmp x e ≡ true = rw (sym a) refl in cc)
  | inr f ↦ grind (arith, nat_tests, f)
]

-- of a list in ascending order the first ones are below a limit, as many as there are
below_first :
    (l : Triple) (n : ℕ) (xs : List Triple) → Rising (is_before triple_cmp) xs → n ≤ count_by (λ x. is_before triple_cmp x l) xs
    → Each (λ x. is_before triple_cmp x l ≡ true) (take n xs)
below_first l zero xs up few = tt
below_first l (suc n) [] up few = tt
below_first l (suc n) (x ∷ xs) up few = elim (cases_Bool (is_before triple_cmp x l)) as (λ _. Each (λ y. is_before triple_cmp y l ≡ true) (x ∷ take n xs)) [
  | inl t ↦ (let count : count_by (λ y. is_before triple_cmp y l) (x ∷ xs) ≡ 1 + count_by (λ y. is_before triple_cmp y l) xs = count_by-cons (λ y. is_before triple_cmp y l) x xs ∙ ap (λ b. cond b 1 0 + count_by (λ y. is_before triple_cmp y l) xs) t in
      (t, below_first l n xs up.1 (omega (arith, few, count))))
  | inr f ↦ (let count : count_by (λ y. is_before triple_cmp y l) (x ∷ xs) ≡ 0 + count_by (λ y. is_before triple_cmp y l) xs = count_by-cons (λ y. is_before triple_cmp y l) x xs ∙ ap (λ b. cond b 1 0 + count_by (λ y. is_before triple_cmp y l) xs) f in
      let none = none_pass (λ y. is_before triple_cmp y l) xs (not_below xs f up.0) in
      absurd (omega (arith, few, count, none)))
]
  where
    not_below : (ys : List Triple) → is_before triple_cmp x l ≡ false → Each (Le (is_before triple_cmp) x) ys → Each (λ y. is_before triple_cmp y l ≡ false) ys
    not_below [] f h = tt
    not_below (y ∷ ys) f h = (Le-trans (is_before triple_cmp) (ranks triples_total) l x y f h.0, not_below ys f h.1)

-- the list is what was taken and what is left
taken_parts : {X : Type 0} (n : ℕ) (xs : List X) → take n xs ++ drop (length (take n xs)) xs ≡ xs
taken_parts zero xs = refl
taken_parts (suc n) [] = refl
taken_parts {X} (suc n) (x ∷ xs) = ap (λ (ys : List X). x ∷ ys) (taken_parts n xs)

left_same : {X : Type 0} (n : ℕ) (xs : List X) → drop (length (take n xs)) xs ≡ drop n xs
left_same zero xs = refl
left_same (suc n) [] = refl
left_same (suc n) (x ∷ xs) = left_same n xs

-- the first event of an agenda
first_is : (xs : List Triple) (e : Triple) → first_of (take 1 xs) ≡ Some e → (rest : List Triple) × (xs ≡ e ∷ rest)
first_is [] e is = cc
first_is (x ∷ xs) e is = let same : x ≡ e = cc in (xs, ap (λ (y : Triple). y ∷ xs) same)

-- what was taken of an agenda in ascending order whose first event has this time
all_of_time :
    (time n : ℕ) (e : Triple) (rest : List Triple) → Rising (is_before triple_cmp) (e ∷ rest) → e.time ≡ time → Each (λ x. x.time ≤ time) (take n (e ∷ rest))
    → Each (λ x. x.time ≡ time) (take n (e ∷ rest))
all_of_time time zero e rest up is late = tt
all_of_time time (suc n) e rest up is late = (is, each n rest up.0 late.1)
  where
    each : (m : ℕ) (xs : List Triple) → Each (Le (is_before triple_cmp) e) xs → Each (λ x. x.time ≤ time) (take m xs) → Each (λ x. x.time ≡ time) (take m xs)
    each zero xs h k = tt
    each (suc m) [] h k = tt
    each (suc m) (x ∷ xs) h k = (omega (arith, no_earlier e x h.0, k.0, is), each m xs h.1 k.1)

-- the first events were taken, none of a later time if the first one has this time
took_first :
    (time n : ℕ) (old new out : List Triple) → out ≡ take n (in_turn old) → IsSameBag new (drop n (in_turn old))
    → ((e : Triple) → least triple_cmp old ≡ Some e → e.time ≡ time → Each (λ x. x.time ≤ time) out × (0 < n)) → TookFirst time old new out
took_first time n old new out is rest times =
    let same : drop (length out) (in_turn old) ≡ drop n (in_turn old) = ap (λ (o : List Triple). drop (length o) (in_turn old)) is ∙ left_same n (in_turn old) in
    record {
      front = ap (λ (o : List Triple). o ++ drop (length o) (in_turn old)) is ∙ taken_parts n (in_turn old);
      rest = subst (IsSameBag new) (sym same) rest;
      one_time = λ e first at.
          let agenda = first_is (in_turn old) e first in
          let h = times e first at in
          let up : Rising (is_before triple_cmp) (e ∷ agenda.0) = subst (Rising (is_before triple_cmp)) agenda.1 (Rising-in_order (is_before triple_cmp) (ranks triples_total) old) in
          let out_is : out ≡ take n (e ∷ agenda.0) = is ∙ ap (take n) agenda.1 in
          let late = subst (Each (λ x. x.time ≤ time)) out_is h.0 in
          let some : 0 < length (take n (e ∷ agenda.0)) = omega (arith, h.1, length-take n (e ∷ agenda.0)) in
          (subst (Each (λ x. x.time ≡ time)) (sym out_is) (all_of_time time n e agenda.0 up at late), subst (λ (o : List Triple). 0 < length o) (sym out_is) some);
    }

-- a bulk pop before the next time
pub took_before :
    (time most : ℕ) (old new : Holding Triple) (out : List Triple) → 0 < most → TookFront triple_cmp (Some (next_time time)) most old new out → AllTell old.slots → TookFirst time old.bag new.bag out
took_before time most old new out some took tell =
    let l = next_time time in
    let below = size_below triple_cmp old.bag l in
    let n = wanted triple_cmp most (Some l) old.bag in
    let same : count_by (λ x. is_before triple_cmp x l) (in_turn old.bag) ≡ below = in_order-same_bag (is_before triple_cmp) (ranks triples_total) old.bag (λ x. is_before triple_cmp x l) in
    let up = Rising-in_order (is_before triple_cmp) (ranks triples_total) old.bag in
    let is : out ≡ take n (in_turn old.bag) = took.front tell in
    let each = below_first l n (in_turn old.bag) up (omega (arith, same)) in
    took_first time n old.bag new.bag out is (took.rest tell) (λ e first at.
    let agenda = first_is (in_turn old.bag) e first in
    let count : count_by (λ x. is_before triple_cmp x l) (in_turn old.bag) ≡ 1 + count_by (λ x. is_before triple_cmp x l) agenda.0 =
    ap (count_by (λ x. is_before triple_cmp x l)) agenda.1 ∙ (count_by-cons (λ x. is_before triple_cmp x l) e agenda.0 ∙ ap (λ b. cond b 1 0 + count_by (λ x. is_before triple_cmp x l) agenda.0) (is_before_next e time at)) in
    (subst (Each (λ x. x.time ≤ time)) (sym is) (times (take n (in_turn old.bag)) each), omega (arith, some, same, count)))
  where
    times : (xs : List Triple) → Each (λ x. is_before triple_cmp x (next_time time) ≡ true) xs → Each (λ x. x.time ≤ time) xs
    times [] h = tt
    times (x ∷ xs) h = (not_later x time h.0, times xs h.1)

-- a bulk pop at the last time
pub took_last :
    (most : ℕ) (old new : Holding Triple) (out : List Triple) → 0 < most → Each (λ (x : Triple). x.time < 2 ^ 64) out → TookFront triple_cmp None most old new out → AllTell old.slots
    → TookFirst (2 ^ 64 - 1) old.bag new.bag out
took_last most old new out some known took tell = took_first (2 ^ 64 - 1) most old.bag new.bag out (took.front tell) (took.rest tell) (λ e first at. (times out known, some))
  where
    times : (xs : List Triple) → Each (λ (x : Triple). x.time < 2 ^ 64) xs → Each (λ (x : Triple). x.time ≤ 2 ^ 64 - 1) xs
    times [] h = tt
    times (x ∷ xs) h = (omega (arith, h.0), times xs h.1)

-- what a bulk pop takes is a round
pub takes_round :
    {T : Type 0} {v : T} (limit : Option Triple) (time most : ℕ) (old new : Holding Triple) (was now : Listed Triple)
    → (TookFront triple_cmp limit most old new now.items → AllTell old.slots → TookFirst time old.bag new.bag now.items)
    → BulkLeaves triple_cmp limit most old new was now (Ok v) → TakesRound time most old new now.items
takes_round limit time most old new was now first h = record {
  took = first h.took;
  few = h.took.few;
  within = h.took.within;
  size = h.size;
  peak = h.peak;
  sound = record { sound = h.took.sound; quiet = h.took.quiet };
  keeps = h.keeps;
}

-- one event more is known
pub times_more : (xs : List Triple) (i : ℕ) (d : Triple) → i < length xs → Each (λ x. x.time < 2 ^ 64) (take i xs) → (get_or xs i d).time < 2 ^ 64 → Each (λ x. x.time < 2 ^ 64) (take (i + 1) xs)
times_more xs i d within h k = subst (Each (λ x. x.time < 2 ^ 64)) (sym (take_more xs i d within)) (Each-append (λ x. x.time < 2 ^ 64) (take i xs) (get_or xs i d ∷ []) h (k, tt))
