-- Nobody else feels whether a handler that may retire has retired.
use Rattle.std.proofs.Common.{◌≡◌, ℕ, zero, suc, ◌+◌, ◌-◌, ◌%◌, ◌^◌, ◌<◌, ◌≤◌, true, false, cond, List, [], ◌∷◌, ◌++◌, length, get_or, set, refl, sym, ap, ap₂, subst, inl, inr, ◌∙◌, arith, nat_lt, nat_le, nat_eq, Option, Some, None}
use Rattle.std.proofs.lemmas.Bool.{cases_Bool}
use Rattle.std.proofs.lemmas.Bool.Decides.{nat_tests}
use Rattle.std.proofs.lemmas.List.{length-set, get_or-set_same, get_or-set_other}
use Rattle.std.proofs.Math.Seq.{set_out}
use Rattle.ppq_record.specs.declared.triple.Triple.{Triple}
use Rattle.ppq_handler.specs.declared.kind.Kind.{Kind}
use Rattle.ppq_handler.specs.declared.kind.Kind.TheVariants.{Count, Relay, Fork, Mortal}
use Rattle.ppq_handler.specs.declared.outcome.Outcome.{Outcome}
use Rattle.ppq_handler.specs.declared.ending.Ending.TheVariants.{Until}
use Rattle.ppq_handler.specs.Roster.{Place, answered, outcome_at}
use Rattle.ppq_handler.specs.Agenda.{Run, ended, turned, entry, follow_ups, answer_of, place_in, places_after, in_turn, run_from}
use Rattle.ppq_handler.specs.Gone.{MayBeGone, for_others, SameForOthers, NobodyFeelsGone}

-- where no handler is, or one that may retire, no event follows
no_follow_up : (place : Place) (now me peers word : ℕ) → MayBeGone place → follow_ups (outcome_at place now me peers word) ≡ []
no_follow_up None now me peers word gone = refl
no_follow_up (Some h) now me peers word gone = by_kind h.kind gone
  where
    by_kind : (kind : Kind) → MayBeGone (Some (record { kind = kind; kept = h.kept })) → follow_ups (outcome_at (Some (record { kind = kind; kept = h.kept })) now me peers word) ≡ []
    by_kind Count gone = absurd gone
    by_kind Relay gone = absurd gone
    by_kind Fork gone = absurd gone
    by_kind Mortal gone = refl

-- and so it stays
stays_gone : (place : Place) (now me peers word : ℕ) → MayBeGone place → MayBeGone (answered place now me peers word)
stays_gone None now me peers word gone = tt
stays_gone (Some h) now me peers word gone = by_kind h.kind gone
  where
    by_kind : (kind : Kind) → MayBeGone (Some (record { kind = kind; kept = h.kept })) → MayBeGone (answered (Some (record { kind = kind; kept = h.kept })) now me peers word)
    by_kind Count gone = absurd gone
    by_kind Relay gone = absurd gone
    by_kind Fork gone = absurd gone
    by_kind Mortal gone = elim (nat_eq word 0) as (λ b. MayBeGone (cond b None (Some (record { kind = Mortal; kept = (h.kept + 1) % 2 ^ 64 })))) [ true ↦ tt | false ↦ tt ]

-- the same places but for one, at which no handler is, or one that may retire
record Beside (i : ℕ) (one other : List Place) : Type 0 where
  pub long : length other ≡ length one
  pub same : (j : ℕ) → (j ≡ i → ⊥) → get_or other j None ≡ get_or one j None
  pub gone : MayBeGone (get_or one i None)
  pub gone_too : MayBeGone (get_or other i None)

-- the place with this number
place_zero : (places : List Place) (target : ℕ) → place_in 0 places target ≡ get_or places target None
place_zero places target = elim (nat_le 0 target) as (λ b. (nat_le 0 target ≡ b) → cond b (get_or places (target - 0) None) None ≡ get_or places target None) [
  | true ↦ λ e. ap (λ n. get_or places n None) (omega arith)
  | false ↦ λ e. absurd (grind (arith, nat_tests, e))
] refl

-- one place is written with what may be gone
set_gone : (places : List Place) (i : ℕ) (p : Place) → MayBeGone p → MayBeGone (get_or places i None) → MayBeGone (get_or (set places i p) i None)
set_gone places i p is was = elim (cases_Bool (nat_lt i (length places))) as (λ _. MayBeGone (get_or (set places i p) i None)) [
  | inl t ↦ subst MayBeGone (sym (get_or-set_same places i p None (grind (arith, nat_tests, t)))) is
  | inr f ↦ subst (λ ps. MayBeGone (get_or ps i None)) (sym (set_out places i p (grind (arith, nat_tests, f)))) was
]

-- one place is written alike in both
set_alike :
    (one other : List Place) (k j : ℕ) (p : Place) → length other ≡ length one → get_or other j None ≡ get_or one j None
    → get_or (set other k p) j None ≡ get_or (set one k p) j None
set_alike one other k j p long same = elim (cases_Bool (nat_eq j k)) as (λ _. get_or (set other k p) j None ≡ get_or (set one k p) j None) [
  | inl t ↦ (let is : j ≡ k = grind (arith, nat_tests, t) in
      elim (cases_Bool (nat_lt j (length one))) as (λ _. get_or (set other k p) j None ≡ get_or (set one k p) j None) [
        | inl t2 ↦ (let within : j < length one = grind (arith, nat_tests, t2) in
            subst (λ m. get_or (set other m p) j None ≡ get_or (set one m p) j None) is (get_or-set_same other j p None (omega (arith, within, long)) ∙ sym (get_or-set_same one j p None within)))
        | inr f2 ↦ (let out : length one ≤ j = grind (arith, nat_tests, f2) in
            ap (λ ps. get_or ps j None) (set_out other k p (omega (arith, out, long, is))) ∙ (same ∙ sym (ap (λ ps. get_or ps j None) (set_out one k p (omega (arith, out, is))))))
      ])
  | inr f ↦ (let is_not : j ≡ k → ⊥ = λ e. grind (arith, nat_tests, f, e) in
      get_or-set_other other k j p None is_not ∙ (same ∙ sym (get_or-set_other one k j p None is_not)))
]

-- the place of an event after it
after_zero : (peers : ℕ) (places : List Place) (e : Triple) → places_after 0 peers places e ≡ set places e.target (answered (get_or places e.target None) e.time e.target peers e.word)
after_zero peers places e = elim (cases_Bool (nat_le 0 e.target)) as (λ _. places_after 0 peers places e ≡ set places e.target (answered (get_or places e.target None) e.time e.target peers e.word)) [
  | inl t ↦ (let n : e.target - 0 ≡ e.target = omega arith in
      rw t (ap (λ m. set places m (answered (get_or places m None) e.time e.target peers e.word)) n))
  | inr f ↦ absurd (grind (arith, nat_tests, f))
]

module _ (i : ℕ) where
  -- an event for another place is answered alike
  same_answer : (one other : List Place) (e : Triple) → Beside i one other → (e.target ≡ i → ⊥) → answer_of 0 (length other) other e ≡ answer_of 0 (length one) one e
  same_answer one other e h is_not =
      let p : place_in 0 other e.target ≡ place_in 0 one e.target = place_zero other e.target ∙ (h.same e.target is_not ∙ sym (place_zero one e.target)) in
      ap₂ (λ place n. outcome_at place e.time e.target n e.word) p h.long

  -- the same events follow
  same_follow_ups : (one other : List Place) (e : Triple) → Beside i one other → follow_ups (answer_of 0 (length other) other e) ≡ follow_ups (answer_of 0 (length one) one e)
  same_follow_ups one other e h = elim (cases_Bool (nat_eq e.target i)) as (λ _. follow_ups (answer_of 0 (length other) other e) ≡ follow_ups (answer_of 0 (length one) one e)) [
    | inl t ↦ (let is : i ≡ e.target = grind (arith, nat_tests, t) in
        let gone : MayBeGone (place_in 0 one e.target) = subst MayBeGone (sym (place_zero one e.target)) (subst (λ n. MayBeGone (get_or one n None)) is h.gone) in
        let gone_too : MayBeGone (place_in 0 other e.target) = subst MayBeGone (sym (place_zero other e.target)) (subst (λ n. MayBeGone (get_or other n None)) is h.gone_too) in
        no_follow_up (place_in 0 other e.target) e.time e.target (length other) e.word gone_too ∙ sym (no_follow_up (place_in 0 one e.target) e.time e.target (length one) e.word gone))
    | inr f ↦ ap follow_ups (same_answer one other e h (λ is. grind (arith, nat_tests, f, is)))
  ]

  -- and the places go on beside each other
  beside_after : (one other : List Place) (e : Triple) → Beside i one other → Beside i (places_after 0 (length one) one e) (places_after 0 (length other) other e)
  beside_after one other e h =
      let t = e.target in
      let p = answered (get_or one t None) e.time t (length one) e.word in
      let q = answered (get_or other t None) e.time t (length other) e.word in
      let next : Beside i (set one t p) (set other t q) = elim (cases_Bool (nat_eq t i)) as (λ _. Beside i (set one t p) (set other t q)) [
        | inl same ↦ (let is : i ≡ t = grind (arith, nat_tests, same) in
            let gone : MayBeGone (get_or one t None) = subst (λ n. MayBeGone (get_or one n None)) is h.gone in
            let gone_too : MayBeGone (get_or other t None) = subst (λ n. MayBeGone (get_or other n None)) is h.gone_too in
            record {
              long = length-set other t q ∙ (h.long ∙ sym (length-set one t p));
              same = λ j is_not. (let far : j ≡ t → ⊥ = λ e. is_not (e ∙ sym is) in get_or-set_other other t j q None far ∙ (h.same j is_not ∙ sym (get_or-set_other one t j p None far)));
              gone = subst (λ n. MayBeGone (get_or (set one t p) n None)) (sym is) (set_gone one t p (stays_gone (get_or one t None) e.time t (length one) e.word gone) gone);
              gone_too = subst (λ n. MayBeGone (get_or (set other t q) n None)) (sym is) (set_gone other t q (stays_gone (get_or other t None) e.time t (length other) e.word gone_too) gone_too);
            })
        | inr f ↦ (let far : t ≡ i → ⊥ = λ is. grind (arith, nat_tests, f, is) in
            let back : i ≡ t → ⊥ = λ is. far (sym is) in
            let alike : q ≡ p = ap₂ (λ place n. answered place e.time t n e.word) (h.same t far) h.long in
            record {
              long = length-set other t q ∙ (h.long ∙ sym (length-set one t p));
              same = λ j is_not. ap (λ x. get_or (set other t x) j None) alike ∙ set_alike one other t j p h.long (h.same j is_not);
              gone = subst MayBeGone (sym (get_or-set_other one t i p None back)) h.gone;
              gone_too = subst MayBeGone (sym (get_or-set_other other t i q None back)) h.gone_too;
            })
      ] in
      subst (Beside i (places_after 0 (length one) one e)) (sym (after_zero (length other) other e)) (subst (λ ps. Beside i ps (set other t q)) (sym (after_zero (length one) one e)) next)

  -- a turn before both runs
  same_turn :
      (e : Triple) (a b : Option Outcome) (n m : ℕ) (one other : Run) → ((e.target ≡ i → ⊥) → b ≡ a) → SameForOthers i one other
      → SameForOthers i (turned (entry e a) n one) (turned (entry e b) m other)
  same_turn e a b n m one other alike h = record {
    ends = h.ends;
    lines = elim (cases_Bool (nat_eq e.target i)) as (λ _. for_others i (entry e b ∷ other.entries) ≡ for_others i (entry e a ∷ one.entries)) [
      | inl t ↦ rw t h.lines
      | inr f ↦ rw f (ap₂ (λ x es. entry e x ∷ es) (alike (λ is. grind (arith, nat_tests, f, is))) h.lines)
    ];
  }

  gone_from : (until left count : ℕ) (agenda : List Triple) (one other : List Place) → Beside i one other → SameForOthers i (run_from until left count agenda one) (run_from until left count agenda other)
  gone_from until left count [] one other h = record { ends = refl; lines = refl }
  gone_from until zero count (e ∷ rest) one other h = record { ends = refl; lines = refl }
  gone_from until (suc left) count (e ∷ rest) one other h =
      let a = answer_of 0 (length one) one e in
      let b = answer_of 0 (length other) other e in
      let next = places_after 0 (length one) one e in
      let next_other = places_after 0 (length other) other e in
      let run_of : List Place → List Triple → Run = λ places fs. run_from until left (suc count) (in_turn (rest ++ fs)) places in
      let go = gone_from until left (suc count) (in_turn (rest ++ follow_ups a)) next next_other (beside_after one other e h) in
      let tail : SameForOthers i (run_of next (follow_ups a)) (run_of next_other (follow_ups b)) = subst (λ fs. SameForOthers i (run_of next (follow_ups a)) (run_of next_other fs)) (sym (same_follow_ups one other e h)) go in
      elim (nat_lt until e.time) as (λ test. SameForOthers i (cond test (ended (Until count) one) (turned (entry e a) (length (rest ++ follow_ups a)) (run_of next (follow_ups a)))) (cond test (ended (Until count) other) (turned (entry e b) (length (rest ++ follow_ups b)) (run_of next_other (follow_ups b))))) [
        | true ↦ record { ends = refl; lines = refl }
        | false ↦ same_turn e a b (length (rest ++ follow_ups a)) (length (rest ++ follow_ups b)) (run_of next (follow_ups a)) (run_of next_other (follow_ups b)) (same_answer one other e h) tail
      ]

pub nobody_feels_gone : NobodyFeelsGone
nobody_feels_gone until events i bag places gone =
    gone_from i until events 0 (in_turn bag) places (set places i None) (record {
      long = length-set places i None;
      same = λ j is_not. get_or-set_other places i j None None is_not;
      gone = gone;
      gone_too = set_gone places i None tt gone;
    })
