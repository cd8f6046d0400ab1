-- Levels: more steps change nothing, no level is above its node, and the notes that wait for a node make its level.
use Rattle.std.proofs.Common.{◌≡◌, ℕ, zero, suc, ◌+◌, ◌<◌, ◌≤◌, Bool, true, false, cond, List, [], ◌∷◌, ◌++◌, refl, sym, ap, ap₂, inl, inr, ◌∙◌, arith}
use Rattle.std.specs.Prelude.{count_by, nat_lt, nat_eq}
use Rattle.std.proofs.lemmas.Bool.{cases_Bool, ltb-true, ltb-false, lt-ltb, le-ltb, eqb-true, eqb-false, false_from_ne_true}
use Rattle.ppq_queue.specs.ppq_heap.ppq_record.declared.pair.Pair.{Pair}
use Rattle.ppq_queue.specs.ppq_heap.ppq_record.Bag.{IsSameBag}
use Rattle.ppq_queue.proofs.ppq_heap.ppq_record.Order.{count_by-append, count_by-same_test}
use Rattle.ppq_sweep.specs.Levels.{IsEdge, AreEdges, greatest, lifted, level_within, level}
use Rattle.ppq_sweep.specs.Notes.{note, if_later, if_sent, if_left, if_waiting, later, sent, left, waiting, raise, raised}
use Rattle.ppq_sweep.proofs.Greatest.{passes, weight, count_by-filter_map, greatest-filter_map, greatest-same, greatest-weights, greatest-within, count_by-sum}

module _ (nodes : ℕ) where
  -- of two functions that agree below v the weights of an edge agree
  pub lifted-agree : (f g : ℕ → ℕ) (v : ℕ) → ((u : ℕ) → u < v → f u ≡ g u) → (e : Pair) → IsEdge nodes e → lifted f v e ≡ lifted g v e
  lifted-agree f g v agree e is =
      elim (cases_Bool (nat_eq e.value v)) as (λ _. lifted f v e ≡ lifted g v e) [
        | inl t ↦ let there : e.value ≡ v = eqb-true e.value v t in ap (λ (n : ℕ). cond (nat_eq e.value v) (n + 1) 0) (agree e.key (omega (arith, is.up, there)))
        | inr t ↦ ap (λ b. cond b (f e.key + 1) 0) t ∙ sym (ap (λ b. cond b (g e.key + 1) 0) t)
      ]

  -- where the levels are no higher than their nodes, so is what an edge makes of them
  lifted-low : (f : ℕ → ℕ) (v : ℕ) → ((u : ℕ) → f u ≤ u) → (e : Pair) → IsEdge nodes e → lifted f v e ≤ v
  lifted-low f v low e is =
      elim (cases_Bool (nat_eq e.value v)) as (λ _. lifted f v e ≤ v) [
        | inl t ↦ rw t (omega (arith, is.up, eqb-true e.value v t, low e.key))
        | inr t ↦ rw t (omega arith)
      ]

  -- no edge ends at the first node
  lifted-first : (f : ℕ → ℕ) (v : ℕ) → v ≤ 0 → (e : Pair) → IsEdge nodes e → lifted f v e ≤ 0
  lifted-first f v first e is =
      elim (cases_Bool (nat_eq e.value v)) as (λ _. lifted f v e ≤ 0) [
        | inl t ↦ absurd (omega (arith, is.up, first, eqb-true e.value v t))
        | inr t ↦ rw t (omega arith)
      ]

  pub first-level : (edges : List Pair) → AreEdges nodes edges → (f : ℕ → ℕ) (v : ℕ) → v ≤ 0 → greatest (lifted f v) edges ≡ 0
  first-level edges are f v first = omega (arith, greatest-within (IsEdge nodes) (lifted f v) 0 edges are (lifted-first f v first))

  -- where more steps than v change nothing
  within_enough : (edges : List Pair) → AreEdges nodes edges → (n m v : ℕ) → v ≤ n → v ≤ m → level_within edges n v ≡ level_within edges m v
  within_enough edges are zero zero v h k = refl
  within_enough edges are zero (suc m) v h k = sym (first-level edges are (level_within edges m) v h)
  within_enough edges are (suc n) zero v h k = first-level edges are (level_within edges n) v k
  within_enough edges are (suc n) (suc m) v h k =
      greatest-weights (IsEdge nodes) (lifted (level_within edges n) v) (lifted (level_within edges m) v) edges are
      (lifted-agree (level_within edges n) (level_within edges m) v (λ u below. within_enough edges are n m u (omega (arith, h, below)) (omega (arith, k, below))))

  -- the level of a node by those of its sources
  pub level-is : (edges : List Pair) → AreEdges nodes edges → (v : ℕ) → level edges v ≡ greatest (lifted (level edges) v) edges
  level-is edges are zero = sym (first-level edges are (level edges) 0 (omega arith))
  level-is edges are (suc n) =
      greatest-weights (IsEdge nodes) (lifted (level_within edges n) (suc n)) (lifted (level edges) (suc n)) edges are
      (lifted-agree (level_within edges n) (level edges) (suc n) (λ u below. within_enough edges are n u u (omega (arith, below)) (omega arith)))

  within_low : (edges : List Pair) → AreEdges nodes edges → (n v : ℕ) → level_within edges n v ≤ v
  within_low edges are zero v = omega arith
  within_low edges are (suc n) v = greatest-within (IsEdge nodes) (lifted (level_within edges n) v) v edges are (lifted-low (level_within edges n) v (within_low edges are n))

  -- no level is above its node
  pub level-low : (edges : List Pair) → AreEdges nodes edges → (v : ℕ) → level edges v ≤ v
  level-low edges are v = within_low edges are v v

  -- the note that waits because of an edge makes of the level of v what the edge does
  raise-waiting : (f : ℕ → ℕ) (v : ℕ) → ((u : ℕ) → f u ≤ u) → nodes ≤ 4294967296 → (e : Pair) → IsEdge nodes e → weight (raise v) (if_waiting f v e) ≡ lifted f v e
  raise-waiting f v low few e is =
      elim (cases_Bool (nat_lt e.value v)) as (λ _. weight (raise v) (if_waiting f v e) ≡ lifted f v e) [
        | inl t ↦
            let below : e.value < v = ltb-true e.value v t in
            let differs : nat_eq e.value v ≡ false = false_from_ne_true (nat_eq e.value v) (λ same. omega (arith, below, eqb-true e.value v same)) in
            rw (t, lt-ltb e.key v (omega (arith, is.up, below)), differs) refl
        | inr t ↦
            elim (cases_Bool (nat_eq e.value v)) as (λ _. weight (raise v) (if_waiting f v e) ≡ lifted f v e) [
              | inl s ↦
                  let here : e.value ≡ v = eqb-true e.value v s in
                  rw (s, t, lt-ltb e.key v (omega (arith, is.up, here)), le-ltb v e.value (omega (arith, here))) (omega (arith, low e.key, is.up, is.within, few))
              | inr s ↦
                  let above : v < e.value = omega (arith, ltb-false e.value v t, eqb-false e.value v s) in
                  elim (cases_Bool (nat_lt e.key v)) as (λ _. weight (raise v) (if_waiting f v e) ≡ lifted f v e) [
                    | inl u ↦ rw (s, t, u, lt-ltb v e.value above) refl
                    | inr u ↦ rw (s, u) refl
                  ]
            ]
      ]

  -- the notes that wait for a node make its level
  pub level-raised : (edges notes : List Pair) → AreEdges nodes edges → nodes ≤ 4294967296 → (v : ℕ) → IsSameBag notes (waiting (level edges) v edges) → raised v notes ≡ level edges v
  level-raised edges notes are few v same =
      greatest-same (raise v) notes (waiting (level edges) v edges) same
      ∙ (greatest-filter_map (raise v) (if_waiting (level edges) v) edges
      ∙ (greatest-weights (IsEdge nodes) (λ e. weight (raise v) (if_waiting (level edges) v e)) (lifted (level edges) v) edges are (raise-waiting (level edges) v (level-low edges are) few)
      ∙ sym (level-is edges are v)))

  -- what is done with an edge until the next node comes up
  left-next : (p : Pair → Bool) (v : ℕ) (e : Pair) → passes (λ x. passes p (if_later v x)) (if_left v e) ≡ passes p (if_left (v + 1) e)
  left-next p v e =
      elim (cases_Bool (nat_lt e.key v)) as (λ _. passes (λ x. passes p (if_later v x)) (if_left v e) ≡ passes p (if_left (v + 1) e)) [
        | inl t ↦ rw (t, lt-ltb e.key (v + 1) (omega (arith, ltb-true e.key v t))) refl
        | inr t ↦
            elim (cases_Bool (nat_lt v e.key)) as (λ _. passes (λ x. passes p (if_later v x)) (if_left v e) ≡ passes p (if_left (v + 1) e)) [
              | inl s ↦ rw (t, s, le-ltb e.key (v + 1) (omega (arith, ltb-true v e.key s))) refl
              | inr s ↦ rw (t, s, lt-ltb e.key (v + 1) (omega (arith, ltb-false v e.key s))) refl
            ]
      ]

  -- after a visit the queues hold what they are to hold when the next node comes up
  pub visit-left : (edges now next : List Pair) (v : ℕ) → IsSameBag now (left v edges) → IsSameBag next (later v now) → IsSameBag next (left (v + 1) edges)
  visit-left edges now next v here rest p =
      let q : Pair → Bool = λ x. passes p (if_later v x) in
      rest p ∙ (count_by-filter_map p (if_later v) now ∙ (here q ∙ (count_by-filter_map q (if_left v) edges
      ∙ (count_by-same_test (λ e. passes q (if_left v e)) (λ e. passes p (if_left (v + 1) e)) edges (left-next p v) ∙ sym (count_by-filter_map p (if_left (v + 1)) edges)))))

  -- an edge's note is sent when its source comes up, and waits until its target does
  waiting-next : (f : ℕ → ℕ) (p : Pair → Bool) (v : ℕ) (e : Pair) → IsEdge nodes e
      → cond (passes (λ x. passes p (if_sent v (f v) x)) (if_left v e)) 1 0 + cond (passes (λ x. passes p (if_later v x)) (if_waiting f v e)) 1 0 ≡ cond (passes p (if_waiting f (v + 1) e)) 1 0
  waiting-next f p v e is =
      elim (cases_Bool (nat_lt e.key v)) as (λ _. cond (passes (λ x. passes p (if_sent v (f v) x)) (if_left v e)) 1 0 + cond (passes (λ x. passes p (if_later v x)) (if_waiting f v e)) 1 0 ≡ cond (passes p (if_waiting f (v + 1) e)) 1 0) [
        | inl t ↦
            let came : nat_lt e.key (v + 1) ≡ true = lt-ltb e.key (v + 1) (omega (arith, ltb-true e.key v t)) in
            elim (cases_Bool (nat_lt v e.value)) as (λ _. cond (passes (λ x. passes p (if_sent v (f v) x)) (if_left v e)) 1 0 + cond (passes (λ x. passes p (if_later v x)) (if_waiting f v e)) 1 0 ≡ cond (passes p (if_waiting f (v + 1) e)) 1 0) [
              | inl s ↦ rw (t, came, le-ltb e.value v (omega (arith, ltb-true v e.value s)), le-ltb e.value (v + 1) (omega (arith, ltb-true v e.value s)), s) (omega arith)
              | inr s ↦
                  elim (cases_Bool (nat_lt e.value v)) as (λ _. cond (passes (λ x. passes p (if_sent v (f v) x)) (if_left v e)) 1 0 + cond (passes (λ x. passes p (if_later v x)) (if_waiting f v e)) 1 0 ≡ cond (passes p (if_waiting f (v + 1) e)) 1 0) [
                    | inl u ↦ rw (t, came, u, lt-ltb e.value (v + 1) (omega (arith, ltb-true e.value v u))) refl
                    | inr u ↦ rw (t, came, u, s, lt-ltb e.value (v + 1) (omega (arith, ltb-false v e.value s))) refl
                  ]
            ]
        | inr t ↦
            elim (cases_Bool (nat_lt v e.key)) as (λ _. cond (passes (λ x. passes p (if_sent v (f v) x)) (if_left v e)) 1 0 + cond (passes (λ x. passes p (if_later v x)) (if_waiting f v e)) 1 0 ≡ cond (passes p (if_waiting f (v + 1) e)) 1 0) [
              | inl s ↦ rw (t, s, le-ltb e.key (v + 1) (omega (arith, ltb-true v e.key s))) refl
              | inr s ↦
                  let same : v ≡ e.key = omega (arith, ltb-false e.key v t, ltb-false v e.key s) in
                  rw (t, s, lt-ltb e.key (v + 1) (omega (arith, ltb-false v e.key s)), le-ltb e.value (v + 1) (omega (arith, is.up, same)))
                  (let sent_is : ◌≡◌ {A = ℕ} (cond (p (note e.value (f v))) 1 0) (cond (p (note e.value (f e.key))) 1 0) = ap (λ n. cond (p (note e.value (f n))) 1 0) same in omega (arith, sent_is))
            ]
      ]

  pub visit-waiting : (edges now notes next : List Pair) → AreEdges nodes edges → (v : ℕ) → IsSameBag now (left v edges) → IsSameBag notes (waiting (level edges) v edges)
      → IsSameBag next (sent v (level edges v) now ++ later v notes) → IsSameBag next (waiting (level edges) (v + 1) edges)
  visit-waiting edges now notes next are v here wait is p =
      let f : ℕ → ℕ = level edges in
      let a : Pair → Bool = λ x. passes p (if_sent v (f v) x) in
      let b : Pair → Bool = λ x. passes p (if_later v x) in
      let sends : count_by p (sent v (f v) now) ≡ count_by (λ e. passes a (if_left v e)) edges = count_by-filter_map p (if_sent v (f v)) now ∙ (here a ∙ count_by-filter_map a (if_left v) edges) in
      let stays : count_by p (later v notes) ≡ count_by (λ e. passes b (if_waiting f v e)) edges = count_by-filter_map p (if_later v) notes ∙ (wait b ∙ count_by-filter_map b (if_waiting f v) edges) in
      is p ∙ (count_by-append p (sent v (f v) now) (later v notes) ∙ (ap₂ (λ (m n : ℕ). m + n) sends stays
      ∙ (count_by-sum (IsEdge nodes) (λ e. passes a (if_left v e)) (λ e. passes b (if_waiting f v e)) (λ e. passes p (if_waiting f (v + 1) e)) edges are (waiting-next f p v)
      ∙ sym (count_by-filter_map p (if_waiting f (v + 1)) edges))))

-- at the beginning no note waits, and all edges are left
pub none-waiting : (f : ℕ → ℕ) (edges : List Pair) → waiting f 0 edges ≡ []
none-waiting f [] = refl
none-waiting f (e ∷ es) = rw (le-ltb e.key 0 (omega arith)) (none-waiting f es)

pub all-left : (edges : List Pair) → left 0 edges ≡ edges
all-left [] = refl
all-left (e ∷ es) = rw (le-ltb e.key 0 (omega arith)) (ap (λ (xs : List Pair). e ∷ xs) (all-left es))
