-- Plans: which piece each worker merges.
use Rattle.std.proofs.Common.{◌≡◌, ℕ, zero, suc, ◌+◌, ◌-◌, ◌*◌, ◌/◌, ◌<◌, ◌≤◌, Bool, true, false, List, [], ◌∷◌, ◌++◌, length, take, drop, get_or, set, refl, sym, ap, subst, inl, inr, ◌∙◌, arith}
use Rattle.std.specs.Prelude.{◌&&◌, replicate, count_by}
use Rattle.std.specs.declared.cmp.Ordering.{Ordering}
use Rattle.std.specs.declared.cmp.Ordering.TheVariants.{Equal}
use Rattle.std.specs.Cmp.{IsTotalOrder, IsStrictWeakOrder}
use Rattle.std.specs.List.{AllByRecursion as Each}
use Rattle.std.proofs.lemmas.Bool.{cases_lt}
use Rattle.std.proofs.lemmas.List.{get_or_past, get_or-drop, length-replicate, take_all, take_more_set}
use Rattle.std.proofs.Math.Nat.{mul-le-mul_left, div-mul-le_self}
use Rattle.std.proofs.lemmas.Nat.{le-div}
use Rattle.ppq_split.specs.ppq_record.Order.{is_before, Rising, in_order}
use Rattle.ppq_split.specs.ppq_record.Bag.{IsSameBag, front}
use Rattle.ppq_split.specs.ppq_record.Runs.{all_of}
use Rattle.ppq_split.proofs.ppq_record.Fronts.{ranks, no_tie}
use Rattle.ppq_split.specs.Cut.{AreWithin, total, IsCutBy}
use Rattle.ppq_split.proofs.Cuts.{IsCut-rises}
use Rattle.ppq_merge.specs.declared.seat.Seat.{Seat}
use Rattle.ppq_merge.specs.Parts.{before, AreParts, size_between, IsParted}
use Rattle.ppq_merge.specs.Plan.{Fill, PiecesBy, Chain, AllParted, GetsPiece, IsPlan, IsCutPlan, IsPlanned, Rises, StandsAt}
use Rattle.ppq_merge.specs.Seat.{from_of, to_of, HasRoom}
use Rattle.ppq_merge.proofs.Between.{parts_from_places, IsCut-parted, between-zeros}
use Rattle.ppq_merge.proofs.Pieces.{chain_bag, chain_front}

pub rises_all : (fs ts : List ℕ) (n : ℕ) → length fs ≤ n → length fs ≡ length ts → ((k : ℕ) → k < n → get_or fs k 0 ≤ get_or ts k 0) → Rises fs ts
rises_all fs ts n l e h i =
    elim (cases_lt i n) as (λ _. get_or fs i 0 ≤ get_or ts i 0) [
      | inl m ↦ h i m
      | inr m ↦ omega (arith, get_or_past fs i 0 (omega arith))
    ]

and_both : (a b : Bool) → (a && b) ≡ true → (a ≡ true) × (b ≡ true)
and_both true b h = (refl, h)
and_both false b h = cc

and_from : (a b : Bool) → a ≡ true → b ≡ true → (a && b) ≡ true
and_from a b h k = rw (h, k) refl

zero_at : (cs : List ℕ) (i : ℕ) → total cs ≡ 0 → get_or cs i 0 ≡ 0
zero_at [] i z = refl
zero_at (c ∷ cs) zero z = omega arith
zero_at (c ∷ cs) (suc i) z = zero_at cs i (omega arith)

total_fill : (n : ℕ) → total (replicate n 0) ≡ 0
total_fill zero = refl
total_fill (suc n) = omega (arith, total_fill n)

pub total_zeros : (zs : List ℕ) (n : ℕ) → zs ≡ replicate n 0 → total zs ≡ 0
total_zeros zs n e = ap total e ∙ total_fill n

module _ {X : Type 0} where
  pub gap_total : (fs ts : List ℕ) (qs : List (List X)) → AreParts fs ts qs → total fs + size_between fs ts ≡ total ts
  gap_total [] [] [] h = refl
  gap_total [] [] (q ∷ qs) h = absurd h
  gap_total [] (t ∷ ts) qs h = absurd h
  gap_total (f ∷ fs) [] qs h = absurd h
  gap_total (f ∷ fs) (t ∷ ts) [] h = absurd h
  gap_total (f ∷ fs) (t ∷ ts) (q ∷ qs) h = omega (arith, gap_total fs ts qs h.1)

  pub AreWithin-zeros : (cs : List ℕ) (qs : List (List X)) → length cs ≡ length qs → total cs ≡ 0 → AreWithin cs qs
  AreWithin-zeros [] [] l z = tt
  AreWithin-zeros [] (q ∷ qs) l z = absurd (omega arith)
  AreWithin-zeros (c ∷ cs) [] l z = absurd (omega arith)
  AreWithin-zeros (c ∷ cs) (q ∷ qs) l z = (omega arith, AreWithin-zeros cs qs (omega arith) (omega arith))

  pub IsCut-zeros : (lt : X → X → Bool) (cs : List ℕ) (qs : List (List X)) → length cs ≡ length qs → total cs ≡ 0 → IsCutBy lt qs 0 cs
  IsCut-zeros lt cs qs l z = record {
    within = AreWithin-zeros cs qs l z;
    adds_up = z;
    apart = λ i j a b d h k n. absurd (let e = zero_at cs i z in let w : a < 0 = subst (λ v. a < v) e h in let r : ⊥ = omega arith in r);
  }

module _ {R : Type 0} where
  Chain-push : (qs : List (List R)) (f : List ℕ) (ss : List (Seat R)) (m : List ℕ) (s : Seat R) → Chain qs f ss m → (from_of qs s) ≡ m → AreParts m (to_of qs s) qs → Chain qs f (ss ++ s ∷ []) (to_of qs s)
  unfolding Chain
  Chain-push qs f [] m s c e h = (e ∙ sym c, subst (λ x. AreParts x (to_of qs s) qs) (sym c) h, refl)
  Chain-push qs f (t ∷ ss) m s c e h = (c.0, c.1, Chain-push qs (to_of qs t) ss m s c.2 e h)

  Fill-push :
      (qs : List (List R)) (base : ℕ) (ss : List (Seat R)) (r : ℕ) (s : Seat R)
      → Fill qs base ss r → s.end ≡ r + size_between (from_of qs s) (to_of qs s) → AreParts (from_of qs s) (to_of qs s) qs → HasRoom qs s
      → Fill qs base (ss ++ s ∷ []) s.end
  unfolding Fill
  Fill-push qs base [] r s f e h l = (e ∙ ap (λ k. k + size_between (from_of qs s) (to_of qs s)) (sym f), h, l, refl)
  Fill-push qs base (t ∷ ss) r s f e h l = (f.0, f.1, f.2, Fill-push qs t.end ss r s f.3 e h l)

  AllParted-push : (lt : R → R → Bool) (qs : List (List R)) (ss : List (Seat R)) (s : Seat R) → AllParted lt qs ss → IsParted lt (to_of qs s) qs → AllParted lt qs (ss ++ s ∷ [])
  unfolding AllParted
  AllParted-push lt qs [] s a p = (p, tt)
  AllParted-push lt qs (t ∷ ss) s a p = (a.0, AllParted-push lt qs ss s a.1 p)

  plan_none : (qs : List (List R)) (f : List ℕ) → IsPlan qs f [] f 0
  unfolding Chain Fill
  plan_none qs f = record { chain = refl; fill = refl }

  cut_plan_none : (lt : R → R → Bool) (qs : List (List R)) (f : List ℕ) → length f ≡ length qs → total f ≡ 0 → IsCutPlan lt qs [] f 0
  unfolding AllParted
  cut_plan_none lt qs f l z = record { cut = IsCut-zeros lt f qs l z; parted = tt }

  -- one worker more
  pub plan_more :
      (lt : R → R → Bool) (qs : List (List R)) (f : List ℕ) (ss : List (Seat R)) (m : List ℕ) (s : Seat R) (r t : ℕ)
      → IsPlan qs f ss m r → (from_of qs s) ≡ m → s.end ≡ t → total m ≡ r → total (to_of qs s) ≡ t → AreWithin m qs → AreWithin (to_of qs s) qs → Rises m (to_of qs s) → HasRoom qs s
      → IsPlan qs f (ss ++ s ∷ []) (to_of qs s) t
  plan_more lt qs f ss m s r t p a b c d e g h l =
      let fits = parts_from_places lt m (to_of qs s) qs e g h in
      let sum = gap_total m (to_of qs s) qs fits in
      let ff : AreParts (from_of qs s) (to_of qs s) qs = subst (λ x. AreParts x (to_of qs s) qs) (sym a) fits in
      let gg = ap (λ x. size_between x (to_of qs s)) a in
      record {
        chain = Chain-push qs f ss m s p.chain a fits;
        fill = subst (Fill qs 0 (ss ++ s ∷ [])) b (Fill-push qs 0 ss r s p.fill (omega arith) ff l);
      }

  pub cut_plan_more :
      (lt : R → R → Bool) (qs : List (List R)) (ss : List (Seat R)) (m : List ℕ) (s : Seat R) (r t : ℕ)
      → IsCutPlan lt qs ss m r → IsCutBy lt qs t (to_of qs s) → IsCutPlan lt qs (ss ++ s ∷ []) (to_of qs s) t
  cut_plan_more lt qs ss m s r t p c = record { cut = c; parted = AllParted-push lt qs ss s p.parted (IsCut-parted lt qs t (to_of qs s) c) }

  pub plan_rises : (lt : R → R → Bool) (qs : List (List R)) (ss : List (Seat R)) (m ts : List ℕ) (r t : ℕ) → IsCutPlan lt qs ss m r → IsCutBy lt qs t ts → r ≤ t → Rises m ts
  plan_rises lt qs ss m ts r t p c l = IsCut-rises lt qs r t m ts p.cut c l

pub rank_rises : (count j w : ℕ) → 0 < w → count * j / w ≤ count * (j + 1) / w
rank_rises count j w z =
    let a : count * j ≤ count * (j + 1) = mul-le-mul_left count (omega arith) in
    le-div (count * j / w) (count * (j + 1)) w z (omega (arith, div-mul-le_self (count * j) w))

-- the loop's step
module _ {R : Type 0} (lt : R → R → Bool) (qs : List (List R)) (f : List ℕ) where
  plan_kept :
      (ss : List (Seat R)) (k : ℕ) (s : Seat R) (m : List ℕ) (r t : ℕ) (ok rises : Bool)
      → k < length ss → (ok ≡ true → IsPlan qs f (take k ss) m r) → (from_of qs s) ≡ m → s.end ≡ t → total m ≡ r → total (to_of qs s) ≡ t
      → AreWithin m qs → AreWithin (to_of qs s) qs → (rises ≡ true → Rises m (to_of qs s)) → HasRoom qs s
      → (ok && rises) ≡ true → IsPlan qs f (take (k + 1) (set ss k s)) (to_of qs s) t
  plan_kept ss k s m r t ok rises l p a b c d e g h v w =
      let q = and_both ok rises w in
      rw (take_more_set ss k s l) (plan_more lt qs f (take k ss) m s r t (p q.0) a b c d e g (h q.1) v)

  cut_kept :
      (ss : List (Seat R)) (k : ℕ) (s : Seat R) (m : List ℕ) (r t : ℕ) (ok rises : Bool)
      → k < length ss → (ok ≡ true) × IsCutPlan lt qs (take k ss) m r → IsCutBy lt qs t (to_of qs s) → r ≤ t → (Rises m (to_of qs s) → rises ≡ true)
      → ((ok && rises) ≡ true) × IsCutPlan lt qs (take (k + 1) (set ss k s)) (to_of qs s) t
  cut_kept ss k s m r t ok rises l p c e h = (
    and_from ok rises p.0 (h (plan_rises lt qs (take k ss) m (to_of qs s) r t p.1 c e)),
    rw (take_more_set ss k s l) (cut_plan_more lt qs (take k ss) m s r t p.1 c),
  )

-- what is planned so far: nothing, one worker more, all
module _ {R : Type 0} (cmp : R → R → Ordering) (qs : List (List R)) (f : List ℕ) where
  pub planned_none : (t : ℕ) → f ≡ replicate (length qs) 0 → 0 ≡ t → IsPlanned cmp qs f [] f t true
  planned_none t zeros none =
      let long = ap length zeros ∙ length-replicate (length qs) 0 in
      let nothing = total_zeros f (length qs) zeros in
      record {
        within = AreWithin-zeros f qs long nothing;
        adds_up = nothing ∙ none;
        plan = λ _. subst (IsPlan qs f [] f) none (plan_none qs f);
        rising = λ up. (refl, subst (IsCutPlan (is_before cmp) qs [] f) none (cut_plan_none (is_before cmp) qs f long nothing));
      }

  pub planned_more :
      (ss : List (Seat R)) (k : ℕ) (d s : Seat R) (m ts : List ℕ) (r t : ℕ) (ok rises : Bool)
      → k < length ss → r ≤ t → HasRoom qs (get_or ss k d) → IsPlanned cmp qs f (take k ss) m r ok → GetsPiece qs m ts t (get_or ss k d) s → StandsAt cmp qs t ts
      → (rises ≡ true → Rises m ts) → (Rises m ts → rises ≡ true)
      → IsPlanned cmp qs f (take (k + 1) (set ss k s)) ts t (ok && rises)
  planned_more ss k d s m ts r t ok rises l le room p got at up stays =
      let lt = is_before cmp in
      let z = got.to in
      let kept = got.kept in
      let fits : HasRoom qs s = (omega (arith, room.0, kept.from), omega (arith, room.1, kept.to), omega (arith, room.2, kept.leaves)) in
      record {
        within = at.within;
        adds_up = at.adds_up;
        plan = λ both.
            subst (λ x. IsPlan qs f (take (k + 1) (set ss k s)) x t) z
            (plan_kept lt qs f ss k s m r t ok rises l p.plan got.from got.end p.adds_up (ap total z ∙ at.adds_up) p.within (subst (λ x. AreWithin x qs) (sym z) at.within) (λ y. subst (Rises m) (sym z) (up y)) fits both);
        rising = λ ascend.
            subst (λ x. ((ok && rises) ≡ true) × IsCutPlan lt qs (take (k + 1) (set ss k s)) x t) z
            (cut_kept lt qs f ss k s m r t ok rises l (p.rising ascend) (subst (IsCutBy lt qs t) (sym z) (at.cut ascend)) le (λ y. stays (subst (Rises m) z y)));
      }

  pub planned_all : (ss : List (Seat R)) (k r t : ℕ) (ts : List ℕ) (ok : Bool) → length ss ≤ k → r ≡ t → IsPlanned cmp qs f (take k ss) ts r ok → IsPlanned cmp qs f ss ts t ok
  planned_all ss k r t ts ok all same p =
      subst (λ x. IsPlanned cmp qs f x ts t ok) (take_all k ss all) (subst (λ x. IsPlanned cmp qs f (take k ss) ts x ok) same p)

AreParts-same : {X : Type 0} (f : List ℕ) (qs : List (List X)) → AreWithin f qs → AreParts f f qs
AreParts-same [] [] h = tt
AreParts-same [] (q ∷ qs) h = absurd h
AreParts-same (c ∷ cs) [] h = absurd h
AreParts-same (c ∷ cs) (q ∷ qs) h = ((omega arith, h.0), AreParts-same cs qs h.1)

-- what the workers made together
pub made_front :
    {R : Type 0} (cmp : R → R → Ordering) (o : IsTotalOrder cmp) (law : (x y : R) → cmp x y ≡ Equal → x ≡ y)
    (qs : List (List R)) (f : List ℕ) (ss : List (Seat R)) (t : List ℕ) (count : ℕ) (out : List R)
    → Each (Rising (is_before cmp)) qs → length f ≡ length qs → total f ≡ 0 → length out ≡ count
    → IsPlan qs f ss t count → IsCutPlan (is_before cmp) qs ss t count → PiecesBy (is_before cmp) qs ss out
    → out ≡ front cmp (all_of qs) count
made_front cmp o law qs f ss t count out up l z n p c q =
    let lt = is_before cmp in
    chain_front lt (ranks o) (no_tie o law) qs f ss t out up p.chain (AreParts-same f qs (AreWithin-zeros f qs l z)) z c.parted (IsCut-parted lt qs count t c.cut) q
    ∙ ap (λ k. take k (in_order lt (all_of qs))) n

pub made_bag :
    {R : Type 0} (lt : R → R → Bool) (o : IsStrictWeakOrder lt)
    (qs : List (List R)) (f : List ℕ) (ss : List (Seat R)) (t : List ℕ) (count : ℕ) (out : List R)
    → length f ≡ length qs → total f ≡ 0 → IsPlan qs f ss t count → PiecesBy lt qs ss out → IsSameBag out (before t qs)
made_bag lt o qs f ss t count out l z n q p =
    let r = chain_bag lt o qs f ss t out n.chain (AreParts-same f qs (AreWithin-zeros f qs l z)) q in
    r.0 p ∙ ap (count_by p) (between-zeros t qs f r.1 z)

past_append : (xs ys : List ℕ) (j : ℕ) → length xs ≤ j → get_or (xs ++ ys) j 0 ≡ get_or ys (j - length xs) 0
past_append [] ys j l = ap (λ n. get_or ys n 0) (omega arith)
past_append (x ∷ xs) ys zero l = absurd (omega arith)
past_append (x ∷ xs) ys (suc j) l = past_append xs ys j (omega arith) ∙ ap (λ n. get_or ys n 0) (omega arith)

-- places behind those that were written
pub zeros_behind : (cs zs : List ℕ) (n k j : ℕ) → zs ≡ replicate n 0 → (length cs ≤ j) → get_or (cs ++ drop k zs) j 0 ≡ 0
zeros_behind cs zs n k j e l = past_append cs (drop k zs) j l ∙ (get_or-drop k zs (j - length cs) 0 ∙ (ap (λ z. get_or z (k + (j - length cs)) 0) e ∙ zero_at (replicate n 0) (k + (j - length cs)) (total_fill n)))
