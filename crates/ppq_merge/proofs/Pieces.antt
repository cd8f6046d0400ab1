-- The pieces of several workers, one after the other.
use Rattle.std.proofs.Common.{◌≡◌, ℕ, zero, suc, ◌+◌, ◌-◌, ◌<◌, ◌≤◌, Bool, List, [], ◌∷◌, ◌++◌, length, take, drop, get_or, refl, sym, ap, subst, ◌∙◌, arith}
use Rattle.std.specs.Prelude.{count_by}
use Rattle.std.specs.List.{AllByRecursion as Each}
use Rattle.std.specs.Cmp.{IsStrictWeakOrder}
use Rattle.std.proofs.lemmas.List.{append_assoc, append-nil}
use Rattle.ppq_split.specs.ppq_record.Order.{Le, Rising, in_order}
use Rattle.ppq_split.specs.ppq_record.Bag.{IsSameBag}
use Rattle.ppq_split.specs.ppq_record.Runs.{all_of}
use Rattle.ppq_split.proofs.ppq_record.Order.{count_by-append, Each-weaker, Each_le-same_bag, Rising-append, front_is}
use Rattle.ppq_split.specs.Cut.{AreWithin, total}
use Rattle.ppq_merge.specs.declared.seat.Seat.{Seat}
use Rattle.ppq_merge.specs.Parts.{between, before, after, AreParts, IsParted, IsMergeBy, LieBetween}
use Rattle.ppq_merge.specs.Plan.{Fill, PiecesBy, Chain, AllParted}
use Rattle.ppq_merge.specs.Seat.{from_of, to_of, HasRoom}
use Rattle.ppq_merge.proofs.Between.{count_by-nil, count_by-between, AreParts-trans, Each-between_before, Each-between_after, count_by-before_after, between-zeros}

module _ {R : Type 0} where
  -- the rank where the first of several workers' pieces end
  pub Fill-rises : (qs : List (List R)) (base : ℕ) (ss : List (Seat R)) (e : ℕ) → Fill qs base ss e → base ≤ e
  unfolding Fill
  Fill-rises qs base [] e f = omega arith
  Fill-rises qs base (s ∷ ss) e f = let r = Fill-rises qs s.end ss e f.3 in omega (arith, f.0)

  pub Fill-split :
      (qs : List (List R)) (base : ℕ) (ss : List (Seat R)) (e n : ℕ) (d : Seat R)
      → Fill qs base ss e → n < length ss
      → Fill qs base (take (suc n) ss) (get_or ss n d).end × Fill qs (get_or ss n d).end (drop (suc n) ss) e
  unfolding Fill
  Fill-split qs base [] e n d f l = absurd (omega arith)
  Fill-split qs base (s ∷ ss) e zero d f l = ((f.0, f.1, f.2, refl), f.3)
  Fill-split qs base (s ∷ ss) e (suc n) d f l =
      let r = Fill-split qs s.end ss e n d f.3 (omega arith) in ((f.0, f.1, f.2, r.0), r.1)

  -- the same at what the code has: the first n workers, who end at rank mid
  pub Fill-halves :
      (qs : List (List R)) (base : ℕ) (ss : List (Seat R)) (e n mid : ℕ) (s : Seat R)
      → Fill qs base ss e → 0 < n → n < length ss → mid ≡ (get_or ss (n - 1) s).end
      → (base ≤ mid) × (mid ≤ e) × Fill qs base (take n ss) mid × Fill qs mid (drop n ss) e
  Fill-halves qs base ss e zero mid s f z l k = absurd (omega arith)
  Fill-halves qs base ss e (suc n) mid s f z l k =
      let m : get_or ss n s ≡ get_or ss (suc n - 1) s = ap (λ i. get_or ss i s) (omega arith) in
      let x : mid ≡ (get_or ss n s).end = cc in
      let r = Fill-split qs base ss e n s f (omega arith) in
      let low : Fill qs base (take (suc n) ss) mid = rw x r.0 in
      let high : Fill qs mid (drop (suc n) ss) e = rw x r.1 in
      (Fill-rises _ _ _ _ low, Fill-rises _ _ _ _ high, low, high)

  -- one worker has the whole
  pub Fill-one :
      (qs : List (List R)) (base : ℕ) (ss : List (Seat R)) (size : ℕ) (d : Seat R)
      → Fill qs base ss (base + size) → length ss ≡ 1
      → LieBetween (from_of qs (get_or ss 0 d)) (to_of qs (get_or ss 0 d)) qs size × HasRoom qs (get_or ss 0 d)
  unfolding Fill
  Fill-one qs base [] size d f l = absurd (omega arith)
  Fill-one qs base (s ∷ []) size d f l = (record { parts = f.1; size = omega (arith, f.0, f.3) }, f.2)
  Fill-one qs base (s ∷ (t ∷ ss)) size d f l = absurd (omega arith)

  pub Pieces-one :
      (lt : R → R → Bool) (qs : List (List R)) (ss : List (Seat R)) (d : Seat R) (out : List R)
      → length ss ≡ 1 → IsMergeBy lt qs (from_of qs (get_or ss 0 d)) (to_of qs (get_or ss 0 d)) out → PiecesBy lt qs ss out
  unfolding PiecesBy
  Pieces-one lt qs [] d out l m = absurd (omega arith)
  Pieces-one lt qs (s ∷ []) d out l m = (out, [], sym (append-nil out), m, refl)
  Pieces-one lt qs (s ∷ (t ∷ ss)) d out l m = absurd (omega arith)

  pub Pieces-append :
      (lt : R → R → Bool) (qs : List (List R)) (ss ts : List (Seat R)) (a b : List R)
      → PiecesBy lt qs ss a → PiecesBy lt qs ts b → PiecesBy lt qs (ss ++ ts) (a ++ b)
  unfolding PiecesBy
  Pieces-append lt qs [] ts a b p q = rw p q
  Pieces-append lt qs (s ∷ ss) ts a b p q =
      (p.0, p.1 ++ b, ap (λ x. x ++ b) p.2 ∙ append_assoc p.0 p.1 b, p.3, Pieces-append lt qs ss ts p.1 b p.4 q)

module _ {X : Type 0} where
  AreParts-end : (f t : List ℕ) (qs : List (List X)) → AreParts f t qs → AreParts t t qs
  AreParts-end [] [] [] h = tt
  AreParts-end [] [] (q ∷ qs) h = absurd h
  AreParts-end [] (t ∷ ts) qs h = absurd h
  AreParts-end (f ∷ fs) [] qs h = absurd h
  AreParts-end (f ∷ fs) (t ∷ ts) [] h = absurd h
  AreParts-end (f ∷ fs) (t ∷ ts) (q ∷ qs) h = ((omega arith, h.0.1), AreParts-end fs ts qs h.1)

  pub AreWithin-end : (f t : List ℕ) (qs : List (List X)) → AreParts f t qs → AreWithin t qs
  AreWithin-end [] [] [] h = tt
  AreWithin-end [] [] (q ∷ qs) h = absurd h
  AreWithin-end [] (t ∷ ts) qs h = absurd h
  AreWithin-end (f ∷ fs) [] qs h = absurd h
  AreWithin-end (f ∷ fs) (t ∷ ts) [] h = absurd h
  AreWithin-end (f ∷ fs) (t ∷ ts) (q ∷ qs) h = (h.0.1, AreWithin-end fs ts qs h.1)

module _ {R : Type 0} (lt : R → R → Bool) (o : IsStrictWeakOrder lt) where
  -- the pieces of a chain are the records between its ends
  pub chain_bag :
      (qs : List (List R)) (f : List ℕ) (ss : List (Seat R)) (t : List ℕ) (out : List R)
      → Chain qs f ss t → AreParts f f qs → PiecesBy lt qs ss out → IsSameBag out (between f t qs) × AreParts f t qs
  unfolding PiecesBy Chain
  chain_bag qs f [] t out c z p =
      let k : AreParts f t qs = subst (λ x. AreParts f x qs) c z in (
        (λ q. let e = count_by-between q f f t qs z k in
            let n = ap (count_by q) p ∙ count_by-nil q in
            let w : count_by q (between f f qs) ≡ count_by q (between f t qs) = ap (λ x. count_by q (between f x qs)) c in
            let e2 = count_by-between q f f f qs z z in
            omega arith),
        k,
      )
  chain_bag qs f (s ∷ ss) t out c z p =
      let r = chain_bag qs (to_of qs s) ss t p.1 c.2 (AreParts-end f (to_of qs s) qs c.1) p.4 in
      let m : IsMergeBy lt qs f (to_of qs s) p.0 = subst (λ x. IsMergeBy lt qs x (to_of qs s) p.0) c.0 p.3 in (
        (λ q. let e = ap (count_by q) p.2 ∙ count_by-append q p.0 p.1 in
            let g = count_by-between q f (to_of qs s) t qs c.1 r.1 in
            let mb = m.bag q in
            let rb = r.0 q in
            omega arith),
        AreParts-trans f (to_of qs s) t qs c.1 r.1,
      )

  pub chain_rising :
      (qs : List (List R)) (f : List ℕ) (ss : List (Seat R)) (t : List ℕ) (out : List R)
      → Each (Rising lt) qs → Chain qs f ss t → AreParts f f qs → AllParted lt qs ss → PiecesBy lt qs ss out → Rising lt out
  unfolding PiecesBy Chain AllParted
  chain_rising qs f [] t out up c z a p = subst (Rising lt) (sym p) tt
  chain_rising qs f (s ∷ ss) t out up c z a p =
      let zz = AreParts-end f (to_of qs s) qs c.1 in
      let r = chain_bag qs (to_of qs s) ss t p.1 c.2 zz p.4 in
      let m : IsMergeBy lt qs f (to_of qs s) p.0 = subst (λ x. IsMergeBy lt qs x (to_of qs s) p.0) c.0 p.3 in
      let later = chain_rising qs (to_of qs s) ss t p.1 up c.2 zz a.1 p.4 in
      let e1 = Each-between_before (λ x. Each (Le lt x) (after (to_of qs s) qs)) f (to_of qs s) qs a.0 in
      let e2 = Each-weaker (λ x. Each (Le lt x) (after (to_of qs s) qs)) (λ x. Each (Le lt x) (between (to_of qs s) t qs)) (λ x g. Each-between_after (Le lt x) (to_of qs s) t qs g) (between f (to_of qs s) qs) e1 in
      let e3 = Each_le-same_bag lt o (between f (to_of qs s) qs) (between (to_of qs s) t qs) p.0 p.1 (λ q. sym (m.bag q)) (λ q. sym (r.0 q)) e2 in
      subst (Rising lt) (sym p.2) (Rising-append lt o p.0 p.1 (m.order up) later e3)

  -- the pieces of a chain from the beginning to a cut are the smallest records
  pub chain_front :
      (anti : (a b : R) → Le lt a b → Le lt b a → a ≡ b)
      (qs : List (List R)) (f : List ℕ) (ss : List (Seat R)) (t : List ℕ) (out : List R)
      → Each (Rising lt) qs → Chain qs f ss t → AreParts f f qs → total f ≡ 0 → AllParted lt qs ss → IsParted lt t qs → PiecesBy lt qs ss out
      → out ≡ take (length out) (in_order lt (all_of qs))
  chain_front anti qs f ss t out up c z zero_sum a last p =
      let r = chain_bag qs f ss t out c z p in
      let up_out = chain_rising qs f ss t out up c z a p in
      let b : between f t qs ≡ before t qs = between-zeros t qs f r.1 zero_sum in
      let bag : IsSameBag out (before t qs) = λ q. r.0 q ∙ ap (count_by q) b in
      let e = Each_le-same_bag lt o (before t qs) (after t qs) out (after t qs) (λ q. sym (bag q)) (λ q. refl) last in
      front_is lt o anti (all_of qs) out (after t qs) up_out
      (λ q. count_by-append q out (after t qs) ∙ (ap (λ n. n + count_by q (after t qs)) (bag q) ∙ count_by-before_after q t qs (AreWithin-end f t qs r.1))) e
