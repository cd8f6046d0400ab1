-- What the workers made, together or one alone.
use Rattle.std.proofs.Common.{◌≡◌, ℕ, ◌+◌, true, List, ◌++◌, length, take, refl, sym, ap, subst, ◌∙◌, arith}
use Rattle.std.specs.Prelude.{count_by, replicate}
use Rattle.std.specs.declared.cmp.Ordering.{Ordering}
use Rattle.std.specs.declared.cmp.Ordering.TheVariants.{Equal}
use Rattle.std.specs.List.{AllByRecursion as Each}
use Rattle.std.specs.Cmp.{IsTotalOrder}
use Rattle.std.proofs.lemmas.List.{length-replicate}
use Rattle.ppq_split.specs.ppq_record.Order.{is_before, Le, in_order}
use Rattle.ppq_split.specs.ppq_record.Bag.{IsSameBag}
use Rattle.ppq_split.specs.ppq_record.Runs.{all_of}
use Rattle.ppq_split.proofs.ppq_record.Fronts.{ranks, no_tie}
use Rattle.ppq_split.proofs.ppq_record.Order.{count_by-append, front_is}
use Rattle.ppq_split.specs.Cut.{AreWithin, total, IsCutBy}
use Rattle.ppq_split.specs.Edge.{ends}
use Rattle.ppq_split.proofs.Cuts.{ends-total}
use Rattle.ppq_merge.specs.Heads.{IsMerging, LeadsToCut}
use Rattle.ppq_merge.specs.Merged.{IsMerged}
use Rattle.ppq_merge.specs.Parts.{AreParts, between, size_between, before, after}
use Rattle.ppq_merge.specs.Plan.{IsPlanned, PiecesBy}
use Rattle.ppq_merge.specs.declared.seat.Seat.{Seat}
use Rattle.ppq_merge.proofs.Between.{AreWithin-start, AreParts-ends, between-ends, before-ends, between-zeros, count_by-before_after}
use Rattle.ppq_merge.proofs.Planned.{AreWithin-zeros, IsCut-zeros, gap_total, made_bag, made_front, total_zeros}

module _ {R : Type 0} (qs : List (List R)) where
  -- the records in front of the places, where the others make up the multiset with them
  same_before :
      (cs : List ℕ) (out : List R) → AreWithin cs qs → IsSameBag (out ++ after cs qs) (all_of qs) → IsSameBag out (before cs qs)
  same_before cs out within all p = omega (arith, all p, count_by-append p out (after cs qs), count_by-before_after p cs qs within)

  -- all runs whole, between places that are all 0 and their ends
  pub whole_parts : (zs ts : List ℕ) → zs ≡ replicate (length qs) 0 → ts ≡ ends qs → AreParts zs ts qs
  whole_parts zs ts zeros at_ends =
      let long = ap length zeros ∙ length-replicate (length qs) 0 in
      subst (λ x. AreParts zs x qs) (sym at_ends) (AreParts-ends zs qs (AreWithin-zeros zs qs long (total_zeros zs (length qs) zeros)))

  pub whole_size : (zs ts : List ℕ) → zs ≡ replicate (length qs) 0 → ts ≡ ends qs → size_between zs ts ≡ length (all_of qs)
  whole_size zs ts zeros at_ends =
      omega (arith, gap_total zs ts qs (whole_parts zs ts zeros at_ends), total_zeros zs (length qs) zeros, ap total at_ends, ends-total qs)

  whole_records : (zs ts : List ℕ) → zs ≡ replicate (length qs) 0 → ts ≡ ends qs → between zs ts qs ≡ all_of qs
  whole_records zs ts zeros at_ends =
      between-zeros ts qs zs (whole_parts zs ts zeros at_ends) (total_zeros zs (length qs) zeros) ∙ (ap (λ x. before x qs) at_ends ∙ before-ends qs)

module _ {R : Type 0} (cmp : R → R → Ordering) (o : IsTotalOrder cmp) (law : (x y : R) → cmp x y ≡ Equal → x ≡ y) (qs : List (List R)) where
  -- one worker merged the smallest records of all runs
  pub merged_alone :
      (zs ts cs : List ℕ) (out : List R) (count : ℕ) → zs ≡ replicate (length qs) 0 → ts ≡ ends qs → length out ≡ count → AreParts cs ts qs → count + size_between cs ts ≡ size_between zs ts
      → IsMerging (is_before cmp) qs out (between cs ts qs) (between zs ts qs) → LeadsToCut (is_before cmp) qs ts zs cs → IsMerged cmp qs count cs out
  merged_alone zs ts cs out count zeros at_ends size parts left m cut =
      let lt = is_before cmp in
      let nothing = total_zeros zs (length qs) zeros in
      let long = ap length zeros ∙ length-replicate (length qs) 0 in
      let within = AreWithin-start cs ts qs parts in
      let adds_up : total cs ≡ count = omega (arith, gap_total cs ts qs parts, gap_total zs ts qs (whole_parts qs zs ts zeros at_ends)) in
      let rest : between cs ts qs ≡ after cs qs = ap (λ x. between cs x qs) at_ends ∙ between-ends cs qs in
      let bag : IsSameBag (out ++ after cs qs) (all_of qs) = λ p. ap (λ x. count_by p (out ++ x)) (sym rest) ∙ (m.bag p ∙ ap (count_by p) (whole_records qs zs ts zeros at_ends)) in
      record {
        within = within;
        adds_up = adds_up;
        bag = same_before qs cs out within bag;
        cut = λ up. subst (λ n. IsCutBy lt qs n cs) adds_up (cut at_ends up (subst (λ n. IsCutBy lt qs n zs) (sym nothing) (IsCut-zeros lt zs qs long nothing)));
        front = λ up.
            front_is lt (ranks o) (no_tie o law) (all_of qs) out (after cs qs) (m.order up).0 bag
            (subst (λ x. Each (λ a. Each (Le lt a) x) out) rest (m.order up).1)
            ∙ ap (λ n. take n (in_order lt (all_of qs))) size;
      }

  -- the workers merged the pieces of a plan
  pub merged_pieces :
      (zs : List ℕ) (ss : List (Seat R)) (ts : List ℕ) (out : List R) (count : ℕ) → zs ≡ replicate (length qs) 0 → length out ≡ count
      → IsPlanned cmp qs zs ss ts count true → PiecesBy (is_before cmp) qs ss out → IsMerged cmp qs count ts out
  merged_pieces zs ss ts out count zeros size planned pieces =
      let lt = is_before cmp in
      let nothing = total_zeros zs (length qs) zeros in
      let long = ap length zeros ∙ length-replicate (length qs) 0 in
      record {
        within = planned.within;
        adds_up = planned.adds_up;
        bag = made_bag lt (ranks o) qs zs ss ts count out long nothing (planned.plan refl) pieces;
        cut = λ up. (planned.rising up).1.cut;
        front = λ up. made_front cmp o law qs zs ss ts count out up long nothing size (planned.plan refl) (planned.rising up).1 pieces;
      }
