-- What one pass that records are added to has, and whether it goes on: no record, one, and more after others.
use Rattle.std.proofs.Common.{◌≡◌, ◌⊎◌, inl, inr, ℕ, suc, ◌+◌, ◌-◌, true, false, Bool, List, [], ◌∷◌, ◌++◌, length, take, Option, Some, None, refl, sym, ap, ap₂, ◌∙◌, subst, arith, length-append, Ordering, zero, ◌*◌, ◌<◌, ◌≤◌, drop, get_or, min, length-drop, take-append-drop}
use Rattle.std.specs.Prelude.{count_by}
use Rattle.std.proofs.lemmas.List.{take_all, take-append-le, drop-drop, drop_all}
use Rattle.ppq_pass.specs.ppq_record.Bag.{IsSameBag}
use Rattle.ppq_pass.specs.ppq_record.Order.{is_before}
use Rattle.ppq_pass.proofs.ppq_record.Order.{count_by-append, Each-append_left, Each-append_right}
use Rattle.ppq_pass.specs.ppq_outside.Shown.{Shown}
use Rattle.ppq_pass.specs.Passed.{PassHolding, PassTells, IsRefusedPush, IsBackedPass, IsBackedPassWithout}
use Rattle.ppq_pass.specs.ppq_array.declared.store_fault.StoreFault.{StoreFault as QueueFault}
use Rattle.ppq_pass.specs.ppq_array.declared.store_fault.StoreFault.TheVariants.{NoFreeBlock, Device}
use Rattle.ppq_session.specs.Dealing.{IsGoing, HasEnded, StaysBacked, Adds, HasNoFault, EachAdds, AddsPart, Dealt, part_for}
use Rattle.ppq_session.proofs.Backed.{backed-stays}
use Rattle.ppq_pass.specs.ppq_fetch.Taking.{NoneBelow}
use Rattle.ppq_session.specs.SessionPass.{SaysIfGoing, Takes}
use Rattle.std.specs.List.{Any}
use Rattle.std.specs.Fork.{slice_chunk}
use Rattle.std.specs.Int.{div_ceil}
use Rattle.std.proofs.lemmas.List.Sums.{sum_by-cons}
use Rattle.std.proofs.lemmas.List.Elements.{All-nil, All-cons, All-head, All-tail}
use Rattle.std.proofs.lemmas.Bool.{cases_lt}
use Rattle.std.proofs.lemmas.Grind.{div_ceil_times}
use Rattle.ppq_session.specs.BulkSession.{bag_of, accepted_of}

module _ {R : Type 0} where
  -- of no record, none
  pub part-none : (old new : List R) → IsSameBag new old → AddsPart [] old new
  part-none old new same = record { part = []; left = []; all = λ p. refl; bag = same }

  -- two parts: what one multiset got more, and another, a third one got
  pub part-both :
      (xs ys a b c d old new : List R) → ((p : R → Bool) → count_by p new + (count_by p a + count_by p c) ≡ count_by p old + (count_by p b + count_by p d))
      → AddsPart xs a b → AddsPart ys c d → AddsPart (xs ++ ys) old new
  part-both xs ys a b c d old new sum one two =
      record {
        part = one.part ++ two.part;
        left = one.left ++ two.left;
        all = λ p.
            omega (
              arith,
              one.all p,
              two.all p,
              count_by-append p xs ys,
              count_by-append p one.part one.left,
              count_by-append p two.part two.left,
              count_by-append p (one.part ++ two.part) (one.left ++ two.left),
              count_by-append p one.part two.part,
              count_by-append p one.left two.left,
            );
        bag = λ p.
            omega (
              arith,
              sum p,
              one.bag p,
              two.bag p,
              count_by-append p one.part a,
              count_by-append p two.part c,
              count_by-append p one.part two.part,
              count_by-append p (one.part ++ two.part) old,
            );
      }

  -- records that were not given
  pub part-more : (xs ys old new : List R) → AddsPart xs old new → AddsPart (xs ++ ys) old new
  part-more xs ys old new is =
      record {
        part = is.part;
        left = is.left ++ ys;
        all = λ p. omega (arith, is.all p, count_by-append p xs ys, count_by-append p is.part is.left, count_by-append p is.part (is.left ++ ys), count_by-append p is.left ys);
        bag = is.bag;
      }

  -- the same records and the same multisets, in another order
  pub part-same : (xs ys old old' new new' : List R) → IsSameBag xs ys → ((p : R → Bool) → count_by p new' + count_by p old ≡ count_by p new + count_by p old') → AddsPart xs old new → AddsPart ys old' new'
  part-same xs ys old old' new new' same sum is =
      record {
        part = is.part;
        left = is.left;
        all = λ p. omega (arith, same p, is.all p);
        bag = λ p. omega (arith, sum p, is.bag p, count_by-append p is.part old, count_by-append p is.part old');
      }

-- of two lists the first, and some of the second
take-both : {X : Type 0} (xs ys : List X) (k : ℕ) → take (length xs + k) (xs ++ ys) ≡ xs ++ take k ys
take-both [] ys k = ap (λ n. take n ys) (omega arith)
take-both (x ∷ xs) ys k =
    let next : length (x ∷ xs) + k ≡ suc (length xs + k) = omega arith in
    ap (λ n. take n (x ∷ (xs ++ ys))) next ∙ ap (λ l. x ∷ l) (take-both xs ys k)

-- the first so many of some records, beside others
abbrev part_beside : {R : Type 0} → ℕ → List R → List R → List R
part_beside n records old = take n records ++ old

module _ {S R : Type 0} where
  -- a pass goes on, or one of its pushes was refused
  pub going_or_ended : (pass : PassHolding S R) → IsGoing pass ⊎ HasEnded pass
  going_or_ended pass = by (pass.refused) (pass.failed) refl refl
    where
      by : (refused : Bool) (failed : Option ℕ) → pass.refused ≡ refused → pass.failed ≡ failed → IsGoing pass ⊎ HasEnded pass
      by true failed r f = inr (inl r)
      by false None r f = inl (record { unrefused = r; sound = f })
      by false (Some number) r f = inr (inr (number, f))

  pub not_both : (pass : PassHolding S R) → IsGoing pass → HasEnded pass → ⊥
  not_both pass going (inl refused) = let r = going.unrefused in absurd (cc)
  not_both pass going (inr failed) = let f = going.sound in let n = failed.1 in absurd (cc)

  -- what a refused push leaves
  pub refused-ended : (old new : PassHolding S R) (fault : QueueFault) → IsRefusedPush old new fault → HasEnded new
  refused-ended old new NoFreeBlock h = inl (ap (λ p. p.refused) h.rest)
  refused-ended old new (Device number) h = inr (number, h.kept)

  pub refused-accepted : (old new : PassHolding S R) (fault : QueueFault) → IsRefusedPush old new fault → new.accepted ≡ old.accepted
  refused-accepted old new NoFreeBlock h = ap (λ p. p.accepted) h.rest
  refused-accepted old new (Device number) h = h.accepted

  -- where no call of a slot failed, it is as it was
  refused-bag : (old new : PassHolding S R) (fault : QueueFault) → IsRefusedPush old new fault → new.failed ≡ None → IsSameBag new.bag old.bag
  refused-bag old new NoFreeBlock h none = h.bag
  refused-bag old new (Device number) h none = absurd (let odd : ◌≡◌ {A = Option ℕ} (Some number) None = sym h.kept ∙ none in cc)

  -- what is said of a pass that goes on, and of one that does not
  pub says-going : (pass : PassHolding S R) → IsGoing pass → SaysIfGoing true pass
  says-going pass going = record { going = (λ _. going, λ _. refl); ended = λ e. absurd (cc) }

  pub says-ended : (pass : PassHolding S R) → HasEnded pass → SaysIfGoing false pass
  says-ended pass ended = record { going = (λ t. absurd (let e : false ≡ true = t in cc), λ going. absurd (not_both pass going ended)); ended = λ _. ended }

  module _ (shown : S → Shown) where
    -- no record
    pub adds-none : (pass : PassHolding S R) → IsGoing pass → Adds shown [] pass pass
    adds-none pass going = record {
      key = refl;
      tells = λ t. t;
      bag = λ _ t p. ap (λ l. count_by p (l ++ pass.bag)) (sym (take_all (pass.accepted - pass.accepted) [] (omega arith)));
      least = omega arith;
      accepted = λ _. omega arith;
      fewer = λ ended. absurd (not_both pass going ended);
      backed = backed-stays pass;
    }

    module _ (r : R) (old new : PassHolding S R) (key : new.key ≡ old.key) (tells : PassTells shown old → PassTells shown new) where
      -- a record that was added
      pub adds-one : IsGoing new → (PassTells shown old → IsSameBag new.bag (r ∷ old.bag)) → new.accepted ≡ old.accepted + 1 → (IsBackedPass old → IsBackedPass new) → Adds shown (r ∷ []) old new
      adds-one going added accepted backed =
          let one : 1 ≡ new.accepted - old.accepted = omega (arith, accepted) in
          record {
            key = key;
            tells = tells;
            bag = λ _ t. subst (λ n. IsSameBag new.bag (part_beside n (r ∷ []) old.bag)) one (added t);
            least = omega (arith, accepted);
            accepted = λ _. omega (arith, accepted);
            fewer = λ ended. absurd (not_both new going ended);
            backed = λ is. backed-stays new (backed is);
          }

      -- a record that was refused
      pub adds-refused : (fault : QueueFault) → IsRefusedPush old new fault → (IsBackedPass old → IsBackedPassWithout new) → Adds shown (r ∷ []) old new
      adds-refused fault refused backed =
          let ended = refused-ended old new fault refused in
          let same = refused-accepted old new fault refused in
          let none : 0 ≡ new.accepted - old.accepted = omega (arith, same) in
          record {
            key = key;
            tells = tells;
            bag = λ still t. subst (λ n. IsSameBag new.bag (part_beside n (r ∷ []) old.bag)) none (refused-bag old new fault refused still);
            least = omega (arith, same);
            accepted = λ going. absurd (not_both new going ended);
            fewer = λ _. omega (arith, same);
            backed = λ is. ((λ going. absurd (not_both new going ended)), backed is);
          }

    module _ (whole xs ys : List R) (is : whole ≡ xs ++ ys) (old mid new : PassHolding S R) (first : Adds shown xs old mid) where
      -- some records, and then others
      adds-then : IsGoing mid → Adds shown ys mid new → Adds shown whole old new
      adds-then going then =
          let long = ap length is ∙ length-append xs ys in
          let so_far = first.accepted going in
          let more = new.accepted - mid.accepted in
          let all : new.accepted - old.accepted ≡ length xs + more = omega (arith, so_far, then.least) in
          let had : mid.accepted - old.accepted ≡ length xs = omega (arith, so_far) in
          let part : take (new.accepted - old.accepted) whole ≡ xs ++ take more ys = ap₂ (λ n l. take n l) all is ∙ take-both xs ys more in
          let before : take (mid.accepted - old.accepted) xs ≡ xs = take_all (mid.accepted - old.accepted) xs (omega (arith, had)) in
          record {
            key = then.key ∙ first.key;
            tells = λ t. then.tells (first.tells t);
            bag = λ still t p.
                let a = first.bag going.sound t p in
                let b = then.bag still (first.tells t) p in
                omega (
                  arith,
                  a,
                  b,
                  ap (λ l. count_by p (l ++ old.bag)) before,
                  ap (λ l. count_by p (l ++ old.bag)) part,
                  count_by-append p xs old.bag,
                  count_by-append p (take more ys) mid.bag,
                  count_by-append p xs (take more ys),
                  count_by-append p (xs ++ take more ys) old.bag,
                );
            least = omega (arith, first.least, then.least);
            accepted = λ goes. omega (arith, so_far, then.accepted goes, long);
            fewer = λ ended. omega (arith, so_far, then.fewer ended, long);
            backed = λ is. then.backed ((first.backed is).0 going);
          }

    -- a pass that stopped at one of the first was given all
    adds-ended : (whole xs ys : List R) (is : whole ≡ xs ++ ys) (old new : PassHolding S R) → Adds shown xs old new → HasEnded new → Adds shown whole old new
    adds-ended whole xs ys is old new first ended =
        let less = first.fewer ended in
        let k = new.accepted - old.accepted in
        let part : take k xs ≡ take k whole = sym (ap (take k) is ∙ take-append-le k xs ys (omega (arith, less))) in
        record {
          key = first.key;
          tells = first.tells;
          bag = λ still t. subst (λ l. IsSameBag new.bag (l ++ old.bag)) part (first.bag still t);
          least = first.least;
          accepted = λ going. absurd (not_both new going ended);
          fewer = λ _. omega (arith, less, ap length is, length-append xs ys);
          backed = first.backed;
        }

    module _ (cmp : R → R → Ordering) where
      -- the same, with what limits keep
      pub takes-none : (pass : PassHolding S R) → IsGoing pass → Takes shown cmp [] pass pass
      takes-none pass going = record { adds = adds-none pass going; limits = λ limit none is. is }

      pub takes-then :
          (whole xs ys : List R) → whole ≡ xs ++ ys → (old mid new : PassHolding S R) → Takes shown cmp xs old mid → IsGoing mid → Takes shown cmp ys mid new → Takes shown cmp whole old new
      takes-then whole xs ys is old mid new first going then =
          record {
            adds = adds-then whole xs ys is old mid new first.adds going then.adds;
            limits = λ limit none kept.
                let all = subst (NoneBelow cmp (Some limit)) is none in
                let high : R → Type 0 = λ r. is_before cmp r limit ≡ false in
                then.limits limit (Each-append_right high xs ys all) (first.limits limit (Each-append_left high xs ys all) kept);
          }

      pub takes-ended : (whole xs ys : List R) → whole ≡ xs ++ ys → (old new : PassHolding S R) → Takes shown cmp xs old new → HasEnded new → Takes shown cmp whole old new
      takes-ended whole xs ys is old new first ended =
          record {
            adds = adds-ended whole xs ys is old new first.adds ended;
            limits = λ limit none. first.limits limit (Each-append_left (λ r. is_before cmp r limit ≡ false) xs ys (subst (NoneBelow cmp (Some limit)) is none));
          }

-- what is behind so many records, where the count goes no further than they do
pub drop_within : {X : Type 0} (xs : List X) (n place : ℕ) → n ≡ min (length xs) place → drop n xs ≡ drop place xs
drop_within xs n place is =
    elim (cases_lt (length xs) place) as (λ _. drop n xs ≡ drop place xs) [
      | inl past ↦ (drop_all n xs (omega (arith, is)) ∙ sym (drop_all place xs (omega arith)))
      | inr within ↦ ap (λ m. drop m xs) (omega (arith, is))
    ]

module _ {S R : Type 0} where
  module _ (shown : S → Shown) where
    adds-most : (records : List R) (old new : PassHolding S R) → Adds shown records old new → new.accepted ≤ old.accepted + length records
    adds-most records old new adds =
        elim (going_or_ended new) as (λ _. new.accepted ≤ old.accepted + length records) [
          | inl going ↦ omega (arith, adds.accepted going)
          | inr ended ↦ omega (arith, adds.fewer ended)
        ]

    any-none : Any {X = PassHolding S R} HasEnded [] → ⊥
    any-none (k, x, l, e, h) = absurd (omega arith)

    any-cons : (pass : PassHolding S R) (passes : List (PassHolding S R)) → Any HasEnded (pass ∷ passes) → HasEnded pass ⊎ Any HasEnded passes
    any-cons pass passes (zero, x, l, e, h) = inl (subst HasEnded (sym e) h)
    any-cons pass passes (suc k, x, l, e, h) = inr (k, x, omega arith, e, h)

    -- no pass and no record
    pub dealt-none : Dealt {R = R} shown [] [] []
    dealt-none = record {
      keys = refl;
      tells = λ t. t;
      bag = λ going t p. refl;
      part = λ fine t. part-none [] [] (λ p. refl);
      accepted = λ going. refl;
      most = omega arith;
      fewer = λ any. absurd (any-none any);
      backed = λ all. All-nil StaysBacked;
    }

    -- one pass has the first of its records, and no other, unless a call of a slot failed
    adds-part : (records : List R) (old new : PassHolding S R) → Adds shown records old new → new.failed ≡ None → PassTells shown old → AddsPart records old.bag new.bag
    adds-part records old new adds fine t =
        let k = new.accepted - old.accepted in
        record { part = take k records; left = drop k records; all = λ p. ap (count_by p) (sym (take-append-drop k records)); bag = adds.bag fine t }

    -- one pass that goes on has all of its records
    adds-all : (records : List R) (old new : PassHolding S R) → Adds shown records old new → IsGoing new → PassTells shown old → IsSameBag new.bag (records ++ old.bag)
    adds-all records old new adds going t =
        let all : take (new.accepted - old.accepted) records ≡ records = take_all (new.accepted - old.accepted) records (omega (arith, adds.accepted going)) in
        subst (λ l. IsSameBag new.bag (l ++ old.bag)) all (adds.bag going.sound t)

    -- one pass more, with the first of the records
    pub dealt-cons :
        (part rest : List R) (o n : PassHolding S R) (os ns : List (PassHolding S R)) → Adds shown part o n → Dealt shown rest os ns → Dealt shown (part ++ rest) (o ∷ os) (n ∷ ns)
    dealt-cons part rest o n os ns one all =
        let long = length-append part rest in
        let old = sum_by-cons (λ (p : PassHolding S R). p.accepted) o os in
        let new = sum_by-cons (λ (p : PassHolding S R). p.accepted) n ns in
        record {
          keys = ap₂ (λ k ks. k ∷ ks) one.key all.keys;
          tells = λ t. All-cons (PassTells shown) n ns (one.tells (All-head (PassTells shown) o os t)) (all.tells (All-tail (PassTells shown) o os t));
          bag = λ going t p.
              let here = adds-all part o n one (All-head IsGoing n ns going) (All-head (PassTells shown) o os t) p in
              let there = all.bag (All-tail IsGoing n ns going) (All-tail (PassTells shown) o os t) p in
              omega (arith, here, there, count_by-append p part o.bag, count_by-append p rest (bag_of os), count_by-append p n.bag (bag_of ns), count_by-append p o.bag (bag_of os), count_by-append p part rest, count_by-append p (part ++ rest) (o.bag ++ bag_of os));
          part = λ fine t.
              let here = adds-part part o n one (All-head HasNoFault n ns fine) (All-head (PassTells shown) o os t) in
              let there = all.part (All-tail HasNoFault n ns fine) (All-tail (PassTells shown) o os t) in
              part-both part rest o.bag n.bag (bag_of os) (bag_of ns) (o.bag ++ bag_of os) (n.bag ++ bag_of ns) (λ p. omega (arith, count_by-append p o.bag (bag_of os), count_by-append p n.bag (bag_of ns))) here there;
          accepted = λ going. omega (arith, one.accepted (All-head IsGoing n ns going), all.accepted (All-tail IsGoing n ns going), old, new, long);
          most = omega (arith, adds-most part o n one, all.most, old, new, long);
          fewer = λ any.
              elim (any-cons n ns any) as (λ _. accepted_of (n ∷ ns) < accepted_of (o ∷ os) + length (part ++ rest)) [
                | inl here ↦ omega (arith, one.fewer here, all.most, old, new, long)
                | inr there ↦ omega (arith, adds-most part o n one, all.fewer there, old, new, long)
              ];
          backed = λ is. All-cons StaysBacked n ns (one.backed (All-head IsBackedPass o os is)) (all.backed (All-tail IsBackedPass o os is));
        }

    -- each pass was given its part
    parts-dealt :
        (part : ℕ) (records : List R) (olds news : List (PassHolding S R)) → length news ≡ length olds → length records ≤ part * length olds
        → ((i : ℕ) (d : PassHolding S R) → i < length olds → Adds shown (slice_chunk records part i) (get_or olds i d) (get_or news i d)) → Dealt shown records olds news
    parts-dealt part [] [] [] e l each = dealt-none
    parts-dealt part (r ∷ rs) [] [] e l each = absurd (omega arith)
    parts-dealt part records [] (n ∷ ns) e l each = absurd (omega arith)
    parts-dealt part records (o ∷ os) [] e l each = absurd (omega arith)
    parts-dealt part records (o ∷ os) (n ∷ ns) e l each =
        let none : 0 * part ≡ 0 = omega arith in
        let first : slice_chunk records part 0 ≡ take part records = ap (λ k. take part (drop k records)) none in
        let rest = parts-dealt part (drop part records) os ns (omega arith) (omega (arith, length-drop part records)) (λ i d h.
        let next : suc i * part ≡ part + i * part = omega arith in
        let chunk : slice_chunk records part (suc i) ≡ slice_chunk (drop part records) part i = ap (take part) (ap (λ k. drop k records) next ∙ sym (drop-drop (i * part) part records)) in
        subst (λ c. Adds shown c (get_or os i d) (get_or ns i d)) chunk (each (suc i) d (omega arith))) in
        subst (λ c. Dealt shown c (o ∷ os) (n ∷ ns)) (take-append-drop part records) (dealt-cons (take part records) (drop part records) o n os ns (subst (λ c. Adds shown c o n) first (each 0 o (omega arith))) rest)

    -- so all records were dealt, where the parts are equal
    pub dealt-parts : (records : List R) (olds news : List (PassHolding S R)) → 0 < length olds → EachAdds shown (part_for (length olds) records) olds news → Dealt shown records olds news
    dealt-parts records olds news some each = parts-dealt (div_ceil (length records) (length olds)) records olds news each.count (div_ceil_times (length records) (length olds) some).0 each.each
