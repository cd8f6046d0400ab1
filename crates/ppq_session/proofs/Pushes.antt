-- Pushes in a history of pool and row: they may stand anywhere, so what passes accepted can be what they pushed.
use Rattle.std.proofs.Common.{◌≡◌, ◌≢◌, ℕ, zero, suc, ◌+◌, ◌-◌, ◌<◌, ◌≤◌, cond, eqb, List, [], ◌∷◌, ◌++◌, length, take, get_or, All, refl, sym, ap, ◌∙◌, subst, ⊎_elim, arith, append_assoc, append-nil, length-append, length-take, eq-eqb, ne_eqb}
use Rattle.std.specs.Prelude.{count_by}
use mathlib.Core.Logic.{dite}
use native.Mathlib.Decide.{ℕ_discrete, dec_le}
use Rattle.std.proofs.lemmas.List.Elements.{All-head, All-tail}
use Rattle.ppq_pass.specs.ppq_record.Bag.{IsSameBag}
use Rattle.ppq_pass.proofs.ppq_record.Order.{count_by-append}
use Rattle.ppq_pass.specs.ppq_outside.Shown.{Shown}
use Rattle.ppq_pass.specs.ppq_core.declared.event.Event.{Event}
use Rattle.ppq_pass.specs.ppq_core.declared.event.Event.TheVariants.{Take, Give, Draw, Push, Store}
use Rattle.ppq_pass.specs.ppq_core.declared.place.Place.TheVariants.{Held, Stored}
use Rattle.ppq_pass.specs.ppq_core.History.{buffer_at, slot_at, pushed_by, IsLegal}
use Rattle.ppq_pass.specs.ppq_core.Parts.{buffer_part}
use Rattle.ppq_pass.specs.Passed.{PassHolding, PassTells}
use Rattle.ppq_session.specs.BulkSession.{bag_of}
use Rattle.ppq_session.specs.Dealing.{IsGoing, HasEnded, HasNoFault, Adds}
use Rattle.ppq_session.specs.OneHistory.{IsWith, buffers_of, draw_part}
use Rattle.ppq_session.specs.Pushes.{is_no_push, without_pushes, ArePushesOf, pushed_from, HasPushed, PushesStandAnywhere, NothingIsPushed, GivenArePushed, PushedAreAdded}
use Rattle.ppq_session.proofs.Adding.{going_or_ended}
use Rattle.ppq_session.proofs.Without.{Keeps, filter-within, buffers-without, draws-without, buffer_part-without, draw_part-without}

module _ {R : Type 0} where
  -- takes, gives and draws are no pushes
  keeps : (e : Event R) → Keeps is_no_push e
  keeps (Take p b) = record { at_buffer = λ _. refl; draw = λ _. refl }
  keeps (Give p b) = record { at_buffer = λ _. refl; draw = λ _. refl }
  keeps (Draw p s) = record { at_buffer = λ _. refl; draw = λ _. refl }
  keeps (Push p r) = record { at_buffer = λ is. is; draw = λ is. is }
  keeps (Store p s) = record { at_buffer = λ _. refl; draw = λ _. refl }

  slots-without : (i : ℕ) (h : List (Event R)) → slot_at i h ≡ slot_at i (without_pushes h)
  slots-without i [] = refl
  slots-without i (Take p b ∷ h) = slots-without i h
  slots-without i (Give p b ∷ h) = slots-without i h
  slots-without i (Draw p s ∷ h) = ap (λ w. cond (eqb s i) (Held p) w) (slots-without i h)
  slots-without i (Push p r ∷ h) = slots-without i h
  slots-without i (Store p s ∷ h) = ap (λ w. cond (eqb s i) (Stored p) w) (slots-without i h)

  -- a legal history is legal without its pushes
  legal-without : (n d m : ℕ) (h : List (Event R)) → IsLegal n d m h → IsLegal n d m (without_pushes h)
  legal-without n d m [] l = tt
  legal-without n d m (Take p b ∷ h) l = ((l.0.0, l.0.1, sym (buffers-without keeps b h) ∙ l.0.2), legal-without n d m h l.1)
  legal-without n d m (Give p b ∷ h) l = ((l.0.0, l.0.1, sym (buffers-without keeps b h) ∙ l.0.2), legal-without n d m h l.1)
  legal-without n d m (Draw p s ∷ h) l = ((l.0.0, l.0.1, l.0.2 ∙ draws-without keeps h), legal-without n d m h l.1)
  legal-without n d m (Push p r ∷ h) l = legal-without n d m h l.1
  legal-without n d m (Store p s ∷ h) l = ((l.0.0, l.0.1, sym (slots-without s h) ∙ l.0.2), legal-without n d m h l.1)

  -- and with pushes of its passes, wherever they stand
  legal-with : (n d m : ℕ) (h : List (Event R)) → ArePushesOf m h → IsLegal n d m (without_pushes h) → IsLegal n d m h
  legal-with n d m [] of l = tt
  legal-with n d m (Take p b ∷ h) of l = ((l.0.0, l.0.1, buffers-without keeps b h ∙ l.0.2), legal-with n d m h of l.1)
  legal-with n d m (Give p b ∷ h) of l = ((l.0.0, l.0.1, buffers-without keeps b h ∙ l.0.2), legal-with n d m h of l.1)
  legal-with n d m (Draw p s ∷ h) of l = ((l.0.0, l.0.1, l.0.2 ∙ sym (draws-without keeps h)), legal-with n d m h of l.1)
  legal-with n d m (Push p r ∷ h) of l = (of.0, legal-with n d m h of.1 l)
  legal-with n d m (Store p s ∷ h) of l = ((l.0.0, l.0.1, slots-without s h ∙ l.0.2), legal-with n d m h of l.1)

  -- a history without pushes has none
  without-twice : (h : List (Event R)) → without_pushes (without_pushes h) ≡ without_pushes h
  without-twice h = filter-within is_no_push is_no_push h (λ e is. is)

  pushes-without : (m : ℕ) (h : List (Event R)) → ArePushesOf m (without_pushes h)
  pushes-without m [] = tt
  pushes-without m (Take p b ∷ h) = pushes-without m h
  pushes-without m (Give p b ∷ h) = pushes-without m h
  pushes-without m (Draw p s ∷ h) = pushes-without m h
  pushes-without m (Push p r ∷ h) = pushes-without m h
  pushes-without m (Store p s ∷ h) = pushes-without m h

  pushed_by-without : (q : ℕ) (h : List (Event R)) → pushed_by q (without_pushes h) ≡ []
  pushed_by-without q [] = refl
  pushed_by-without q (Take p b ∷ h) = pushed_by-without q h
  pushed_by-without q (Give p b ∷ h) = pushed_by-without q h
  pushed_by-without q (Draw p s ∷ h) = pushed_by-without q h
  pushed_by-without q (Push p r ∷ h) = pushed_by-without q h
  pushed_by-without q (Store p s ∷ h) = pushed_by-without q h

  -- one pass pushes these records, in their order
  with_pushes : ℕ → List R → List (Event R) → List (Event R)
  with_pushes p [] h = h
  with_pushes p (r ∷ rs) h = with_pushes p rs (Push p r ∷ h)

  without-with : (p : ℕ) (rs : List R) (h : List (Event R)) → without_pushes (with_pushes p rs h) ≡ without_pushes h
  unfolding with_pushes
  without-with p [] h = refl
  without-with p (r ∷ rs) h = without-with p rs (Push p r ∷ h)

  pushes-with : (m p : ℕ) (rs : List R) (h : List (Event R)) → p < m → ArePushesOf m h → ArePushesOf m (with_pushes p rs h)
  unfolding with_pushes
  pushes-with m p [] h below of = of
  pushes-with m p (r ∷ rs) h below of = pushes-with m p rs (Push p r ∷ h) below (below, of)

  pushed_by-own : (p q : ℕ) (r : R) (h : List (Event R)) → p ≡ q → pushed_by q (Push p r ∷ h) ≡ pushed_by q h ++ r ∷ []
  pushed_by-own p q r h e = ap (λ c. cond c (pushed_by q h ++ r ∷ []) (pushed_by q h)) (eq-eqb p q e)

  pushed_by-other : (p q : ℕ) (r : R) (h : List (Event R)) → p ≢ q → pushed_by q (Push p r ∷ h) ≡ pushed_by q h
  pushed_by-other p q r h ne = ap (λ c. cond c (pushed_by q h ++ r ∷ []) (pushed_by q h)) (ne_eqb p q ne)

  pushed_by-with : (p q : ℕ) (rs : List R) (h : List (Event R)) → p ≡ q → pushed_by q (with_pushes p rs h) ≡ pushed_by q h ++ rs
  unfolding with_pushes
  pushed_by-with p q [] h e = sym (append-nil (pushed_by q h))
  pushed_by-with p q (r ∷ rs) h e = pushed_by-with p q rs (Push p r ∷ h) e ∙ ap (λ l. l ++ rs) (pushed_by-own p q r h e) ∙ append_assoc (pushed_by q h) (r ∷ []) rs

  pushed_by-past : (p q : ℕ) (rs : List R) (h : List (Event R)) → p ≢ q → pushed_by q (with_pushes p rs h) ≡ pushed_by q h
  unfolding with_pushes
  pushed_by-past p q [] h ne = refl
  pushed_by-past p q (r ∷ rs) h ne = pushed_by-past p q rs (Push p r ∷ h) ne ∙ pushed_by-other p q r h ne

  -- so many passes push, each its own records
  with_all : ℕ → (ℕ → List R) → List (Event R) → List (Event R)
  with_all zero records_of h = h
  with_all (suc n) records_of h = with_pushes n (records_of n) (with_all n records_of h)

  without-all : (n : ℕ) (records_of : ℕ → List R) (h : List (Event R)) → without_pushes (with_all n records_of h) ≡ without_pushes h
  unfolding with_all
  without-all zero records_of h = refl
  without-all (suc n) records_of h = without-with n (records_of n) (with_all n records_of h) ∙ without-all n records_of h

  pushes-all : (m n : ℕ) (records_of : ℕ → List R) (h : List (Event R)) → n ≤ m → ArePushesOf m h → ArePushesOf m (with_all n records_of h)
  unfolding with_all
  pushes-all m zero records_of h le of = of
  pushes-all m (suc n) records_of h le of = pushes-with m n (records_of n) (with_all n records_of h) (omega (arith, le)) (pushes-all m n records_of h (omega (arith, le)) of)

  pushed_by-beyond : (n q : ℕ) (records_of : ℕ → List R) (h : List (Event R)) → n ≤ q → pushed_by q (with_all n records_of h) ≡ pushed_by q h
  unfolding with_all
  pushed_by-beyond zero q records_of h le = refl
  pushed_by-beyond (suc n) q records_of h le = pushed_by-past n q (records_of n) (with_all n records_of h) (λ e. omega (arith, le, e)) ∙ pushed_by-beyond n q records_of h (omega (arith, le))

  pushed_by-all : (n q : ℕ) (records_of : ℕ → List R) (h : List (Event R)) → q < n → pushed_by q (with_all n records_of h) ≡ pushed_by q h ++ records_of q
  unfolding with_all
  pushed_by-all zero q records_of h lt = absurd (omega (arith, lt))
  pushed_by-all (suc n) q records_of h lt = dite (ℕ_discrete n q)
      (λ e. pushed_by-with n q (records_of n) (with_all n records_of h) e ∙ ap (λ l. l ++ records_of n) (pushed_by-beyond n q records_of h (omega (arith, e))) ∙ ap (λ k. pushed_by q h ++ records_of k) e)
      (λ ne. pushed_by-past n q (records_of n) (with_all n records_of h) ne ∙ pushed_by-all n q records_of h (omega (arith, lt, below n q lt ne)))
    where
      below : (n q : ℕ) → q < suc n → n ≢ q → q < n
      below n q lt ne = dite (dec_le (suc q) n) (λ le. le) (λ ge. absurd (ne (omega (arith, lt, ge))))

pub stand_anywhere : {B S R : Type 0} → PushesStandAnywhere B S R
stand_anywhere {B} {S} {R} x s h k o same of = record {
  legal = legal-with n d m k of (subst (IsLegal n d m) (sym same) (legal-without n d m h o.legal));
  of_pool = (o.of_pool.0, o.of_pool.1, buffer_part-without keeps k ∙ ap buffer_part same ∙ sym (buffer_part-without keeps h) ∙ o.of_pool.2);
  of_row = draw_part-without keeps k ∙ ap draw_part same ∙ sym (draw_part-without keeps h) ∙ o.of_row;
  free_buffer = λ i lt word. at_buffer i ∙ o.free_buffer i lt word;
  held_buffer = λ i j v at lists. at_buffer i ∙ o.held_buffer i j v at lists;
  free_slot = λ i le. at_slot i ∙ o.free_slot i le;
  drawn_slot = λ i lt small. let f = o.drawn_slot i lt small in (f.0, f.1, f.2, f.3, subst (IsWith (x.row_pass f.0)) (sym (at_slot i)) f.4);
}
  where
    n : ℕ
    n = buffers_of s.pool

    d : ℕ
    d = length x.slots

    m : ℕ
    m = x.passes

    at_buffer : (i : ℕ) → buffer_at i k ≡ buffer_at i h
    at_buffer i = buffers-without keeps i k ∙ ap (buffer_at i) same ∙ sym (buffers-without keeps i h)

    at_slot : (i : ℕ) → slot_at i k ≡ slot_at i h
    at_slot i = slots-without i k ∙ ap (slot_at i) same ∙ sym (slots-without i h)

module _ {S R : Type 0} (shown : S → Shown) where
  pub none_pushed : NothingIsPushed S R shown
  none_pushed firsts h = record {
    count = refl;
    each = λ p d lt. let none = pushed_by-without p h in record {
      count = omega (arith, ap length none);
      tells = λ t. t;
      bag = λ sound t. subst (λ l. IsSameBag (get_or firsts p d).bag (l ++ (get_or firsts p d).bag)) (sym none) (λ test. refl);
    };
  }

  -- a pass accepts no more than it is given
  no_more : (records : List R) (old new : PassHolding S R) → Adds shown records old new → new.accepted - old.accepted ≤ length records
  no_more records old new adds = ⊎_elim
      (λ (going : IsGoing new). omega (arith, adds.accepted going))
      (λ (ended : HasEnded new). omega (arith, adds.fewer ended))
      (going_or_ended new)

  -- what a pass accepted now came behind what it had pushed
  pushed-more : (p : ℕ) (h k : List (Event R)) (records : List R) (first old new : PassHolding S R) → IsGoing old → HasPushed shown p h first old → Adds shown records old new → pushed_by p k ≡ pushed_by p h ++ take (new.accepted - old.accepted) records → HasPushed shown p k first new
  pushed-more p h k records first old new going was adds is = let more = take (new.accepted - old.accepted) records in record {
    count = omega (arith, was.count, adds.least, ap length is, length-append (pushed_by p h) more, length-take (new.accepted - old.accepted) records, no_more records old new adds);
    tells = λ t. adds.tells (was.tells t);
    bag = λ sound t test. omega (arith, adds.bag sound (was.tells t) test, was.bag going.sound t test, ap (λ l. count_by test (l ++ first.bag)) is, count_by-append test more old.bag, count_by-append test (pushed_by p h ++ more) first.bag, count_by-append test (pushed_by p h) more, count_by-append test (pushed_by p h) first.bag);
  }

  -- how many records the pass p accepted
  accepted_at : List (PassHolding S R) → ℕ → ℕ
  accepted_at [] p = 0
  accepted_at (x ∷ xs) zero = x.accepted
  accepted_at (x ∷ xs) (suc p) = accepted_at xs p

  accepted_at-get_or : (passes : List (PassHolding S R)) (p : ℕ) (d : PassHolding S R) → p < length passes → accepted_at passes p ≡ (get_or passes p d).accepted
  unfolding accepted_at
  accepted_at-get_or [] p d lt = absurd (omega (arith, lt))
  accepted_at-get_or (x ∷ xs) zero d lt = refl
  accepted_at-get_or (x ∷ xs) (suc p) d lt = accepted_at-get_or xs p d (omega (arith, lt))

  pub given_pushed : GivenArePushed S R shown
  given_pushed x s firsts olds news records_of h g many was going each o = (k, stand_anywhere x s g k o same of, same, record { count = each.count ∙ was.count; each = more }, by)
    where
      now : ℕ → List R
      now p = take (accepted_at news p - accepted_at olds p) (records_of p)

      all : ℕ → List R
      all p = pushed_by p h ++ now p

      k : List (Event R)
      k = with_all x.passes all (without_pushes g)

      same : without_pushes k ≡ without_pushes g
      same = without-all x.passes all (without_pushes g) ∙ without-twice g

      of : ArePushesOf x.passes k
      of = pushes-all x.passes x.passes all (without_pushes g) (omega arith) (pushes-without x.passes g)

      by : (p : ℕ) (d : PassHolding S R) → p < x.passes → pushed_by p k ≡ pushed_by p h ++ take ((get_or news p d).accepted - (get_or olds p d).accepted) (records_of p)
      by p d lt = pushed_by-all x.passes p all (without_pushes g) lt ∙ ap (λ l. l ++ all p) (pushed_by-without p g)
          ∙ ap (λ (n : ℕ). pushed_by p h ++ take (n - accepted_at olds p) (records_of p)) (accepted_at-get_or news p d (omega (arith, lt, many, was.count, each.count)))
          ∙ ap (λ (n : ℕ). pushed_by p h ++ take ((get_or news p d).accepted - n) (records_of p)) (accepted_at-get_or olds p d (omega (arith, lt, many, was.count)))

      more : (p : ℕ) (d : PassHolding S R) → p < length firsts → HasPushed shown p k (get_or firsts p d) (get_or news p d)
      more p d lt = let there : p < length olds = omega (arith, lt, was.count) in
          pushed-more p h k (records_of p) (get_or firsts p d) (get_or olds p d) (get_or news p d) (going p d there) (was.each p d lt) (each.each p d there) (by p d (omega (arith, lt, many)))

  -- of passes from the pass p on
  added_from : (p : ℕ) (h : List (Event R)) (firsts nows : List (PassHolding S R)) → length nows ≡ length firsts
      → ((i : ℕ) (d : PassHolding S R) → i < length firsts → HasPushed shown (p + i) h (get_or firsts i d) (get_or nows i d))
      → All HasNoFault nows → All (PassTells shown) firsts → IsSameBag (bag_of nows) (pushed_from p (length firsts) h ++ bag_of firsts)
  added_from p h [] [] long each fine tell test = refl
  added_from p h [] (y ∷ ys) long each fine tell test = absurd (omega (arith, long))
  added_from p h (x ∷ xs) [] long each fine tell test = absurd (omega (arith, long))
  added_from p h (x ∷ xs) (y ∷ ys) long each fine tell test =
      let rest = added_from (suc p) h xs ys (omega (arith, long)) (λ i d lt. subst (λ n. HasPushed shown n h (get_or xs i d) (get_or ys i d)) (omega arith) (each (suc i) d (omega (arith, lt)))) (All-tail HasNoFault y ys fine) (All-tail (PassTells shown) x xs tell) in
      let first : HasPushed shown p h x y = subst (λ n. HasPushed shown n h x y) (omega arith) (each 0 x (omega arith)) in
      omega (
        arith,
        rest test,
        first.bag (All-head HasNoFault y ys fine) (All-head (PassTells shown) x xs tell) test,
        count_by-append test y.bag (bag_of ys),
        count_by-append test x.bag (bag_of xs),
        count_by-append test (pushed_by p h) x.bag,
        count_by-append test (pushed_by p h ++ pushed_from (suc p) (length xs) h) (x.bag ++ bag_of xs),
        count_by-append test (pushed_by p h) (pushed_from (suc p) (length xs) h),
        count_by-append test (pushed_from (suc p) (length xs) h) (bag_of xs),
      )

  pub pushed_added : PushedAreAdded S R shown
  pushed_added firsts nows h was fine tell = added_from 0 h firsts nows was.count (λ i d lt. subst (λ n. HasPushed shown n h (get_or firsts i d) (get_or nows i d)) (omega arith) (was.each i d lt)) fine tell
