-- Merging heaps and an extract buffer into a list, one record after the other.
use Rattle.std.proofs.Common.{◌≡◌, Bool, true, false, cond, not, List, [], ◌∷◌, ◌++◌, ℕ, length, take, drop, Option, Some, None, refl, sym, ap, ◌∙◌, subst, inl, inr, arith, length-append, Ordering}
use Rattle.std.specs.Prelude.{IfSome}
use Rattle.std.specs.declared.cmp.Ordering.TheVariants.{Equal}
use Rattle.std.specs.List.{AllByRecursion as Each}
use Rattle.std.specs.Cmp.{IsTotalOrder}
use Rattle.std.proofs.lemmas.Bool.{cases_Bool}
use Rattle.std.proofs.lemmas.List.{append-nil, append_assoc, take-append-drop}
use Rattle.ppq_heap.specs.ppq_record.Order.{is_before, Le, Ascends}
use Rattle.ppq_heap.specs.ppq_record.Bag.{IsSameBag, first_of, least}
use Rattle.ppq_heap.proofs.ppq_record.Order.{Each-same_bag, Each-weaker, Each-append, Each-append_right, IsSameBag-length, Le-trans, count_by-cons, count_by-append}
use Rattle.ppq_heap.proofs.ppq_record.Fronts.{ranks}
use Rattle.ppq_extract.specs.ppq_fetch.Taking.{NoneAfter, IsTaken, AllBelow, NoneBelow}
use Rattle.ppq_extract.proofs.ppq_fetch.Parted.{taken_more}
use Rattle.ppq_queue.specs.Choice.{goes_first}
use Rattle.ppq_extract.specs.Extracted.{Held, held}
use Rattle.ppq_heap.specs.Heaps.{Shares, items_of}
use Rattle.ppq_queue.specs.Bulk.{kept_below, GoesOut, CopiesFirst, Merged, Moves, MovesNext, Exhausted}
use Rattle.ppq_queue.specs.Stores.{HeapsStay}
use Rattle.ppq_queue.specs.Out.{Listed, listed}
use Rattle.ppq_queue.proofs.Stores.{heaps-same, heaps-more}
use Rattle.ppq_queue.proofs.Least.{least-le, least-none}

some_is : {R : Type 0} (x y : R) → ◌≡◌ {A = Option R} (Some x) (Some y) → x ≡ y
some_is x y e = cc

-- what was chosen, by the first of the extract buffer
pub first_by : {R : Type 0} (cmp : R → R → Ordering) (e : List R) (one other : Option R) (choice is : Bool) → other ≡ first_of e → choice ≡ goes_first cmp one other → choice ≡ is → goes_first cmp one (first_of e) ≡ is
first_by cmp e one other choice is b c d = sym (ap (λ x. goes_first cmp one x) b) ∙ sym c ∙ d

-- what was kept, by what it was kept of
pub kept_by : {R : Type 0} (cmp : R → R → Ordering) (limit : Option R) (one kept is : Option R) → kept ≡ kept_below cmp one limit → kept ≡ is → kept_below cmp one limit ≡ is
kept_by cmp limit one kept is b c = sym b ∙ c

module _ {R : Type 0} (cmp : R → R → Ordering) where
  -- a record that is kept is below the limit, and one that is not kept is not
  pub kept_is : (bound : Option R) (x next : R) → kept_below cmp (Some x) bound ≡ Some next → (x ≡ next) × AllBelow cmp bound (x ∷ [])
  kept_is None x next e = (some_is x next e, tt)
  kept_is (Some l) x next e = elim (cases_Bool (is_before cmp x l)) as (λ _. (x ≡ next) × AllBelow cmp (Some l) (x ∷ [])) [
    | inl t ↦ (some_is x next (sym (ap (λ b. cond b (Some x) None) t) ∙ e), (t, tt))
    | inr f ↦ absurd (let none : ◌≡◌ {A = Option R} None (Some next) = sym (ap (λ b. cond b (Some x) None) f) ∙ e in cc)
  ]

  pub kept_none : (l x : R) → kept_below cmp (Some x) (Some l) ≡ None → Le (is_before cmp) l x
  kept_none l x e = elim (cases_Bool (is_before cmp x l)) as (λ _. is_before cmp x l ≡ false) [
    | inl t ↦ absurd (let some : ◌≡◌ {A = Option R} (Some x) None = sym (ap (λ b. cond b (Some x) None) t) ∙ e in cc)
    | inr f ↦ f
  ]

no_list : {R : Type 0} (h e runs : List R) → h ++ e ≡ [] → (e ≡ [] → runs ≡ []) → h ++ e ++ runs ≡ []
no_list [] [] runs z w = w refl
no_list [] (y ∷ ys) runs z w = cc
no_list (x ∷ xs) e runs z w = cc

module _ {R : Type 0} {cmp : R → R → Ordering} (o : IsTotalOrder cmp) where
  -- what is not after x is not after what x is not after
  le_all : (l x : R) (ys : List R) → Le (is_before cmp) l x → Each (Le (is_before cmp) x) ys → Each (Le (is_before cmp) l) ys
  le_all l x ys h each = Each-weaker (Le (is_before cmp) x) (Le (is_before cmp) l) (λ z k. Le-trans (is_before cmp) (ranks o) l x z h k) ys each

  le_runs : (x : R) (e runs : List R) → (e ≡ [] → runs ≡ []) → Each (Le (is_before cmp) x) e → NoneAfter cmp e runs → Each (Le (is_before cmp) x) runs
  le_runs x [] runs none each after = subst (λ (l : List R). Each (Le (is_before cmp) x) l) (sym (none refl)) tt
  le_runs x (y ∷ ys) runs none each after = le_all x y runs each.0 after.0

module _ {R : Type 0} {cmp : R → R → Ordering} {more : Bool} {limit : Option R} where
  merged-same : {h e out : List R} → Merged cmp more limit h h e e out out
  merged-same = record { count = refl; fewer = omega arith; ascends = λ u. u; order = λ runs n. n; taken = λ bag runs w u n t. t; under = λ u. u }

  merged-then : {h h' h'' e e' e'' out out' out'' : List R} → Merged cmp more limit h h' e e' out out' → Merged cmp more limit h' h'' e' e'' out' out'' → Merged cmp more limit h h'' e e'' out out''
  merged-then a b =
      record {
        count = omega (arith, a.count, b.count);
        fewer = omega (arith, a.fewer, b.fewer);
        ascends = λ u. b.ascends (a.ascends u);
        order = λ runs n. b.order runs (a.order runs n);
        taken = λ bag runs w u n t. b.taken bag runs w (a.ascends u) (a.order runs n) (a.taken bag runs w u n t);
        under = λ u. b.under (a.under u);
      }

  -- nothing was taken
  pub moves-same : {h : Shares R} {e : Held R} {out : Listed R} → Moves cmp more limit h h e e out out
  moves-same = record { merged = merged-same; heaps = heaps-same; rooms = record { first = refl; list = refl } }

  pub moves-then : {h h' h'' : Shares R} {e e' e'' : Held R} {out out' out'' : Listed R} → Moves cmp more limit h h' e e' out out' → Moves cmp more limit h' h'' e' e'' out' out'' → Moves cmp more limit h h'' e e'' out out''
  moves-then one two =
      record {
        merged = merged-then one.merged two.merged;
        heaps = heaps-more one.heaps two.heaps;
        rooms = record { first = two.rooms.first ∙ one.rooms.first; list = two.rooms.list ∙ one.rooms.list };
      }

  -- no record is left that is wanted
  pub moves-none : {h : Shares R} {e : Held R} {out : Listed R} → Exhausted cmp more limit (items_of h) e.items → MovesNext cmp more limit h h e e out out false
  moves-none ended = record { moves = moves-same; one = λ t. cc; none = λ f. refl; ended = λ f. ended }

  -- one record went to the end of the list
  pub moves-one :
      {h h' : Shares R} {e e' : Held R} (out : Listed R) {out' : Listed R} (x : R)
      → out' ≡ listed (out.items ++ x ∷ []) out.room → Merged cmp more limit (items_of h) (items_of h') e.items e'.items out.items (out.items ++ x ∷ []) → HeapsStay h h' → e'.room ≡ e.room
      → MovesNext cmp more limit h h' e e' out out' true
  moves-one {h = h} {h' = h'} {e = e} {e' = e'} out x is merged heaps room =
      record {
        moves = record { merged = subst (λ l. Merged cmp more limit (items_of h) (items_of h') e.items e'.items out.items l) (sym (ap (λ l. l.items) is)) merged; heaps = heaps; rooms = record { first = room; list = ap (λ l. l.room) is } };
        one = λ t. omega (arith, ap (λ l. length l.items) is, length-append out.items (x ∷ []));
        none = λ f. cc;
        ended = λ f. cc;
      }

module _ {R : Type 0} {cmp : R → R → Ordering} (o : IsTotalOrder cmp) (same : (x y : R) → cmp x y ≡ Equal → x ≡ y) (more : Bool) (limit : Option R) where
  -- one record more was taken
  taken_one : (bag out left left' : List R) (x : R) → IsTaken cmp bag out left → IsSameBag left (x ∷ left') → Each (Le (is_before cmp) x) left' → IsTaken cmp bag (out ++ x ∷ []) left'
  taken_one bag out left left' x s moved each = taken_more cmp (ranks o) bag out left (x ∷ []) left' s (record { moved = moved; ascends = (tt, tt); least = (each, tt) })

  low_more : (bound : Option R) (out : List R) (x : R) → AllBelow cmp bound out → AllBelow cmp bound (x ∷ []) → AllBelow cmp bound (out ++ x ∷ [])
  low_more None out x a b = tt
  low_more (Some l) out x a b = Each-append (λ (y : R). is_before cmp y l ≡ true) out (x ∷ []) a b

  move_heap :
      (x : R) (h h' e out : List R)
      → (e ≡ [] → more ≡ false) → IsSameBag h (x ∷ h') → Each (Le (is_before cmp) x) h' → (Ascends cmp e → Each (Le (is_before cmp) x) e) → AllBelow cmp limit (x ∷ [])
      → Merged cmp more limit h h' e e out (out ++ x ∷ [])
  move_heap x h h' e out whole parts low_heap le low =
      record {
        count = omega (arith, length-append out (x ∷ []), IsSameBag-length h (x ∷ h') parts);
        fewer = omega arith;
        ascends = λ u. u;
        order = λ runs n. n;
        taken = λ bag runs w u n t.
            let each = Each-append (Le (is_before cmp) x) (h' ++ e) runs (Each-append (Le (is_before cmp) x) h' e low_heap (le u)) (le_runs o x e runs (λ z. w (whole z)) (le u) n) in
            taken_one bag out (h ++ e ++ runs) (h' ++ e ++ runs) x t
            (λ p.
            omega (
              arith,
              parts p,
              count_by-cons p x h',
              count_by-append p (h ++ e) runs,
              count_by-append p h e,
              count_by-cons p x (h' ++ e ++ runs),
              count_by-append p (h' ++ e) runs,
              count_by-append p h' e,
            ))
            each;
        under = λ u. low_more limit out x u low;
      }

  move_extract : (y : R) (h es out : List R) → Each (Le (is_before cmp) y) h → AllBelow cmp limit (y ∷ []) → Merged cmp more limit h h (y ∷ es) es out (out ++ y ∷ [])
  move_extract y h es out le low =
      record {
        count = omega (arith, length-append out (y ∷ []));
        fewer = omega arith;
        ascends = λ u. u.1;
        order = λ runs n. n.1;
        taken = λ bag runs w u n t.
            let each = Each-append (Le (is_before cmp) y) (h ++ es) runs (Each-append (Le (is_before cmp) y) h es le u.0) n.0 in
            taken_one bag out (h ++ (y ∷ es) ++ runs) (h ++ es ++ runs) y t
            (λ p.
            omega (
              arith,
              count_by-append p (h ++ (y ∷ es)) runs,
              count_by-append p h (y ∷ es),
              count_by-cons p y es,
              count_by-cons p y (h ++ es ++ runs),
              count_by-append p (h ++ es) runs,
              count_by-append p h es,
            ))
            each;
        under = λ u. low_more limit out y u low;
      }

  not_true : (b : Bool) → not b ≡ true → b ≡ false
  not_true true e = cc
  not_true false e = refl

  not_false : (b : Bool) → not b ≡ false → b ≡ true
  not_false true e = refl
  not_false false e = cc

  heap_le : (x : R) (e : List R) → goes_first cmp (Some x) (first_of e) ≡ true → Ascends cmp e → Each (Le (is_before cmp) x) e
  heap_le x [] first up = tt
  heap_le x (z ∷ zs) first up = let le : Le (is_before cmp) x z = not_true (is_before cmp z x) first in (le, le_all o x z zs le up.0)

  extract_le : (y : R) (h : List R) (one : Option R) → one ≡ least cmp h → goes_first cmp one (Some y) ≡ false → Each (Le (is_before cmp) y) h
  extract_le y h None e first = subst (λ (l : List R). Each (Le (is_before cmp) y) l) (sym (least-none o same h (sym e))) tt
  extract_le y h (Some z) e first = le_all o y z h ((ranks o).one_way y z (not_false (is_before cmp y z) first)) (least-le o same z h (sym e))

  -- the heaps' smallest record went
  pub heap_moved :
      (h h' e out : List R) (one popped : Option R) (next : R)
      → one ≡ least cmp h → popped ≡ least cmp h → IfSome popped (λ x. IsSameBag h (x ∷ h')) → goes_first cmp one (first_of e) ≡ true → kept_below cmp one limit ≡ Some next → (e ≡ [] → more ≡ false)
      → Merged cmp more limit h h' e e out (out ++ next ∷ [])
  heap_moved h h' e out None popped next is was taken first kept whole = cc
  heap_moved h h' e out (Some x) None next is was taken first kept whole = absurd (let odd : ◌≡◌ {A = Option R} (Some x) None = is ∙ sym was in cc)
  heap_moved h h' e out (Some x) (Some y) next is was taken first kept whole =
      let y_is : y ≡ x = some_is y x (was ∙ sym is) in
      let bag : IsSameBag h (x ∷ h') = subst (λ (z : R). IsSameBag h (z ∷ h')) y_is taken in
      let low = Each-same_bag (λ z. is_before cmp z x) h (x ∷ h') bag (least-le o same x h (sym is)) in
      let keep = kept_is cmp limit x next kept in
      subst (λ (z : R). Merged cmp more limit h h' e e out (out ++ z ∷ [])) keep.0 (move_heap x h h' e out whole bag low.1 (heap_le x e first) keep.1)

  -- the extract buffer's record went
  pub extract_moved :
      (h e out : List R) (one : Option R) (next : R) → one ≡ least cmp h → goes_first cmp one (first_of e) ≡ false → kept_below cmp (first_of e) limit ≡ Some next → Merged cmp more limit h h e (drop 1 e) out (out ++ next ∷ [])
  extract_moved h [] out one next is first kept = cc
  extract_moved h (y ∷ ys) out one next is first kept =
      let keep = kept_is cmp limit y next kept in
      subst (λ (x : R). Merged cmp more limit h h (y ∷ ys) ys out (out ++ x ∷ [])) keep.0 (move_extract y h ys out (extract_le y h one is first) keep.1)

  -- the first records of the extract buffer went, each before the heaps' smallest one
  run_merged : (h xs e out : List R) (one : Option R) → one ≡ least cmp h → Each (GoesOut cmp one limit) xs → Merged cmp more limit h h (xs ++ e) e out (out ++ xs)
  run_merged h [] e out one is each = subst (λ (l : List R). Merged cmp more limit h h e e out l) (sym (append-nil out)) merged-same
  run_merged h (y ∷ ys) e out one is each =
      let first = move_extract y h (ys ++ e) out (extract_le y h one is each.0.0) each.0.1 in
      let rest = run_merged h ys e (out ++ y ∷ []) one is each.1 in
      subst (λ (l : List R). Merged cmp more limit h h (y ∷ ys ++ e) e out l) (append_assoc out (y ∷ []) ys) (merged-then first rest)

  pub run_moved :
      (most count : ℕ) (one : Option R) {h : Shares R} (e : Held R) {e' : Held R} (out : Listed R) {out' : Listed R}
      → one ≡ least cmp (items_of h) → CopiesFirst cmp most count one limit e.items out out' → e' ≡ held (drop count e.items) e.room → Moves cmp more limit h h e e' out out'
  run_moved most count one {h} e {e'} out {out'} is copied left =
      let all = take-append-drop count e.items in
      let merged = run_merged (items_of h) (take count e.items) (drop count e.items) out.items one is copied.first in
      let whole = subst (λ (l : List R). Merged cmp more limit (items_of h) (items_of h) l (drop count e.items) out.items (out.items ++ take count e.items)) all merged in
      let list = subst (λ (l : Listed R). Merged cmp more limit (items_of h) (items_of h) e.items (drop count e.items) out.items l.items) (sym copied.list) whole in
      record {
        merged = subst (λ (l : Held R). Merged cmp more limit (items_of h) (items_of h) e.items l.items out.items out'.items) (sym left) list;
        heaps = heaps-same;
        rooms = record { first = ap (λ l. l.room) left; list = ap (λ l. l.room) copied.list };
      }

  -- the heaps' smallest record is the smallest of all, and it is not below the limit
  pub heap_ended :
      (bound : Option R) (h e : List R) (one : Option R) → one ≡ least cmp h → goes_first cmp one (first_of e) ≡ true → kept_below cmp one bound ≡ None → (e ≡ [] → more ≡ false) → Exhausted cmp more bound h e
  heap_ended bound h e None is first kept whole = cc
  heap_ended None h e (Some x) is first kept whole = cc
  heap_ended (Some l) h e (Some x) is first kept whole =
      let le = kept_none cmp l x kept in
      record {
        whole = whole;
        all = λ n. absurd (cc);
        low = λ u. Each-append (Le (is_before cmp) l) h e (le_all o l x h le (least-le o same x h (sym is))) (le_all o l x e le (heap_le x e first u));
      }

  nothing : (bound : Option R) (h : List R) → h ≡ [] → (◌≡◌ {A = List R} [] [] → more ≡ false) → Exhausted cmp more bound h []
  nothing None h e whole = record { whole = whole; all = λ n. ap (λ (l : List R). l ++ []) e; low = λ u. ap (λ (l : List R). l ++ []) e }
  nothing (Some l) h e whole = record { whole = whole; all = λ n. ap (λ (xs : List R). xs ++ []) e; low = λ u. subst (λ (xs : List R). Each (Le (is_before cmp) l) (xs ++ [])) (sym e) tt }

  -- the extract buffer's record is the smallest, and it is not below the limit; or all are empty
  pub extract_ended :
      (bound : Option R) (h e : List R) (one : Option R) → one ≡ least cmp h → goes_first cmp one (first_of e) ≡ false → kept_below cmp (first_of e) bound ≡ None → (e ≡ [] → more ≡ false) → Exhausted cmp more bound h e
  extract_ended bound h [] None is first kept whole = nothing bound h (least-none o same h (sym is)) whole
  extract_ended bound h [] (Some x) is first kept whole = cc
  extract_ended None h (y ∷ ys) one is first kept whole = cc
  extract_ended (Some l) h (y ∷ ys) one is first kept whole =
      let le = kept_none cmp l y kept in
      record {
        whole = whole;
        all = λ n. absurd (cc);
        low = λ u. Each-append (Le (is_before cmp) l) h (y ∷ ys) (le_all o l y h le (extract_le y h one is first)) (le, le_all o l y ys le u.0);
      }

module _ {R : Type 0} {cmp : R → R → Ordering} (o : IsTotalOrder cmp) (more : Bool) where
  -- runs behind an exhausted extract buffer have nothing that is wanted
  pub exhausted-runs : (limit : Option R) (h e runs : List R) → Exhausted cmp more limit h e → (more ≡ false → runs ≡ []) → Ascends cmp e → NoneAfter cmp e runs → NoneBelow cmp limit (h ++ e ++ runs)
  exhausted-runs None h e runs x w u n = no_list h e runs (x.low u) (λ z. w (x.whole z))
  exhausted-runs (Some l) h e runs x w u n = Each-append (Le (is_before cmp) l) (h ++ e) runs (x.low u) (le_runs o l e runs (λ z. w (x.whole z)) (Each-append_right (Le (is_before cmp) l) h e (x.low u)) n)
