-- Records that were popped round by round: the first of the multiset's ascending list.
use Rattle.std.proofs.Common.{◌≡◌, ℕ, zero, length, min, suc, ◌+◌, ◌-◌, ◌%◌, ◌^◌, ◌<◌, ◌≤◌, Bool, true, false, cond, List, [], ◌∷◌, ◌++◌, take, drop, Option, Some, None, refl, sym, ap, ◌∙◌, subst, arith, inl, inr, append-nil, length-append, take-add, append_assoc}
use Rattle.std.specs.Prelude.{count_by, sum_by, if◌then◌else◌, Result, IsErrAnd}
use Rattle.std.specs.List.{AllByRecursion as Each}
use Rattle.std.specs.Cmp.{IsStrictWeakOrder}
use Rattle.std.proofs.lemmas.Bool.{cases_Bool, cases_lt, le-leb, lt-leb}
use Rattle.std.proofs.lemmas.List.{drop-drop, length-take}
use Rattle.std.proofs.Math.Seq.{take-length}
use Rattle.std.proofs.lemmas.List.Sums.{sum_by-append}
use Rattle.std.proofs.lemmas.List.Concat.{flat_map-append}
use Rattle.std.proofs.Math.Nat.{mod-add-mod}
use Rattle.ppq_script.specs.Words.{Words}
use Rattle.ppq_engine.proofs.Orders.{HasLaws}
use Rattle.ppq_script.specs.declared.form.Form.{Form}
use Rattle.ppq_script.specs.ppq_record.Order.{is_before, Le, Rising}
use Rattle.ppq_script.specs.ppq_record.Bag.{IsSameBag, ascending, without_front, least, first_of, size_below}
use Rattle.ppq_script.proofs.ppq_record.Order.{count_by-cons, none_pass, Each-weaker, Rising-in_order, in_order-same_bag}
use Rattle.ppq_script.proofs.ppq_record.Fronts.{ranks, ascending_is}
use Rattle.ppq_script.specs.ppq_outside.Shown.{Shown, AllTell}
use Rattle.ppq_script.specs.ppq_outside.Told.{TakesPart}
use Rattle.ppq_script.proofs.ppq_outside.Takes.{takes_two, takes_and_part, takes_nothing, part_of_more}
use Rattle.ppq_engine.specs.Output.{first_field, record_text, records_text, all_text, more_text, last_of, limited_count, mark_text}
use Rattle.ppq_engine.specs.Gathers.{Gathers, IsSummary}
use Rattle.ppq_engine.specs.Calls.{Prints}
use Rattle.ppq_engine.specs.Running.{GathersPart, WroteInPart}
use Rattle.ppq_engine.specs.Files.{IsByFile}
use Rattle.ppq_engine.specs.Popping.{passing, next_of, popped_count, left_at_most, left_mark, IsRound, NotByFile}
use Rattle.ppq_engine.specs.declared.drained.Drained.{Drained}
use Rattle.ppq_engine.specs.declared.stop.Stop.{Stop}
use Rattle.ppq_engine.specs.declared.stop.Stop.TheVariants.{Sink, Queue}
use Rattle.ppq_engine.proofs.Results.{if-err, not-ok}

-- what is left of an ascending list ascends
Rising-drop : {X : Type 0} (lt : X → X → Bool) (k : ℕ) (xs : List X) → Rising lt xs → Rising lt (drop k xs)
Rising-drop lt zero xs r = r
Rising-drop lt (suc k) [] r = tt
Rising-drop lt (suc k) (x ∷ xs) r = Rising-drop lt k xs r.1

rising : {R : Type 0} (w : Words R) (laws : HasLaws w) (bag : List R) → Rising (is_before w.cmp) (ascending w.cmp bag)
rising w laws bag = Rising-in_order (is_before w.cmp) (ranks laws.order) bag

-- what is left of the ascending list is the ascending list of what is left
pub left_is : {R : Type 0} (w : Words R) (laws : HasLaws w) (bag old : List R) (i : ℕ) → IsSameBag bag (drop i (ascending w.cmp old)) → ascending w.cmp bag ≡ drop i (ascending w.cmp old)
left_is w laws bag old i same = sym (ascending_is laws.order laws.same bag (drop i (ascending w.cmp old)) (Rising-drop (is_before w.cmp) i (ascending w.cmp old) (rising w laws old)) (λ p. sym (same p)))

pub left-begin : {R : Type 0} (w : Words R) (laws : HasLaws w) (bag : List R) → IsSameBag bag (drop 0 (ascending w.cmp bag))
left-begin w laws bag p = sym (in_order-same_bag (is_before w.cmp) (ranks laws.order) bag p)

-- the first of a list
first_take : {X : Type 0} (xs : List X) (x : X) → first_of (take 1 xs) ≡ Some x → xs ≡ x ∷ drop 1 xs
first_take [] x e = cc
first_take (y ∷ ys) x e = let h : y ≡ x = cc in ap (λ z. z ∷ ys) h

none_take : {X : Type 0} (xs : List X) → first_of (take 1 xs) ≡ None → xs ≡ []
none_take [] e = refl
none_take (y ∷ ys) e = cc

-- a record that passes is there, and is below the limit
passing_some : {R : Type 0} (w : Words R) (below item : Option R) (x : R) → passing w below item ≡ Some x → item ≡ Some x
passing_some w None item x e = e
passing_some w (Some limit) None x e = cc
passing_some w (Some limit) (Some y) x e =
    elim (cases_Bool (is_before w.cmp y limit)) as (λ _. Some y ≡ Some x) [
      | inl h ↦ sym (ap (λ (b : Bool). cond b (Some y) None) h) ∙ e
      | inr h ↦ let z : None ≡ Some x = sym (ap (λ (b : Bool). cond b (Some y) None) h) ∙ e in cc
    ]

passing_below : {R : Type 0} (w : Words R) (limit x : R) (item : Option R) → passing w (Some limit) item ≡ Some x → is_before w.cmp x limit ≡ true
passing_below w limit x None e = cc
passing_below {R} w limit x (Some y) e =
    elim (cases_Bool (is_before w.cmp y limit)) as (λ _. is_before w.cmp x limit ≡ true) [
      | inl h ↦ let z : Some y ≡ Some x = sym (ap (λ (b : Bool). cond b (Some y) None) h) ∙ e in let same : y ≡ x = cc in ap (λ (p : R). is_before w.cmp p limit) (sym same) ∙ h
      | inr h ↦ let z : None ≡ Some x = sym (ap (λ (b : Bool). cond b (Some y) None) h) ∙ e in cc
    ]

passing_none : {R : Type 0} (w : Words R) (limit x : R) → passing w (Some limit) (Some x) ≡ None → is_before w.cmp x limit ≡ false
passing_none w limit x e =
    elim (cases_Bool (is_before w.cmp x limit)) as (λ _. is_before w.cmp x limit ≡ false) [
      | inl h ↦ let z : Some x ≡ None = sym (ap (λ (b : Bool). cond b (Some x) None) h) ∙ e in cc
      | inr h ↦ h
    ]

-- the next record stands at its place in the ascending list
pub next_at : {R : Type 0} (w : Words R) (laws : HasLaws w) (bag old : List R) (i : ℕ) (below : Option R) (x : R) → IsSameBag bag (drop i (ascending w.cmp old)) → next_of w below bag ≡ Some x → drop i (ascending w.cmp old) ≡ x ∷ drop (i + 1) (ascending w.cmp old)
next_at {R} w laws bag old i below x same is =
    let asc = ascending w.cmp old in
    let here : first_of (take 1 (drop i asc)) ≡ Some x = ap (λ (xs : List R). first_of (take 1 xs)) (sym (left_is w laws bag old i same)) ∙ passing_some w below (least w.cmp bag) x is in
    first_take (drop i asc) x here ∙ ap (λ (xs : List R). x ∷ xs) (drop-drop 1 i asc)

pub lines-more : {R : Type 0} (w : Words R) (form : Form) (items : List R) (item : R) → records_text w form (items ++ item ∷ []) ≡ records_text w form items ++ record_text w form item
lines-more w form items item = flat_map-append (record_text w form) items (item ∷ []) ∙ ap (λ (t : List ℕ). records_text w form items ++ t) (append-nil (record_text w form item))

-- where nothing is left, more takes and drops nothing more
abbrev none_of : (R : Type 0) → List R
none_of R = []

take_empty : (R : Type 0) (n : ℕ) → take n (none_of R) ≡ none_of R
take_empty R zero = refl
take_empty R (suc n) = refl

drop_empty : (R : Type 0) (n : ℕ) → drop n (none_of R) ≡ none_of R
drop_empty R zero = refl
drop_empty R (suc n) = refl

all_taken : {R : Type 0} (xs : List R) (i count : ℕ) → drop i xs ≡ [] → i ≤ count → take count xs ≡ take i xs
all_taken {R} xs i count e h =
    let sum : i + (count - i) ≡ count = omega arith in
    let nothing : take (count - i) (drop i xs) ≡ [] = ap (take (count - i)) e ∙ take_empty R (count - i) in
    ap (λ (n : ℕ). take n xs) (sym sum) ∙ take-add i (count - i) xs ∙ ap (λ (ys : List R). take i xs ++ ys) nothing ∙ append-nil (take i xs)

all_dropped : {R : Type 0} (xs : List R) (i count : ℕ) → drop i xs ≡ [] → i ≤ count → drop count xs ≡ drop i xs
all_dropped {R} xs i count e h =
    let sum : i + (count - i) ≡ count = omega arith in
    ap (λ (n : ℕ). drop n xs) (sym sum) ∙ sym (drop-drop (count - i) i xs) ∙ ap (drop (count - i)) e ∙ drop_empty R (count - i) ∙ sym e

abbrev num : Bool → ℕ
num b = cond b 1 0

-- a test counts one record at most
one_at_most : (b : Bool) → cond b 1 0 ≤ 1
one_at_most true = omega arith
one_at_most false = omega arith

-- how many records of an ascending list are below a limit, told by the record at a place
module _ {X : Type 0} (lt : X → X → Bool) (o : IsStrictWeakOrder lt) (limit : X) where
  each_at : (P : X → Type 0) (xs : List X) (i : ℕ) (x : X) (rest : List X) → Each P xs → drop i xs ≡ x ∷ rest → P x
  each_at P [] zero x rest each e = cc
  each_at P (y ∷ ys) zero x rest each e = let h : y ≡ x = cc in subst P h each.0
  each_at P [] (suc i) x rest each e = cc
  each_at P (y ∷ ys) (suc i) x rest each e = each_at P ys i x rest each.1 e

  below_at : (xs : List X) (i : ℕ) (x : X) (rest : List X) → Rising lt xs → drop i xs ≡ x ∷ rest → lt x limit ≡ true → i + 1 ≤ count_by (λ y. lt y limit) xs
  below_at xs zero x rest up e below =
      let p : X → Bool = λ y. lt y limit in
      let all : count_by p xs ≡ cond (p x) 1 0 + count_by p rest = ap (count_by p) e ∙ count_by-cons p x rest in
      let one : cond (p x) 1 0 ≡ 1 = ap (λ (b : Bool). num b) below in
      omega (arith, all, one)
  below_at [] (suc i) x rest up e below = cc
  below_at (y ∷ ys) (suc i) x rest up e below =
      let p : X → Bool = λ z. lt z limit in
      let here : Le lt y x = each_at (Le lt y) ys i x rest up.0 e in
      let one : p y ≡ true = elim (cases_Bool (p y)) as (λ _. p y ≡ true) [ inl t ↦ t | inr f ↦ (let z : lt x limit ≡ false = o.chain x y limit here f in cc) ] in
      let first : cond (p y) 1 0 ≡ 1 = ap (λ (b : Bool). num b) one in
      omega (arith, below_at ys i x rest up.1 e below, count_by-cons p y ys, first)

  none_below : (xs : List X) (i : ℕ) (x : X) (rest : List X) → Rising lt xs → drop i xs ≡ x ∷ rest → lt x limit ≡ false → count_by (λ y. lt y limit) xs ≤ i
  none_below [] zero x rest up e above = cc
  none_below (y ∷ ys) zero x rest up e above =
      let p : X → Bool = λ z. lt z limit in
      let same : y ≡ x = cc in
      let here : p y ≡ false = ap p same ∙ above in
      let each : Each (λ z. p z ≡ false) ys = Each-weaker (Le lt y) (λ z. p z ≡ false) (λ z h. o.chain z y limit h here) ys up.0 in
      omega (arith, none_pass p (y ∷ ys) (here, each))
  none_below [] (suc i) x rest up e above = cc
  none_below (y ∷ ys) (suc i) x rest up e above =
      let p : X → Bool = λ z. lt z limit in
      omega (arith, none_below ys i x rest up.1 e above, count_by-cons p y ys, one_at_most (p y))

  short_below : (xs : List X) (i : ℕ) → drop i xs ≡ [] → count_by (λ y. lt y limit) xs ≤ i
  short_below xs zero e = let none : count_by (λ y. lt y limit) xs ≡ 0 = ap (count_by (λ y. lt y limit)) e in omega (arith, none)
  short_below [] (suc i) e = let none : count_by (λ y. lt y limit) [] ≡ 0 = refl in omega (arith, none)
  short_below (y ∷ ys) (suc i) e = let p : X → Bool = λ z. lt z limit in omega (arith, short_below ys i e, count_by-cons p y ys, one_at_most (p y))

-- so many records are below a limit in a multiset as in its ascending list
below_same : {R : Type 0} (w : Words R) (laws : HasLaws w) (bag : List R) (limit : R) → count_by (λ x. is_before w.cmp x limit) (ascending w.cmp bag) ≡ size_below w.cmp bag limit
below_same w laws bag limit = in_order-same_bag (is_before w.cmp) (ranks laws.order) bag (λ x. is_before w.cmp x limit)

at_most_below : {R : Type 0} (w : Words R) (laws : HasLaws w) (bag old : List R) (i : ℕ) (limit : R) (item : Option R) → IsSameBag bag (drop i (ascending w.cmp old)) → least w.cmp bag ≡ item → passing w (Some limit) item ≡ None → size_below w.cmp old limit ≤ i
at_most_below {R} w laws bag old i limit None same e none =
    let asc = ascending w.cmp old in
    let left : drop i asc ≡ [] = none_take (drop i asc) (ap (λ (xs : List R). first_of (take 1 xs)) (sym (left_is w laws bag old i same)) ∙ e) in
    omega (arith, short_below (is_before w.cmp) (ranks laws.order) limit asc i left, below_same w laws old limit)
at_most_below {R} w laws bag old i limit (Some x) same e none =
    let asc = ascending w.cmp old in
    let left : drop i asc ≡ x ∷ drop 1 (drop i asc) = first_take (drop i asc) x (ap (λ (xs : List R). first_of (take 1 xs)) (sym (left_is w laws bag old i same)) ∙ e) in
    omega (arith, none_below (is_before w.cmp) (ranks laws.order) limit asc i x (drop 1 (drop i asc)) (rising w laws old) left (passing_none w limit x none), below_same w laws old limit)

more_below : {R : Type 0} (w : Words R) (laws : HasLaws w) (bag old : List R) (i : ℕ) (limit x : R) → IsSameBag bag (drop i (ascending w.cmp old)) → next_of w (Some limit) bag ≡ Some x → i + 1 ≤ size_below w.cmp old limit
more_below w laws bag old i limit x same is =
    omega (arith, below_at (is_before w.cmp) (ranks laws.order) limit (ascending w.cmp old) i x (drop (i + 1) (ascending w.cmp old)) (rising w laws old) (next_at w laws bag old i (Some limit) x same is) (passing_below w limit x (least w.cmp bag) is), below_same w laws old limit)

-- the first records of a multiset, popped as long as they pass
pub popped-le : {R : Type 0} (w : Words R) (below : Option R) (bag : List R) (count : ℕ) → popped_count w below bag count ≤ count
popped-le w None bag count = omega arith
popped-le w (Some limit) bag count = omega arith

-- how many are left
pub left-most : {R : Type 0} (below : Option R) (size count left : ℕ) → left ≤ size → (below ≡ None → left ≤ size - count) → left ≤ left_at_most below size count
left-most None size count left few all = all refl
left-most (Some limit) size count left few all = few

-- where none passes, all were popped
none_left : {R : Type 0} (w : Words R) (laws : HasLaws w) (bag old : List R) (i : ℕ) → IsSameBag bag (drop i (ascending w.cmp old)) → least w.cmp bag ≡ None → drop i (ascending w.cmp old) ≡ []
none_left {R} w laws bag old i same e = none_take (drop i (ascending w.cmp old)) (ap (λ (xs : List R). first_of (take 1 xs)) (sym (left_is w laws bag old i same)) ∙ e)

pub popped-all :
    {R : Type 0} (w : Words R) (laws : HasLaws w) (below : Option R) (bag old : List R) (i count : ℕ) → IsSameBag bag (drop i (ascending w.cmp old)) → next_of w below bag ≡ None → i ≤ popped_count w below old count
    → (take (popped_count w below old count) (ascending w.cmp old) ≡ take i (ascending w.cmp old)) × IsSameBag bag (drop (popped_count w below old count) (ascending w.cmp old))
popped-all w laws None bag old i count same none l =
    let asc = ascending w.cmp old in
    let left = none_left w laws bag old i same none in
    (all_taken asc i count left l, λ p. same p ∙ ap (count_by p) (sym (all_dropped asc i count left l)))
popped-all w laws (Some limit) bag old i count same none l =
    let asc = ascending w.cmp old in
    let here : i ≡ popped_count w (Some limit) old count = omega (arith, at_most_below w laws bag old i limit (least w.cmp bag) same refl none) in
    (ap (λ (n : ℕ). take n asc) (sym here), λ p. same p ∙ ap (λ (n : ℕ). count_by p (drop n asc)) here)

-- whether a record below the limit is left
mark_at : {R : Type 0} (w : Words R) (laws : HasLaws w) (form : Form) (bag old : List R) (limit : R) (count : ℕ) (next : Option R) → IsSameBag bag (drop (limited_count w old limit count) (ascending w.cmp old)) → next_of w (Some limit) bag ≡ next → left_mark form next ≡ mark_text w form old limit count
mark_at w laws form bag old limit count None same is =
    let few : size_below w.cmp old limit ≤ count = omega (arith, at_most_below w laws bag old (limited_count w old limit count) limit (least w.cmp bag) same refl is) in
    ap (λ (b : Bool). if b then all_text form else more_text form) (sym (le-leb (size_below w.cmp old limit) count few))
mark_at w laws form bag old limit count (Some x) same is =
    let many : count < size_below w.cmp old limit = omega (arith, more_below w laws bag old (limited_count w old limit count) limit x same is) in
    ap (λ (b : Bool). if b then all_text form else more_text form) (sym (lt-leb (size_below w.cmp old limit) count many))

pub mark-is : {R : Type 0} (w : Words R) (laws : HasLaws w) (form : Form) (bag old : List R) (limit : R) (count : ℕ) → IsSameBag bag (without_front w.cmp old (limited_count w old limit count)) → left_mark form (next_of w (Some limit) bag) ≡ mark_text w form old limit count
mark-is w laws form bag old limit count same = mark_at w laws form bag old limit count (next_of w (Some limit) bag) same refl

-- drained records, one more
last_push : {R : Type 0} (items : List R) (item : R) → last_of (items ++ item ∷ []) ≡ Some item
last_push [] item = refl
last_push (x ∷ []) item = refl
last_push (x ∷ y ∷ ys) item = last_push (y ∷ ys) item

first_push : {R : Type 0} (items : List R) (item x : R) (first : Option R) → first ≡ first_of items → (first ≡ None → x ≡ item) → ((y : R) → first ≡ Some y → x ≡ y) → Some x ≡ first_of (items ++ item ∷ [])
first_push {R} [] item x first e none some = ap (λ (p : R). Some p) (none e)
first_push {R} (y ∷ ys) item x first e none some = ap (λ (p : R). Some p) (some y e)

pub summary-more :
    {R : Type 0} (w : Words R) (items : List R) (item : R) (had has : Drained R) (x : R) → IsSummary w items had → has.count ≡ had.count + 1 → has.first ≡ Some x → (had.first ≡ None → x ≡ item) → ((y : R) → had.first ≡ Some y → x ≡ y)
    → has.last ≡ Some item → has.sum ≡ (had.sum + first_field w item) % 2 ^ 64 → IsSummary w (items ++ item ∷ []) has
summary-more w items item had has x is count first none some last sum = record {
  count = omega (arith, count, is.count, length-append items (item ∷ []));
  first = first ∙ first_push items item x had.first is.first none some;
  last = last ∙ sym (last_push items item);
  sum =
      let field = first_field w item in
      let all : sum_by (first_field w) (items ++ item ∷ []) ≡ sum_by (first_field w) items + field = sum_by-append (first_field w) items (item ∷ []) ∙ ap (λ (n : ℕ). sum_by (first_field w) items + n) (omega arith) in
      sum ∙ ap (λ (n : ℕ). (n + field) % 2 ^ 64) is.sum ∙ mod-add-mod (sum_by (first_field w) items) (2 ^ 64) field ∙ ap (λ (n : ℕ). n % 2 ^ 64) (sym all);
}

-- a round of records: as many as these, and as many are left
take_few : {R : Type 0} (m : ℕ) (xs : List R) → take (length (take m xs)) xs ≡ take m xs
take_few zero xs = refl
take_few (suc m) [] = refl
take_few {R} (suc m) (x ∷ xs) = ap (λ (ys : List R). x ∷ ys) (take_few m xs)

drop_few : {R : Type 0} (m : ℕ) (xs : List R) → drop (length (take m xs)) xs ≡ drop m xs
drop_few zero xs = refl
drop_few (suc m) [] = refl
drop_few (suc m) (x ∷ xs) = drop_few m xs

few_taken : {R : Type 0} (m : ℕ) (xs : List R) → length (take m xs) ≤ m
few_taken m xs = omega (arith, length-take m xs)

none_taken : {R : Type 0} (m : ℕ) (xs : List R) → 0 < m → take m xs ≡ [] → xs ≡ []
none_taken zero xs some e = absurd (omega (arith, some))
none_taken (suc m) [] some e = refl
none_taken (suc m) (x ∷ xs) some e = cc

-- where none of a multiset is below a limit, its smallest record does not pass
none_passes : {R : Type 0} (w : Words R) (limit : R) (xs : List R) → count_by (λ x. is_before w.cmp x limit) xs ≡ 0 → passing w (Some limit) (first_of (take 1 xs)) ≡ None
none_passes w limit [] none = refl
none_passes {R} w limit (x ∷ xs) none =
    let p : R → Bool = λ y. is_before w.cmp y limit in
    elim (cases_Bool (p x)) as (λ _. passing w (Some limit) (Some x) ≡ None) [
      | inl h ↦ (let one : cond (p x) 1 0 ≡ 1 = ap (λ (b : Bool). num b) h in absurd (omega (arith, none, count_by-cons p x xs, one)))
      | inr h ↦ ap (λ (b : Bool). cond b (Some x) None) h
    ]

round_of : {R : Type 0} (w : Words R) (below : Option R) (count m : ℕ) (bag rest items : List R) → items ≡ take m (ascending w.cmp bag) → IsSameBag rest (drop m (ascending w.cmp bag)) → m ≤ popped_count w below bag count → (items ≡ [] → next_of w below bag ≡ None) → IsRound w below count bag rest items
round_of {R} w below count m bag rest items is left few end =
    let asc = ascending w.cmp bag in
    record {
      first = is ∙ sym (take_few m asc) ∙ ap (λ (xs : List R). take (length xs) asc) (sym is);
      rest_is = λ p. left p ∙ ap (count_by p) (sym (drop_few m asc)) ∙ ap (λ (xs : List R). count_by p (drop (length xs) asc)) (sym is);
      few = omega (arith, few, few_taken m asc, ap (λ (xs : List R). length xs) is);
      end = end;
    }

pub round-all :
    {R : Type 0} (w : Words R) (bag rest items : List R) (count batch : ℕ) → 0 < count → 0 < batch → items ≡ take (min count batch) (ascending w.cmp bag) → IsSameBag rest (drop (min count batch) (ascending w.cmp bag)) → IsRound w None count bag rest items
round-all {R} w bag rest items count batch some room is left =
    round_of w None count (min count batch) bag rest items is left (omega arith) (λ none. ap (λ (xs : List R). first_of (take 1 xs)) (none_taken (min count batch) (ascending w.cmp bag) (omega (arith, some, room)) (sym is ∙ none)))

pub round-low :
    {R : Type 0} (w : Words R) (laws : HasLaws w) (bag rest items : List R) (limit : R) (count batch : ℕ) → 0 < count → 0 < batch → items ≡ take (min (min count batch) (size_below w.cmp bag limit)) (ascending w.cmp bag)
    → IsSameBag rest (drop (min (min count batch) (size_below w.cmp bag limit)) (ascending w.cmp bag)) → IsRound w (Some limit) count bag rest items
round-low {R} w laws bag rest items limit count batch some room is left =
    let asc = ascending w.cmp bag in
    let m = min (min count batch) (size_below w.cmp bag limit) in
    let p : R → Bool = λ y. is_before w.cmp y limit in
    round_of w (Some limit) count m bag rest items is left (omega arith)
    (λ none. none_passes w limit asc (elim (cases_lt 0 m) as (λ _. count_by p asc ≡ 0) [
      | inl h ↦ ap (count_by p) (none_taken m asc h (sym is ∙ none))
      | inr h ↦ omega (arith, h, some, room, below_same w laws bag limit)
    ]))

-- the round stands at its place in the ascending list
pub round-left : {R : Type 0} (w : Words R) (laws : HasLaws w) (bag next old items : List R) (i count : ℕ) (below : Option R) → IsSameBag bag (drop i (ascending w.cmp old)) → IsRound w below count bag next items → IsSameBag next (drop (i + length items) (ascending w.cmp old))
round-left {R} w laws bag next old items i count below same round = λ p.
    round.rest_is p ∙ ap (λ (xs : List R). count_by p (drop (length items) xs)) (left_is w laws bag old i same) ∙ ap (count_by p) (drop-drop (length items) i (ascending w.cmp old))

pub round-taken :
    {R : Type 0} (w : Words R) (laws : HasLaws w) (bag next old items : List R) (i count : ℕ) (below : Option R) → IsSameBag bag (drop i (ascending w.cmp old)) → IsRound w below count bag next items
    → take (i + length items) (ascending w.cmp old) ≡ take i (ascending w.cmp old) ++ items
round-taken {R} w laws bag next old items i count below same round =
    let asc = ascending w.cmp old in
    take-add i (length items) asc ∙ ap (λ (xs : List R). take i asc ++ xs) (ap (λ (xs : List R). take (length items) xs) (sym (left_is w laws bag old i same)) ∙ sym round.first)

pub round-lines :
    {R : Type 0} (w : Words R) (laws : HasLaws w) (form : Form) (bag next old items : List R) (i count : ℕ) (below : Option R) → IsSameBag bag (drop i (ascending w.cmp old)) → IsRound w below count bag next items
    → records_text w form (take (i + length items) (ascending w.cmp old)) ≡ records_text w form (take i (ascending w.cmp old)) ++ records_text w form items
round-lines w laws form bag next old items i count below same round = ap (records_text w form) (round-taken w laws bag next old items i count below same round) ∙ flat_map-append (record_text w form) (take i (ascending w.cmp old)) items

-- below a limit are the first of an ascending list, so without some of them so many fewer
module _ {X : Type 0} (lt : X → X → Bool) (o : IsStrictWeakOrder lt) (limit : X) where
  fewer_below : (xs : List X) (i : ℕ) → Rising lt xs → i ≤ count_by (λ y. lt y limit) xs → i + count_by (λ y. lt y limit) (drop i xs) ≡ count_by (λ y. lt y limit) xs
  fewer_below xs zero up l = omega arith
  fewer_below [] (suc i) up l = let none : count_by (λ y. lt y limit) [] ≡ 0 = refl in omega (arith, l, none)
  fewer_below (y ∷ ys) (suc i) up l =
      let p : X → Bool = λ z. lt z limit in
      elim (cases_Bool (p y)) as (λ _. suc i + count_by p (drop i ys) ≡ count_by p (y ∷ ys)) [
        | inl h ↦ (let one : cond (p y) 1 0 ≡ 1 = ap (λ (b : Bool). num b) h in omega (arith, fewer_below ys i up.1 (omega (arith, l, one, count_by-cons p y ys)), one, count_by-cons p y ys))
        | inr h ↦ (let each : Each (λ z. p z ≡ false) ys = Each-weaker (Le lt y) (λ z. p z ≡ false) (λ z k. o.chain z y limit k h) ys up.0 in omega (arith, l, none_pass p (y ∷ ys) (h, each)))
      ]

pub round-passed :
    {R : Type 0} (w : Words R) (laws : HasLaws w) (bag next old items : List R) (i count : ℕ) (below : Option R) → IsSameBag bag (drop i (ascending w.cmp old)) → IsRound w below (count - i) bag next items → i ≤ count → i ≤ popped_count w below old count
    → i + length items ≤ popped_count w below old count
round-passed w laws bag next old items i count None same round h l = omega (arith, round.few, h)
round-passed {R} w laws bag next old items i count (Some limit) same round h l =
    let p : R → Bool = λ y. is_before w.cmp y limit in
    let asc = ascending w.cmp old in
    let less : i + count_by p (drop i asc) ≡ count_by p asc = fewer_below (is_before w.cmp) (ranks laws.order) limit asc i (rising w laws old) (omega (arith, l, below_same w laws old limit)) in
    omega (arith, round.few, h, l, less, same p, below_same w laws old limit)

-- a round of no record: nothing passes any more
pub round-ends :
    {R : Type 0} (w : Words R) (laws : HasLaws w) (below : Option R) (bag next old items : List R) (i count left : ℕ) → items ≡ [] → IsSameBag bag (drop i (ascending w.cmp old)) → IsRound w below left bag next items → i ≤ popped_count w below old count
    → (take (popped_count w below old count) (ascending w.cmp old) ≡ take i (ascending w.cmp old)) × IsSameBag next (without_front w.cmp old (popped_count w below old count))
round-ends {R} w laws below bag next old items i count left none same round l =
    let asc = ascending w.cmp old in
    let all = popped-all w laws below bag old i count same (round.end none) l in
    let here : i + length items ≡ i = ap (λ (xs : List R). i + length xs) none ∙ omega arith in
    (all.0, λ p. round-left w laws bag next old items i left below same round p ∙ ap (λ (n : ℕ). count_by p (drop n asc)) here ∙ sym (same p) ∙ all.1 p)

-- one text more behind what was gathered
pub gathers-more : (before mid now : Option (List ℕ)) (had between has text more : List ℕ) → Gathers before mid had text between → Gathers mid now between more has → Gathers before now had (text ++ more) has
gathers-more before mid now had between has text more first second = record {
  put = first.put ++ second.put;
  took = takes_two before mid now first.put second.put first.took second.took;
  kept =
      sym (append_assoc had text more) ∙ ap (λ (t : List ℕ). t ++ more) first.kept ∙ append_assoc first.put between more ∙ ap (λ (t : List ℕ). first.put ++ t) second.kept
      ∙ sym (append_assoc first.put second.put has);
}

pub gathers-nothing : (told : Option (List ℕ)) (had : List ℕ) → Gathers told told had [] had
gathers-nothing told had = record { put = []; took = takes_nothing told; kept = append-nil had }

-- the same that is gathered
pub gathers-kept : {before now : Option (List ℕ)} {had text has kept : List ℕ} → kept ≡ has → Gathers before now had text has → Gathers before now had text kept
gathers-kept {before} {now} {had} {text} same first = let P : List ℕ → Type 0 = λ h. Gathers before now had text h in subst P (sym same) first

-- the same text behind the same
pub gathers-as : {before now : Option (List ℕ)} {had was text shown has : List ℕ} → was ≡ had → shown ≡ text → Gathers before now was shown has → Gathers before now had text has
gathers-as {before} {now} {had} {was} {text} {shown} {has} same is first =
    let P : List ℕ → Type 0 = λ h. Gathers before now h shown has in
    let Q : List ℕ → Type 0 = λ t. Gathers before now had t has in
    subst Q is (subst P same first)

-- what was gathered and then a part of it is a part of a longer text
pub takes-part : (before mid now : Option (List ℕ)) (had between text more : List ℕ) → Gathers before mid had text between → TakesPart mid now between → TakesPart before now (had ++ (text ++ more))
takes-part before mid now had between text more first took =
    let P : List ℕ → Type 0 = λ t. TakesPart before now t in
    let all : (first.put ++ between) ++ more ≡ had ++ (text ++ more) = ap (λ (t : List ℕ). t ++ more) (sym first.kept) ∙ append_assoc had text more in
    subst P all (part_of_more before now (first.put ++ between) more (takes_and_part before mid now first.put between first.took took))

-- the lines of the first records are those of fewer, and then the others'
lines-around : {R : Type 0} (w : Words R) (form : Form) (xs : List R) (i n : ℕ) → i ≤ n → records_text w form (take n xs) ≡ records_text w form (take i xs) ++ records_text w form (take (n - i) (drop i xs))
lines-around w form xs i n h =
    let sum : i + (n - i) ≡ n = omega arith in
    ap (λ (m : ℕ). records_text w form (take m xs)) (sym sum) ∙ ap (records_text w form) (take-add i (n - i) xs) ∙ flat_map-append (record_text w form) (take i xs) (take (n - i) (drop i xs))

pub popped-part : {R : Type 0} (w : Words R) (form : Form) (before now : Option (List ℕ)) (had has : List ℕ) (xs : List R) (i n : ℕ) → i ≤ n → Gathers before now had (records_text w form (take i xs)) has → GathersPart before now had (records_text w form (take n xs)) has
popped-part w form before now had has xs i n h step = record { part = records_text w form (take i xs); rest = records_text w form (take (n - i) (drop i xs)); all = lines-around w form xs i n h; gathers = step }

-- what was gathered and then a part of what it is with a round's lines
pub round-put :
    {R : Type 0} (w : Words R) (form : Form) (before mid now : Option (List ℕ)) (had between : List ℕ) (xs items : List R) (i n : ℕ) → i + length items ≤ n → take (i + length items) xs ≡ take i xs ++ items → Gathers before mid had (records_text w form (take i xs)) between
    → TakesPart mid now (between ++ records_text w form items) → TakesPart before now (had ++ records_text w form (take n xs))
round-put w form before mid now had between xs items i n h e step took =
    let P : List ℕ → Type 0 = λ t. TakesPart before now t in
    let text = records_text w form (take i xs) in
    let lines = records_text w form items in
    let rest = records_text w form (take (n - (i + length items)) (drop (i + length items) xs)) in
    let both : records_text w form (take (i + length items) xs) ≡ text ++ lines = ap (records_text w form) e ∙ flat_map-append (record_text w form) (take i xs) items in
    let all : (step.put ++ (between ++ lines)) ++ rest ≡ had ++ records_text w form (take n xs) =
    ap (λ (t : List ℕ). t ++ rest) (sym (append_assoc step.put between lines) ∙ ap (λ (t : List ℕ). t ++ lines) (sym step.kept) ∙ append_assoc had text lines ∙ ap (λ (t : List ℕ). had ++ t) (sym both))
    ∙ append_assoc had (records_text w form (take (i + length items) xs)) rest ∙ ap (λ (t : List ℕ). had ++ t) (sym (lines-around w form xs (i + length items) n h)) in
    subst P all (part_of_more before now (step.put ++ (between ++ lines)) rest (takes_and_part before mid now step.put (between ++ lines) step.took took))

-- a part of what was gathered is one of what it is with more lines
pub lines-put : {R : Type 0} (w : Words R) (form : Form) (before mid now : Option (List ℕ)) (had between : List ℕ) (items : List R) (i : ℕ) → i ≤ length items → Gathers before mid had (records_text w form (take i items)) between → TakesPart mid now between → TakesPart before now (had ++ records_text w form items)
lines-put {R} w form before mid now had between items i h step took =
    let P : List R → Type 0 = λ xs. TakesPart before now (had ++ records_text w form xs) in
    let Q : List ℕ → Type 0 = λ t. TakesPart before now (had ++ t) in
    subst P (take-length items)
    (subst Q (sym (lines-around w form items i (length items) h)) (takes-part before mid now had between (records_text w form (take i items)) (records_text w form (take (length items - i) (drop i items))) step took))

-- a part of a text is a part of a longer one
pub writes-more : (before now : Option (List ℕ)) (had text more has : List ℕ) (stop : Stop) → NotByFile stop → WroteInPart before now had text has stop → WroteInPart before now had (text ++ more) has stop
writes-more before now had text more has Sink by part =
    let P : List ℕ → Type 0 = λ t. TakesPart before now t in
    subst P (append_assoc had text more) (part_of_more before now (had ++ text) more part)
writes-more before now had text more has (Queue fault) by part = record {
  part = part.part;
  rest = part.rest ++ more;
  all = ap (λ (t : List ℕ). t ++ more) part.all ∙ append_assoc part.part part.rest more;
  gathers = part.gathers;
}
writes-more before now had text more has _ by part = absurd by

-- nothing was written yet
pub nothing-part : (told : Option (List ℕ)) (had text : List ℕ) → GathersPart told told had text had
nothing-part told had text = record { part = []; rest = text; all = refl; gathers = gathers-nothing told had }

pub file-part : (told : Option (List ℕ)) (had text : List ℕ) (stop : Stop) → IsByFile stop → WroteInPart told told had text had stop
file-part told had text Sink by = absurd by
file-part told had text (Queue fault) by = nothing-part told had text
file-part told had text _ by = gathers-nothing told had

-- a command stopped, and printed so much
pub prints-stop :
    {T : Type 0} (first : List Shown) (before now : Option (List ℕ)) (had text has : List ℕ) (r : Result T Stop) (stop : Stop)
    → IsErrAnd r (λ x. x ≡ stop) → (AllTell first → WroteInPart before now had text has stop) → Prints first before now had text has r
prints-stop first before now had text has r stop is wrote = record {
  text = not-ok r (λ x. x ≡ stop) (AllTell first → Gathers before now had text has) is;
  part = if-err r stop (λ s. AllTell first → WroteInPart before now had text has s) is wrote;
}
