-- What is pushed in a session may join the multiset at once or at the session's end: the two definitions agree.
use Rattle.std.proofs.Common.{◌≡◌, ℕ, zero, suc, ◌+◌, ◌≤◌, Bool, true, false, cond, List, [], ◌∷◌, ◌++◌, length, length-append, take, drop, refl, sym, ap, ap₂, ◌∙◌, subst, arith, inl, inr}
use Rattle.std.specs.Prelude.{⊤, count_by, not, ◌&&◌, nat_le, if◌then◌else◌, max, unwrap_or}
use Rattle.std.proofs.Math.Seq.{take-length}
use Rattle.std.proofs.lemmas.Bool.{cases_lt, le-leb, lt-leb, not-true}
use Rattle.std.proofs.lemmas.List.{take-take, length-take}
use Rattle.std.proofs.lemmas.List.Filters.{sum_by-filter_both}
use Rattle.std.proofs.lemmas.List.Sums.{length-filter}
use Rattle.ppq_script.specs.Words.{Words}
use Rattle.ppq_engine.proofs.Orders.{HasLaws}
use Rattle.ppq_script.specs.declared.form.Form.{Form}
use Rattle.ppq_script.specs.ppq_record.Order.{is_before}
use Rattle.ppq_script.specs.ppq_record.Bag.{IsSameBag, ascending, front, without_front, first_of, size_below}
use Rattle.ppq_load.specs.Given.{generated_by}
use Rattle.ppq_script.proofs.ppq_record.Order.{count_by-cons, count_by-append, IsSameBag-length, IsSameBag-append_comm, Each-append, in_order-same_bag}
use Rattle.ppq_script.proofs.ppq_record.Fronts.{ranks, ascending-same_bag, front-parts}
use Rattle.ppq_script.specs.declared.command.Command.{Command}
use Rattle.ppq_script.specs.declared.command.Command.TheVariants.{Push, Pop, Top, Size, Bulk, Gen, BulkPop, BulkPopLimit, Drain, BulkBegin, BulkPush, BulkEnd, LimitBegin, LimitPush, LimitTop, LimitPop, LimitEnd}
use Rattle.ppq_script.specs.declared.session.Session.{Session}
use Rattle.ppq_script.specs.declared.session.Session.TheVariants.{Outside, InBulk, InLimit}
use Rattle.ppq_script.specs.Sessions.{turn_of, is_outside, is_in_bulk, is_in_limit, is_at_limit, may_stand, are_in_place}
use Rattle.ppq_engine.specs.Output.{State, records_text, all_text, more_text, least_text, size_text, summary_text, limited_text, limited_count, mark_text, popped_in, outside, text_of, after, output_from, counted_in, load_from, crest_from}
use Rattle.ppq_engine.specs.Deferred.{Deferred, begun, below, not_below, without_below, least_in, without_least, left_text, text_deferred, after_deferred, output_deferred_from, counted_deferred, load_deferred_from, crest_deferred_from, DefinitionsAgree}
use Rattle.ppq_engine.proofs.Below.{NoneBelow, front-beside, size-beside}

-- `all` stands where no record below the limit is left
abbrev mark : Form → Bool → List ℕ
mark form b = if b then all_text form else more_text form

nat_le-suc : (m n : ℕ) → nat_le m n ≡ nat_le (suc m) (suc n)
nat_le-suc m n = elim (cases_lt n m) as (λ _. nat_le m n ≡ nat_le (suc m) (suc n)) [
  | inl h ↦ lt-leb m n h ∙ sym (lt-leb (suc m) (suc n) (omega arith))
  | inr h ↦ le-leb m n h ∙ sym (le-leb (suc m) (suc n) (omega arith))
]

mark-left : {R : Type 0} (form : Form) (xs : List R) (n : ℕ) → left_text form (drop n xs) ≡ mark form (nat_le (length xs) n)
mark-left form [] zero = refl
mark-left form [] (suc n) = ap (mark form) (sym (le-leb 0 (suc n) (omega arith)))
mark-left form (x ∷ xs) zero = ap (mark form) (sym (lt-leb (suc (length xs)) 0 (omega arith)))
mark-left form (x ∷ xs) (suc n) = mark-left form xs n ∙ ap (mark form) (nat_le-suc (length xs) n)

same_order : {R : Type 0} (w : Words R) (laws : HasLaws w) (bag : List R) → IsSameBag (ascending w.cmp bag) bag
same_order w laws bag p = in_order-same_bag (is_before w.cmp) (ranks laws.order) bag p

-- A multiset is what is below a limit and what is not. Pops below the limit see the first alone, also where what was pushed in the session, none
-- of it below the limit, stands in the multiset already
module _ {R : Type 0} (w : Words R) (laws : HasLaws w) (limit : R) where
  abbrev low : R → Bool
  low x = is_before w.cmp x limit

  not_below-one : (x : R) (b : Bool) (xs : List R) → low x ≡ b → NoneBelow w laws limit xs → NoneBelow w laws limit (cond (not b) (x ∷ xs) xs)
  not_below-one x true xs e (none) = none
  not_below-one x false xs e (none) = (e, none)

  not_below-none : (bag : List R) → NoneBelow w laws limit (not_below w limit bag)
  not_below-none [] = tt
  not_below-none (x ∷ xs) = not_below-one x (low x) (not_below w limit xs) refl (not_below-none xs)

  parts : (bag : List R) → IsSameBag (not_below w limit bag ++ below w limit bag) bag
  parts bag p = omega (arith, count_by-append p (not_below w limit bag) (below w limit bag), sum_by-filter_both low (λ x. not (low x)) (λ x. refl) (λ x. cond (p x) 1 0) bag)

  below-all : (bag : List R) → size_below w.cmp (below w limit bag) limit ≡ length (below w limit bag)
  below-all bag = sym (size-beside w laws limit bag (not_below w limit bag) (below w limit bag) (not_below-none bag) (λ p. sym (parts bag p))) ∙ sym (length-filter low bag)

  module _ (whole pushed bag : List R) (none : NoneBelow w laws limit pushed) (same : IsSameBag whole (pushed ++ bag)) where
    abbrev added : List R
    added = pushed ++ not_below w limit bag

    abbrev left : List R
    left = below w limit bag

    added-none : NoneBelow w laws limit added
    added-none = Each-append (λ x. low x ≡ false) pushed (not_below w limit bag) none (not_below-none bag)

    same_parts : IsSameBag whole (added ++ left)
    same_parts p =
        omega (arith, same p, count_by-append p pushed bag, count_by-append p added left, count_by-append p pushed (not_below w limit bag), count_by-append p (not_below w limit bag) left, parts bag p)

    size-left : size_below w.cmp whole limit ≡ length left
    size-left = size-beside w laws limit whole added left added-none same_parts ∙ below-all bag

    sorted : length (ascending w.cmp left) ≡ length left
    sorted = IsSameBag-length (ascending w.cmp left) left (same_order w laws left)

    pub count-below : (n : ℕ) → limited_count w whole limit n ≡ length (front w.cmp left n)
    count-below n = omega (arith, size-left, sorted, length-take n (ascending w.cmp left))

    pub front-below : (n : ℕ) → front w.cmp whole (limited_count w whole limit n) ≡ front w.cmp left n
    front-below n =
        let k = limited_count w whole limit n in
        let asc = ascending w.cmp left in
        let few : k ≤ size_below w.cmp left limit = omega (arith, size-left, below-all bag) in
        let within : k ≤ n = omega arith in
        front-beside w laws limit whole added left k added-none same_parts few ∙ sym (take-take k n asc within) ∙ ap (λ (m : ℕ). take m (take n asc)) (count-below n) ∙ take-length (take n asc)

    pub rest-below : (n : ℕ) → IsSameBag (without_front w.cmp whole (limited_count w whole limit n)) (pushed ++ without_below w limit bag n)
    rest-below n p =
        let k = limited_count w whole limit n in
        omega (arith, ap (λ (xs : List R). count_by p xs) (front-below n), front-parts laws.order whole k p, front-parts laws.order left n p, count_by-append p (front w.cmp whole k) (without_front w.cmp whole k), count_by-append p (front w.cmp left n) (without_front w.cmp left n), same_parts p, count_by-append p added left, count_by-append p pushed (not_below w limit bag), count_by-append p pushed (without_below w limit bag n), count_by-append p (not_below w limit bag) (without_front w.cmp left n))

    pub mark-below : (form : Form) (n : ℕ) → left_text form (without_front w.cmp left n) ≡ mark_text w form whole limit n
    mark-below form n = mark-left form (ascending w.cmp left) n ∙ ap (λ (m : ℕ). mark form (nat_le m n)) (sorted ∙ sym size-left)

-- what may be kept apart: nothing outside sessions, anything in a bulk session, and nothing below the limit in a limit session
abbrev MayWait : {R : Type 0} (w : Words R) (laws : HasLaws w) → Session R → List R → Type 0
MayWait w laws Outside pushed = pushed ≡ []
MayWait w laws InBulk pushed = ⊤
MayWait w laws (InLimit limit) pushed = NoneBelow w laws limit pushed

-- a state of each definition: the multisets differ by what is kept apart, and nothing else does
record AreAlike {R : Type 0} (w : Words R) (laws : HasLaws w) (state : State R) (other : Deferred R) : Type 0 where
  session : other.session ≡ state.session
  popped : other.popped ≡ state.popped
  bag : IsSameBag state.bag (other.pushed ++ other.bag)
  waits : MayWait w laws state.session other.pushed

both : (b c : Bool) → (b && c) ≡ true → (b ≡ true) × (c ≡ true)
both true c e = (refl, e)
both false c e = cc

-- what each session may keep apart
outside-is : {R : Type 0} (session : Session R) → is_outside session ≡ true → session ≡ Outside
outside-is Outside e = refl
outside-is InBulk e = cc
outside-is (InLimit limit) e = cc

stays-bulk : {R : Type 0} (w : Words R) (laws : HasLaws w) (session : Session R) (pushed : List R) → is_in_bulk session ≡ true → MayWait w laws session pushed
stays-bulk w laws Outside pushed e = cc
stays-bulk w laws InBulk pushed e = tt
stays-bulk w laws (InLimit limit) pushed e = cc

stays-limit : {R : Type 0} (w : Words R) (laws : HasLaws w) (session : Session R) (pushed : List R) (item : R) → is_at_limit w session item ≡ true → MayWait w laws session pushed → MayWait w laws session (pushed ++ item ∷ [])
stays-limit w laws Outside pushed item e waits = cc
stays-limit w laws InBulk pushed item e waits = cc
stays-limit w laws (InLimit limit) pushed item e waits = Each-append (λ x. is_before w.cmp x limit ≡ false) pushed (item ∷ []) waits (not-true (is_before w.cmp item limit) e, tt)

module _ {R : Type 0} (w : Words R) (laws : HasLaws w) (whole pushed bag : List R) (same : IsSameBag whole (pushed ++ bag)) where
  least-is : (session : Session R) → is_in_limit session ≡ true → MayWait w laws session pushed → first_of (least_in w session bag) ≡ first_of (front w.cmp whole (popped_in w session whole))
  least-is Outside e waits = cc
  least-is InBulk e waits = cc
  least-is (InLimit limit) e waits = ap (λ (xs : List R). first_of xs) (sym (front-below w laws limit whole pushed bag waits same 1))

  popped-is : (session : Session R) → is_in_limit session ≡ true → MayWait w laws session pushed → length (least_in w session bag) ≡ popped_in w session whole
  popped-is Outside e waits = cc
  popped-is InBulk e waits = cc
  popped-is (InLimit limit) e waits = sym (count-below w laws limit whole pushed bag waits same 1)

  rest-is : (session : Session R) → is_in_limit session ≡ true → MayWait w laws session pushed → IsSameBag (without_front w.cmp whole (popped_in w session whole)) (pushed ++ without_least w session bag)
  rest-is Outside e waits = cc
  rest-is InBulk e waits = cc
  rest-is (InLimit limit) e waits = rest-below w laws limit whole pushed bag waits same 1

  crest-is : (session : Session R) → MayWait w laws session pushed → (if is_outside session then length bag else 0) ≡ (if is_outside session then length whole else 0)
  crest-is Outside (none) = sym (IsSameBag-length whole bag (subst (λ (xs : List R). IsSameBag whole (xs ++ bag)) (none) same))
  crest-is InBulk waits = refl
  crest-is (InLimit limit) waits = refl

same-moved : {R : Type 0} (xs ys added : List R) → IsSameBag xs ys → IsSameBag (added ++ xs) (ys ++ added)
same-moved xs ys added same p = omega (arith, count_by-append p added xs, count_by-append p ys added, same p)

-- outside a session nothing is kept apart
module _ {R : Type 0} (w : Words R) (laws : HasLaws w) (state : State R) (other : Deferred R) (is : AreAlike w laws state other) (free : is_outside state.session ≡ true) where
  none : other.pushed ≡ []
  none = subst (λ (s : Session R). MayWait w laws s other.pushed) (outside-is state.session free) is.waits

  bag-is : IsSameBag state.bag other.bag
  bag-is = subst (λ (xs : List R). IsSameBag state.bag (xs ++ other.bag)) none is.bag

  order-is : ascending w.cmp other.bag ≡ ascending w.cmp state.bag
  order-is = sym (ascending-same_bag laws.order laws.same state.bag other.bag bag-is)

  moves : (new rest : List R) → IsSameBag new rest → AreAlike w laws (record state { bag = new }) (record other { bag = rest })
  moves new rest same = record {
    session = is.session;
    popped = is.popped;
    bag = subst (λ (xs : List R). IsSameBag new (xs ++ rest)) (sym none) same;
    waits = is.waits;
  }

  adds : (added : List R) → AreAlike w laws (record state { bag = added ++ state.bag }) (record other { bag = other.bag ++ added })
  adds (added) = moves (added ++ state.bag) (other.bag ++ added) (same-moved state.bag other.bag (added) bag-is)

  drops : (n : ℕ) → AreAlike w laws (record state { bag = without_front w.cmp state.bag n }) (record other { bag = without_front w.cmp other.bag n })
  drops n = moves (without_front w.cmp state.bag n) (without_front w.cmp other.bag n) (λ p. ap (λ (xs : List R). count_by p (drop n xs)) (sym order-is))

  begins : (session : Session R) → MayWait w laws session [] → AreAlike w laws (record { bag = state.bag; session = session; popped = 0 }) (begun session other.bag)
  begins session waits = record { session = refl; popped = refl; bag = bag-is; waits = waits }

  prints : (f : List R → List ℕ) → f (ascending w.cmp other.bag) ≡ f (ascending w.cmp state.bag)
  prints f = ap f order-is

-- in a session what is pushed is kept apart, and joins the multiset at its end
module _ {R : Type 0} (w : Words R) (laws : HasLaws w) (state : State R) (other : Deferred R) (is : AreAlike w laws state other) where
  defers : (item : R) → MayWait w laws state.session (other.pushed ++ item ∷ []) → AreAlike w laws (record state { bag = item ∷ state.bag }) (record other { pushed = other.pushed ++ item ∷ [] })
  defers item waits = record {
    session = is.session;
    popped = is.popped;
    bag =
        λ p.
        omega (arith, count_by-cons p item state.bag, is.bag p, count_by-append p other.pushed other.bag, count_by-append p (other.pushed ++ item ∷ []) other.bag, same-moved other.pushed other.pushed (item ∷ []) (λ q. refl) p, count_by-cons p item other.pushed);
    waits = waits;
  }

  ends : AreAlike w laws (outside state.bag) (begun Outside (other.bag ++ other.pushed))
  ends = record { session = refl; popped = refl; bag = λ p. is.bag p ∙ IsSameBag-append_comm other.pushed other.bag p; waits = refl }

module _ {R : Type 0} (w : Words R) (laws : HasLaws w) (given : ℕ → List R) (workers : ℕ) where
  step : (state : State R) (other : Deferred R) (command : Command R) → AreAlike w laws state other → may_stand w workers state.session command ≡ true → AreAlike w laws (after w given state command) (after_deferred w given other command)
  step state other (Push item) is h = adds w laws state other is h (item ∷ [])
  step state other Pop is h = drops w laws state other is h 1
  step state other (Bulk file size) is h = adds w laws state other is h (given file)
  step state other (Gen seed count) is h = adds w laws state other is h (generated_by w.COUNT w.of_fields seed count)
  step state other (BulkPop count) is h = drops w laws state other is h count
  step state other (BulkPopLimit limit count) is h =
      moves w laws state other is h (without_front w.cmp state.bag (limited_count w state.bag limit count)) (without_below w limit other.bag count) (rest-below w laws limit state.bag [] other.bag tt (bag-is w laws state other is h) count)
  step state other (Drain count) is h = drops w laws state other is h count
  step state other BulkBegin is h = begins w laws state other is h InBulk tt
  step state other (BulkPush pass item) is h = defers w laws state other is item (stays-bulk w laws state.session (other.pushed ++ item ∷ []) (both (is_in_bulk state.session) _ h).0)
  step state other BulkEnd is h = ends w laws state other is
  step state other (LimitBegin limit) is h = begins w laws state other is h (InLimit limit) tt
  step state other (LimitPush pass item) is h = defers w laws state other is item (stays-limit w laws state.session other.pushed item (both (is_at_limit w state.session item) _ h).0 is.waits)
  step state other LimitPop is h = record {
    session = is.session;
    popped = ap₂ (λ (m n : ℕ). m + n) is.popped (ap (λ (s : Session R). length (least_in w s other.bag)) is.session ∙ popped-is w laws state.bag other.pushed other.bag is.bag state.session h is.waits);
    bag =
        subst (λ (s : Session R). IsSameBag (without_front w.cmp state.bag (popped_in w state.session state.bag)) (other.pushed ++ without_least w s other.bag)) (sym is.session)
        (rest-is w laws state.bag other.pushed other.bag is.bag state.session h is.waits);
    waits = is.waits;
  }
  step state other LimitEnd is h = ends w laws state other is
  step state other _ is h = is

  text : (form : Form) (state : State R) (other : Deferred R) (command : Command R) → AreAlike w laws state other → may_stand w workers state.session command ≡ true → text_deferred w form other command ≡ text_of w form state command
  text form state other Pop is h = prints w laws state other is h (λ xs. least_text w form (first_of (take 1 xs)))
  text form state other Top is h = prints w laws state other is h (λ xs. least_text w form (first_of (take 1 xs)))
  text form state other Size is h = ap (size_text form) (sym (IsSameBag-length state.bag other.bag (bag-is w laws state other is h)))
  text form state other (BulkPop count) is h = prints w laws state other is h (λ xs. records_text w form (take count xs))
  text form state other (BulkPopLimit limit count) is h =
      let same = bag-is w laws state other is h in
      ap₂ (λ (a b : List ℕ). a ++ b) (ap (records_text w form) (sym (front-below w laws limit state.bag [] other.bag tt same count))) (mark-below w laws limit state.bag [] other.bag tt same form count)
  text form state other (Drain count) is h = prints w laws state other is h (λ xs. summary_text w form (take count xs))
  text form state other LimitTop is h = ap (λ (s : Session R). limited_text w form (first_of (least_in w s other.bag))) is.session ∙ ap (limited_text w form) (least-is w laws state.bag other.pushed other.bag is.bag state.session h is.waits)
  text form state other LimitPop is h = ap (λ (s : Session R). limited_text w form (first_of (least_in w s other.bag))) is.session ∙ ap (limited_text w form) (least-is w laws state.bag other.pushed other.bag is.bag state.session h is.waits)
  text form state other _ is h = refl

  counts : (state : State R) (other : Deferred R) → AreAlike w laws state other → counted_deferred w given other ≡ counted_in w given state
  counts state other is = omega (arith, IsSameBag-length state.bag (other.pushed ++ other.bag) is.bag, length-append other.pushed other.bag, is.popped)

  crests : (state : State R) (other : Deferred R) → AreAlike w laws state other → (if is_outside other.session then length other.bag else 0) ≡ (if is_outside state.session then length state.bag else 0)
  crests state other is = ap (λ (s : Session R). if is_outside s then length other.bag else 0) is.session ∙ crest-is w laws state.bag other.pushed other.bag is.bag state.session is.waits

  turns : (state : State R) (command : Command R) → unwrap_or (turn_of command) state.session ≡ (after w given state command).session
  turns state (Push item) = refl
  turns state _ = refl

  -- both definitions agree from here on
  record AgreesFrom (state : State R) (other : Deferred R) (commands : List (Command R)) : Type 0 where
    output : (form : Form) → output_deferred_from w form given other commands ≡ output_from w form given state commands
    load : load_deferred_from w given other commands ≡ load_from w given state commands
    crest : crest_deferred_from w given other commands ≡ crest_from w given state commands

  agrees-none : (state : State R) (other : Deferred R) → AgreesFrom state other []
  agrees-none state other = record { output = λ form. refl; load = refl; crest = refl }

  agrees-from : (k : ℕ) (commands : List (Command R)) (state : State R) (other : Deferred R) → AreAlike w laws state other → are_in_place w workers state.session commands ≡ true → AgreesFrom state other (take k commands)
  agrees-from zero commands state other is place = agrees-none state other
  agrees-from (suc k) [] state other is place = agrees-none state other
  agrees-from (suc k) (command ∷ commands) state other is place =
      let new = after w given state command in
      let next = after_deferred w given other command in
      let split = both (may_stand w workers state.session command) (are_in_place w workers (unwrap_or (turn_of command) state.session) commands) place in
      let alike : AreAlike w laws new next = step state other command is split.0 in
      let more = agrees-from k commands new next alike (subst (λ (s : Session R). are_in_place w workers s commands ≡ true) (turns state command) split.1) in
      record {
        output = λ form. ap₂ (λ (a b : List ℕ). a ++ b) (text form state other command is split.0) (more.output form);
        load = ap₂ (λ (a b : ℕ). max a b) (counts new next alike) more.load;
        crest = ap₂ (λ (a b : ℕ). max a b) (crests new next alike) more.crest;
      }

-- both definitions agree on the first commands of a script
pub agrees : {R : Type 0} (w : Words R) (laws : HasLaws w) (workers : ℕ) (given : ℕ → List R) (commands : List (Command R)) → are_in_place w workers Outside commands ≡ true → (k : ℕ) → DefinitionsAgree w given (take k commands)
agrees w laws workers given commands place k =
    let all = agrees-from w laws given workers k commands (outside []) (begun Outside []) (record { session = refl; popped = refl; bag = λ p. refl; waits = refl }) place in
    record { output = all.output; load = all.load; crest = all.crest }

-- and on all of them
pub agrees-all : {R : Type 0} (w : Words R) (laws : HasLaws w) (workers : ℕ) (given : ℕ → List R) (commands : List (Command R)) → are_in_place w workers Outside commands ≡ true → DefinitionsAgree w given commands
agrees-all {R} w laws workers given commands place = subst (λ (cs : List (Command R)). DefinitionsAgree w given cs) (take-length commands) (agrees w laws workers given commands place (length commands))
