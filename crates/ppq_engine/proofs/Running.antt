-- What a run has written, what it has gathered, and how its multiset and its load grow with each command.
use Rattle.std.proofs.Common.{◌≡◌, ℕ, ◌+◌, ◌-◌, ◌<◌, ◌≤◌, List, [], ◌∷◌, ◌++◌, length, take, drop, min, max, Option, Some, None, refl, sym, ap, ap₂, ◌∙◌, subst, arith, append_assoc, suc, drop-cons, take-add, take-append-drop}
use Rattle.std.specs.Prelude.{slice_get, count_by, nat_le, if◌then◌else◌}
use Rattle.std.proofs.lemmas.Option.{get_or_from_slice_get}
use Rattle.ppq_script.specs.Words.{Words}
use Rattle.ppq_engine.proofs.Orders.{HasLaws}
use Rattle.ppq_script.specs.declared.form.Form.{Form}
use Rattle.ppq_script.specs.ppq_record.Order.{is_before}
use Rattle.ppq_script.specs.ppq_record.Bag.{IsSameBag, ascending, front, first_of}
use Rattle.ppq_script.proofs.ppq_record.Order.{IsSameBag-cons, IsSameBag-append, IsSameBag-length}
use Rattle.ppq_load.specs.Given.{generated_by}
use Rattle.ppq_script.proofs.ppq_record.Fronts.{ascending-same_bag}
use Rattle.ppq_script.specs.ppq_outside.Told.{TakesAll, TakesPart}
use Rattle.ppq_script.proofs.ppq_outside.Takes.{takes_nothing, takes_two, takes_and_part, part_of_more, all_is_part}
use Rattle.ppq_script.specs.declared.command.Command.{Command}
use Rattle.ppq_script.specs.declared.command.Command.TheVariants.{Push, Pop, Top, Size, Bulk, Gen, BulkPop, BulkPopLimit, Drain, BulkBegin, BulkPush, BulkEnd, LimitBegin, LimitPush, LimitTop, LimitPop, LimitEnd}
use Rattle.ppq_script.specs.declared.session.Session.{Session}
use Rattle.ppq_script.specs.declared.session.Session.TheVariants.{Outside, InBulk, InLimit}
use Rattle.ppq_engine.specs.Output.{State, outside, least_text, size_text, records_text, all_text, more_text, summary_text, limited_count, limited_text, popped_in, text_of, after, state_from, output_from, load_from, crest_from, bag_of, load_of, TakesAtLeast}
use Rattle.ppq_engine.specs.Gathers.{Gathers}
use Rattle.ppq_engine.specs.Running.{IsGathered}

-- equal multisets have one ascending list, and as many records below a limit
same_order : {R : Type 0} (w : Words R) (laws : HasLaws w) (one other : List R) → IsSameBag one other → ascending w.cmp one ≡ ascending w.cmp other
same_order w laws one other same = ascending-same_bag laws.order laws.same one other same

same_count : {R : Type 0} (w : Words R) (one other : List R) (limit : R) (count : ℕ) → IsSameBag one other → limited_count w one limit count ≡ limited_count w other limit count
same_count w one other limit count same = ap (λ (n : ℕ). min count n) (same (λ x. is_before w.cmp x limit))

-- two states with equal multisets, in one session, of which as many records were popped
pub record IsSameState {R : Type 0} (one other : State R) : Type 0 where
  pub bag : IsSameBag one.bag other.bag
  pub session : one.session ≡ other.session
  pub popped : one.popped ≡ other.popped

pub outside-same : {R : Type 0} (one other : List R) → IsSameBag one other → IsSameState (outside one) (outside other)
outside-same one other same = record { bag = same; session = refl; popped = refl }

same_popped : {R : Type 0} (w : Words R) (session : Session R) (one other : List R) → IsSameBag one other → popped_in w session one ≡ popped_in w session other
same_popped w Outside one other same = refl
same_popped w InBulk one other same = refl
same_popped w (InLimit limit) one other same = same_count w one other limit 1 same

popped-same : {R : Type 0} (w : Words R) (one other : State R) → IsSameState one other → popped_in w one.session one.bag ≡ popped_in w other.session other.bag
popped-same {R} w one other same = ap (λ (s : Session R). popped_in w s one.bag) same.session ∙ same_popped w other.session one.bag other.bag same.bag

-- what a limit session answers of the smallest record
limited-same : {R : Type 0} (w : Words R) (laws : HasLaws w) (form : Form) (one other : State R) → IsSameState one other → limited_text w form (first_of (front w.cmp one.bag (popped_in w one.session one.bag))) ≡ limited_text w form (first_of (front w.cmp other.bag (popped_in w other.session other.bag)))
limited-same {R} w laws form one other same = ap₂ (λ (n : ℕ) (q : List R). limited_text w form (first_of (take n q))) (popped-same w one other same) (same_order w laws one.bag other.bag same.bag)

-- they print the same, and stay the same
text-same : {R : Type 0} (w : Words R) (laws : HasLaws w) (form : Form) (one other : State R) (command : Command R) → IsSameState one other → text_of w form one command ≡ text_of w form other command
text-same {R} w laws form one other Pop same = ap (λ (q : List R). least_text w form (first_of (take 1 q))) (same_order w laws one.bag other.bag same.bag)
text-same {R} w laws form one other Top same = ap (λ (q : List R). least_text w form (first_of (take 1 q))) (same_order w laws one.bag other.bag same.bag)
text-same w laws form one other Size same = ap (size_text form) (IsSameBag-length one.bag other.bag same.bag)
text-same {R} w laws form one other (BulkPop count) same = ap (λ (q : List R). records_text w form (take count q)) (same_order w laws one.bag other.bag same.bag)
text-same {R} w laws form one other (BulkPopLimit limit count) same =
    ap₂ (λ (t u : List ℕ). t ++ u)
    (ap₂ (λ (n : ℕ) (q : List R). records_text w form (take n q)) (same_count w one.bag other.bag limit count same.bag) (same_order w laws one.bag other.bag same.bag))
    (ap (λ (n : ℕ). if nat_le n count then all_text form else more_text form) (same.bag (λ x. is_before w.cmp x limit)))
text-same {R} w laws form one other (Drain count) same = ap (λ (q : List R). summary_text w form (take count q)) (same_order w laws one.bag other.bag same.bag)
text-same w laws form one other LimitTop same = limited-same w laws form one other same
text-same w laws form one other LimitPop same = limited-same w laws form one other same
text-same w laws form one other _ same = refl

dropped_same : {R : Type 0} (w : Words R) (laws : HasLaws w) (one other : List R) (n m : ℕ) → n ≡ m → IsSameBag one other → IsSameBag (drop n (ascending w.cmp one)) (drop m (ascending w.cmp other))
dropped_same {R} w laws one other n m e same p = ap₂ (λ (k : ℕ) (q : List R). count_by p (drop k q)) e (same_order w laws one other same)

with-bag : {R : Type 0} (one other : State R) (b c : List R) → IsSameState one other → IsSameBag b c → IsSameState (record one { bag = b }) (record other { bag = c })
with-bag one other b c same bags = record { bag = bags; session = same.session; popped = same.popped }

module _ {R : Type 0} (w : Words R) (laws : HasLaws w) (given : ℕ → List R) where
  after-same : (one other : State R) (command : Command R) → IsSameState one other → IsSameState (after w given one command) (after w given other command)
  after-same one other (Push item) same = with-bag one other (item ∷ one.bag) (item ∷ other.bag) same (IsSameBag-cons item one.bag other.bag same.bag)
  after-same one other Pop same = with-bag one other (drop 1 (ascending w.cmp one.bag)) (drop 1 (ascending w.cmp other.bag)) same (dropped_same w laws one.bag other.bag 1 1 refl same.bag)
  after-same one other (Bulk file size) same = with-bag one other (given file ++ one.bag) (given file ++ other.bag) same (IsSameBag-append (given file) (given file) one.bag other.bag (λ p. refl) same.bag)
  after-same one other (Gen seed count) same =
      with-bag one other (generated_by w.COUNT w.of_fields seed count ++ one.bag) (generated_by w.COUNT w.of_fields seed count ++ other.bag) same (IsSameBag-append (generated_by w.COUNT w.of_fields seed count) (generated_by w.COUNT w.of_fields seed count) one.bag other.bag (λ p. refl) same.bag)
  after-same one other (BulkPop count) same = with-bag one other (drop count (ascending w.cmp one.bag)) (drop count (ascending w.cmp other.bag)) same (dropped_same w laws one.bag other.bag count count refl same.bag)
  after-same one other (BulkPopLimit limit count) same =
      let n = limited_count w one.bag limit count in
      let m = limited_count w other.bag limit count in
      with-bag one other (drop n (ascending w.cmp one.bag)) (drop m (ascending w.cmp other.bag)) same (dropped_same w laws one.bag other.bag n m (same_count w one.bag other.bag limit count same.bag) same.bag)
  after-same one other (Drain count) same = with-bag one other (drop count (ascending w.cmp one.bag)) (drop count (ascending w.cmp other.bag)) same (dropped_same w laws one.bag other.bag count count refl same.bag)
  after-same one other BulkBegin same = record { bag = same.bag; session = refl; popped = refl }
  after-same one other (BulkPush pass item) same = with-bag one other (item ∷ one.bag) (item ∷ other.bag) same (IsSameBag-cons item one.bag other.bag same.bag)
  after-same one other BulkEnd same = outside-same one.bag other.bag same.bag
  after-same one other (LimitBegin limit) same = record { bag = same.bag; session = refl; popped = refl }
  after-same one other (LimitPush pass item) same = with-bag one other (item ∷ one.bag) (item ∷ other.bag) same (IsSameBag-cons item one.bag other.bag same.bag)
  after-same one other LimitPop same =
      let n = popped_in w one.session one.bag in
      let m = popped_in w other.session other.bag in
      record { bag = dropped_same w laws one.bag other.bag n m (popped-same w one other same) same.bag; session = same.session; popped = omega (arith, same.popped, popped-same w one other same) }
  after-same one other LimitEnd same = outside-same one.bag other.bag same.bag
  after-same one other _ same = same

  -- the same of several commands
  pub state_from-same : (one other : State R) (cs : List (Command R)) → IsSameState one other → IsSameState (state_from w given one cs) (state_from w given other cs)
  state_from-same one other [] same = same
  state_from-same one other (c ∷ cs) same = state_from-same (after w given one c) (after w given other c) cs (after-same one other c same)

  -- commands behind others
  pub state_from-append : (state : State R) (cs ds : List (Command R)) → state_from w given state (cs ++ ds) ≡ state_from w given (state_from w given state cs) ds
  state_from-append state [] ds = refl
  state_from-append state (c ∷ cs) ds = state_from-append (after w given state c) cs ds

  pub load_from-append : (state : State R) (cs ds : List (Command R)) → load_from w given state (cs ++ ds) ≡ max (load_from w given state cs) (load_from w given (state_from w given state cs) ds)
  load_from-append state [] ds = omega arith
  load_from-append state (c ∷ cs) ds = omega (arith, load_from-append (after w given state c) cs ds)

  pub crest_from-append : (state : State R) (cs ds : List (Command R)) → crest_from w given state (cs ++ ds) ≡ max (crest_from w given state cs) (crest_from w given (state_from w given state cs) ds)
  crest_from-append state [] ds = omega arith
  crest_from-append state (c ∷ cs) ds = omega (arith, crest_from-append (after w given state c) cs ds)

  -- a multiset is no larger than the load, or than the multiset before
  bag-le-load : (state : State R) (cs : List (Command R)) → length (state_from w given state cs).bag ≤ max (length state.bag) (load_from w given state cs)
  bag-le-load state [] = omega arith
  bag-le-load state (c ∷ cs) = omega (arith, bag-le-load (after w given state c) cs)

  pub bag_of-le : (cs : List (Command R)) → length (bag_of w given cs) ≤ load_of w given cs
  bag_of-le cs = let nil : length {A = R} [] ≡ 0 = refl in omega (arith, bag-le-load (outside []) cs, nil)

module _ {R : Type 0} (w : Words R) (laws : HasLaws w) (form : Form) (given : ℕ → List R) where
  -- equal states print the same
  pub output_from-same : (one other : State R) (cs : List (Command R)) → IsSameState one other → output_from w form given one cs ≡ output_from w form given other cs
  output_from-same one other [] same = refl
  output_from-same one other (c ∷ cs) same = ap₂ (λ (t u : List ℕ). t ++ u) (text-same w laws form one other c same) (output_from-same (after w given one c) (after w given other c) cs (after-same w laws given one other c same))

  -- commands behind others
  pub output_from-append : (state : State R) (cs ds : List (Command R)) → output_from w form given state (cs ++ ds) ≡ output_from w form given state cs ++ output_from w form given (state_from w given state cs) ds
  output_from-append state [] ds = refl
  output_from-append state (c ∷ cs) ds =
      ap (λ (t : List ℕ). text_of w form state c ++ t) (output_from-append (after w given state c) cs ds) ∙ sym (append_assoc (text_of w form state c) (output_from w form given (after w given state c) cs) (output_from w form given (state_from w given (after w given state c) cs) ds))

-- of the first commands, fewer and the rest of them
pub take-fewer : {R : Type 0} (k j : ℕ) (cs : List (Command R)) → k ≤ j → take j cs ≡ take k cs ++ take (j - k) (drop k cs)
take-fewer k j cs h = let e : k + (j - k) ≡ j = omega arith in ap (λ n. take n cs) (sym e) ∙ take-add k (j - k) cs

-- the first of a list and the next
pub take-next : {X : Type 0} (items : List X) (i : ℕ) (item : X) → i < length items → slice_get items i ≡ Some item → take (i + 1) items ≡ take i items ++ item ∷ []
take-next {X} items i item h e =
    let next : drop i items ≡ item ∷ drop (suc i) items = drop-cons items i item h ∙ ap (λ (x : X). x ∷ drop (suc i) items) (get_or_from_slice_get items i item item e) in
    take-add i 1 items ∙ ap (λ (xs : List X). take i items ++ take 1 xs) next

module _ {R : Type 0} (w : Words R) (laws : HasLaws w) (given : ℕ → List R) where
  pub load-take : (k j : ℕ) (cs : List (Command R)) → k ≤ j → load_of w given (take k cs) ≤ load_of w given (take j cs)
  load-take k j cs h = omega (arith, ap (load_of w given) (take-fewer k j cs h), load_from-append w laws given (outside []) (take k cs) (take (j - k) (drop k cs)))

  pub load-take_all : (k : ℕ) (cs : List (Command R)) → load_of w given (take k cs) ≤ load_of w given cs
  load-take_all k cs = omega (arith, ap (load_of w given) (take-append-drop k cs), load_from-append w laws given (outside []) (take k cs) (drop k cs))

-- one text more
pub gathered-more :
    (before mid now : Option (List ℕ)) (had has text more : List ℕ)
    → IsGathered before mid had text → Gathers mid now had more has → IsGathered before now has (text ++ more)
gathered-more before mid now had has text more out step = record {
  written = out.written ++ step.put;
  told = takes_two before mid now out.written step.put out.told step.took;
  all =
      ap (λ (t : List ℕ). t ++ more) out.all ∙ append_assoc out.written had more ∙ ap (λ (t : List ℕ). out.written ++ t) step.kept ∙ sym (append_assoc out.written step.put has);
}

-- all that was gathered is put, or a part of it
pub gathered-all : (before mid now : Option (List ℕ)) (had text : List ℕ) → IsGathered before mid had text → TakesAll mid now had → TakesAll before now text
gathered-all before mid now had text out took =
    let P : List ℕ → Type 0 = λ t. TakesAll before now t in
    subst P (sym out.all) (takes_two before mid now out.written had out.told took)

pub gathered-part : (before mid now : Option (List ℕ)) (had text : List ℕ) → IsGathered before mid had text → TakesPart mid now had → TakesPart before now text
gathered-part before mid now had text out took =
    let P : List ℕ → Type 0 = λ t. TakesPart before now t in
    subst P (sym out.all) (takes_and_part before mid now out.written had out.told took)

-- where nothing was put, a part of each text was taken
pub takes_none : (told : Option (List ℕ)) (text : List ℕ) → TakesPart told told text
takes_none told text = part_of_more told told [] text (all_is_part told told [] (takes_nothing told))

-- a part of a text that is gathered behind another
pub part-behind : (before mid now : Option (List ℕ)) (had text more : List ℕ) → IsGathered before mid had text → TakesPart mid now (had ++ more) → TakesPart before now (text ++ more)
part-behind before mid now had text more out took =
    let P : List ℕ → Type 0 = λ t. TakesPart before now t in
    subst P (sym (append_assoc out.written had more) ∙ ap (λ (t : List ℕ). t ++ more) (sym out.all)) (takes_and_part before mid now out.written (had ++ more) out.told took)

pub at_least : (before now : Option (List ℕ)) (x y : List ℕ) → TakesAll before now (x ++ y) → TakesAtLeast before now x
at_least None now x y f = f
at_least (Some had) now x y f = (y, f)
