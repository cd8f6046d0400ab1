-- Asks that a front answers in turn: of equal multisets the answers are the same, and one ask more.
use Rattle.std.proofs.Common.{◌≡◌, ℕ, zero, suc, ◌+◌, ◌<◌, ◌≤◌, List, [], ◌∷◌, ◌++◌, length, take, get_or, Option, Some, None, refl, sym, ap, ap₂, ◌∙◌, subst, arith, length-append, length-take, Ordering}
use Rattle.std.specs.declared.cmp.Ordering.TheVariants.{Equal}
use Rattle.std.specs.Cmp.{IsTotalOrder}
use Rattle.std.specs.Prelude.{count_by, Result, Ok, Err, IfOk, IfErr}
use Rattle.std.proofs.lemmas.List.{take_more, take_all}
use Rattle.ppq_pass.specs.ppq_record.Bag.{IsSameBag}
use Rattle.ppq_pass.proofs.ppq_record.Order.{IsSameBag-trans}
use Rattle.ppq_session.proofs.Belows.{least_below-same, without_below-same}
use Rattle.ppq_pass.specs.ppq_outside.Shown.{AllTell}
use Rattle.ppq_pass.specs.ppq_array.Kept.{SameSlots, AreQuiet, all_writes}
use Rattle.ppq_pass.proofs.ppq_spill.SameSlots.{SameSlots-refl, SameSlots-trans}
use Rattle.ppq_pass.specs.ppq_array.declared.store_fault.StoreFault.{StoreFault as QueueFault}
use Rattle.ppq_pass.specs.ppq_array.declared.store_fault.StoreFault.TheVariants.{NoFreeBlock, Device}
use Rattle.ppq_session.specs.Fronts.{FrontHolding, IsFrontRefusal, least_below, number_in}
use Rattle.ppq_session.specs.declared.ask.Ask.{Ask}
use Rattle.ppq_session.specs.declared.ask.Ask.TheVariants.{Top, Pop}
use Rattle.ppq_session.specs.Asks.{pops_by, pops_in, removed_by, removed_in, removed_with, left_by, left_after, answers_to}
use Rattle.ppq_session.specs.Answering.{KeepsFront, HasAnswered}

module _ {R : Type 0} {cmp : R → R → Ordering} (o : IsTotalOrder cmp) (equal : (x y : R) → cmp x y ≡ Equal → x ≡ y) (limit : R) where
  -- of equal multisets what an ask leaves is equal
  left_by-same : (one other : List R) (ask : Ask) → IsSameBag one other → IsSameBag (left_by cmp limit one ask) (left_by cmp limit other ask)
  left_by-same one other Top same = same
  left_by-same one other Pop same = λ p. ap (count_by p) (without_below-same o equal limit one other same)

  pub left_after-same : (one other : List R) (asks : List Ask) → IsSameBag one other → IsSameBag (left_after cmp limit one asks) (left_after cmp limit other asks)
  left_after-same one other [] same = same
  left_after-same one other (ask ∷ asks) same = left_after-same (left_by cmp limit one ask) (left_by cmp limit other ask) asks (left_by-same one other ask same)

  pub answers_to-same : (one other : List R) (asks : List Ask) → IsSameBag one other → answers_to cmp limit one asks ≡ answers_to cmp limit other asks
  answers_to-same one other [] same = refl
  answers_to-same one other (ask ∷ asks) same =
      ap₂ (λ (a : Option R) (xs : List (Option R)). a ∷ xs) (least_below-same o equal limit one other same) (answers_to-same (left_by cmp limit one ask) (left_by cmp limit other ask) asks (left_by-same one other ask same))

module _ {R : Type 0} (cmp : R → R → Ordering) (limit : R) where
  -- one ask more
  left_after-more : (bag : List R) (asks : List Ask) (ask : Ask) → left_after cmp limit bag (asks ++ ask ∷ []) ≡ left_by cmp limit (left_after cmp limit bag asks) ask
  left_after-more bag [] ask = refl
  left_after-more bag (a ∷ asks) ask = left_after-more (left_by cmp limit bag a) asks ask

  answers_to-more : (bag : List R) (asks : List Ask) (ask : Ask) → answers_to cmp limit bag (asks ++ ask ∷ []) ≡ answers_to cmp limit bag asks ++ least_below cmp limit (left_after cmp limit bag asks) ∷ []
  answers_to-more bag [] ask = refl
  answers_to-more bag (a ∷ asks) ask = ap (λ (xs : List (Option R)). least_below cmp limit bag ∷ xs) (answers_to-more (left_by cmp limit bag a) asks ask)

  -- as many answers as asks; the first answers are those of the first asks
  answers_to-length : (bag : List R) (asks : List Ask) → length (answers_to cmp limit bag asks) ≡ length asks
  answers_to-length bag [] = refl
  answers_to-length bag (ask ∷ asks) = ap suc (answers_to-length (left_by cmp limit bag ask) asks)

  answers_to-take : (n : ℕ) (bag : List R) (asks : List Ask) → answers_to cmp limit bag (take n asks) ≡ take n (answers_to cmp limit bag asks)
  answers_to-take zero bag asks = refl
  answers_to-take (suc n) bag [] = refl
  answers_to-take (suc n) bag (ask ∷ asks) = ap (λ (xs : List (Option R)). least_below cmp limit bag ∷ xs) (answers_to-take n (left_by cmp limit bag ask) asks)

module _ {R : Type 0} where
  -- one ask removes a record at the most, and only one for a pop
  removed_by-most : (ask : Ask) (answer : Option R) → removed_by ask answer ≤ pops_by ask
  removed_by-most Top answer = omega arith
  removed_by-most Pop None = omega arith
  removed_by-most Pop (Some r) = omega arith

  pub removed_in-most : (asks : List Ask) (answers : List (Option R)) → removed_in asks answers ≤ pops_in asks
  removed_in-most [] answers = omega arith
  removed_in-most (ask ∷ asks) [] = omega arith
  removed_in-most (ask ∷ asks) (answer ∷ answers) = omega (arith, removed_by-most ask answer, removed_in-most asks answers)

  -- one ask more that was answered
  removed_in-more : (asks : List Ask) (answers : List (Option R)) (ask : Ask) (answer : Option R) → length answers ≡ length asks → removed_in (asks ++ ask ∷ []) (answers ++ answer ∷ []) ≡ removed_in asks answers + removed_by ask answer
  removed_in-more [] [] ask answer same = omega arith
  removed_in-more [] (a ∷ answers) ask answer same = absurd (omega arith)
  removed_in-more (a ∷ asks) [] ask answer same = absurd (omega arith)
  removed_in-more (a ∷ asks) (b ∷ answers) ask answer same = omega (arith, removed_in-more asks answers ask answer (omega arith))

  -- asks that have no answer removed nothing
  removed_in-take : (n : ℕ) (asks : List Ask) (answers : List (Option R)) → length answers ≤ n → removed_in (take n asks) answers ≡ removed_in asks answers
  removed_in-take zero [] answers few = refl
  removed_in-take zero (ask ∷ asks) [] few = refl
  removed_in-take zero (ask ∷ asks) (answer ∷ answers) few = absurd (omega arith)
  removed_in-take (suc n) [] answers few = refl
  removed_in-take (suc n) (ask ∷ asks) [] few = refl
  removed_in-take (suc n) (ask ∷ asks) (answer ∷ answers) few = ap (λ m. removed_by ask answer + m) (removed_in-take n asks answers (omega arith))

module _ {S R : Type 0} where
  KeepsFront-refl : (front : FrontHolding S R) → KeepsFront 0 front front
  KeepsFront-refl front = record { rest = refl; total = refl; popped = omega arith; slots = SameSlots-refl front.slots; tells = λ t. t; writes = omega arith }

  KeepsFront-trans : (n m : ℕ) (old mid new : FrontHolding S R) → KeepsFront n old mid → KeepsFront m mid new → KeepsFront (n + m) old new
  KeepsFront-trans n m old mid new one two = record {
    rest = two.rest ∙ ap (λ (f : FrontHolding S R). record f { bag = new.bag; size = new.size; popped = new.popped; slots = new.slots; run_buffers = new.run_buffers; in_extract = new.in_extract; failed = new.failed }) one.rest;
    total = two.total ∙ one.total;
    popped = omega (arith, one.popped, two.popped);
    slots = SameSlots-trans old.slots mid.slots new.slots one.slots two.slots;
    tells = λ t. two.tells (one.tells t);
    writes = omega (arith, one.writes, two.writes);
  }

-- what an ask leaves of a front, whatever its answer
module _ {S R : Type 0} (old new : FrontHolding S R) (slots : SameSlots old.slots new.slots) (tells : AllTell old.slots → AllTell new.slots) (writes : all_writes old.slots ≤ all_writes new.slots) where
  pub kept-pop :
      (result : Result (Option R) QueueFault) → IfOk result (λ answer. new.popped ≡ old.popped + number_in answer) → IfErr result (IsFrontRefusal old new) → new.size + new.popped ≡ old.size + old.popped
      → new ≡ record old { bag = new.bag; size = new.size; popped = new.popped; slots = new.slots; run_buffers = new.run_buffers; in_extract = new.in_extract; failed = new.failed } → KeepsFront (removed_with Pop result) old new
  kept-pop (Ok answer) popped refused total rest = record { rest = rest; total = total; popped = popped; slots = slots; tells = tells; writes = writes }
  kept-pop (Err NoFreeBlock) popped refused total rest = absurd refused
  kept-pop (Err (Device number)) popped refused total rest = record { rest = rest; total = total; popped = omega (arith, refused.popped); slots = slots; tells = tells; writes = writes }

  module _ (rest : new ≡ record old { bag = new.bag; slots = new.slots; run_buffers = new.run_buffers; in_extract = new.in_extract; failed = new.failed }) where
    size_is : new.size ≡ old.size
    size_is = ap (λ (f : FrontHolding S R). f.size) rest

    popped_is : new.popped ≡ old.popped
    popped_is = ap (λ (f : FrontHolding S R). f.popped) rest

    kept-none : KeepsFront 0 old new
    kept-none = record {
      rest = rest ∙ ap₂ (λ (s p : ℕ). record old { bag = new.bag; size = s; popped = p; slots = new.slots; run_buffers = new.run_buffers; in_extract = new.in_extract; failed = new.failed }) (sym size_is) (sym popped_is);
      total = omega (arith, size_is, popped_is);
      popped = omega (arith, popped_is);
      slots = slots;
      tells = tells;
      writes = writes;
    }

    pub kept-top : (result : Result (Option R) QueueFault) → KeepsFront (removed_with Top result) old new
    kept-top (Ok answer) = kept-none
    kept-top (Err fault) = kept-none

-- A front answered these asks, all of them, and met no fault
pub record SoFar {S R : Type 0} (cmp : R → R → Ordering) (asks : List Ask) (answers : List (Option R)) (old new : FrontHolding S R) : Type 0 where
  pub kept : KeepsFront (removed_in asks answers) old new
  pub quiet : AreQuiet old.slots new.slots
  pub sound : new.failed ≡ None
  pub long : length answers ≡ length asks
  pub are : AllTell old.slots → answers ≡ answers_to cmp old.limit old.bag asks
  pub left : AllTell old.slots → IsSameBag new.bag (left_after cmp old.limit old.bag asks)

module _ {S R : Type 0} {cmp : R → R → Ordering} where
  -- no ask yet
  pub answered-none : (answers : List (Option R)) (front : FrontHolding S R) → answers ≡ [] → front.failed ≡ None → SoFar cmp [] answers front front
  answered-none answers front none sound = record { kept = KeepsFront-refl front; quiet = refl; sound = sound; long = ap length none; are = λ t. none; left = λ t p. refl }

  -- one ask more
  pub answered-more :
      IsTotalOrder cmp → ((x y : R) → cmp x y ≡ Equal → x ≡ y) → (asks : List Ask) (i : ℕ) (ask : Ask) (answers all : List (Option R)) (answer : Option R) (old mid new : FrontHolding S R) → all ≡ answers ++ answer ∷ [] → i < length asks → ask ≡ get_or asks i Top
      → SoFar cmp (take i asks) answers old mid → KeepsFront (removed_by ask answer) mid new → AreQuiet mid.slots new.slots → new.failed ≡ None → (AllTell mid.slots → answer ≡ least_below cmp mid.limit mid.bag)
      → (AllTell mid.slots → IsSameBag new.bag (left_by cmp mid.limit mid.bag ask)) → SoFar cmp (take (i + 1) asks) all old new
  answered-more o equal asks i ask answers all answer old mid new pushed l is so_far keeps quiet sound gives leaves =
      let limit = old.limit in
      let limit_is = ap (λ (f : FrontHolding S R). f.limit) so_far.kept.rest in
      let before = take i asks in
      let was = left_after cmp limit old.bag before in
      let more : take (i + 1) asks ≡ before ++ ask ∷ [] = take_more asks i Top l ∙ ap (λ a. before ++ a ∷ []) (sym is) in
      record {
        kept =
            subst (λ n. KeepsFront n old new) (sym (ap₂ (λ (xs : List Ask) (bs : List (Option R)). removed_in xs bs) more pushed ∙ removed_in-more before answers ask answer so_far.long))
            (KeepsFront-trans (removed_in before answers) (removed_by ask answer) old mid new so_far.kept keeps);
        quiet = quiet ∙ so_far.quiet;
        sound = sound;
        long = omega (arith, so_far.long, ap length pushed, ap length more, length-append before (ask ∷ []), length-append answers (answer ∷ []));
        are = λ t.
            let last : answer ≡ least_below cmp limit was = gives (so_far.kept.tells t) ∙ (ap (λ l. least_below cmp l mid.bag) limit_is ∙ least_below-same o equal limit mid.bag was (so_far.left t)) in
            pushed ∙ (ap₂ (λ (xs : List (Option R)) (a : Option R). xs ++ a ∷ []) (so_far.are t) last ∙ (sym (answers_to-more cmp limit old.bag before ask) ∙ ap (answers_to cmp limit old.bag) (sym more)));
        left = λ t.
            let now = subst (λ l. IsSameBag new.bag (left_by cmp l mid.bag ask)) limit_is (leaves (so_far.kept.tells t)) in
            subst (λ bag. IsSameBag new.bag bag) (sym (ap (left_after cmp limit old.bag) more ∙ left_after-more cmp limit old.bag before ask))
            (IsSameBag-trans new.bag (left_by cmp limit mid.bag ask) (left_by cmp limit was ask) now (left_by-same o equal limit mid.bag was ask (so_far.left t)));
      }

  -- all asks were answered
  pub answered-all : (asks : List Ask) (n : ℕ) (answers : List (Option R)) (old new : FrontHolding S R) → length asks ≤ n → SoFar cmp (take n asks) answers old new → HasAnswered cmp asks answers old new
  answered-all asks n answers old new h so_far =
      let all : SoFar cmp asks answers old new = subst (λ xs. SoFar cmp xs answers old new) (take_all n asks h) so_far in
      record {
        kept = all.kept;
        quiet = λ f. all.quiet;
        fewer = omega (arith, all.long);
        all = λ f. all.long;
        are = λ t. all.are t ∙ sym (take_all (length answers) (answers_to cmp old.limit old.bag asks) (omega (arith, all.long, answers_to-length cmp old.limit old.bag asks)));
        left = λ f t. all.left t;
      }

  -- the next ask met a fault
  pub answered-stopped :
      (asks : List Ask) (i : ℕ) (answers : List (Option R)) (old mid new : FrontHolding S R) (fault : QueueFault) → i < length asks → SoFar cmp (take i asks) answers old mid
      → KeepsFront 0 mid new → IsFrontRefusal mid new fault → HasAnswered cmp asks answers old new
  answered-stopped asks i answers old mid new NoFreeBlock l so_far keeps refused = absurd refused
  answered-stopped asks i answers old mid new (Device number) l so_far keeps refused =
      let failed = refused.kept in
      let before = take i asks in
      let long : length answers ≡ i = omega (arith, so_far.long, length-take i asks) in
      record {
        kept =
            let same : removed_in before answers + 0 ≡ removed_in asks answers = omega (arith, removed_in-take i asks answers (omega arith)) in
            subst (λ n. KeepsFront n old new) same (KeepsFront-trans (removed_in before answers) 0 old mid new so_far.kept keeps);
        quiet = λ none. absurd (cc);
        fewer = omega (arith, long);
        all = λ none. absurd (cc);
        are = λ t. so_far.are t ∙ (answers_to-take cmp old.limit i old.bag asks ∙ ap (λ n. take n (answers_to cmp old.limit old.bag asks)) (sym long));
        left = λ none. absurd (cc);
      }
