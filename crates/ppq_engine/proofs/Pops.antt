-- A drain, and a bulk pop, remove what pops remove one by one.
use Rattle.std.proofs.Common.{◌≡◌, ℕ, zero, suc, ◌+◌, ◌-◌, ◌≤◌, List, [], ◌∷◌, ◌++◌, length, take, drop, refl, sym, ap, ◌∙◌, arith, length-drop}
use Rattle.std.specs.Prelude.{count_by}
use Rattle.std.proofs.lemmas.List.{drop-drop}
use Rattle.ppq_script.specs.Words.{Words}
use Rattle.ppq_script.specs.ppq_record.Order.{is_before}
use Rattle.ppq_script.specs.ppq_record.Bag.{IsSameBag, ascending, front, without_front, least, first_of}
use Rattle.ppq_script.proofs.ppq_record.Order.{in_order-same_bag}
use Rattle.ppq_script.proofs.ppq_record.Fronts.{ranks}
use Rattle.ppq_script.specs.declared.form.Form.{Form}
use Rattle.ppq_engine.specs.Output.{outside, records_text, least_text, summary_text, state_from, output_from}
use Rattle.ppq_engine.specs.Pops.{with_first, pops, popped_by, left_by, DrainsAsPops}
use Rattle.ppq_engine.proofs.Lines.{length-ascending}
use Rattle.ppq_engine.proofs.Orders.{HasLaws}
use Rattle.ppq_engine.proofs.Popped.{left_is}

-- the first of a list in front of some of the rest
first-take : {X : Type 0} (xs : List X) (n : ℕ) → with_first (first_of (take 1 xs)) (take n (drop 1 xs)) ≡ take (suc n) xs
first-take [] zero = refl
first-take [] (suc n) = refl
first-take (x ∷ xs) n = refl

-- the text of the first of a list, and those of some of the rest
first-text : {R : Type 0} (w : Words R) (form : Form) (xs : List R) (n : ℕ) → suc n ≤ length xs → least_text w form (first_of (take 1 xs)) ++ records_text w form (take n (drop 1 xs)) ≡ records_text w form (take (suc n) xs)
first-text w form [] n some = absurd (omega (arith, some))
first-text w form (x ∷ xs) n some = refl

module _ {R : Type 0} (w : Words R) (laws : HasLaws w) where
  -- what one pop leaves is in order the rest of the records in order
  next-order : (bag : List R) → ascending w.cmp (without_front w.cmp bag 1) ≡ drop 1 (ascending w.cmp bag)
  next-order bag = left_is w laws (without_front w.cmp bag 1) bag 1 (λ p. refl)

  pub popped-front : (bag : List R) (n : ℕ) → popped_by w bag n ≡ front w.cmp bag n
  popped-front bag zero = refl
  popped-front bag (suc n) =
      ap (λ (t : List R). with_first (least w.cmp bag) t) (popped-front (without_front w.cmp bag 1) n ∙ ap (take n) (next-order bag)) ∙ first-take (ascending w.cmp bag) n

  pub left-front : (bag : List R) (n : ℕ) → IsSameBag (left_by w bag n) (without_front w.cmp bag n)
  left-front bag zero p = sym (in_order-same_bag (is_before w.cmp) (ranks laws.order) bag p)
  left-front bag (suc n) p =
      let more : 1 + n ≡ suc n = omega arith in
      left-front (without_front w.cmp bag 1) n p ∙ ap (λ (t : List R). count_by p (drop n t)) (next-order bag) ∙ ap (count_by p) (drop-drop n 1 (ascending w.cmp bag) ∙ ap (λ (k : ℕ). drop k (ascending w.cmp bag)) more)

  module _ (given : ℕ → List R) where
    -- by commands
    pub pops-left : (bag : List R) (n : ℕ) → state_from w given (outside bag) (pops n) ≡ outside (left_by w bag n)
    pops-left bag zero = refl
    pops-left bag (suc n) = pops-left (without_front w.cmp bag 1) n

    -- of so many records as there are, each pop prints the next
    pub pops-text : (form : Form) (bag : List R) (n : ℕ) → n ≤ length bag → output_from w form given (outside bag) (pops n) ≡ records_text w form (front w.cmp bag n)
    pops-text form bag zero few = refl
    pops-text form bag (suc n) few =
        let xs = ascending w.cmp bag in
        let some : suc n ≤ length xs = omega (arith, few, length-ascending w laws bag) in
        let left = without_front w.cmp bag 1 in
        let rest : n ≤ length left = omega (arith, some, length-drop 1 xs) in
        ap (λ (t : List ℕ). least_text w form (least w.cmp bag) ++ t) (pops-text form left n rest ∙ ap (λ (t : List R). records_text w form (take n t)) (next-order bag)) ∙ first-text w form xs n some

  pub drains-as-pops : (bag : List R) (n : ℕ) → DrainsAsPops w bag n
  drains-as-pops bag n = record {
    popped = sym (popped-front bag n);
    left = λ p. sym (left-front bag n p);
    summary = λ form. ap (summary_text w form) (sym (popped-front bag n));
    by_pops = λ given. pops-left given bag n;
    texts = λ form given few. pops-text given form bag n few;
  }
