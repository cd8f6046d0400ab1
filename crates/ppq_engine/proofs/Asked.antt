-- Lines of a limit session, one after the other: what they print, the multiset that they leave, and sizes.
use Rattle.std.proofs.Common.{◌≡◌, ℕ, suc, ◌+◌, ◌-◌, ◌≤◌, true, false, not, nat_lt, List, [], ◌∷◌, ◌++◌, All, length, Option, refl, sym, ap, ap₂, ◌∙◌, arith, append_assoc, append-nil}
use Rattle.std.specs.Prelude.{count_by}
use Rattle.std.proofs.lemmas.Bool.{and_parts, not-true}
use Rattle.std.proofs.lemmas.List.Elements.{All-nil, All-cons, All-append}
use Rattle.ppq_script.specs.Words.{Words}
use Rattle.ppq_engine.proofs.Orders.{HasLaws}
use Rattle.ppq_script.specs.declared.form.Form.{Form}
use Rattle.ppq_script.specs.ppq_record.Order.{is_before}
use Rattle.ppq_script.specs.ppq_record.Bag.{IsSameBag, without_front}
use Rattle.ppq_script.proofs.ppq_record.Order.{count_by-cons, count_by-append, Each-append}
use Rattle.ppq_script.specs.declared.command.Command.{Command}
use Rattle.ppq_script.specs.declared.command.Command.TheVariants.{BulkPush, LimitPush, LimitTop, LimitPop}
use Rattle.ppq_script.specs.declared.session.Session.TheVariants.{InLimit}
use Rattle.ppq_script.specs.Parts.{AreLines}
use Rattle.ppq_script.specs.Sessions.{may_stand}
use Rattle.ppq_load.specs.ppq_session.declared.line.Line.{Line}
use Rattle.ppq_load.specs.ppq_session.Fronts.{least_below}
use Rattle.ppq_load.specs.ppq_session.declared.ask.Ask.{Ask}
use Rattle.ppq_load.specs.ppq_session.declared.ask.Ask.TheVariants as ask
use Rattle.ppq_load.specs.ppq_session.Asks.{pops_in, left_by, left_after, answers_to}
use Rattle.ppq_engine.specs.Loads.{none_go, all_go, size_from}
use Rattle.ppq_engine.specs.Output.{State, limited_count, limited_text, state_from, output_from}
use Rattle.ppq_engine.specs.Pushes.{line_by, lines_in, pushed_in}
use Rattle.ppq_engine.specs.Limits.{asks_in, answers_text}
use Rattle.ppq_engine.proofs.Below.{NoneBelow, least-beside, left-beside}

-- asks behind others
pub pops_in-append : (one other : List Ask) → pops_in (one ++ other) ≡ pops_in one + pops_in other
pops_in-append [] other = omega arith
pops_in-append (a ∷ one) other = omega (arith, pops_in-append one other)

module _ {R : Type 0} (w : Words R) (limit : R) where
  pub left_after-append : (left : List R) (one other : List Ask) → left_after w.cmp limit left (one ++ other) ≡ left_after w.cmp limit (left_after w.cmp limit left one) other
  left_after-append left [] other = refl
  left_after-append left (a ∷ one) other = left_after-append (left_by w.cmp limit left a) one other

  pub answers_to-append : (left : List R) (one other : List Ask) → answers_to w.cmp limit left (one ++ other) ≡ answers_to w.cmp limit left one ++ answers_to w.cmp limit (left_after w.cmp limit left one) other
  answers_to-append left [] other = refl
  answers_to-append left (a ∷ one) other = ap (λ (xs : List (Option R)). least_below w.cmp limit left ∷ xs) (answers_to-append (left_by w.cmp limit left a) one other)

  pub length-answers_to : (left : List R) (asks : List Ask) → length (answers_to w.cmp limit left asks) ≡ length asks
  length-answers_to left [] = refl
  length-answers_to left (a ∷ asks) = ap suc (length-answers_to (left_by w.cmp limit left a) asks)

-- what there is in a limit session
abbrev pub inside : {R : Type 0} → R → List R → ℕ → State R
inside limit bag popped = record { bag = bag; session = InLimit limit; popped = popped }

module _ {R : Type 0} (w : Words R) (laws : HasLaws w) (workers : ℕ) (limit : R) where
  -- a record that is pushed is not below the limit
  not_below : (pass : ℕ) (item : R) → may_stand w workers (InLimit limit) (LimitPush pass item) ≡ true → is_before w.cmp item limit ≡ false
  not_below pass item stands = let low = is_before w.cmp item limit in not-true low (and_parts (not low) (nat_lt pass workers) stands).0

  abbrev IsAbove : Line R → Type 0
  IsAbove line = is_before w.cmp line.record limit ≡ false

  line-above : (c : Command R) → may_stand w workers (InLimit limit) c ≡ true → All IsAbove (line_by c)
  line-above (BulkPush pass item) stands = cc
  line-above (LimitPush pass item) stands = All-cons IsAbove (record { pass = pass; «record» = item }) [] (not_below pass item stands) (All-nil IsAbove)
  line-above _ stands = All-nil IsAbove

  pub lines-above : (cs : List (Command R)) → AreLines w workers (InLimit limit) cs → All IsAbove (lines_in cs)
  lines-above [] are = All-nil IsAbove
  lines-above (c ∷ cs) are = All-append IsAbove (line_by c) (lines_in cs) (line-above c are.0.stands) (lines-above cs are.1)

  -- no pop goes: the size gains what they push
  pub lines-high : (n : ℕ) (cs : List (Command R)) → AreLines w workers (InLimit limit) cs → size_from w none_go n cs ≡ n + length (pushed_in cs)
  lines-high n [] are = omega arith
  lines-high n (LimitPush pass item ∷ cs) are = omega (arith, lines-high (n + 1) cs are.1)
  lines-high n (LimitTop ∷ cs) are = lines-high n cs are.1
  lines-high n (LimitPop ∷ cs) are = lines-high n cs are.1
  lines-high n (_ ∷ cs) are = let h = are.0.stands in let k = are.0.stays in cc

  -- all go
  pub lines-low : (n : ℕ) (cs : List (Command R)) → AreLines w workers (InLimit limit) cs → size_from w all_go n cs ≤ (n - pops_in (asks_in cs)) + length (pushed_in cs)
  lines-low n [] are = omega arith
  lines-low n (LimitPush pass item ∷ cs) are = omega (arith, lines-low (n + 1) cs are.1)
  lines-low n (LimitTop ∷ cs) are = omega (arith, lines-low n cs are.1)
  lines-low n (LimitPop ∷ cs) are = omega (arith, lines-low (n - 1) cs are.1)
  lines-low n (_ ∷ cs) are = let h = are.0.stands in let k = are.0.stays in cc

  -- what was pushed before, none of it below the limit, stands in the multiset beside what the asks see
  push-none : (pass : ℕ) (item : R) (added : List R) → may_stand w workers (InLimit limit) (LimitPush pass item) ≡ true → NoneBelow w laws limit added → NoneBelow w laws limit (added ++ item ∷ [])
  push-none pass item added stands none = Each-append (λ (x : R). is_before w.cmp x limit ≡ false) added (item ∷ []) none (not_below pass item stands, tt)

  push-same : (item : R) (added left bag : List R) → IsSameBag bag (added ++ left) → IsSameBag (item ∷ bag) ((added ++ item ∷ []) ++ left)
  push-same item added left bag same p =
      omega (arith, same p, count_by-cons p item bag, count_by-append p added left, count_by-append p (added ++ item ∷ []) left, count_by-append p added (item ∷ []), count_by-cons p item [])

  module _ (given : ℕ → List R) where
    -- lines print the answers to what they ask, whatever they push
    pub lines-output :
        (form : Form) (added left bag : List R) (popped : ℕ) (cs : List (Command R)) → AreLines w workers (InLimit limit) cs → NoneBelow w laws limit added → IsSameBag bag (added ++ left)
        → output_from w form given (inside limit bag popped) cs ≡ answers_text w form (answers_to w.cmp limit left (asks_in cs))
    lines-output form added left bag popped [] are none same = refl
    lines-output form added left bag popped (LimitPush pass item ∷ cs) are none same =
        lines-output form (added ++ item ∷ []) left (item ∷ bag) popped cs are.1 (push-none pass item added are.0.stands none) (push-same item added left bag same)
    lines-output form added left bag popped (LimitTop ∷ cs) are none same =
        ap₂ (λ (t u : List ℕ). t ++ u) (ap (limited_text w form) (least-beside w laws limit bag added left none same)) (lines-output form added left bag popped cs are.1 none same)
    lines-output form added left bag popped (LimitPop ∷ cs) are none same =
        let n = limited_count w bag limit 1 in
        ap₂ (λ (t u : List ℕ). t ++ u) (ap (limited_text w form) (least-beside w laws limit bag added left none same))
        (lines-output form added (left_by w.cmp limit left ask.Pop) (without_front w.cmp bag n) (popped + n) cs are.1 none (left-beside w laws limit bag added left none same))
    lines-output form added left bag popped (_ ∷ cs) are none same = let h = are.0.stands in let k = are.0.stays in cc

    -- and they leave what they push beside what the asks leave
    pub lines-bag :
        (added left bag : List R) (popped : ℕ) (cs : List (Command R)) → AreLines w workers (InLimit limit) cs → NoneBelow w laws limit added → IsSameBag bag (added ++ left)
        → IsSameBag (state_from w given (inside limit bag popped) cs).bag ((added ++ pushed_in cs) ++ left_after w.cmp limit left (asks_in cs))
    lines-bag added left bag popped [] are none same p = same p ∙ ap (λ (xs : List R). count_by p (xs ++ left)) (sym (append-nil added))
    lines-bag added left bag popped (LimitPush pass item ∷ cs) are none same p =
        lines-bag (added ++ item ∷ []) left (item ∷ bag) popped cs are.1 (push-none pass item added are.0.stands none) (push-same item added left bag same) p
        ∙ ap (λ (xs : List R). count_by p (xs ++ left_after w.cmp limit left (asks_in cs))) (append_assoc added (item ∷ []) (pushed_in cs))
    lines-bag added left bag popped (LimitTop ∷ cs) are none same p = lines-bag added left bag popped cs are.1 none same p
    lines-bag added left bag popped (LimitPop ∷ cs) are none same p =
        let n = limited_count w bag limit 1 in
        lines-bag added (left_by w.cmp limit left ask.Pop) (without_front w.cmp bag n) (popped + n) cs are.1 none (left-beside w laws limit bag added left none same) p
    lines-bag added left bag popped (_ ∷ cs) are none same p = let h = are.0.stands in let k = are.0.stays in cc
