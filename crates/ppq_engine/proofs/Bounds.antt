-- The greatest and the least size that commands can lead to bound the load and the crest that they lead to.
use Rattle.std.proofs.Common.{◌≡◌, ℕ, ◌+◌, ◌-◌, ◌≤◌, Bool, true, false, List, [], ◌∷◌, ◌++◌, length, drop, min, max, refl, sym, ap, subst, arith, length-append, length-drop}
use Rattle.std.specs.Prelude.{if◌then◌else◌, unwrap_or}
use Rattle.std.specs.List.{AllByRecursion as Each}
use Rattle.std.proofs.lemmas.Bool.{and_parts}
use Rattle.std.proofs.lemmas.List.Sums.{count_by-le-length}
use Rattle.ppq_script.specs.Words.{Words}
use Rattle.ppq_script.specs.ppq_record.Order.{is_before}
use Rattle.ppq_script.specs.ppq_record.Bag.{ascending, size_below}
use Rattle.ppq_script.specs.declared.command.Command.{Command}
use Rattle.ppq_script.specs.declared.command.Command.TheVariants.{Push, Pop, Bulk, Gen, BulkPop, BulkPopLimit, Drain, BulkBegin, BulkPush, BulkEnd, LimitBegin, LimitPush, LimitPop, LimitEnd}
use Rattle.ppq_script.specs.declared.session.Session.{Session}
use Rattle.ppq_script.specs.declared.session.Session.TheVariants.{Outside, InBulk, InLimit}
use Rattle.ppq_script.specs.Sessions.{turn_of, is_outside, may_stand, are_in_place}
use Rattle.ppq_engine.specs.Bounds.{HasLength, IsSized, AreBounds}
use Rattle.ppq_load.specs.Given.{generated_by}
use Rattle.ppq_engine.specs.Loads.{none_go, all_go, size_after, greatest_from, settled_from}
use Rattle.ppq_engine.specs.Output.{State, outside, limited_count, popped_in, after, counted_in, load_from, crest_from}
use Rattle.ppq_engine.proofs.Lines.{length-generated, length-ascending, turns}
use Rattle.ppq_engine.proofs.Orders.{HasLaws}

module _ {R : Type 0} (w : Words R) (laws : HasLaws w) where
  length-without : (bag : List R) (k : ℕ) → length (drop k (ascending w.cmp bag)) ≡ length bag - k
  length-without bag k = omega (arith, length-drop k (ascending w.cmp bag), length-ascending w laws bag)

  -- no more are popped below a limit than there are
  below-le : (bag : List R) (limit : R) → size_below w.cmp bag limit ≤ length bag
  below-le bag limit = count_by-le-length (λ x. is_before w.cmp x limit) bag

  popped-le : (session : Session R) (bag : List R) → popped_in w session bag ≤ min 1 (length bag)
  popped-le Outside bag = omega arith
  popped-le InBulk bag = omega arith
  popped-le (InLimit limit) bag = omega (arith, below-le bag limit)

module _ {R : Type 0} (w : Words R) (laws : HasLaws w) (given : ℕ → List R) where
  length-gen : (seed count : ℕ) (bag : List R) → length (generated_by w.COUNT w.of_fields seed count ++ bag) ≡ count + length bag
  length-gen seed count bag = omega (arith, length-generated w.COUNT w.of_fields seed seed 0 count, length-append (generated_by w.COUNT w.of_fields seed count) bag)

  -- outside a session nothing that was popped counts
  abbrev IsClosed : State R → Type 0
  IsClosed s = is_outside s.session ≡ true → s.popped ≡ 0

  closed-after : (s : State R) (c : Command R) → IsClosed s → IsClosed (after w given s c)
  closed-after s BulkBegin closed = λ e. refl
  closed-after s BulkEnd closed = λ e. refl
  closed-after s (LimitBegin limit) closed = λ e. refl
  closed-after s LimitEnd closed = λ e. refl
  closed-after s LimitPop closed = closed-popped s.session s.popped s.bag closed where
    closed-popped : (session : Session R) (popped : ℕ) (bag : List R) → (is_outside session ≡ true → popped ≡ 0) → is_outside session ≡ true → popped + popped_in w session bag ≡ 0
    closed-popped Outside popped bag closed e = omega (arith, closed e)
    closed-popped InBulk popped bag closed e = cc
    closed-popped (InLimit limit) popped bag closed e = cc
  closed-after s _ closed = closed

  -- a command brings no more than it may
  most-after : (workers : ℕ) (s : State R) (size : ℕ) (c : Command R) → may_stand w workers s.session c ≡ true → HasLength w given c → IsClosed s → counted_in w given s ≤ size → counted_in w given (after w given s c) ≤ size_after w none_go size c
  most-after workers s size (Push item) stands long closed few = omega (arith, few)
  most-after workers s size Pop stands long closed few = omega (arith, few, closed stands, length-without w laws s.bag 1)
  most-after workers s size (Bulk file bytes) stands long closed few = omega (arith, few, long file bytes refl, length-append (given file) s.bag)
  most-after workers s size (Gen seed count) stands long closed few = omega (arith, few, length-gen seed count s.bag)
  most-after workers s size (BulkPop count) stands long closed few = omega (arith, few, closed stands, length-without w laws s.bag count)
  most-after workers s size (BulkPopLimit limit count) stands long closed few = omega (arith, few, length-without w laws s.bag (limited_count w s.bag limit count))
  most-after workers s size (Drain count) stands long closed few = omega (arith, few, closed stands, length-without w laws s.bag count)
  most-after workers s size BulkBegin stands long closed few = omega (arith, few)
  most-after workers s size (BulkPush pass item) stands long closed few = omega (arith, few)
  most-after workers s size BulkEnd stands long closed few = omega (arith, few)
  most-after workers s size (LimitBegin limit) stands long closed few = omega (arith, few)
  most-after workers s size (LimitPush pass item) stands long closed few = omega (arith, few)
  most-after workers s size LimitPop stands long closed few = omega (arith, few, length-without w laws s.bag (popped_in w s.session s.bag), popped-le w laws s.session s.bag)
  most-after workers s size LimitEnd stands long closed few = omega (arith, few)
  most-after workers s size _ stands long closed few = few

  load-le : (workers : ℕ) (s : State R) (size : ℕ) (cs : List (Command R)) → are_in_place w workers s.session cs ≡ true → Each (HasLength w given) cs → IsClosed s → counted_in w given s ≤ size → load_from w given s cs ≤ greatest_from w none_go size cs
  load-le workers s size [] place long closed few = omega arith
  load-le workers s size (c ∷ cs) place long closed few =
      let next = after w given s c in
      let parts = and_parts (may_stand w workers s.session c) (are_in_place w workers (unwrap_or (turn_of c) s.session) cs) place in
      let Place : Session R → Type 0 = λ t. are_in_place w workers t cs ≡ true in
      let step = most-after workers s size c parts.0 long.0 closed few in
      omega (arith, step, load-le workers next (size_after w none_go size c) cs (subst Place (sym (turns w laws given s c)) parts.1) long.1 (closed-after s c closed) step)

  -- and leaves no fewer
  least-after : (s : State R) (size : ℕ) (c : Command R) → HasLength w given c → size ≤ length s.bag → size_after w all_go size c ≤ length (after w given s c).bag
  least-after s size (Push item) long some = omega (arith, some)
  least-after s size Pop long some = omega (arith, some, length-without w laws s.bag 1)
  least-after s size (Bulk file bytes) long some = omega (arith, some, long file bytes refl, length-append (given file) s.bag)
  least-after s size (Gen seed count) long some = omega (arith, some, length-gen seed count s.bag)
  least-after s size (BulkPop count) long some = omega (arith, some, length-without w laws s.bag count)
  least-after s size (BulkPopLimit limit count) long some = omega (arith, some, length-without w laws s.bag (limited_count w s.bag limit count))
  least-after s size (Drain count) long some = omega (arith, some, length-without w laws s.bag count)
  least-after s size (BulkPush pass item) long some = omega (arith, some)
  least-after s size (LimitPush pass item) long some = omega (arith, some)
  least-after s size LimitPop long some = omega (arith, some, length-without w laws s.bag (popped_in w s.session s.bag), popped-le w laws s.session s.bag)
  least-after s size _ long some = some

  at-least : (b : Bool) (m n : ℕ) → m ≤ n → (if b then m else 0) ≤ (if b then n else 0)
  at-least true m n h = h
  at-least false m n h = omega arith

  -- outside a session, in both readings of it
  crest-ge : (s : State R) (size : ℕ) (cs : List (Command R)) → Each (HasLength w given) cs → size ≤ length s.bag → settled_from w all_go size s.session cs ≤ crest_from w given s cs
  crest-ge s size [] long some = omega arith
  crest-ge s size (c ∷ cs) long some =
      let next = after w given s c in
      let less = size_after w all_go size c in
      let step = least-after s size c long.0 some in
      let Rest : Session R → Type 0 = λ t. settled_from w all_go less t cs ≤ crest_from w given next cs in
      let rest = subst Rest (turns w laws given s c) (crest-ge next less cs long.1 step) in
      let Here : Session R → Type 0 = λ t. (if is_outside t then less else 0) ≤ (if is_outside next.session then length next.bag else 0) in
      let here = subst Here (turns w laws given s c) (at-least (is_outside next.session) less (length next.bag) step) in
      omega (arith, rest, here)

  -- the crest is no more than the load
  some-le : (b : Bool) (m n : ℕ) → m ≤ n → (if b then m else 0) ≤ n
  some-le true m n h = h
  some-le false m n h = omega arith

  crest-le : (s : State R) (cs : List (Command R)) → crest_from w given s cs ≤ load_from w given s cs
  crest-le s [] = omega arith
  crest-le s (c ∷ cs) = let next = after w given s c in omega (arith, crest-le next cs, some-le (is_outside next.session) (length next.bag) (counted_in w given next) (omega arith))

  -- without pops below a limit both are exact
  pub record IsExact (s : State R) (size : ℕ) : Type 0 where
    pub size_is : length s.bag ≡ size
    pub none : s.popped ≡ 0

  exact-after : (leaves : ℕ → ℕ → ℕ) (s : State R) (size : ℕ) (c : Command R) → IsSized c → HasLength w given c → IsExact s size → IsExact (after w given s c) (size_after w leaves size c)
  exact-after leaves s size (Push item) keeps long is = record { size_is = omega (arith, is.size_is); none = is.none }
  exact-after leaves s size Pop keeps long is = record { size_is = omega (arith, is.size_is, length-without w laws s.bag 1); none = is.none }
  exact-after leaves s size (Bulk file bytes) keeps long is = record { size_is = omega (arith, is.size_is, long file bytes refl, length-append (given file) s.bag); none = is.none }
  exact-after leaves s size (Gen seed count) keeps long is = record { size_is = omega (arith, is.size_is, length-gen seed count s.bag); none = is.none }
  exact-after leaves s size (BulkPop count) keeps long is = record { size_is = omega (arith, is.size_is, length-without w laws s.bag count); none = is.none }
  exact-after leaves s size (BulkPopLimit limit count) keeps long is = absurd (keeps.0 limit count refl)
  exact-after leaves s size (Drain count) keeps long is = record { size_is = omega (arith, is.size_is, length-without w laws s.bag count); none = is.none }
  exact-after leaves s size BulkBegin keeps long is = record { size_is = is.size_is; none = refl }
  exact-after leaves s size (BulkPush pass item) keeps long is = record { size_is = omega (arith, is.size_is); none = is.none }
  exact-after leaves s size BulkEnd keeps long is = record { size_is = is.size_is; none = refl }
  exact-after leaves s size (LimitBegin limit) keeps long is = record { size_is = is.size_is; none = refl }
  exact-after leaves s size (LimitPush pass item) keeps long is = record { size_is = omega (arith, is.size_is); none = is.none }
  exact-after leaves s size LimitPop keeps long is = absurd (keeps.1 refl)
  exact-after leaves s size LimitEnd keeps long is = record { size_is = is.size_is; none = refl }
  exact-after leaves s size _ keeps long is = is

  load-is : (s : State R) (size : ℕ) (cs : List (Command R)) → Each IsSized cs → Each (HasLength w given) cs → IsExact s size → greatest_from w none_go size cs ≡ load_from w given s cs
  load-is s size [] keeps long is = refl
  load-is s size (c ∷ cs) keeps long is =
      let next = exact-after none_go s size c keeps.0 long.0 is in
      omega (arith, next.size_is, next.none, load-is (after w given s c) (size_after w none_go size c) cs keeps.1 long.1 next)

  crest-is : (s : State R) (size : ℕ) (cs : List (Command R)) → Each IsSized cs → Each (HasLength w given) cs → IsExact s size → settled_from w all_go size s.session cs ≡ crest_from w given s cs
  crest-is s size [] keeps long is = refl
  crest-is s size (c ∷ cs) keeps long is =
      let next = after w given s c in
      let less = size_after w all_go size c in
      let step = exact-after all_go s size c keeps.0 long.0 is in
      let Is : Session R → Type 0 = λ t. max (if is_outside t then less else 0) (settled_from w all_go less t cs) ≡ crest_from w given s (c ∷ cs) in
      let here : (if is_outside next.session then less else 0) ≡ (if is_outside next.session then length next.bag else 0) = ap (λ (n : ℕ). if is_outside next.session then n else 0) (sym step.size_is) in
      subst Is (turns w laws given s c) (omega (arith, here, crest-is next less cs keeps.1 long.1 step))

  pub bounds : (workers : ℕ) (commands : List (Command R)) → are_in_place w workers Outside commands ≡ true → Each (HasLength w given) commands → AreBounds w given commands
  bounds workers commands place long =
      let nothing : IsExact (outside []) 0 = record { size_is = refl; none = refl } in
      record {
        most = load-le workers (outside []) 0 commands place long (λ e. refl) (omega arith);
        least = crest-ge (outside []) 0 commands long (omega arith);
        crest = crest-le (outside []) commands;
        most_is = λ keeps. load-is (outside []) 0 commands keeps long nothing;
        least_is = λ keeps. crest-is (outside []) 0 commands keeps long nothing;
      }
