-- What the commands that run together do: how the multiset grows with them, what counts, and what they print.
use Rattle.std.proofs.Common.{◌≡◌, ℕ, zero, suc, ◌+◌, ◌-◌, ◌≤◌, Bool, true, false, List, [], ◌∷◌, ◌++◌, length, take, drop, max, Option, None, refl, sym, ap, ap₂, ◌∙◌, subst, arith, length-append, length-drop, take-append-drop}
use Rattle.std.specs.Prelude.{if◌then◌else◌, unwrap_or, ◌||◌, count_by}
use Rattle.std.proofs.Math.Bool.{or_assoc}
use Rattle.std.proofs.Math.Seq.{take-nil}
use Rattle.std.proofs.lemmas.Bool.{or_parts}
use Rattle.std.proofs.lemmas.List.Sums.{count_by-le-length}
use Rattle.ppq_script.specs.Words.{Words}
use Rattle.ppq_engine.proofs.Orders.{HasLaws}
use Rattle.ppq_script.specs.declared.form.Form.{Form}
use Rattle.ppq_script.specs.ppq_record.Order.{is_before}
use Rattle.ppq_script.specs.ppq_record.Bag.{IsSameBag, ascending, without_front}
use Rattle.ppq_script.specs.ppq_record.Given.{next_seed}
use Rattle.ppq_load.specs.Given.{generated_by, generated_from_by}
use Rattle.ppq_script.proofs.ppq_record.Order.{count_by-cons, count_by-append, in_order-same_bag, IsSameBag-length}
use Rattle.ppq_script.proofs.ppq_record.Fronts.{ranks}
use Rattle.ppq_script.specs.declared.command.Command.{Command}
use Rattle.ppq_script.specs.declared.command.Command.TheVariants.{Push, Bulk, Gen, BulkBegin, BulkPush, BulkEnd, LimitBegin, LimitPush, LimitTop, LimitPop, LimitEnd}
use Rattle.ppq_script.specs.declared.part.Part.{Part}
use Rattle.ppq_script.specs.declared.part.Part.TheVariants as part
use Rattle.ppq_script.specs.declared.session.Session.{Session}
use Rattle.ppq_script.specs.declared.session.Session.TheVariants.{Outside, InBulk, InLimit}
use Rattle.ppq_script.specs.Parts.{IsLine, AreLines, bulk_part, limit_part, commands_of, commands_in, first_in, HasItsLines}
use Rattle.ppq_script.specs.Sessions.{turn_of, is_outside, may_stand}
use Rattle.ppq_engine.specs.Bounds.{HasLength}
use Rattle.ppq_engine.specs.Loads.{none_go, size_after, size_from, settled_from, is_limit_begin, begins_limit}
use Rattle.ppq_engine.specs.Output.{State, outside, limited_count, after, state_from, output_from, counted_in, load_from, crest_from}
use Rattle.ppq_engine.specs.Pushes.{pushed_in}
use Rattle.ppq_engine.proofs.Running.{state_from-append, output_from-append, crest_from-append, take-fewer}

-- the session behind commands, the first in this session
abbrev pub session_from : {R : Type 0} → Session R → List (Command R) → Session R
session_from session [] = session
session_from session (c ∷ cs) = session_from (unwrap_or (turn_of c) session) cs

pub session_from-append : {R : Type 0} (session : Session R) (cs ds : List (Command R)) → session_from session (cs ++ ds) ≡ session_from (session_from session cs) ds
session_from-append session [] ds = refl
session_from-append session (c ∷ cs) ds = session_from-append (unwrap_or (turn_of c) session) cs ds

-- whether a limit session was begun
pub begins-append : {R : Type 0} (cs ds : List (Command R)) → begins_limit (cs ++ ds) ≡ (begins_limit cs || begins_limit ds)
begins-append [] ds = refl
begins-append (c ∷ cs) ds = ap (λ b. is_limit_begin c || b) (begins-append cs ds) ∙ sym (or_assoc (is_limit_begin c) (begins_limit cs) (begins_limit ds))

-- where none of the commands begins one, none of the first of them does
begins-first : {R : Type 0} (cs ds : List (Command R)) → begins_limit (cs ++ ds) ≡ false → begins_limit cs ≡ false
begins-first cs ds e = (or_parts (begins_limit cs) (begins_limit ds) (sym (begins-append cs ds) ∙ e)).0

pub begins-take : {R : Type 0} (k j : ℕ) (cs : List (Command R)) → k ≤ j → begins_limit (take j cs) ≡ false → begins_limit (take k cs) ≡ false
begins-take k j cs h e = begins-first (take k cs) (take (j - k) (drop k cs)) (ap begins_limit (sym (take-fewer k j cs h)) ∙ e)

pub begins-take_all : {R : Type 0} (k : ℕ) (cs : List (Command R)) → begins_limit cs ≡ false → begins_limit (take k cs) ≡ false
begins-take_all k cs e = begins-first (take k cs) (drop k cs) (ap begins_limit (take-append-drop k cs) ∙ e)

module _ {R : Type 0} (w : Words R) (leaves : ℕ → ℕ → ℕ) where
  pub size_from-append : (size : ℕ) (cs ds : List (Command R)) → size_from w leaves size (cs ++ ds) ≡ size_from w leaves (size_from w leaves size cs) ds
  size_from-append size [] ds = refl
  size_from-append size (c ∷ cs) ds = size_from-append (size_after w leaves size c) cs ds

  pub settled_from-append : (size : ℕ) (session : Session R) (cs ds : List (Command R)) → settled_from w leaves size session (cs ++ ds) ≡ max (settled_from w leaves size session cs) (settled_from w leaves (size_from w leaves size cs) (session_from session cs) ds)
  settled_from-append size session [] ds = omega arith
  settled_from-append size session (c ∷ cs) ds = omega (arith, settled_from-append (size_after w leaves size c) (unwrap_or (turn_of c) session) cs ds)

-- a value or none of it is no more than the value
if-le : (b : Bool) (n : ℕ) → (if b then n else 0) ≤ n
if-le true n = omega arith
if-le false n = omega arith

-- the states in a session
abbrev in_bulk : {R : Type 0} → List R → State R
in_bulk bag = record { bag = bag; session = InBulk; popped = 0 }

abbrev in_limit : {R : Type 0} → R → List R → State R
in_limit limit bag = record { bag = bag; session = InLimit limit; popped = 0 }

-- of so many lines some print nothing yet: the first of a list with its rest cut
cut-nil : {R : Type 0} (P : List (Command R) → Type 0) (n : ℕ) → P [] → P (take n [])
cut-nil P n p = subst P (sym (take-nil n)) p

pub part-outside : {R : Type 0} (w : Words R) (p : Part R) (workers : ℕ) → HasItsLines w workers p → session_from Outside (commands_in p) ≡ Outside
part-outside {R} w (part.One c) workers is = ap (λ (t : Option (Session R)). unwrap_or t Outside) is.stays
part-outside w (part.Bulk lines) workers are = session_from-append InBulk (commands_of lines.now) (BulkEnd ∷ [])
part-outside w (part.Limit limit lines) workers are = session_from-append (InLimit limit) (commands_of lines.now) (LimitEnd ∷ [])

-- a line begins no session
line-begins : {R : Type 0} (c : Command R) → turn_of c ≡ None → is_limit_begin c ≡ false
line-begins (LimitBegin limit) stays = cc
line-begins _ stays = refl

lines-begin : {R : Type 0} (w : Words R) (workers : ℕ) (session : Session R) (cs : List (Command R)) → AreLines w workers session cs → begins_limit cs ≡ false
lines-begin w workers session [] are = refl
lines-begin w workers session (c ∷ cs) are = ap₂ (λ (a b : Bool). a || b) (line-begins c are.0.stays) (lines-begin w workers session cs are.1)

-- nor does one command, or a bulk session, begin a limit session
pub lone-begins : {R : Type 0} (w : Words R) (workers : ℕ) (c : Command R) → IsLine w workers Outside c → begins_limit (c ∷ []) ≡ false
lone-begins w workers c is = lines-begin w workers Outside (c ∷ []) (is, tt)

pub bulk-begins : {R : Type 0} (w : Words R) (workers : ℕ) (cs : List (Command R)) → AreLines w workers InBulk cs → begins_limit (bulk_part cs) ≡ false
bulk-begins w workers cs are = begins-append cs (BulkEnd ∷ []) ∙ ap (λ (b : Bool). b || false) (lines-begin w workers InBulk cs are)

-- where the first of a part begins a limit session, the first of its commands do
pub part-begins : {R : Type 0} (w : Words R) (n : ℕ) (p : Part R) (workers : ℕ) → HasItsLines w workers p → begins_limit (take (n + 1) (commands_in p)) ≡ begins_limit (commands_in p)
part-begins w n (part.One c) workers is = let none = lone-begins w workers c is in begins-take_all (n + 1) (c ∷ []) none ∙ sym none
part-begins w n (part.Bulk lines) workers are = let none = bulk-begins w workers (commands_of lines.now) are in begins-take_all (n + 1) (bulk_part (commands_of lines.now)) none ∙ sym none
part-begins w n (part.Limit limit lines) workers are = let next : n + 1 ≡ suc n = omega arith in ap (λ (m : ℕ). begins_limit (take m (limit_part limit (commands_of lines.now)))) next

module _ {R : Type 0} (w : Words R) (leaves : ℕ → ℕ → ℕ) where
  -- no size in a session counts, and behind it the last one does
  lines-settled : (workers n : ℕ) (session : Session R) (cs : List (Command R)) → is_outside session ≡ false → AreLines w workers session cs → settled_from w leaves n session cs ≡ 0
  lines-settled workers n session [] opened are = refl
  lines-settled workers n session (c ∷ cs) opened are =
      let next = size_after w leaves n c in
      let S : Option (Session R) → ℕ = λ t. let behind = unwrap_or t session in max (if is_outside behind then next else 0) (settled_from w leaves next behind cs) in
      omega (arith, ap S are.0.stays, ap (λ (b : Bool). if b then next else 0) opened, lines-settled workers next session cs opened are.1)

  pub part-settled : (n : ℕ) (p : Part R) (workers : ℕ) → HasItsLines w workers p → settled_from w leaves n Outside (commands_in p) ≤ size_from w leaves n (commands_in p)
  part-settled n (part.One c) workers is = omega (arith, if-le (is_outside (unwrap_or (turn_of c) Outside)) (size_after w leaves n c))
  part-settled n (part.Bulk lines) workers are =
      let cs = commands_of lines.now in
      omega (arith, settled_from-append w leaves n InBulk cs (BulkEnd ∷ []), lines-settled workers n InBulk cs refl are, size_from-append w leaves n cs (BulkEnd ∷ []))
  part-settled n (part.Limit limit lines) workers are =
      let cs = commands_of lines.now in
      omega (arith, settled_from-append w leaves n (InLimit limit) cs (LimitEnd ∷ []), lines-settled workers n (InLimit limit) cs refl are, size_from-append w leaves n cs (LimitEnd ∷ []))

  -- a bulk session adds what it pushes
  pub bulk-size : (workers n : ℕ) (cs : List (Command R)) → AreLines w workers InBulk cs → size_from w leaves n cs ≡ n + length (pushed_in cs)
  bulk-size workers n [] are = omega arith
  bulk-size workers n (BulkPush pass item ∷ cs) are = omega (arith, bulk-size workers (n + 1) cs are.1)
  bulk-size workers n (_ ∷ cs) are = let h = are.0.stands in let k = are.0.stays in cc

  pub bulk-part_size : (workers n : ℕ) (cs : List (Command R)) → AreLines w workers InBulk cs → size_from w leaves n (bulk_part cs) ≡ n + length (pushed_in cs)
  bulk-part_size workers n cs are = size_from-append w leaves n cs (BulkEnd ∷ []) ∙ bulk-size workers n cs are

pub length-generated : {R : Type 0} (count : ℕ) (of_fields : List ℕ → R) (seed x first n : ℕ) → length (generated_from_by count of_fields seed x first n) ≡ n
length-generated count of_fields seed x first zero = refl
length-generated count of_fields seed x first (suc n) = ap suc (length-generated count of_fields seed (next_seed x) (first + 1) n)

pub length-ascending : {R : Type 0} (w : Words R) (laws : HasLaws w) (bag : List R) → length (ascending w.cmp bag) ≡ length bag
length-ascending w laws bag = IsSameBag-length (ascending w.cmp bag) bag (in_order-same_bag (is_before w.cmp) (ranks laws.order) bag)

-- a record that is popped in a limit session still counts
popped-counts : {R : Type 0} (w : Words R) (laws : HasLaws w) (limit : R) (bag : List R) → length (without_front w.cmp bag (limited_count w bag limit 1)) + limited_count w bag limit 1 ≡ length bag
popped-counts w laws limit bag = omega (arith, length-drop (limited_count w bag limit 1) (ascending w.cmp bag), length-ascending w laws bag, count_by-le-length (λ x. is_before w.cmp x limit) bag)

module _ {R : Type 0} (w : Words R) (laws : HasLaws w) (given : ℕ → List R) where
  -- behind a part only the multiset is left
  closed-by : (state : State R) (bag : List R) → state ≡ outside bag → state ≡ outside state.bag
  closed-by state bag e = e ∙ ap (λ (s : State R). outside s.bag) (sym e)

  lone-closed : (bag : List R) (c : Command R) → turn_of c ≡ None → after w given (outside bag) c ≡ outside (after w given (outside bag) c).bag
  lone-closed bag BulkBegin stays = cc
  lone-closed bag (LimitBegin limit) stays = cc
  lone-closed bag _ stays = refl

  pub part-closed : (bag : List R) (p : Part R) (workers : ℕ) → HasItsLines w workers p → state_from w given (outside bag) (commands_in p) ≡ outside (state_from w given (outside bag) (commands_in p)).bag
  part-closed bag (part.One c) workers is = lone-closed bag c is.stays
  part-closed bag (part.Bulk lines) workers are =
      let cs = commands_of lines.now in
      closed-by (state_from w given (in_bulk bag) (cs ++ BulkEnd ∷ [])) (state_from w given (in_bulk bag) cs).bag (state_from-append w laws given (in_bulk bag) cs (BulkEnd ∷ []))
  part-closed bag (part.Limit limit lines) workers are =
      let cs = commands_of lines.now in
      closed-by (state_from w given (in_limit limit bag) (cs ++ LimitEnd ∷ [])) (state_from w given (in_limit limit bag) cs).bag (state_from-append w laws given (in_limit limit bag) cs (LimitEnd ∷ []))

  -- the session behind a command
  pub turns : (state : State R) (c : Command R) → (after w given state c).session ≡ unwrap_or (turn_of c) state.session
  turns state (Push item) = refl
  turns state _ = refl

  stays : (workers : ℕ) (session : Session R) (state : State R) (c : Command R) → IsLine w workers session c → state.session ≡ session → (after w given state c).session ≡ session
  stays workers session state c is same = turns state c ∙ ap (λ (t : Option (Session R)). unwrap_or t state.session) is.stays ∙ same

  -- no multiset outside a session is above the last
  lines-crest : (workers : ℕ) (session : Session R) (state : State R) (cs : List (Command R)) → is_outside session ≡ false → AreLines w workers session cs → state.session ≡ session → crest_from w given state cs ≡ 0
  lines-crest workers session state [] opened are same = refl
  lines-crest workers session state (c ∷ cs) opened are same =
      let behind = after w given state c in
      let n = length behind.bag in
      let next = stays workers session state c are.0 same in
      omega (arith, ap (λ (s : Session R). if is_outside s then n else 0) next, ap (λ (b : Bool). if b then n else 0) opened, lines-crest workers session behind cs opened are.1 next)

  pub part-crest : (bag : List R) (p : Part R) (workers : ℕ) → HasItsLines w workers p → crest_from w given (outside bag) (commands_in p) ≤ length (state_from w given (outside bag) (commands_in p)).bag
  part-crest bag (part.One c) workers is = let behind = after w given (outside bag) c in omega (arith, if-le (is_outside behind.session) (length behind.bag))
  part-crest bag (part.Bulk lines) workers are =
      let cs = commands_of lines.now in
      let over = ap (λ (s : State R). length s.bag) (state_from-append w laws given (in_bulk bag) cs (BulkEnd ∷ [])) in
      omega (arith, crest_from-append w laws given (in_bulk bag) cs (BulkEnd ∷ []), lines-crest workers InBulk (in_bulk bag) cs refl are refl, over)
  part-crest bag (part.Limit limit lines) workers are =
      let cs = commands_of lines.now in
      let over = ap (λ (s : State R). length s.bag) (state_from-append w laws given (in_limit limit bag) cs (LimitEnd ∷ [])) in
      omega (arith, crest_from-append w laws given (in_limit limit bag) cs (LimitEnd ∷ []), lines-crest workers (InLimit limit) (in_limit limit bag) cs refl are refl, over)

  -- what a line of a session brings counts, and what is popped there counts still
  line-counts : (workers popped : ℕ) (session : Session R) (bag : List R) (c : Command R) → is_outside session ≡ false → may_stand w workers session c ≡ true → turn_of c ≡ None
      → size_after w none_go (length bag + popped) c ≡ counted_in w given (after w given (record { bag = bag; session = session; popped = popped }) c)
  line-counts workers popped session bag (BulkPush pass item) opened stands stays = omega arith
  line-counts workers popped session bag (LimitPush pass item) opened stands stays = omega arith
  line-counts workers popped session bag LimitTop opened stands stays = refl
  line-counts workers popped (InLimit limit) bag LimitPop opened stands stays = omega (arith, popped-counts w laws limit bag)
  line-counts workers popped session bag _ opened stands stays = cc

  -- the first lines of a session, and its end, bring no more records than count
  module _ (workers : ℕ) (session : Session R) (opened : is_outside session ≡ false) (over : Command R) (same_size : (n : ℕ) → size_after w none_go n over ≡ n) where
    lines-grow : (state : State R) (n m : ℕ) (cs : List (Command R)) → AreLines w workers session cs → state.session ≡ session → n ≡ counted_in w given state
        → size_from w none_go n (take m (cs ++ over ∷ [])) ≤ max n (load_from w given state (take m (cs ++ over ∷ [])))
    lines-grow state n zero cs are is count = omega arith
    lines-grow state n (suc m) [] are is count = cut-nil (λ xs. size_from w none_go n (over ∷ xs) ≤ max n (load_from w given state (over ∷ xs))) m (omega (arith, same_size n))
    lines-grow state n (suc m) (c ∷ cs) are is count =
        let stands = let P : Session R → Type 0 = λ s. may_stand w workers s c ≡ true in subst P (sym is) are.0.stands in
        let open_still = let P : Session R → Type 0 = λ s. is_outside s ≡ false in subst P (sym is) opened in
        let next : size_after w none_go n c ≡ counted_in w given (after w given state c) =
        ap (λ (k : ℕ). size_after w none_go k c) count ∙ line-counts workers state.popped state.session state.bag c open_still stands are.0.stays in
        omega (arith, next, lines-grow (after w given state c) (size_after w none_go n c) m cs are.1 (stays workers session state c are.0 is) next)

  -- one command
  lone-grows : (bag : List R) (c : Command R) → HasLength w given c → size_after w none_go (length bag) c ≤ max (length bag) (length (after w given (outside bag) c).bag)
  lone-grows bag (Bulk file bytes) long = omega (arith, long file bytes refl, length-append (given file) bag)
  lone-grows bag (Gen seed count) long = omega (arith, length-generated w.COUNT w.of_fields seed seed 0 count, length-append (generated_by w.COUNT w.of_fields seed count) bag)
  lone-grows bag _ long = omega arith

  pub part-grows : (bag : List R) (m : ℕ) (p : Part R) (workers : ℕ) → HasItsLines w workers p → HasLength w given (first_in p)
      → size_from w none_go (length bag) (take m (commands_in p)) ≤ max (length bag) (load_from w given (outside bag) (take m (commands_in p)))
  part-grows bag zero p workers is long = omega arith
  part-grows bag (suc m) (part.One c) workers is long = cut-nil (λ cs. size_from w none_go (length bag) (c ∷ cs) ≤ max (length bag) (load_from w given (outside bag) (c ∷ cs))) m (omega (arith, lone-grows bag c long))
  part-grows bag (suc m) (part.Bulk lines) workers are long =
      omega (arith, lines-grow workers InBulk refl BulkEnd (λ n. refl) (in_bulk bag) (length bag) m (commands_of lines.now) are refl (omega arith))
  part-grows bag (suc m) (part.Limit limit lines) workers are long =
      omega (arith, lines-grow workers (InLimit limit) refl LimitEnd (λ n. refl) (in_limit limit bag) (length bag) m (commands_of lines.now) are refl (omega arith))

  -- a bulk session prints nothing, and the multiset gains what it pushes
  pub bulk-quiet : (form : Form) (workers : ℕ) (state : State R) (cs : List (Command R)) → AreLines w workers InBulk cs → output_from w form given state cs ≡ []
  bulk-quiet form workers state [] are = refl
  bulk-quiet form workers state (BulkPush pass item ∷ cs) are = bulk-quiet form workers (after w given state (BulkPush pass item)) cs are.1
  bulk-quiet form workers state (_ ∷ cs) are = let h = are.0.stands in let k = are.0.stays in cc

  bulk-lines_bag : (workers : ℕ) (bag : List R) (cs : List (Command R)) → AreLines w workers InBulk cs → IsSameBag (state_from w given (in_bulk bag) cs).bag (pushed_in cs ++ bag)
  bulk-lines_bag workers bag [] are p = refl
  bulk-lines_bag workers bag (BulkPush pass item ∷ cs) are p =
      let pushed = pushed_in cs in
      omega (arith, bulk-lines_bag workers (item ∷ bag) cs are.1 p, count_by-append p pushed (item ∷ bag), count_by-append p (item ∷ pushed) bag, count_by-cons p item bag, count_by-cons p item pushed)
  bulk-lines_bag workers bag (_ ∷ cs) are p = let h = are.0.stands in let k = are.0.stays in cc

  pub bulk-bag : (workers : ℕ) (bag : List R) (cs : List (Command R)) → AreLines w workers InBulk cs → IsSameBag (state_from w given (outside bag) (bulk_part cs)).bag (pushed_in cs ++ bag)
  bulk-bag workers bag cs are p = ap (λ (s : State R). count_by p s.bag) (state_from-append w laws given (in_bulk bag) cs (BulkEnd ∷ [])) ∙ bulk-lines_bag workers bag cs are p

  pub bulk-silent : (form : Form) (workers : ℕ) (bag : List R) (cs : List (Command R)) → AreLines w workers InBulk cs → output_from w form given (outside bag) (bulk_part cs) ≡ []
  bulk-silent form workers bag cs are = output_from-append w laws form given (in_bulk bag) cs (BulkEnd ∷ []) ∙ ap (λ (t : List ℕ). t ++ []) (bulk-quiet form workers (in_bulk bag) cs are)
