-- The commands of requests: none needs a session, and those of several follow each other.
use Rattle.std.proofs.Common.{◌≡◌, ◌∙◌, ◌==◌, ℕ, zero, suc, List, [], ◌∷◌, ◌++◌, length, map, Option, None, Some, refl, sym, ap, subst, arith}
use Rattle.std.specs.Prelude.{is_some, true, false, Result, ⊤}
use Rattle.std.specs.List.{AllByRecursion as Each}
use Rattle.ppq_engine.specs.ppq_script.Words.{Words}
use Rattle.ppq_engine.specs.ppq_script.declared.command.Command.{Command}
use Rattle.ppq_engine.specs.ppq_script.declared.command.Command.TheVariants.{Push, Pop, Top, Size, BulkPop, BulkPopLimit}
use Rattle.ppq_engine.specs.ppq_script.declared.form.Form.{Form}
use Rattle.ppq_engine.specs.ppq_queue.Holding.{Holding}
use Rattle.ppq_engine.specs.Running.{LendsQueue}
use Rattle.ppq_engine.specs.declared.stop.Stop.{Stop}
use Rattle.ppq_requests.specs.declared.operation.Operation.{Operation}
use Rattle.ppq_requests.specs.Requests.{commands_of, records_in, first_number, first_record, first_records, pushed, pushes_of, numbered, limited, operation_of, first_operation, in_front, request_behind, request_by, request_of, answered, requests_of}
use Rattle.ppq_requests.proofs.Operations.{mapped, either_way, request-operation, request-none}
use Rattle.ppq_answer.specs.Serving.{Serves}
use Rattle.ppq_answer.proofs.Lending.{each-append}

pub pushes-lend : {R : Type 0} (items : List R) → Each LendsQueue (map Push items)
pushes-lend [] = tt
pushes-lend (item ∷ items) = (tt, pushes-lend items)

pub pushes-append : {R : Type 0} (items more : List R) → map Push (items ++ more) ≡ map Push items ++ map Push more
pushes-append [] more = refl
pushes-append {R} (item ∷ items) more = ap (λ (xs : List (Command R)). Push item ∷ xs) (pushes-append items more)

-- the commands of an operation were to be executed
pub operated :
    {R : Type 0} {w : Words R} {form : Form} {mid now : Option (List ℕ)} {old new : Holding R} {had has : List ℕ} {sink sink_now : ℕ} {r : Result ⊤ Stop} {operation own : Operation R} → operation ≡ own
    → Serves w form mid now old new had has (commands_of w own) sink sink_now r → Serves w form mid now old new had has (commands_of w operation) sink sink_now r
operated {R} {w} {form} {mid} {now} {old} {new} {had} {has} {sink} {sink_now} {r} {operation} {own} is s =
    let P : Operation R → Type 0 = λ o. Serves w form mid now old new had has (commands_of w o) sink sink_now r in
    subst P (sym is) s

pub one-of : {X : Type 0} {x y : X} → Some x ≡ Some y → x ≡ y
one-of is = cc

pub some-is : {X : Type 0} (o : Option X) → is_some o ≡ true → (x : X) × (o ≡ Some x)
some-is None some = cc
some-is (Some x) some = (x, refl)

pub none-is : {X : Type 0} (o : Option X) → is_some o ≡ false → o ≡ None
none-is None none = refl
none-is (Some x) none = cc

module _ {R : Type 0} (w : Words R) where
  abbrev Lend : List (Command R) × List ℕ → Type 0
  Lend cut = Each LendsQueue cut.0

  by-push : (o : Option (R × List ℕ)) (cut : List (Command R) × List ℕ) → pushed o ≡ Some cut → Lend cut
  by-push None cut e = cc
  by-push (Some a) cut e = let same : (Push a.0 ∷ [], a.1) ≡ cut = cc in subst Lend same (tt, tt)

  by-pushes : (o : Option (List ℕ × List ℕ)) (cut : List (Command R) × List ℕ) → pushes_of w o ≡ Some cut → Lend cut
  by-pushes None cut e = cc
  by-pushes (Some a) cut e = let same : (map Push (records_in w a.0), a.1) ≡ cut = cc in subst Lend same (pushes-lend (records_in w a.0))

  by-number : (command : ℕ → Command R) (o : Option (ℕ × List ℕ)) (cut : List (Command R) × List ℕ) → ((n : ℕ) → LendsQueue (command n)) → numbered command o ≡ Some cut → Lend cut
  by-number command None cut each e = cc
  by-number command (Some a) cut each e = let same : (command a.0 ∷ [], a.1) ≡ cut = cc in subst Lend same (each a.0, tt)

  by-limit : (o : Option (R × List ℕ)) (cut : List (Command R) × List ℕ) → limited o ≡ Some cut → Lend cut
  by-limit None cut e = cc
  by-limit (Some limit) cut e = by-number (BulkPopLimit limit.0) (first_number limit.1) cut (λ n. tt) e

  by-one : (command : Command R) (bytes : List ℕ) (cut : List (Command R) × List ℕ) → LendsQueue command → Some (command ∷ [], bytes) ≡ Some cut → Lend cut
  by-one command bytes cut lend e = let same : (command ∷ [], bytes) ≡ cut = cc in subst Lend same (lend, tt)

  by-none : (cut : List (Command R) × List ℕ) → None ≡ Some cut → Lend cut
  by-none cut e = cc

  operation-lends : (letter : ℕ) (bytes : List ℕ) (cut : List (Command R) × List ℕ) → operation_of w letter bytes ≡ Some cut → Lend cut
  operation-lends letter bytes cut e =
      either_way Lend (letter == 43) _ _ cut (λ is. by-push (first_record w bytes) cut)
      (either_way Lend (letter == 80) _ _ cut (λ is. by-pushes (first_records w.WIDTH bytes) cut)
      (either_way Lend (letter == 112) _ _ cut (λ is. by-one Pop bytes cut tt)
      (either_way Lend (letter == 116) _ _ cut (λ is. by-one Top bytes cut tt)
      (either_way Lend (letter == 110) _ _ cut (λ is. by-number BulkPop (first_number bytes) cut (λ n. tt))
      (either_way Lend (letter == 98) _ _ cut (λ is. by-limit (first_record w bytes) cut) (by-none cut))))))
      e

  -- in front of what is behind
  pub in_front-parts : (commands whole : List (Command R)) (o : Option (List (Command R))) → in_front commands o ≡ Some whole → (left : List (Command R)) × (o ≡ Some left) × (whole ≡ commands ++ left)
  in_front-parts commands whole o e = let m = mapped (λ (behind : List (Command R)). commands ++ behind) o whole e in (m.0, m.1, sym m.2)

  lends-by : (steps : ℕ) (bytes : List ℕ) (commands : List (Command R)) → request_by w steps bytes ≡ Some commands → Each LendsQueue commands
  lends-by steps [] commands e = let none : [] ≡ commands = cc in subst (Each LendsQueue) none tt
  lends-by zero (byte ∷ bytes) commands e = cc
  lends-by (suc steps) (byte ∷ bytes) commands e = go (operation_of w byte bytes) refl e (lends-by steps)
    where
      go : (o : Option (List (Command R) × List ℕ)) → operation_of w byte bytes ≡ o → request_behind (request_by w steps) o ≡ Some commands
          → ((behind : List ℕ) (more : List (Command R)) → request_by w steps behind ≡ Some more → Each LendsQueue more) → Each LendsQueue commands
      go None is e each = cc
      go (Some cut) is e each =
          let parts = in_front-parts cut.0 commands (request_by w steps cut.1) e in
          subst (Each LendsQueue) (sym parts.2) (each-append LendsQueue cut.0 parts.0 (operation-lends byte bytes cut is) (each cut.1 parts.0 parts.1))

  -- no command of a request needs a session
  pub request-lends : (bytes : List ℕ) (commands : List (Command R)) → request_of w bytes ≡ Some commands → Each LendsQueue commands
  request-lends bytes commands e = lends-by (length bytes) bytes commands e

  -- a request that begins with an operation
  pub request-parts : (bytes behind : List ℕ) (commands whole : List (Command R)) → Some (commands, behind) ≡ first_operation w bytes → request_of w bytes ≡ Some whole
      → (left : List (Command R)) × (request_of w behind ≡ Some left) × (whole ≡ commands ++ left)
  request-parts bytes behind commands whole begins is = in_front-parts commands whole (request_of w behind) (sym (request-operation w bytes behind commands (sym begins)) ∙ is)

  -- one that begins with none has none
  pub request-over : (bytes : List ℕ) (left : List (Command R)) → None ≡ first_operation w bytes → request_of w bytes ≡ Some left → left ≡ []
  request-over [] left none is = cc
  request-over (byte ∷ bytes) left none is = let refused = request-none w (byte ∷ bytes) (omega arith) (sym none) in cc

  -- nor one of several
  pub requests-lend : (requests : List (List ℕ)) → Each LendsQueue (requests_of w requests)
  requests-lend [] = tt
  requests-lend (request ∷ requests) = go (request_of w request) refl (requests-lend requests)
    where
      go : (o : Option (List (Command R))) → request_of w request ≡ o → Each LendsQueue (requests_of w requests) → Each LendsQueue (answered o (requests_of w requests))
      go None is each = tt
      go (Some own) is each = each-append LendsQueue own (Size ∷ requests_of w requests) (request-lends request own is) (tt, each)
