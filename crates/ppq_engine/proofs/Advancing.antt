-- What one step, or a session, says, as what it says of the commands that run together.
use Rattle.std.proofs.Common.{◌≡◌, ℕ, suc, ◌+◌, ◌<◌, Bool, true, false, List, [], ◌∷◌, ◌++◌, length, take, drop, max, Option, refl, sym, ap, ◌∙◌, subst, arith, append-nil, length-append, take-add, take-append-drop}
use Rattle.std.specs.Prelude.{◌||◌}
use Rattle.std.proofs.Math.Seq.{take-append_seam}
use Rattle.std.proofs.Math.Bool.{or_assoc, or-false, or-true}
use Rattle.ppq_script.specs.Words.{Words}
use Rattle.ppq_engine.proofs.Orders.{HasLaws}
use Rattle.ppq_script.specs.declared.form.Form.{Form}
use Rattle.ppq_script.specs.ppq_outside.Shown.{Shown, AllTell}
use Rattle.ppq_script.specs.ppq_outside.Told.{TakesPart}
use Rattle.ppq_load.specs.ppq_budget.Sizes.{Numbers}
use Rattle.ppq_script.specs.declared.command.Command.{Command}
use Rattle.ppq_script.specs.declared.command.Command.TheVariants.{Push, Pop, Top, Size, Bulk, Gen, BulkPop, BulkPopLimit, Drain, BulkBegin, BulkEnd}
use Rattle.ppq_script.specs.declared.session.Session.TheVariants.{Outside, InBulk}
use Rattle.ppq_script.specs.Parts.{IsLine, AreLines, bulk_part, limit_part}
use Rattle.ppq_load.specs.ppq_queue.Holding.{Holding}
use Rattle.ppq_load.specs.ppq_array.declared.store_fault.StoreFault.{StoreFault as QueueFault}
use Rattle.ppq_load.specs.ppq_session.LimitSessions.{begun_in}
use Rattle.ppq_load.specs.Refusal.{Keeps, IsRefusedBy}
use Rattle.ppq_load.proofs.ppq_queue.ppq_spill.SameSlots.{SameSlots-trans}
use Rattle.ppq_engine.specs.Files.{IsBySession}
use Rattle.ppq_engine.specs.Gathers.{Gathers}
use Rattle.ppq_engine.specs.Loads.{none_go, size_after, size_from, begins_limit}
use Rattle.ppq_engine.specs.Output.{outside, text_of, after, output_from, state_from}
use Rattle.ppq_engine.specs.Pushes.{pushed_in}
use Rattle.ppq_engine.specs.Running.{LendsQueue, WroteInPart, StopsFor, CutAt, RefusedAt, PartStops, behind_part}
use Rattle.ppq_engine.specs.declared.stop.Stop.{Stop}
use Rattle.ppq_engine.specs.declared.stop.Stop.TheVariants.{Sink, Queue, Memory}
use Rattle.ppq_engine.proofs.Lines.{begins-append, lone-begins, bulk-begins, bulk-size, bulk-quiet}
use Rattle.ppq_engine.proofs.Popped.{gathers-nothing}
use Rattle.ppq_engine.proofs.Running.{output_from-append}

-- what is kept, where it is known in another way whether a limit session was begun
Keeps-flag : {R : Type 0} (q new : Holding R) (one other : Bool) → one ≡ other → Keeps (record q { limited = one }) new → Keeps (record q { limited = other }) new
Keeps-flag q new one other e k = record { sizes = k.sizes; limited = k.limited ∙ e; slots = k.slots; tells = k.tells; writes = k.writes }

-- a part that begins no limit session leaves it open whether one was begun
none-flag : {R : Type 0} (limited : Bool) (part : List (Command R)) → begins_limit part ≡ false → limited ≡ (limited || begins_limit part)
none-flag limited part none = sym (or-false limited) ∙ ap (λ b. limited || b) (sym none)

pub Keeps-none : {R : Type 0} (q new : Holding R) (part : List (Command R)) → begins_limit part ≡ false → Keeps q new → Keeps (behind_part q part) new
Keeps-none q new part none k = Keeps-flag q new q.limited (q.limited || begins_limit part) (none-flag q.limited part none) k

-- behind one that does, one was begun
pub Keeps-begun : {R : Type 0} (q new : Holding R) (limit : R) (lines : List (Command R)) → Keeps (begun_in q) new → Keeps (behind_part q (limit_part limit lines)) new
Keeps-begun q new limit lines k =
    Keeps-flag q new true (q.limited || true) (sym (or-true q.limited)) (record { sizes = k.sizes; limited = k.limited; slots = k.slots; tells = k.tells; writes = k.writes })

-- a part behind other commands
pub Keeps-behind : {R : Type 0} (a b c : Holding R) (cs part : List (Command R)) → Keeps (behind_part a cs) b → Keeps (behind_part b part) c → Keeps (behind_part a (cs ++ part)) c
Keeps-behind a b c cs part h k = record {
  sizes = k.sizes ∙ h.sizes;
  limited = k.limited ∙ ap (λ l. l || begins_limit part) h.limited ∙ or_assoc a.limited (begins_limit cs) (begins_limit part) ∙ ap (λ l. a.limited || l) (sym (begins-append cs part));
  slots = SameSlots-trans a.slots b.slots c.slots h.slots k.slots;
  tells = λ t. k.tells (h.tells t);
  writes = omega (arith, h.writes, k.writes);
}

-- one command
module _ {R : Type 0} (w : Words R) (form : Form) (first : List Shown) (before now : Option (List ℕ)) (had has : List ℕ) (bag : List R) (size peak : ℕ) (sizes : Numbers) (limited : Bool) (slots : List Shown) (workers : ℕ) (c : Command R) (is : IsLine w workers Outside c) where
  pub lone-stops : (stop : Stop) → (AllTell first → WroteInPart before now had (text_of w form (outside bag) c) has stop) → StopsFor (max peak (size_after w none_go size c)) sizes limited slots stop
      → PartStops w form first before now had bag size peak (c ∷ []) sizes (limited || begins_limit (c ∷ [])) slots has stop
  lone-stops Sink wrote why = λ tells given. let P : List ℕ → Type 0 = λ t. TakesPart before now (had ++ t) in subst P (sym (append-nil (text_of w form (outside bag) c))) (wrote tells)
  lone-stops (Queue fault) wrote why =
      let P : Bool → Type 0 = λ l. IsRefusedBy (max peak (size_after w none_go size c)) sizes l slots fault in
      record {
        done = 0;
        within = omega arith;
        cut = λ tells given. let g = wrote tells in record { text = g.part; rest = g.rest; all = append-nil (text_of w form (outside bag) c) ∙ g.all; gathers = g.gathers };
        cause = subst P (none-flag limited (c ∷ []) (lone-begins w workers c is)) why;
      }
  lone-stops _ wrote why = wrote

-- all is gathered up to a command, and nothing of those behind it
cut-at :
    {R : Type 0} (w : Words R) (laws : HasLaws w) (form : Form) (given : ℕ → List R) (before now : Option (List ℕ)) (had has : List ℕ) (bag : List R) (part : List (Command R)) (done : ℕ)
    → Gathers before now had (output_from w form given (outside bag) (take (done + 1) part)) has → CutAt w form given before now had bag part done has
cut-at w laws form given before now had has bag part done all =
    let first = take done part in
    let next = take 1 (drop done part) in
    let text = output_from w form given (state_from w given (outside bag) first) next in
    let rest = output_from w form given (state_from w given (outside bag) (take (done + 1) part)) (drop (done + 1) part) in
    let up : output_from w form given (outside bag) (take (done + 1) part) ≡ output_from w form given (outside bag) first ++ text =
    ap (output_from w form given (outside bag)) (take-add done 1 part) ∙ output_from-append w laws form given (outside bag) first next in
    let P : List ℕ → Type 0 = λ t. Gathers before now had t has in
    record {
      text = text;
      rest = rest;
      all =
          ap (output_from w form given (outside bag)) (sym (take-append-drop (done + 1) part)) ∙ output_from-append w laws form given (outside bag) (take (done + 1) part) (drop (done + 1) part)
          ∙ ap (λ (t : List ℕ). t ++ rest) up;
      gathers = subst P up all;
    }

-- a session was refused behind its first lines, and what they print is gathered
pub lines-refused :
    {R : Type 0} (w : Words R) (laws : HasLaws w) (form : Form) (first : List Shown) (before now : Option (List ℕ)) (had has : List ℕ) (bag : List R) (size peak : ℕ) (sizes : Numbers) (limited : Bool) (slots : List Shown) (fault : QueueFault) (begin : Command R) (lines rest : List (Command R))
    → 0 < length rest → (AllTell first → (given : ℕ → List R) → Gathers before now had (output_from w form given (outside bag) (begin ∷ lines)) has) → IsRefusedBy (max peak (size_from w none_go size (begin ∷ lines))) sizes limited slots fault
    → RefusedAt w form first before now had bag size peak (begin ∷ (lines ++ rest)) sizes limited slots has fault
lines-refused {R} w laws form first before now had has bag size peak sizes limited slots fault begin lines rest some gathers cause =
    let next : length lines + 1 ≡ suc (length lines) = omega arith in
    let up : take (length lines + 1) (begin ∷ (lines ++ rest)) ≡ begin ∷ lines =
    ap (λ (n : ℕ). take n (begin ∷ (lines ++ rest))) next ∙ ap (λ (xs : List (Command R)). begin ∷ xs) (take-append_seam lines rest) in
    let P : List (Command R) → Type 0 = λ cs. IsRefusedBy (max peak (size_from w none_go size cs)) sizes limited slots fault in
    record {
      done = length lines;
      within = omega (arith, some, length-append lines rest);
      cut =
          λ tells given.
          let Q : List (Command R) → Type 0 = λ cs. Gathers before now had (output_from w form given (outside bag) cs) has in
          cut-at w laws form given before now had has bag (begin ∷ (lines ++ rest)) (length lines) (subst Q (sym up) (gathers tells given));
      cause = subst P (sym up) cause;
    }

-- a bulk session
pub bulk-stops :
    {R : Type 0} (w : Words R) (laws : HasLaws w) (form : Form) (first : List Shown) (told : Option (List ℕ)) (had : List ℕ) (bag : List R) (size peak : ℕ) (sizes : Numbers) (limited : Bool) (slots : List Shown) (workers : ℕ) (lines : List (Command R)) (are : AreLines w workers InBulk lines) (stop : Stop)
    → IsBySession stop → StopsFor (max peak (size + length (pushed_in lines))) sizes limited slots stop → PartStops w form first told told had bag size peak (bulk_part lines) sizes (limited || begins_limit (bulk_part lines)) slots had stop
bulk-stops {R} w laws form first told had bag size peak sizes limited slots workers lines are (Queue fault) by why =
    let P : Bool → Type 0 = λ l. IsRefusedBy (max peak (size + length (pushed_in lines))) sizes l slots fault in
    let Q : ℕ → Type 0 = λ n. IsRefusedBy (max peak n) sizes (limited || begins_limit (bulk_part lines)) slots fault in
    let R : List ℕ → Type 0 = λ t. Gathers told told had t had in
    lines-refused w laws form first told told had had bag size peak sizes (limited || begins_limit (bulk_part lines)) slots fault BulkBegin lines (BulkEnd ∷ []) (omega arith)
    (λ tells given. subst R (sym (bulk-quiet w laws given form workers (after w given (outside bag) BulkBegin) lines are)) (gathers-nothing told had))
    (subst Q (sym (bulk-size w none_go workers size lines are)) (subst P (none-flag limited (bulk_part lines) (bulk-begins w workers lines are)) why))
bulk-stops w laws form first told had bag size peak sizes limited slots workers lines are Memory by why = λ tells. gathers-nothing told had
bulk-stops w laws form first told had bag size peak sizes limited slots workers lines are _ by why = absurd by

-- a command of no session that adds no file and no generated records needs none
pub lends : {R : Type 0} (w : Words R) (workers : ℕ) (c : Command R) → IsLine w workers Outside c → ((file size : ℕ) → c ≡ Bulk file size → ⊥) → ((seed count : ℕ) → c ≡ Gen seed count → ⊥) → LendsQueue c
lends w workers (Push item) is no_file no_seed = tt
lends w workers Pop is no_file no_seed = tt
lends w workers Top is no_file no_seed = tt
lends w workers Size is no_file no_seed = tt
lends w workers (Bulk file size) is no_file no_seed = absurd (no_file file size refl)
lends w workers (Gen seed count) is no_file no_seed = absurd (no_seed seed count refl)
lends w workers (BulkPop count) is no_file no_seed = tt
lends w workers (BulkPopLimit limit count) is no_file no_seed = tt
lends w workers (Drain count) is no_file no_seed = tt
lends w workers _ is no_file no_seed = let h = is.stands in let k = is.stays in absurd (cc)
