-- Commands that need no session, as commands of a script.
use Rattle.std.proofs.Common.{◌≡◌, ◌∙◌, ◌+◌, ◌/◌, ℕ, Bool, true, false, List, [], ◌∷◌, ◌++◌, length, take, drop, Option, Some, refl, sym, ap, ap₂, subst}
use Rattle.std.specs.Prelude.{slice_get, unwrap_or, ◌||◌, ◌&&◌}
use Rattle.std.specs.List.{AllByRecursion as Each}
use Rattle.std.proofs.lemmas.List.{map-id}
use Rattle.std.proofs.lemmas.Simd.{map-map}
use Rattle.std.proofs.Math.Seq.{take-append_seam, drop-append_seam, drop-append-add}
use Rattle.ppq_engine.specs.ppq_script.Words.{Words}
use Rattle.ppq_engine.specs.ppq_script.declared.command.Command.{Command}
use Rattle.ppq_engine.specs.ppq_script.declared.command.Command.TheVariants.{Push, Pop, Top, Size, Bulk, BulkPop, BulkPopLimit, Drain, LimitBegin}
use Rattle.ppq_engine.specs.ppq_script.declared.numbered.Numbered.{Numbered}
use Rattle.ppq_engine.specs.ppq_script.declared.part.Part.TheVariants as part
use Rattle.ppq_engine.specs.ppq_script.declared.session.Session.{Session}
use Rattle.ppq_engine.specs.ppq_script.declared.session.Session.TheVariants.{Outside}
use Rattle.ppq_engine.specs.ppq_script.Parts.{IsLine, IsPartAt}
use Rattle.ppq_engine.specs.ppq_script.Reading.{command_list}
use Rattle.ppq_engine.specs.ppq_script.Sessions.{are_in_place}
use Rattle.ppq_engine.specs.Loads.{is_limit_begin, begins_limit}
use Rattle.ppq_engine.specs.Running.{LendsQueue}
use Rattle.ppq_engine.proofs.Lines.{session_from}
use Rattle.ppq_answer.specs.Serving.{on_a_line, script_of}

-- what holds of each of two lists
pub each-append : {X : Type 0} (P : X → Type 0) (xs ys : List X) → Each P xs → Each P ys → Each P (xs ++ ys)
each-append P [] ys h k = k
each-append P (x ∷ xs) ys h k = (h.0, each-append P xs ys h.1 k)

pub commands-are : {R : Type 0} (cs : List (Command R)) → command_list (script_of cs) ≡ cs
commands-are {R} cs = map-map (λ (n : Numbered R). n.command) on_a_line cs ∙ map-id cs

-- a command that needs no session may stand where none is open, begins none and ends none
pub lends-line : {R : Type 0} (w : Words R) (workers : ℕ) (c : Command R) → LendsQueue c → IsLine w workers Outside c
lends-line w workers (Push item) l = record { stands = refl; stays = refl }
lends-line w workers Pop l = record { stands = refl; stays = refl }
lends-line w workers Top l = record { stands = refl; stays = refl }
lends-line w workers Size l = record { stands = refl; stays = refl }
lends-line w workers (BulkPop count) l = record { stands = refl; stays = refl }
lends-line w workers (BulkPopLimit limit count) l = record { stands = refl; stays = refl }
lends-line w workers (Drain count) l = record { stands = refl; stays = refl }
lends-line w workers _ l = absurd l

pub lends-in_place : {R : Type 0} (w : Words R) (workers : ℕ) (cs : List (Command R)) → Each LendsQueue cs → are_in_place w workers Outside cs ≡ true
lends-in_place w workers [] each = refl
lends-in_place {R} w workers (c ∷ cs) each =
    let is = lends-line w workers c each.0 in
    ap₂ (λ (b : Bool) (t : Option (Session R)). b && are_in_place w workers (unwrap_or t Outside) cs) is.stands is.stays ∙ lends-in_place w workers cs each.1

pub lends-closed : {R : Type 0} (w : Words R) (cs : List (Command R)) → Each LendsQueue cs → session_from Outside cs ≡ Outside
lends-closed w [] each = refl
lends-closed {R} w (c ∷ cs) each = ap (λ (t : Option (Session R)). session_from (unwrap_or t Outside) cs) (lends-line w 1 c each.0).stays ∙ lends-closed w cs each.1

lend-begins : {R : Type 0} (c : Command R) → LendsQueue c → is_limit_begin c ≡ false
lend-begins (LimitBegin limit) l = absurd l
lend-begins _ l = refl

pub lends-begin : {R : Type 0} (cs : List (Command R)) → Each LendsQueue cs → begins_limit cs ≡ false
lends-begin [] each = refl
lends-begin (c ∷ cs) each = ap₂ (λ (a b : Bool). a || b) (lend-begins c each.0) (lends-begin cs each.1)

-- it reads no file
pub lends-no_file : {R : Type 0} (c : Command R) → LendsQueue c → (file bytes : ℕ) → c ≡ Bulk file bytes → ⊥
lends-no_file {R} c l file bytes is = let P : Command R → Type 0 = λ k. LendsQueue k in subst P is l

pub lends-length : {R : Type 0} (w : Words R) (given : ℕ → List R) (c : Command R) → LendsQueue c → (file bytes : ℕ) → c ≡ Bulk file bytes → length (given file) ≡ bytes / w.WIDTH
lends-length w given c l = λ file bytes is. absurd (lends-no_file c l file bytes is)

-- the first command behind others is a part of the script
module _ {R : Type 0} (w : Words R) (cs : List (Command R)) (c : Command R) (behind : List (Command R)) (lends : LendsQueue c) (each : Each LendsQueue behind) where
  abbrev pub whole : List (Command R)
  whole = cs ++ c ∷ behind

  pub first-commands : take (length cs) (command_list (script_of whole)) ≡ cs
  first-commands = ap (take (length cs)) (commands-are whole) ∙ take-append_seam cs (c ∷ behind)

  commands-behind : drop (length cs + 1) (command_list (script_of whole)) ≡ behind
  commands-behind = ap (drop (length cs + 1)) (commands-are whole) ∙ drop-append-add cs (c ∷ behind) 1

  first-behind : (xs : List (Command R)) → slice_get (xs ++ c ∷ behind) (length xs) ≡ Some c
  first-behind [] = refl
  first-behind (x ∷ xs) = first-behind xs

  pub part-behind_all : IsPartAt w (script_of whole) (length cs) (part.One c)
  part-behind_all = record {
    first = ap (λ (xs : List (Command R)). slice_get xs (length cs)) (commands-are whole) ∙ first-behind cs;
    whole = ap (drop (length cs)) (commands-are whole) ∙ drop-append_seam cs (c ∷ behind) ∙ ap (λ (xs : List (Command R)). c ∷ xs) (sym commands-behind);
    lines = lends-line w 1 c lends;
    next = ap (are_in_place w 1 Outside) commands-behind ∙ lends-in_place w 1 behind each;
  }
