-- Two runs of one script, whatever their sizes, write the same.
use Rattle.std.proofs.Common.{◌≡◌, ℕ, ◌+◌, Bool, true, false, cond, List, [], ◌∷◌, Option, Some, None, refl, sym, ap, ap₂, subst, inl, inr}
use Rattle.std.specs.Prelude.{IfSome, if◌then◌else◌, nat_lt, length, map}
use Rattle.ppq_words.specs.ppq_outside.Told.{TakesAll, bytes_or_none}
use Rattle.ppq_words.specs.ppq_script.Words.{Words}
use Rattle.ppq_words.specs.ppq_script.declared.command.Command.{Command}
use Rattle.ppq_words.specs.ppq_script.declared.head.Head.{Head}
use Rattle.ppq_words.specs.ppq_script.declared.session.Session.{Session}
use Rattle.ppq_words.specs.ppq_script.declared.session.Session.TheVariants.{Outside}
use Rattle.ppq_words.specs.ppq_script.Sessions.{is_outside, may_stand}
use Rattle.ppq_words.specs.ppq_script.Lines.{LineKind, Skipped, Plain, OfFile as Naming, Bad, kind_of, lines_of, session_behind, placed, kinds_from, headed, kinds_of, head_line, bad_or, names_of, numbered_of, first_bad_by}
use Rattle.ppq_words.specs.ppq_script.declared.numbered.Numbered.{Numbered}
use Rattle.ppq_words.specs.ppq_script.Checking.{with_sizes}
use Rattle.ppq_words.specs.ppq_script.Files.{is_usable, name_at}
use Rattle.ppq_words.specs.ppq_script.declared.form.Form.{Form}
use Rattle.ppq_words.specs.Reading.{Reading}
use Rattle.ppq_jobs.specs.ppq_engine.ppq_load.Given.{records_of}
use Rattle.ppq_jobs.specs.ppq_engine.declared.end.End.TheVariants.{Done, ScriptTooLong}
use Rattle.ppq_jobs.specs.ppq_engine.Output.{output_of}
use Rattle.ppq_cli.specs.Load.{script_kinds}
use Rattle.ppq_cli.specs.Replies.{Files}
use Rattle.ppq_cli.specs.RunWords.{About, script_given, script_commands, OfFile, refusal_of, refusal_of_bad, refusal_of_file, IsAnswer}
use Rattle.ppq_cli.specs.Twice.{WriteTheSame, NameOneScript}
use Rattle.ppq_cli.specs.Types.{type_of}

-- where a line is good for two numbers of workers, it is the same for both, and so are the lines behind it
same_plain :
    {R : Type 0} (usable : List ℕ → Bool) (t u : Bool) (command : Command R) (n : ℕ) (rest other : Option ℕ)
    → bad_or usable n (cond t (Plain command) Bad) rest ≡ None → bad_or usable n (cond u (Plain command) Bad) other ≡ None
    → (cond t (Plain command) Bad ≡ cond u (Plain command) Bad) × ((rest ≡ None) × (other ≡ None))
same_plain usable true true command n rest other e f = (refl, (e, f))
same_plain usable true false command n rest other e f = cc
same_plain usable false u command n rest other e f = cc

named_rest : (t : Bool) (n : ℕ) (rest : Option ℕ) → cond t rest (Some n) ≡ None → rest ≡ None
named_rest true n rest e = e
named_rest false n rest e = cc

same_named :
    {R : Type 0} (words : Words R) (usable : List ℕ → Bool) (t : Bool) (name : List ℕ) (n : ℕ) (rest other : Option ℕ)
    → bad_or {R = R} usable n (cond t (Naming name) Bad) rest ≡ None → bad_or {R = R} usable n (cond t (Naming name) Bad) other ≡ None → (rest ≡ None) × (other ≡ None)
same_named words usable true name n rest other e f = (named_rest (usable name) n rest e, named_rest (usable name) n other f)
same_named words usable false name n rest other e f = cc

module _ {R : Type 0} (words : Words R) (usable : List ℕ → Bool) (workers others : ℕ) where
  same_line :
      (session : Session R) (kind : LineKind R) (n : ℕ) (rest other : Option ℕ)
      → bad_or usable n (placed words workers session kind) rest ≡ None → bad_or usable n (placed words others session kind) other ≡ None
      → (placed words workers session kind ≡ placed words others session kind) × ((rest ≡ None) × (other ≡ None))
  same_line session Skipped n rest other e f = (refl, (e, f))
  same_line session (Plain command) n rest other e f = same_plain usable (may_stand words workers session command) (may_stand words others session command) command n rest other e f
  same_line session (Naming name) n rest other e f = (refl, same_named words usable (is_outside session) name n rest other e f)
  same_line session Bad n rest other e f = cc

  same_from :
      (session : Session R) (n : ℕ) (lines : List (List ℕ))
      → first_bad_by usable n (kinds_from words workers session lines) ≡ None → first_bad_by usable n (kinds_from words others session lines) ≡ None
      → kinds_from words workers session lines ≡ kinds_from words others session lines
  same_from session n [] e f = refl
  same_from session n (l ∷ ls) e f =
      let behind = session_behind session (kind_of words l) in
      let both = same_line session (kind_of words l) n (first_bad_by usable (n + 1) (kinds_from words workers behind ls)) (first_bad_by usable (n + 1) (kinds_from words others behind ls)) e f in
      ap₂ (λ (k : LineKind R) (ks : List (LineKind R)). k ∷ ks) both.0 (same_from behind (n + 1) ls both.1.0 both.1.1)

  same_headed :
      (head : Option Head) (n : ℕ) (l : List ℕ) (ls : List (List ℕ))
      → first_bad_by usable n (headed words workers head l ls) ≡ None → first_bad_by usable n (headed words others head l ls) ≡ None
      → headed words workers head l ls ≡ headed words others head l ls
  same_headed None n l ls e f = same_from Outside n (l ∷ ls) e f
  same_headed (Some head) n l ls e f = ap (λ (ks : List (LineKind R)). Skipped ∷ ks) (same_from Outside (n + 1) ls e f)

  same_kinds :
      (n : ℕ) (lines : List (List ℕ)) → first_bad_by usable n (kinds_of words workers lines) ≡ None → first_bad_by usable n (kinds_of words others lines) ≡ None
      → kinds_of words workers lines ≡ kinds_of words others lines
  same_kinds n [] e f = refl
  same_kinds n (l ∷ ls) e f = same_headed (head_line l) n l ls e f

-- what a script of these bytes for so many workers writes
abbrev script_output : {R : Type 0} → Words R → Form → Files → List ℕ → ℕ → List ℕ
script_output words form files bytes workers = output_of words form (script_given words files bytes workers) (script_commands words files bytes workers)

-- where no line is bad, it is the same for others
same_output :
    {R : Type 0} (words : Words R) (form : Form) (files : Files) (bytes : List ℕ) (workers others : ℕ) → first_bad_by (is_usable words files) 1 (script_kinds words bytes workers) ≡ None → first_bad_by (is_usable words files) 1 (script_kinds words bytes others) ≡ None
    → script_output words form files bytes workers ≡ script_output words form files bytes others
same_output {R} words form files bytes workers others good other_good =
    ap (λ (kinds : List (LineKind R)). output_of words form (λ (file : ℕ). records_of words.record_of words.WIDTH (bytes_or_none (files (name_at (names_of kinds) file)))) (map (λ (n : Numbered R). n.command) (with_sizes files (names_of kinds) (numbered_of 1 kinds))))
    (same_kinds words (is_usable words files) workers others 1 (lines_of bytes) good other_good)

-- a file that was run to its end, and what the sink took
record Written (form : Form) (files : Files) (file : Option (List ℕ)) (workers : ℕ) (before now : Option (List ℕ)) : Type 0 where
  bytes : List ℕ
  is : file ≡ Some bytes
  good : first_bad_by (is_usable (type_of bytes).words files) 1 (script_kinds (type_of bytes).words bytes workers) ≡ None
  took : TakesAll before now (script_output (type_of bytes).words form files bytes workers)

-- a script that is done has no bad line
good_by : {R : Type 0} (words : Words R) (long : Bool) (bad : Option ℕ) (r : Reading) → IsAnswer (if long then Some ScriptTooLong else refusal_of_bad words bad r) Done → bad ≡ None
good_by words long None r answer = refl
good_by words true (Some line) r (inl e) = cc
good_by words true (Some line) r (inr (inl e)) = cc
good_by words true (Some line) r (inr (inr e)) = cc
good_by words false (Some line) r (inl e) = cc
good_by words false (Some line) r (inr (inl e)) = cc
good_by words false (Some line) r (inr (inr e)) = cc

-- that the sink took all that a script writes
abbrev pub Takes : Option (List ℕ) → Option (List ℕ) → About
Takes before now type r given commands = TakesAll before now (output_of type.words r.form given commands)

written :
    (files : Files) (file : Option (List ℕ)) (r : Reading) (before now : Option (List ℕ))
    → IsAnswer (refusal_of_file files file r) Done → IfSome file (λ bytes. TakesAll before now (script_output (type_of bytes).words r.form files bytes r.given.numbers.workers)) → Written r.form files file r.given.numbers.workers before now
written files None r before now (inl e) took = cc
written files None r before now (inr (inl e)) took = cc
written files None r before now (inr (inr e)) took = cc
written files (Some bytes) r before now answer took =
    let words = (type_of bytes).words in
    record { bytes = bytes; is = refl; good = good_by words (nat_lt 1048576 (length bytes)) (first_bad_by (is_usable words files) 1 (script_kinds words bytes r.given.numbers.workers)) r answer; took = took }

same_file :
    (form : Form) (files : Files) (file : Option (List ℕ)) (workers others : ℕ) (before now other_before other_now : Option (List ℕ))
    → Written form files file workers before now → Written form files file others other_before other_now → WriteTheSame before now other_before other_now
same_file form files file workers others before now other_before other_now one other =
    let e : other.bytes ≡ one.bytes = cc (one.is, other.is) in
    let words = (type_of one.bytes).words in
    let P : List ℕ → Type 0 = λ b. TakesAll other_before other_now (script_output (type_of b).words form files b others) in
    let Q : List ℕ → Type 0 = λ b. first_bad_by (is_usable (type_of b).words files) 1 (script_kinds (type_of b).words b others) ≡ None in
    let same : script_output words form files one.bytes others ≡ script_output words form files one.bytes workers = same_output words form files one.bytes others workers (subst Q e other.good) one.good in
    (script_output words form files one.bytes workers, (one.took, subst (TakesAll other_before other_now) same (subst P e other.took)))

pub write_the_same :
    (told : Option Files) (reading other : Option Reading) (before now other_before other_now : Option (List ℕ)) → NameOneScript reading other
    → IfSome told (λ files. IsAnswer (refusal_of reading files) Done) → IfSome reading (λ r. OfFile told r (Takes before now))
    → IfSome told (λ files. IsAnswer (refusal_of other files) Done) → IfSome other (λ r. OfFile told r (Takes other_before other_now))
    → IfSome told (λ files. WriteTheSame before now other_before other_now)
write_the_same None reading other before now other_before other_now one answer took other_answer other_took = tt
write_the_same (Some files) None other before now other_before other_now one answer took other_answer other_took = absurd one
write_the_same (Some files) (Some reading) None before now other_before other_now one answer took other_answer other_took = absurd one
write_the_same (Some files) (Some reading) (Some other) before now other_before other_now one answer took other_answer other_took =
    let first = files reading.script in
    let P : List ℕ → Type 0 = λ n. IsAnswer (refusal_of_file files (files n) other) Done in
    let Q : List ℕ → Type 0 = λ n. IfSome (files n) (λ bytes. TakesAll other_before other_now (script_output (type_of bytes).words other.form files bytes other.given.numbers.workers)) in
    let W : Form → Type 0 = λ f. Written f files first other.given.numbers.workers other_before other_now in
    same_file reading.form files first reading.given.numbers.workers other.given.numbers.workers before now other_before other_now (written files first reading before now answer took)
    (subst W (sym one.1) (written files first other other_before other_now (subst P (sym one.0) other_answer) (subst Q (sym one.0) other_took)))
