-- Lemmas on what lines are where they stand, place by place.
use Rattle.std.proofs.Common.{◌≡◌, ℕ, zero, suc, Bool, true, false, cond, ◌+◌, ◌<◌, ◌≤◌, List, [], ◌∷◌, length, get_or, Option, Some, None, map, refl, sym, ap, ◌∙◌, arith}
use Rattle.std.specs.Prelude.{⊤, ◌≢◌, unwrap_or}
use Rattle.std.specs.List.{AllByRecursion as Each}
use Rattle.std.proofs.lemmas.Bool.{and_from}
use Rattle.ppq_script.specs.declared.command.Command.{Command}
use Rattle.ppq_script.specs.declared.numbered.Numbered.{Numbered}
use Rattle.ppq_script.specs.declared.session.Session.{Session}
use Rattle.ppq_script.specs.declared.session.Session.TheVariants.{Outside, InBulk, InLimit}
use Rattle.ppq_script.specs.Sessions.{turn_of, is_outside, may_stand, are_in_place}
use Rattle.ppq_script.specs.Lines.{LineKind, Skipped, Plain, OfFile, Bad, kind_of, session_behind, placed, kinds_from, headed, kinds_of, head_line, file_after, numbered_from, numbered_of, before_bad, bad_or, first_bad}
use Rattle.ppq_script.specs.Files.{file_in}
use Rattle.ppq_script.specs.declared.head.Head.{Head}
use Rattle.ppq_script.specs.Words.{Words}
use Rattle.ppq_script.proofs.WordLaws.{Laws}
use Rattle.ppq_script.proofs.Heads.{headed-rest, headed-length}
use Rattle.ppq_script.proofs.Spelling.{Reads-Plain, file_in-Reads}
use Rattle.ppq_script.proofs.Sessions.{session_at}

module _ {R : Type 0} where
  -- behind the last line there is a bad one, or nothing
  abbrev pub ending : Session R → List (LineKind R)
  ending session = cond (is_outside session) [] (Bad ∷ [])

  -- how many lines more there are behind the last
  pub ends_outside : (s : Session R) → length (ending s) ≡ 0 → s ≡ Outside
  ends_outside Outside e = refl
  ends_outside InBulk e = cc
  ends_outside (InLimit limit) e = cc

  pub outside_ends : (s : Session R) → s ≡ Outside → length (ending s) ≡ 0
  outside_ends s e = ap (λ (t : Session R). length (ending t)) e

  pub open_ends : (s : Session R) → s ≢ Outside → length (ending s) ≡ 1
  open_ends Outside e = absurd (e refl)
  open_ends InBulk e = refl
  open_ends (InLimit limit) e = refl

  pub few_ends : (s : Session R) → length (ending s) ≤ 1
  few_ends Outside = omega arith
  few_ends InBulk = omega arith
  few_ends (InLimit limit) = omega arith

  -- a command that is no `bulk` names no file
  abbrev pub IsProper : LineKind R → Type 0
  IsProper Skipped = ⊤
  IsProper (Plain command) = file_in command ≡ None
  IsProper (OfFile name) = ⊤
  IsProper Bad = ⊤

  proper_if : (t : Bool) (k : LineKind R) → IsProper k → IsProper (cond t k Bad)
  proper_if true k h = h
  proper_if false k h = tt

  -- the commands of lines
  abbrev pub commands_in : List (Numbered R) → List (Command R)
  commands_in items = map (λ (n : Numbered R). n.command) items

module _ {R : Type 0} (words : Words R) where
  -- the session behind these lines, the first of which stands in this one
  abbrev pub session_over : Session R → List (List ℕ) → ℕ → Session R
  session_over s lines zero = s
  session_over s lines (suc i) = session_behind (session_over s lines i) (kind_of words (get_or lines i []))

  over_at : (lines : List (List ℕ)) (i : ℕ) → session_over Outside lines i ≡ session_at words lines i
  over_at lines zero = refl
  over_at lines (suc i) = ap (λ (s : Session R). session_behind s (kind_of words (get_or lines i []))) (over_at lines i)

  over_first : (s : Session R) (l : List ℕ) (ls : List (List ℕ)) (i : ℕ) → session_over s (l ∷ ls) (suc i) ≡ session_over (session_behind s (kind_of words l)) ls i
  over_first s l ls zero = refl
  over_first s l ls (suc i) = ap (λ (t : Session R). session_behind t (kind_of words (get_or ls i []))) (over_first s l ls i)

  -- what a line is where it stands
  kind_from : (workers : ℕ) (s : Session R) (lines : List (List ℕ)) (i : ℕ) → i < length lines → get_or (kinds_from words workers s lines) i Bad ≡ placed words workers (session_over s lines i) (kind_of words (get_or lines i []))
  kind_from workers s [] i below = absurd (omega (arith, below))
  kind_from workers s (l ∷ ls) zero below = refl
  kind_from workers s (l ∷ ls) (suc i) below =
      kind_from workers (session_behind s (kind_of words l)) ls i (omega (arith, below)) ∙ ap (λ (t : Session R). placed words workers t (kind_of words (get_or ls i []))) (sym (over_first s l ls i))

  -- what the first line is, if it is no head, and each other one
  pub kind_at : (workers : ℕ) (lines : List (List ℕ)) (i : ℕ) → i < length lines → (i ≡ 0 → head_line (get_or lines 0 []) ≡ None) → get_or (kinds_of words workers lines) i Bad ≡ placed words workers (session_at words lines i) (kind_of words (get_or lines i []))
  kind_at workers lines i below other = same lines i below other ∙ kind_from workers Outside lines i below ∙ ap (λ (s : Session R). placed words workers s (kind_of words (get_or lines i []))) (over_at lines i)
    where
      same : (lines : List (List ℕ)) (i : ℕ) → i < length lines → (i ≡ 0 → head_line (get_or lines 0 []) ≡ None) → get_or (kinds_of words workers lines) i Bad ≡ get_or (kinds_from words workers Outside lines) i Bad
      same [] i below other = absurd (omega (arith, below))
      same (l ∷ ls) zero below other = ap (λ (o : Option Head). get_or (headed words workers o l ls) 0 Bad) (other refl)
      same (l ∷ ls) (suc i) below other = headed-rest words workers l ls (head_line l) refl i

  -- and a head is skipped
  pub head_at_first : (workers : ℕ) (lines : List (List ℕ)) (head : Head) → head_line (get_or lines 0 []) ≡ Some head → get_or (kinds_of words workers lines) 0 Bad ≡ Skipped
  head_at_first workers [] head e = cc
  head_at_first workers (l ∷ ls) head e = ap (λ (o : Option Head). get_or (headed words workers o l ls) 0 Bad) e

  length_from : (workers : ℕ) (s : Session R) (lines : List (List ℕ)) → length (kinds_from words workers s lines) ≡ length lines + length (ending (session_over s lines (length lines)))
  length_from workers s [] = omega arith
  length_from workers s (l ∷ ls) =
      let rest = length_from workers (session_behind s (kind_of words l)) ls in
      let same = over_first s l ls (length ls) in
      let e = ap (λ (t : Session R). length (ending t)) same in
      omega (arith, rest, e)

  same_length : (workers : ℕ) (lines : List (List ℕ)) → length (kinds_of words workers lines) ≡ length (kinds_from words workers Outside lines)
  same_length workers [] = refl
  same_length workers (l ∷ ls) = headed-length words workers l ls (head_line l) refl

  pub length_kinds : (workers : ℕ) (lines : List (List ℕ)) → length (kinds_of words workers lines) ≡ length lines + length (ending (session_at words lines (length lines)))
  length_kinds workers lines = same_length workers lines ∙ length_from workers Outside lines ∙ ap (λ (s : Session R). length lines + length (ending s)) (over_at lines (length lines))

  end_from : (workers : ℕ) (s : Session R) (lines : List (List ℕ)) → get_or (kinds_from words workers s lines) (length lines) Bad ≡ Bad
  end_from workers Outside [] = refl
  end_from workers InBulk [] = refl
  end_from workers (InLimit limit) [] = refl
  end_from workers s (l ∷ ls) = end_from workers (session_behind s (kind_of words l)) ls

  pub end_kinds : (workers : ℕ) (lines : List (List ℕ)) → get_or (kinds_of words workers lines) (length lines) Bad ≡ Bad
  end_kinds workers [] = refl
  end_kinds workers (l ∷ ls) = headed-rest words workers l ls (head_line l) refl (length ls) ∙ end_from workers Outside (l ∷ ls)

  -- where no line is bad the commands stand where they may
  place_first : (workers m file : ℕ) (s : Session R) (ls : List (List ℕ)) (k : LineKind R) → bad_or (λ name. true) m (placed words workers s k) (first_bad (m + 1) (kinds_from words workers (session_behind s k) ls)) ≡ None
      → ((g : ℕ) → first_bad (m + 1) (kinds_from words workers (session_behind s k) ls) ≡ None → are_in_place words workers (session_behind s k) (commands_in (numbered_from (m + 1) g (kinds_from words workers (session_behind s k) ls))) ≡ true)
      → are_in_place words workers s (commands_in (before_bad m file (placed words workers s k) (numbered_from (m + 1) (file_after file (placed words workers s k)) (kinds_from words workers (session_behind s k) ls)))) ≡ true
  place_first workers m file s ls Skipped e rest = rest file e
  place_first workers m file s ls (Plain c) e rest = by_test (may_stand words workers s c) refl e
    where
      by_test : (t : Bool) → may_stand words workers s c ≡ t → bad_or (λ name. true) m (cond t (Plain c) Bad) (first_bad (m + 1) (kinds_from words workers (unwrap_or (turn_of c) s) ls)) ≡ None
          → are_in_place words workers s (commands_in (before_bad m file (cond t (Plain c) Bad) (numbered_from (m + 1) (file_after file (cond t (Plain c) Bad)) (kinds_from words workers (unwrap_or (turn_of c) s) ls)))) ≡ true
      by_test true is e = and_from (may_stand words workers s c) (are_in_place words workers (unwrap_or (turn_of c) s) (commands_in (numbered_from (m + 1) file (kinds_from words workers (unwrap_or (turn_of c) s) ls)))) is (rest file e)
      by_test false is e = cc
  place_first workers m file s ls (OfFile name) e rest = by_test (is_outside s) refl e
    where
      by_test : (t : Bool) → is_outside s ≡ t → bad_or {R = R} (λ name. true) m (cond t (OfFile name) Bad) (first_bad (m + 1) (kinds_from words workers s ls)) ≡ None
          → are_in_place words workers s (commands_in (before_bad {R = R} m file (cond t (OfFile name) Bad) (numbered_from (m + 1) (file_after {R = R} file (cond t (OfFile name) Bad)) (kinds_from words workers s ls)))) ≡ true
      by_test true is e = and_from (is_outside s) (are_in_place words workers s (commands_in (numbered_from (m + 1) (file + 1) (kinds_from words workers s ls)))) is (rest (file + 1) e)
      by_test false is e = cc
  place_first workers m file s ls Bad e rest = cc

  place_from : (workers m file : ℕ) (s : Session R) (lines : List (List ℕ)) → first_bad m (kinds_from words workers s lines) ≡ None → are_in_place words workers s (commands_in (numbered_from m file (kinds_from words workers s lines))) ≡ true
  place_from workers m file Outside [] e = refl
  place_from workers m file InBulk [] e = cc
  place_from workers m file (InLimit limit) [] e = cc
  place_from workers m file s (l ∷ ls) e = place_first workers m file s ls (kind_of words l) e (λ (g : ℕ). place_from workers (m + 1) g (session_behind s (kind_of words l)) ls)

  pub all_in_place : (workers : ℕ) (lines : List (List ℕ)) → first_bad 1 (kinds_of words workers lines) ≡ None → are_in_place words workers Outside (commands_in (numbered_of 1 (kinds_of words workers lines))) ≡ true
  all_in_place workers [] e = refl
  all_in_place workers (l ∷ ls) e = by_head (head_line l) e
    where
      by_head : (o : Option Head) → first_bad 1 (headed words workers o l ls) ≡ None → are_in_place words workers Outside (commands_in (numbered_of 1 (headed words workers o l ls))) ≡ true
      by_head None e = place_from workers 1 0 Outside (l ∷ ls) e
      by_head (Some head) e = place_from workers 2 0 Outside ls e

module _ {R : Type 0} (words : Words R) (laws : Laws words) where
  proper_placed : (workers : ℕ) (s : Session R) (line : List ℕ) (k : LineKind R) → kind_of words line ≡ k → IsProper (placed words workers s k)
  proper_placed workers s line Skipped is = tt
  proper_placed workers s line (Plain command) is = proper_if (may_stand words workers s command) (Plain command) (file_in-Reads words laws line command (Reads-Plain words laws line command is))
  proper_placed workers s line (OfFile name) is = proper_if (is_outside s) (OfFile name) tt
  proper_placed workers s line Bad is = tt

  proper_from : (workers : ℕ) (s : Session R) (lines : List (List ℕ)) → Each IsProper (kinds_from words workers s lines)
  proper_from workers Outside [] = tt
  proper_from workers InBulk [] = (tt, tt)
  proper_from workers (InLimit limit) [] = (tt, tt)
  proper_from workers s (l ∷ ls) = (proper_placed workers s l (kind_of words l) refl, proper_from workers (session_behind s (kind_of words l)) ls)

  pub all_proper : (workers : ℕ) (lines : List (List ℕ)) → Each IsProper (kinds_of words workers lines)
  all_proper workers [] = tt
  all_proper workers (l ∷ ls) = by_head (head_line l)
    where
      by_head : (o : Option Head) → Each IsProper (headed words workers o l ls)
      by_head None = proper_from workers Outside (l ∷ ls)
      by_head (Some head) = (tt, proper_from workers Outside ls)
