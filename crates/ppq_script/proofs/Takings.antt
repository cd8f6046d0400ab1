-- Lemmas on reading one line after the other.
use Rattle.std.proofs.Common.{◌≡◌, ℕ, cond, ◌+◌, List, [], ◌∷◌, ◌++◌, length, Option, Some, None, inl, inr, refl, sym, ap, ap₂, ◌∙◌, subst, arith, append-nil}
use Rattle.ppq_script.specs.declared.numbered.Numbered.{Numbered}
use Rattle.ppq_script.specs.declared.session.Session.{Session}
use Rattle.ppq_script.specs.declared.session.Session.TheVariants.{Outside, InBulk, InLimit}
use Rattle.ppq_script.specs.Sessions.{is_outside}
use Rattle.ppq_script.specs.Lines.{LineKind, Skipped, Bad, lines_of, kind_of, session_behind, placed, kinds_from, headed, kinds_of, head_at, file_after, numbered_from, names_of, first_bad}
use Rattle.ppq_script.specs.Taken.{IsTaken, IsBehindHead}
use Rattle.ppq_script.specs.declared.head.Head.{Head}
use Rattle.ppq_script.specs.Words.{Words}

-- no line is left
pub nothing_left : (rest : List ℕ) → length rest ≡ 0 → rest ≡ []
nothing_left [] e = refl
nothing_left (b ∷ bs) e = absurd (omega (arith, e))

module _ {R : Type 0} (words : Words R) where
  -- these lines were taken: what is left begins with this line, in this session
  abbrev pub Fronts : ℕ → List ℕ → ℕ → Session R → List ℕ → List (Numbered R) → List (List ℕ) → Type 0
  Fronts workers bytes line session rest commands names =
      (numbered_from 1 0 (kinds_of words workers (lines_of bytes)) ≡ commands ++ numbered_from line (length names) (kinds_from words workers session (lines_of rest)))
      × ((names_of (kinds_of words workers (lines_of bytes)) ≡ names ++ names_of (kinds_from words workers session (lines_of rest)))
      × (first_bad 1 (kinds_of words workers (lines_of bytes)) ≡ first_bad line (kinds_from words workers session (lines_of rest))))

  -- none was, or the head alone
  abbrev AreLeft : List (LineKind R) → ℕ → List (LineKind R) → Type 0
  AreLeft all line left = (numbered_from 1 0 all ≡ numbered_from line 0 left) × ((names_of all ≡ names_of left) × (first_bad 1 all ≡ first_bad line left))

  no_head : (workers : ℕ) (lines : List (List ℕ)) → head_at lines ≡ None → kinds_of words workers lines ≡ kinds_from words workers Outside lines
  no_head workers [] e = refl
  no_head workers (l ∷ ls) e = ap (λ (o : Option Head). headed words workers o l ls) e

  pub fronts_first : (workers : ℕ) (bytes rest : List ℕ) (line : ℕ) → IsBehindHead (lines_of bytes) (lines_of rest) line → Fronts workers bytes line Outside rest [] []
  fronts_first workers bytes rest line (inl (none, (all, one))) =
      let kinds = kinds_from words workers Outside (lines_of bytes) in
      let same : AreLeft kinds 1 kinds = (refl, (refl, refl)) in
      let here : AreLeft kinds line kinds = subst (λ (n : ℕ). AreLeft kinds n kinds) (sym one) same in
      let left : AreLeft kinds line (kinds_from words workers Outside (lines_of rest)) = subst (λ (ls : List (List ℕ)). AreLeft kinds line (kinds_from words workers Outside ls)) (sym all) here in
      subst (λ (ks : List (LineKind R)). AreLeft ks line (kinds_from words workers Outside (lines_of rest))) (sym (no_head workers (lines_of bytes) none)) left
  fronts_first workers bytes rest line (inr (first, (head, (is, (whole, two))))) =
      let left = kinds_from words workers Outside (lines_of rest) in
      let same : AreLeft (Skipped ∷ left) 2 left = (refl, (refl, refl)) in
      let here : AreLeft (Skipped ∷ left) line left = subst (λ (n : ℕ). AreLeft (Skipped ∷ left) n left) (sym two) same in
      let kinds : kinds_of words workers (lines_of bytes) ≡ Skipped ∷ left = ap (kinds_of words workers) whole ∙ ap (λ (o : Option Head). headed words workers o first (lines_of rest)) is in
      subst (λ (ks : List (LineKind R)). AreLeft ks line left) (sym kinds) here

  -- the first line of the rest was taken
  pub fronts_more : (workers : ℕ) (bytes rest text after : List ℕ) (line : ℕ) (session next : Session R) (what here : LineKind R) (had has : List (Numbered R)) (knew knows : List (List ℕ))
      → Fronts workers bytes line session rest had knew → lines_of rest ≡ text ∷ lines_of after → what ≡ kind_of words text → here ≡ placed words workers session what → next ≡ session_behind session what → IsTaken line here had knew has knows
      → Fronts workers bytes (line + 1) next after has knows
  fronts_more workers bytes rest text after line session next what here had has knew knows h cut is place then taken = (
    h.0 ∙ ap (λ (ks : List (LineKind R)). had ++ numbered_from line (length knew) ks) kinds ∙ taken.commands (numbered_from (line + 1) (file_after (length knew) here) (kinds_from words workers next (lines_of after)))
        ∙ ap (λ (f : ℕ). has ++ numbered_from (line + 1) f (kinds_from words workers next (lines_of after))) taken.file,
    (
      h.1.0 ∙ ap (λ (ks : List (LineKind R)). knew ++ names_of ks) kinds ∙ taken.names (names_of (kinds_from words workers next (lines_of after))),
      h.1.1 ∙ ap (first_bad line) kinds ∙ taken.good (first_bad (line + 1) (kinds_from words workers next (lines_of after))),
    ),
  )
    where
      kinds : kinds_from words workers session (lines_of rest) ≡ here ∷ kinds_from words workers next (lines_of after)
      kinds =
          ap (kinds_from words workers session) cut
          ∙ ap₂ (λ (k : LineKind R) (s : Session R). k ∷ kinds_from words workers s (lines_of after)) (sym (place ∙ ap (placed words workers session) is)) (sym (then ∙ ap (session_behind session) is))

  -- it is bad, and so the last
  pub fronts_bad : (workers : ℕ) (bytes rest text after : List ℕ) (line : ℕ) (session : Session R) (what here : LineKind R) (had : List (Numbered R)) (knew : List (List ℕ))
      → Fronts workers bytes line session rest had knew → lines_of rest ≡ text ∷ lines_of after → what ≡ kind_of words text → here ≡ placed words workers session what → here ≡ Bad
      → (numbered_from 1 0 (kinds_of words workers (lines_of bytes)) ≡ had) × ((names_of (kinds_of words workers (lines_of bytes)) ≡ knew) × (first_bad 1 (kinds_of words workers (lines_of bytes)) ≡ Some line))
  fronts_bad workers bytes rest text after line session what here had knew h cut is place bad = (
    h.0 ∙ ap (λ (ks : List (LineKind R)). had ++ numbered_from line (length knew) ks) kinds ∙ append-nil had,
    (h.1.0 ∙ ap (λ (ks : List (LineKind R)). knew ++ names_of ks) kinds ∙ append-nil knew, h.1.1 ∙ ap (first_bad line) kinds),
  )
    where
      kinds : kinds_from words workers session (lines_of rest) ≡ Bad ∷ kinds_from words workers (session_behind session (kind_of words text)) (lines_of after)
      kinds =
          ap (kinds_from words workers session) cut
          ∙ ap (λ (k : LineKind R). k ∷ kinds_from words workers (session_behind session (kind_of words text)) (lines_of after)) (sym (sym bad ∙ place ∙ ap (placed words workers session) is))

  -- behind the last line a session is open, or none
  end_names : (workers : ℕ) (session : Session R) → names_of (kinds_from words workers session []) ≡ []
  end_names workers Outside = refl
  end_names workers InBulk = refl
  end_names workers (InLimit limit) = refl

  end_commands : (workers line file : ℕ) (session : Session R) → numbered_from line file (kinds_from words workers session []) ≡ []
  end_commands workers line file Outside = refl
  end_commands workers line file InBulk = refl
  end_commands workers line file (InLimit limit) = refl

  end_bad : (workers line : ℕ) (session : Session R) → first_bad line (kinds_from words workers session []) ≡ cond (is_outside session) None (Some line)
  end_bad workers line Outside = refl
  end_bad workers line InBulk = refl
  end_bad workers line (InLimit limit) = refl

  pub fronts_end : (workers : ℕ) (bytes rest : List ℕ) (line : ℕ) (session : Session R) (had : List (Numbered R)) (knew : List (List ℕ)) → Fronts workers bytes line session rest had knew → rest ≡ []
      → (numbered_from 1 0 (kinds_of words workers (lines_of bytes)) ≡ had) × ((names_of (kinds_of words workers (lines_of bytes)) ≡ knew) × (first_bad 1 (kinds_of words workers (lines_of bytes)) ≡ cond (is_outside session) None (Some line)))
  fronts_end workers bytes rest line session had knew h empty = (
    h.0 ∙ ap (λ (r : List ℕ). had ++ numbered_from line (length knew) (kinds_from words workers session (lines_of r))) empty ∙ ap (λ (items : List (Numbered R)). had ++ items) (end_commands workers line (length knew) session) ∙ append-nil had,
    (
      h.1.0 ∙ ap (λ (r : List ℕ). knew ++ names_of (kinds_from words workers session (lines_of r))) empty ∙ ap (λ (names : List (List ℕ)). knew ++ names) (end_names workers session) ∙ append-nil knew,
      h.1.1 ∙ ap (λ (r : List ℕ). first_bad line (kinds_from words workers session (lines_of r))) empty ∙ end_bad workers line session,
    ),
  )
