-- The first bad line by lines and files together: of a script that was read, and of its bytes.
use Rattle.std.proofs.Common.{◌≡◌, ◌⊎◌, ℕ, Bool, true, cond, ◌+◌, inl, inr, zero, suc, List, [], ◌∷◌, ◌++◌, length, Option, Some, None, All, IfSome, ◌<◌, refl, sym, ap, ◌∙◌, subst, arith}
use Rattle.std.specs.List.{AllByRecursion as Each}
use Rattle.ppq_outside.specs.Told.{Reply}
use Rattle.ppq_script.specs.declared.numbered.Numbered.{Numbered}
use Rattle.ppq_script.specs.Lines.{LineKind, Skipped, Plain, OfFile, Bad, kinds_of, numbered_from, names_of, first_bad, first_bad_by}
use Rattle.ppq_script.specs.Sessions.{are_in_place}
use Rattle.ppq_script.specs.Files.{file_in, NamesFile, usable_file, bad_among, FoundFile, NoFile, IsFound, IsNotFound, IsBadAmong, IsBadLine}
use Rattle.ppq_script.specs.declared.session.Session.TheVariants.{Outside}
use Rattle.ppq_script.specs.Words.{Words}
use Rattle.ppq_script.proofs.WordLaws.{Laws}
use Rattle.ppq_script.proofs.Standing.{IsProper, all_proper, commands_in, all_in_place}
use Rattle.ppq_script.proofs.NamesOf.{names_more, file_more, name_here, name_there}

at_first_or : {X : Type 0} (P : X → Type 0) (x : X) (xs : List X) → P x → All P xs → All P (x ∷ xs)
at_first_or P x xs first rest zero d below = first
at_first_or P x xs first rest (suc k) d below = rest k d (omega (arith, below))

Each-All : {X : Type 0} (P : X → Type 0) (xs : List X) → Each P xs → All P xs
Each-All P [] h = λ k d below. absurd (omega (arith, below))
Each-All P (x ∷ xs) h = at_first_or P x xs h.0 (Each-All P xs h.1)

module _ {R : Type 0} (words : Words R) (laws : Laws words) where
  bad_from : (usable : List ℕ → Bool) (names pre : List (List ℕ)) (file n : ℕ) (kinds : List (LineKind R)) → Each IsProper kinds → file ≡ length pre → names ≡ pre ++ names_of kinds
      → bad_among usable names (numbered_from n file kinds) (first_bad n kinds) ≡ first_bad_by usable n kinds
  bad_from usable names pre file n [] all f e = refl
  bad_from usable names pre file n (Skipped ∷ ks) all f e = bad_from usable names pre file (n + 1) ks all.1 f e
  bad_from usable names pre file n (Plain c ∷ ks) all f e =
      ap (λ (o : Option (ℕ × ℕ)). cond (usable_file usable names o) (bad_among usable names (numbered_from (n + 1) file ks) (first_bad (n + 1) ks)) (Some n)) all.0
      ∙ bad_from usable names pre file (n + 1) ks all.1 f e
  bad_from usable names pre file n (OfFile name ∷ ks) all f e =
      ap (λ (m : List ℕ). cond (usable m) (bad_among usable names (numbered_from (n + 1) (file + 1) ks) (first_bad (n + 1) ks)) (Some n)) (name_here names pre name (names_of ks) file f e)
      ∙ ap (λ (bad : Option ℕ). cond (usable name) bad (Some n)) (bad_from usable names (pre ++ name ∷ []) (file + 1) (n + 1) ks all.1 (file_more pre name file f) (names_more names pre name (names_of ks) e))
  bad_from usable names pre file n (Bad ∷ ks) all f e = refl

  -- the two agree
  pub bad_among-first_bad_by : (usable : List ℕ → Bool) (workers : ℕ) (lines : List (List ℕ))
      → bad_among usable (names_of (kinds_of words workers lines)) (numbered_from 1 0 (kinds_of words workers lines)) (first_bad 1 (kinds_of words workers lines)) ≡ first_bad_by usable 1 (kinds_of words workers lines)
  bad_among-first_bad_by usable workers lines = bad_from usable (names_of (kinds_of words workers lines)) [] 0 1 (kinds_of words workers lines) (all_proper words laws workers lines) refl refl

  -- and so by a library's replies
  no_file : (replied : Reply → Type 0) (names : List (List ℕ)) (n line : ℕ) (o : Option (ℕ × ℕ)) (rest : Type 0) → o ≡ None → (FoundFile words replied names o × rest) ⊎ ((n ≡ line) × NoFile words replied names o) → rest
  no_file replied names n line None rest is (inl h) = h.1
  no_file replied names n line None rest is (inr h) = absurd h.1
  no_file replied names n line (Some file) rest is h = cc

  bad_replied : (replied : Reply → Type 0) (names pre : List (List ℕ)) (file n : ℕ) (kinds : List (LineKind R)) (line : ℕ) → Each IsProper kinds → file ≡ length pre → names ≡ pre ++ names_of kinds
      → IsBadAmong words replied names (numbered_from n file kinds) (first_bad n kinds) line → IsBadLine words replied n kinds line
  bad_replied replied names pre file n [] line all f e h = cc
  bad_replied replied names pre file n (Skipped ∷ ks) line all f e h = bad_replied replied names pre file (n + 1) ks line all.1 f e h
  bad_replied replied names pre file n (Plain c ∷ ks) line all f e h =
      bad_replied replied names pre file (n + 1) ks line all.1 f e (no_file replied names n line (file_in c) (IsBadAmong words replied names (numbered_from (n + 1) file ks) (first_bad (n + 1) ks) line) all.0 h)
  bad_replied replied names pre file n (OfFile name ∷ ks) line all f e (inl h) =
      inl (subst (IsFound words replied) (name_here names pre name (names_of ks) file f e) h.0, bad_replied replied names (pre ++ name ∷ []) (file + 1) (n + 1) ks line all.1 (file_more pre name file f) (names_more names pre name (names_of ks) e) h.1)
  bad_replied replied names pre file n (OfFile name ∷ ks) line all f e (inr h) = inr (h.0, subst (IsNotFound words replied) (name_here names pre name (names_of ks) file f e) h.1)
  bad_replied replied names pre file n (Bad ∷ ks) line all f e h = cc

  pub IsBadLine-IsBadAmong : (replied : Reply → Type 0) (workers : ℕ) (lines : List (List ℕ)) (line : ℕ)
      → IsBadAmong words replied (names_of (kinds_of words workers lines)) (numbered_from 1 0 (kinds_of words workers lines)) (first_bad 1 (kinds_of words workers lines)) line → IsBadLine words replied 1 (kinds_of words workers lines) line
  IsBadLine-IsBadAmong replied workers lines line h = bad_replied replied (names_of (kinds_of words workers lines)) [] 0 1 (kinds_of words workers lines) line (all_proper words laws workers lines) refl refl h

  -- the files of the commands are among the names
  each_names : (names pre : List (List ℕ)) (file n : ℕ) (kinds : List (LineKind R)) → Each IsProper kinds → file ≡ length pre → names ≡ pre ++ names_of kinds → Each (λ item. NamesFile (length names) item.command) (numbered_from n file kinds)
  each_names names pre file n [] all f e = tt
  each_names names pre file n (Skipped ∷ ks) all f e = each_names names pre file (n + 1) ks all.1 f e
  each_names names pre file n (Plain c ∷ ks) all f e = (subst (λ (o : Option (ℕ × ℕ)). IfSome o (λ file. file.0 < length names)) (sym all.0) tt, each_names names pre file (n + 1) ks all.1 f e)
  each_names names pre file n (OfFile name ∷ ks) all f e =
      (name_there names pre name (names_of ks) file f e, each_names names (pre ++ name ∷ []) (file + 1) (n + 1) ks all.1 (file_more pre name file f) (names_more names pre name (names_of ks) e))
  each_names names pre file n (Bad ∷ ks) all f e = tt

  pub all_named : (workers : ℕ) (lines : List (List ℕ)) → All (λ item. NamesFile (length (names_of (kinds_of words workers lines))) item.command) (numbered_from 1 0 (kinds_of words workers lines))
  all_named workers lines =
      let names = names_of (kinds_of words workers lines) in
      Each-All (λ item. NamesFile (length names) item.command) (numbered_from 1 0 (kinds_of words workers lines)) (each_names names [] 0 1 (kinds_of words workers lines) (all_proper words laws workers lines) refl refl)

  -- the same of the parts that were read
  pub parts_named : (workers : ℕ) (lines : List (List ℕ)) (commands : List (Numbered R)) (names : List (List ℕ)) (files : ℕ) → numbered_from 1 0 (kinds_of words workers lines) ≡ commands → names_of (kinds_of words workers lines) ≡ names → length names ≡ files
      → All (λ item. NamesFile files item.command) commands
  parts_named workers lines commands names files e n l =
      subst (λ (f : ℕ). All (λ item. NamesFile f item.command) commands) (ap length n ∙ l)
      (subst (λ (cs : List (Numbered R)). All (λ item. NamesFile (length (names_of (kinds_of words workers lines))) item.command) cs) e (all_named workers lines))

  pub parts_in_place : (workers : ℕ) (lines : List (List ℕ)) (commands : List (Numbered R)) (bad : Option ℕ) → numbered_from 1 0 (kinds_of words workers lines) ≡ commands → first_bad 1 (kinds_of words workers lines) ≡ bad
      → bad ≡ None → are_in_place words workers Outside (commands_in commands) ≡ true
  parts_in_place workers lines commands bad e b none = subst (λ (cs : List (Numbered R)). are_in_place words workers Outside (commands_in cs) ≡ true) e (all_in_place words workers lines (b ∙ none))

  pub parts_files : (usable : List ℕ → Bool) (workers : ℕ) (lines : List (List ℕ)) (commands : List (Numbered R)) (names : List (List ℕ)) (bad : Option ℕ) → numbered_from 1 0 (kinds_of words workers lines) ≡ commands → names_of (kinds_of words workers lines) ≡ names
      → first_bad 1 (kinds_of words workers lines) ≡ bad → bad_among usable names commands bad ≡ first_bad_by usable 1 (kinds_of words workers lines)
  parts_files usable workers lines commands names bad e n b =
      let kinds = kinds_of words workers lines in
      let all = first_bad_by usable 1 kinds in
      subst (λ (o : Option ℕ). bad_among usable names commands o ≡ all) b
      (subst (λ (cs : List (Numbered R)). bad_among usable names cs (first_bad 1 kinds) ≡ all) e
      (subst (λ (ns : List (List ℕ)). bad_among usable ns (numbered_from 1 0 kinds) (first_bad 1 kinds) ≡ all) n (bad_among-first_bad_by usable workers lines)))
