-- Lemmas on the first bad line and the commands before it: what the kinds of lines say of the lines.
use Rattle.std.proofs.Common.{◌≡◌, ◌⊎◌, ℕ, Bool, true, false, cond, ◌+◌, ◌-◌, ◌<◌, ◌≤◌, nat_le, zero, suc, inl, inr, List, [], ◌∷◌, length, get_or, Option, Some, None, refl, sym, ap, ◌∙◌, subst, arith}
use Rattle.std.specs.Prelude.{◌≢◌}
use Rattle.std.specs.List.{AllByRecursion as Each}
use Rattle.std.proofs.lemmas.Bool.{leb-true, leb-false, cases_eq}
use Rattle.ppq_script.specs.declared.command.Command.{Command}
use Rattle.ppq_script.specs.declared.command.Command.TheVariants.{Bulk}
use Rattle.ppq_script.specs.declared.numbered.Numbered.{Numbered}
use Rattle.ppq_script.specs.declared.session.Session.{Session}
use Rattle.ppq_script.specs.declared.session.Session.TheVariants.{Outside, InBulk, InLimit}
use Rattle.ppq_script.specs.Sessions.{is_outside, may_stand}
use Rattle.ppq_script.specs.Lines.{LineKind, Skipped, Plain, OfFile, Bad, kind_of, placed, kinds_of, numbered_of, names_of, first_bad_by, head_line}
use Rattle.ppq_script.specs.declared.head.Head.{Head}
use Rattle.ppq_script.specs.Words.{Words}
use Rattle.ppq_script.specs.Meaning.{Reads, ReadsFile, IsSession, IsGoodIn, IsBadIn, IsGood, IsBad, IsOpen, IsFirstBad, AreGood, IsBefore, HasLine, Asks, AsksFile, AreCommands, AsksNothing, IsHead, IsHeadLine, line_at}
use Rattle.ppq_script.proofs.WordLaws.{Laws}
use Rattle.ppq_script.proofs.Heads.{IsHead-head_line, head_line-IsHead}
use Rattle.ppq_script.proofs.Spelling.{Reads-Plain, Plain-Reads, file_in-Reads, ReadsFile-OfFile, OfFile-ReadsFile, IsBlankOrComment-Skipped, Skipped-IsBlankOrComment}
use Rattle.ppq_script.proofs.Sessions.{session_at, IsSession-at, at-IsSession, Stands-may_stand, may_stand-Stands}
use Rattle.ppq_script.proofs.Standing.{kind_at, length_kinds, end_kinds, head_at_first, ending, ends_outside, outside_ends, open_ends, few_ends}
use Rattle.ppq_script.proofs.BadKinds.{is_good, FirstBadFrom, is_first_bad, first_bad_is, all_good, first_bad-all_good, each_good, good_each, AsksOf, IsAt, each_at, IsFoundAt, each_found, rises}

outside_is : {R : Type 0} (s : Session R) → is_outside s ≡ true → s ≡ Outside
outside_is Outside e = refl
outside_is InBulk e = cc
outside_is (InLimit limit) e = cc

module _ {R : Type 0} (words : Words R) (laws : Laws words) where
  -- a line in its session
  same_command : (line : List ℕ) (c d : Command R) → kind_of words line ≡ Plain c → Reads words line d → c ≡ d
  same_command line c d is h = let k = Plain-Reads words laws line d h in cc

  same_name : (line name other : List ℕ) → kind_of words line ≡ OfFile name → ReadsFile line other → name ≡ other
  same_name line name other is h = let k = OfFile-ReadsFile words line other h in cc

  -- it is good, or bad, as its kind is where it stands
  good_in : (usable : List ℕ → Bool) (workers : ℕ) (s : Session R) (line : List ℕ) (k : LineKind R) → kind_of words line ≡ k → is_good usable (placed words workers s k) ≡ true → IsGoodIn words usable workers s line
  good_in usable workers s line Skipped is e = inl (IsBlankOrComment-Skipped words line is)
  good_in usable workers s line (Plain c) is e = by_test (may_stand words workers s c) refl e
    where
      by_test : (t : Bool) → may_stand words workers s c ≡ t → is_good usable (cond t (Plain c) Bad) ≡ true → IsGoodIn words usable workers s line
      by_test true stands e = inr (inl (c, (Reads-Plain words laws line c is, Stands-may_stand words laws workers s c stands)))
      by_test false stands e = cc
  good_in usable workers s line (OfFile name) is e = by_test (is_outside s) refl e
    where
      by_test : (t : Bool) → is_outside s ≡ t → is_good {R = R} usable (cond t (OfFile name) Bad) ≡ true → IsGoodIn words usable workers s line
      by_test true out e = inr (inr (name, (ReadsFile-OfFile words line name is, (outside_is s out, e))))
      by_test false out e = cc
  good_in usable workers s line Bad is e = cc

  bad_in : (usable : List ℕ → Bool) (workers : ℕ) (s : Session R) (line : List ℕ) (k : LineKind R) → kind_of words line ≡ k → is_good usable (placed words workers s k) ≡ false → IsBadIn words usable workers s line
  bad_in usable workers s line Skipped is e = cc
  bad_in usable workers s line (Plain c) is e = by_test (may_stand words workers s c) refl e
    where
      by_test : (t : Bool) → may_stand words workers s c ≡ t → is_good usable (cond t (Plain c) Bad) ≡ false → IsBadIn words usable workers s line
      by_test true stands e = cc
      by_test false stands e = record {
        not_skipped = λ h. (let k = Skipped-IsBlankOrComment words line h in cc);
        no_command = λ d reads h. (let may = may_stand-Stands words laws workers s d h in let same = same_command line c d is reads in cc);
        no_file = λ name reads out. (let k = OfFile-ReadsFile words line name reads in cc);
      }
  bad_in usable workers s line (OfFile name) is e = by_test (is_outside s) refl e
    where
      by_test : (t : Bool) → is_outside s ≡ t → is_good {R = R} usable (cond t (OfFile name) Bad) ≡ false → IsBadIn words usable workers s line
      by_test true out e = record {
        not_skipped = λ h. (let k = Skipped-IsBlankOrComment words line h in cc);
        no_command = λ d reads h. (let k = Plain-Reads words laws line d reads in cc);
        no_file = λ other reads there. subst (λ (n : List ℕ). usable n ≡ false) (same_name line name other is reads) e;
      }
      by_test false out e = record {
        not_skipped = λ h. (let k = Skipped-IsBlankOrComment words line h in cc);
        no_command = λ d reads h. (let k = Plain-Reads words laws line d reads in cc);
        no_file = λ other reads there. (let outside = ap is_outside there in cc);
      }
  bad_in usable workers s line Bad is e = record {
    not_skipped = λ h. (let k = Skipped-IsBlankOrComment words line h in cc);
    no_command = λ d reads h. (let k = Plain-Reads words laws line d reads in cc);
    no_file = λ name reads there. (let k = OfFile-ReadsFile words line name reads in cc);
  }

  bad_not_good : (usable : List ℕ → Bool) (workers : ℕ) (s : Session R) (line : List ℕ) → IsBadIn words usable workers s line → IsGoodIn words usable workers s line → ⊥
  bad_not_good usable workers s line bad (inl skipped) = bad.not_skipped skipped
  bad_not_good usable workers s line bad (inr (inl command)) = bad.no_command command.0 command.1.0 command.1.1
  bad_not_good usable workers s line bad (inr (inr file)) = let is = bad.no_file file.0 file.1.0 file.1.1.0 in let not = file.1.1.1 in cc

  in_good : (usable : List ℕ → Bool) (workers : ℕ) (s : Session R) (line : List ℕ) → IsGoodIn words usable workers s line → is_good usable (placed words workers s (kind_of words line)) ≡ true
  in_good usable workers s line h = by_test (is_good usable (placed words workers s (kind_of words line))) refl
    where
      by_test : (t : Bool) → is_good usable (placed words workers s (kind_of words line)) ≡ t → t ≡ true
      by_test true e = refl
      by_test false e = absurd (bad_not_good usable workers s line (bad_in usable workers s line (kind_of words line) refl e) h)

  in_bad : (usable : List ℕ → Bool) (workers : ℕ) (s : Session R) (line : List ℕ) → IsBadIn words usable workers s line → is_good usable (placed words workers s (kind_of words line)) ≡ false
  in_bad usable workers s line h = by_test (is_good usable (placed words workers s (kind_of words line))) refl
    where
      by_test : (t : Bool) → is_good usable (placed words workers s (kind_of words line)) ≡ t → t ≡ false
      by_test true e = absurd (bad_not_good usable workers s line h (good_in usable workers s line (kind_of words line) refl e))
      by_test false e = refl

  -- a line by its number
  session_of_line : (lines : List (List ℕ)) (n : ℕ) → 1 ≤ n → IsSession words lines n (session_at words lines (n - 1))
  session_of_line lines n some = let e : (n - 1) + 1 ≡ n = omega (arith, some) in subst (λ (m : ℕ). IsSession words lines m (session_at words lines (n - 1))) e (IsSession-at words laws lines (n - 1))

  -- whether it is the head
  head_case : (lines : List (List ℕ)) (n : ℕ) → IsHeadLine lines n ⊎ (¬ IsHeadLine lines n)
  head_case lines n = elim (cases_eq n 1) as (λ _. IsHeadLine lines n ⊎ (¬ IsHeadLine lines n)) [
    | inl e ↦ by_line e (head_line (line_at lines n)) refl
    | inr e ↦ inr (λ head. e head.0)
  ]
    where
      by_line : n ≡ 1 → (o : Option Head) → head_line (line_at lines n) ≡ o → IsHeadLine lines n ⊎ (¬ IsHeadLine lines n)
      by_line e None is = inr (λ head. (let some = head_line-IsHead (line_at lines n) head.1.0 head.1.1 in cc))
      by_line e (Some head) is = inl (e, (head, IsHead-head_line (line_at lines n) head is))

  head_kind : (workers : ℕ) (lines : List (List ℕ)) (n : ℕ) → IsHeadLine lines n → get_or (kinds_of words workers lines) (n - 1) Bad ≡ Skipped
  head_kind workers lines n (e, (head, is)) =
      let first : n - 1 ≡ 0 = omega (arith, e) in
      let one : IsHead (line_at lines 1) head = subst (λ (m : ℕ). IsHead (line_at lines m) head) e is in
      ap (λ (i : ℕ). get_or (kinds_of words workers lines) i Bad) first ∙ head_at_first words workers lines head (head_line-IsHead (line_at lines 1) head one)

  no_head : (lines : List (List ℕ)) (n : ℕ) → 1 ≤ n → (¬ IsHeadLine lines n) → n - 1 ≡ 0 → head_line (get_or lines 0 []) ≡ None
  no_head lines n some not z = by_line (head_line (line_at lines 1)) refl
    where
      by_line : (o : Option Head) → head_line (line_at lines 1) ≡ o → head_line (get_or lines 0 []) ≡ None
      by_line None is = is
      by_line (Some head) is =
          let one : n ≡ 1 = omega (arith, some, z) in
          absurd (not (one, (head, subst (λ (m : ℕ). IsHead (line_at lines m) head) (sym one) (IsHead-head_line (line_at lines 1) head is))))

  kind_of_line : (workers : ℕ) (lines : List (List ℕ)) (n : ℕ) → 1 ≤ n → n ≤ length lines → (¬ IsHeadLine lines n) → get_or (kinds_of words workers lines) (n - 1) Bad ≡ placed words workers (session_at words lines (n - 1)) (kind_of words (line_at lines n))
  kind_of_line workers lines n some there not = kind_at words workers lines (n - 1) (omega (arith, some, there)) (no_head lines n some not)

  good_line : (usable : List ℕ → Bool) (workers : ℕ) (lines : List (List ℕ)) (n : ℕ) → 1 ≤ n → n ≤ length lines → is_good usable (get_or (kinds_of words workers lines) (n - 1) Bad) ≡ true → IsGood words usable workers lines n
  good_line usable workers lines n some there e = by_head (head_case lines n)
    where
      by_head : IsHeadLine lines n ⊎ (¬ IsHeadLine lines n) → IsGood words usable workers lines n
      by_head (inl head) = inl head
      by_head (inr not) =
          inr (session_at words lines (n - 1), (session_of_line lines n some, good_in usable workers (session_at words lines (n - 1)) (line_at lines n) (kind_of words (line_at lines n)) refl (ap (is_good usable) (sym (kind_of_line workers lines n some there not)) ∙ e)))

  line_good : (usable : List ℕ → Bool) (workers : ℕ) (lines : List (List ℕ)) (n : ℕ) → 1 ≤ n → n ≤ length lines → IsGood words usable workers lines n → is_good usable (get_or (kinds_of words workers lines) (n - 1) Bad) ≡ true
  line_good usable workers lines n some there good = by_head (head_case lines n) good
    where
      by_head : IsHeadLine lines n ⊎ (¬ IsHeadLine lines n) → IsGood words usable workers lines n → is_good usable (get_or (kinds_of words workers lines) (n - 1) Bad) ≡ true
      by_head (inl head) good = ap (is_good usable) (head_kind workers lines n head)
      by_head (inr not) (inl head) = absurd (not head)
      by_head (inr not) (inr (s, (before, good))) =
          ap (is_good usable) (kind_of_line workers lines n some there not)
          ∙ in_good usable workers (session_at words lines (n - 1)) (line_at lines n) (subst (λ (t : Session R). IsGoodIn words usable workers t (line_at lines n)) (at-IsSession words laws lines n s some before) good)

  bad_line : (usable : List ℕ → Bool) (workers : ℕ) (lines : List (List ℕ)) (n : ℕ) → 1 ≤ n → n ≤ length lines → is_good usable (get_or (kinds_of words workers lines) (n - 1) Bad) ≡ false → IsBad words usable workers lines n
  bad_line usable workers lines n some there e = by_head (head_case lines n)
    where
      by_head : IsHeadLine lines n ⊎ (¬ IsHeadLine lines n) → IsBad words usable workers lines n
      by_head (inl head) = absurd (let good : true ≡ false = sym (ap (is_good usable) (head_kind workers lines n head)) ∙ e in cc)
      by_head (inr not) =
          (not, (session_at words lines (n - 1), (session_of_line lines n some, bad_in usable workers (session_at words lines (n - 1)) (line_at lines n) (kind_of words (line_at lines n)) refl (ap (is_good usable) (sym (kind_of_line workers lines n some there not)) ∙ e))))

  line_bad : (usable : List ℕ → Bool) (workers : ℕ) (lines : List (List ℕ)) (n : ℕ) → 1 ≤ n → n ≤ length lines → IsBad words usable workers lines n → is_good usable (get_or (kinds_of words workers lines) (n - 1) Bad) ≡ false
  line_bad usable workers lines n some there (not, (s, (before, bad))) =
      ap (is_good usable) (kind_of_line workers lines n some there not)
      ∙ in_bad usable workers (session_at words lines (n - 1)) (line_at lines n) (subst (λ (t : Session R). IsBadIn words usable workers t (line_at lines n)) (at-IsSession words laws lines n s some before) bad)

  -- behind the last line
  abbrev last_session : List (List ℕ) → Session R
  last_session lines = session_at words lines (length lines)

  session_behind_all : (lines : List (List ℕ)) (s : Session R) → IsSession words lines (length lines + 1) s → s ≡ last_session lines
  session_behind_all lines s h = at-IsSession words laws lines (length lines + 1) s (omega arith) h ∙ ap (session_at words lines) (let e : (length lines + 1) - 1 ≡ length lines = omega arith in e)

  is_open : (lines : List (List ℕ)) → 1 ≤ length (ending (last_session lines)) → IsOpen words lines
  is_open lines some = (last_session lines, (IsSession-at words laws lines (length lines), λ out. (let none = outside_ends (last_session lines) out in omega (arith, some, none))))

  open_is : (lines : List (List ℕ)) → IsOpen words lines → length (ending (last_session lines)) ≡ 1
  open_is lines (s, (h, other)) = open_ends (last_session lines) (λ out. other (session_behind_all lines s h ∙ out))

  bad_behind_all : (usable : List ℕ → Bool) (workers : ℕ) (lines : List (List ℕ)) (n : ℕ) → n ≡ length lines + 1 → is_good usable (get_or (kinds_of words workers lines) (n - 1) Bad) ≡ false
  bad_behind_all usable workers lines n e =
      let at : n - 1 ≡ length lines = omega (arith, e) in
      ap (λ (i : ℕ). is_good usable (get_or (kinds_of words workers lines) i Bad)) at ∙ ap (is_good usable) (end_kinds words workers lines)

  -- the first bad line
  first_from : (usable : List ℕ → Bool) (workers : ℕ) (lines : List (List ℕ)) (n : ℕ) → FirstBadFrom usable 1 (kinds_of words workers lines) n → (t : Bool) → nat_le n (length lines) ≡ t → IsFirstBad words usable workers lines n
  first_from usable workers lines n h true is =
      let there = leb-true n (length lines) is in
      record {
        from_one = h.from;
        bad = inl (there, bad_line usable workers lines n h.from there h.bad);
        before = λ k low high. good_line usable workers lines k low (omega (arith, high, there)) (h.before k low high);
      }
  first_from usable workers lines n h false is =
      let over = leb-false n (length lines) is in
      let last : n ≡ length lines + 1 = omega (arith, over, h.there, length_kinds words workers lines, few_ends (last_session lines)) in
      record {
        from_one = h.from;
        bad = inr (last, is_open lines (omega (arith, over, h.there, length_kinds words workers lines)));
        before = λ k low high. good_line usable workers lines k low (omega (arith, high, last)) (h.before k low high);
      }

  from_first : (usable : List ℕ → Bool) (workers : ℕ) (lines : List (List ℕ)) (n : ℕ) → IsFirstBad words usable workers lines n → ((n ≤ length lines) × IsBad words usable workers lines n) ⊎ ((n ≡ length lines + 1) × IsOpen words lines)
      → FirstBadFrom usable 1 (kinds_of words workers lines) n
  from_first usable workers lines n h (inl (there, bad)) = record {
    from = h.from_one;
    there = omega (arith, there, length_kinds words workers lines);
    bad = line_bad usable workers lines n h.from_one there bad;
    before = λ k low high. line_good usable workers lines k low (omega (arith, high, there)) (h.before k low high);
  }
  from_first usable workers lines n h (inr (last, unclosed)) = record {
    from = h.from_one;
    there = omega (arith, last, length_kinds words workers lines, open_is lines unclosed);
    bad = bad_behind_all usable workers lines n last;
    before = λ k low high. line_good usable workers lines k low (omega (arith, high, last)) (h.before k low high);
  }

  pub IsFirstBad-first_bad : (usable : List ℕ → Bool) (workers : ℕ) (lines : List (List ℕ)) (n : ℕ) → first_bad_by usable 1 (kinds_of words workers lines) ≡ Some n → IsFirstBad words usable workers lines n
  IsFirstBad-first_bad usable workers lines n e = first_from usable workers lines n (is_first_bad usable 1 (kinds_of words workers lines) n e) (nat_le n (length lines)) refl

  pub first_bad-IsFirstBad : (usable : List ℕ → Bool) (workers : ℕ) (lines : List (List ℕ)) (n : ℕ) → IsFirstBad words usable workers lines n → first_bad_by usable 1 (kinds_of words workers lines) ≡ Some n
  first_bad-IsFirstBad usable workers lines n h = first_bad_is usable 1 (kinds_of words workers lines) n (from_first usable workers lines n h h.bad)

  -- no bad line
  pub AreGood-first_bad : (usable : List ℕ → Bool) (workers : ℕ) (lines : List (List ℕ)) → first_bad_by usable 1 (kinds_of words workers lines) ≡ None → AreGood words usable workers lines
  AreGood-first_bad usable workers lines e =
      let each = each_good usable (kinds_of words workers lines) (all_good usable 1 (kinds_of words workers lines) e) in
      record {
        good = λ n some there. good_line usable workers lines n some there (each (n - 1) (omega (arith, some, there, length_kinds words workers lines)));
        closed = subst (IsSession words lines (length lines + 1)) (ends_outside (last_session lines) (no_end each (length (ending (last_session lines))) refl)) (IsSession-at words laws lines (length lines));
      }
    where
      no_end : ((i : ℕ) → i < length (kinds_of words workers lines) → is_good usable (get_or (kinds_of words workers lines) i Bad) ≡ true) → (more : ℕ) → length (ending (last_session lines)) ≡ more → length (ending (last_session lines)) ≡ 0
      no_end each zero is = is
      no_end each (suc more) is =
          let good = each (length lines) (omega (arith, is, length_kinds words workers lines)) in
          let bad : is_good usable (get_or (kinds_of words workers lines) (length lines) Bad) ≡ false = ap (is_good usable) (end_kinds words workers lines) in
          absurd (let both : true ≡ false = sym good ∙ bad in cc)

  pub first_bad-AreGood : (usable : List ℕ → Bool) (workers : ℕ) (lines : List (List ℕ)) → AreGood words usable workers lines → first_bad_by usable 1 (kinds_of words workers lines) ≡ None
  first_bad-AreGood usable workers lines h =
      let closed = outside_ends (last_session lines) (sym (session_behind_all lines Outside h.closed)) in
      first_bad-all_good usable 1 (kinds_of words workers lines) (good_each usable (kinds_of words workers lines) (λ i below. (
      let there : i + 1 ≤ length lines = omega (arith, below, length_kinds words workers lines, closed) in
      let at : (i + 1) - 1 ≡ i = omega arith in
      subst (λ (j : ℕ). is_good usable (get_or (kinds_of words workers lines) j Bad) ≡ true) at (line_good usable workers lines (i + 1) (omega arith) there (h.good (i + 1) (omega arith) there)))))

  -- the commands
  kept_or_bad : (t : Bool) (k : LineKind R) → (cond t k Bad ≡ k) ⊎ (cond t k Bad ≡ Bad)
  kept_or_bad true k = inl refl
  kept_or_bad false k = inr refl

  placed_or_bad : (workers : ℕ) (s : Session R) (k : LineKind R) → (placed words workers s k ≡ k) ⊎ (placed words workers s k ≡ Bad)
  placed_or_bad workers s Skipped = inl refl
  placed_or_bad workers s (Plain c) = kept_or_bad (may_stand words workers s c) (Plain c)
  placed_or_bad workers s (OfFile name) = kept_or_bad (is_outside s) (OfFile name)
  placed_or_bad workers s Bad = inl refl

  placed_same : (workers : ℕ) (s : Session R) (k other : LineKind R) → placed words workers s k ≡ other → other ≢ Bad → k ≡ other
  placed_same workers s k other e good = by_case (placed_or_bad workers s k)
    where
      by_case : (placed words workers s k ≡ k) ⊎ (placed words workers s k ≡ Bad) → k ≡ other
      by_case (inl h) = sym h ∙ e
      by_case (inr h) = absurd (good (sym e ∙ h))

  asks_of : (names : List (List ℕ)) (workers : ℕ) (s : Session R) (line : List ℕ) (k : LineKind R) (c : Command R) → placed words workers s (kind_of words line) ≡ k → AsksOf names k c → Asks words names line c
  asks_of names workers s line Skipped c e h = absurd h
  asks_of names workers s line (Plain d) c e h =
      let reads : Reads words line c = Reads-Plain words laws line c (placed_same workers s (kind_of words line) (Plain d) e (λ bad. cc) ∙ ap (λ (x : Command R). Plain x) h) in
      subst (λ (o : Option (ℕ × ℕ)). AsksFile words names line o c) (sym (file_in-Reads words laws line c reads)) reads
  asks_of names workers s line (OfFile name) c e (file, (is, (there, known))) =
      let asks : Asks words names line (Bulk file 0) = (there, subst (λ (n : List ℕ). ReadsFile line n) (sym known) (ReadsFile-OfFile words line name (placed_same workers s (kind_of words line) (OfFile name) e (λ bad. cc)))) in
      subst (λ (x : Command R). Asks words names line x) is asks
  asks_of names workers s line Bad c e h = absurd h

  -- a command is on a line, and not behind the last
  on_a_line : (names : List (List ℕ)) (workers : ℕ) (lines : List (List ℕ)) (n : ℕ) (c : Command R) → 1 ≤ n → AsksOf names (get_or (kinds_of words workers lines) (n - 1) Bad) c → n < 1 + length (kinds_of words workers lines) → (t : Bool) → nat_le n (length lines) ≡ t → n ≤ length lines
  on_a_line names workers lines n c some asks high true is = leb-true n (length lines) is
  on_a_line names workers lines n c some asks high false is =
      let over = leb-false n (length lines) is in
      let at : n - 1 ≡ length lines = omega (arith, over, high, length_kinds words workers lines, few_ends (last_session lines)) in
      absurd (subst (λ (k : LineKind R). AsksOf names k c) (ap (λ (i : ℕ). get_or (kinds_of words workers lines) i Bad) at ∙ end_kinds words workers lines) asks)

  is_right : (names : List (List ℕ)) (workers : ℕ) (lines : List (List ℕ)) (item : Numbered R) → IsAt names 1 (kinds_of words workers lines) item → IsBefore words workers lines item.line × Asks words names (line_at lines item.line) item.command
  is_right names workers lines item h = (record { from_one = h.0.from; there = there; before = h.0.before }, by_head (head_case lines item.line))
    where
      there : item.line ≤ length lines
      there = on_a_line names workers lines item.line item.command h.0.from h.1 h.0.there (nat_le item.line (length lines)) refl

      by_head : IsHeadLine lines item.line ⊎ (¬ IsHeadLine lines item.line) → Asks words names (line_at lines item.line) item.command
      by_head (inl head) = absurd (subst (λ (k : LineKind R). AsksOf names k item.command) (head_kind workers lines item.line head) h.1)
      by_head (inr not) =
          asks_of names workers (session_at words lines (item.line - 1)) (line_at lines item.line) (get_or (kinds_of words workers lines) (item.line - 1) Bad) item.command (sym (kind_of_line workers lines item.line h.0.from there not)) h.1

  each_right : (names : List (List ℕ)) (workers : ℕ) (lines : List (List ℕ)) (items : List (Numbered R)) → Each (IsAt names 1 (kinds_of words workers lines)) items → Each (λ item. IsBefore words workers lines item.line × Asks words names (line_at lines item.line) item.command) items
  each_right names workers lines [] h = tt
  each_right names workers lines (item ∷ items) h = (is_right names workers lines item h.0, each_right names workers lines items h.1)

  found_line : (workers : ℕ) (lines : List (List ℕ)) (items : List (Numbered R)) (n : ℕ) → IsBefore words workers lines n → IsFoundAt 1 (kinds_of words workers lines) items n → AsksNothing lines n ⊎ HasLine n items
  found_line workers lines items n h (inl skipped) = by_head (head_case lines n)
    where
      by_head : IsHeadLine lines n ⊎ (¬ IsHeadLine lines n) → AsksNothing lines n ⊎ HasLine n items
      by_head (inl head) = inl (inl head)
      by_head (inr not) =
          inl (inr (IsBlankOrComment-Skipped words (line_at lines n) (placed_same workers (session_at words lines (n - 1)) (kind_of words (line_at lines n)) Skipped (sym (kind_of_line workers lines n h.from_one h.there not) ∙ skipped) (λ bad. cc))))
  found_line workers lines items n h (inr has) = inr has

  pub AreCommands-numbered_of : (workers : ℕ) (lines : List (List ℕ)) → AreCommands words workers lines (names_of (kinds_of words workers lines)) (numbered_of 1 (kinds_of words workers lines))
  AreCommands-numbered_of workers lines = record {
    right = each_right (names_of (kinds_of words workers lines)) workers lines (numbered_of 1 (kinds_of words workers lines)) (each_at (names_of (kinds_of words workers lines)) [] 0 1 (kinds_of words workers lines) refl refl);
    whole = λ n h. found_line workers lines (numbered_of 1 (kinds_of words workers lines)) n h
        (each_found 1 0 (kinds_of words workers lines) n (record { from = h.from_one; there = omega (arith, h.there, length_kinds words workers lines); before = h.before }));
    order = rises 0 1 0 (kinds_of words workers lines) (omega arith);
  }
