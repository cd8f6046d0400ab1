-- Lemmas on checking a script's files.
use Rattle.std.proofs.Common.{◌≡◌, ℕ, Bool, true, false, cond, ◌&&◌, ◌==◌, nat_le, ◌<◌, ◌*◌, ◌%◌, inl, inr, zero, suc, List, [], ◌∷◌, length, take, drop, get_or, set, Option, Some, None, All, IfSome, refl, sym, ap, ap₂, ◌∙◌, subst, arith, drop-cons}
use Rattle.std.specs.Prelude.{⊤, unwrap_or, Result, Ok, Err, IsOk, OnOk, IfErr, IsErrOf, MatchOption}
use Rattle.std.specs.List.{AllZip}
use Rattle.std.proofs.lemmas.Bool.{le-leb, eq-eqb}
use Rattle.std.proofs.lemmas.List.Elements.{AllZip-get_or, length_all_zip}
use Rattle.ppq_outside.specs.Told.{Reply, OfLength, Remembers, length_of, bytes_or_none}
use Rattle.ppq_files.specs.declared.length.LengthFault.{LengthFault}
use Rattle.ppq_files.specs.declared.length.LengthFault.TheVariants as fault
use Rattle.ppq_files.specs.Lengths.{LengthRefusalIsRight}
pub use Rattle.ppq_files.proofs.Truth.{AreTrue}
use Rattle.ppq_script.specs.declared.command.Command.{Command}
use Rattle.ppq_script.specs.declared.command.Command.TheVariants.{Push, Pop, Top, Size, Bulk, Gen, BulkPop, BulkPopLimit, Drain, BulkBegin, BulkPush, BulkEnd, LimitBegin, LimitPush, LimitTop, LimitPop, LimitEnd}
use Rattle.ppq_script.specs.declared.numbered.Numbered.{Numbered}
use Rattle.ppq_script.specs.declared.session.Session.{Session}
use Rattle.ppq_script.specs.declared.session.Session.TheVariants.{Outside}
use Rattle.ppq_script.specs.Sessions.{turn_of, may_stand, are_in_place}
use Rattle.ppq_script.proofs.Standing.{commands_in}
use Rattle.ppq_script.specs.Files.{file_in, name_at, NamesFile, HasRecords, IsRecordLength, is_record_length, is_record_file, is_usable, usable_file, bad_among, FoundFile, NoFile, IsBadAmong}
use Rattle.ppq_script.specs.Reading.{Reading}
use Rattle.ppq_script.specs.declared.check.CheckFault.{CheckFault}
use Rattle.ppq_script.specs.declared.check.CheckFault.TheVariants.{BadLine, ReadFault, Memory}
use Rattle.ppq_script.specs.Checking.{bad_of, IsSameFile, IsSameItem, IsAskedFile, IsAsked, with_size, with_sizes, check_refusal, ItemRefusalIsRight, CommandsRefusalIsRight, CheckRefusalIsRight, IsCheckAnswer}
use Rattle.ppq_script.specs.Words.{Words}

-- an item that was changed as R says
pub AllZip-set : {X : Type 0} (R : X → X → Type 0) (xs ys : List X) (i : ℕ) (d y : X) → AllZip R xs ys → R (get_or xs i d) y → AllZip R xs (set ys i y)
AllZip-set R [] [] i d y h changed = tt
AllZip-set R [] (y ∷ ys) i d z h changed = absurd h
AllZip-set R (x ∷ xs) [] i d y h changed = absurd h
AllZip-set R (x ∷ xs) (y ∷ ys) zero d z h changed = (changed, h.1)
AllZip-set R (x ∷ xs) (y ∷ ys) (suc i) d z h changed = (h.0, AllZip-set R xs ys i d z h.1 changed)

-- a fact of one list goes over to the other
All-AllZip : {X : Type 0} (P Q : X → Type 0) (R : X → X → Type 0) (xs ys : List X) → ((x y : X) → R x y → P x → Q y) → AllZip R xs ys → All P xs → All Q ys
All-AllZip P Q R xs ys step h all = λ k d below. let long = length_all_zip R xs ys h in step (get_or xs k d) (get_or ys k d) (AllZip-get_or R xs ys k d d h (omega (arith, below, long))) (all k d (omega (arith, below, long)))

module _ {R : Type 0} (words : Words R) where
  same_file : (c : Command R) → IsSameFile (file_in c) c c
  same_file (Push item) = refl
  same_file Pop = refl
  same_file Top = refl
  same_file Size = refl
  same_file (Bulk file length) = (length, refl)
  same_file (Gen seed count) = refl
  same_file (BulkPop count) = refl
  same_file (BulkPopLimit limit count) = refl
  same_file (Drain count) = refl
  same_file BulkBegin = refl
  same_file (BulkPush pass item) = refl
  same_file BulkEnd = refl
  same_file (LimitBegin limit) = refl
  same_file (LimitPush pass item) = refl
  same_file LimitTop = refl
  same_file LimitPop = refl
  same_file LimitEnd = refl

  -- what does not look at the length of a file is the same of it
  same_by : {X : Type 0} (f : Command R → X) → ((file n m : ℕ) → f (Bulk file n) ≡ f (Bulk file m)) → (old new : Command R) → IsSameFile (file_in old) old new → f new ≡ f old
  same_by f k (Push item) new e = ap f e
  same_by f k Pop new e = ap f e
  same_by f k Top new e = ap f e
  same_by f k Size new e = ap f e
  same_by f k (Bulk file length) new (n, e) = ap f e ∙ k file n length
  same_by f k (Gen seed count) new e = ap f e
  same_by f k (BulkPop count) new e = ap f e
  same_by f k (BulkPopLimit limit count) new e = ap f e
  same_by f k (Drain count) new e = ap f e
  same_by f k BulkBegin new e = ap f e
  same_by f k (BulkPush pass item) new e = ap f e
  same_by f k BulkEnd new e = ap f e
  same_by f k (LimitBegin limit) new e = ap f e
  same_by f k (LimitPush pass item) new e = ap f e
  same_by f k LimitTop new e = ap f e
  same_by f k LimitPop new e = ap f e
  same_by f k LimitEnd new e = ap f e

  -- so the commands stand where they stood
  same_in_place : (workers : ℕ) (s : Session R) (old new : List (Numbered R)) → AllZip IsSameItem old new → are_in_place words workers s (commands_in new) ≡ are_in_place words workers s (commands_in old)
  same_in_place workers s [] [] h = refl
  same_in_place workers s [] (y ∷ ys) h = absurd h
  same_in_place workers s (x ∷ xs) [] h = absurd h
  same_in_place workers s (x ∷ xs) (y ∷ ys) h =
      ap₂ (λ (t u : Bool). t && u) (same_by (may_stand words workers s) (λ file n m. refl) x.command y.command h.0.command)
      (ap (λ (o : Option (Session R)). are_in_place words workers (unwrap_or o s) (commands_in ys)) (same_by turn_of (λ file n m. refl) x.command y.command h.0.command)
      ∙ same_in_place workers (unwrap_or (turn_of x.command) s) xs ys h.1)

  pub in_place_later : (workers : ℕ) (old new : List (Numbered R)) (bad : Option ℕ) → AllZip IsSameItem old new → (bad ≡ None → are_in_place words workers Outside (commands_in old) ≡ true) → bad ≡ None → are_in_place words workers Outside (commands_in new) ≡ true
  in_place_later workers old new bad same had none = same_in_place workers Outside old new same ∙ had none

  pub same_item : (item : Numbered R) → IsSameItem item item
  same_item item = record { line = refl; command = same_file item.command }

  pub same_items : (items : List (Numbered R)) → AllZip IsSameItem items items
  same_items [] = tt
  same_items (item ∷ items) = (same_item item, same_items items)

  -- a command that was asked differs in its length alone
  asked_same : (replied : Reply → Type 0) (names : List (List ℕ)) (o : Option (ℕ × ℕ)) (old new : Command R) → IsAskedFile words replied names o old new → IsSameFile o old new
  asked_same replied names None old new h = h
  asked_same replied names (Some file) old new (n, (e, said)) = (n, e)

  pub IsSameItem-IsAsked : (replied : Reply → Type 0) (names : List (List ℕ)) (old new : Numbered R) → IsAsked words replied names old new → IsSameItem old new
  IsSameItem-IsAsked replied names old new h = record { line = h.line; command = asked_same replied names (file_in old.command) old.command new.command h.command }

  -- its file is among the names as before
  same_names : (files : ℕ) (o : Option (ℕ × ℕ)) (old new : Command R) → file_in old ≡ o → IsSameFile o old new → IfSome o (λ f. f.0 < files) → NamesFile files new
  same_names files None old new is e h = subst (NamesFile files) (sym e) (subst (λ (p : Option (ℕ × ℕ)). IfSome p (λ f. f.0 < files)) (sym is) tt)
  same_names files (Some file) old new is (n, e) h = subst (NamesFile files) (sym e) h

  pub all_names : (files : ℕ) (old new : List (Numbered R)) → AllZip IsSameItem old new → All (λ n. NamesFile files n.command) old → All (λ n. NamesFile files n.command) new
  all_names files old new h all =
      All-AllZip (λ n. NamesFile files n.command) (λ n. NamesFile files n.command) IsSameItem old new (λ x y s named. same_names files (file_in x.command) x.command y.command refl s.command named) h all

  -- and its length is one of a record file
  asked_records : (replied : Reply → Type 0) (names : List (List ℕ)) (o : Option (ℕ × ℕ)) (old new : Command R) → file_in old ≡ o → IsAskedFile words replied names o old new → HasRecords words new
  asked_records replied names None old new is e = subst (HasRecords words) (sym e) (subst (λ (p : Option (ℕ × ℕ)). IfSome p (λ f. IsRecordLength words f.1)) (sym is) tt)
  asked_records replied names (Some file) old new is (n, (e, said)) = subst (HasRecords words) (sym e) said.1

  pub all_records : (replied : Reply → Type 0) (names : List (List ℕ)) (old new : List (Numbered R)) → AllZip (IsAsked words replied names) old new → All (λ n. HasRecords words n.command) new
  all_records replied names old new h =
      All-AllZip (λ n. ⊤) (λ n. HasRecords words n.command) (IsAsked words replied names) old new (λ x y asked top. asked_records replied names (file_in x.command) x.command y.command refl asked.command) h (λ k d below. tt)

  -- nothing is forgotten
  asked_later : (before now : Reply → Type 0) (names : List (List ℕ)) (o : Option (ℕ × ℕ)) (old new : Command R) → Remembers before now → IsAskedFile words before names o old new → IsAskedFile words now names o old new
  asked_later before now names None old new kept h = h
  asked_later before now names (Some file) old new kept (n, (e, said)) = (n, (e, (kept (OfLength (name_at names file.0) (Some n)) said.0, said.1)))

  pub all_asked_later : (before now : Reply → Type 0) (names : List (List ℕ)) (old new : List (Numbered R)) → Remembers before now → AllZip (IsAsked words before names) old new → AllZip (IsAsked words now names) old new
  all_asked_later before now names [] [] kept h = tt
  all_asked_later before now names [] (y ∷ ys) kept h = absurd h
  all_asked_later before now names (x ∷ xs) [] kept h = absurd h
  all_asked_later before now names (x ∷ xs) (y ∷ ys) kept h =
      (record { line = h.0.line; command = asked_later before now names (file_in x.command) x.command y.command kept h.0.command }, all_asked_later before now names xs ys kept h.1)

  -- the library replied of the file of a command that was asked
  found_file : (replied : Reply → Type 0) (names : List (List ℕ)) (o : Option (ℕ × ℕ)) (old new : Command R) → IsAskedFile words replied names o old new → FoundFile words replied names o
  found_file replied names None old new h = tt
  found_file replied names (Some file) old new (n, (e, said)) = (n, said)

  -- the first command whose file cannot be used
  pub bad_at : (replied : Reply → Type 0) (names : List (List ℕ)) (i : ℕ) (old new : List (Numbered R)) (d : Numbered R) (line : ℕ) → i < length old → AllZip (IsAsked words replied names) (take i old) (take i new)
      → ((get_or old i d).line ≡ line) × NoFile words replied names (file_in (get_or old i d).command) → (bad : Option ℕ) → IsBadAmong words replied names old bad line
  bad_at replied names i [] new d line below asked lacks bad = absurd (omega (arith, below))
  bad_at replied names zero (x ∷ xs) new d line below asked lacks bad = inr lacks
  bad_at replied names (suc i) (x ∷ xs) [] d line below asked lacks bad = absurd asked
  bad_at replied names (suc i) (x ∷ xs) (y ∷ ys) d line below asked lacks bad =
      inl (found_file replied names (file_in x.command) x.command y.command asked.0.command, bad_at replied names i xs ys d line (omega (arith, below)) asked.1 lacks bad)

  -- all files can be used, and a line behind them is bad
  pub bad_behind : (replied : Reply → Type 0) (names : List (List ℕ)) (old new : List (Numbered R)) (line : ℕ) (bad : Option ℕ) → AllZip (IsAsked words replied names) old new → bad ≡ Some line → IsBadAmong words replied names old bad line
  bad_behind replied names [] [] line bad asked e = e
  bad_behind replied names [] (y ∷ ys) line bad asked e = absurd asked
  bad_behind replied names (x ∷ xs) [] line bad asked e = absurd asked
  bad_behind replied names (x ∷ xs) (y ∷ ys) line bad asked e = inl (found_file replied names (file_in x.command) x.command y.command asked.0.command, bad_behind replied names xs ys line bad asked.1 e)

  both_true : (a b : Bool) → a ≡ true → b ≡ true → (a && b) ≡ true
  both_true true true d e = refl
  both_true true false d e = cc
  both_true false b d e = cc

  record_length_is : (n : ℕ) → IsRecordLength words n → is_record_length words n ≡ true
  record_length_is n h = both_true (n % words.WIDTH == 0) (nat_le n (4294967296 * words.WIDTH)) (eq-eqb (n % words.WIDTH) 0 h.0) (le-leb n (4294967296 * words.WIDTH) h.1)

  usable_found : (files : List ℕ → Option (List ℕ)) (replied : Reply → Type 0) (names : List (List ℕ)) (o : Option (ℕ × ℕ)) → AreTrue (Some files) replied → FoundFile words replied names o → usable_file (is_usable words files) names o ≡ true
  usable_found files replied names None sure found = refl
  usable_found files replied names (Some file) sure (n, (said, ok)) =
      ap (is_record_file words) (sym (sure (OfLength (name_at names file.0) (Some n)) said)) ∙ record_length_is n ok

  usable_not : (files : List ℕ → Option (List ℕ)) (replied : Reply → Type 0) (names : List (List ℕ)) (o : Option (ℕ × ℕ)) → AreTrue (Some files) replied → NoFile words replied names o → usable_file (is_usable words files) names o ≡ false
  usable_not files replied names None sure lacks = absurd lacks
  usable_not files replied names (Some file) sure (size, (said, not)) =
      ap (is_record_file words) (sym (sure (OfLength (name_at names file.0) size) said)) ∙ not

  -- so the line that is bad by the replies is the first bad line
  pub bad_among-IsBadAmong : (files : List ℕ → Option (List ℕ)) (replied : Reply → Type 0) (names : List (List ℕ)) (items : List (Numbered R)) (bad : Option ℕ) (line : ℕ) → AreTrue (Some files) replied
      → IsBadAmong words replied names items bad line → bad_among (is_usable words files) names items bad ≡ Some line
  bad_among-IsBadAmong files replied names [] bad line sure h = h
  bad_among-IsBadAmong files replied names (item ∷ items) bad line sure (inl h) =
      ap (λ (t : Bool). cond t (bad_among (is_usable words files) names items bad) (Some item.line)) (usable_found files replied names (file_in item.command) sure h.0)
      ∙ bad_among-IsBadAmong files replied names items bad line sure h.1
  bad_among-IsBadAmong files replied names (item ∷ items) bad line sure (inr h) =
      ap (λ (t : Bool). cond t (bad_among (is_usable words files) names items bad) (Some item.line)) (usable_not files replied names (file_in item.command) sure h.1)
      ∙ ap (λ (n : ℕ). Some n) h.0

  -- and there is none but behind the commands where all were asked
  pub bad_among-asked : (files : List ℕ → Option (List ℕ)) (replied : Reply → Type 0) (names : List (List ℕ)) (old new : List (Numbered R)) (bad : Option ℕ) → AreTrue (Some files) replied
      → AllZip (IsAsked words replied names) old new → bad_among (is_usable words files) names old bad ≡ bad
  bad_among-asked files replied names [] [] bad sure h = refl
  bad_among-asked files replied names [] (y ∷ ys) bad sure h = absurd h
  bad_among-asked files replied names (x ∷ xs) [] bad sure h = absurd h
  bad_among-asked files replied names (x ∷ xs) (y ∷ ys) bad sure h =
      ap (λ (t : Bool). cond t (bad_among (is_usable words files) names xs bad) (Some x.line)) (usable_found files replied names (file_in x.command) sure (found_file replied names (file_in x.command) x.command y.command h.0.command))
      ∙ bad_among-asked files replied names xs ys bad sure h.1

  -- and then the script has the lengths of the library's files
  length_is : (file : Option (List ℕ)) (n : ℕ) → Some n ≡ length_of file → n ≡ length (bytes_or_none file)
  length_is None n e = cc
  length_is (Some bytes) n e = cc

  sized : (files : List ℕ → Option (List ℕ)) (replied : Reply → Type 0) (names : List (List ℕ)) (o : Option (ℕ × ℕ)) (old new : Command R) → AreTrue (Some files) replied → IsAskedFile words replied names o old new → new ≡ with_size files names o old
  sized files replied names None old new sure h = h
  sized files replied names (Some file) old new sure (n, (e, said)) =
      e ∙ ap (λ (k : ℕ). Bulk file.0 k) (length_is (files (name_at names file.0)) n (sure (OfLength (name_at names file.0) (Some n)) said.0))

  pub asked_sizes : (files : List ℕ → Option (List ℕ)) (replied : Reply → Type 0) (names : List (List ℕ)) (old new : List (Numbered R)) → AreTrue (Some files) replied → AllZip (IsAsked words replied names) old new → new ≡ with_sizes files names old
  asked_sizes files replied names [] [] sure h = refl
  asked_sizes files replied names [] (y ∷ ys) sure h = absurd h
  asked_sizes files replied names (x ∷ xs) [] sure h = absurd h
  asked_sizes files replied names (x ∷ xs) (y ∷ ys) sure h =
      ap₂ (λ (item : Numbered R) (items : List (Numbered R)). item ∷ items)
      (ap₂ (λ (n : ℕ) (c : Command R). record { line = n; command = c }) h.0.line (sized files replied names (file_in x.command) x.command y.command sure h.0.command))
      (asked_sizes files replied names xs ys sure h.1)

  -- the item at a place, where two lists have the same items from there on
  pub item_here : (xs ys : List (Numbered R)) (i : ℕ) (d : Numbered R) → i < length xs → length ys ≡ length xs → drop i ys ≡ drop i xs → get_or ys i d ≡ get_or xs i d
  item_here xs ys i d below long left =
      let there : i < length ys = omega arith in
      let both : get_or ys i d ∷ drop (suc i) ys ≡ get_or xs i d ∷ drop (suc i) xs = sym (drop-cons ys i d there) ∙ left ∙ drop-cons xs i d below in
      cc

  -- a refusal of a file's length is one by the command that names the file
  pub item_refusal : (replied : Reply → Type 0) (names : List (List ℕ)) (item : Numbered R) (file : ℕ × ℕ) (why : LengthFault) → file_in item.command ≡ Some file
      → LengthRefusalIsRight words.WIDTH replied (name_at names file.0) why → ItemRefusalIsRight words replied names item (check_refusal item.line why)
  item_refusal replied names item file fault.Failed is refused = tt
  item_refusal replied names item file fault.Memory is refused = tt
  item_refusal replied names item file fault.Absent is refused = (refl, subst (NoFile words replied names) (sym is) (None, (refused, refl)))
  item_refusal replied names item file fault.NoRecords is refused = (refl, subst (NoFile words replied names) (sym is) (Some refused.0, refused.1))

  -- a refusal by a command is one by the commands
  pub commands_refusal : (replied : Reply → Type 0) (names : List (List ℕ)) (i : ℕ) (old new : List (Numbered R)) (d : Numbered R) (fault : CheckFault) → i < length old → AllZip (IsAsked words replied names) (take i old) (take i new)
      → ItemRefusalIsRight words replied names (get_or old i d) fault → CommandsRefusalIsRight words replied names old fault
  commands_refusal replied names i old new d (BadLine line) below asked h = bad_at replied names i old new d line below asked h
  commands_refusal replied names i old new d ReadFault below asked h = tt
  commands_refusal replied names i old new d Memory below asked h = tt

  -- what checking answers over a library that tells
  answer_by : {T : Type 0} (bad was : Option ℕ) (result : Result T CheckFault) → bad ≡ was → MatchOption was (IsOk result) (λ line. IsErrOf result (BadLine line)) → IsCheckAnswer bad result
  answer_by bad was result e h = inl (subst (λ (o : Option ℕ). MatchOption o (IsOk result) (λ line. IsErrOf result (BadLine line))) (sym e) h)

  pub check_answer : {T : Type 0} (told : Option (List ℕ → Option (List ℕ))) (replied : Reply → Type 0) (old new : Reading R) (result : Result T CheckFault) → AreTrue told replied
      → OnOk result (AllZip (IsAsked words replied old.names) old.commands new.commands) → OnOk result (old.bad ≡ None) → IfErr result (CheckRefusalIsRight words replied old) → IfSome told (λ files. IsCheckAnswer (bad_of (is_usable words files) old) result)
  check_answer None replied old new result sure asked good refused = tt
  check_answer (Some files) replied old new (Ok x) sure asked good refused =
      answer_by (bad_of (is_usable words files) old) None (Ok x) (bad_among-asked files replied old.names old.commands new.commands old.bad sure asked ∙ good) refl
  check_answer (Some files) replied old new (Err (BadLine line)) sure asked good refused =
      answer_by (bad_of (is_usable words files) old) (Some line) (Err (BadLine line)) (bad_among-IsBadAmong files replied old.names old.commands old.bad line sure refused) refl
  check_answer (Some files) replied old new (Err ReadFault) sure asked good refused = inr (inl refl)
  check_answer (Some files) replied old new (Err Memory) sure asked good refused = inr (inr refl)

  pub check_lengths : {T : Type 0} (told : Option (List ℕ → Option (List ℕ))) (replied : Reply → Type 0) (old new : Reading R) (result : Result T CheckFault) → AreTrue told replied
      → OnOk result (AllZip (IsAsked words replied old.names) old.commands new.commands) → OnOk result (IfSome told (λ files. new.commands ≡ with_sizes files old.names old.commands))
  check_lengths None replied old new (Ok x) sure asked = tt
  check_lengths None replied old new (Err fault) sure asked = tt
  check_lengths (Some files) replied old new (Ok x) sure asked = asked_sizes files replied old.names old.commands new.commands sure asked
  check_lengths (Some files) replied old new (Err fault) sure asked = tt
