-- What asking for lengths of files does to a library.
use Rattle.std.proofs.Common.{◌≡◌, ℕ, ◌+◌, ◌<◌, ◌≤◌, List, [], ◌∷◌, ◌++◌, length, take, set, sym, subst, arith}
use Rattle.std.proofs.lemmas.Grind.{common_steps}
use Rattle.std.proofs.lemmas.List.{take_more_set}
use Rattle.std.proofs.lemmas.List.Quantifiers.{Any-push}
use Rattle.std.specs.List.{Any}
use Rattle.std.specs.Prelude.{Result, Ok, Err, OnOk, IfErr, IsErrOf}
use Rattle.ppq_outside.specs.Told.{Reply, RepliesOnly, Rose}
use Rattle.ppq_outside.proofs.Replies.{replies_wider, replies_then}
use Rattle.ppq_script.specs.declared.numbered.Numbered.{Numbered}
use Rattle.ppq_script.specs.declared.check.CheckFault.{CheckFault}
use Rattle.ppq_script.specs.declared.check.CheckFault.TheVariants.{BadLine, ReadFault, Memory}
use Rattle.ppq_script.specs.Checking.{CountsFaults, IsKeptBy, IsKeptAmong, StaysUnlessRead}

-- what one of a list has, one of a longer list has
Any-more : {X : Type 0} (P : X → Type 0) (xs : List X) (y : X) → Any P xs → Any P (xs ++ y ∷ [])
Any-more P xs y a = (a.0, a.1, grind (arith, common_steps, a.2), grind (arith, common_steps, a.2, a.3), a.4)

-- one command more keeps its length, and all replies since are lengths that are kept
pub kept_more : {R : Type 0} (before mid now : Reply → Type 0) (names : List (List ℕ)) (items : List (Numbered R)) (i : ℕ) (item : Numbered R) → i < length items → RepliesOnly before mid (IsKeptAmong names (take i items))
    → RepliesOnly mid now (λ reply. IsKeptBy names reply item) → RepliesOnly before now (IsKeptAmong names (take (i + 1) (set items i item)))
kept_more {R} before mid now names items i item below done here =
    let all = take i items ++ item ∷ [] in
    subst (λ (xs : List (Numbered R)). RepliesOnly before now (IsKeptAmong names xs)) (sym (take_more_set items i item below))
    (replies_then before mid now (IsKeptAmong names all)
    (replies_wider before mid (IsKeptAmong names (take i items)) (IsKeptAmong names all) (λ reply any. Any-more (IsKeptBy names reply) (take i items) item any) done)
    (replies_wider mid now (λ reply. IsKeptBy names reply item) (IsKeptAmong names all) (λ reply kept. Any-push (IsKeptBy names reply) (take i items) item kept) here))

-- what the count of faults says, clause by clause
module _ {T : Type 0} (before now : ℕ) where
  pub faults_read : (result : Result T CheckFault) → CountsFaults before now result → IsErrOf result ReadFault → Rose before now
  faults_read (Ok x) h e = cc
  faults_read (Err (BadLine line)) h e = cc
  faults_read (Err ReadFault) h e = h.1
  faults_read (Err Memory) h e = cc

  pub faults_later : (result : Result T CheckFault) → CountsFaults before now result → before ≤ now
  faults_later (Ok x) h = omega arith
  faults_later (Err (BadLine line)) h = omega arith
  faults_later (Err ReadFault) h = h.0
  faults_later (Err Memory) h = omega arith

  pub faults_stay : (result : Result T CheckFault) → CountsFaults before now result → OnOk result (now ≡ before)
  faults_stay (Ok x) h = h
  faults_stay (Err fault) h = tt

  pub faults_unless : (result : Result T CheckFault) → CountsFaults before now result → IfErr result (StaysUnlessRead before now)
  faults_unless (Ok x) h = tt
  faults_unless (Err (BadLine line)) h = h
  faults_unless (Err ReadFault) h = tt
  faults_unless (Err Memory) h = h
