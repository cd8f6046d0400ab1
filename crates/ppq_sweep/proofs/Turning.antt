-- One note or edge more of a node.
use Rattle.std.proofs.Common.{◌≡◌, ℕ, ◌+◌, ◌-◌, ◌^◌, ◌<◌, ◌≤◌, List, [], ◌∷◌, ◌++◌, max, min, refl, sym, ap, ◌∙◌, arith}
use Rattle.std.specs.Prelude.{count_by, Some, None}
use Rattle.std.specs.List.{AllByRecursion as Each}
use Rattle.std.proofs.lemmas.Bool.{lt-ltb, le-ltb}
use Rattle.ppq_queue.specs.ppq_heap.ppq_record.declared.pair.Pair.{Pair}
use Rattle.ppq_queue.specs.ppq_heap.ppq_record.Bag.{IsSameBag}
use Rattle.ppq_queue.proofs.ppq_heap.ppq_record.Order.{count_by-cons, count_by-append}
use Rattle.ppq_sweep.specs.Notes.{note, if_later, if_sent, later, sent, raise, raised, TookUpTo, HearsSome, Hears, TellsSome, TellsAll}
use Rattle.ppq_sweep.proofs.Greatest.{same-filter_map, greatest-same, greatest-within}

module _ (v : ℕ) where
  -- of records that are all above v each is later
  all_later : (xs : List Pair) → Each (λ x. v < x.key) xs → later v xs ≡ xs
  all_later [] above = refl
  all_later (x ∷ xs) above = rw (lt-ltb v x.key above.0) (ap (λ (ys : List Pair). x ∷ ys) (all_later xs above.1))

  none_raised : (xs : List Pair) → Each (λ x. v < x.key) xs → raised v xs ≡ 0
  none_raised xs above = omega (arith, greatest-within (λ x. v < x.key) (raise v) 0 xs above (λ x h. rw (lt-ltb v x.key h) (omega arith)))

  none_sent : (level : ℕ) (xs : List Pair) → Each (λ x. v < x.key) xs → sent v level xs ≡ []
  none_sent level [] above = refl
  none_sent level (x ∷ xs) above = rw (lt-ltb v x.key above.0) (none_sent level xs above.1)

  later-cons : (r : Pair) (xs : List Pair) → r.key ≤ v → later v (r ∷ xs) ≡ later v xs
  later-cons r xs low = rw (le-ltb v r.key low) refl

  sent-cons : (level : ℕ) (r : Pair) (xs : List Pair) → r.key ≤ v → sent v level (r ∷ xs) ≡ note r.value level ∷ sent v level xs
  sent-cons level r xs low = rw (le-ltb v r.key low) refl

  raise-is : (r : Pair) → r.key ≤ v → raise v r ≡ min (r.value + 1) (2 ^ 64 - 1)
  raise-is r low = rw (le-ltb v r.key low) refl

  later-took : (mid new : List Pair) (r : Pair) → TookUpTo v mid new (Some r) → IsSameBag (later v new) (later v mid)
  later-took mid new r took p = ap (λ xs. count_by p xs) (sym (later-cons r new took.0)) ∙ same-filter_map (if_later v) (r ∷ new) mid took.1 p

  pub hears-begin : (old : List Pair) → HearsSome v old old 0
  hears-begin old = record { rest = λ p. refl; level_is = omega arith }

  pub hears-next : (old mid new : List Pair) (level next : ℕ) (r : Pair) → HearsSome v old mid level → TookUpTo v mid new (Some r) → next ≡ max level (min (r.value + 1) (2 ^ 64 - 1)) → HearsSome v old new next
  hears-next old mid new level next r h took is =
      record {
        rest = λ p. later-took mid new r took p ∙ h.rest p;
        level_is = omega (arith, is, h.level_is, raise-is r took.0, greatest-same (raise v) (r ∷ new) mid took.1);
      }

  pub hears-end : (old mid new : List Pair) (level : ℕ) → HearsSome v old mid level → TookUpTo v mid new None → Hears v old new level
  hears-end old mid new level h took =
      record {
        rest = λ p. took.0 p ∙ (ap (λ xs. count_by p xs) (sym (all_later mid took.1)) ∙ h.rest p);
        level_is = omega (arith, h.level_is, none_raised mid took.1);
      }

  pub tells-begin : (level : ℕ) (edges notes : List Pair) → TellsSome v level edges edges notes notes
  tells-begin level edges notes = record { rest = λ p. refl; notes_are = λ p. refl }

  pub tells-next : (level : ℕ) (edges mid new notes notes' notes'' : List Pair) (r : Pair) → TellsSome v level edges mid notes notes' → TookUpTo v mid new (Some r) → IsSameBag notes'' (note r.value level ∷ notes') → TellsSome v level edges new notes notes''
  tells-next level edges mid new notes notes' notes'' r h took added =
      record {
        rest = λ p. later-took mid new r took p ∙ h.rest p;
        notes_are = λ p.
            (let one : count_by p (sent v level (r ∷ new)) ≡ count_by p (note r.value level ∷ sent v level new) = ap (λ xs. count_by p xs) (sent-cons level r new took.0) in
            omega (
              arith,
              one,
              count_by-cons p (note r.value level) (sent v level new),
              count_by-cons p (note r.value level) notes',
              added p,
              h.notes_are p,
              same-filter_map (if_sent v level) (r ∷ new) mid took.1 p,
              count_by-append p (sent v level new) notes'',
              count_by-append p (sent v level mid) notes',
              count_by-append p (sent v level edges) notes,
            ));
      }

  pub tells-end : (level : ℕ) (edges mid new notes notes' : List Pair) → TellsSome v level edges mid notes notes' → TookUpTo v mid new None → TellsAll v level edges new notes notes'
  tells-end level edges mid new notes notes' h took =
      record {
        rest = λ p. took.0 p ∙ (ap (λ xs. count_by p xs) (sym (all_later mid took.1)) ∙ h.rest p);
        notes_are = λ p. (let none : sent v level mid ++ notes' ≡ notes' = ap (λ (xs : List Pair). xs ++ notes') (none_sent level mid took.1) in sym (ap (λ xs. count_by p xs) none) ∙ h.notes_are p);
      }
