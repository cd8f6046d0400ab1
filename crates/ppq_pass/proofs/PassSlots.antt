-- The slots of a pass, before and after a store: those that it holds are those that it drew, and they tell as before.
use Rattle.std.proofs.Common.{◌≡◌, ◌↔◌, ℕ, zero, suc, ◌+◌, ◌≤◌, List, [], ◌∷◌, ◌++◌, sum_by, refl, ap, arith, length-append}
use mathlib.Core.Option.{Option, none, some}
use lib.ListN.{get_elem?}
use Rattle.std.proofs.lemmas.List.Sums.{sum_by-cons, sum_by-append}
use Rattle.ppq_extract.specs.ppq_outside.Shown.{Shown, AllTell}
use Rattle.ppq_extract.specs.ppq_array.declared.berth.DeviceBlock.{DeviceBlock}
use Rattle.ppq_extract.specs.ppq_array.Owner.{slots_shown}
use Rattle.ppq_extract.specs.ppq_array.Kept.{SameSlots, AreQuiet, weight_at, all_writes, overread}
use Rattle.ppq_spill.specs.Body.{body_slots}
use Rattle.ppq_spill.specs.declared.body.PassBody.{PassBody}
use Rattle.ppq_spill.specs.Untold.{untold, SameUntold}
use Rattle.ppq_spill.proofs.Telling.{tell_sum, sum_tell}
use Rattle.ppq_pass.specs.declared.shared.Shared.{Shared}
use Rattle.ppq_pass.specs.declared.parts.PassParts.{PassParts}
use Rattle.ppq_pass.specs.Passing.{items_at, with_item}
use Rattle.ppq_pass.specs.Passed.{slots_of}
use Rattle.ppq_pass.specs.PassState.{drawn_of, all_slots}
use Rattle.ppq_pass.specs.PassStore.{StoreKept}

module _ {S R : Type 0} (shown : S → Shown) where
  -- slots that were drawn from a row all of whose slots tell
  drawn_tell : (items : List (DeviceBlock S R)) (places : List ℕ) → sum_by untold (slots_shown shown items) ≡ 0 → sum_by untold (slots_shown shown (items_at items places)) ≡ 0
  drawn_tell items [] h = refl
  drawn_tell items (p ∷ ps) h = one (get_elem? items p) (items_at items ps) (found items p h) (drawn_tell items ps h)
    where
      Untold : Option (DeviceBlock S R) → ℕ
      Untold none = 0
      Untold (some b) = untold (shown b.slot)

      found : (xs : List (DeviceBlock S R)) (i : ℕ) → sum_by untold (slots_shown shown xs) ≡ 0 → Untold (get_elem? xs i) ≡ 0
      found [] i h = refl
      found (x ∷ xs) zero h = omega (arith, h, sum_by-cons untold (shown x.slot) (slots_shown shown xs))
      found (x ∷ xs) (suc i) h = found xs i (omega (arith, h, sum_by-cons untold (shown x.slot) (slots_shown shown xs)))

      one : (o : Option (DeviceBlock S R)) (xs : List (DeviceBlock S R)) → Untold o ≡ 0 → sum_by untold (slots_shown shown xs) ≡ 0 → sum_by untold (slots_shown shown (with_item o xs)) ≡ 0
      one none xs e h = h
      one (some b) xs e h = omega (arith, e, h, sum_by-cons untold (shown b.slot) (slots_shown shown xs))

  -- a sum over all slots of a pass
  sum_all : (f : Shown → ℕ) (body : PassBody S R) (parts : PassParts S R) → sum_by f (all_slots shown body parts) ≡ sum_by f (body_slots shown body) + sum_by f (slots_shown shown parts.stash) + sum_by f (slots_shown shown parts.row_seat.hand.items)
  sum_all f body parts =
      omega (
        arith,
        sum_by-append f (slots_of shown body parts) (slots_shown shown parts.row_seat.hand.items),
        sum_by-append f (body_slots shown body) (slots_shown shown parts.stash),
      )

-- after a store
module _ {S R : Type 0} {shown : S → Shown} {width records : ℕ} {shared : Shared S R} {a b : PassBody S R} {p q : PassParts S R}
    (kept : StoreKept shown width records shared a b p q)
  where
    -- the slots are those that were drawn
    pub same_slots : SameSlots (drawn_of shown p) (slots_of shown a p) → SameSlots (drawn_of shown q) (slots_of shown b q)
    same_slots was =
        let before = body_slots shown a in
        let after = body_slots shown b in
        let s = slots_shown shown p.stash in
        let t = slots_shown shown q.stash in
        let split : (f : Shown → ℕ) → (sum_by f (before ++ s ++ drawn_of shown q) ≡ sum_by f (before ++ s) + sum_by f (drawn_of shown q)) × (sum_by f (after ++ t ++ drawn_of shown p) ≡ sum_by f (after ++ t) + sum_by f (drawn_of shown p)) =
        λ f. (sum_by-append f (before ++ s) (drawn_of shown q), sum_by-append f (after ++ t) (drawn_of shown p)) in
        record {
          length = omega (arith, kept.kept.slots.length, was.length, length-append (before ++ s) (drawn_of shown q), length-append (after ++ t) (drawn_of shown p));
          each_once = λ n. let f = weight_at (λ s. 1) n in omega (arith, kept.kept.slots.each_once n, was.each_once n, (split f).0, (split f).1);
          faults = λ n. let f = weight_at (λ s. s.faults) n in omega (arith, kept.kept.slots.faults n, was.faults n, (split f).0, (split f).1);
          writes = λ n. let f = weight_at (λ s. s.writes) n in omega (arith, kept.kept.slots.writes n, was.writes n, (split f).0, (split f).1);
          reads = λ n. let f = weight_at (λ s. s.reads) n in omega (arith, kept.kept.slots.reads n, was.reads n, (split f).0, (split f).1);
          sizes = λ n. let f = weight_at (λ s. s.size) n in omega (arith, kept.kept.slots.sizes n, was.sizes n, (split f).0, (split f).1);
          overreads = omega (arith, kept.kept.slots.overreads, was.overreads, (split overread).0, (split overread).1);
        }

    -- no call of them failed since they were drawn
    pub same_quiet :
        AreQuiet (body_slots shown a ++ slots_shown shown p.stash ++ drawn_of shown q) (body_slots shown b ++ slots_shown shown q.stash ++ drawn_of shown p) → AreQuiet (drawn_of shown p) (slots_of shown a p)
        → AreQuiet (drawn_of shown q) (slots_of shown b q)
    same_quiet still was =
        let f : Shown → ℕ = λ s. s.faults in
        let e : sum_by f (slots_of shown b q) ≡ sum_by f (drawn_of shown q) =
        omega (arith, still, was, sum_by-append f (slots_of shown a p) (drawn_of shown q), sum_by-append f (slots_of shown b q) (drawn_of shown p)) in
        e

    -- as many of them do not tell
    pub same_untold : SameUntold (drawn_of shown p) (slots_of shown a p) → SameUntold (drawn_of shown q) (slots_of shown b q)
    same_untold was =
        let e : sum_by untold (drawn_of shown q) ≡ sum_by untold (slots_of shown b q) =
        omega (arith, kept.untold, was, sum_by-append untold (slots_of shown a p) (drawn_of shown q), sum_by-append untold (slots_of shown b q) (drawn_of shown p)) in
        e

    -- and were written no less than before
    pub more_writes : all_writes (drawn_of shown p) ≤ all_writes (slots_of shown a p) → all_writes (drawn_of shown q) ≤ all_writes (slots_of shown b q)
    more_writes was =
        let f : Shown → ℕ = λ s. s.writes in
        omega (arith, kept.writes.stay, was, sum_by-append f (slots_of shown a p) (drawn_of shown q), sum_by-append f (slots_of shown b q) (drawn_of shown p))

    same_items : sum_by untold (slots_shown shown q.row_seat.hand.items) ≡ sum_by untold (slots_shown shown p.row_seat.hand.items)
    same_items = ap (λ xs. sum_by untold (slots_shown shown xs)) kept.items

    -- what a store asks to tell does, where all slots of the pass tell, before or after it
    pub tell_before : AllTell (all_slots shown a p) → AllTell (body_slots shown a ++ slots_shown shown p.stash ++ drawn_of shown q)
    tell_before tell =
        let all = tell_sum (all_slots shown a p) tell in
        let row : sum_by untold (slots_shown shown q.row_seat.hand.items) ≡ 0 = omega (arith, all, sum_all shown untold a p, same_items) in
        sum_tell (body_slots shown a ++ slots_shown shown p.stash ++ drawn_of shown q)
        (omega (
          arith,
          all,
          sum_all shown untold a p,
          drawn_tell shown q.row_seat.hand.items q.row_seat.hand.places row,
          sum_by-append untold (slots_of shown a p) (drawn_of shown q),
          sum_by-append untold (body_slots shown a) (slots_shown shown p.stash),
        ))

    tell_after : AllTell (all_slots shown b q) → AllTell (body_slots shown b ++ slots_shown shown q.stash ++ drawn_of shown p)
    tell_after tell =
        let all = tell_sum (all_slots shown b q) tell in
        let row : sum_by untold (slots_shown shown p.row_seat.hand.items) ≡ 0 = omega (arith, all, sum_all shown untold b q, same_items) in
        sum_tell (body_slots shown b ++ slots_shown shown q.stash ++ drawn_of shown p)
        (omega (
          arith,
          all,
          sum_all shown untold b q,
          drawn_tell shown p.row_seat.hand.items p.row_seat.hand.places row,
          sum_by-append untold (slots_of shown b q) (drawn_of shown p),
          sum_by-append untold (body_slots shown b) (slots_shown shown q.stash),
        ))

    pub still_tell : AllTell (all_slots shown a p) ↔ AllTell (all_slots shown b q)
    still_tell = (
      (λ tell.
          let after = tell_sum (body_slots shown b ++ slots_shown shown q.stash ++ drawn_of shown p) (kept.tells.0 (tell_before tell)) in
          sum_tell (all_slots shown b q) (omega (arith, after, tell_sum (all_slots shown a p) tell, sum_all shown untold a p, sum_all shown untold b q, same_items, sum_by-append untold (slots_of shown b q) (drawn_of shown p), sum_by-append untold (body_slots shown b) (slots_shown shown q.stash)))),
      (λ tell.
          let before = tell_sum (body_slots shown a ++ slots_shown shown p.stash ++ drawn_of shown q) (kept.tells.1 (tell_after tell)) in
          sum_tell (all_slots shown a p) (omega (arith, before, tell_sum (all_slots shown b q) tell, sum_all shown untold a p, sum_all shown untold b q, same_items, sum_by-append untold (slots_of shown a p) (drawn_of shown q), sum_by-append untold (body_slots shown a) (slots_shown shown p.stash)))),
    )
