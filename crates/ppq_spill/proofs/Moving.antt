-- Slots and buffers that are taken from a supply and given back, one more.
use Rattle.std.proofs.Common.{◌≡◌, ℕ, suc, ◌+◌, ◌-◌, ◌*◌, ◌≤◌, List, [], ◌∷◌, ◌++◌, length, sum_by, refl, sym, ap, ap₂, ◌∙◌, arith, append_assoc, append-nil, subst, length-append}
use Rattle.std.proofs.lemmas.List.{map-append}
use Rattle.std.proofs.lemmas.List.Sums.{sum_by-cons, sum_by-append}
use Rattle.std.proofs.lemmas.List.Elements.{All-nil, All-push}
use Rattle.ppq_fetch.specs.ppq_outside.Shown.{Shown}
use Rattle.ppq_fetch.specs.ppq_array.declared.berth.DeviceBlock.{DeviceBlock}
use Rattle.ppq_fetch.specs.ppq_array.Supply.{Stock, DrawsFrom, DrawsSlot, GetsSlot, GetsBuffer, IsSlot}
use Rattle.ppq_fetch.specs.ppq_array.Owner.{slots_shown, HasSlot}
use Rattle.ppq_spill.specs.Moves.{with_buffers, DrewInOrder, DrewSlots}

-- a buffer comes back
pub gives_back :
    (old now next : Stock) (all left : ℕ) → now ≡ with_buffers old now.sure_buffers now.buffer_room → now.buffer_room + all ≡ old.buffer_room + suc left → all ≤ old.buffer_room → old.sure_buffers ≤ now.sure_buffers → GetsBuffer now next
    → (next ≡ with_buffers old next.sure_buffers next.buffer_room) × (next.buffer_room + all ≡ old.buffer_room + left) × (old.sure_buffers ≤ next.sure_buffers)
gives_back old now next all left is room within sure gets =
    let less : next.buffer_room ≡ now.buffer_room - 1 = ap (λ s. s.buffer_room) gets.rest in (
      gets.rest ∙ ap (λ s. with_buffers s next.sure_buffers (now.buffer_room - 1)) is ∙ ap (λ k. with_buffers old next.sure_buffers k) (sym less),
      omega (arith, less, room, within),
      omega (arith, sure, gets.sure),
    )

abbrev pub with_slots : Stock → List Shown → ℕ → Stock
with_slots old kept room = record old { kept = kept; slot_room = room }

-- a slot comes back
pub frees :
    (old now next : Stock) (all left : ℕ) (slot : Shown) (behind whole : List Shown) → now ≡ with_slots old now.kept now.slot_room → now.kept ++ slot ∷ behind ≡ old.kept ++ whole → now.slot_room + all ≡ old.slot_room + suc left → all ≤ old.slot_room → GetsSlot now slot next
    → (next ≡ with_slots old next.kept next.slot_room) × (next.kept ++ behind ≡ old.kept ++ whole) × (next.slot_room + all ≡ old.slot_room + left)
frees old now next all left slot behind whole is kept room within gets =
    let less : next.slot_room ≡ now.slot_room - 1 = ap (λ s. s.slot_room) gets in
    let more : next.kept ≡ now.kept ++ slot ∷ [] = ap (λ s. s.kept) gets in (
      gets ∙ ap (λ s. with_slots s (now.kept ++ slot ∷ []) (now.slot_room - 1)) is ∙ ap₂ (λ k r. with_slots old k r) (sym more) (sym less),
      ap (λ k. k ++ behind) more ∙ append_assoc now.kept (slot ∷ []) behind ∙ kept,
      omega (arith, less, room, within),
    )

abbrev with_drawn : Stock → List Shown → List Shown → ℕ → Stock
with_drawn old kept drawn room = record old { kept = kept; drawn = drawn; slot_room = room }

-- what one draw does, from a list of what is kept
pub record DrawsOne (now : Stock) (slot : Shown) (next : Stock) : Type 0 where
  pub sums : (f : Shown → ℕ) → sum_by f now.kept + sum_by f next.drawn ≡ f slot + sum_by f next.kept + sum_by f now.drawn
  pub stock : next ≡ record now { kept = next.kept; drawn = next.drawn; slot_room = now.slot_room + 1 }
  pub sure : length now.kept ≤ 1 + length next.kept
  pub left : length next.kept ≡ length now.kept - 1

draws_from : (kept : List Shown) (now : Stock) (slot : Shown) (next : Stock) → now.kept ≡ kept → DrawsFrom kept now slot next → DrawsOne now slot next
draws_from [] now slot next e draws =
    let kept : next.kept ≡ now.kept = ap (λ s. s.kept) draws in
    let drawn : next.drawn ≡ now.drawn ++ slot ∷ [] = ap (λ s. s.drawn) draws in
    record {
      sums = λ f. omega (arith, ap (sum_by f) kept, ap (sum_by f) drawn, sum_by-append f now.drawn (slot ∷ []), sum_by-cons f slot []);
      stock = draws ∙ ap₂ (λ k d. record now { kept = k; drawn = d; slot_room = now.slot_room + 1 }) (sym kept) (sym drawn);
      sure = omega (arith, ap length kept);
      left = omega (arith, ap length kept, ap length e);
    }
draws_from (first ∷ rest) now slot next e draws =
    let kept : next.kept ≡ rest = ap (λ s. s.kept) draws.1 in
    let drawn : next.drawn ≡ now.drawn = ap (λ s. s.drawn) draws.1 in
    let long : length now.kept ≡ suc (length rest) = ap length e in
    record {
      sums = λ f. omega (arith, ap (sum_by f) kept, ap (sum_by f) drawn, ap (sum_by f) e, sum_by-cons f first rest, ap f draws.0);
      stock = draws.1 ∙ ap₂ (λ k d. record now { kept = k; drawn = d; slot_room = now.slot_room + 1 }) (sym kept) (sym drawn);
      sure = omega (arith, long, ap length kept);
      left = omega (arith, long, ap length kept);
    }

pub draws_one : (now : Stock) (slot : Shown) (next : Stock) → DrawsSlot now slot next → DrawsOne now slot next
draws_one now slot next draws = draws_from now.kept now slot next refl draws

-- the next slot in order
draws_next :
    (ks : List Shown) (old now : Stock) (slots : List Shown) (slot : Shown) (next : Stock) → now.kept ≡ ks → DrewInOrder old now slots → DrawsFrom ks now slot next → DrewInOrder old next (slots ++ slot ∷ [])
draws_next [] old now slots slot next e is draws =
    let kept : next.kept ≡ [] = ap (λ s. s.kept) draws ∙ e in
    record {
      fresh = is.fresh ++ slot ∷ [];
      drawn = ap (λ s. s.drawn) draws ∙ ap (λ d. d ++ slot ∷ []) is.drawn ∙ append_assoc old.drawn is.fresh (slot ∷ []);
      order = sym (append_assoc old.kept is.fresh (slot ∷ [])) ∙ ap (λ xs. xs ++ slot ∷ []) (is.order ∙ ap (λ k. slots ++ k) e ∙ append-nil slots) ∙ sym (ap (λ k. (slots ++ slot ∷ []) ++ k) kept ∙ append-nil (slots ++ slot ∷ []));
    }
draws_next (first ∷ rest) old now slots slot next e is draws =
    let kept : next.kept ≡ rest = ap (λ s. s.kept) draws.1 in
    record {
      fresh = is.fresh;
      drawn = ap (λ s. s.drawn) draws.1 ∙ is.drawn;
      order = is.order ∙ ap (λ k. slots ++ k) (e ∙ ap (λ x. x ∷ rest) (sym draws.0)) ∙ sym (append_assoc slots (slot ∷ []) rest) ∙ ap (λ k. (slots ++ slot ∷ []) ++ k) (sym kept);
    }

module _ {S R : Type 0} (shown : S → Shown) (width : ℕ) where
  -- no slot is drawn
  pub draws_none : (s : Stock) → DrewSlots {S = S} {R = R} shown width s s []
  draws_none s =
      record {
        in_order = record { fresh = []; drawn = sym (append-nil s.drawn); order = append-nil s.kept };
        moved = λ f. refl;
        sizes = All-nil (HasSlot {S = S} {R = R} shown (s.block * width));
        stock = (let e : s.slot_room ≡ s.slot_room + 0 = omega arith in ap (λ r. record s { slot_room = r }) e);
        sure = omega arith;
        left = omega arith;
      }

  -- one slot more is drawn
  pub draws_more :
      (old now next : Stock) (berths : List (DeviceBlock S R)) (b : DeviceBlock S R) → DrewSlots shown width old now berths → DrawsSlot now (shown b.slot) next → IsSlot (now.block * width) (shown b.slot)
      → DrewSlots shown width old next (berths ++ b ∷ [])
  draws_more old now next berths b drew draws size =
      let one = draws_one now (shown b.slot) next draws in
      let names : slots_shown shown (berths ++ b ∷ []) ≡ slots_shown shown berths ++ shown b.slot ∷ [] = map-append (λ (b : DeviceBlock S R). shown b.slot) berths (b ∷ []) in
      let block : now.block ≡ old.block = ap (λ s. s.block) drew.stock in
      let room : now.slot_room + 1 ≡ old.slot_room + length (berths ++ b ∷ []) = omega (arith, ap (λ s. s.slot_room) drew.stock, length-append berths (b ∷ [])) in
      record {
        in_order = subst (DrewInOrder old next) (sym names) (draws_next now.kept old now (slots_shown shown berths) (shown b.slot) next refl drew.in_order draws);
        moved = λ f. omega (
          arith,
          drew.moved f,
          one.sums f,
          sum_by-append f old.kept now.drawn,
          sum_by-append f old.kept next.drawn,
          sum_by-append f (slots_shown shown berths ++ now.kept) old.drawn,
          sum_by-append f (slots_shown shown berths) now.kept,
          sum_by-append f (slots_shown shown (berths ++ b ∷ []) ++ next.kept) old.drawn,
          sum_by-append f (slots_shown shown (berths ++ b ∷ [])) next.kept,
          ap (sum_by f) names,
          sum_by-append f (slots_shown shown berths) (shown b.slot ∷ []),
          sum_by-cons f (shown b.slot) [],
        );
        sizes = All-push (HasSlot shown (old.block * width)) berths b drew.sizes (subst (λ k. IsSlot (k * width) (shown b.slot)) block size);
        stock = one.stock ∙ ap₂ (λ (s : Stock) (r : ℕ). with_drawn s next.kept next.drawn r) drew.stock room;
        sure = omega (arith, one.sure, drew.sure, length-append berths (b ∷ []));
        left = omega (arith, one.left, drew.left, length-append berths (b ∷ []));
      }
