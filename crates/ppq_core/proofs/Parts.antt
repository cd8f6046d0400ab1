-- The two parts of a history, what happens to the buffers and what happens to the slots and items: each says what the whole says of it.
use Rattle.std.proofs.Common.{◌≡◌, ℕ, ◌+◌, List, [], ◌∷◌, refl, sym, ap, ◌∙◌, subst, true≢false}
use Rattle.ppq_core.specs.declared.event.Event.{Event}
use Rattle.ppq_core.specs.declared.event.Event.TheVariants.{Take, Give, Draw, Push, Store}
use Rattle.ppq_core.specs.History.{buffer_at, slot_at, draws, pushed_by, IsLegal}
use Rattle.ppq_core.specs.Parts.{buffer_part, slot_part, PartsInterleave, PartsAreLegal, PartsGoOn}
use Rattle.ppq_core.proofs.Places.{buffer_by, slot_by, push_by}

module _ {R : Type 0} where
  buffers_of_part : (i : ℕ) (h : List (Event R)) → buffer_at i h ≡ buffer_at i (buffer_part h)
  buffers_of_part i [] = refl
  buffers_of_part i (Take p b ∷ h) = ap (buffer_by {R = R} i (Take p b)) (buffers_of_part i h)
  buffers_of_part i (Give p b ∷ h) = ap (buffer_by {R = R} i (Give p b)) (buffers_of_part i h)
  buffers_of_part i (Draw p s ∷ h) = buffers_of_part i h
  buffers_of_part i (Push p x ∷ h) = buffers_of_part i h
  buffers_of_part i (Store p s ∷ h) = buffers_of_part i h

  slots_of_part : (i : ℕ) (h : List (Event R)) → slot_at i h ≡ slot_at i (slot_part h)
  slots_of_part i [] = refl
  slots_of_part i (Take p b ∷ h) = slots_of_part i h
  slots_of_part i (Give p b ∷ h) = slots_of_part i h
  slots_of_part i (Draw p s ∷ h) = ap (slot_by {R = R} i (Draw p s)) (slots_of_part i h)
  slots_of_part i (Push p x ∷ h) = slots_of_part i h
  slots_of_part i (Store p s ∷ h) = ap (slot_by {R = R} i (Store p s)) (slots_of_part i h)

  pushed_of_part : (q : ℕ) (h : List (Event R)) → pushed_by q h ≡ pushed_by q (slot_part h)
  pushed_of_part q [] = refl
  pushed_of_part q (Take p b ∷ h) = pushed_of_part q h
  pushed_of_part q (Give p b ∷ h) = pushed_of_part q h
  pushed_of_part q (Draw p s ∷ h) = pushed_of_part q h
  pushed_of_part q (Push p x ∷ h) = ap (push_by q (Push p x)) (pushed_of_part q h)
  pushed_of_part q (Store p s ∷ h) = pushed_of_part q h

  draws_of_part : (h : List (Event R)) → draws h ≡ draws (slot_part h)
  draws_of_part [] = refl
  draws_of_part (Take p b ∷ h) = draws_of_part h
  draws_of_part (Give p b ∷ h) = draws_of_part h
  draws_of_part (Draw p s ∷ h) = ap (λ (n : ℕ). n + 1) (draws_of_part h)
  draws_of_part (Push p x ∷ h) = draws_of_part h
  draws_of_part (Store p s ∷ h) = draws_of_part h

  legal_whole : (n d k : ℕ) (h : List (Event R)) → IsLegal n 0 k (buffer_part h) → IsLegal 0 d k (slot_part h) → IsLegal n d k h
  legal_whole n d k [] a b = tt
  legal_whole n d k (Take p c ∷ h) a b = ((a.0.0, a.0.1, buffers_of_part c h ∙ a.0.2), legal_whole n d k h a.1 b)
  legal_whole n d k (Give p c ∷ h) a b = ((a.0.0, a.0.1, buffers_of_part c h ∙ a.0.2), legal_whole n d k h a.1 b)
  legal_whole n d k (Draw p s ∷ h) a b = ((b.0.0, b.0.1, b.0.2 ∙ sym (draws_of_part h)), legal_whole n d k h a b.1)
  legal_whole n d k (Push p x ∷ h) a b = (b.0, legal_whole n d k h a b.1)
  legal_whole n d k (Store p s ∷ h) a b = ((b.0.0, b.0.1, slots_of_part s h ∙ b.0.2), legal_whole n d k h a b.1)

  buffer_part_legal : (n d k : ℕ) (h : List (Event R)) → IsLegal n d k h → IsLegal n 0 k (buffer_part h)
  buffer_part_legal n d k [] l = tt
  buffer_part_legal n d k (Take p c ∷ h) l = ((l.0.0, l.0.1, sym (buffers_of_part c h) ∙ l.0.2), buffer_part_legal n d k h l.1)
  buffer_part_legal n d k (Give p c ∷ h) l = ((l.0.0, l.0.1, sym (buffers_of_part c h) ∙ l.0.2), buffer_part_legal n d k h l.1)
  buffer_part_legal n d k (Draw p s ∷ h) l = buffer_part_legal n d k h l.1
  buffer_part_legal n d k (Push p x ∷ h) l = buffer_part_legal n d k h l.1
  buffer_part_legal n d k (Store p s ∷ h) l = buffer_part_legal n d k h l.1

  slot_part_legal : (n d k : ℕ) (h : List (Event R)) → IsLegal n d k h → IsLegal 0 d k (slot_part h)
  slot_part_legal n d k [] l = tt
  slot_part_legal n d k (Take p c ∷ h) l = slot_part_legal n d k h l.1
  slot_part_legal n d k (Give p c ∷ h) l = slot_part_legal n d k h l.1
  slot_part_legal n d k (Draw p s ∷ h) l = ((l.0.0, l.0.1, l.0.2 ∙ draws_of_part h), slot_part_legal n d k h l.1)
  slot_part_legal n d k (Push p x ∷ h) l = (l.0, slot_part_legal n d k h l.1)
  slot_part_legal n d k (Store p s ∷ h) l = ((l.0.0, l.0.1, sym (slots_of_part s h) ∙ l.0.2), slot_part_legal n d k h l.1)

pub parts_interleave : (R : Type 0) → PartsInterleave R
parts_interleave R n d k a b h la lb w = (
  legal_whole n d k h (subst (IsLegal n 0 k) (sym w.buffers) la) (subst (IsLegal 0 d k) (sym w.slots) lb),
  record {
    buffers = λ i. buffers_of_part i h ∙ ap (buffer_at i) w.buffers;
    slots = λ i. slots_of_part i h ∙ ap (slot_at i) w.slots;
    pushed = λ p. pushed_of_part p h ∙ ap (pushed_by p) w.slots;
    drawn = draws_of_part h ∙ ap draws w.slots;
  },
)

pub parts_are_legal : (R : Type 0) → PartsAreLegal R
parts_are_legal R n d k h l = (buffer_part_legal n d k h l, slot_part_legal n d k h l)

-- one event more, in the whole as in its part
pub parts_go_on : (R : Type 0) → PartsGoOn R
parts_go_on R t (Take p c) a b h shows w = ((λ _ l. ((l.0.0, l.0.1, buffers_of_part c h ∙ ap (buffer_at c) w.buffers ∙ l.0.2), record { buffers = ap (λ k. Take p c ∷ k) w.buffers; slots = w.slots })), λ no. absurd (true≢false no))
parts_go_on R t (Give p c) a b h shows w = ((λ _ l. ((l.0.0, l.0.1, buffers_of_part c h ∙ ap (buffer_at c) w.buffers ∙ l.0.2), record { buffers = ap (λ k. Give p c ∷ k) w.buffers; slots = w.slots })), λ no. absurd (true≢false no))
parts_go_on R t (Draw p s) a b h shows w = ((λ no. absurd (true≢false (sym no))), λ _ l. ((l.0.0, l.0.1, l.0.2 ∙ sym (draws_of_part h ∙ ap draws w.slots)), record { buffers = w.buffers; slots = ap (λ k. Draw p s ∷ k) w.slots }))
parts_go_on R t (Push p x) a b h shows w = ((λ no. absurd (true≢false (sym no))), λ _ l. (l.0, record { buffers = w.buffers; slots = ap (λ k. Push p x ∷ k) w.slots }))
parts_go_on R t (Store p s) a b h shows w = ((λ no. absurd (true≢false (sym no))), λ _ l. ((l.0.0, l.0.1, slots_of_part s h ∙ ap (slot_at s) w.slots ∙ l.0.2), record { buffers = w.buffers; slots = ap (λ k. Store p s ∷ k) w.slots }))
