-- Two neighbours of different passes may change their order.
use Rattle.std.proofs.Common.{◌≡◌, ◌≢◌, ℕ, List, [], ◌∷◌, ◌++◌, refl, sym, ap, ◌∙◌, arith}
use mathlib.Core.Logic.{dite}
use native.Mathlib.Decide.{ℕ_discrete}
use Rattle.ppq_core.specs.declared.place.Place.{Place}
use Rattle.ppq_core.specs.declared.place.Place.TheVariants.{Held, Stored}
use Rattle.ppq_core.specs.declared.event.Event.{Event}
use Rattle.ppq_core.specs.declared.event.Event.TheVariants.{Take, Give, Draw, Push, Store}
use Rattle.ppq_core.specs.History.{buffer_at, slot_at, draws, pushed_by, IsLegalNext, IsLegal}
use Rattle.ppq_core.specs.Laws.{pass_of, IsDraw, MayTrade, EndsAs, NeighboursTrade}
use Rattle.ppq_core.proofs.Places.{free_not_held, stored_not_held, held_same, hit, buffer_by, slot_by, push_by, draw_by, buffer_step, slot_step, push_step, draw_step, Marks, named, marked, buffer_miss, slot_miss, push_miss, draw_miss}
use Rattle.ppq_core.proofs.Slots.{undrawn}

module _ {R : Type 0} where
  buffers_trade : (e f : Event R) (x : Place) (i : ℕ) → MayTrade e f → buffer_by i f (buffer_by i e x) ≡ buffer_by i e (buffer_by i f x)
  buffers_trade e f x i t = dite (named i e)
      (λ a. let apart = t.other_buffer i a in buffer_miss i f (buffer_by i e x) apart ∙ ap (buffer_by i e) (sym (buffer_miss i f x apart)))
      (λ a. ap (buffer_by i f) (buffer_miss i e x a) ∙ sym (buffer_miss i e (buffer_by i f x) a))

  slots_trade : (e f : Event R) (x : Place) (i : ℕ) → (Marks i e → ¬ (Marks i f)) → slot_by i f (slot_by i e x) ≡ slot_by i e (slot_by i f x)
  slots_trade e f x i apart = dite (marked i e)
      (λ a. slot_miss i f (slot_by i e x) (apart a) ∙ ap (slot_by i e) (sym (slot_miss i f x (apart a))))
      (λ a. ap (slot_by i f) (slot_miss i e x a) ∙ sym (slot_miss i e (slot_by i f x) a))

  pushes_trade : (e f : Event R) (l : List R) (q : ℕ) → ¬ (pass_of e ≡ pass_of f) → push_by q f (push_by q e l) ≡ push_by q e (push_by q f l)
  pushes_trade e f l q other = dite (ℕ_discrete (pass_of e) q)
      (λ a. let not : pass_of f ≢ q = λ b. other (a ∙ sym b) in push_miss q f (push_by q e l) not ∙ ap (push_by q e) (sym (push_miss q f l not)))
      (λ a. ap (push_by q f) (push_miss q e l a) ∙ sym (push_miss q e (push_by q f l) a))

  is_draw : (e : Event R) → Dec (IsDraw e)
  is_draw (Take p b) = no (λ h. h)
  is_draw (Give p b) = no (λ h. h)
  is_draw (Draw p s) = yes tt
  is_draw (Push p x) = no (λ h. h)
  is_draw (Store p s) = no (λ h. h)

  draws_trade : (e f : Event R) (n : ℕ) → ¬ (IsDraw e × IsDraw f) → draw_by f (draw_by e n) ≡ draw_by e (draw_by f n)
  draws_trade e f n one = dite (is_draw e)
      (λ a. let not : ¬ (IsDraw f) = λ b. one (a, b) in draw_miss f (draw_by e n) not ∙ ap (draw_by e) (sym (draw_miss f n not)))
      (λ a. ap (draw_by f) (draw_miss e n a) ∙ sym (draw_miss e (draw_by f n) a))

  -- legal neighbours of different passes are not at one slot, but for two Draws
  marks_apart : (n d k : ℕ) (e f : Event R) (h : List (Event R)) → IsLegal n d k (f ∷ e ∷ h) → MayTrade e f → (i : ℕ) → Marks i e → ¬ (Marks i f)
  marks_apart n d k (Take p b) f h l t i a c = absurd a
  marks_apart n d k (Give p b) f h l t i a c = absurd a
  marks_apart n d k (Push p x) f h l t i a c = absurd a
  marks_apart n d k (Draw p s) (Take q b) h l t i a c = absurd c
  marks_apart n d k (Draw p s) (Give q b) h l t i a c = absurd c
  marks_apart n d k (Draw p s) (Push q x) h l t i a c = absurd c
  marks_apart n d k (Draw p s) (Draw q r) h l t i a c = absurd (t.not_both_draw (tt, tt))
  marks_apart n d k (Draw p s) (Store q r) h l t i a c = absurd (t.other_pass (held_same p q (sym (hit s r (Held p) (slot_at r h) (a ∙ sym c)) ∙ l.0.2)))
  marks_apart n d k (Store p s) (Take q b) h l t i a c = absurd c
  marks_apart n d k (Store p s) (Give q b) h l t i a c = absurd c
  marks_apart n d k (Store p s) (Push q x) h l t i a c = absurd c
  marks_apart n d k (Store p s) (Draw q r) h l t i a c = absurd (let at = l.0.2 in free_not_held p (sym (undrawn n d k h s l.1.1 (let e : s ≡ r = a ∙ sym c in omega arith)) ∙ l.1.0.2))
  marks_apart n d k (Store p s) (Store q r) h l t i a c = absurd (stored_not_held p q (sym (hit s r (Stored p) (slot_at r h) (a ∙ sym c)) ∙ l.0.2))

  -- what an event asks is the same before and after another that touches nothing of it
  may_more : (n d k : ℕ) (e f : Event R) (h : List (Event R)) → MayTrade e f → ((i : ℕ) → Marks i e → ¬ (Marks i f)) → IsLegalNext n d k e h → IsLegalNext n d k e (f ∷ h)
  may_more n d k (Take p b) f h t marks m = (m.0, m.1, buffer_step b f h ∙ buffer_miss b f (buffer_at b h) (t.other_buffer b refl) ∙ m.2)
  may_more n d k (Give p b) f h t marks m = (m.0, m.1, buffer_step b f h ∙ buffer_miss b f (buffer_at b h) (t.other_buffer b refl) ∙ m.2)
  may_more n d k (Draw p s) f h t marks m = (m.0, m.1, m.2 ∙ sym (draw_step f h ∙ draw_miss f (draws h) (λ a. t.not_both_draw (tt, a))))
  may_more n d k (Push p x) f h t marks m = m
  may_more n d k (Store p s) f h t marks m = (m.0, m.1, slot_step s f h ∙ slot_miss s f (slot_at s h) (marks s refl) ∙ m.2)

  may_less : (n d k : ℕ) (e f : Event R) (h : List (Event R)) → MayTrade e f → ((i : ℕ) → Marks i e → ¬ (Marks i f)) → IsLegalNext n d k e (f ∷ h) → IsLegalNext n d k e h
  may_less n d k (Take p b) f h t marks m = (m.0, m.1, sym (buffer_step b f h ∙ buffer_miss b f (buffer_at b h) (t.other_buffer b refl)) ∙ m.2)
  may_less n d k (Give p b) f h t marks m = (m.0, m.1, sym (buffer_step b f h ∙ buffer_miss b f (buffer_at b h) (t.other_buffer b refl)) ∙ m.2)
  may_less n d k (Draw p s) f h t marks m = (m.0, m.1, m.2 ∙ draw_step f h ∙ draw_miss f (draws h) (λ a. t.not_both_draw (tt, a)))
  may_less n d k (Push p x) f h t marks m = m
  may_less n d k (Store p s) f h t marks m = (m.0, m.1, sym (slot_step s f h ∙ slot_miss s f (slot_at s h) (marks s refl)) ∙ m.2)

  swapped : (e f : Event R) → MayTrade e f → MayTrade f e
  swapped e f t = record {
    other_pass = λ a. t.other_pass (sym a);
    not_both_draw = λ a. t.not_both_draw (a.1, a.0);
    other_buffer = λ b x y. t.other_buffer b y x;
  }

  -- an event asks the same of histories that end alike, and leaves them alike
  may_as : (n d k : ℕ) (e : Event R) (g h : List (Event R)) → EndsAs g h → IsLegalNext n d k e g → IsLegalNext n d k e h
  may_as n d k (Take p b) g h same m = (m.0, m.1, sym (same.buffers b) ∙ m.2)
  may_as n d k (Give p b) g h same m = (m.0, m.1, sym (same.buffers b) ∙ m.2)
  may_as n d k (Draw p s) g h same m = (m.0, m.1, m.2 ∙ same.drawn)
  may_as n d k (Push p x) g h same m = m
  may_as n d k (Store p s) g h same m = (m.0, m.1, sym (same.slots s) ∙ m.2)

  ends_more : (e : Event R) (g h : List (Event R)) → EndsAs g h → EndsAs (e ∷ g) (e ∷ h)
  ends_more e g h same = record {
    buffers = λ i. buffer_step i e g ∙ ap (buffer_by i e) (same.buffers i) ∙ sym (buffer_step i e h);
    slots = λ i. slot_step i e g ∙ ap (slot_by i e) (same.slots i) ∙ sym (slot_step i e h);
    pushed = λ q. push_step q e g ∙ ap (push_by q e) (same.pushed q) ∙ sym (push_step q e h);
    drawn = draw_step e g ∙ ap (draw_by e) same.drawn ∙ sym (draw_step e h);
  }

  ends_trade : (n d k : ℕ) (e f : Event R) (h : List (Event R)) → IsLegal n d k (f ∷ e ∷ h) → MayTrade e f → EndsAs (f ∷ e ∷ h) (e ∷ f ∷ h)
  ends_trade n d k e f h l t = record {
    buffers = λ i. buffer_step i f (e ∷ h) ∙ ap (buffer_by i f) (buffer_step i e h) ∙ buffers_trade e f (buffer_at i h) i t ∙ ap (buffer_by i e) (sym (buffer_step i f h)) ∙ sym (buffer_step i e (f ∷ h));
    slots = λ i. slot_step i f (e ∷ h) ∙ ap (slot_by i f) (slot_step i e h) ∙ slots_trade e f (slot_at i h) i (marks_apart n d k e f h l t i) ∙ ap (slot_by i e) (sym (slot_step i f h)) ∙ sym (slot_step i e (f ∷ h));
    pushed = λ q. push_step q f (e ∷ h) ∙ ap (push_by q f) (push_step q e h) ∙ pushes_trade e f (pushed_by q h) q t.other_pass ∙ ap (push_by q e) (sym (push_step q f h)) ∙ sym (push_step q e (f ∷ h));
    drawn = draw_step f (e ∷ h) ∙ ap (draw_by f) (draw_step e h) ∙ draws_trade e f (draws h) t.not_both_draw ∙ ap (draw_by e) (sym (draw_step f h)) ∙ sym (draw_step e (f ∷ h));
  }

  trade_later : (n d k : ℕ) (e f : Event R) (later h : List (Event R)) → IsLegal n d k (later ++ f ∷ e ∷ h) → MayTrade e f → IsLegal n d k (later ++ e ∷ f ∷ h) × EndsAs (later ++ f ∷ e ∷ h) (later ++ e ∷ f ∷ h)
  trade_later n d k e f [] h l t =
      let marks = marks_apart n d k e f h l t in
      ((may_more n d k e f h t marks l.1.0, (may_less n d k f e h (swapped e f t) (λ i x y. marks i y x) l.0, l.1.1)), ends_trade n d k e f h l t)
  trade_later n d k e f (x ∷ later) h l t =
      let rest = trade_later n d k e f later h l.1 t in
      ((may_as n d k x (later ++ f ∷ e ∷ h) (later ++ e ∷ f ∷ h) rest.1 l.0, rest.0), ends_more x (later ++ f ∷ e ∷ h) (later ++ e ∷ f ∷ h) rest.1)

pub neighbours_trade : (R : Type 0) → NeighboursTrade R
neighbours_trade R n d k e f later h l t = trade_later n d k e f later h l t
