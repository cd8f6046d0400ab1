-- A history without some of its events: where all takes, gives and draws stay in it, buffers and draws are as they were.
use Rattle.std.proofs.Common.{◌≡◌, ℕ, ◌+◌, Bool, true, false, cond, eqb, List, [], ◌∷◌, filter, refl, sym, ap, ◌∙◌, true≢false}
use Rattle.ppq_pass.specs.ppq_core.declared.event.Event.{Event}
use Rattle.ppq_pass.specs.ppq_core.declared.event.Event.TheVariants.{Take, Give, Draw, Push, Store}
use Rattle.ppq_pass.specs.ppq_core.declared.place.Place.TheVariants.{Free, Held}
use Rattle.ppq_pass.specs.ppq_core.History.{buffer_at, draws}
use Rattle.ppq_pass.specs.ppq_core.Parts.{is_at_buffer, buffer_part}
use Rattle.ppq_session.specs.OneHistory.{is_draw, draw_part}

-- what passes the one test of two passes both, where it passes the other with it
pub filter-within : {A : Type 0} (f g : A → Bool) (xs : List A) → ((a : A) → f a ≡ true → g a ≡ true) → filter f (filter g xs) ≡ filter f xs
filter-within f g [] w = refl
filter-within {A} f g (a ∷ xs) w = step (g a) (f a) refl refl (filter-within f g xs w)
  where
    step : (c d : Bool) → g a ≡ c → f a ≡ d → filter f (filter g xs) ≡ filter f xs → filter f (cond c (a ∷ filter g xs) (filter g xs)) ≡ cond d (a ∷ filter f xs) (filter f xs)
    step true d ge fe rest = ap (λ b. cond b (a ∷ filter f (filter g xs)) (filter f (filter g xs))) fe ∙ ap (λ l. cond d (a ∷ l) l) rest
    step false true ge fe rest = absurd (true≢false (sym (w a fe) ∙ ge))
    step false false ge fe rest = rest

module _ {R : Type 0} where
  -- the event is no take, give or draw, or it passes the test
  pub record Keeps (keep : Event R → Bool) (e : Event R) : Type 0 where
    pub at_buffer : is_at_buffer e ≡ true → keep e ≡ true
    pub draw : is_draw e ≡ true → keep e ≡ true

  of_buffers : (i : ℕ) (h : List (Event R)) → buffer_at i h ≡ buffer_at i (buffer_part h)
  of_buffers i [] = refl
  of_buffers i (Take p b ∷ h) = ap (λ w. cond (eqb b i) (Held p) w) (of_buffers i h)
  of_buffers i (Give p b ∷ h) = ap (λ w. cond (eqb b i) Free w) (of_buffers i h)
  of_buffers i (Draw p s ∷ h) = of_buffers i h
  of_buffers i (Push p r ∷ h) = of_buffers i h
  of_buffers i (Store p s ∷ h) = of_buffers i h

  pub draws_of_draw_part : (h : List (Event R)) → draws h ≡ draws (draw_part h)
  draws_of_draw_part [] = refl
  draws_of_draw_part (Take p b ∷ h) = draws_of_draw_part h
  draws_of_draw_part (Give p b ∷ h) = draws_of_draw_part h
  draws_of_draw_part (Draw p s ∷ h) = ap (λ (n : ℕ). n + 1) (draws_of_draw_part h)
  draws_of_draw_part (Push p r ∷ h) = draws_of_draw_part h
  draws_of_draw_part (Store p s ∷ h) = draws_of_draw_part h

  module _ {keep : Event R → Bool} (keeps : (e : Event R) → Keeps keep e) where
    pub buffer_part-without : (h : List (Event R)) → buffer_part h ≡ buffer_part (filter keep h)
    buffer_part-without h = sym (filter-within is_at_buffer keep h (λ e is. (keeps e).at_buffer is))

    pub draw_part-without : (h : List (Event R)) → draw_part h ≡ draw_part (filter keep h)
    draw_part-without h = sym (filter-within is_draw keep h (λ e is. (keeps e).draw is))

    pub buffers-without : (i : ℕ) (h : List (Event R)) → buffer_at i h ≡ buffer_at i (filter keep h)
    buffers-without i h = of_buffers i h ∙ ap (buffer_at i) (buffer_part-without h) ∙ sym (of_buffers i (filter keep h))

    pub draws-without : (h : List (Event R)) → draws h ≡ draws (filter keep h)
    draws-without h = draws_of_draw_part h ∙ ap draws (draw_part-without h) ∙ sym (draws_of_draw_part (filter keep h))
