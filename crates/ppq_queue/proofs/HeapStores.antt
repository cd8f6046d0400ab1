-- Heaps that are stored one after the other.
use Rattle.std.proofs.Common.{◌≡◌, ℕ, suc, ◌+◌, ◌<◌, ◌≤◌, List, [], ◌∷◌, ◌++◌, length, get_or, refl, sym, ap, ◌∙◌, subst, arith}
use mathlib.Core.Logic.{dite}
use native.Mathlib.Decide.{dec_le}
use Rattle.ppq_heap.specs.Heap.{Contents}
use Rattle.ppq_heap.specs.Heaps.{Shares, ChangesOnly, empty_heap, items_in, items_of, share_at}
use Rattle.ppq_queue.specs.Stores.{HeapsStay}

module _ {R : Type 0} where
  pub changes-refl : (place : ℕ) (shares : Shares R) → ChangesOnly place shares shares
  changes-refl place shares = record { count = refl; cap = refl; others = λ other away. refl }

  -- one place after the other changed
  pub changes-trans : (place : ℕ) (a b c : Shares R) → ChangesOnly place a b → ChangesOnly place b c → ChangesOnly place a c
  changes-trans place a b c h k = record { count = k.count ∙ h.count; cap = k.cap ∙ h.cap; others = λ other away. k.others other away ∙ h.others other away }

  -- where one place changed, and no record came, all heaps stay
  pub changed-stay : {place : ℕ} {a b : Shares R} → ChangesOnly place a b → length (items_of b) ≤ length (items_of a) → HeapsStay a b
  changed-stay only fewer = record { count = only.count; cap = only.cap; fewer = fewer }

  -- a list that is not empty has an element
  pub some_list : (l : List R) → (l ≡ [] → ⊥) → 0 < length l
  some_list [] none = absurd (none refl)
  some_list (x ∷ xs) none = omega arith

  none_in : (heaps : List (Contents R)) → ((place : ℕ) → place < length heaps → (get_or heaps place (empty_heap 0)).items ≡ []) → items_in heaps ≡ []
  none_in [] h = refl
  none_in (x ∷ xs) h = ap (λ l. l ++ items_in xs) (h 0 (omega arith)) ∙ none_in xs (λ place k. h (suc place) (omega (arith, k)))

  -- all heaps are empty
  pub none_left : (shares : Shares R) → ((place : ℕ) → place < length shares.heaps → share_at shares place ≡ []) → items_of shares ≡ []
  none_left shares h = none_in shares.heaps h

  -- one heap more is empty
  pub one_emptied : (place : ℕ) (old new : Shares R) → ((other : ℕ) → other < place → share_at old other ≡ []) → ChangesOnly place old new → share_at new place ≡ [] → (other : ℕ) → other < place + 1 → share_at new other ≡ []
  one_emptied place old new before changes here other h =
      dite (dec_le (suc other) place)
      (λ less. changes.others other (λ e. omega (arith, less, e)) ∙ before other (omega (arith, less)))
      (λ not_less. (let e : other ≡ place = last h not_less in subst (λ k. share_at new k ≡ []) (sym e) here))
    where
      last : other < place + 1 → (suc other ≤ place → ⊥) → other ≡ place
      last h not_less = dite (dec_le place other) (λ le. omega (arith, h, le)) (λ gt. absurd (not_less (omega (arith, gt))))
