-- What a turn needs to load a block.
use Rattle.std.proofs.Common.{◌≡◌, inl, inr, ℕ, zero, suc, ◌+◌, ◌*◌, ◌<◌, ◌≤◌, List, [], ◌∷◌, length, get_or, Some, sym, ap, ◌∙◌, subst, arith}
use Rattle.std.specs.List.{slice_get}
use Rattle.std.proofs.lemmas.Option.{slice_get_within, get_or_from_slice_get}
use Rattle.std.proofs.lemmas.List.Sums.{sum_by-cons, get_or-le-sum_by}
use Rattle.std.proofs.lemmas.List.Elements.{All-get_or, All-from_recursion}
use Rattle.ppq_array.specs.ppq_outside.Shown.{Shown}
use Rattle.ppq_array.specs.Run.{items_of, buffers_of}
use Rattle.ppq_array.specs.External.{External}
use Rattle.ppq_array.specs.Holdings.{HasSlots}
use Rattle.ppq_fetch.specs.Steps.{MayLoad}
use Rattle.ppq_fetch.specs.Turns.{HasBuffer, LoadsNext}
use Rattle.ppq_fetch.specs.Fetching.{State, MayFetch, fronts_in, one_if_some}
use Rattle.ppq_fetch.proofs.Waiting.{fronts-le}
use Rattle.ppq_fetch.proofs.Loads.{slots_long}
use Rattle.ppq_fetch.proofs.Sums.{one_le}

module _ {S R : Type 0} where
  -- a run that has nothing loaded is not among those that have something
  fronts_but : (xs : List (External S R)) (i : ℕ) (a : External S R) → slice_get xs i ≡ Some a → items_of a.loaded ≡ [] → fronts_in xs + 1 ≤ length xs
  fronts_but [] i a e none = absurd (cc)
  fronts_but (x ∷ xs) zero a e none =
      let k : x ≡ a = cc in
      let z : one_if_some (items_of x.loaded) ≡ 0 = ap (λ (y : External S R). one_if_some (items_of y.loaded)) k ∙ ap one_if_some none in
      omega (arith, z, fronts-le xs, sum_by-cons (λ (y : External S R). one_if_some (items_of y.loaded)) x xs)
  fronts_but (x ∷ xs) (suc i) a e none = omega (arith, fronts_but xs i a e none, one_le (items_of x.loaded), sum_by-cons (λ (y : External S R). one_if_some (items_of y.loaded)) x xs)

  pub may_load :
      (record_of : List ℕ → R) (shown : S → Shown) (width ahead : ℕ) (s : State S R) (at : ℕ) (d : External S R) → MayFetch shown width ahead s → LoadsNext s.external ahead at → MayLoad shown width (get_or s.external at d) s.idle s.stock
  may_load record_of shown width ahead s at d m load =
      let h = m.sources in
      let below = slice_get_within s.external at load.array load.here in
      let same = get_or_from_slice_get s.external at load.array d load.here in
      let some : 0 < length (get_or s.external at d).stored = omega (arith, load.stored, ap (λ (z : External S R). length z.stored) same) in
      record {
        stored = some;
        none_lifted = All-get_or (λ (a : External S R). a.lifted ≡ []) s.external at d below (All-from_recursion (λ (a : External S R). a.lifted ≡ []) s.external m.none_lifted);
        idle = record {
          some = elim load.buffer as (λ _. 0 < length s.idle) [
            | inl none ↦ omega (arith, fronts_but s.external at load.array load.here none, h.fronts, h.bounded)
            | inr less ↦ omega (arith, less, fronts-le s.external, h.fronts)
          ];
          blocks = h.idle;
          few = omega (arith, h.few_buffers);
        };
        sizes = All-get_or (HasSlots shown (s.stock.block * width)) s.external at d below h.external;
        room = omega (arith, h.takes_back.slots, slots_long record_of width shown s.external, get_or-le-sum_by (λ (a : External S R). length a.stored) s.external at d below, some);
        few = omega (arith, h.few_buffers, get_or-le-sum_by (λ (a : External S R). length (buffers_of a.loaded)) s.external at d below);
      }

  pub has_buffer : (xs : List (External S R)) (ahead at : ℕ) (d : External S R) → LoadsNext xs ahead at → HasBuffer xs ahead (get_or xs at d)
  has_buffer xs ahead at d load = subst (HasBuffer xs ahead) (sym (get_or_from_slice_get xs at load.array d load.here)) load.buffer

  -- with more blocks ahead a block may be loaded too
  pub loads_more : (xs : List (External S R)) (most ahead at : ℕ) → most ≤ ahead → LoadsNext xs most at → LoadsNext xs ahead at
  loads_more xs most ahead at h load = record {
    array = load.array;
    here = load.here;
    stored = load.stored;
    buffer = elim load.buffer as (λ _. HasBuffer xs ahead load.array) [ inl none ↦ inl none | inr less ↦ inr (omega (arith, less, h)) ];
  }
