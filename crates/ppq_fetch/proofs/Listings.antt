-- The runs that a listing of loaded parts shows.
use Rattle.std.proofs.Common.{◌≡◌, ℕ, zero, suc, ◌+◌, ◌<◌, ◌≤◌, List, [], ◌∷◌, ◌++◌, length, map, get_or, take, refl, ap, ◌∙◌, subst, arith, length-append, length-take}
use Rattle.std.specs.List.{slice_get}
use Rattle.ppq_fetch.specs.Parts.{firsts}
use Rattle.std.proofs.lemmas.List.{length-map}
use Rattle.ppq_array.specs.ppq_record.Runs.{all_of, list_at}
use Rattle.ppq_merge.specs.ppq_split.Cut.{AreWithin, total}

pub run_only : {A X : Type 0} (f : A → List X) (xs : List A) (n : ℕ) (d : A) → n < length xs → list_at (map f xs) n ≡ f (get_or xs n d)
run_only f [] n d h = absurd (omega arith)
run_only f (x ∷ xs) zero d h = refl
run_only f (x ∷ xs) (suc n) d h = run_only f xs n d (omega arith)

pub long_lists : {A B X : Type 0} (f : A → List X) (g : B → List X) (xs : List A) (ys : List B) → length (map f xs ++ map g ys) ≡ length xs + length ys
long_lists f g xs ys = omega (arith, length-append (map f xs) (map g ys), length-map xs f, length-map ys g)

module _ {X : Type 0} where
  pub list_left : (qs rs : List (List X)) (n : ℕ) → n < length qs → list_at (qs ++ rs) n ≡ list_at qs n
  list_left [] rs n h = absurd (omega arith)
  list_left (q ∷ qs) rs zero h = refl
  list_left (q ∷ qs) rs (suc n) h = list_left qs rs n (omega arith)

  pub list_right : (qs rs : List (List X)) (n m : ℕ) → n ≡ length qs + m → list_at (qs ++ rs) n ≡ list_at rs m
  list_right [] rs n m e = let same : n ≡ m = omega (arith, e) in ap (λ i. list_at rs i) same
  list_right (q ∷ qs) rs zero m e = absurd (omega (arith, e))
  list_right (q ∷ qs) rs (suc n) m e = list_right qs rs n m (omega (arith, e))

  -- what holds of no places of no runs, and of one more, holds of places within runs
  pub within_rec : (M : List ℕ → List (List X) → Type 0) → M [] [] → ((c : ℕ) (q : List X) (cs : List ℕ) (qs : List (List X)) → c ≤ length q → M cs qs → M (c ∷ cs) (q ∷ qs)) → (cs : List ℕ) (qs : List (List X)) → AreWithin cs qs → M cs qs
  within_rec M none more [] [] w = none
  within_rec M none more [] (q ∷ qs) w = absurd w
  within_rec M none more (c ∷ cs) [] w = absurd w
  within_rec M none more (c ∷ cs) (q ∷ qs) w = more c q cs qs w.0 (within_rec M none more cs qs w.1)

  pub within_length : (cs : List ℕ) (qs : List (List X)) → AreWithin cs qs → length cs ≡ length qs
  within_length = within_rec (λ cs qs. length cs ≡ length qs) refl (λ c q cs qs h e. ap suc e)

  pub within_at : (cs : List ℕ) (qs : List (List X)) → AreWithin cs qs → (i : ℕ) → get_or cs i 0 ≤ length (list_at qs i)
  within_at [] [] w i = omega arith
  within_at [] (q ∷ qs) w i = absurd w
  within_at (c ∷ cs) [] w i = absurd w
  within_at (c ∷ cs) (q ∷ qs) w zero = w.0
  within_at (c ∷ cs) (q ∷ qs) w (suc i) = within_at cs qs w.1 i

  pub firsts_length : (cs : List ℕ) (qs : List (List X)) → AreWithin cs qs → length (firsts cs qs) ≡ length qs
  firsts_length = within_rec (λ cs qs. length (firsts cs qs) ≡ length qs) refl (λ c q cs qs h e. ap suc e)

  pub first_total : (cs : List ℕ) (qs : List (List X)) → AreWithin cs qs → length (all_of (firsts cs qs)) ≡ total cs
  first_total = within_rec (λ cs qs. length (all_of (firsts cs qs)) ≡ total cs) refl (λ c q cs qs h e. omega (arith, h, e, length-append (take c q) (all_of (firsts cs qs)), length-take c q))

  firsts_at : (cs : List ℕ) (qs : List (List X)) → AreWithin cs qs → (i : ℕ) → list_at (firsts cs qs) i ≡ take (get_or cs i 0) (list_at qs i)
  firsts_at [] [] w i = refl
  firsts_at [] (q ∷ qs) w i = absurd w
  firsts_at (c ∷ cs) [] w i = absurd w
  firsts_at (c ∷ cs) (q ∷ qs) w zero = refl
  firsts_at (c ∷ cs) (q ∷ qs) w (suc i) = firsts_at cs qs w.1 i

  get_first : (n : ℕ) (xs : List X) (i : ℕ) → i < length (take n xs) → slice_get (take n xs) i ≡ slice_get xs i
  get_first zero xs i h = absurd (omega arith)
  get_first (suc n) [] i h = absurd (omega arith)
  get_first (suc n) (x ∷ xs) zero h = refl
  get_first (suc n) (x ∷ xs) (suc i) h = get_first n xs i (omega arith)

  pub first_length : (cs : List ℕ) (qs : List (List X)) → AreWithin cs qs → (i : ℕ) → get_or cs i 0 ≡ length (list_at (firsts cs qs) i)
  first_length cs qs w i = omega (arith, ap length (firsts_at cs qs w i), within_at cs qs w i, length-take (get_or cs i 0) (list_at qs i))

  -- a record of the first part of a run is the record at the same place of the run
  pub in_first : (cs : List ℕ) (qs : List (List X)) → AreWithin cs qs → (run i : ℕ) (q : List X) → i < length (list_at (firsts cs qs) run) → list_at qs run ≡ q → (i < length q) × (slice_get (list_at (firsts cs qs) run) i ≡ slice_get q i)
  in_first cs qs w run i q h same =
      let f = firsts_at cs qs w run ∙ ap (take (get_or cs run 0)) same in
      (omega (arith, h, ap length f, length-take (get_or cs run 0) q), ap (λ xs. slice_get xs i) f ∙ get_first (get_or cs run 0) q i (subst (λ xs. i < length xs) f h))
