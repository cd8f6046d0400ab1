-- Runs that are shown by another value.
use Rattle.std.proofs.Common.{◌≡◌, ℕ, ◌<◌, zero, suc, List, [], ◌∷◌, length, get_or, refl, sym, ap, ◌∙◌, arith}
use Rattle.std.specs.Prelude.{map, slice_get, Some}
use Rattle.std.proofs.lemmas.List.{length-map}
use Rattle.std.proofs.lemmas.Option.{slice_get-get_or}
use Rattle.ppq_record.specs.Runs.{list_at}

list_at-map : {V X : Type 0} (f : V → List X) (vs : List V) (n : ℕ) (d : V) → n < length vs → list_at (map f vs) n ≡ f (get_or vs n d)
list_at-map f [] n d h = absurd (omega arith)
list_at-map f (v ∷ vs) zero d h = refl
list_at-map f (v ∷ vs) (suc n) d h = list_at-map f vs n d (omega arith)

-- the run of the value that stands at a place
pub run_is : {V X : Type 0} (f : V → List X) (vs : List V) (n : ℕ) (d : V) (xs : List X) → n < length (map f vs) → xs ≡ f (get_or vs n d) → xs ≡ list_at (map f vs) n
run_is f vs n d xs h e = e ∙ sym (list_at-map f vs n d (omega (arith, length-map vs f)))

-- a record of it
pub item_is : {X : Type 0} (xs ys : List X) (i : ℕ) (x : X) → xs ≡ ys → i < length ys → x ≡ get_or xs i x → slice_get ys i ≡ Some x
item_is {X} xs ys i x e h is = slice_get-get_or ys i x h ∙ ap (λ (y : X). Some y) (ap (λ (l : List X). get_or l i x) (sym e) ∙ sym is)
