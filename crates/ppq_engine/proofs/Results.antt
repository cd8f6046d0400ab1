-- What holds of a result's value or error.
use Rattle.std.proofs.Common.{◌≡◌, sym, subst}
use Rattle.std.specs.Prelude.{Result, Ok, Err, IfErr, OnOk, OnErr, IsErrAnd, Option, Some, None, IfSome}

pub if-err : {T E : Type 0} (r : Result T E) (e : E) (P : E → Type 0) → IsErrAnd r (λ x. x ≡ e) → P e → IfErr r P
if-err (Ok v) e P is p = tt
if-err (Err x) e P is p = subst P (sym is) p

-- an error is no value
pub not-ok : {T E : Type 0} (r : Result T E) (P : E → Type 0) (A : Type 0) → IsErrAnd r P → OnOk r A
not-ok (Ok v) P A is = absurd is
not-ok (Err x) P A is = tt

pub on-ok-map : {T E : Type 0} (r : Result T E) (A B : Type 0) → (A → B) → OnOk r A → OnOk r B
on-ok-map (Ok v) A B f a = f a
on-ok-map (Err x) A B f a = tt

pub on-ok : {T E : Type 0} (r : Result T E) (A : Type 0) → A → OnOk r A
on-ok (Ok v) A a = a
on-ok (Err x) A a = tt

pub if-some : {A : Type 0} (t : Option A) (P : A → Type 0) (a : A) → t ≡ Some a → IfSome t P → P a
if-some None P a e h = cc
if-some (Some x) P a e h = let same : x ≡ a = cc in subst P same h

pub on-err : {T E : Type 0} (r : Result T E) (A : Type 0) → A → OnErr r A
on-err (Ok v) A a = tt
on-err (Err x) A a = a

-- what holds of a result that is known
pub at-ok : {T E : Type 0} (r : Result T E) (v : T) (A : Type 0) → r ≡ Ok v → OnOk r A → A
at-ok {T} {E} r v A e h = let P : Result T E → Type 0 = λ x. OnOk x A in subst P e h

pub at-err : {T E : Type 0} (r : Result T E) (f : E) (P : E → Type 0) → r ≡ Err f → IfErr r P → P f
at-err {T} {E} r f P e h = let Q : Result T E → Type 0 = λ x. IfErr x P in subst Q e h

-- two things that hold of an error, or of a value
pub if-err-both : {T E : Type 0} (r : Result T E) (P Q : E → Type 0) → IfErr r P → IfErr r Q → IfErr r (λ e. P e × Q e)
if-err-both (Ok v) P Q p q = tt
if-err-both (Err e) P Q p q = (p, q)

pub on-ok-both : {T E : Type 0} (r : Result T E) (A B : Type 0) → OnOk r A → OnOk r B → OnOk r (A × B)
on-ok-both (Ok v) A B a b = (a, b)
on-ok-both (Err e) A B a b = tt
