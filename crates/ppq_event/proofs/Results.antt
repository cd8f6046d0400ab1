-- What holds of a result's value or error.
use Rattle.std.proofs.Common.{◌≡◌, sym, subst}
use Rattle.std.specs.Prelude.{Result, Ok, Err, IfErr, OnOk, OnErr, IsErrAnd}

pub if_err : {T E : Type 0} (r : Result T E) (e : E) (P : E → Type 0) → IsErrAnd r (λ x. x ≡ e) → P e → IfErr r P
if_err (Ok v) e P is p = tt
if_err (Err x) e P is p = subst P (sym is) p

pub on_err : {T E : Type 0} (r : Result T E) (A : Type 0) → A → OnErr r A
on_err (Ok v) A a = tt
on_err (Err x) A a = a

pub ok_map : {T E : Type 0} (r : Result T E) (A B : Type 0) → (A → B) → OnOk r A → OnOk r B
ok_map (Ok v) A B f a = f a
ok_map (Err x) A B f a = tt

pub err_map : {T E : Type 0} (r : Result T E) (P Q : E → Type 0) → ((e : E) → P e → Q e) → IfErr r P → IfErr r Q
err_map (Ok v) P Q f p = tt
err_map (Err x) P Q f p = f x p

-- what holds of this error holds of the result
pub at_err : {T E : Type 0} (r : Result T E) (e : E) (P : Result T E → Type 0) → IsErrAnd r (λ x. x ≡ e) → P (Err e) → P r
at_err (Ok v) e P is p = absurd is
at_err (Err x) e P is p = subst (λ y. P (Err y)) (sym is) p
