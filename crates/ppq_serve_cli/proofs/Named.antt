-- The first frame, and what it names.
use Rattle.std.proofs.Common.{◌≡◌, ◌∙◌, ℕ, List, [], ◌∷◌, ◌++◌, Option, Some, None, sym, ap, subst, arith, inl}
use Rattle.std.specs.Prelude.{IfSome, IfNone}
use Rattle.ppq_answer.specs.ppq_frames.Frames.{Came, AreRequests, HasFirst, IsPart, first_request}
use Rattle.ppq_requests.specs.ppq_script.declared.head.Head.{Head}
use Rattle.ppq_requests.specs.ppq_script.declared.kind.Kind.{Kind}
use Rattle.ppq_requests.specs.ppq_script.declared.order.Order.{Order}
use Rattle.ppq_requests.specs.Hello.{hello_of}
use Rattle.ppq_serve_cli.specs.First.{NamesNone}
use Rattle.ppq_serve_cli.specs.Over.{chosen}

-- what was read of the frame that stands first
pub read-some : (r : Option Head) (waiting bytes : List ℕ) → HasFirst waiting → bytes ≡ first_request waiting → r ≡ hello_of bytes → IfSome r (λ head. HasFirst waiting × (hello_of (first_request waiting) ≡ Some head))
read-some None waiting bytes first is read = tt
read-some (Some head) waiting bytes first is read = (first, ap hello_of (sym is) ∙ sym read)

pub read-none : (r : Option Head) (waiting bytes : List ℕ) → HasFirst waiting → bytes ≡ first_request waiting → r ≡ hello_of bytes → IfNone r (NamesNone waiting)
read-none None waiting bytes first is read = inl (first, ap hello_of (sym is) ∙ sym read)
read-none (Some head) waiting bytes first is read = tt

-- nothing that waits is a part of a frame
pub none-part : (waiting : List ℕ) → waiting ≡ [] → IsPart waiting
none-part waiting empty = let P : List ℕ → Type 0 = λ w. IsPart w in subst P (sym empty) (inl (omega arith))

-- a frame was taken
pub came-frame :
    (told told_now : Option (List ℕ)) (gave_now : List ℕ → Type 0) (taken : List (List ℕ)) (frame waiting left : List ℕ) → Came told told_now gave_now taken waiting
    → ((bytes : List ℕ) (requests : List (List ℕ)) → AreRequests bytes requests waiting → AreRequests bytes (requests ++ frame ∷ []) left) → Came told told_now gave_now (taken ++ frame ∷ []) left
came-frame told told_now gave_now taken frame waiting left came next = record { given = came.given; gave = came.gave; piece = came.piece; cut = next came.given taken came.cut }

-- the fact for one kind and one order
pub pick : (kind own_kind : Kind) (order own_order : Order) (a b c d : Type 0) → kind ≡ own_kind → order ≡ own_order → chosen own_kind own_order a b c d → chosen kind order a b c d
pick kind own_kind order own_order a b c d is_kind is_order fact =
    let P : Kind → Type 0 = λ k. chosen k own_order a b c d in
    let Q : Order → Type 0 = λ o. chosen kind o a b c d in
    subst Q (sym is_order) (subst P (sym is_kind) fact)
