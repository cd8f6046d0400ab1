-- Frames that stand first, and requests that were taken one after the other.
use Rattle.std.proofs.Common.{◌≡◌, ◌<◌, ℕ, List, [], ◌∷◌, ◌++◌, length, Option, Some, sym, ap, subst, arith, inl, inr, append_assoc, append-nil}
use Rattle.std.specs.Prelude.{is_some, true}
use Rattle.ppq_frames.specs.Frames.{Came, AreRequests, HasFirst, IsPart, IsTooLong}
use Rattle.ppq_engine.specs.ppq_script.Words.{Words}
use Rattle.ppq_engine.specs.ppq_script.declared.command.Command.{Command}
use Rattle.ppq_engine.specs.ppq_script.declared.command.Command.TheVariants.{Size}
use Rattle.ppq_requests.specs.Requests.{request_of, AreAsked}
use Rattle.ppq_requests.proofs.Sequences.{requests_of-push}
use Rattle.ppq_answer.specs.Talking.{talk_of}

-- what stands first is no part of a frame
pub first-not_part : (bytes : List ℕ) → HasFirst bytes → ¬ IsPart bytes
first-not_part bytes first (inl short) = omega (arith, first.named, short)
first-not_part bytes first (inr cut) = omega (arith, first.whole, cut.cut)

pub long-not_part : (bytes : List ℕ) → IsTooLong bytes → ¬ IsPart bytes
long-not_part bytes long (inl short) = omega (arith, long.named, short)
long-not_part bytes long (inr cut) = omega (arith, long.above, cut.few)

-- and a part is shorter than the longest frame
pub part-short : (bytes : List ℕ) → IsPart bytes → length bytes < 4194308
part-short bytes (inl short) = omega (arith, short)
part-short bytes (inr cut) = omega (arith, cut.cut, cut.few)

-- what came, of which one request more was taken
pub came-next :
    (told told_now : Option (List ℕ)) (gave_now : List ℕ → Type 0) (requests more : List (List ℕ)) (request waiting left : List ℕ) → Came told told_now gave_now (requests ++ more) waiting
    → ((bytes : List ℕ) (taken : List (List ℕ)) → AreRequests bytes taken waiting → AreRequests bytes (taken ++ request ∷ []) left)
    → Came told told_now gave_now (requests ++ (more ++ request ∷ [])) left
came-next told told_now gave_now requests more request waiting left came next =
    let P : List (List ℕ) → Type 0 = λ rs. AreRequests came.given rs left in
    record { given = came.given; gave = came.gave; piece = came.piece; cut = subst P (append_assoc requests more (request ∷ [])) (next came.given (requests ++ more) came.cut) }

pub came-none : {told told_now : Option (List ℕ)} {gave_now : List ℕ → Type 0} (requests : List (List ℕ)) (waiting : List ℕ) → Came told told_now gave_now requests waiting → Came told told_now gave_now (requests ++ []) waiting
came-none {told} {told_now} {gave_now} requests waiting came = let P : List (List ℕ) → Type 0 = λ rs. Came told told_now gave_now rs waiting in subst P (sym (append-nil requests)) came

-- the commands of a talk with one request more
pub talk-push : {R : Type 0} (w : Words R) (requests : List (List ℕ)) (request : List ℕ) (commands : List (Command R)) → AreAsked w requests → request_of w request ≡ Some commands → talk_of w (requests ++ request ∷ []) ≡ talk_of w requests ++ (commands ++ Size ∷ [])
talk-push {R} w requests request commands are is = ap (λ (xs : List (Command R)). Size ∷ xs) (requests_of-push w requests request commands are is)

pub is-some : {X : Type 0} (o : Option X) (x : X) → o ≡ Some x → is_some o ≡ true
is-some {X} o x is = ap (λ (t : Option X). is_some t) is
