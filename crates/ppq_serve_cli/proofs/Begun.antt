-- What a source gave before its first call, and after it.
use Rattle.std.proofs.Common.{◌≡◌, ◌≤◌, ℕ, List, [], length, Option, Some, None, refl, sym, subst}
use Rattle.std.proofs.lemmas.List.Elements.{All-nil}
use Rattle.ppq_answer.specs.ppq_frames.ppq_outside.Told.{GivesPiece}
use Rattle.ppq_answer.specs.ppq_frames.Frames.{Came, longest}

gives-none : (told : Option (List ℕ)) → GivesPiece told told []
gives-none None = refl
gives-none (Some coming) = (coming, refl, refl)

pub came-begin : (told : Option (List ℕ)) (gave : List ℕ → Type 0) (waiting : List ℕ) → gave [] → waiting ≡ [] → Came told told gave [] waiting
came-begin told gave waiting none empty =
    let P : List ℕ → Type 0 = λ w. Came told told gave [] w in
    subst P (sym empty) (record { given = []; gave = none; piece = gives-none told; cut = record { few = All-nil (λ request. length request ≤ longest); all = refl } })
