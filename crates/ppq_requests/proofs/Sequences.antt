-- The commands of requests that come one after the other.
use Rattle.std.proofs.Common.{◌≡◌, ◌∙◌, ℕ, true, List, [], ◌∷◌, ◌++◌, Option, Some, None, refl, sym, ap, append_assoc}
use Rattle.std.specs.Prelude.{is_some}
use Rattle.ppq_script.specs.Words.{Words}
use Rattle.ppq_script.specs.declared.command.Command.{Command}
use Rattle.ppq_script.specs.declared.command.Command.TheVariants.{Size}
use Rattle.ppq_requests.specs.Requests.{answered, request_of, requests_of, AreAsked}

module _ {R : Type 0} (w : Words R) where
  answered-append : (asked : Option (List (Command R))) (one other : List (Command R)) → is_some asked ≡ true → answered asked (one ++ other) ≡ answered asked one ++ other
  answered-append None one other e = cc
  answered-append (Some commands) one other e = sym (append_assoc commands (Size ∷ one) other)

  -- requests behind others add their commands behind those of the others
  pub requests_of-append : (one other : List (List ℕ)) → AreAsked w one → requests_of w (one ++ other) ≡ requests_of w one ++ requests_of w other
  requests_of-append [] other asked = refl
  requests_of-append (request ∷ one) other asked =
      ap (answered (request_of w request)) (requests_of-append one other asked.1) ∙ answered-append (request_of w request) (requests_of w one) (requests_of w other) asked.0

  -- one request behind others
  pub requests_of-push : (requests : List (List ℕ)) (request : List ℕ) (commands : List (Command R)) → AreAsked w requests → request_of w request ≡ Some commands
      → requests_of w (requests ++ request ∷ []) ≡ requests_of w requests ++ (commands ++ Size ∷ [])
  requests_of-push requests request commands asked is =
      requests_of-append requests (request ∷ []) asked ∙ ap (λ (o : Option (List (Command R))). requests_of w requests ++ answered o []) is

  -- what is no request ends them
  pub requests_of-bad : (requests : List (List ℕ)) (request : List ℕ) (rest : List (List ℕ)) → AreAsked w requests → request_of w request ≡ None → requests_of w (requests ++ request ∷ rest) ≡ requests_of w requests ++ []
  requests_of-bad requests request rest asked is =
      requests_of-append requests (request ∷ rest) asked ∙ ap (λ (o : Option (List (Command R))). requests_of w requests ++ answered o (requests_of w rest)) is

  pub AreAsked-push : (requests : List (List ℕ)) (request : List ℕ) → AreAsked w requests → is_some (request_of w request) ≡ true → AreAsked w (requests ++ request ∷ [])
  AreAsked-push [] request asked is = (is, tt)
  AreAsked-push (first ∷ requests) request asked is = (asked.0, AreAsked-push requests request asked.1 is)
