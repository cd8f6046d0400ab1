use Rattle.std.proofs.Common.{◌∙◌, Option, refl, sym, ap, inl, inr}
use Rattle.std.specs.Prelude.{option_map}
use Rattle.ppq_words.specs.declared.serve_arguments.ServeArguments.{ServeArguments}
use Rattle.ppq_words.specs.ServeReading.{as_serve_reading}
use Rattle.ppq_serve_cli.proofs.top_call.serve_words.Goals as goal

pub returns : goal.returns
returns g c = record { answers = inr (as_serve_reading c.in-Some.arguments, sym c.in-Ok.ensures.reading ∙ ap (λ (found : Option ServeArguments). option_map as_serve_reading found) c.in-Some.is, c.serve_arguments.ensures) }

-- memory was wanting
pub returns-in-Err : goal.returns-in-Err
returns-in-Err g c = record { answers = inl (record { frames_are = refl; unread = refl; alone = record { unmade = refl; unwritten = refl; none = c.unmade.ensures.none } }, inl c.unmade.ensures.outcome) }

-- the arguments have no reading
pub returns-in_default : goal.returns-in_default
returns-in_default g c =
    let u = c.unmade-in_default.ensures in
    let none = sym c.in-Ok.ensures.reading ∙ ap (λ (found : Option ServeArguments). option_map as_serve_reading found) c.in_default.is in
    record { answers = inl (record { frames_are = refl; unread = refl; alone = record { unmade = refl; unwritten = refl; none = u.none } }, inr (u.outcome, none)) }
