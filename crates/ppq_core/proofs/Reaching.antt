-- Steps show their history.
use Rattle.std.proofs.Common.{[], ◌∷◌, sym, subst}
use Rattle.ppq_core.specs.Shown.{Table, Shows}
use Rattle.ppq_core.specs.Laws.{StepsShowTheirHistory}

pub steps_show : (R : Type 0) → StepsShowTheirHistory R
steps_show R start end [] fresh reached = subst (λ (t : Table R). Shows t []) (sym reached) fresh
steps_show R start end (e ∷ h) fresh reached = reached.2 h (steps_show R start reached.0 h fresh reached.1)
