-- Handlers that may retire: nobody else feels whether they have.
use Rattle.std.specs.Prelude.{◌≡◌, ℕ, cond, nat_eq, List, [], ◌∷◌, get_or, set, Some, None, ⊤}
use Rattle.ppq_record.specs.declared.triple.Triple.{Triple}
use Rattle.ppq_handler.specs.declared.kind.Kind.{Kind}
use Rattle.ppq_handler.specs.declared.kind.Kind.TheVariants.{Count, Relay, Fork, Mortal}
use Rattle.ppq_handler.specs.Roster.{Place}
use Rattle.ppq_handler.specs.Agenda.{Entry, Run, run}

-- the kind of handlers that may retire
abbrev pub IsMortal : Kind → Type 0
IsMortal Count = ⊥
IsMortal Relay = ⊥
IsMortal Fork = ⊥
IsMortal Mortal = ⊤

-- no handler is there, or one that may retire
abbrev pub MayBeGone : Place → Type 0
MayBeGone None = ⊤
MayBeGone (Some h) = IsMortal h.kind

-- the entries whose target is another place
abbrev pub for_others : ℕ → List Entry → List Entry
for_others i [] = []
for_others i (e ∷ es) = cond (nat_eq e.event.target i) (for_others i es) (e ∷ for_others i es)

-- two runs end alike, and have the same lines for all other places
pub record SameForOthers (i : ℕ) (one other : Run) : Type 0 where
  pub ends : other.ending ≡ one.ending
  pub lines : for_others i other.entries ≡ for_others i one.entries

-- if no handler is at a place, or one that may retire, then the run is for all others as if the place were none
abbrev pub NobodyFeelsGone : Type 0
NobodyFeelsGone = (until events i : ℕ) (bag : List Triple) (places : List Place) → MayBeGone (get_or places i None) → SameForOthers i (run until events bag places) (run until events bag (set places i None))
