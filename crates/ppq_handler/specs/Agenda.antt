-- The agenda: what a run of events is to do, on one thread.
use Rattle.std.specs.Prelude.{ℕ, zero, suc, ◌-◌, ◌≤◌, cond, nat_lt, nat_le, List, [], ◌∷◌, ◌++◌, length, get_or, set, flat_map, codes, decimal, Option, Some, None}
use Rattle.std.specs.List.{AllByRecursion as Each}
use Rattle.ppq_record.specs.declared.triple.Triple.{Triple}
use Rattle.ppq_record.specs.Triple.{triple_cmp}
use Rattle.ppq_record.specs.Bag.{ascending}
use Rattle.ppq_handler.specs.declared.outcome.Outcome.{Outcome}
use Rattle.ppq_handler.specs.declared.ending.Ending.{Ending}
use Rattle.ppq_handler.specs.declared.ending.Ending.TheVariants.{Empty, Until, Full}
use Rattle.ppq_handler.specs.Roster.{Place, answered, outcome_at}

-- of a list of places that begins with the place `base`, the one with this number; none where it is not in the list
abbrev pub place_in : ℕ → List Place → ℕ → Place
place_in base places target = cond (nat_le base target) (get_or places (target - base) None) None

-- what is answered to an event, none where it is lost
abbrev pub answer_of : ℕ → ℕ → List Place → Triple → Option Outcome
answer_of base peers places e = outcome_at (place_in base places e.target) e.time e.target peers e.word

-- the places after an event
abbrev pub places_after : ℕ → ℕ → List Place → Triple → List Place
places_after base peers places e = cond (nat_le base e.target) (set places (e.target - base) (answered (place_in base places e.target) e.time e.target peers e.word)) places

-- what is answered to events in turn
abbrev pub answers_to : ℕ → ℕ → List Triple → List Place → List (Option Outcome)
answers_to base peers [] places = []
answers_to base peers (e ∷ es) places = answer_of base peers places e ∷ answers_to base peers es (places_after base peers places e)

-- the places after events in turn
abbrev pub places_after_all : ℕ → ℕ → List Triple → List Place → List Place
places_after_all base peers [] places = places
places_after_all base peers (e ∷ es) places = places_after_all base peers es (places_after base peers places e)

abbrev pub some_of : Option Triple → List Triple
some_of None = []
some_of (Some e) = e ∷ []

-- the events that an answer makes
abbrev pub follow_ups : Option Outcome → List Triple
follow_ups None = []
follow_ups (Some o) = some_of o.first ++ some_of o.second

-- what is printed of an answer
abbrev pub reply_of : Option Outcome → Option ℕ
reply_of None = None
reply_of (Some o) = Some o.reply

-- an event of the journal, and the reply, none where the event was lost
pub record Entry : Type 0 where
  pub event : Triple
  pub reply : Option ℕ

abbrev pub entry : Triple → Option Outcome → Entry
entry e answer = record { event = e; reply = reply_of answer }

-- what a run did: its entries in order, how many events were waiting after each of them, how it ended, and the places that it left
pub record Run : Type 0 where
  pub entries : List Entry
  pub waiting : List ℕ
  pub ending : Ending
  pub places : List Place

abbrev pub ended : Ending → List Place → Run
ended ending places = record { entries = []; waiting = []; ending = ending; places = places }

-- a run with a turn before it
abbrev pub turned : Entry → ℕ → Run → Run
turned e waits run = record { entries = e ∷ run.entries; waiting = waits ∷ run.waiting; ending = run.ending; places = run.places }

-- the events in ascending order
abbrev pub in_turn : List Triple → List Triple
in_turn events = ascending triple_cmp events

-- The run from an agenda in ascending order, where so many turns are left and so many were made: where no event is waiting, it has ended; so it
-- has where the first is later than `until`, and where no turn is left. Else the first is answered, and what follows from it is waiting too
abbrev pub run_from : ℕ → ℕ → ℕ → List Triple → List Place → Run
run_from until left count [] places = ended (Empty count) places
run_from until zero count (e ∷ rest) places = ended (cond (nat_lt until e.time) (Until count) (Full count)) places
run_from until (suc left) count (e ∷ rest) places =
    let answer = answer_of 0 (length places) places e in
    let agenda = rest ++ follow_ups answer in
    cond (nat_lt until e.time) (ended (Until count) places) (turned (entry e answer) (length agenda) (run_from until left (suc count) (in_turn agenda) (places_after 0 (length places) places e)))

-- the run of a multiset of events, of at most so many turns
abbrev pub run : ℕ → ℕ → List Triple → List Place → Run
run until events bag places = run_from until events 0 (in_turn bag) places

-- a reply as text
abbrev pub reply_text : Option ℕ → List ℕ
reply_text None = codes "lost"
reply_text (Some n) = decimal n

-- an entry as a line
abbrev pub entry_text : Entry → List ℕ
entry_text e = decimal e.event.time ++ codes " " ++ decimal e.event.target ++ codes " " ++ decimal e.event.word ++ codes " " ++ reply_text e.reply ++ codes "\n"

-- an ending as a line
abbrev pub ending_text : Ending → List ℕ
ending_text (Empty count) = codes "end empty count " ++ decimal count ++ codes "\n"
ending_text (Until count) = codes "end until count " ++ decimal count ++ codes "\n"
ending_text (Full count) = codes "end full count " ++ decimal count ++ codes "\n"

-- the journal
abbrev pub journal : Run → List ℕ
journal run = flat_map entry_text run.entries ++ ending_text run.ending

-- no event of the list is for a place before this one
abbrev pub AreFrom : ℕ → List Triple → Type 0
AreFrom base events = Each (λ e. base ≤ e.target) events
