-- Frames, one after the other, are told apart; and a script's output is the frames of its answers.
use Rattle.std.proofs.Common.{◌≡◌, ℕ, ◌+◌, ◌<◌, ◌≤◌, ◌^◌, Bool, true, false, List, [], ◌∷◌, ◌++◌, length, take, drop, Option, Some, None, refl, sym, ap, ap₂, ◌∙◌, arith, length-append, append_assoc, append-nil}
use Rattle.std.specs.Prelude.{map, codes, if◌then◌else◌, nat_le}
use Rattle.std.specs.Int.{w32, w64, to_be_bytes, from_be_bytes}
use Rattle.std.proofs.lemmas.Nat.{from_be_bytes-to_be_bytes_4}
use Rattle.ppq_script.specs.Words.{Words}
use Rattle.ppq_script.specs.ppq_record.Bag.{least, front, first_of, size_below}
use Rattle.ppq_script.specs.declared.form.Form.TheVariants.{Bytes}
use Rattle.ppq_script.specs.declared.command.Command.{Command}
use Rattle.ppq_script.specs.declared.command.Command.TheVariants.{Pop, Top, Size, BulkPop, BulkPopLimit, Drain, LimitTop, LimitPop}
use Rattle.ppq_engine.specs.Output.{State, frame, records_text, least_text, limited_text, limited_count, popped_in, last_of, first_sum, all_text, more_text, drained_text, text_of, after, output_from}
use Rattle.ppq_engine.specs.Frames.{bytes_or, summary_bytes, answers_by, answers_from, framed, AreShort}

-- the first four bytes say how long the first frame is
take-four : (n : ℕ) (rest : List ℕ) → take 4 (to_be_bytes w32 n ++ rest) ≡ to_be_bytes w32 n
take-four n rest = refl

head-says : (bytes rest : List ℕ) → length bytes < 2 ^ 32 → from_be_bytes w32 (take 4 (frame bytes ++ rest)) ≡ length bytes
head-says bytes rest short = ap (from_be_bytes w32) (take-four (length bytes) (bytes ++ rest)) ∙ from_be_bytes-to_be_bytes_4 (length bytes) short

-- parts of the same length
take-front : (xs ys : List ℕ) → take (length xs) (xs ++ ys) ≡ xs
take-front [] ys = refl
take-front (x ∷ xs) ys = ap (λ (t : List ℕ). x ∷ t) (take-front xs ys)

drop-front : (xs ys : List ℕ) → drop (length xs) (xs ++ ys) ≡ ys
drop-front [] ys = refl
drop-front (x ∷ xs) ys = drop-front xs ys

-- frames of which the first differs, or one is there and none, are not the same
first-frame : (a b rest more : List ℕ) → length a < 2 ^ 32 → length b < 2 ^ 32 → frame a ++ rest ≡ frame b ++ more → (a ≡ b) × (rest ≡ more)
first-frame a b rest more short few same =
    let long : length a ≡ length b = sym (head-says a rest short) ∙ ap (λ (t : List ℕ). from_be_bytes w32 (take 4 t)) same ∙ head-says b more few in
    let inside : a ++ rest ≡ b ++ more = ap (drop 4) same in
    (sym (take-front a rest) ∙ ap₂ (λ (n : ℕ) (t : List ℕ). take n t) long inside ∙ take-front b more, sym (drop-front a rest) ∙ ap₂ (λ (n : ℕ) (t : List ℕ). drop n t) long inside ∙ drop-front b more)

pub frames-apart : (one other : List (List ℕ)) → AreShort one → AreShort other → framed one ≡ framed other → one ≡ other
frames-apart [] [] short few same = refl
frames-apart [] (b ∷ other) short few same = absurd (omega (arith, ap length same))
frames-apart (a ∷ one) [] short few same = absurd (omega (arith, ap length same))
frames-apart (a ∷ one) (b ∷ other) short few same =
    let parts = first-frame a b (framed one) (framed other) short.0 few.0 same in
    ap₂ (λ (x : List ℕ) (xs : List (List ℕ)). x ∷ xs) parts.0 (frames-apart one other short.1 few.1 parts.1)

framed-append : (one other : List (List ℕ)) → framed (one ++ other) ≡ framed one ++ framed other
framed-append [] other = refl
framed-append (a ∷ one) other = ap (λ (t : List ℕ). frame a ++ t) (framed-append one other) ∙ sym (append_assoc (frame a) (framed one) (framed other))

short-append : (one other : List (List ℕ)) → AreShort one → AreShort other → AreShort (one ++ other)
short-append [] other short few = few
short-append (a ∷ one) other short few = (short.0, short-append one other short.1 few)

three-long : (xs ys zs : List ℕ) → length (xs ++ ys ++ zs) ≡ length xs + (length ys + length zs)
three-long xs ys zs = omega (arith, length-append (xs ++ ys) zs, length-append xs ys)

-- an answer is one frame
framed-one : (bytes : List ℕ) → framed (bytes ∷ []) ≡ frame bytes
framed-one bytes = append-nil (frame bytes)

module _ {R : Type 0} (w : Words R) where
  records-framed : (items : List R) → records_text w Bytes items ≡ framed (map w.bytes_of items)
  records-framed [] = refl
  records-framed (x ∷ items) = ap (λ (t : List ℕ). frame (w.bytes_of x) ++ t) (records-framed items)

  least-framed : (item : Option R) → least_text w Bytes item ≡ frame (bytes_or w (codes "e") item)
  least-framed None = refl
  least-framed (Some x) = refl

  limited-framed : (item : Option R) → limited_text w Bytes item ≡ frame (bytes_or w (codes "l") item)
  limited-framed None = refl
  limited-framed (Some x) = refl

  mark-framed : (b : Bool) → (if b then all_text Bytes else more_text Bytes) ≡ frame (if b then codes "a" else codes "m")
  mark-framed true = refl
  mark-framed false = refl

  drained-framed : (count sum : ℕ) (first last : Option R) → drained_text w Bytes count first last sum ≡ frame (summary_bytes w count first last sum)
  drained-framed count sum None last = refl
  drained-framed count sum (Some x) None = refl
  drained-framed count sum (Some x) (Some y) = refl

  text-framed : (state : State R) (c : Command R) → text_of w Bytes state c ≡ framed (answers_by w state c)
  text-framed state Pop = least-framed (least w.cmp state.bag) ∙ sym (framed-one (bytes_or w (codes "e") (least w.cmp state.bag)))
  text-framed state Top = least-framed (least w.cmp state.bag) ∙ sym (framed-one (bytes_or w (codes "e") (least w.cmp state.bag)))
  text-framed state Size = sym (framed-one (to_be_bytes w64 (length state.bag)))
  text-framed state (BulkPop count) = records-framed (front w.cmp state.bag count)
  text-framed state (BulkPopLimit limit count) =
      let items = front w.cmp state.bag (limited_count w state.bag limit count) in
      let all = nat_le (size_below w.cmp state.bag limit) count in
      let mark = if all then codes "a" else codes "m" in
      ap₂ (λ (t u : List ℕ). t ++ u) (records-framed items) (mark-framed all ∙ sym (framed-one mark)) ∙ sym (framed-append (map w.bytes_of items) (mark ∷ []))
  text-framed state (Drain count) =
      let items = front w.cmp state.bag count in
      drained-framed (length items) (first_sum w items) (first_of items) (last_of items) ∙ sym (framed-one (summary_bytes w (length items) (first_of items) (last_of items) (first_sum w items)))
  text-framed state LimitTop = let item = first_of (front w.cmp state.bag (popped_in w state.session state.bag)) in limited-framed item ∙ sym (framed-one (bytes_or w (codes "l") item))
  text-framed state LimitPop = let item = first_of (front w.cmp state.bag (popped_in w state.session state.bag)) in limited-framed item ∙ sym (framed-one (bytes_or w (codes "l") item))
  text-framed state _ = refl

  -- a script's output is the frames of its answers
  pub output-framed : (given : ℕ → List R) (state : State R) (cs : List (Command R)) → output_from w Bytes given state cs ≡ framed (answers_from w given state cs)
  output-framed given state [] = refl
  output-framed given state (c ∷ cs) =
      let next = after w given state c in
      ap₂ (λ (t u : List ℕ). t ++ u) (text-framed state c) (output-framed given next cs) ∙ sym (framed-append (answers_by w state c) (answers_from w given next cs))

  -- and each of them is short
  module _ (narrow : (x : R) → length (w.bytes_of x) ≤ 64) where
    map-short : (items : List R) → AreShort (map w.bytes_of items)
    map-short [] = tt
    map-short (x ∷ items) = (omega (arith, narrow x), map-short items)

    or-short : (letter : List ℕ) (item : Option R) → length letter ≤ 64 → AreShort (bytes_or w letter item ∷ [])
    or-short letter None few = (omega (arith, few), tt)
    or-short letter (Some x) few = (omega (arith, narrow x), tt)

    mark-short : (b : Bool) → AreShort ((if b then codes "a" else codes "m") ∷ [])
    mark-short true = (omega arith, tt)
    mark-short false = (omega arith, tt)

    word-length : (n : ℕ) → length (to_be_bytes w64 n) ≡ 8
    word-length n = refl

    summary-short : (count sum : ℕ) (first last : Option R) → AreShort (summary_bytes w count first last sum ∷ [])
    summary-short count sum None last = (omega (arith, word-length 0), tt)
    summary-short count sum (Some x) None = (omega (arith, word-length 0), tt)
    summary-short count sum (Some x) (Some y) = (omega (arith, narrow x, narrow y, three-long (w.bytes_of x) (w.bytes_of y) (to_be_bytes w64 sum), word-length sum), tt)

    answers-short : (state : State R) (c : Command R) → AreShort (answers_by w state c)
    answers-short state Pop = or-short (codes "e") (least w.cmp state.bag) (omega arith)
    answers-short state Top = or-short (codes "e") (least w.cmp state.bag) (omega arith)
    answers-short state Size = (omega (arith, word-length (length state.bag)), tt)
    answers-short state (BulkPop count) = map-short (front w.cmp state.bag count)
    answers-short state (BulkPopLimit limit count) =
        let items = front w.cmp state.bag (limited_count w state.bag limit count) in
        let all = nat_le (size_below w.cmp state.bag limit) count in
        short-append (map w.bytes_of items) ((if all then codes "a" else codes "m") ∷ []) (map-short items) (mark-short all)
    answers-short state (Drain count) = let items = front w.cmp state.bag count in summary-short (length items) (first_sum w items) (first_of items) (last_of items)
    answers-short state LimitTop = or-short (codes "l") (first_of (front w.cmp state.bag (popped_in w state.session state.bag))) (omega arith)
    answers-short state LimitPop = or-short (codes "l") (first_of (front w.cmp state.bag (popped_in w state.session state.bag))) (omega arith)
    answers-short state _ = tt

    pub all-short : (given : ℕ → List R) (state : State R) (cs : List (Command R)) → AreShort (answers_from w given state cs)
    all-short given state [] = tt
    all-short given state (c ∷ cs) = short-append (answers_by w state c) (answers_from w given (after w given state c) cs) (answers-short state c) (all-short given (after w given state c) cs)
