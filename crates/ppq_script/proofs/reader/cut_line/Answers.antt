use Rattle.std.proofs.Common.{ℕ, ◌≡◌, ◌+◌, ◌-◌, List, ◌∷◌, length, take, drop, arith, sym, ap, ◌∙◌, position, Some, None, ◌==◌, add-one, length-drop}
use Rattle.std.proofs.lemmas.List.{take_all, drop_all}
use Rattle.ppq_script.specs.Lines.{lines_of}
use Rattle.ppq_script.proofs.LineLemmas.{lines-at, lines-last}
use Rattle.ppq_script.proofs.reader.cut_line.Goals as goal

-- what `&xs[n..]` is
from_place : (xs : List ℕ) (n : ℕ) → take (length xs - n) (drop n xs) ≡ drop n xs
from_place xs n = take_all (length xs - n) (drop n xs) (omega (arith, length-drop {A = ℕ}))

pub returns-in-Some-clause-lines : goal.returns-in-Some-clause-lines
returns-in-Some-clause-lines c =
    let at : position (λ b. b == 10) c.args.rest.now ≡ Some c.in-Some.end = sym c.in-Some.ensures in
    rw (from_place c.args.rest.now (c.in-Some.end + 1)) (rw (add-one c.in-Some.end) (lines-at c.args.rest.now c.in-Some.end at))

pub returns-in-None-clause-lines : goal.returns-in-None-clause-lines
returns-in-None-clause-lines c =
    let at : position (λ b. b == 10) c.args.rest.now ≡ None = sym c.in-None.ensures in
    lines-last c.args.rest.now (omega arith) at ∙ ap (λ (xs : List ℕ). c.args.rest.now ∷ lines_of xs) (sym (from_place c.args.rest.now (length c.args.rest.now) ∙ drop_all (length c.args.rest.now) c.args.rest.now (omega arith)))
