use Rattle.std.proofs.Common.{ℕ, suc, ◌≡◌, ◌+◌, ◌/◌, ◌^◌, ◌<◌, List, [], ◌∷◌, ◌++◌, length, take, set, ap, sym, subst, ◌∙◌, append_assoc, arith}
use Rattle.std.proofs.lemmas.List.{take_more_set, length-set}
use Rattle.std.proofs.lemmas.Grind.{common_steps}
use Rattle.ppq_record.specs.Given.{next_seed}
use Rattle.ppq_outside.specs.Forged.{forged}
use Rattle.ppq_outside.proofs.forged.forge.Goals as goal

-- one byte more stands where one is still to be made
more : (into : List ℕ) (i state n : ℕ) → i < length into → take (i + 1) (set into i (next_seed state / 2 ^ 56)) ++ forged (next_seed state) n ≡ take i into ++ forged state (suc n)
more into i state n below =
    let byte = next_seed state / 2 ^ 56 in
    let rest = forged (next_seed state) n in
    ap (λ (t : List ℕ). t ++ rest) (take_more_set into i byte below) ∙ append_assoc (take i into) (byte ∷ []) rest

pub loop-i-preserved : goal.loop-i-preserved
loop-i-preserved c = λ n left.
    let l = c.loop-i in
    let next = next_seed l.state in
    let P : ℕ → Type 0 = λ s. take (l.i + 1) (set l.into l.i (s / 2 ^ 56)) ++ forged s n ≡ forged c.args.seed (length c.args.into.now) in
    let below : l.i < length l.into = omega (arith, c.loop-i-test.true, l.auto.into) in
    subst P (sym c.step_of-state.ensures) (more l.into l.i l.state n below ∙ l.invariant (suc n) (omega (arith, left, length-set l.into l.i (c.step_of-state.result / 2 ^ 56))))

pub returns : goal.returns
returns c = grind (arith, common_steps, c.loop-i.invariant 0)
