use Rattle.std.proofs.Common.{rules, ◌≡◌, ◌∙◌, ◌*◌, ◌+◌, ◌/◌, ◌%◌, ◌^◌, ap, sym, subst, arith}
use Rattle.ppq_load.specs.Given.{seed_after}
use Rattle.ppq_load.proofs.Strides.{IsStride, stride-one, stride-two, left-odd, left-even}
use Rattle.ppq_load.proofs.generator.key_behind.Goals.{then-left-eq1, else-left-eq1}
use Rattle.ppq_load.proofs.generator.key_behind.Goals as goal

pub squaring-init : goal.squaring-init
squaring-init c = record { steps = 1; stride = stride-one; left = let e : c.args.steps * 1 ≡ c.args.steps = omega arith in ap (seed_after c.args.key) e }

pub squaring-preserved : goal.squaring-preserved
squaring-preserved c =
    let i = c.squaring.invariant in
    let n = i.steps in
    let f = c.squaring.factor in
    let s = c.squaring.shift in
    let left : seed_after c.if-left-eq1.last (c.squaring.left / 2 * (n + n)) ≡ seed_after c.squaring.last (c.squaring.left * n) =
    elim c.if-left-eq1.branch [
      | then-left-eq1 w ↦ ap (λ x. seed_after x (c.squaring.left / 2 * (n + n))) (w.last-is ∙ w.stride-last.ensures) ∙ left-odd n f s c.squaring.last c.squaring.left i.stride (search rules)
      | else-left-eq1 w ↦ ap (λ x. seed_after x (c.squaring.left / 2 * (n + n))) w.last-is ∙ left-even n c.squaring.last c.squaring.left (search rules)
    ] in
    record {
      steps = n + n;
      stride = subst (IsStride (n + n) (f * f % 2 ^ 64)) (sym c.stride-shift.ensures) (stride-two n f s i.stride);
      left = left ∙ i.left;
    }

pub returns : goal.returns
returns c =
    let none : c.squaring.left ≡ 0 = omega (arith, c.squaring-test.false) in
    let e : 0 ≡ 0 * c.squaring.invariant.steps = omega arith in
    ap (seed_after c.squaring.last) (e ∙ ap (λ l. l * c.squaring.invariant.steps) (sym none)) ∙ c.squaring.invariant.left
