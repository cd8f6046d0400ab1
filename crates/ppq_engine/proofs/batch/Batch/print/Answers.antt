use Rattle.std.proofs.Common.{rules, ◌≡◌, ◌+◌, ◌<◌, ◌++◌, ◌∷◌, [], ◌∙◌, ℕ, List, Option, Some, length, ap, sym, subst, take, drop, arith, append-nil, take-append-drop, refl}
use Rattle.ppq_script.specs.Words.{words}
use Rattle.std.specs.Prelude.{slice_get}
use Rattle.std.proofs.lemmas.List.Concat.{flat_map-append}
use Rattle.ppq_script.specs.Words.{Words}
use Rattle.ppq_script.specs.declared.form.Form.{Form}
use Rattle.ppq_script.specs.ppq_outside.Told.{TakesPart}
use Rattle.ppq_engine.specs.Gathers.{answer_text, Gathers}
use Rattle.ppq_engine.specs.Limits.{answers_text}
use Rattle.ppq_engine.specs.Output.{limited_text}
use Rattle.ppq_engine.proofs.Popped.{gathers-more, gathers-nothing, takes-part}
use Rattle.ppq_engine.proofs.Results.{on-err}
use Rattle.ppq_engine.proofs.Running.{take-next}
use Rattle.ppq_engine.proofs.batch.Batch.print.Goals as goal

-- the texts of the first answers and of the next
text-more : {R : Type 0} (w : Words R) (form : Form) (answers : List (Option R)) (i : ℕ) (answer : Option R) → i < length answers → slice_get answers i ≡ Some answer → answers_text w form (take (i + 1) answers) ≡ answers_text w form (take i answers) ++ limited_text w form answer
text-more w form answers i answer h here =
    ap (answers_text w form) (take-next answers i answer h here) ∙ flat_map-append (limited_text w form) (take i answers) (answer ∷ []) ∙ ap (λ (t : List ℕ). answers_text w form (take i answers) ++ t) (append-nil (limited_text w form answer))

-- and of the others
text-around : {R : Type 0} (w : Words R) (form : Form) (answers : List (Option R)) (i : ℕ) → answers_text w form (take i answers) ++ answers_text w form (drop i answers) ≡ answers_text w form answers
text-around w form answers i = sym (flat_map-append (limited_text w form) (take i answers) (drop i answers)) ∙ ap (answers_text w form) (take-append-drop i answers)

pub loop-i-init : goal.loop-i-init
loop-i-init g c = record { text = gathers-nothing (g.O.Sink.told c.args.out.now) c.args.gathered.now; stays = refl }

pub returns-in_err-print : goal.returns-in_err-print
returns-in_err-print g c = let w = words g.R.PartialEq g.R.PartialOrd g.R.Ord g.R.Record g.R.Fields in
    let told = g.O.Sink.told in
    let answers = c.args.self.now.answers.items in
    let i = c.loop-i.i in
    let P : List ℕ → Type 0 = λ t. TakesPart (told c.args.out.now) (told c.print.new.out) (c.args.gathered.now ++ t) in
    record {
      text = search rules;
      part = on-err c.from_residual.result (TakesPart (told c.args.out.now) (told c.print.new.out) (c.args.gathered.now ++ answers_text w c.args.form answers))
          (subst P (text-around w c.args.form answers i)
          (takes-part (told c.args.out.now) (told c.loop-i.out) (told c.print.new.out) c.args.gathered.now c.loop-i.gathered (answers_text w c.args.form (take i answers)) (answers_text w c.args.form (drop i answers)) c.loop-i.invariant.text c.in_err-print.ensures.part));
      cause = search rules;
    }

pub loop-i-preserved : goal.loop-i-preserved
loop-i-preserved g c = let w = words g.R.PartialEq g.R.PartialOrd g.R.Ord g.R.Record g.R.Fields in
    let told = g.O.Sink.told in
    let answers = c.args.self.now.answers.items in
    let i = c.loop-i.i in
    let answer = c.item_at.result in
    let text = answers_text w c.args.form (take i answers) in
    let Q : List (Option g.row.R.Denot) → Type 0 = λ xs. slice_get xs i ≡ Some answer in
    let same : c.deref.result.now ≡ answers = c.deref.ensures.value in
    let here : slice_get answers i ≡ Some answer = subst Q same c.item_at.ensures in
    let P : List ℕ → Type 0 = λ t. Gathers (told c.args.out.now) (told c.print.new.out) c.args.gathered.now t c.print.new.gathered in
    record {
      text =
          subst P (ap (λ (t : List ℕ). text ++ t) (c.limited-answer.ensures c.args.form) ∙ sym (text-more w c.args.form answers i answer (omega (arith, ap (λ (xs : List (Option g.row.R.Denot)). length xs) same)) here))
          (gathers-more (told c.args.out.now) (told c.loop-i.out) (told c.print.new.out) c.args.gathered.now c.loop-i.gathered c.print.new.gathered text (answer_text w c.args.form c.limited-answer.result) c.loop-i.invariant.text c.in_ok-print.ensures.ok);
      stays = c.in_ok-print.ensures.cause.ok ∙ c.loop-i.invariant.stays;
    }
