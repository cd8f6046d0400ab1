use Rattle.std.proofs.Common.{◌≡◌, ℕ, List, Option, IfSome, inl, inr, refl, subst}
use Rattle.ppq_jobs.specs.ppq_engine.declared.end.End.{End}
use Rattle.ppq_jobs.specs.ppq_engine.declared.end.End.TheVariants.{Done}
use Rattle.ppq_cli.specs.RunWords.{reading, OfFile, WritesAll, refusal_of, IsAnswer}
use Rattle.ppq_cli.proofs.Same.{write_the_same}
use Rattle.ppq_cli.proofs.twice.run_twice.Goals as goal

pub returns-in-Done-clause-ends : goal.returns-in-Done-clause-ends
returns-in-Done-clause-ends g c =
    (c.run_whole-first.new.library, inl ((c.run_whole-first.result, (c.run_whole-first.ensures, c.in-Done.is)), (c.run_whole-second.result, (c.run_whole-second.ensures, refl))))

pub returns-in-Done-clause-same : goal.returns-in-Done-clause-same
returns-in-Done-clause-same g c = λ done tells other_tells one.
    let told = g.L.Library.told c.args.library.now in
    let one_reading = reading c.args.words.now in
    let other = reading c.args.other_words.now in
    let first : c.run_whole-first.result.end ≡ Done = c.in-Done.is in
    let files : g.L.Library.told c.run_whole-first.new.library ≡ told = c.run_whole-first.ensures.outside.files in
    let P : End → Type 0 = λ e. IfSome told (λ f. IsAnswer (refusal_of one_reading f) e) in
    let Q : Option (List ℕ → Option (List ℕ)) → Type 0 = λ t. IfSome t (λ f. IsAnswer (refusal_of other f) c.run_whole-second.result.end) in
    let R : End → Type 0 = λ e. IfSome told (λ f. IsAnswer (refusal_of other f) e) in
    let S : Option (List ℕ → Option (List ℕ)) → Type 0 = λ t. IfSome other (λ r. OfFile t r (WritesAll g.OtherO.Sink.told c.args.other_out.now c.run_whole-second.new.out)) in
    write_the_same told one_reading other (g.O.Sink.told c.args.out.now) (g.O.Sink.told c.run_whole-first.new.out) (g.OtherO.Sink.told c.args.other_out.now) (g.OtherO.Sink.told c.run_whole-second.new.out) one
    (subst P first c.run_whole-first.ensures.answer) (c.run_whole-first.ensures.written.done first tells)
    (subst R done (subst Q files c.run_whole-second.ensures.answer)) (subst S files (c.run_whole-second.ensures.written.done done other_tells))

pub returns : goal.returns
returns g c = record {
  ends = (c.run_whole-first.new.library, inr ((c.run_whole-first.result, (c.run_whole-first.ensures, refl)), (c.in_default.not-Done, (refl, (refl, refl)))));
  same = λ done. absurd (c.in_default.not-Done done);
}
