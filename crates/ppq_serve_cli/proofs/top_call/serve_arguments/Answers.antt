use Rattle.std.proofs.Common.{ℕ, List, [], ◌∷◌, refl, sym, subst, inl, inr}
use Rattle.ppq_answer.specs.ppq_frames.Frames.{Came}
use Rattle.ppq_answer.specs.declared.outcome.Outcome.{Outcome}
use Rattle.ppq_serve_cli.specs.First.{FirstSays}
use Rattle.ppq_serve_cli.proofs.Begun.{came-begin}
use Rattle.ppq_serve_cli.proofs.top_call.serve_arguments.Goals as goal

-- memory was wanting
pub returns-in_default : goal.returns-in_default
returns-in_default g c = record {
  frames = [];
  waiting = [];
  came = came-begin (g.I.Source.told c.args.source.now) (g.I.Source.gave c.args.source.now) [] c.requires.source refl;
  does = inl (record { frames_are = refl; unread = refl; alone = record { unmade = refl; unwritten = refl; none = c.unmade.ensures.none } }, c.unmade.ensures.outcome);
}

-- no first frame came
pub returns : goal.returns
returns g c =
    let l = c.in-Err.ensures.lacks in
    let told = g.I.Source.told c.args.source.now in
    let Says : List ℕ → Outcome → Type 0 = λ was o. FirstSays g.I.Source c.args.source.now c.first_frame.new.source was c.first_frame.new.incoming o in
    let says : Says [] c.without_blocks.result.outcome = subst (Says []) (sym c.without_blocks.ensures.outcome) (subst (λ (was : List ℕ). Says was c.in-Err.outcome) c.in-Ok.ensures l.says) in
    record {
      frames = [];
      waiting = c.first_frame.new.incoming;
      came = l.came told [] (came-begin told (g.I.Source.gave c.args.source.now) c.in-Ok.incoming c.requires.source c.in-Ok.ensures);
      does = inr (inl (record { frames_are = refl; says = says; alone = record { unmade = refl; unwritten = refl; none = c.without_blocks.ensures.none } }));
    }

-- one did, and requests behind it
pub returns-in-Ok-first_frame : goal.returns-in-Ok-first_frame
returns-in-Ok-first_frame g c =
    let t = c.in-Ok-first_frame.ensures.taken in
    let s = c.serve_named.ensures in
    let told = g.I.Source.told c.args.source.now in
    let gave = g.I.Source.gave c.args.source.now in
    let empty = c.in-Ok.ensures in
    record {
      frames = t.frame ∷ s.requests;
      waiting = c.serve_named.new.incoming;
      came = s.came told (t.frame ∷ []) (t.came told [] (came-begin told gave c.in-Ok.incoming c.requires.source empty));
      does =
          inr (inr (record {
            head = c.in-Ok-first_frame.head;
            between = c.first_frame.new.source;
            left = c.first_frame.new.incoming;
            first = record {
              frame = t.frame;
              named = t.named;
              came = λ told taken was. let P : List ℕ → Type 0 = λ b. Came told (g.I.Source.told c.args.source.now) gave taken b in t.came told taken (subst P (sym empty) was);
              same = t.same;
            };
            serves = s;
            frames_are = refl;
          }));
    }
