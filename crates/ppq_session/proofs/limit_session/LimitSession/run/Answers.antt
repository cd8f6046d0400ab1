use Rattle.std.proofs.Common.{◌≡◌, ◌+◌, ◌++◌, ◌∙◌, ℕ, List, All, map, take, drop, length, sym, subst, ◌<◌, ap, arith}
use Rattle.ppq_pass.specs.ppq_outside.Shown.{AllTell}
use Rattle.ppq_pass.specs.Passed.{IsOf}
use Rattle.ppq_queue.specs.Holding.{Holding}
use Rattle.ppq_session.specs.Dealing.{IsGoing, EachAdds, Dealt, records_in, records_for}
use Rattle.ppq_session.proofs.Begun.{limited_of}
use Rattle.ppq_session.proofs.Sessions.{kept_back}
use Rattle.ppq_session.specs.Limited.{LimitHolding, passes_of}
use Rattle.ppq_session.specs.LimitSession.{AreLimited, shared_of}
use Rattle.ppq_session.specs.Asks.{answers_to, left_after, removed_in, pops_in}
use Rattle.ppq_session.specs.Batches.{AreAbove, MayPush}
use Rattle.ppq_session.specs.LimitSessions.{AreGoing, InLimits}
use Rattle.ppq_session.proofs.Mapped.{all_mapped}
use Rattle.ppq_session.proofs.LimitSessions.{limited-keep, session-run, session-answers}
use Rattle.ppq_session.proofs.limit_session.LimitSession.run.Goals as goal

pub run_both-requires-clause-may : goal.run_both-requires-clause-may
run_both-requires-clause-may g c κs within =
    let inside = c.self.inside in
    let passes = inside.passes.items in
    let lines = c.args.lines.now in
    let of = c.self.invariant.0 in
    let view = c.self.view_is in
    let many : length passes ≡ c.args.self.now.front.sizes.workers = of.count ∙ ap (λ l. l.front.sizes.workers) view in
    let going = subst (λ l. All IsGoing (passes_of l.passes)) (sym view) c.requires.going.passes in
    let may : MayPush g.R.Ord.cmp inside.shared lines passes = record {
      some = omega (arith, c.known.ensures.range.some_worker, of.count);
      workers = omega (arith, c.known.ensures.range.workers, of.count);
      named = subst (λ n. All (λ line. line.pass < n) lines) (sym many) c.requires.named;
      above = λ k d h. subst (λ l. AreAbove g.R.Ord.cmp l lines) (sym (of.limits k d h ∙ ap (λ l. l.front.limit) view)) c.requires.above;
      of = c.self.invariant.2;
      going = all_mapped (λ (p : LimitHolding g.row.S.Denot g.row.R.Denot). p.pass) IsGoing passes going;
    }
    in
    subst (MayPush g.R.Ord.cmp inside.shared lines) (sym c.as_mut_slice.ensures.value) may

pub run_both-requires-clause-asks : goal.run_both-requires-clause-asks
run_both-requires-clause-asks g c κs within = record { sound = ap (λ l. l.front.failed) c.self.view_is ∙ c.requires.going.front; no_answer = c.requires.no_answer; room = c.requires.room }

-- the passes are all of the session still
pub invariant_of-self : goal.invariant_of-self
invariant_of-self g c =
    let inside = c.self.inside in
    let olds = inside.passes.items in
    let news = c.run_both.new.passes in
    let new = c.run_both.new.front in
    let popped = removed_in c.args.asks.now c.run_both.new.answers.items in
    let value = c.as_mut_slice.ensures.value in
    let back = kept_back inside.passes.len news (drop (length news) olds) (c.run_both.auto.passes ∙ c.as_mut_slice.ensures.len) in
    let kept = c.run_both.ensures.answered.kept in
    let dealt = subst (λ ps. Dealt g.S.Slot.shown (records_in c.args.lines.now) (passes_of ps) (passes_of news)) value c.run_both.ensures.pushed.dealt in
    let limits = subst (λ (ps : List (LimitHolding g.row.S.Denot g.row.R.Denot)). map (λ (p : LimitHolding g.row.S.Denot g.row.R.Denot). p.limit) news ≡ map (λ (p : LimitHolding g.row.S.Denot g.row.R.Denot). p.limit) ps) value c.run_both.ensures.pushed.limits in
    let of = limited-keep popped inside.front new olds news kept dealt.keys limits c.self.invariant.0 in
    let shared = c.self.invariant.1 ∙ sym (ap shared_of kept.rest) in
    subst (λ (ps : List (LimitHolding g.row.S.Denot g.row.R.Denot)). AreLimited new ps × (inside.shared ≡ shared_of new) × All (λ (p : LimitHolding g.row.S.Denot g.row.R.Denot). IsOf inside.shared p.pass) ps) (sym back)
    (of, shared, limited_of new news inside.shared of shared)

pub returns : goal.returns
returns g c =
    let shown = g.S.Slot.shown in
    let inside = c.self.inside in
    let view = c.self.view_is in
    let laws = c.record_laws.ensures in
    let olds = inside.passes.items in
    let old = inside.front in
    let news = c.run_both.new.passes in
    let new = c.run_both.new.front in
    let asks = c.args.asks.now in
    let answers = c.run_both.new.answers.items in
    let more = records_in c.args.lines.now in
    let records = λ (pass : ℕ). records_for pass c.args.lines.now in
    let e = c.run_both.ensures in
    let value = c.as_mut_slice.ensures.value in
    let after = take inside.passes.len (news ++ drop (length news) olds) in
    let back = kept_back inside.passes.len news (drop (length news) olds) (c.run_both.auto.passes ∙ c.as_mut_slice.ensures.len) in
    let going = subst (λ l. AreGoing l) (sym view) c.requires.going in
    let dealt = subst (λ ps. Dealt shown more (passes_of ps) (passes_of news)) value e.pushed.dealt in
    let each = subst (λ ps. EachAdds shown records (passes_of ps) (passes_of news)) value e.pushed.each in
    record {
      all = c.is_going.ensures.all;
      stopped = c.is_going.ensures.stopped;
      answers = subst (λ l. (queue : Holding g.row.R.Denot) (limit : g.row.R.Denot) (given left : List g.row.R.Denot) (popped : ℕ) → InLimits shown queue limit given left popped l → AllTell queue.slots → answers ≡ take (length answers) (answers_to g.R.Ord.cmp limit left asks)) view
          (λ queue limit given left popped s t. session-answers shown queue limit given left popped laws.order laws.same asks answers old new olds going e.answered s t);
      answered = e.answered.all;
      fewer = e.answered.fewer;
      popped = subst (λ l. new.popped ≡ l.front.popped + removed_in asks answers) view e.answered.kept.popped;
      room = e.room;
      session =
          subst
          (λ l. (queue : Holding g.row.R.Denot) (limit : g.row.R.Denot) (given left : List g.row.R.Denot) (popped : ℕ) → InLimits shown queue limit given left popped l
          → InLimits shown queue limit (given ++ more) (left_after g.R.Ord.cmp limit left asks) (popped + pops_in asks) (record { front = new; passes = after }))
          view
          (λ queue limit given left popped s.
          subst (λ ps. InLimits shown queue limit (given ++ more) (left_after g.R.Ord.cmp limit left asks) (popped + pops_in asks) (record { front = new; passes = ps })) (sym back)
          (session-run shown queue limit given left popped laws.order laws.same more asks answers old new olds news going dealt e.answered s));
      each = subst (λ l. EachAdds shown records (passes_of l.passes) (passes_of after)) view (subst (λ ps. EachAdds shown records (passes_of olds) (passes_of ps)) (sym back) each);
      sizes = ap (λ f. f.sizes) e.answered.kept.rest ∙ ap (λ l. l.front.sizes) view;
      limit = ap (λ f. f.limit) e.answered.kept.rest ∙ ap (λ l. l.front.limit) view;
    }
