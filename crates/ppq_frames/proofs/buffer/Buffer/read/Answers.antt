use Rattle.std.proofs.Common.{◌≡◌, ◌≤◌, ◌+◌, ◌-◌, ◌∙◌, ◌++◌, ℕ, List, length, take, drop, sym, ap, arith, length-take-le}
use Rattle.std.proofs.lemmas.List.{with_items_is}
use Rattle.ppq_frames.specs.Buffered.{Buffered}
use Rattle.ppq_frames.proofs.Windows.{window-kept, window-grown, part-length, written-length, on_err}
use Rattle.ppq_frames.proofs.buffer.Buffer.read.Goals as goal

pub returns-in_err-count-clause-same : goal.returns-in_err-count-clause-same
returns-in_err-count-clause-same g c =
    let s = c.self.inside in
    let held = c.deref_mut.result.now in
    let into = c.get.new.into in
    let rest = drop (length held - s.to) (drop s.to held) in
    let is : held ≡ s.bytes.items = c.deref_mut.ensures.value in
    let long : length held ≡ s.bytes.len = ap length is ∙ sym s.bytes.ok.0 in
    let within : s.to ≤ length held = omega (arith, c.self.invariant.1, long) in
    let items = with_items_is s.bytes (take s.to held ++ (into ++ rest)) (written-length s.to held into within c.get.auto.into ∙ long) in
    on_err c.from_residual.result
    (ap (λ (b : List ℕ). take (s.to - s.from) (drop s.from b)) items ∙ window-kept s.from s.to held (into ++ rest) c.self.invariant.0 within
    ∙ ap (λ (b : List ℕ). take (s.to - s.from) (drop s.from b)) is ∙ ap (λ (b : Buffered). b.waiting) c.self.view_is)

pub returns-clause-read : goal.returns-clause-read
returns-clause-read g c =
    let s = c.self.inside in
    let held = c.deref_mut.result.now in
    let into = c.get.new.into in
    let rest = drop (length held - s.to) (drop s.to held) in
    let count = c.in_ok-count.count in
    let is : held ≡ s.bytes.items = c.deref_mut.ensures.value in
    let long : length held ≡ s.bytes.len = ap length is ∙ sym s.bytes.ok.0 in
    let within : s.to ≤ length held = omega (arith, c.self.invariant.1, long) in
    let room : length into ≡ length held - s.to = c.get.auto.into ∙ part-length s.to held in
    let items = with_items_is s.bytes (take s.to held ++ (into ++ rest)) (written-length s.to held into within c.get.auto.into ∙ long) in
    let waits : take (s.to - s.from) (drop s.from held) ≡ c.args.self.now.waiting = ap (λ (b : List ℕ). take (s.to - s.from) (drop s.from b)) is ∙ ap (λ (b : Buffered). b.waiting) c.self.view_is in
    let few : count ≤ length into = c.in_ok-count.ensures.bound in
    record {
      piece = take count into;
      counted = length-take-le count into few;
      all = ap (λ (b : List ℕ). take (s.to + count - s.from) (drop s.from b)) items ∙ window-grown s.from s.to count held into rest c.self.invariant.0 within few ∙ ap (λ (b : List ℕ). b ++ take count into) waits;
      comes = c.in_ok-count.ensures.piece;
      given = c.in_ok-count.ensures.gave;
      end = λ none more. c.in_ok-count.ensures.over none (omega (arith, more, room, long, c.self.invariant.2, ap (λ (b : Buffered). b.room) c.self.view_is));
    }
