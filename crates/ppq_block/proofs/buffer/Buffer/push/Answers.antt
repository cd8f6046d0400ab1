use Rattle.std.proofs.Common.{◌≡◌, ℕ, ◌+◌, ◌*◌, Bool, true, List, length, sym, ap, ap₂, ◌∙◌, subst, arith}
use Rattle.std.proofs.lemmas.List.{with_items_is}
use Rattle.ppq_block.specs.Block.{IsBuffer, seen}
use Rattle.ppq_block.proofs.Buffers.{room-one, settled-is, written, length-written, IsBuffer-push, holding-push}
use Rattle.ppq_block.proofs.buffer.Buffer.push.Goals as goal

pub write_at-requires : goal.write_at-requires
write_at-requires g c =
    let s = c.self.inside in
    let w = g.R.Record.WIDTH in
    let room = room-one g.R.Record.record_of w s.block s.count s.bytes.items c.args.self.now s.settled c.self.view_is c.self.invariant c.requires.room in
    let at : s.count * c.WIDTH.result ≡ s.count * w = ap (λ k. s.count * k) c.WIDTH.ensures in
    omega (arith, room.1, at, ap length c.as_mut_slice-bytes.ensures.value)

pub invariant_of-self : goal.invariant_of-self
invariant_of-self g c =
    let s = c.self.inside in
    let f = g.R.Record.record_of in
    let w = g.R.Record.WIDTH in
    let part = g.R.Record.bytes_of c.args.r in
    let room = room-one f w s.block s.count s.bytes.items c.args.self.now s.settled c.self.view_is c.self.invariant c.requires.room in
    let long = c.record_laws.ensures.bytes_length c.args.r in
    let at : s.count * c.WIDTH.result ≡ s.count * w = ap (λ k. s.count * k) c.WIDTH.ensures in
    let new = written s.bytes.items part (s.count * w) w in
    let now : c.write_at.new.bytes ≡ new = c.write_at.ensures ∙ ap₂ (λ (b : List ℕ) (n : ℕ). written b part n w) c.as_mut_slice-bytes.ensures.value at in
    let items = with_items_is s.bytes c.write_at.new.bytes (ap length now ∙ length-written s.bytes.items part (s.count * w) w room.1 long ∙ sym s.bytes.ok.0) ∙ now in
    let is = settled-is f w s.block s.count s.bytes.items c.args.self.now s.settled c.self.view_is c.requires.settled in
    let old : IsBuffer w s.block s.count true s.bytes.items = subst (λ (t : Bool). IsBuffer w s.block s.count t s.bytes.items) is c.self.invariant in
    subst (λ (b : List ℕ). IsBuffer w s.block (s.count + 1) s.settled b) (sym items)
    (subst (λ (t : Bool). IsBuffer w s.block (s.count + 1) t new) (sym is) (IsBuffer-push w s.block s.count s.bytes.items part old room.0 long))

pub returns : goal.returns
returns g c =
    let s = c.self.inside in
    let f = g.R.Record.record_of in
    let w = g.R.Record.WIDTH in
    let part = g.R.Record.bytes_of c.args.r in
    let room = room-one f w s.block s.count s.bytes.items c.args.self.now s.settled c.self.view_is c.self.invariant c.requires.room in
    let long = c.record_laws.ensures.bytes_length c.args.r in
    let at : s.count * c.WIDTH.result ≡ s.count * w = ap (λ k. s.count * k) c.WIDTH.ensures in
    let now : c.write_at.new.bytes ≡ written s.bytes.items part (s.count * w) w = c.write_at.ensures ∙ ap₂ (λ (b : List ℕ) (n : ℕ). written b part n w) c.as_mut_slice-bytes.ensures.value at in
    let items = with_items_is s.bytes c.write_at.new.bytes (ap length now ∙ length-written s.bytes.items part (s.count * w) w room.1 long ∙ sym s.bytes.ok.0) ∙ now in
    let back = c.record_laws.ensures.take_put c.args.r c.known.ensures in
    ap (seen f w s.block (s.count + 1) s.settled) items
    ∙ holding-push f w s.block s.count s.bytes.items c.args.self.now s.settled c.self.view_is c.requires.settled part c.args.r room.1 long back
