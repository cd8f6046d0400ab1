use Rattle.std.proofs.Common.{◌∙◌, ap, sym}
use Rattle.ppq_words.specs.ppq_script.declared.head.Head.{Head}
use Rattle.ppq_words.specs.Reading.{as_reading}
use Rattle.ppq_cli.specs.RunOver.{RunsBytes}
use Rattle.ppq_cli.specs.Types.{RecordType}
use Rattle.ppq_cli.proofs.Heads.{typed_at}
use Rattle.ppq_cli.proofs.kinds.run_bytes.Goals as goal

pub returns-in-Pair-Up : goal.returns-in-Pair-Up
returns-in-Pair-Up g c =
    let r = c.run_typed in
    let P : RecordType → Type 0 = λ t. RunsBytes t g.L.Library g.K.Rack g.O.Sink g.K.Slot.Slot.shown (as_reading c.args.arguments.now) c.args.bytes.now c.args.library.now r.new.library c.args.rack.now r.new.rack c.args.out.now r.new.out r.result in
    typed_at P c.args.bytes.now _ _ (ap (λ (h : Head). h.kind) (sym c.read_head-head.ensures) ∙ c.in-Pair-Up.is-0) (ap (λ (h : Head). h.order) (sym c.read_head-head.ensures) ∙ c.in-Pair-Up.is-1) r.ensures

pub returns-in-Pair-Down : goal.returns-in-Pair-Down
returns-in-Pair-Down g c =
    let r = c.run_typed-in-Pair-Down in
    let P : RecordType → Type 0 = λ t. RunsBytes t g.L.Library g.K.Rack g.O.Sink g.K.Slot.Slot.shown (as_reading c.args.arguments.now) c.args.bytes.now c.args.library.now r.new.library c.args.rack.now r.new.rack c.args.out.now r.new.out r.result in
    typed_at P c.args.bytes.now _ _ (ap (λ (h : Head). h.kind) (sym c.read_head-head.ensures) ∙ c.in-Pair-Down.is-0) (ap (λ (h : Head). h.order) (sym c.read_head-head.ensures) ∙ c.in-Pair-Down.is-1) r.ensures

pub returns-in-Triple-Up : goal.returns-in-Triple-Up
returns-in-Triple-Up g c =
    let r = c.run_typed-in-Triple-Up in
    let P : RecordType → Type 0 = λ t. RunsBytes t g.L.Library g.K.Rack g.O.Sink g.K.Slot.Slot.shown (as_reading c.args.arguments.now) c.args.bytes.now c.args.library.now r.new.library c.args.rack.now r.new.rack c.args.out.now r.new.out r.result in
    typed_at P c.args.bytes.now _ _ (ap (λ (h : Head). h.kind) (sym c.read_head-head.ensures) ∙ c.in-Triple-Up.is-0) (ap (λ (h : Head). h.order) (sym c.read_head-head.ensures) ∙ c.in-Triple-Up.is-1) r.ensures

pub returns-in-Triple-Down : goal.returns-in-Triple-Down
returns-in-Triple-Down g c =
    let r = c.run_typed-in-Triple-Down in
    let P : RecordType → Type 0 = λ t. RunsBytes t g.L.Library g.K.Rack g.O.Sink g.K.Slot.Slot.shown (as_reading c.args.arguments.now) c.args.bytes.now c.args.library.now r.new.library c.args.rack.now r.new.rack c.args.out.now r.new.out r.result in
    typed_at P c.args.bytes.now _ _ (ap (λ (h : Head). h.kind) (sym c.read_head-head.ensures) ∙ c.in-Triple-Down.is-0) (ap (λ (h : Head). h.order) (sym c.read_head-head.ensures) ∙ c.in-Triple-Down.is-1) r.ensures
