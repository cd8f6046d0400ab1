use Rattle.ppq_requests.specs.ppq_script.declared.kind.Kind.TheVariants as kind
use Rattle.ppq_requests.specs.ppq_script.declared.order.Order.TheVariants as order
use Rattle.ppq_words.specs.ServeReading.{as_serve_reading}
use Rattle.ppq_serve_cli.proofs.Devices.{over-came}
use Rattle.ppq_serve_cli.proofs.Named.{pick}
use Rattle.ppq_serve_cli.proofs.kinds.serve_named.Goals as goal

pub returns-in-Pair-Up : goal.returns-in-Pair-Up
returns-in-Pair-Up g c =
    let r = c.serve_over in
    record {
      requests = r.ensures.0;
      over = pick c.args.head.kind kind.Pair c.args.head.order order.Up _ _ _ _ c.in-Pair-Up.is-0 c.in-Pair-Up.is-1 r.ensures.1;
      came =
          over-came _ g.I.Source g.K.Rack g.O.Sink g.K.Slot.Slot.shown (as_serve_reading c.args.arguments.now) c.args.source.now r.new.source c.args.incoming.now r.new.incoming c.args.rack.now r.new.rack c.args.out.now r.new.out r.result r.ensures.0 r.ensures.1;
    }

pub returns-in-Pair-Down : goal.returns-in-Pair-Down
returns-in-Pair-Down g c =
    let r = c.serve_over-in-Pair-Down in
    record {
      requests = r.ensures.0;
      over = pick c.args.head.kind kind.Pair c.args.head.order order.Down _ _ _ _ c.in-Pair-Down.is-0 c.in-Pair-Down.is-1 r.ensures.1;
      came =
          over-came _ g.I.Source g.K.Rack g.O.Sink g.K.Slot.Slot.shown (as_serve_reading c.args.arguments.now) c.args.source.now r.new.source c.args.incoming.now r.new.incoming c.args.rack.now r.new.rack c.args.out.now r.new.out r.result r.ensures.0 r.ensures.1;
    }

pub returns-in-Triple-Up : goal.returns-in-Triple-Up
returns-in-Triple-Up g c =
    let r = c.serve_over-in-Triple-Up in
    record {
      requests = r.ensures.0;
      over = pick c.args.head.kind kind.Triple c.args.head.order order.Up _ _ _ _ c.in-Triple-Up.is-0 c.in-Triple-Up.is-1 r.ensures.1;
      came =
          over-came _ g.I.Source g.K.Rack g.O.Sink g.K.Slot.Slot.shown (as_serve_reading c.args.arguments.now) c.args.source.now r.new.source c.args.incoming.now r.new.incoming c.args.rack.now r.new.rack c.args.out.now r.new.out r.result r.ensures.0 r.ensures.1;
    }

pub returns-in-Triple-Down : goal.returns-in-Triple-Down
returns-in-Triple-Down g c =
    let r = c.serve_over-in-Triple-Down in
    record {
      requests = r.ensures.0;
      over = pick c.args.head.kind kind.Triple c.args.head.order order.Down _ _ _ _ c.in-Triple-Down.is-0 c.in-Triple-Down.is-1 r.ensures.1;
      came =
          over-came _ g.I.Source g.K.Rack g.O.Sink g.K.Slot.Slot.shown (as_serve_reading c.args.arguments.now) c.args.source.now r.new.source c.args.incoming.now r.new.incoming c.args.rack.now r.new.rack c.args.out.now r.new.out r.result r.ensures.0 r.ensures.1;
    }
