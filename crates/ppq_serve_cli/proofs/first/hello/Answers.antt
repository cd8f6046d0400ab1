use Rattle.ppq_serve_cli.proofs.Named.{read-some, read-none}
use Rattle.ppq_serve_cli.proofs.first.hello.Goals as goal

pub returns-in-Request : goal.returns-in-Request
returns-in-Request c =
    let e = c.in-Request.ensures in
    record {
      named = read-some c.read_hello.result c.args.incoming.now c.in-Request.request.now e.0 e.1 c.read_hello.ensures;
      none = read-none c.read_hello.result c.args.incoming.now c.in-Request.request.now e.0 e.1 c.read_hello.ensures;
    }
