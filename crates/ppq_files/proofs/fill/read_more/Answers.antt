use Rattle.std.proofs.Common.{rules, List, ℕ, ◌+◌, length, take, ap, subst, arith}
use Rattle.ppq_outside.specs.Told.{OfRead}
use Rattle.ppq_files.proofs.Given.{given_more}
use Rattle.ppq_files.proofs.fill.read_more.Goals as goal

pub returns-clause-more : goal.returns-clause-more
returns-clause-more g c =
    let replied = g.L.Library.replied c.read_at.new.self in
    let name = c.args.name.now in
    let into = c.read_at.new.into in
    let read = c.in_ok-count in
    let P : List ℕ → Type 0 = λ t. replied (OfRead name (c.args.at + c.args.got) (length into) t) in
    record {
      within = search rules;
      given = given_more (g.L.Library.replied c.args.library.now) replied name c.args.piece.now into c.args.at c.args.got read.count _ (omega arith) read.ensures.bound c.read_at.ensures.remembers read.ensures.replied;
      ends = λ none. (length into, (omega arith, subst P (ap (λ n. take n into) none) read.ensures.replied));
    }
