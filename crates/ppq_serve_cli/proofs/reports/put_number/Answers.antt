use Rattle.std.proofs.Common.{◌≡◌, ◌++◌, decimal, subst, rules}
use Rattle.ppq_words.specs.ppq_outside.Told.{TakesAll, TakesPart}
use Rattle.ppq_words.proofs.ppq_outside.Takes.{takes_two, takes_and_part, part_of_more}
use Rattle.ppq_serve_cli.proofs.reports.put_number.Goals as goal

pub returns-in_err-put-2-clause-part : goal.returns-in_err-put-2-clause-part
returns-in_err-put-2-clause-part g c =
    let told = g.O.Sink.told in
    let text : c.as_bytes.result.now ≡ decimal c.args.number = search rules in
    let part : TakesPart (told c.put.new.self) (told c.put-2.new.self) (decimal c.args.number) = subst (λ t. TakesPart (told c.put.new.self) (told c.put-2.new.self) t) text c.in_err-put-2.ensures.part in
    part_of_more (told c.args.out.now) (told c.put-2.new.self) (c.args.before.now ++ decimal c.args.number) c.args.behind.now
    (takes_and_part (told c.args.out.now) (told c.put.new.self) (told c.put-2.new.self) c.args.before.now (decimal c.args.number) c.in_ok-put.ensures.all part)

pub returns-clause-part : goal.returns-clause-part
returns-clause-part g c =
    let told = g.O.Sink.told in
    let text : c.as_bytes.result.now ≡ decimal c.args.number = search rules in
    let all : TakesAll (told c.put.new.self) (told c.put-2.new.self) (decimal c.args.number) = subst (λ t. TakesAll (told c.put.new.self) (told c.put-2.new.self) t) text c.in_ok-put-2.ensures.all in
    takes_and_part (told c.args.out.now) (told c.put-2.new.self) (told c.put-3.new.self) (c.args.before.now ++ decimal c.args.number) c.args.behind.now
    (takes_two (told c.args.out.now) (told c.put.new.self) (told c.put-2.new.self) c.args.before.now (decimal c.args.number) c.in_ok-put.ensures.all all) c.put-3.ensures.part
