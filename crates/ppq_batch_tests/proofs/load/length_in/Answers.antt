use Rattle.std.proofs.Common.{◌≡◌, ℕ, List, Option, Some, None, length, subst}
use Rattle.ppq_outside.specs.Told.{OfLength, TellsReply, length_of, bytes_or_none}
use Rattle.ppq_batch_tests.proofs.load.length_in.Goals as goal

-- the length that is told of a file is that of its bytes
by : (said : ℕ) (bytes : Option (List ℕ)) → Some said ≡ length_of bytes → length (bytes_or_none bytes) ≡ said
by said None e = cc
by said (Some bytes) e = cc

pub returns : goal.returns
returns g c =
    let new = c.length.new.self in
    let name = c.args.name.now in
    let reply = subst (λ size. g.L.Library.replied new (OfLength name size)) c.in-Ok-Some.field-0-is c.in-Ok-Some.ensures.replied in
    λ files is. (let P : Option (List ℕ → Option (List ℕ)) → Type 0 = λ told. TellsReply told (OfLength name (Some c.in-Ok-Some.said)) in by c.in-Ok-Some.said (files name) (subst P is (g.met.L.Library.truth new (OfLength name (Some c.in-Ok-Some.said)) reply)))
