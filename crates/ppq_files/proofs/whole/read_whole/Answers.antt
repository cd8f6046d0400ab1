use Rattle.std.proofs.Common.{◌≡◌, ◌++◌, ◌∙◌, ℕ, List, length, take, drop, sym, subst, arith}
use Rattle.std.proofs.lemmas.List.{take-append-le, take_all}
use Rattle.ppq_files.specs.Whole.{IsLoadedAs}
use Rattle.ppq_files.proofs.Truth.{AreTrue, loaded_as}
use Rattle.ppq_files.proofs.whole.read_whole.Goals as goal

pub returns-in-Ok-fill-clause-loaded : goal.returns-in-Ok-fill-clause-loaded
returns-in-Ok-fill-clause-loaded g c =
    let told = g.L.Library.told c.args.library.now in
    let replied = g.L.Library.replied c.fill.new.library in
    let name = c.args.name.now in
    let piece = c.fill.new.piece in
    let made = c.in-Ok-vec.bytes in
    let true : AreTrue told replied = subst (λ t. AreTrue t replied) c.few_bytes.ensures.library.told (subst (λ t. AreTrue t replied) c.fill.ensures.reads.told (g.met.L.Library.truth c.fill.new.library)) in
    let long : length piece ≡ c.in-Ok.said = omega (arith, c.in-Ok-vec.ensures.len) in
    let whole : take made.len (piece ++ drop (length piece) made.items) ≡ piece = take-append-le made.len piece (drop (length piece) made.items) (omega arith) ∙ take_all made.len piece (omega arith) in
    let few = c.in-Ok.ensures.few in
    subst (λ (bytes : List ℕ). IsLoadedAs told replied name c.args.most bytes) (sym whole)
    (loaded_as told replied name c.args.most piece c.in-Ok.said true few.short (c.fill.ensures.reads.remembers _ few.said) long c.in-Ok-fill.ensures.given)
