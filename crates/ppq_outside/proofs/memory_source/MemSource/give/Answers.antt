use Rattle.std.proofs.Common.{◌≡◌, ◌≤◌, ◌+◌, ◌-◌, ◌<◌, ◌++◌, [], ℕ, List, length, take, drop, sym, ap, ap₂, ◌∙◌, arith, refl}
use Rattle.std.proofs.Common.{length-drop}
use Rattle.std.proofs.lemmas.List.{drop_all}
use Rattle.ppq_outside.specs.MemorySource.{SourceState}
use Rattle.ppq_outside.proofs.Pieces.{comes_first, comes_behind, taken-long}
use Rattle.ppq_outside.proofs.memory_source.MemSource.give.Goals as goal

pub returns-clause-next : goal.returns-clause-next
returns-clause-next c =
    let at = c.self.inside.at in
    let count = c.min-count.result in
    let bytes = c.self.inside.bytes.items in
    let rest = drop count c.args.into.now in
    let copied : c.copy_from_slice.new.self ≡ take count (drop at bytes) = c.copy_from_slice.ensures.after ∙ ap₂ (λ (n : ℕ) (q : List ℕ). take n (drop at q)) (omega arith) c.deref.ensures.value in
    let fits : count ≤ length bytes - at = omega (arith, c.min-count.ensures, c.min.ensures, c.len.ensures, c.self.inside.bytes.ok.0) in
    let coming : c.args.self.now.coming ≡ drop at bytes = ap (λ (s : SourceState). s.coming) (sym c.self.view_is) in
    let given : c.args.self.now.given ≡ take at bytes = ap (λ (s : SourceState). s.given) (sym c.self.view_is) in
    record {
      coming = coming ∙ comes_first at count bytes rest fits ∙ ap (λ (q : List ℕ). take count (q ++ rest) ++ drop (at + count) bytes) (sym copied);
      given = sym (ap₂ (λ (h q : List ℕ). h ++ take count (q ++ rest)) given copied ∙ comes_behind at count bytes rest fits);
      over = λ none room.
          let long : length (take count (take count (drop at bytes) ++ rest)) ≡ count = taken-long at count bytes rest fits in
          let short : length (take count (take count (drop at bytes) ++ rest)) ≡ 0 = ap (λ (q : List ℕ). length (take count (q ++ rest))) (sym copied) ∙ ap length none in
          drop_all (at + count) bytes (omega (arith, long, short, c.min-count.ensures, c.min.ensures, c.max.ensures, c.len.ensures, c.self.inside.bytes.ok.0));
      rest = ap (λ (s : SourceState). record s { given = take (at + count) bytes; coming = drop (at + count) bytes }) c.self.view_is;
    }
