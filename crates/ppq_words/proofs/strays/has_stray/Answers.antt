use Rattle.std.proofs.Common.{◌∙◌, rules, string_bytes, tests}
use Rattle.std.proofs.lemmas.Iterator.{YieldsList-from_slice}
use Rattle.std.proofs.lemmas.Iterator.Search.{any_from_yields_List}
use Rattle.ppq_words.specs.Strays.{is_stray}
use Rattle.ppq_words.proofs.Found.{list_any-texts}
use Rattle.ppq_words.proofs.strays.has_stray.Goals as goal

pub returns : goal.returns
returns c =
    let words = c.args.words.now in
    any_from_yields_List (λ w. is_stray (string_bytes w)) _ _ c.any.result c.any.ensures.ran (YieldsList-from_slice words cc) (λ x b q k. search (rules, tests)) ∙ list_any-texts words
