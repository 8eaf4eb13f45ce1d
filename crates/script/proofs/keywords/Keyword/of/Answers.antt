use Rattle.std.proofs.Common.{◌∙◌, rules, tests, bytes_eq}
use Rattle.std.proofs.lemmas.Iterator.{YieldsList-from_slice}
use Rattle.std.proofs.lemmas.Iterator.Search.{find_from_yields_List}
use Rattle.script.specs.Keywords.{keyword_spelling, keywords}
use Rattle.script.proofs.Names.{copied_is}
use Rattle.script.proofs.keywords.Keyword.of.Goals as goal

pub returns : goal.returns
returns c =
    let found = find_from_yields_List (λ k. bytes_eq (keyword_spelling k) c.args.word.now) _ _ c.find.result c.find.ensures.ran (YieldsList-from_slice keywords (search rules)) (λ x b q k. search (rules, tests)) in
    record { value = c.copied.ensures ∙ copied_is c.find.result ∙ found }
