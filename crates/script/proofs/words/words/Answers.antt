use Rattle.std.proofs.Common.{rules, tests}
use Rattle.std.proofs.lemmas.Iterator.Consumers.{map_from_collect, YieldsList-from_filter, YieldsList-at}
use Rattle.std.proofs.lemmas.Iterator.Splits.{YieldsList-from_slice_split}
use Rattle.std.specs.Str.Lines.{strip_carriage_return}
use Rattle.script.specs.Words.{is_blank, is_some_text, without_comment}
use Rattle.script.proofs.words.words.Goals as goal

pub returns : goal.returns
returns c =
    let told = without_comment (strip_carriage_return c.args.line.now) in
    record {
      value =
          map_from_collect _ c.collect.ensures.ran
          (YieldsList-from_filter _ is_some_text
          (YieldsList-at c.filter.ensures.source
          (YieldsList-from_slice_split _ is_blank told (search rules) c.split.ensures.done c.split.ensures.closure
          (λ x b q k. search (rules, tests))))
          c.filter.ensures.closure (λ x b q k. search (rules, tests)));
    }
