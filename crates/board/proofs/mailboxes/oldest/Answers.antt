use Rattle.std.proofs.Common.{rules, ap, ◌∙◌}
use Rattle.std.specs.Option.{option_flatten}
use Rattle.std.proofs.lemmas.Iterator.{YieldsList-from_slice}
use Rattle.std.proofs.lemmas.Iterator.Search.{find_from_yields_List}
use borrow.Author.Tests.{tests}
use Rattle.board.specs.Mailbox.{has_place}
use Rattle.board.proofs.mailboxes.oldest.Goals as goal

pub returns : goal.returns
returns c =
    record {
      value =
          c.flatten.ensures
          ∙ ap option_flatten
          (c.copied.ensures
          ∙ find_from_yields_List (has_place 0) _ _ _ c.find.ensures.ran (YieldsList-from_slice c.args.slots.now cc) (λ x b q k. search (rules, tests)));
    }
