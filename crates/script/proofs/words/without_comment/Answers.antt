use Rattle.std.proofs.Common.{◌≡◌, rules, tests, eqb}
use Rattle.std.proofs.lemmas.Iterator.{YieldsList-from_slice}
use Rattle.std.proofs.lemmas.Iterator.Search.{position_from_yields_List}
use Rattle.std.specs.List.{position}
use Rattle.script.proofs.Comments.{up_to, whole}
use Rattle.script.proofs.words.without_comment.Goals.{After-position}
use Rattle.script.proofs.words.without_comment.Goals as goal

found : (c : After-position) → c.position.result ≡ position (λ b. eqb b 35) c.args.line.now
found c =
    position_from_yields_List (λ b. eqb b 35) _ _ _ c.position.ensures.ran (YieldsList-from_slice c.args.line.now cc)
    (λ x b q k. search (rules, tests))

pub returns-in-Some : goal.returns-in-Some
returns-in-Some c = record { value = up_to _ c.args.line.now _ (found (goal.at.returns-in-Some c).After-position) _ c.in-Some.is }

pub returns-in-None : goal.returns-in-None
returns-in-None c = record { value = whole _ c.args.line.now _ (found (goal.at.returns-in-None c).After-position) c.in-None.is }
