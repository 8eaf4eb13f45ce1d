use Rattle.std.proofs.Common.{rules, arith}
use Rattle.std.proofs.lemmas.List.Elements.{All-append, All-take}
use Rattle.board.specs.Bearers.{IsBearer}
use Rattle.board.proofs.Beside.{length_both}
use Rattle.board.proofs.pairs.PairBoard.size.Goals as goal

pub returns : goal.returns
returns g c =
    let us = g.A.Board.bearers c.args.self.now.0 in
    let vs = g.B.Board.bearers c.args.self.now.1 in
    record {
      value = omega (arith, length_both us vs);
      lawful = search (rules, length_both us vs, All-take IsBearer 8, All-append IsBearer us vs, c.size.ensures.lawful, c.size-2.ensures.lawful);
    }
