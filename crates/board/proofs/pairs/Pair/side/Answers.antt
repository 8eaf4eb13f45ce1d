use Rattle.std.proofs.Common.{arith}
use Rattle.board.proofs.Beside.{in_first, in_second}
use Rattle.board.proofs.pairs.Pair.side.Goals as goal

pub returns-then-bearer-first : goal.returns-then-bearer-first
returns-then-bearer-first g c = record { value = in_first _ _ c.args.bearer (omega arith) (omega (arith, c.size-first.ensures.lawful.few)) }

pub returns-then-bearer-lt-MOST_BEARERS : goal.returns-then-bearer-lt-MOST_BEARERS
returns-then-bearer-lt-MOST_BEARERS g c = record { value = in_second _ _ c.args.bearer _ c.size-first.ensures.value (omega arith) (omega arith) }
