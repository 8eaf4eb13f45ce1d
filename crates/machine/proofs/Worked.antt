-- The worked examples, made by the machine.
use Rattle.std.proofs.Common.{◌≡◌, map, refl}
use Rattle.machine.specs.State.{put_up}
use Rattle.machine.specs.Moves.{open_gate, shut_gate, set_gate}
use Rattle.machine.specs.Calls.{arrive, begin, serve, fetch}
use Rattle.machine.specs.Machine.{call}
use Rattle.machine.specs.Edges.{edges}
use Rattle.machine.specs.Examples.{replayed, examples}
use Rattle.machine.specs.Standard.{standard_board, four}

pub as_written : map (replayed four (put_up standard_board)) examples ≡ examples
unfolding call arrive begin serve fetch open_gate shut_gate set_gate
as_written = refl

pub at_the_edges : map (λ e. (e.0, replayed four e.0 e.1)) edges ≡ edges
unfolding call arrive begin serve fetch open_gate shut_gate set_gate
at_the_edges = refl
