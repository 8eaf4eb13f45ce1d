-- The numbers of a call, read one by one.
use Rattle.std.proofs.Common.{ℕ, List, ◌++◌, Ok, Err, Result}
use Rattle.script.specs.declared.faults.Fault.{Fault}

-- numbers that are read, before what the further words say
abbrev pub behind : List ℕ → Result (List ℕ) Fault → Result (List ℕ) Fault
behind ns (Ok ms) = Ok (ns ++ ms)
behind ns (Err f) = Err f
