-- Steps of which each may fail.
use Rattle.std.specs.Prelude.{Ok, Err, Result}

-- what is made of a value, unless there is a fault
abbrev pub result_map : {A B E : Type 0} → (A → B) → Result A E → Result B E
result_map f (Ok x) = Ok (f x)
result_map f (Err e) = Err e

-- the same, where there may be a fault in the making
abbrev pub result_and_then : {A B E : Type 0} → (A → Result B E) → Result A E → Result B E
result_and_then f (Ok x) = f x
result_and_then f (Err e) = Err e
