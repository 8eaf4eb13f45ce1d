-- The calls by their names, with the numbers behind these.
use Rattle.std.specs.Prelude.{ℕ, ◌^◌, List, Result, codes, slice_index}
use Rattle.machine.specs.declared.calls.Call.{Call}
use Rattle.machine.specs.declared.calls.Call.TheVariants as calls
use Rattle.script.specs.declared.faults.Fault.{Fault}
use Rattle.script.specs.declared.calls.Name.{Name}
use Rattle.script.specs.declared.calls.Name.TheVariants.{Configure, Arrive, Step, Work, Fetch, Finish, Discard, Tell}
use Rattle.script.specs.Numbers.{below, exactly}
use Rattle.script.specs.Results.{result_map, result_and_then}

abbrev pub spelling : Name → List ℕ
spelling Configure = codes "configure"
spelling Arrive = codes "arrive"
spelling Step = codes "step"
spelling Work = codes "work"
spelling Fetch = codes "fetch"
spelling Finish = codes "finish"
spelling Discard = codes "discard"
spelling Tell = codes "tell"

abbrev pub configure : List ℕ → Call
configure ns =
    calls.Configure (record {
      period = slice_index ns 0;
      limit = slice_index ns 1;
      size = slice_index ns 2;
      high = slice_index ns 3;
      low = slice_index ns 4;
      hold = slice_index ns 5;
    })

abbrev pub narrow : ℕ → Result ℕ Fault
narrow n = below (2 ^ 32) n

abbrev pub arrive : List ℕ → Result Call Fault
arrive ns = result_map (calls.Arrive (slice_index ns 0) (slice_index ns 1)) (narrow (slice_index ns 2))

abbrev pub receipt : (ℕ → Call) → List ℕ → Result Call Fault
receipt f ns = result_map f (narrow (slice_index ns 0))

-- the call of a name, with the numbers behind it
abbrev pub call : Name → List (List ℕ) → Result Call Fault
call Configure words = result_map configure (exactly 6 words)
call Arrive words = result_and_then arrive (exactly 3 words)
call Step words = result_map (λ ns. calls.Step) (exactly 0 words)
call Work words = result_map (λ ns. calls.Work (slice_index ns 0)) (exactly 1 words)
call Fetch words = result_map (λ ns. calls.Fetch) (exactly 0 words)
call Finish words = result_and_then (receipt calls.Finish) (exactly 1 words)
call Discard words = result_and_then (receipt calls.Discard) (exactly 1 words)
call Tell words = result_map (λ ns. calls.Tell) (exactly 0 words)
