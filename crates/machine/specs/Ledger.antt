-- The ledger: an account of packet numbers. It knows how many bearers there are and their depths, and is told calls and their answers, and nothing else.
use Rattle.std.specs.Prelude.{ℕ, ◌+◌, Bool, true, false, cond, List, [], ◌∷◌, ◌++◌, map, length, take, drop, replicate, Some, None, Ok, Err, fold, Option, Result, nat_lt, slice_index, slice_index_or, slice_set}
use Rattle.board.specs.Bearers.{Bearer}
use Rattle.machine.specs.declared.answers.Answer.{Answer}
use Rattle.machine.specs.declared.answers.Answer.TheVariants.{Stepped}
use Rattle.machine.specs.declared.answers.Progress.{Progress}
use Rattle.machine.specs.declared.answers.Progress.TheVariants.{Begun, Taken}
use Rattle.machine.specs.declared.answers.Counts.{Counts}
use Rattle.machine.specs.declared.calls.Call.{Call}
use Rattle.machine.specs.declared.calls.Call.TheVariants.{Configure, Arrive, Step, Fetch, Finish, Discard}
use Rattle.machine.specs.declared.refusals.Refusal.{Refusal}
use Rattle.machine.specs.Trace.{Entry}
use Rattle.machine.specs.Numbers.{without}

-- the columns of numbers: one for each bearer, and one for each other place
pub record Columns : Type 0 where
  pub waiting : List (List ℕ)
  pub queue : List ℕ
  pub out : List ℕ
  pub delivered : List ℕ
  pub bearer_full : List ℕ
  pub queue_full : List ℕ
  pub discarded : List ℕ

-- the next number, the bearer whose grant was begun last, and the queue's size, which configure tells
pub record Ledger : Type 0 where
  pub columns : Columns
  pub next : ℕ
  pub serving : ℕ
  pub size : ℕ

-- the column of a bearer
abbrev pub column : Ledger → ℕ → List ℕ
column l b = slice_index_or l.columns.waiting b []

-- an empty ledger for so many bearers
abbrev pub nothing : ℕ → Ledger
nothing n =
    record {
      columns = record { waiting = replicate n []; queue = []; out = []; delivered = []; bearer_full = []; queue_full = []; discarded = [] };
      next = 0;
      serving = 0;
      size = 0;
    }

-- Numbers join at the back. The next number arrives: in its bearer's column, or as bearer_full.
abbrev pub put_in : Bool → ℕ → Ledger → Columns
put_in room b l =
    record l.columns {
      waiting = cond room (slice_set l.columns.waiting b (column l b ++ l.next ∷ [])) l.columns.waiting;
      bearer_full = cond room l.columns.bearer_full (l.columns.bearer_full ++ l.next ∷ []);
    }

abbrev pub arrives : Bool → ℕ → Ledger → Ledger
arrives room b l = record l { columns = put_in room b l; next = l.next + 1 }

-- the front of a bearer's column leaves it: for the queue, or as queue_full
abbrev pub taken_from : Bool → ℕ → Columns → Columns
taken_from room b k =
    record k {
      waiting = slice_set k.waiting b (drop 1 (slice_index_or k.waiting b []));
      queue = cond room (k.queue ++ take 1 (slice_index_or k.waiting b [])) k.queue;
      queue_full = cond room k.queue_full (k.queue_full ++ take 1 (slice_index_or k.waiting b []));
    }

-- the front of the queue's column goes out
abbrev pub handed_out : Columns → Columns
handed_out k = record k { queue = drop 1 k.queue; out = k.out ++ take 1 k.queue }

-- a number that is out is delivered, or discarded
abbrev pub spent : Bool → ℕ → Columns → Columns
spent finished n k =
    record k {
      out = without n k.out;
      delivered = cond finished (k.delivered ++ n ∷ []) k.delivered;
      discarded = cond finished k.discarded (k.discarded ++ n ∷ []);
    }

-- whether a bearer's column, of these depths, and the queue's have room
abbrev pub column_room : List ℕ → Ledger → ℕ → Bool
column_room depths l b = nat_lt (length (column l b)) (slice_index depths b)

abbrev pub queue_room : Ledger → Bool
queue_room l = nat_lt (length l.columns.queue) l.size

-- what a step did, if the answer is a step's
abbrev pub progress_in : Answer → Option Progress
progress_in (Stepped did) = Some did
progress_in _ = None

abbrev pub stepped : Option Progress → Ledger → Ledger
stepped (Some (Begun b q)) l = record l { serving = b }
stepped (Some (Taken n q)) l = record l { columns = taken_from (queue_room l) l.serving l.columns }
stepped _ l = l

-- an accepted call moves numbers; a refused one moves nothing
abbrev pub accepted : List ℕ → Call → Answer → Ledger → Ledger
accepted depths (Configure s) a l = record l { size = s.size }
accepted depths (Arrive b n t) a l = arrives (column_room depths l b) b l
accepted depths Step a l = stepped (progress_in a) l
accepted depths Fetch a l = record l { columns = handed_out l.columns }
accepted depths (Finish n) a l = record l { columns = spent true n l.columns }
accepted depths (Discard n) a l = record l { columns = spent false n l.columns }
accepted depths _ a l = l

abbrev pub told : List ℕ → Call → Result Answer Refusal → Ledger → Ledger
told depths c (Err r) l = l
told depths c (Ok a) l = accepted depths c a l

-- the ledger of a trace over a board: as many columns as bearers, with their depths
abbrev pub depths_of : List Bearer → List ℕ
depths_of = map (λ (x : Bearer). x.depth)

unfoldable pub ledger : List Bearer → List Entry → Ledger
ledger bs es = fold (λ l (e : Entry). told (depths_of bs) e.asked e.answered l) (nothing (length bs)) es

-- its counts: the sizes of its columns and, for numbered, the next number
abbrev pub counts_of : Ledger → Counts
counts_of l =
    record {
      numbered = l.next;
      delivered = length l.columns.delivered;
      bearer_full = length l.columns.bearer_full;
      queue_full = length l.columns.queue_full;
      discarded = length l.columns.discarded;
    }
