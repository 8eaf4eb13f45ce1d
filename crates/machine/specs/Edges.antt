-- Further worked examples: the order of each call's checks, and the edges of what they let through. Each begins at a state of its own.
use Rattle.std.specs.Prelude.{ℕ, false, List, [], ◌∷◌, Some, None}
use Rattle.board.specs.declared.packets.Packet.{Packet}
use Rattle.board.specs.Bearers.{Bearer}
use Rattle.machine.specs.declared.answers.Answer.TheVariants.{Configured, Stepped, Worked, Fetched, Finished, Discarded, Told}
use Rattle.machine.specs.declared.answers.Progress.TheVariants.{Begun, Taken, Rescheduled, Completed, Empty}
use Rattle.machine.specs.declared.calls.Call.TheVariants.{Configure, Arrive, Step, Work, Fetch, Finish, Discard, Tell}
use Rattle.machine.specs.State.{Core, State, configured, put_up}
use Rattle.machine.specs.Machine.{no_counts, fresh}
use Rattle.machine.specs.Examples.{ExampleLine, ◌answers◌, ◌refused◌at◌, shows, hold, closed, accepted, queued, used, armed}
use Rattle.machine.specs.Standard.{ring, mailbox, standard_board, standard, standard_numbers}

-- a packet of one octet
abbrev pub short : ℕ → Packet
short n = record { number = n; length = 1; tag = 0 }

-- the standard board with a packet in bearer 1, and one in bearer 2
abbrev pub waiting_board : List Bearer
waiting_board = ring 8 ∷ record (mailbox 4) { waiting = short 0 ∷ [] } ∷ record (ring 16) { waiting = short 1 ∷ [] } ∷ []

-- the standard receiver, put up and just configured
abbrev pub new : State
new = put_up standard_board

abbrev pub just_configured : Core
just_configured = fresh standard_board

abbrev pub edges : List (State × List ExampleLine)
edges =
    -- K. Before it is configured, a receiver takes only configure and tell.
    (
      new,
      Arrive 3 0 0 refused 20 at 0
          ∷ Step refused 20 at 0
          ∷ Work 0 refused 20 at 0
          ∷ Fetch refused 20 at 0
          ∷ Finish 0 refused 30 at 0
          ∷ Discard 0 refused 30 at 0
          ∷ Tell answers Told (record { counts = no_counts; closed = 0; last = None })
          ∷ Configure standard_numbers answers Configured
          ∷ [],
    )
    -- L. It is configured once, whatever the settings are.
    ∷ (
      new,
      Configure standard_numbers answers Configured
          ∷ Configure standard_numbers refused 21 at 0
          ∷ Configure (record standard_numbers { period = 0 }) refused 21 at 0
          ∷ [],
    )
    -- M. The place is that of the first setting outside its range.
    ∷ (
      new,
      Configure (record standard_numbers { period = 999; limit = 0 }) refused 1 at 1
          ∷ Configure (record standard_numbers { period = 1000000001 }) refused 1 at 1
          ∷ Configure (record standard_numbers { limit = 0; size = 0 }) refused 1 at 2
          ∷ Configure (record standard_numbers { limit = 64001 }) refused 1 at 2
          ∷ Configure (record standard_numbers { size = 0; high = 0 }) refused 1 at 3
          ∷ Configure (record standard_numbers { size = 65 }) refused 1 at 3
          ∷ Configure (record standard_numbers { high = 0; low = 0 }) refused 1 at 4
          ∷ Configure (record standard_numbers { high = 33; low = 33 }) refused 1 at 4
          ∷ Configure (record standard_numbers { low = 24; hold = 0 }) refused 1 at 5
          ∷ Configure (record standard_numbers { hold = 0 }) refused 1 at 6
          ∷ Configure (record standard_numbers { hold = 1001 }) refused 1 at 6
          -- in range, though no share is left
          ∷ Configure (record standard_numbers { period = 1000; limit = 1000 }) refused 2 at 0
          ∷ Configure (record { period = 1000000000; limit = 999974960; size = 64; high = 64; low = 63; hold = 1000 }) answers Configured
          ∷ [],
    )
    ∷ (new, Configure (record { period = 25041; limit = 1; size = 1; high = 1; low = 0; hold = 1 }) answers Configured ∷ [])
    -- N. A packet that waits is found after the settings' ranges and before the share; the place is the lowest such bearer.
    ∷ (
      put_up waiting_board,
      Configure (record standard_numbers { hold = 0 }) refused 1 at 6
          ∷ Configure (record standard_numbers { period = 57039 }) refused 22 at 1
          ∷ Configure standard_numbers refused 22 at 1
          ∷ [],
    )
    -- O. The bearer is checked before the length.
    ∷ (
      new,
      Configure standard_numbers answers Configured
          ∷ Arrive 3 0 0 refused 4 at 3
          ∷ Arrive 2 385 0 refused 5 at 385
          ∷ Arrive 2 384 7 answers accepted 0
          ∷ Step answers Stepped (Begun 2 4)
          ∷ Step answers queued 0
          ∷ Fetch answers Fetched (record { number = 0; length = 384; tag = 7 })
          ∷ [],
    )
    -- P. The limit is checked before the hold, and the hold before the list. A hold of 2 lasts two closes.
    ∷ (
      new,
      Configure (record standard_numbers { limit = 200; size = 1; high = 1; low = 0 }) answers Configured
          ∷ Arrive 0 1 0 answers accepted 0
          ∷ Step answers Stepped (Begun 0 4)
          ∷ Step answers queued 0
          ∷ shows hold 2
          ∷ Step answers Stepped Completed
          ∷ Step refused 24 at 0
          ∷ Work 63240 answers Worked
          ∷ shows hold 1
          ∷ Step refused 25 at 0
          ∷ Work 64000 answers Worked
          ∷ shows hold 0
          ∷ Step refused 26 at 0
          ∷ [],
    )
    -- Q. Work is checked for what no period has, and then for what is left of this one.
    ∷ (
      new,
      Configure standard_numbers answers Configured
          ∷ Work 60000 answers Worked
          ∷ Work 0 refused 6 at 0
          ∷ Work 64001 refused 6 at 0
          ∷ Work 4001 refused 27 at 4000
          ∷ Work 4000 answers Worked
          ∷ shows closed 1
          ∷ [],
    )
    -- R. With sixteen out, none more is handed out; the queue is looked at first.
    ∷ (
      configured standard (record just_configured {
        queue = short 16 ∷ [];
        out = 0 ∷ 1 ∷ 2 ∷ 3 ∷ 4 ∷ 5 ∷ 6 ∷ 7 ∷ 8 ∷ 9 ∷ 10 ∷ 11 ∷ 12 ∷ 13 ∷ 14 ∷ 15 ∷ [];
      }),
      Fetch refused 29 at 0
          ∷ Finish 7 answers Finished
          ∷ Finish 7 refused 30 at 0
          ∷ Discard 7 refused 30 at 0
          ∷ Fetch answers Fetched (short 16)
          ∷ Fetch refused 28 at 0
          ∷ [],
    )
    -- S. A packet that finds the queue full is dropped, and the hold begins anew. What tell reads.
    ∷ (
      new,
      Configure (record standard_numbers { size = 1; high = 1; low = 0; hold = 1 }) answers Configured
          ∷ Arrive 0 1 0 answers accepted 0
          ∷ Arrive 0 1 0 answers accepted 1
          ∷ Step answers Stepped (Begun 0 4)
          ∷ Step answers queued 0
          ∷ Step answers Stepped Rescheduled
          ∷ Work 63240 answers Worked
          ∷ Step answers Stepped (Begun 0 4)
          ∷ Step answers Stepped (Taken 1 false)
          ∷ shows hold 1
          ∷ Fetch answers Fetched (short 0)
          ∷ shows hold 0
          ∷ Discard 0 answers Discarded
          ∷ Tell answers Told (record {
            counts = record no_counts { numbered = 2; queue_full = 1; discarded = 1 };
            closed = 1;
            last = Some (record { offered = 63240; network = 760 });
          })
          ∷ [],
    )
    -- T. The last packet that is numbered, and the last period that closes, retire the receiver; fetch, finish and tell go on.
    ∷ (
      configured standard (record just_configured { counts = record no_counts { numbered = 999999999 }; queue = short 8 ∷ [] }),
      Arrive 0 1 0 answers accepted 999999999
          ∷ Arrive 3 0 0 refused 23 at 0
          ∷ Step refused 23 at 0
          ∷ Work 0 refused 23 at 0
          ∷ Fetch answers Fetched (short 8)
          ∷ Finish 8 answers Finished
          ∷ Tell answers Told (record { counts = record no_counts { numbered = 1000000000; delivered = 1 }; closed = 0; last = None })
          ∷ [],
    )
    ∷ (
      configured standard (record just_configured { clock = record just_configured.clock { closed = 999999999 } }),
      Work 64000 answers Worked
          ∷ Arrive 3 0 0 refused 23 at 0
          ∷ Step refused 23 at 0
          ∷ Work 0 refused 23 at 0
          ∷ [],
    )
    -- U. A charge may close a period: the cycles past its end are the new period's. What the application is offered uses up nothing of N. The hold is set
    -- behind the charge.
    ∷ (
      new,
      Configure (record standard_numbers { size = 1; high = 1; low = 0; hold = 1 }) answers Configured
          ∷ Arrive 0 1 0 answers accepted 0
          ∷ Step answers Stepped (Begun 0 4)
          ∷ Work 63800 answers Worked
          ∷ shows used 140
          ∷ Step answers queued 0
          ∷ shows closed 1
          ∷ shows used 560
          ∷ shows hold 1
          ∷ Work 63441 refused 27 at 63440
          ∷ [],
    )
    -- V. Marks that are apart: at H the hold begins, and no bearer is armed; at L it ends. Above H it begins as well.
    ∷ (
      new,
      Configure (record standard_numbers { size = 4; high = 2; low = 1; hold = 1 }) answers Configured
          ∷ Arrive 0 1 0 answers accepted 0
          ∷ Arrive 0 1 0 answers accepted 1
          ∷ Arrive 0 1 0 answers accepted 2
          ∷ Arrive 0 1 0 answers accepted 3
          ∷ Step answers Stepped (Begun 0 4)
          ∷ Step answers queued 0
          ∷ shows hold 0
          ∷ Step answers queued 1
          ∷ shows hold 1
          ∷ shows (armed 1) 0
          ∷ Step answers Stepped Rescheduled
          ∷ Fetch answers Fetched (short 0)
          ∷ shows hold 0
          ∷ shows (armed 1) 1
          ∷ Step answers Stepped (Begun 0 4)
          ∷ Step answers queued 2
          ∷ shows hold 1
          ∷ Step answers Stepped Rescheduled
          ∷ Work 61920 answers Worked
          ∷ shows hold 0
          ∷ Step answers Stepped (Begun 0 4)
          ∷ Step answers queued 3
          ∷ shows hold 1
          ∷ [],
    )
    -- W. A grant takes its quota and no more. A bearer that is found empty with the gate open is armed again, and not listed.
    ∷ (
      new,
      Configure standard_numbers answers Configured
          ∷ Arrive 0 1 0 answers accepted 0
          ∷ Arrive 0 1 0 answers accepted 1
          ∷ Arrive 0 1 0 answers accepted 2
          ∷ Arrive 0 1 0 answers accepted 3
          ∷ Arrive 0 1 0 answers accepted 4
          ∷ Step answers Stepped (Begun 0 4)
          ∷ Step answers queued 0
          ∷ Step answers queued 1
          ∷ Step answers queued 2
          ∷ Step answers queued 3
          ∷ Step answers Stepped Rescheduled
          ∷ Step answers Stepped (Begun 0 4)
          ∷ Step answers queued 4
          ∷ Step answers Stepped Empty
          ∷ Step answers Stepped Completed
          ∷ shows (armed 0) 1
          ∷ Step refused 26 at 0
          ∷ [],
    )
    -- X. With used at N the gate shuts. When it opens, bearers in which packets wait are listed in number order, without a charge.
    ∷ (
      new,
      Configure (record standard_numbers { limit = 60 }) answers Configured
          ∷ Arrive 0 1 0 answers accepted 0
          ∷ shows used 60
          ∷ shows (armed 1) 0
          ∷ Step refused 24 at 0
          ∷ Arrive 2 1 0 answers accepted 1
          ∷ Arrive 1 1 0 answers accepted 2
          ∷ shows used 60
          ∷ Work 63940 answers Worked
          ∷ shows used 0
          ∷ Step answers Stepped (Begun 0 4)
          ∷ Step answers queued 0
          ∷ Step answers Stepped Empty
          ∷ Step answers Stepped Completed
          ∷ Work 63300 answers Worked
          ∷ Step answers Stepped (Begun 1 4)
          ∷ [],
    )
    -- Y. That the receiver is retired is checked first, with a grant and without. A receipt can be spent as well by discard.
    ∷ (
      configured standard (record just_configured {
        counts = record no_counts { numbered = 1000000000 };
        grant = Some (record { bearer = 0; left = 4 });
        out = 8 ∷ [];
      }),
      Step refused 23 at 0 ∷ Discard 8 answers Discarded ∷ [],
    )
    ∷ (
      configured standard (record just_configured { clock = record just_configured.clock { closed = 1000000000; used = 32000 }; hold = 1 }),
      Step refused 23 at 0 ∷ [],
    )
    ∷ []
