-- What is said of a refusal, and of a line that cannot be read.
use Rattle.std.specs.Prelude.{ℕ, List, ◌++◌, codes, decimal}
use Rattle.machine.specs.declared.refusals.Refusal.{Refusal}
use Rattle.machine.specs.declared.refusals.Refusal.TheVariants.{BadSetting, NoShare, NotShown, BadLength, BadWork, NotConfigured, AlreadyConfigured, PacketWaits, Retired, LimitUsed, OnHold, NoneListed, PastPeriod, NoneQueued, AllOut, NotOut}
use Rattle.machine.specs.Refusals.{number_of, place_of}
use Rattle.script.specs.declared.faults.Fault.{Fault}
use Rattle.script.specs.declared.faults.Fault.TheVariants.{UnknownCall, OutOfPlace, UnknownBearerKind, UnknownPolicyKind, WrongCount, NotANumber, TooLarge, NinthBearer, SecondPolicy}
use Rattle.script.specs.declared.faults.Unread.{Unread}

-- the rule that a refused call breaks
abbrev pub rule : Refusal → List ℕ
rule (BadSetting setting) = codes "the setting is outside its range"
rule NoShare = codes "the limit and the grant bound together are above the period"
rule (NotShown bearer) = codes "the board does not show this bearer"
rule (BadLength length) = codes "the length is not 1 to 384"
rule BadWork = codes "the work is of no cycles, or of more than a period"
rule NotConfigured = codes "the receiver is not configured"
rule AlreadyConfigured = codes "the receiver is configured already"
rule (PacketWaits bearer) = codes "a packet waits in this bearer"
rule Retired = codes "the receiver is retired"
rule LimitUsed = codes "the bearers have used their limit in this period"
rule OnHold = codes "the hold has not ended"
rule NoneListed = codes "the poll list is empty"
rule (PastPeriod left) = codes "the work goes past the period's end, this many cycles away"
rule NoneQueued = codes "the queue is empty"
rule AllOut = codes "sixteen packets are out"
rule NotOut = codes "the receipt's number is not out"

abbrev pub refusal_text : Refusal → List ℕ
refusal_text r = codes "refused " ++ (decimal (number_of r) ++ (codes " place " ++ (decimal (place_of r) ++ (codes ": " ++ rule r))))

-- what is wrong with a line
abbrev pub fault_text : Fault → List ℕ
fault_text UnknownCall = codes "no call has this name"
fault_text OutOfPlace = codes "a call stands before this line"
fault_text UnknownBearerKind = codes "no kind of bearer has this name"
fault_text UnknownPolicyKind = codes "no kind of policy has this name"
fault_text (WrongCount wanted) = codes "the count of numbers is not " ++ decimal wanted
fault_text NotANumber = codes "a number is not digits alone"
fault_text TooLarge = codes "a number is too large"
fault_text NinthBearer = codes "a board shows no more than eight bearers"
fault_text SecondPolicy = codes "the policy is said already"

abbrev pub unread_text : Unread → List ℕ
unread_text u = codes "unread " ++ (decimal u.line ++ (codes ": " ++ fault_text u.fault))
