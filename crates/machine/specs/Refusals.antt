-- The number and the place of each refusal.
use Rattle.std.specs.Prelude.{ℕ}
use Rattle.machine.specs.declared.calls.Setting.{Setting}
use Rattle.machine.specs.declared.calls.Setting.TheVariants.{Period, Limit, Size, High, Low, Hold}
use Rattle.machine.specs.declared.refusals.Refusal.{Refusal}
use Rattle.machine.specs.declared.refusals.Refusal.TheVariants.{BadSetting, NoShare, NotShown, BadLength, BadWork, NotConfigured, AlreadyConfigured, PacketWaits, Retired, LimitUsed, OnHold, NoneListed, PastPeriod, NoneQueued, AllOut, NotOut}

abbrev pub number_of : Refusal → ℕ
number_of (BadSetting setting) = 1
number_of NoShare = 2
number_of (NotShown b) = 4
number_of (BadLength n) = 5
number_of BadWork = 6
number_of NotConfigured = 20
number_of AlreadyConfigured = 21
number_of (PacketWaits b) = 22
number_of Retired = 23
number_of LimitUsed = 24
number_of OnHold = 25
number_of NoneListed = 26
number_of (PastPeriod left) = 27
number_of NoneQueued = 28
number_of AllOut = 29
number_of NotOut = 30

-- a setting's place in the order P, N, S, H, L, T
abbrev pub setting_place : Setting → ℕ
setting_place Period = 1
setting_place Limit = 2
setting_place Size = 3
setting_place High = 4
setting_place Low = 5
setting_place Hold = 6

-- the refusal of a setting
abbrev pub bad_setting : Setting → Refusal
bad_setting setting = BadSetting (setting_place setting)

-- what is at fault, or 0
abbrev pub place_of : Refusal → ℕ
place_of (BadSetting setting) = setting
place_of (NotShown b) = b
place_of (BadLength n) = n
place_of (PacketWaits b) = b
place_of (PastPeriod left) = left
place_of _ = 0
