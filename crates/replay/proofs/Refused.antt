-- Calls that are refused, and calls that are not.
use Rattle.std.proofs.Common.{◌≡◌, true, false, Ok, Err, Result, OnOk, OnErr, ap, is_ok}
use Rattle.std.specs.Result.{result_map_both}

-- what answers as a call, is accepted where the call is
pub as_answered : {R E S F : Type 0} (f : R → S) (g : E → F) (r : Result R E) (a : Result S F) → result_map_both f g r ≡ a → is_ok r ≡ is_ok a
as_answered f g (Ok x) a h = ap is_ok h
as_answered f g (Err e) a h = ap is_ok h

-- what is said of a result that is accepted, or refused
pub if_ok : {R E : Type 0} {P : Type 0} (r : Result R E) → is_ok r ≡ true → OnOk r P → P
if_ok (Ok a) e p = p
if_ok (Err e) h p = cc

pub if_err : {R E : Type 0} {P : Type 0} (r : Result R E) → is_ok r ≡ false → OnErr r P → P
if_err (Ok a) e p = cc
if_err (Err e) h p = p
