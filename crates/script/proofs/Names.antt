-- A name that is found.
use Rattle.std.proofs.Common.{◌≡◌, Some, None, Option, Bor, refl}
use Rattle.std.specs.Option.{option_copied, option_map}

pub copied_is : {X : Type 0} (r : Option (Bor X)) → option_copied r ≡ option_map (λ x. x.now) r
copied_is (Some x) = refl
copied_is None = refl
