use Rattle.std.proofs.Common.{◌≡◌, ◌∙◌, ◌<◌, ◌+◌, ℕ, suc, List, [], ◌∷◌, ◌++◌, Some, None, Option, length, take, drop, set, get_or, refl, ap, sym, append_assoc, add-one, drop-cons, length-set, arith}
use Rattle.std.specs.Option.{option_map}
use Rattle.std.proofs.Math.Seq.{take-suc-set}
use Rattle.setup.specs.declared.setups.BearerSetup.{BearerSetup}
use Rattle.boundary.specs.declared.setups.RawBearer.{RawBearer}
use Rattle.boundary.specs.Setups.{setup_of, setups_of}
use Rattle.boundary.proofs.setups.setups.Goals as goal

-- one more that is converted is one less that is left
grown : (xs : List BearerSetup) (n : ℕ) (s : BearerSetup) → n < length xs → (o : Option (List BearerSetup)) → option_map (λ rest. take (suc n) (set xs n s) ++ rest) o ≡ option_map (λ rest. take n xs ++ rest) (option_map (λ ss. s ∷ ss) o)
grown xs n s lt None = refl
grown xs n s lt (Some ys) = rw (take-suc-set xs n s lt) (ap Some (append_assoc (take n xs) (s ∷ []) ys))

converted : (xs : List BearerSetup) (bs : List RawBearer) (n : ℕ) (s : BearerSetup) (d : RawBearer) → n < length bs → n < length xs → setup_of (get_or bs n d) ≡ Some s → option_map (λ rest. take (n + 1) (set xs n s) ++ rest) (setups_of (drop (n + 1) bs)) ≡ option_map (λ rest. take n xs ++ rest) (setups_of (drop n bs))
converted xs bs n s d some room e = rw (add-one n, drop-cons bs n d some, e) (grown xs n s room (setups_of (drop (suc n) bs)))

-- src/setups.rt:69:5
pub loop-number-preserved : goal.loop-number-preserved
loop-number-preserved c =
    let room = c.loop-number.invariant.0 in
    (rw length-set room, converted c.loop-number.setups c.args.bearers.now c.loop-number.number c.in_ok-setups.field-0 _ c.loop-number-test.true (omega (arith, c.requires.few, c.loop-number-test.true, room)) (sym c.in_ok-setups.ensures.value) ∙ c.loop-number.invariant.1)
