-- What a test or an option that holds says of its parts.
use Rattle.std.proofs.Common.{◌≡◌, Bool, true, false, ◌&&◌, ◌||◌, Some, refl}
use Rattle.std.proofs.lemmas.Bool.{and_parts}

pub and_left : (x y : Bool) → (x && y) ≡ true → x ≡ true
and_left x y e = (and_parts x y e).0

pub and_right : (x y : Bool) → (x && y) ≡ true → y ≡ true
and_right x y e = (and_parts x y e).1

pub or_false : (x : Bool) → (x || false) ≡ x
or_false true = refl
or_false false = refl

pub some_same : {A : Type 0} (a b : A) → Some a ≡ Some b → a ≡ b
some_same a b e = cc
