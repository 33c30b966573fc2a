-- Values that may be there.
use Rattle.std.proofs.Common.{◌≡◌, true, Option, Some, None, is_some, refl}
use Rattle.list_lemmas.specs.Options.{or_else}

pub some_same : {X : Type 0} (x y : X) → Some x ≡ Some y → x ≡ y
some_same x y h = cc

pub none_some : {X : Type 0} (x : Option X) → x ≡ None → is_some x ≡ true → ⊥
none_some None h y = cc
none_some (Some z) h y = cc

pub some_left : {X : Type 0} (x y : Option X) → is_some x ≡ true → is_some (or_else x y) ≡ true
some_left (Some z) y h = refl
some_left None y h = absurd (cc)

pub some_right : {X : Type 0} (x y : Option X) → is_some y ≡ true → is_some (or_else x y) ≡ true
some_right (Some z) y h = refl
some_right None y h = h
