-- What was made on a shop, and put on a sink, one after another.
use Rattle.std.proofs.Common.{◌≡◌, ℕ, ◌+◌, ◌≤◌, Bool, true, false, ◌||◌, List, [], ◌∷◌, ◌++◌, take}
use Rattle.std.proofs.Common.{length, Option, Some, None, refl, ap, sym, ◌∙◌, subst, append_assoc}
use Rattle.std.proofs.Common.{append-nil, arith, length-append, zero-add, suc}
use Rattle.std.specs.Prelude.{IfSome}
use Rattle.std.specs.List.{list_any}
use Rattle.outside.specs.Causes.{Counts, Rose}
use Rattle.outside.specs.Lists.{Adds, IsFrontAdded, Tells}
use Rattle.outside.specs.Told.{SinkTold, ShopTold}
use Rattle.outside.specs.declared.shop.ShopCall.{ShopCall}
use Rattle.message_service.specs.declared.finish.Finish.{Finish}
use Rattle.message_service.specs.declared.finish.Finish.TheVariants as finish
use Rattle.message_service.specs.Calls.{Made, HasFailed, has_failed}
use Rattle.message_service.specs.Ends.{PutAll, PutFront, PutsBy}

pub adds_on : {A : Type 0} (xs ys : List A) (old mid new : Option (List A)) → Adds xs old mid
    → Adds ys mid new → Adds (xs ++ ys) old new
adds_on {A = A} xs ys old mid new first second =
    λ zs holds. subst (λ (all : List A). Tells new all) (append_assoc zs xs ys)
    (second (zs ++ xs) (first zs holds))

pub adds_nothing : {A : Type 0} (told : Option (List A)) → Adds [] told told
adds_nothing {A = A} told = λ xs holds. subst (λ (ys : List A). Tells told ys) (sym (append-nil
    xs)) holds

rose_on : (a b c : ℕ) → a ≤ b → Rose b c → Rose a c
rose_on a b c later rose = omega (arith, later, rose)

rose_off : (a b c : ℕ) → Rose a b → b ≤ c → Rose a c
rose_off a b c rose later = omega (arith, later, rose)

-- one of two lists of calls has one that failed
either_failed : (b : Bool) (One : Type 0) → (b ≡ true → One) → (b ≡ false → One) → One
either_failed b One = elim b as (λ v. (v ≡ true → One) → (v ≡ false → One)
    → One) [ true ↦ λ yes no. yes refl | false ↦ λ yes no. no refl ]

or_assoc : (a b c : Bool) → ((a || b) || c) ≡ (a || (b || c))
or_assoc true b c = refl
or_assoc false b c = refl

any_on : (xs ys : List ShopCall) → list_any has_failed (xs ++ ys) ≡ (list_any has_failed xs ||
    list_any has_failed ys)
any_on [] ys = refl
any_on (x ∷ xs) ys = ap (λ (b : Bool). has_failed x || b) (any_on xs ys)
    ∙ sym (or_assoc (has_failed x) (list_any has_failed xs) (list_any has_failed ys))

failed_later : (xs ys : List ShopCall) → list_any has_failed xs ≡ false → HasFailed (xs ++ ys)
    → HasFailed ys
failed_later xs ys none some = ap (λ (b : Bool). b || list_any has_failed ys) (sym none)
    ∙ sym (any_on xs ys) ∙ some

counts_on : (xs ys : List ShopCall) (a b c : ℕ) → Counts a b (HasFailed xs)
    → Counts b c (HasFailed ys) → Counts a c (HasFailed (xs ++ ys))
counts_on xs ys a b c first second = record {
  later = omega (arith, first.later, second.later);
  rose = λ failed. either_failed (list_any has_failed xs) (Rose a c)
      (λ yes. rose_off a b c (first.rose yes) second.later)
      (λ no. rose_on a b c first.later (second.rose (failed_later xs ys no failed)));
}

pub made_on : (xs ys : List ShopCall) (old mid new : ShopTold) → Made xs old mid → Made ys mid new
    → Made (xs ++ ys) old new
made_on xs ys old mid new first second = record {
  log = adds_on xs ys old.log mid.log new.log first.log second.log;
  count = counts_on xs ys old.faults mid.faults new.faults first.count second.count;
}

none_failed : true ≡ false → ⊥
none_failed e = cc

pub made_nothing : (told : ShopTold) → Made [] told told
made_nothing told = record {
  log = adds_nothing told.log;
  count = record { later = omega arith; rose = λ failed. absurd (none_failed (sym failed)) };
}

-- ---- bytes

pub put_nothing : (told : SinkTold) → PutAll [] told told
put_nothing told = record { given = adds_nothing told.contents; count = omega arith }

pub put_on : (xs ys : List ℕ) (old mid new : SinkTold) → PutAll xs old mid → PutAll ys mid new
    → PutAll (xs ++ ys) old new
put_on xs ys old mid new first second = record {
  given = adds_on xs ys old.contents mid.contents new.contents first.given second.given;
  count = omega (arith, first.count, second.count);
}

suc_add : (a b : ℕ) → suc a + b ≡ suc (a + b)
suc_add a b = omega arith

take_past : {A : Type 0} (xs ys : List A) (n : ℕ) → take (length xs + n) (xs ++ ys) ≡ xs ++ take n
    ys
take_past [] ys n = ap (λ k. take k ys) (zero-add n)
take_past (x ∷ xs) ys n = ap (λ k. take k (x ∷ (xs ++ ys))) (suc_add (length xs) n)
    ∙ ap (λ zs. x ∷ zs) (take_past xs ys n)

front_on : (xs ys zs : List ℕ) (new : Option (List ℕ)) → IfSome new (IsFrontAdded ys (zs ++ xs))
    → IfSome new (IsFrontAdded (xs ++ ys) zs)
front_on xs ys zs None h = tt
front_on xs ys zs (Some out) h = (
  length xs + h.0,
  omega (arith, h.1, length-append xs ys),
  h.2
      ∙ append_assoc zs xs (take h.0 ys) ∙ ap (λ ws. zs ++ ws) (sym (take_past xs ys h.0)),
)

pub put_front : (xs ys : List ℕ) (old mid new : SinkTold) → PutAll xs old mid → PutFront ys mid new
    → PutFront (xs ++ ys) old new
put_front xs ys old mid new first second = record {
  given = λ zs holds. front_on xs ys zs new.contents (second.given (zs ++ xs) (first.given zs
      holds));
  rose = rose_on old.faults mid.faults new.faults first.count second.rose;
}

pub puts_on : (how : Option Finish) (xs ys : List ℕ) (old mid new : SinkTold) → PutAll xs old mid
    → PutsBy how ys mid new → PutsBy how (xs ++ ys) old new
puts_on None xs ys old mid new first second = put_on xs ys old mid new first second
puts_on (Some finish.AtEnd) xs ys old mid new first second = put_on xs ys old mid new first second
puts_on (Some finish.NoMemory) xs ys old mid new first second =
    put_on xs ys old mid new first second
puts_on (Some finish.BadInput) xs ys old mid new first second =
    put_on xs ys old mid new first second
puts_on (Some finish.InputFault) xs ys old mid new first second =
    put_on xs ys old mid new first second
puts_on (Some finish.OutputFault) xs ys old mid new first second =
    put_front xs ys old mid new first second
puts_on (Some finish.TooLong) xs ys old mid new first second = put_on xs ys old mid new first second
