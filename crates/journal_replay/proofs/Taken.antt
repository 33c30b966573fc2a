-- What was taken from a tap so far.
use Rattle.std.proofs.Common.{◌≡◌, ℕ, ◌+◌, ◌<◌, ◌≤◌, ◌^◌, true, List, [], ◌++◌, length, take, Option, inl, inr, sym, subst, arith, append_assoc, append-nil, length-append}
use Rattle.std.proofs.lemmas.List.{length-take-le}
use Rattle.std.specs.Prelude.{IfSome}
use Rattle.outside.specs.Lists.{Adds, Tells}
use Rattle.outside.specs.Told.{TapTold}
use Rattle.journal_replay.specs.Legality.{Rulebook, Standing}
use Rattle.journal_replay.specs.Fed.{Fed}
use Rattle.journal_replay.specs.Streams.{IsRead}
use Rattle.journal_replay.specs.Fronts.{JudgesInputBy}
use Rattle.journal_replay.specs.declared.feeding.Auditor.{Auditor}
use Rattle.journal_replay.specs.declared.verdict.Verdict.{Verdict}
use Rattle.journal_replay.specs.declared.verdict.Verdict.TheVariants as verdict

pub record SoFar {B C : Type 0} (rules : Rulebook B) (stands : Standing B C) (a : Auditor C) (old new : TapTold) (reads taken : ℕ) : Type 0 where
  pub bytes : List ℕ
  pub fed : Fed true rules stands a bytes
  pub adds : Adds bytes old.taken new.taken
  pub taken_is : taken ≡ length bytes
  pub long : reads ≤ length bytes
  pub few : length bytes ≤ 268435456

-- ---- bytes that are added

pub adds_more : (xs ys : List ℕ) (old mid new : Option (List ℕ)) → Adds xs old mid → Adds ys mid new → Adds (xs ++ ys) old new
adds_more xs ys old mid new p q = λ zs told.
    subst (Tells new) (append_assoc zs xs ys) (q (zs ++ xs) (p zs told))

pub adds_nothing : (old : Option (List ℕ)) → Adds [] old old
adds_nothing old = λ zs told. subst (Tells old) (sym (append-nil zs)) told

-- ---- what is read

-- what was taken into the front of a buffer
front_read : (n : ℕ) (into : List ℕ) → n ≤ length into → length (take n into) ≡ n
front_read n into within = length-take-le n into within

pub more_read : {B C : Type 0} (rules : Rulebook B) (stands : Standing B C) (a b : Auditor C) (old mid new : TapTold) (reads taken : ℕ) (n : ℕ) (into : List ℕ) (s : SoFar rules stands a old mid reads taken) → 0 < n → n ≤ length into → Adds (take n into) mid.taken new.taken → Fed true rules stands b (s.bytes ++ take n into) → taken + n ≤ 268435456
    → SoFar rules stands b old new (reads + 1) (taken + n)
more_read rules stands a b old mid new reads taken n into s some within adds fed few =
    let piece = take n into in
    let count : length piece ≡ n = front_read n into within in
    let is = s.taken_is in
    let long = s.long in
    let both : length (s.bytes ++ piece) ≡ length s.bytes + length piece = length-append s.bytes piece in
    record {
      bytes = s.bytes ++ piece;
      fed = fed;
      adds = adds_more s.bytes piece old.taken mid.taken new.taken s.adds adds;
      taken_is = omega arith;
      long = omega arith;
      few = omega arith;
    }

pub much_read : {B C : Type 0} (rules : Rulebook B) (stands : Standing B C) (a : Auditor C) (old mid new : TapTold) (reads taken : ℕ) (n : ℕ) (into : List ℕ) (s : SoFar rules stands a old mid reads taken) → n ≤ length into → Adds (take n into) mid.taken new.taken → 268435456 < taken + n → IsRead rules verdict.TooLong old new
much_read rules stands a old mid new reads taken n into s within adds more =
    let piece = take n into in
    let count : length piece ≡ n = front_read n into within in
    let is = s.taken_is in
    let both : length (s.bytes ++ piece) ≡ length s.bytes + length piece = length-append s.bytes piece in
    let much : 268435456 < length (s.bytes ++ piece) = omega arith in
    record { bytes = s.bytes ++ piece; taken = record { taken = adds_more s.bytes piece old.taken mid.taken new.taken s.adds adds; whole = inr much }; judged = much }

pub all_read : {B C : Type 0} (rules : Rulebook B) (stands : Standing B C) (a : Auditor C) (old mid new : TapTold) (reads taken : ℕ) (v : Verdict) (s : SoFar rules stands a old mid reads taken) → Adds [] mid.taken new.taken → IfSome new.ended (λ e. e ≡ true) → JudgesInputBy rules s.bytes v → IsRead rules v old new
all_read rules stands a old mid new reads taken v s adds ended judged =
    record {
      bytes = s.bytes;
      taken = record {
        taken = subst (λ (x : List ℕ). Adds x old.taken new.taken) (append-nil s.bytes) (adds_more s.bytes [] old.taken mid.taken new.taken s.adds adds);
        whole = inl ended;
      };
      judged = judged;
    }

pub piece_fits : (bytes : List ℕ) (n : ℕ) (into : List ℕ) → length bytes ≤ 268435456 → n ≤ length into → n ≤ 268435456 → length bytes + length (take n into) < 2 ^ 63
piece_fits bytes n into few within small =
    let count : length (take n into) ≡ n = front_read n into within in
    omega arith
