-- One entry more, with its deed.
use Rattle.std.proofs.Common.{◌≡◌, ℕ, ◌+◌, ◌<◌, ◌==◌, Bool, true, false, cond, List, [], ◌∷◌, ◌++◌, Option, refl, ap, sym, subst, ◌∙◌, append_assoc, append-nil, arith, eq-eqb, ne_eqb, ◌≤◌}
use Rattle.std.specs.Prelude.{All, IfSome, slice_index_or}
use Rattle.std.specs.List.{fold}
use Rattle.seat_desk.specs.History.{StartsWith}
use Rattle.outside.specs.Lists.{Tells, Adds}
use Rattle.outside.specs.Told.{BerthTold, SameBerth, FeedTold, SameFeed}
use Rattle.outside.specs.declared.berth.BerthCall.{BerthCall}
use Rattle.outside.specs.declared.berth.BerthCall.TheVariants as berth
use Rattle.exec_journal.specs.declared.call.Call.{Call}
use Rattle.exec_journal.specs.declared.reply.Reply.{Reply}
use Rattle.core_contract.specs.Moves.{Past, History}
use Rattle.core_contract.specs.Duties.{Duty, duty_then}
use Rattle.run_values.specs.Settings.{Means}
use Rattle.proxy_words.specs.Deeds.{Looked, Deed, DeedOf, Acts, calls_of, given_by, given_to, with_end, with_ends}
use Rattle.proxy_words.specs.Told.{IsTold, AreTold, AllTold}
use Rattle.proxy_words.specs.Lines.{started_by, started_in, room_fault, room_faults, feed_fault, feed_faults, RoseBy, Returned, EndsLine, IsFed, IsBack, IsServed}

-- ---- the entries with their deeds

module _ (means : Means) where
  pub acts_more : (s : Duty) (own : History) (ds : List Deed) (e : Past) (d : Deed)
      → Acts means s own ds → DeedOf means (fold duty_then s own) e.call d
      → Acts means s (own ++ e ∷ []) (ds ++ d ∷ [])
  acts_more s [] ds e d a did =
      subst (λ (x : List Deed). Acts means s (e ∷ []) (x ++ d ∷ [])) (sym a) (did, refl)
  acts_more s (x ∷ own) [] e d a did = absurd a
  acts_more s (x ∷ own) (y ∷ ds) e d a did =
      (a.0, acts_more (duty_then s x) own ds e d a.1 did)

pub calls_more : (ds : List Deed) (d : Deed) → calls_of (ds ++ d ∷ []) ≡ calls_of ds ++ d.calls
calls_more [] d = append-nil d.calls
calls_more (x ∷ ds) d =
    ap (λ (cs : List BerthCall). x.calls ++ cs) (calls_more ds d)
    ∙ sym (append_assoc x.calls (calls_of ds) d.calls)

pub given_more : (l : ℕ) (ds : List Deed) (d : Deed)
    → given_to l (ds ++ d ∷ []) ≡ given_to l ds ++ given_by l d
given_more l [] d = append-nil (given_by l d)
given_more l (x ∷ ds) d =
    ap (λ (bs : List ℕ). given_by l x ++ bs) (given_more l ds d)
    ∙ sym (append_assoc (given_by l x) (given_to l ds) (given_by l d))

-- ---- what Looks told

module _ (rule : History → ℕ → Call → Reply) (lane : ℕ) (seen seen' : History)
    (more : StartsWith seen' seen) where
  told_later : (x : Looked) → IsTold rule lane seen x → IsTold rule lane seen' x
  told_later x t = (
    t.0,
    (
      t.1.0 ++ more.0,
      more.1 ∙ (ap (λ (h : History). h ++ more.0) t.1.1 ∙ append_assoc t.0 t.1.0 more.0),
    ),
    t.2,
  )

  pub are_told_later : (xs : List Looked) → AreTold rule lane seen xs → AreTold rule lane seen' xs
  are_told_later [] t = tt
  are_told_later (x ∷ xs) t = (told_later x t.0, are_told_later xs t.1)

  pub all_told_later : (ds : List Deed) → AllTold rule lane seen ds → AllTold rule lane seen' ds
  all_told_later [] t = tt
  all_told_later (d ∷ ds) t = (are_told_later d.looks t.0, all_told_later ds t.1)

pub told_more : (rule : History → ℕ → Call → Reply) (lane : ℕ) (seen : History) (xs ys : List Looked)
    → AreTold rule lane seen xs → AreTold rule lane seen ys → AreTold rule lane seen (xs ++ ys)
told_more rule lane seen [] ys a b = b
told_more rule lane seen (x ∷ xs) ys a b = (a.0, told_more rule lane seen xs ys a.1 b)

pub all_told_more : (rule : History → ℕ → Call → Reply) (lane : ℕ) (seen : History) (ds : List Deed)
    (d : Deed) → AllTold rule lane seen ds → AreTold rule lane seen d.looks
    → AllTold rule lane seen (ds ++ d ∷ [])
all_told_more rule lane seen [] d a b = (b, tt)
all_told_more rule lane seen (x ∷ ds) d a b = (a.0, all_told_more rule lane seen ds d a.1 b)

-- ---- lines and faults

pub started_more : (own : History) (e : Past)
    → started_in (own ++ e ∷ []) ≡ started_in own ++ started_by e.call
started_more [] e = append-nil (started_by e.call)
started_more (x ∷ own) e =
    ap (λ (ls : List ℕ). started_by x.call ++ ls) (started_more own e)
    ∙ sym (append_assoc (started_by x.call) (started_in own) (started_by e.call))

room_more : (own : History) (e : Past)
    → room_faults (own ++ e ∷ []) ≡ room_faults own + room_fault e.call
room_more [] e = omega arith
room_more (x ∷ own) e = let more = room_more own e in omega arith

pub feed_more : (l : ℕ) (own : History) (e : Past)
    → feed_faults l (own ++ e ∷ []) ≡ feed_faults l own + feed_fault l e.call
feed_more l [] e = omega arith
feed_more l (x ∷ own) e = let more = feed_more l own e in omega arith

rose_more : (n m total before mid now : ℕ) → total ≡ n + m → RoseBy n before mid
    → RoseBy m mid now → RoseBy total before now
rose_more n m total before mid now is first second = omega arith

pub adds_more : {A : Type 0} (xs ys all : List A) (old mid new : Option (List A)) → all ≡ xs ++ ys
    → Adds xs old mid → Adds ys mid new → Adds all old new
adds_more {A = A} xs ys all old mid new is first second =
    λ zs holds. subst (λ (list : List A). Tells new list)
    (append_assoc zs xs ys ∙ ap (λ (list : List A). zs ++ list) (sym is))
    (second (zs ++ xs) (first zs holds))

pub adds_none : {A : Type 0} (o : Option (List A)) (xs : List A) → xs ≡ [] → Adds xs o o
adds_none {A = A} o xs none = λ zs holds.
    subst (λ (list : List A). Tells o list)
    (sym (append-nil zs) ∙ ap (λ (list : List A). zs ++ list) (sym none)) holds

-- ---- the berth

pub served_none : (told : BerthTold) → IsServed [] [] told told
served_none told = record {
  log = adds_none told.log [] refl;
  faults = omega arith;
  same = refl;
}

pub served_more : (own : History) (ds : List Deed) (e : Past) (d : Deed) (old mid new : BerthTold)
    → IsServed own ds old mid → Adds d.calls mid.log new.log
    → RoseBy (room_fault e.call) mid.faults new.faults → SameBerth mid new
    → IsServed (own ++ e ∷ []) (ds ++ d ∷ []) old new
served_more own ds e d old mid new s log faults same = record {
  log = adds_more (calls_of ds) d.calls (calls_of (ds ++ d ∷ [])) old.log mid.log new.log
      (calls_more ds d) s.log log;
  faults = rose_more (room_faults own) (room_fault e.call) (room_faults (own ++ e ∷ [])) old.faults
      mid.faults new.faults (room_more own e) s.faults faults;
  same = same ∙ s.same;
}

-- ---- a feed

pub fed_more : (own : History) (ds : List Deed) (e : Past) (d : Deed) (l : ℕ) (old new : FeedTold)
    → IsFed own ds l old → Adds (given_by l d) old.given new.given
    → RoseBy (feed_fault l e.call) old.faults new.faults → SameFeed old new
    → IsFed (own ++ e ∷ []) (ds ++ d ∷ []) l new
fed_more own ds e d l old new f given faults same = record {
  of_line = subst (λ (o : Option ℕ). IfSome o (λ k. k ≡ l)) (sym same) f.of_line;
  given = subst (λ (bs : List ℕ). Tells new.given bs) (sym (given_more l ds d))
      (given (given_to l ds) f.given);
  faults = rose_more (feed_faults l own) (feed_fault l e.call) (feed_faults l (own ++ e ∷ [])) 0
      old.faults new.faults (feed_more l own e) f.faults faults;
}

-- the entry and its deed are not about this line's feed
abbrev pub LeavesFeed : Past → Deed → ℕ → Type 0
LeavesFeed e d l = (given_by l d ≡ []) × (feed_fault l e.call ≡ 0)

pub fed_still : (own : History) (ds : List Deed) (e : Past) (d : Deed) (l : ℕ) (feed : FeedTold)
    → IsFed own ds l feed → LeavesFeed e d l → IsFed (own ++ e ∷ []) (ds ++ d ∷ []) l feed
fed_still own ds e d l feed f leaves =
    fed_more own ds e d l feed feed f (adds_none feed.given (given_by l d) leaves.0)
    (subst (λ (n : ℕ). RoseBy n feed.faults feed.faults) (sym leaves.1) (omega arith)) refl

pub backs_still : (own : History) (ds : List Deed) (e : Past) (d : Deed) (xs : List Returned)
    → All (IsBack own ds) xs → All (λ x. LeavesFeed e d x.line) xs
    → All (IsBack (own ++ e ∷ []) (ds ++ d ∷ [])) xs
backs_still own ds e d xs a b = λ k y h.
    let x : Returned = slice_index_or xs k y in
    (fed_still own ds e d x.line x.feed (a k y h).0 (b k y h), (a k y h).1)

-- ---- which feeds an entry leaves

-- a deed that gave nothing, and an entry that tells no fault of a feed, leave all
pub leaves_all : (e : Past) (d : Deed) (l : ℕ) → d.given ≡ [] → feed_fault l e.call ≡ 0
    → LeavesFeed e d l
leaves_all e d l none quiet = (by_test (d.line == l), quiet)
  where
    by_test : (b : Bool) → cond b d.given [] ≡ []
    by_test true = none
    by_test false = refl

-- one line's deed leaves those of other lines
pub gives_other : (d : Deed) (l k : ℕ) → d.line ≡ l → k < l → given_by k d ≡ []
gives_other d l k is below =
    let other : d.line ≡ k → ⊥ = λ e. omega arith in
    ap (λ (b : Bool). cond b d.given []) (ne_eqb d.line k other)

pub gives_own : (d : Deed) (l : ℕ) → d.line ≡ l → given_by l d ≡ d.given
gives_own d l is = ap (λ (b : Bool). cond b d.given []) (eq-eqb d.line l is)

-- ---- a deed with a line's end behind it

pub with_ends_on : (ls ms : List ℕ) (d : Deed)
    → with_ends (ls ++ ms) d ≡ with_ends ms (with_ends ls d)
with_ends_on [] ms d = refl
with_ends_on (l ∷ ls) ms d = with_ends_on ls ms (with_end l d)

module _ (l : ℕ) (d : Deed) where
  pub told_with_end : (rule : History → ℕ → Call → Reply) (lane : ℕ) (seen : History)
      (ds : List Deed) → AllTold rule lane seen (ds ++ d ∷ [])
      → AllTold rule lane seen (ds ++ with_end l d ∷ [])
  told_with_end rule lane seen [] t = t
  told_with_end rule lane seen (x ∷ ds) t = (t.0, told_with_end rule lane seen ds t.1)

  pub given_with_end : (n : ℕ) (ds : List Deed)
      → given_to n (ds ++ with_end l d ∷ []) ≡ given_to n (ds ++ d ∷ [])
  given_with_end n [] = refl
  given_with_end n (x ∷ ds) = ap (λ (bs : List ℕ). given_by n x ++ bs) (given_with_end n ds)

  calls_with_end : (ds : List Deed)
      → calls_of (ds ++ with_end l d ∷ []) ≡ calls_of (ds ++ d ∷ []) ++ berth.End l ∷ []
  calls_with_end ds = calls_more ds (with_end l d)
      ∙ (sym (append_assoc (calls_of ds) d.calls (berth.End l ∷ []))
      ∙ ap (λ (cs : List BerthCall). cs ++ berth.End l ∷ []) (sym (calls_more ds d)))

  pub served_with_end : (own : History) (ds : List Deed) (old mid new : BerthTold)
      → IsServed own (ds ++ d ∷ []) old mid → EndsLine l mid new
      → IsServed own (ds ++ with_end l d ∷ []) old new
  served_with_end own ds old mid new s x = record {
    log = adds_more (calls_of (ds ++ d ∷ [])) (berth.End l ∷ [])
        (calls_of (ds ++ with_end l d ∷ [])) old.log mid.log new.log (calls_with_end ds) s.log x.log;
    faults = rose_later (room_faults own) old.faults mid.faults new.faults s.faults x.later;
    same = x.same ∙ s.same;
  }
    where
      rose_later : (n before mid now : ℕ) → RoseBy n before mid → mid ≤ now → RoseBy n before now
      rose_later n before mid now rose later = omega arith

  pub fed_with_end : (own : History) (ds : List Deed) (n : ℕ) (feed : FeedTold)
      → IsFed own (ds ++ d ∷ []) n feed → IsFed own (ds ++ with_end l d ∷ []) n feed
  fed_with_end own ds n feed f = record {
    of_line = f.of_line;
    given = subst (λ (bs : List ℕ). Tells feed.given bs) (sym (given_with_end n ds)) f.given;
    faults = f.faults;
  }

  pub backs_with_end : (own : History) (ds : List Deed) (xs : List Returned)
      → All (IsBack own (ds ++ d ∷ [])) xs → All (IsBack own (ds ++ with_end l d ∷ [])) xs
  backs_with_end own ds xs a = λ k y h.
      let x : Returned = slice_index_or xs k y in
      (fed_with_end own ds x.line x.feed (a k y h).0, (a k y h).1)
