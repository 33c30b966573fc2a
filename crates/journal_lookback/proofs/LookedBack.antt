-- What is found by looking through the entries is what the words say of the journal.
use Rattle.std.proofs.Common.{◌≡◌, ℕ, ◌+◌, ◌<◌, ◌≤◌, Bool, true, false, ◌&&◌, ◌||◌, cond, List, [], ◌∷◌, ◌++◌, length, get_or, take, drop, reverse, Option, Some, None, is_some, option_and_then, refl, ap, sym, ◌∙◌}
use Rattle.std.specs.List.{find, list_any}
use Rattle.std.proofs.lemmas.List.{take_more, reverse-append, take-append-drop, take_all}
use Rattle.run_plan.specs.declared.plan.Branch.{Branch}
use Rattle.exec_journal.specs.declared.attempt.Attempt.{Attempt}
use Rattle.exec_journal.specs.declared.ends.Cause.{Cause}
use Rattle.exec_journal.specs.declared.call.Call.{Call}
use Rattle.exec_journal.specs.declared.call.Call.TheVariants as call
use Rattle.exec_journal.specs.declared.call.Written.{Written}
use Rattle.exec_journal.specs.declared.call.Written.TheVariants as write
use Rattle.exec_journal.specs.declared.reply.Reply.{Reply}
use Rattle.exec_journal.specs.declared.reply.Reply.TheVariants as reply
use Rattle.exec_journal.specs.Entry.{Entry}
use Rattle.exec_journal.specs.History.{ever, latest, first}
use Rattle.list_lemmas.specs.Options.{or_else, unless_before}
use Rattle.exec_journal.specs.Entries.{Request, is_for, consumed_in, is_unwritten, send_in, ends, committed_in}
use Rattle.exec_journal.specs.Words.{last_work, work_at, answered, has_ended, line_cause, break_at, break_by, write_cause, if_line, ever_sent, is_of_branch, grant_of, commit_of, match_at, match_of}
use Rattle.journal_lookback.specs.Lookback.{is_work, front, grants, ended_line, was_answered, is_late, write_break, break_when}

-- the front with one more entry
pub front_more : (es : List Entry) (i : ℕ) (d : Entry) → i < length es → front es (i + 1) ≡ get_or es i d ∷ front es i
front_more es i d lt = ap reverse (take_more es i d lt) ∙ reverse-append (take i es) (get_or es i d ∷ [])

-- ---- the newest

pub latest_find : (lane : ℕ) (j : List Entry) → latest (λ _ e. work_at lane e) j ≡ find (is_work lane) j
latest_find lane [] = refl
latest_find lane (e ∷ j) =
    elim (is_work lane e) as (λ b. or_else (cond b (Some e) None) (latest (λ _ d. work_at lane d) j) ≡ cond b (Some e) (find (is_work lane) j)) [ true ↦ refl | false ↦ latest_find lane j ]

pub last_work_find : (es : List Entry) (lane : ℕ) → find (is_work lane) (reverse es) ≡ last_work (reverse es) lane
unfolding last_work
last_work_find es lane = sym (latest_find lane (reverse es))

-- ---- the oldest, and whether there is any

unless_assoc : {X : Type 0} (x y z : Option X) → unless_before x (unless_before y z) ≡ unless_before (unless_before x y) z
unless_assoc None None z = refl
unless_assoc None (Some b) None = refl
unless_assoc None (Some b) (Some c) = refl
unless_assoc (Some a) None None = refl
unless_assoc (Some a) None (Some c) = refl
unless_assoc (Some a) (Some b) None = refl
unless_assoc (Some a) (Some b) (Some c) = refl

module _ {X : Type 0} (f : Entry → Option X) where
  first_append : (j k : List Entry) → first (λ _ e. f e) (j ++ k) ≡ unless_before (first (λ _ e. f e) j) (first (λ _ e. f e) k)
  first_append [] k = refl
  first_append (e ∷ j) k = ap (unless_before (f e)) (first_append j k) ∙ unless_assoc (f e) (first (λ _ d. f d) j) (first (λ _ d. f d) k)

  earlier : (x : Option X) (rest : Option X) → (b : Bool) → is_some x ≡ b → unless_before rest x ≡ cond b x rest
  earlier (Some a) None true h = refl
  earlier (Some a) (Some c) true h = refl
  earlier None None false h = refl
  earlier None (Some c) false h = refl
  earlier (Some a) rest false h = absurd (cc)
  earlier None rest true h = absurd (cc)

  pub first_find : (es : List Entry) → first (λ _ e. f e) (reverse es) ≡ option_and_then f (find (λ e. is_some (f e)) es)
  first_find [] = refl
  first_find (e ∷ es) =
      ap (first (λ _ d. f d)) (reverse-append (e ∷ []) es)
      ∙ first_append (reverse es) (e ∷ [])
      ∙ ap (λ o. unless_before o (unless_before (f e) None)) (first_find es)
      ∙ here (is_some (f e)) refl
    where
      alone : (o : Option X) → unless_before o None ≡ o
      alone None = refl
      alone (Some a) = refl

      here : (b : Bool) → is_some (f e) ≡ b → unless_before (option_and_then f (find (λ d. is_some (f d)) es)) (unless_before (f e) None) ≡ option_and_then f (cond (is_some (f e)) (Some e) (find (λ d. is_some (f d)) es))
      here true h = ap (unless_before (option_and_then f (find (λ d. is_some (f d)) es))) (alone (f e)) ∙ earlier (f e) _ true h ∙ sym (ap (λ b. option_and_then f (cond b (Some e) (find (λ d. is_some (f d)) es))) h)
      here false h = ap (unless_before (option_and_then f (find (λ d. is_some (f d)) es))) (alone (f e)) ∙ earlier (f e) _ false h ∙ sym (ap (λ b. option_and_then f (cond b (Some e) (find (λ d. is_some (f d)) es))) h)

or_swap : (a b c : Bool) → a || (b || c) ≡ (a || b) || c
or_swap true b c = refl
or_swap false b c = refl

or_comm : (a b : Bool) → a || b ≡ b || a
or_comm true true = refl
or_comm true false = refl
or_comm false true = refl
or_comm false false = refl

or_false : (a : Bool) → a || false ≡ a
or_false true = refl
or_false false = refl

ever_append : (p : Entry → Bool) (j k : List Entry) → ever (λ _ e. p e) (j ++ k) ≡ ever (λ _ e. p e) j || ever (λ _ e. p e) k
ever_append p [] k = refl
ever_append p (e ∷ j) k = ap (λ b. p e || b) (ever_append p j k) ∙ or_swap (p e) (ever (λ _ d. p d) j) (ever (λ _ d. p d) k)

pub ever_any : (p : Entry → Bool) (es : List Entry) → ever (λ _ e. p e) (reverse es) ≡ list_any p es
ever_any p [] = refl
ever_any p (e ∷ es) =
    ap (ever (λ _ d. p d)) (reverse-append (e ∷ []) es)
    ∙ ever_append p (reverse es) (e ∷ [])
    ∙ ap (λ b. b || (p e || false)) (ever_any p es)
    ∙ ap (λ b. list_any p es || b) (or_false (p e))
    ∙ or_comm (list_any p es) (p e)

-- ---- the oldest with what came before it

first_over : {X : Type 0} (f : List Entry → Entry → Option X) (k j : List Entry) (x : X) → first f j ≡ Some x → first f (k ++ j) ≡ Some x
first_over {X} f [] j x h = h
first_over {X} f (e ∷ k) j x h = kept (f (k ++ j) e) (first f (k ++ j)) (first_over f k j x h)
  where
    kept : (o q : Option X) → q ≡ Some x → unless_before o q ≡ Some x
    kept None q h = h
    kept (Some y) (Some z) h = h
    kept (Some y) None h = absurd (cc)

pub first_found : {X : Type 0} (f : List Entry → Entry → Option X) (es : List Entry) (i : ℕ) (e : Entry) (x : X) → i < length es → e ≡ get_or es i e
    → first f (front es i) ≡ None → f (front es i) e ≡ Some x → first f (reverse es) ≡ Some x
first_found {X} f es i e x lt is none here =
    let split : reverse es ≡ reverse (drop (i + 1) es) ++ front es (i + 1) = (ap reverse (sym (take-append-drop (i + 1) es)) ∙ reverse-append (take (i + 1) es) (drop (i + 1) es)) in
    let more : front es (i + 1) ≡ e ∷ front es i = (front_more es i e lt ∙ ap (λ (y : Entry). y ∷ front es i) (sym is)) in
    ap (first f) split ∙ first_over f (reverse (drop (i + 1) es)) (front es (i + 1)) x (ap (first f) more ∙ new (f (front es i) e) (first f (front es i)) here none)
  where
    new : (o q : Option X) → o ≡ Some x → q ≡ None → unless_before o q ≡ Some x
    new (Some y) None h k = h
    new None q h k = absurd (cc)
    new (Some y) (Some z) h k = absurd (cc)

pub first_passed : {X : Type 0} (f : List Entry → Entry → Option X) (es : List Entry) (i : ℕ) (e : Entry) → i < length es → e ≡ get_or es i e
    → first f (front es i) ≡ None → f (front es i) e ≡ None → first f (front es (i + 1)) ≡ None
first_passed f es i e lt is none here =
    let more : front es (i + 1) ≡ e ∷ front es i = (front_more es i e lt ∙ ap (λ (y : Entry). y ∷ front es i) (sym is)) in
    ap (first f) more ∙ rw here none

-- ---- the break of a line, where it is known whether the request was already answered

write_late : (j : List Entry) (o : Option Request) (how : Written) → write_break (is_unwritten how && was_answered j o) how ≡ write_cause j how o
write_late j o write.FeedFault = refl
write_late j o write.Done = refl
write_late j (Some r) write.RoomFault = refl
write_late j (Some r) write.TooLarge = refl
write_late j None write.RoomFault = refl
write_late j None write.TooLarge = refl

pub break_late : (j : List Entry) (o : Option Request) (l : ℕ) (c : Call) (x : Reply) → break_when (is_late j o c) l c x ≡ break_by j o l c x
break_late j o l (call.Wrote k n how) x = ap (if_line k l) (write_late j o how)
break_late j o l (call.Answer k y) (reply.Breach w) = refl
break_late j o l (call.Ended k how) x = refl
break_late j o l _ _ = refl

-- ---- the words of the journal of all entries

pub answered_any : (es : List Entry) (t : Attempt) → list_any (λ e. is_for t (consumed_in e.reply)) es ≡ answered (reverse es) t
unfolding answered
answered_any es t = sym (ever_any (λ e. is_for t (consumed_in e.reply)) es)

pub has_ended_any : (es : List Entry) (l : ℕ) → list_any (λ e. ends l e.call) es ≡ has_ended (reverse es) l
unfolding has_ended
has_ended_any es l = sym (ever_any (λ e. ends l e.call) es)

pub ever_sent_any : (es : List Entry) (a : ℕ) (b : Branch) → list_any (λ e. is_of_branch a b (send_in e.reply)) es ≡ ever_sent (reverse es) a b
unfolding ever_sent
ever_sent_any es a b = sym (ever_any (λ e. is_of_branch a b (send_in e.reply)) es)

pub grant_found : (es : List Entry) (a : ℕ) (o : Option Entry) → o ≡ find (λ e. is_some (grants a e)) es → option_and_then (grants a) o ≡ grant_of (reverse es) a
unfolding grant_of
grant_found es a o h = ap (option_and_then (grants a)) h ∙ sym (first_find (grants a) es)

pub commit_found : (es : List Entry) (a : ℕ) (b : Branch) (o : Option Entry) → o ≡ find (λ e. is_some (committed_in a b e.call)) es → option_and_then (λ e. committed_in a b e.call) o ≡ commit_of (reverse es) a b
unfolding commit_of
commit_found es a b o h = ap (option_and_then (λ e. committed_in a b e.call)) h ∙ sym (first_find (λ e. committed_in a b e.call) es)

pub match_found : (es : List Entry) (t : Attempt) (o : Option Entry) → o ≡ find (λ e. is_some (match_at t e.call e.reply)) es → option_and_then (λ e. match_at t e.call e.reply) o ≡ match_of (reverse es) t
unfolding match_of
match_found es t o h = ap (option_and_then (λ e. match_at t e.call e.reply)) h ∙ sym (first_find (λ e. match_at t e.call e.reply) es)

pub ended_line_some : (es : List Entry) (l : ℕ) (o : Option ℕ) → o ≡ Some l → list_any (λ e. ends l e.call) es ≡ true → ended_line (reverse es) o ≡ line_cause (reverse es) l
ended_line_some es l o is h = ap (ended_line (reverse es)) is ∙ ap (λ b. cond b (line_cause (reverse es) l) None) (sym (has_ended_any es l) ∙ h)

pub ended_line_not : (es : List Entry) (l : ℕ) (o : Option ℕ) → o ≡ Some l → list_any (λ e. ends l e.call) es ≡ false → ended_line (reverse es) o ≡ None
ended_line_not es l o is h = ap (ended_line (reverse es)) is ∙ ap (λ b. cond b (line_cause (reverse es) l) None) (sym (has_ended_any es l) ∙ h)

-- the cause at the first break
pub cause_found : (es : List Entry) (l i : ℕ) (e : Entry) (o : Option Cause) → i < length es → e ≡ get_or es i e → first (break_at l) (front es i) ≡ None
    → o ≡ break_at l (front es i) e → is_some o ≡ true → o ≡ line_cause (reverse es) l
unfolding line_cause
cause_found es l i e (Some x) lt is none here h = sym (first_found (break_at l) es i e x lt is none (sym here))
cause_found es l i e None lt is none here h = absurd (cc)

pub cause_none : (es : List Entry) (l i : ℕ) → length es ≤ i → first (break_at l) (front es i) ≡ None → None ≡ line_cause (reverse es) l
unfolding line_cause
cause_none es l i le none = sym none ∙ ap (λ (xs : List Entry). first (break_at l) (reverse xs)) (take_all i es le)
