-- A Claim comes once for an attempt, and only while that is under way: so an action is granted at most once.
use Rattle.std.proofs.Common.{◌≡◌, ℕ, ◌/◌, ◌<◌, ◌==◌, Bool, true, false, ◌&&◌, ◌||◌, not, cond, List, [], ◌∷◌, Option, Some, None, option_map, ◌⊎◌, inl, inr, refl, sym, ap, subst, ◌∙◌, ℤ, arith}
use Rattle.std.proofs.lemmas.Bool.{eqb-true, eq-eqb, and_parts, and_from, or_cases, or_left, or_right, or_parts}
use Rattle.run_plan.specs.declared.plan.Branch.{Branch}
use Rattle.run_plan.specs.declared.plan.Plan.{Plan}
use Rattle.exec_journal.specs.Seated.{line_kind}
use Rattle.exec_journal.specs.declared.attempt.Attempt.{Attempt}
use Rattle.exec_journal.specs.Entry.{Entry}
use Rattle.exec_journal.specs.declared.ends.Cause.{Cause}
use Rattle.exec_journal.specs.declared.call.Call.{Call}
use Rattle.exec_journal.specs.declared.call.Call.TheVariants as call
use Rattle.exec_journal.specs.declared.call.Found.{Found}
use Rattle.exec_journal.specs.declared.call.Started.{Started}
use Rattle.exec_journal.specs.declared.call.Written.{Written}
use Rattle.exec_journal.specs.declared.call.Written.TheVariants as write
use Rattle.exec_journal.specs.declared.reply.Reply.{Reply}
use Rattle.exec_journal.specs.declared.reply.Reply.TheVariants as reply
use Rattle.exec_journal.specs.History.{ever, AtEach}
use Rattle.list_lemmas.specs.Options.{unless_before}
use Rattle.exec_journal.specs.Entries.{Request, attempt_of, same_attempt, is_for, is_done, starts, fails, launch_in, send_in, gather_in, consumed_in, refused_in, send_of_entry}
use Rattle.exec_journal.specs.Words.{last_work, line_count, launch_of, started, failed, live, was_sent, answered, wrote, wrote_at, wrote_if, says_done, says_unwritten, granted}
use Rattle.exec_journal.specs.Attempts.{begun_in, line_of, fault_of, fault_at, fault_by, start_cause, unwritten_cause, refused_cause, found_cause, ended}
use Rattle.exec_journal.specs.Rules as r
use Rattle.exec_journal.specs.Rules.{gathered}
use Rattle.exec_journal.specs.Lawful as lw
use Rattle.exec_journal.specs.Scripts as sc
use Rattle.exec_journal.specs.Lawful.{Lawful}
use Rattle.exec_journal.specs.Facts.{begun, BeginsNext, ContinuesOn, Begins, IsNext}
use Rattle.journal_laws.specs.Invariant.{claims_it, claimed}
use Rattle.exec_journal.proofs.Histories.{AtSome, some_map}
use Rattle.exec_journal.proofs.Reasons as u
use Rattle.exec_journal.proofs.Ruled as ru
use Rattle.exec_journal.proofs.Ruled.{by_bool, not_true}
use Rattle.exec_journal.proofs.Lines.{count_grows, launch_stays, lines_named}
use Rattle.journal_laws.proofs.Fresh.{fresh}
use Rattle.exec_journal.proofs.Begins.{same_attempt_eq, same_attempt_refl, begin_in_order}
use Rattle.journal_laws.proofs.Owed as o
use Rattle.journal_laws.proofs.Owed.{Once, Keeps, Leaves, is_work, is_send, is_gather}
use Rattle.journal_laws.proofs.Carried as k
use Rattle.journal_laws.proofs.Over as v

-- ---- a request's Wrote answers its Send

pub record WritesIt (j : List Entry) (e : Entry) (t : Attempt) (y : Written) : Type 0 where
  pub order : Entry
  pub newest : last_work j e.lane ≡ Some order
  pub fits : is_send t order ≡ true
  pub line : ℕ
  pub number : ℤ
  pub is : e.call ≡ call.Wrote line number y

pub wrote_at_is : (j : List Entry) (e : Entry) (t : Attempt) (y : Written) → wrote_at t j e ≡ Some y → WritesIt j e t y
wrote_at_is j e t y h = by e.call (last_work j e.lane) refl refl h
  where
    of_send : (l : ℕ) (n : ℤ) (how : Written) (d : Entry) (q : Option Request) → send_in d.reply ≡ q → e.call ≡ call.Wrote l n how → last_work j e.lane ≡ Some d
        → wrote_if t (call.Wrote l n how) q ≡ Some y → WritesIt j e t y
    of_send l n how d None is ic io g = absurd (cc)
    of_send l n how d (Some q) is ic io g =
        by_bool (same_attempt q.attempt t) (λ b. same_attempt q.attempt t ≡ b → cond b (Some how) None ≡ Some y → WritesIt j e t y)
        (λ _ same m. let how_is : how ≡ y = cc in
        record { order = d; newest = io; fits = rw (is, same) refl; line = l; number = n; is = subst (λ (x : Written). e.call ≡ call.Wrote l n x) how_is ic })
        (λ _ _ m. absurd (cc)) refl g

    by : (c : Call) (w : Option Entry) → e.call ≡ c → last_work j e.lane ≡ w → wrote_if t c (send_of_entry w) ≡ Some y → WritesIt j e t y
    by (call.Wrote l n how) (Some d) ic io g = of_send l n how d (send_in d.reply) refl ic io g
    by (call.Wrote l n how) None ic io g = absurd (cc)
    by _ w ic io g = absurd (cc)

wrote_work : (j : List Entry) (e : Entry) (t : Attempt) (y : Written) → WritesIt j e t y → is_work e.call ≡ true
wrote_work j e t y it = rw it.is refl

wrote_more : (e : Entry) (j : List Entry) (t : Attempt) → wrote j t ≡ None → ((y : Written) → wrote_at t j e ≡ Some y → ⊥) → wrote (e ∷ j) t ≡ None
unfolding wrote
wrote_more e j t h f = by (wrote_at t j e) refl
  where
    by : (n : Option Written) → wrote_at t j e ≡ n → unless_before n (wrote j t) ≡ None
    by None is = h
    by (Some y) is = absurd (f y is)

pub unsent_before : (e : Entry) (j : List Entry) (t : Attempt) → was_sent (e ∷ j) t ≡ false → was_sent j t ≡ false
unfolding was_sent
unsent_before e j t h = (or_parts (is_send t e) _ h).1

pub unsent_unwritten : (j : List Entry) (t : Attempt) → was_sent j t ≡ false → wrote j t ≡ None
unfolding was_sent wrote
unsent_unwritten [] t h = refl
unsent_unwritten (e ∷ j) t h =
    let before = unsent_before e j t h in
    wrote_more e j t (unsent_unwritten j t before) (λ y is.
    let it = wrote_at_is j e t y is in
    let sent = o.newest_ever (is_send t) j e.lane it.order it.newest it.fits in
    let both : true ≡ false = sym sent ∙ before in cc)

-- only an Ask is answered by an order
pub asks : (p : Plan) (j : List Entry) (lane : ℕ) (c : Call) (x : Reply) (q : Request) → u.Ruled p j lane c x → send_in x ≡ Some q → c ≡ call.Ask
asks p j lane c x q (u.Sends l t here alive next none) h = refl
asks p j lane c x q (u.KillsBroken l y here run broken over) h = absurd (cc)
asks p j lane c x q _ h = absurd (cc)

pub ask_writes_none : (j : List Entry) (e : Entry) (t : Attempt) → e.call ≡ call.Ask → wrote_at t j e ≡ None
ask_writes_none j e t h = rw h refl

send_keeps : (p : Plan) (t : Attempt) (j : List Entry) → Lawful p j → AtEach (Keeps (is_send t) (λ k. wrote k t ≡ None)) j
send_keeps p t [] legal = tt
send_keeps p t (e ∷ j) legal = (
  send_keeps p t j legal.0,
  record {
    begin = λ h. (let begins = begin_in_order p (e ∷ j) legal in
        let it = k.send_of j e.reply t begins.1 h in
        let ask = asks p j e.lane e.call e.reply it.request (v.entry_ruled p e j legal) it.is in
        let none = ask_writes_none j e t ask in
        wrote_more e j t (unsent_unwritten j t (k.unsent_by j it.request.line t it.begins)) (λ y is. (let both : None ≡ Some y = sym none ∙ is in cc)));
    stay = λ none leaves. wrote_more e j t none (λ y is. let it = wrote_at_is j e t y is in leaves it.order it.newest it.fits (wrote_work j e t y it));
  },
)

-- a request that is its lane's newest work has no Wrote yet
pub owed_unwritten : (p : Plan) (j : List Entry) (t : Attempt) → Lawful p j → (lane : ℕ) (d : Entry) → last_work j lane ≡ Some d → is_send t d ≡ true → wrote j t ≡ None
owed_unwritten p j t legal lane d h y = o.while_owed (is_send t) (λ k. wrote k t ≡ None) j (k.sent_once t j (begin_in_order p j legal)) (send_keeps p t j legal) lane d h y

-- ---- a line's Launched answers its Launch

pub record IsLaunchedOn (j : List Entry) (l : ℕ) (s : Attempt) : Type 0 where
  pub lane : ℕ
  pub is : launch_of j l ≡ Some (lane, s)
  pub below : l < line_count j

launch_new : (e : Entry) (j : List Entry) (l : ℕ) (s : Attempt) → launch_in e.reply ≡ Some (l, s) → l ≡ line_count j → IsLaunchedOn (e ∷ j) l s
unfolding line_count launch_of
launch_new e j l s h n = record { lane = e.lane; is = rw (h, eq-eqb l l refl) refl; below = rw h (let c = n in omega arith) }

launch_kept_on : (p : Plan) (e : Entry) (j : List Entry) (l : ℕ) (s : Attempt) → Lawful p (e ∷ j) → IsLaunchedOn j l s → IsLaunchedOn (e ∷ j) l s
launch_kept_on p e j l s legal on =
    let next = (lines_named p (e ∷ j) legal).1.numbered in let g = count_grows e j in let b = on.below in
    record { lane = on.lane; is = launch_stays e j l next b ∙ on.is; below = omega arith }

pub next_line : (p : Plan) (e : Entry) (j : List Entry) (x : ℕ × Attempt) → Lawful p (e ∷ j) → launch_in e.reply ≡ Some x → x.0 ≡ line_count j
next_line p e j x legal h = subst (IsNext j) h (lines_named p (e ∷ j) legal).1.numbered

pub newest_launch : (p : Plan) (j : List Entry) (lane l : ℕ) (s : Attempt) (d : Entry) → Lawful p j → last_work j lane ≡ Some d → launch_in d.reply ≡ Some (l, s) → IsLaunchedOn j l s
unfolding last_work
newest_launch p [] lane l s d legal h k = absurd (cc)
newest_launch p (e ∷ j) lane l s d legal h k = by (o.newest_cases e j lane d h) (λ g. newest_launch p j lane l s d legal.0 g k)
  where
    by : ((e ≡ d) × (e.lane ≡ lane) × (is_work e.call ≡ true)) ⊎ ((((e.lane == lane) && is_work e.call) ≡ false) × (last_work j lane ≡ Some d))
        → (last_work j lane ≡ Some d → IsLaunchedOn j l s) → IsLaunchedOn (e ∷ j) l s
    by (inl here) f =
        let mine : launch_in e.reply ≡ Some (l, s) = subst (λ (x : Entry). launch_in x.reply ≡ Some (l, s)) (sym here.0) k in
        launch_new e j l s mine (next_line p e j (l, s) legal mine)
    by (inr before) f = launch_kept_on p e j l s legal (f before.1)

abbrev pub launches_it : ℕ → Attempt → Option (ℕ × Attempt) → Bool
launches_it l s (Some x) = (x.0 == l) && same_attempt x.1 s
launches_it l s None = false

abbrev pub is_launch_it : ℕ → Attempt → Entry → Bool
is_launch_it l s d = launches_it l s (launch_in d.reply)

pub launches_is : (l : ℕ) (s : Attempt) (q : Option (ℕ × Attempt)) → launches_it l s q ≡ true → q ≡ Some (l, s)
launches_is l s (Some x) h =
    let parts = and_parts (x.0 == l) _ h in
    let a = eqb-true x.0 l parts.0 in let b = same_attempt_eq x.1 s parts.1 in
    λ i. Some (a i, b i)
launches_is l s None h = absurd (cc)

pub launch_begins : (x : Reply) (y : ℕ × Attempt) → launch_in x ≡ Some y → begun_in x ≡ Some y.1
launch_begins (reply.Launch k a b t) y h = let e : (k, attempt_of a b t) ≡ y = cc in ap (λ (z : ℕ × Attempt). Some z.1) e
launch_begins _ y h = absurd (cc)

launch_sends_none : (x : Reply) (y : ℕ × Attempt) → launch_in x ≡ Some y → send_in x ≡ None
launch_sends_none (reply.Launch k a b t) y h = refl
launch_sends_none _ y h = absurd (cc)

pub ever_map : (p q : Entry → Bool) → ((e : Entry) → p e ≡ true → q e ≡ true) → (j : List Entry) → ever (λ _ e. p e) j ≡ true → ever (λ _ e. q e) j ≡ true
ever_map p q f [] h = absurd (cc)
ever_map p q f (e ∷ j) h = elim (or_cases (p e) _ h) [ inl here ↦ or_left (q e) _ (f e here) | inr before ↦ or_right (q e) _ (ever_map p q f j before) ]

launched_it_begun : (l : ℕ) (s : Attempt) (j : List Entry) → ever (λ _ e. is_launch_it l s e) j ≡ true → begun j s ≡ true
unfolding begun
launched_it_begun l s j h =
    ever_map (is_launch_it l s) (λ e. is_for s (begun_in e.reply)) (λ e y. rw (launch_begins e.reply (l, s) (launches_is l s (launch_in e.reply) y)) (same_attempt_refl s)) j h

pub false_by : (b : Bool) → (b ≡ true → ⊥) → b ≡ false
false_by true f = absurd (f refl)
false_by false f = refl

pub clash : (b : Bool) → b ≡ true → b ≡ false → ⊥
clash b h k = let both : true ≡ false = sym h ∙ k in cc

-- a Launch begins its attempt
pub launch_next : (p : Plan) (e : Entry) (j : List Entry) (x : ℕ × Attempt) → Lawful p (e ∷ j) → launch_in e.reply ≡ Some x → BeginsNext j x.1
launch_next p e j x legal h = subst (λ (q : Option (ℕ × Attempt)). Begins j q (send_in e.reply)) h (begin_in_order p (e ∷ j) legal).1

pub launched_once : (p : Plan) (l : ℕ) (s : Attempt) (j : List Entry) → Lawful p j → AtEach (Once (is_launch_it l s)) j
launched_once p l s [] legal = tt
launched_once p l s (e ∷ j) legal = (
  launched_once p l s j legal.0,
  λ h. false_by _ (λ old. clash (begun j s) (launched_it_begun l s j old) (launch_next p e j (l, s) legal (launches_is l s (launch_in e.reply) h)).unbegun),
)

-- until its Launched the line isn't started, and its attempt isn't sent
pub record IsUnstarted (j : List Entry) (l : ℕ) (s : Attempt) : Type 0 where
  pub on : IsLaunchedOn j l s
  pub unsent : was_sent j s ≡ false
  pub unstarted : started j l ≡ false
  pub unfailed : failed j l ≡ false

pub launch_asks : (p : Plan) (j : List Entry) (lane : ℕ) (c : Call) (x : Reply) (y : ℕ × Attempt) → u.Ruled p j lane c x → launch_in x ≡ Some y → c ≡ call.Ask
launch_asks p j lane c x y (u.Launches gr t vacant next none) h = refl
launch_asks p j lane c x y (u.KillsBroken l z here run broken over) h = absurd (cc)
launch_asks p j lane c x y _ h = absurd (cc)

pub sends_live : (p : Plan) (j : List Entry) (lane : ℕ) (c : Call) (x : Reply) (q : Request) → u.Ruled p j lane c x → send_in x ≡ Some q → live j q.line ≡ true
sends_live p j lane c x q (u.Sends l t here alive next none) h =
    let e : record { line = l; number = r.number_of j (line_kind p j l) l; attempt = attempt_of t.action t.branch t.number } ≡ q = cc in subst (λ (y : Request). live j y.line ≡ true) e alive
sends_live p j lane c x q (u.KillsBroken l y here run broken over) h = absurd (cc)
sends_live p j lane c x q _ h = absurd (cc)

pub live_started : (j : List Entry) (l : ℕ) → live j l ≡ true → started j l ≡ true
unfolding live
live_started j l h = (and_parts (started j l) _ h).0

sent_same : (e : Entry) (j : List Entry) (t : Attempt) → is_send t e ≡ false → was_sent (e ∷ j) t ≡ was_sent j t
unfolding was_sent
sent_same e j t h = rw h refl

pub started_same : (e : Entry) (j : List Entry) (l : ℕ) → starts l e.call ≡ false → started (e ∷ j) l ≡ started j l
unfolding started
started_same e j l h = rw h refl

pub starts_is : (l : ℕ) (c : Call) → starts l c ≡ true → (how : Started) × (c ≡ call.Launched l how)
starts_is l (call.Launched k how) h = let parts = and_parts (is_done how) _ h in (how, ap (λ m. call.Launched m how) (eqb-true k l parts.1))
starts_is l _ h = absurd (cc)

pub fails_is : (l : ℕ) (c : Call) → fails l c ≡ true → (how : Started) × (c ≡ call.Launched l how)
fails_is l (call.Launched k how) h = let parts = and_parts (not (is_done how)) _ h in (how, ap (λ m. call.Launched m how) (eqb-true k l parts.1))
fails_is l _ h = absurd (cc)

failed_same : (e : Entry) (j : List Entry) (l : ℕ) → fails l e.call ≡ false → failed (e ∷ j) l ≡ failed j l
unfolding failed
failed_same e j l h = rw h refl

pub launches_line_is : (l : ℕ) (x : Reply) → o.launches_line l x ≡ true → (s : Attempt) × (launch_in x ≡ Some (l, s))
launches_line_is l (reply.Launch m a b t) h = (attempt_of a b t, ap (λ n. Some (n, attempt_of a b t)) (eqb-true m l h))
launches_line_is l _ h = absurd (cc)

pub launch_owed_keeps : (p : Plan) (l : ℕ) (s : Attempt) (j : List Entry) → Lawful p j → AtEach (Keeps (is_launch_it l s) (λ i. IsUnstarted i l s)) j
launch_owed_keeps p l s [] legal = tt
launch_owed_keeps p l s (e ∷ j) legal = (launch_owed_keeps p l s j legal.0, record { begin = begins; stay = stays })
  where
    begins : is_launch_it l s e ≡ true → IsUnstarted (e ∷ j) l s
    begins h =
        let is = launches_is l s (launch_in e.reply) h in
        let next = launch_next p e j (l, s) legal is in
        let line = next_line p e j (l, s) legal is in
        let ask = launch_asks p j e.lane e.call e.reply (l, s) (v.entry_ruled p e j legal) is in
        let quiet : is_send s e ≡ false = rw (launch_sends_none e.reply (l, s) is) refl in
        let calm : starts l e.call ≡ false = rw ask refl in
        let sound : fails l e.call ≡ false = rw ask refl in
        let new = fresh p j l legal.0 (let n = line in omega arith) in
        record {
          on = launch_new e j l s is line;
          unsent = sent_same e j s quiet ∙ k.unbegun_unsent j s next.unbegun;
          unstarted = started_same e j l calm ∙ new.start;
          unfailed = failed_same e j l sound ∙ new.fail;
        }

    stays : IsUnstarted j l s → Leaves (is_launch_it l s) j e → IsUnstarted (e ∷ j) l s
    stays before leaves = record {
      on = launch_kept_on p e j l s legal before.on;
      unsent = sent_same e j s (false_by _ unsendable) ∙ before.unsent;
      unstarted = started_same e j l (false_by _ (λ h. unstartable (starts_is l e.call h))) ∙ before.unstarted;
      unfailed = failed_same e j l (false_by _ (λ h. unstartable (fails_is l e.call h))) ∙ before.unfailed;
    }
      where
        carried : line_of j s ≡ Some l
        carried = (k.are_carried j (begin_in_order p j legal.0)).launched l before.on.lane s before.on.is

        unsendable : is_send s e ≡ true → ⊥
        unsendable h =
            let begins = begin_in_order p (e ∷ j) legal in
            let it = k.send_of j e.reply s begins.1 h in
            let alive = sends_live p j e.lane e.call e.reply it.request (v.entry_ruled p e j legal) it.is in
            by it.request.line it.begins (live_started j it.request.line alive)
          where
            by : (m : ℕ) → BeginsNext j s ⊎ ContinuesOn j m s → started j m ≡ true → ⊥
            by m (inl next) up = clash (begun j s) (k.carried_begun j s l carried) next.unbegun
            by m (inr on) up =
                let at = (k.are_carried j (begin_in_order p j legal.0)).launched m on.launched.0 s on.launched.1 in
                let both : Some m ≡ Some l = sym at ∙ carried in
                let same : m ≡ l = cc in
                clash (started j l) (subst (λ n. started j n ≡ true) same up) before.unstarted

        unstartable : (how : Started) × (e.call ≡ call.Launched l how) → ⊥
        unstartable c =
            let script = subst (λ (x : Call). lw.in_script p j e.lane x ≡ true) c.1 legal.1.scripted in
            let answer = o.launched_answers p j e.lane l c.0 script in
            let launch = launches_line_is l answer.order.reply answer.fits in
            let on = newest_launch p j e.lane l launch.0 answer.order legal.0 answer.newest launch.1 in
            let both : Some (on.lane, launch.0) ≡ Some (before.on.lane, s) = sym on.is ∙ before.on.is in
            let pair : (on.lane, launch.0) ≡ (before.on.lane, s) = cc in
            let same : launch.0 ≡ s = ap (λ (x : ℕ × Attempt). x.1) pair in
            let fit : is_launch_it l s answer.order ≡ true = rw launch.1 (and_from _ _ (eq-eqb l l refl) (subst (λ (x : Attempt). same_attempt launch.0 x ≡ true) same (same_attempt_refl launch.0))) in
            leaves answer.order answer.newest fit (rw c.1 refl)

pub owed_unstarted : (p : Plan) (j : List Entry) (l : ℕ) (s : Attempt) → Lawful p j → (lane : ℕ) (d : Entry) → last_work j lane ≡ Some d → is_launch_it l s d ≡ true → IsUnstarted j l s
owed_unstarted p j l s legal lane d h y = o.while_owed (is_launch_it l s) (λ i. IsUnstarted i l s) j (launched_once p l s j legal) (launch_owed_keeps p l s j legal) lane d h y

-- ---- gathered and claimed

some_both : (A : Entry → Bool) (B : Type 0) (j : List Entry) → AtSome (λ _ e. (A e ≡ true) × B) j → (ever (λ _ e. A e) j ≡ true) × B
some_both A B (e ∷ j) (inl h) = (or_left (A e) _ h.0, h.1)
some_both A B (e ∷ j) (inr h) = let more = some_both A B j h in (or_right (A e) _ more.0, more.1)
some_both A B [] h = absurd h

abbrev is_answer : Attempt → Entry → Bool
is_answer t e = is_for t (consumed_in e.reply)

gather_answer : (t : Attempt) (i : List Entry) (c : Call) (y x : Reply) → ru.GatherFor i c y x → gather_in x ≡ Some t → (is_for t (consumed_in y) ≡ true) × (r.waits i t ≡ true)
gather_answer t i c y x (ru.For l m a b n waiting) h =
    let is : attempt_of a b n ≡ t = cc in
    subst (λ (z : Attempt). (same_attempt (attempt_of a b n) z ≡ true) × (r.waits i z ≡ true)) is (same_attempt_refl (attempt_of a b n), waiting)

pub record IsGatherable (j : List Entry) (t : Attempt) : Type 0 where
  pub consumed : answered j t ≡ true
  pub written : says_done (wrote j t) ≡ true
  pub ungathered : gathered j t ≡ false
  pub ungranted : granted j t.action ≡ false

gather_from : (j : List Entry) (w : ℕ) (x : Reply) (t : Attempt) → r.gathers_next j w ≡ Some x → gather_in x ≡ Some t → IsGatherable j t
unfolding answered
gather_from j w x t h g =
    let found = some_both (is_answer t) (r.waits j t ≡ true) j
    (some_map _ (λ _ e. (is_answer t e ≡ true) × (r.waits j t ≡ true)) (λ i e q. gather_answer t j e.call e.reply x q.1 g) j (ru.gathers_from j w x h)) in
    let parts = and_parts (says_done (wrote j t)) _ found.1 in
    let more = and_parts (not (gathered j t)) _ parts.1 in
    record { consumed = found.0; written = parts.0; ungathered = not_true _ more.0; ungranted = not_true _ more.1 }

pub gather_is : (p : Plan) (j : List Entry) (lane : ℕ) (c : Call) (x : Reply) (t : Attempt) → u.Ruled p j lane c x → gather_in x ≡ Some t → IsGatherable j t
gather_is p j lane c x t (u.Gathers l n a b m e y next over) h = gather_from j (lane / 2) (reply.Gather l n a b m e y) t next h
gather_is p j lane c x t (u.KillsBroken l y here run broken over) h = absurd (cc)
gather_is p j lane c x t _ h = absurd (cc)

-- the Gather of an attempt asks nothing else: its call is an Ask
gather_asks : (p : Plan) (j : List Entry) (lane : ℕ) (c : Call) (x : Reply) (t : Attempt) → u.Ruled p j lane c x → gather_in x ≡ Some t → c ≡ call.Ask
gather_asks p j lane c x t (u.Gathers l n a b m e y next over) h = refl
gather_asks p j lane c x t (u.KillsBroken l y here run broken over) h = absurd (cc)
gather_asks p j lane c x t _ h = absurd (cc)

is_for_is : (t : Attempt) (q : Option Attempt) → is_for t q ≡ true → q ≡ Some t
is_for_is t (Some x) h = ap Some (same_attempt_eq x t h)
is_for_is t None h = absurd (cc)

pub gathered_once : (p : Plan) (t : Attempt) (j : List Entry) → Lawful p j → AtEach (Once (is_gather t)) j
unfolding gathered
gathered_once p t [] legal = tt
gathered_once p t (e ∷ j) legal = (
  gathered_once p t j legal.0,
  λ h. (gather_is p j e.lane e.call e.reply t (v.entry_ruled p e j legal) (is_for_is t (gather_in e.reply) h)).ungathered,
)

pub answered_later : (e : Entry) (j : List Entry) (t : Attempt) → answered j t ≡ true → answered (e ∷ j) t ≡ true
unfolding answered
answered_later e j t h = or_right (is_answer t e) _ h

done_is : (q : Option Written) → says_done q ≡ true → q ≡ Some write.Done
done_is (Some write.Done) h = refl
done_is _ h = absurd (cc)

done_later : (e : Entry) (j : List Entry) (t : Attempt) → says_done (wrote j t) ≡ true → says_done (wrote (e ∷ j) t) ≡ true
done_later e j t h = rw (v.wrote_stays e j t write.Done (done_is (wrote j t) h)) refl

-- what was gathered is a match whose Wrote says Done
pub record WasGathered (j : List Entry) (t : Attempt) : Type 0 where
  pub consumed : answered j t ≡ true
  pub written : says_done (wrote j t) ≡ true

pub gathered_is : (p : Plan) (j : List Entry) (t : Attempt) → Lawful p j → gathered j t ≡ true → WasGathered j t
unfolding gathered
gathered_is p [] t legal h = absurd (cc)
gathered_is p (e ∷ j) t legal h = elim (or_cases (is_gather t e) (gathered j t) h) [
  | inl here ↦ (let g = gather_is p j e.lane e.call e.reply t (v.entry_ruled p e j legal) (is_for_is t (gather_in e.reply) here) in
      record { consumed = answered_later e j t g.consumed; written = done_later e j t g.written })
  | inr before ↦ (let g = gathered_is p j t legal.0 before in record { consumed = answered_later e j t g.consumed; written = done_later e j t g.written })
]

pub claims_is : (t : Attempt) (c : Call) → claims_it t c ≡ true → (f : Found) × (c ≡ call.Claim t.action t.branch t.number f)
claims_is t (call.Claim a b n f) h =
    let is = same_attempt_eq (attempt_of a b n) t h in
    (f, ap (λ (x : Attempt). call.Claim x.action x.branch x.number f) is)
claims_is t _ h = absurd (cc)

-- a Claim in the script answers a Gather
pub claim_owed : (p : Plan) (e : Entry) (j : List Entry) (t : Attempt) → Lawful p (e ∷ j) → claims_it t e.call ≡ true → o.Answers j e.lane (is_gather t)
claim_owed p e j t legal h =
    let c = claims_is t e.call h in
    o.claim_answers p j e.lane t.action t.branch t.number c.0 (subst (λ (x : Call). lw.in_script p j e.lane x ≡ true) c.1 legal.1.scripted)

gathered_later : (e : Entry) (j : List Entry) (t : Attempt) → gathered j t ≡ true → gathered (e ∷ j) t ≡ true
unfolding gathered
gathered_later e j t h = or_right (is_gather t e) _ h

pub gathered_newest : (j : List Entry) (t : Attempt) (lane : ℕ) (d : Entry) → last_work j lane ≡ Some d → is_gather t d ≡ true → gathered j t ≡ true
unfolding gathered
gathered_newest j t lane d h y = o.newest_ever (is_gather t) j lane d h y

pub claimed_gathered : (p : Plan) (j : List Entry) (t : Attempt) → Lawful p j → claimed j t ≡ true → gathered j t ≡ true
unfolding claimed
claimed_gathered p [] t legal h = absurd (cc)
claimed_gathered p (e ∷ j) t legal h = gathered_later e j t (elim (or_cases (claims_it t e.call) (claimed j t) h) [
  | inl here ↦ (let owed = claim_owed p e j t legal here in gathered_newest j t e.lane owed.order owed.newest owed.fits)
  | inr before ↦ claimed_gathered p j t legal.0 before
])

claimed_same : (e : Entry) (j : List Entry) (t : Attempt) → claims_it t e.call ≡ false → claimed (e ∷ j) t ≡ claimed j t
unfolding claimed
claimed_same e j t h = rw h refl

claim_works : (t : Attempt) (c : Call) → claims_it t c ≡ true → is_work c ≡ true
claim_works t (call.Claim a b n f) h = refl
claim_works t _ h = absurd (cc)

gather_keeps : (p : Plan) (t : Attempt) (j : List Entry) → Lawful p j → AtEach (Keeps (is_gather t) (λ i. claimed i t ≡ false)) j
gather_keeps p t [] legal = tt
gather_keeps p t (e ∷ j) legal = (
  gather_keeps p t j legal.0,
  record {
    begin = λ h. (let is = is_for_is t (gather_in e.reply) h in
        let ruled = v.entry_ruled p e j legal in
        let g = gather_is p j e.lane e.call e.reply t ruled is in
        let ask = gather_asks p j e.lane e.call e.reply t ruled is in
        let calm : claims_it t e.call ≡ false = rw ask refl in
        claimed_same e j t calm ∙ false_by _ (λ old. clash (gathered j t) (claimed_gathered p j t legal.0 old) g.ungathered));
    stay = λ none leaves. claimed_same e j t (false_by _ (λ now. let owed = claim_owed p e j t legal now in leaves owed.order owed.newest owed.fits (claim_works t e.call now))) ∙ none;
  },
)

-- an attempt whose Gather is its lane's newest work wasn't claimed yet
pub owed_unclaimed : (p : Plan) (j : List Entry) (t : Attempt) → Lawful p j → (lane : ℕ) (d : Entry) → last_work j lane ≡ Some d → is_gather t d ≡ true → claimed j t ≡ false
owed_unclaimed p j t legal lane d h y = o.while_owed (is_gather t) (λ i. claimed i t ≡ false) j (gathered_once p t j legal) (gather_keeps p t j legal) lane d h y

-- ---- what was answered was sent

answer_sent : (p : Plan) (e : Entry) (j : List Entry) (t : Attempt) → Lawful p (e ∷ j) → is_answer t e ≡ true → was_sent j t ≡ true
answer_sent p e j t legal h =
    let one = v.consumes p j e.lane e.call e.reply t (v.entry_ruled p e j legal) (is_for_is t (consumed_in e.reply) h) in
    let on = v.of_request p j one.line one.answer one.request (k.IsSentOn j one.line) one.asked (k.sends_on j one.line (begin_in_order p j legal.0)) in
    subst (λ (x : Attempt). was_sent j x ≡ true) one.of on.sent

pub answered_sent : (p : Plan) (j : List Entry) (t : Attempt) → Lawful p j → answered j t ≡ true → was_sent j t ≡ true
unfolding answered
answered_sent p [] t legal h = absurd (cc)
answered_sent p (e ∷ j) t legal h = k.sent_later e j t (elim (or_cases (is_answer t e) (answered j t) h) [
  | inl here ↦ answer_sent p e j t legal here
  | inr before ↦ answered_sent p j t legal.0 before
])

-- ---- the faults of an attempt

pub data FaultsAt (j : List Entry) (e : Entry) (t : Attempt) : Type 0 where
  AtLaunched : (d : Entry) (l : ℕ) → last_work j e.lane ≡ Some d → launch_in d.reply ≡ Some (l, t) → FaultsAt j e t
  AtWrote : (y : Written) → wrote_at t j e ≡ Some y → says_unwritten (Some y) ≡ true → FaultsAt j e t
  AtClaim : claims_it t e.call ≡ true → FaultsAt j e t

unwritten_is : (how : Written) (c : Cause) → unwritten_cause how ≡ Some c → says_unwritten (Some how) ≡ true
unwritten_is write.RoomFault c h = refl
unwritten_is write.TooLarge c h = refl
unwritten_is write.Done c h = absurd (cc)
unwritten_is write.FeedFault c h = absurd (cc)

pub fault_cases : (j : List Entry) (e : Entry) (t : Attempt) (c : Cause) → fault_at t j e ≡ Some c → FaultsAt j e t
fault_cases j e t c h = by e.call (last_work j e.lane) e.reply refl refl h
  where
    of_launch : (how : Started) (d : Entry) (q : Option (ℕ × Attempt)) → launch_in d.reply ≡ q → last_work j e.lane ≡ Some d
        → cond (is_for t (option_map (λ x. x.1) q)) (start_cause how) None ≡ Some c → FaultsAt j e t
    of_launch how d None is io g = absurd (cc)
    of_launch how d (Some x) is io g =
        by_bool (same_attempt x.1 t) (λ b. same_attempt x.1 t ≡ b → cond b (start_cause how) None ≡ Some c → FaultsAt j e t)
        (λ _ same m. let x_is = same_attempt_eq x.1 t same in AtLaunched d x.0 io (is ∙ ap (λ (y : Attempt). Some (x.0, y)) x_is))
        (λ _ _ m. absurd (cc)) refl g

    of_write : (l : ℕ) (n : ℤ) (how : Written) (d : Entry) (q : Option Request) → send_in d.reply ≡ q → e.call ≡ call.Wrote l n how → last_work j e.lane ≡ Some d
        → cond (is_for t (option_map (λ x. x.attempt) q)) (unwritten_cause how) None ≡ Some c → FaultsAt j e t
    of_write l n how d None is ic io g = absurd (cc)
    of_write l n how d (Some q) is ic io g =
        by_bool (same_attempt q.attempt t) (λ b. same_attempt q.attempt t ≡ b → cond b (unwritten_cause how) None ≡ Some c → FaultsAt j e t)
        (λ _ same m. let at : wrote_at t j e ≡ Some how = rw (ic, io, is, same) refl in AtWrote how at (unwritten_is how c m))
        (λ _ _ m. absurd (cc)) refl g

    of_claim : (a : ℕ) (b : Branch) (n : ℕ) (f : Found) (x : Reply) → e.call ≡ call.Claim a b n f → refused_cause t (refused_in (call.Claim a b n f) x) ≡ Some c → FaultsAt j e t
    of_claim a b n f reply.AgainLater ic g =
        by_bool (same_attempt (attempt_of a b n) t) (λ z. same_attempt (attempt_of a b n) t ≡ z → cond z (found_cause f) None ≡ Some c → FaultsAt j e t)
        (λ _ same m. AtClaim (rw ic same)) (λ _ _ m. absurd (cc)) refl g
    of_claim a b n f reply.Dropped ic g =
        by_bool (same_attempt (attempt_of a b n) t) (λ z. same_attempt (attempt_of a b n) t ≡ z → cond z (found_cause f) None ≡ Some c → FaultsAt j e t)
        (λ _ same m. AtClaim (rw ic same)) (λ _ _ m. absurd (cc)) refl g
    of_claim a b n f _ ic g = absurd (cc)

    by : (d : Call) (w : Option Entry) (x : Reply) → e.call ≡ d → last_work j e.lane ≡ w → fault_by t w d x ≡ Some c → FaultsAt j e t
    by (call.Launched l how) (Some d) x ic io g = of_launch how d (launch_in d.reply) refl io g
    by (call.Launched l how) None x ic io g = absurd (cc)
    by (call.Wrote l n how) (Some d) x ic io g = of_write l n how d (send_in d.reply) refl ic io g
    by (call.Wrote l n how) None x ic io g = absurd (cc)
    by (call.Claim a b n f) w x ic io g = of_claim a b n f x ic g
    by _ w x ic io g = absurd (cc)

pub fault_new : (e : Entry) (j : List Entry) (t : Attempt) (c : Cause) → fault_of (e ∷ j) t ≡ Some c → (fault_of j t ≡ Some c) ⊎ FaultsAt j e t
unfolding fault_of
fault_new e j t c h = by (fault_at t j e) (fault_of j t) refl refl h
  where
    by : (n q : Option Cause) → fault_at t j e ≡ n → fault_of j t ≡ q → unless_before n q ≡ Some c → (fault_of j t ≡ Some c) ⊎ FaultsAt j e t
    by None q is io g = inl (io ∙ g)
    by (Some d) (Some f) is io g = inl (io ∙ g)
    by (Some d) None is io g = inr (fault_cases j e t d is)

pub begun_later : (e : Entry) (j : List Entry) (t : Attempt) → begun j t ≡ true → begun (e ∷ j) t ≡ true
unfolding begun
begun_later e j t h = or_right (is_for t (begun_in e.reply)) _ h

begun_newest : (j : List Entry) (t : Attempt) (lane l : ℕ) (d : Entry) → last_work j lane ≡ Some d → launch_in d.reply ≡ Some (l, t) → begun j t ≡ true
begun_newest j t lane l d h y =
    let fit : is_launch_it l t d ≡ true = rw y (and_from _ _ (eq-eqb l l refl) (same_attempt_refl t)) in
    launched_it_begun l t j (o.newest_ever (is_launch_it l t) j lane d h fit)

pub sent_newest : (j : List Entry) (t : Attempt) (lane : ℕ) (d : Entry) → last_work j lane ≡ Some d → is_send t d ≡ true → was_sent j t ≡ true
unfolding was_sent
sent_newest j t lane d h y = o.newest_ever (is_send t) j lane d h y

pub claim_sent : (p : Plan) (e : Entry) (j : List Entry) (t : Attempt) → Lawful p (e ∷ j) → claims_it t e.call ≡ true → was_sent j t ≡ true
claim_sent p e j t legal h =
    let owed = claim_owed p e j t legal h in
    answered_sent p j t legal.0 (gathered_is p j t legal.0 (gathered_newest j t e.lane owed.order owed.newest owed.fits)).consumed

fault_at_begun : (p : Plan) (e : Entry) (j : List Entry) (t : Attempt) → Lawful p (e ∷ j) → FaultsAt j e t → begun j t ≡ true
fault_at_begun p e j t legal (AtLaunched d l h y) = begun_newest j t e.lane l d h y
fault_at_begun p e j t legal (AtWrote y at un) = let it = wrote_at_is j e t y at in k.sent_begun j t (sent_newest j t e.lane it.order it.newest it.fits)
fault_at_begun p e j t legal (AtClaim h) = k.sent_begun j t (claim_sent p e j t legal h)

pub fault_begun : (p : Plan) (j : List Entry) (t : Attempt) (c : Cause) → Lawful p j → fault_of j t ≡ Some c → begun j t ≡ true
unfolding fault_of
fault_begun p [] t c legal h = absurd (cc)
fault_begun p (e ∷ j) t c legal h = begun_later e j t (elim (fault_new e j t c h) [
  | inl old ↦ fault_begun p j t c legal.0 old
  | inr new ↦ fault_at_begun p e j t legal new
])

-- what has ended was begun
pub ended_begun : (p : Plan) (j : List Entry) (t : Attempt) → Lawful p j → ended j t ≡ true → begun j t ≡ true
ended_begun p j t legal h = by (v.ended_is p j t legal h)
  where
    by : v.Ends j t → begun j t ≡ true
    by (v.Faulted c is) = fault_begun p j t c legal is
    by (v.IsLost l at lost) = k.carried_begun j t l at

-- ---- a line starts or fails, once

launched_unstarted : (p : Plan) (e : Entry) (j : List Entry) (l : ℕ) → Lawful p (e ∷ j) → (how : Started) × (e.call ≡ call.Launched l how) → (started j l ≡ false) × (failed j l ≡ false)
launched_unstarted p e j l legal c =
    let script = subst (λ (x : Call). lw.in_script p j e.lane x ≡ true) c.1 legal.1.scripted in
    let answer = o.launched_answers p j e.lane l c.0 script in
    let launch = launches_line_is l answer.order.reply answer.fits in
    let fit : is_launch_it l launch.0 answer.order ≡ true = rw launch.1 (and_from _ _ (eq-eqb l l refl) (same_attempt_refl launch.0)) in
    let un = owed_unstarted p j l launch.0 legal.0 e.lane answer.order answer.newest fit in
    (un.unstarted, un.unfailed)

starts_not_fails : (l : ℕ) (c : Call) → starts l c ≡ true → fails l c ≡ false
starts_not_fails l (call.Launched k how) h = let parts = and_parts (is_done how) _ h in rw parts.0 refl
starts_not_fails l _ h = absurd (cc)

pub started_unfailed : (p : Plan) (j : List Entry) (l : ℕ) → Lawful p j → started j l ≡ true → failed j l ≡ false
unfolding started failed
started_unfailed p [] l legal h = refl
started_unfailed p (e ∷ j) l legal h = by (or_cases (starts l e.call) (started j l) h) (λ y. started_unfailed p j l legal.0 y)
  where
    by : (starts l e.call ≡ true) ⊎ (started j l ≡ true) → (started j l ≡ true → failed j l ≡ false) → (fails l e.call || failed j l) ≡ false
    by (inl here) ih = rw (starts_not_fails l e.call here, (launched_unstarted p e j l legal (starts_is l e.call here)).1) refl
    by (inr before) ih = rw (false_by _ (λ now. clash (started j l) before (launched_unstarted p e j l legal (fails_is l e.call now)).0), ih before) refl
