-- Which match is to be gathered next: of those since the berth's last Send the oldest that waits.
use Rattle.std.proofs.Common.{◌≡◌, ℕ, ◌/◌, ◌==◌, Bool, true, false, not, cond, List, [], ◌∷◌, Option, Some, None, is_some, option_map, refl, sym, ap, subst, ◌∙◌}
use Rattle.std.specs.List.{filter}
use Rattle.std.proofs.lemmas.Bool.{eqb-true, and_parts}
use Rattle.run_plan.specs.declared.plan.Plan.{Plan}
use Rattle.exec_journal.specs.Lawful as lw
use Rattle.exec_journal.specs.Entry.{Entry}
use Rattle.exec_journal.specs.declared.call.Call.{Call}
use Rattle.exec_journal.specs.declared.call.Call.TheVariants as call
use Rattle.exec_journal.specs.declared.reply.Reply.{Reply}
use Rattle.exec_journal.specs.declared.reply.Reply.TheVariants as reply
use Rattle.list_lemmas.specs.Options.{or_else, unless_before, and_more}
use Rattle.exec_journal.specs.History.{first, each}
use Rattle.exec_journal.specs.Entries.{Request, send_in, matched_in}
use Rattle.exec_journal.specs.Rules as r
use Rattle.exec_journal.specs.Rules.{oldest, gathers_next}
use Rattle.exec_journal.specs.Scripts as sc
use Rattle.exec_journal.specs.Lawful.{Lawful}
use Rattle.exec_journal.proofs.Histories.{AllOf}
use Rattle.exec_journal.proofs.Ruled.{by_bool}
use Rattle.journal_laws.proofs.Carried as k
use Rattle.journal_laws.proofs.Over as v
use Rattle.journal_laws.proofs.Claims as c
use Rattle.journal_laws.proofs.Requests as q
use Rattle.call_laws.proofs.Spent as sp
use Rattle.call_laws.proofs.Spent.{IsMatchOf}
use Rattle.call_laws.specs.Matches.{Matched, matched_at, matched_by, sends_at, recent, is_spent}
use Rattle.call_laws.specs.Matches.{gather_of, waits_yet}

-- all matches of the berth, the newest first
abbrev pub all_matches : List Entry → ℕ → List Matched
all_matches j w = each (λ _ e. matched_at w e) j

-- those from before its last Send
abbrev pub earlier : List Entry → ℕ → List Matched
earlier [] w = []
earlier (e ∷ j) w = cond (sends_at w e) (all_matches j w) (earlier j w)

-- ---- each is an answer that was matched

matched_is : (w : ℕ) (e : Entry) (m : Matched) → matched_at w e ≡ Some m
    → (e.lane / 2 ≡ w) × (matched_in e.reply ≡ Some m.attempt)
matched_is w e m h =
    by_bool (e.lane / 2 == w) (λ b. (e.lane / 2 == w) ≡ b
    → cond b (matched_by e.call e.reply) None ≡ Some m
    → (e.lane / 2 ≡ w) × (matched_in e.reply ≡ Some m.attempt))
    (λ _ same g. (eqb-true (e.lane / 2) w same, of_entry e.call e.reply g))
    (λ _ _ g. absurd (cc)) refl h
  where
    of_entry : (d : Call) (x : Reply) → matched_by d x ≡ Some m → matched_in x ≡ Some m.attempt
    of_entry (call.Answer l a) (reply.Matched n b t) g =
        ap (λ (z : Option Matched). option_map (λ y. y.attempt) z) g
    of_entry _ _ g = absurd (cc)

are_matches : (p : Plan) (j : List Entry) (w : ℕ) → Lawful p j
    → AllOf (λ m. IsMatchOf j w m.attempt) (all_matches j w)
are_matches p [] w legal = tt
are_matches p (e ∷ j) w legal =
    k.all_more (λ m. IsMatchOf (e ∷ j) w m.attempt) (matched_at w e) (all_matches j w)
    (λ m h. let is = matched_is w e m h in subst (λ n. IsMatchOf (e ∷ j) n m.attempt) is.0
    (sp.match_now p e j m.attempt legal is.1))
    (k.all_map (λ m. IsMatchOf j w m.attempt) (λ m. IsMatchOf (e ∷ j) w m.attempt)
    (λ m h. sp.match_later p e j w m.attempt legal h) (all_matches j w)
    (are_matches p j w legal.0))

-- where a lane may Ask, a match waits for its Gather exactly where it isn't spent
waiting_is : (p : Plan) (j : List Entry) (lane : ℕ) → Lawful p j → lw.in_script p j lane call.Ask ≡ true
    → AllOf (λ m. r.waits j m.attempt ≡ waits_yet j m) (all_matches j (lane / 2))
waiting_is p j lane legal asks =
    k.all_map (λ m. IsMatchOf j (lane / 2) m.attempt) (λ m. r.waits j m.attempt ≡ waits_yet j m)
    (λ m h. sp.waits_is j m.attempt (sp.asking_written p j lane m.attempt legal asks h))
    (all_matches j (lane / 2)) (are_matches p j (lane / 2) legal)

-- ---- the next is the oldest of all that wait

abbrev gather_if : List Entry → Option Matched → Option Reply
gather_if i (Some m) = r.when (r.waits i m.attempt) (gather_of m)
gather_if i None = None

gather_is : (i : List Entry) (d : Call) (x : Reply)
    → r.gather_for i d x ≡ gather_if i (matched_by d x)
gather_is i (call.Answer l a) (reply.Matched n b t) = refl
gather_is i _ _ = refl

gather_at : (i : List Entry) (w : ℕ) (e : Entry) → cond (e.lane / 2 == w)
    (r.gather_for i e.call e.reply) None ≡ gather_if i (matched_at w e)
gather_at i w e = by_bool (e.lane / 2 == w) (λ b. cond b (r.gather_for i e.call e.reply) None
    ≡ gather_if i (cond b (matched_by e.call e.reply) None)) (λ _. gather_is i e.call e.reply)
    (λ _. refl)

before_some : (o : Option Matched) (m : Matched) → unless_before (Some (gather_of m))
    (option_map gather_of o) ≡ option_map gather_of (or_else o (Some m))
before_some None m = refl
before_some (Some x) m = refl

next_is : (i j : List Entry) (w : ℕ) → AllOf (λ m. r.waits i m.attempt ≡ waits_yet i m)
    (all_matches j w)
    → first (λ _ e. cond (e.lane / 2 == w) (r.gather_for i e.call e.reply) None) j
    ≡ option_map gather_of (oldest (filter (waits_yet i) (all_matches j w)))
next_is i [] w all = refl
next_is i (e ∷ j) w all = ap (λ o. unless_before o
    (first (λ _ d. cond (d.lane / 2 == w) (r.gather_for i d.call d.reply) None) j))
    (gather_at i w e) ∙ by (matched_at w e) all (λ h. next_is i j w h)
  where
    by : (o : Option Matched) → AllOf (λ m. r.waits i m.attempt ≡ waits_yet i m)
        (and_more o (all_matches j w))
        → (AllOf (λ m. r.waits i m.attempt ≡ waits_yet i m) (all_matches j w)
        → first (λ _ d. cond (d.lane / 2 == w) (r.gather_for i d.call d.reply) None) j
        ≡ option_map gather_of (oldest (filter (waits_yet i) (all_matches j w))))
        → unless_before (gather_if i o) (first (λ _ d. cond (d.lane / 2 == w)
        (r.gather_for i d.call d.reply) None) j) ≡ option_map gather_of
        (oldest (filter (waits_yet i) (and_more o (all_matches j w))))
    by None every ih = ih every
    by (Some m) every ih =
        ap (λ b. unless_before (r.when b (gather_of m)) (first
        (λ _ d. cond (d.lane / 2 == w) (r.gather_for i d.call d.reply) None) j)) every.0
        ∙ by_bool (waits_yet i m) (λ b. unless_before (r.when b (gather_of m))
        (first (λ _ d. cond (d.lane / 2 == w) (r.gather_for i d.call d.reply) None) j)
        ≡ option_map gather_of (oldest (cond b (m ∷ filter (waits_yet i) (all_matches j w))
        (filter (waits_yet i) (all_matches j w)))))
        (λ _. ap (unless_before (Some (gather_of m))) (ih every.1)
        ∙ before_some (oldest (filter (waits_yet i) (all_matches j w))) m)
        (λ _. ih every.1)

-- ---- of those from before the last Send none waits

none_waits : (test : Matched → Bool) (ms : List Matched) → oldest (filter test ms) ≡ None
    → AllOf (λ m. test m ≡ false) ms
none_waits test [] h = tt
none_waits test (m ∷ ms) h =
    by_bool (test m) (λ b. test m ≡ b → oldest (cond b (m ∷ filter test ms) (filter test ms)) ≡ None
    → AllOf (λ x. test x ≡ false) (m ∷ ms))
    (λ _ on g. absurd (some (oldest (filter test ms)) m g))
    (λ _ off g. (off, none_waits test ms g)) refl h
  where
    some : (o : Option Matched) (x : Matched) → or_else o (Some x) ≡ None → ⊥
    some (Some y) x g = cc
    some None x g = cc

none_left : (o : Option Matched) → option_map gather_of o ≡ None → o ≡ None
none_left None h = refl
none_left (Some m) h = absurd (cc)

spent_by : (b : Bool) → not b ≡ false → b ≡ true
spent_by true h = refl
spent_by false h = absurd (cc)

send_at : (w : ℕ) (e : Entry) → sends_at w e ≡ true
    → (e.lane / 2 ≡ w) × (x : Request) × (send_in e.reply ≡ Some x)
send_at w e h =
    let parts = and_parts (e.lane / 2 == w) _ h in
    let x = v.some_is (send_in e.reply) parts.1 in
    (eqb-true (e.lane / 2) w parts.0, x.0, x.1)

pub earlier_spent : (p : Plan) (j : List Entry) (w : ℕ) → Lawful p j
    → AllOf (λ m. is_spent j m.attempt ≡ true) (earlier j w)
earlier_spent p [] w legal = tt
earlier_spent p (e ∷ j) w legal =
    by_bool (sends_at w e) (λ b. sends_at w e ≡ b → AllOf
    (λ m. is_spent j m.attempt ≡ true) (earlier j w) → AllOf
    (λ m. is_spent (e ∷ j) m.attempt ≡ true) (cond b (all_matches j w) (earlier j w)))
    (λ _ on _. later (all_matches j w) (subst (λ n. AllOf
    (λ m. is_spent j m.attempt ≡ true) (all_matches j n)) (send_at w e on).0
    (at_send (send_at w e on).1 (send_at w e on).2)))
    (λ _ _ ih. later (earlier j w) ih) refl (earlier_spent p j w legal.0)
  where
    later : (ms : List Matched) → AllOf (λ m. is_spent j m.attempt ≡ true) ms
        → AllOf (λ m. is_spent (e ∷ j) m.attempt ≡ true) ms
    later ms all = k.all_map (λ m. is_spent j m.attempt ≡ true)
        (λ m. is_spent (e ∷ j) m.attempt ≡ true) (λ m h. sp.spent_stays e j m.attempt h) ms all

    at_send : (x : Request) → send_in e.reply ≡ Some x
        → AllOf (λ m. is_spent j m.attempt ≡ true) (all_matches j (e.lane / 2))
    at_send x is =
        let ruled = v.entry_ruled p e j legal in
        let to = q.sends_to p j e.lane x.line e.call e.reply x ruled is refl in
        let ask = c.asks p j e.lane e.call e.reply x ruled is in
        let asks : lw.in_script p j e.lane call.Ask ≡ true = subst
        (λ (d : Call). lw.in_script p j e.lane d ≡ true) ask legal.1.scripted in
        let none = sym (next_is j j (e.lane / 2) (waiting_is p j e.lane legal.0 asks))
        ∙ to.none.no_gather in
        k.all_map (λ m. waits_yet j m ≡ false) (λ m. is_spent j m.attempt ≡ true)
        (λ m h. spent_by (is_spent j m.attempt) h) (all_matches j (e.lane / 2))
        (none_waits (waits_yet j) (all_matches j (e.lane / 2)) (none_left _ none))

-- ---- so the recent ones are enough

none_pass : (i : List Entry) (ms : List Matched) → AllOf (λ m. is_spent i m.attempt ≡ true) ms
    → filter (waits_yet i) ms ≡ []
none_pass i [] all = refl
none_pass i (m ∷ ms) all = rw all.0 (none_pass i ms all.1)

no_match : (w : ℕ) (e : Entry) → sends_at w e ≡ true → matched_at w e ≡ None
no_match w e h = by_bool (e.lane / 2 == w) (λ b. cond b (matched_by e.call e.reply) None ≡ None)
    (λ _. of_reply e.call e.reply (and_parts (e.lane / 2 == w) _ h).1) (λ _. refl)
  where
    of_reply : (d : Call) (x : Reply) → is_some (send_in x) ≡ true → matched_by d x ≡ None
    of_reply d (reply.Send l n a b t) g = no_send d
      where
        no_send : (z : Call) → matched_by z (reply.Send l n a b t) ≡ None
        no_send (call.Answer i y) = refl
        no_send _ = refl
    of_reply d _ g = absurd (cc)

enough : (i j : List Entry) (w : ℕ) → AllOf (λ m. is_spent i m.attempt ≡ true) (earlier j w)
    → oldest (filter (waits_yet i) (all_matches j w)) ≡ oldest (filter (waits_yet i) (recent j w))
unfolding recent
enough i [] w all = refl
enough i (e ∷ j) w all =
    by_bool (sends_at w e)
    (λ b. sends_at w e ≡ b → AllOf (λ m. is_spent i m.attempt ≡ true)
    (cond b (all_matches j w) (earlier j w))
    → oldest (filter (waits_yet i) (and_more (matched_at w e) (all_matches j w))) ≡ oldest
    (filter (waits_yet i) (cond b [] (and_more (matched_at w e) (recent j w)))))
    (λ _ on every. rw (no_match w e on, none_pass i (all_matches j w) every) refl)
    (λ _ _ every. by (matched_at w e) (enough i j w every)) refl all
  where
    by : (o : Option Matched) → oldest (filter (waits_yet i) (all_matches j w)) ≡ oldest
        (filter (waits_yet i) (recent j w))
        → oldest (filter (waits_yet i) (and_more o (all_matches j w))) ≡ oldest
        (filter (waits_yet i) (and_more o (recent j w)))
    by None ih = ih
    by (Some m) ih =
        by_bool (waits_yet i m) (λ b. oldest (cond b (m ∷ filter (waits_yet i) (all_matches j w))
        (filter (waits_yet i) (all_matches j w))) ≡ oldest
        (cond b (m ∷ filter (waits_yet i) (recent j w)) (filter (waits_yet i) (recent j w))))
        (λ _. ap (λ o. or_else o (Some m)) ih) (λ _. ih)

pub gathers : (p : Plan) (j : List Entry) (lane : ℕ) → Lawful p j
    → lw.in_script p j lane call.Ask ≡ true → gathers_next j (lane / 2) ≡ option_map gather_of
    (oldest (filter (waits_yet j) (recent j (lane / 2))))
gathers p j lane legal asks =
    next_is j j (lane / 2) (waiting_is p j lane legal asks)
    ∙ ap (option_map gather_of) (enough j j (lane / 2) (earlier_spent p j (lane / 2) legal))
