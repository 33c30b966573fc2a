-- What was ordered is done, or still owed: a grant of files by its Committed, a line that was given
-- by its Ended.
use Rattle.std.proofs.Common.{◌≡◌, ℕ, ◌/◌, ◌%◌, ◌==◌, Bool, true, false, ◌&&◌, ◌||◌, cond, List, [], ◌∷◌, Option, Some, None, is_some, option_map, ◌⊎◌, inl, inr, refl, sym, ap, subst, ◌∙◌}
use Rattle.std.proofs.lemmas.Bool.{eqb-true, eq-eqb, and_parts, and_from, or_cases, or_left, or_right}
use Rattle.run_plan.specs.declared.plan.Kind.TheVariants as kind
use Rattle.run_plan.specs.declared.plan.Branch.{Branch}
use Rattle.run_plan.specs.declared.plan.Kind.{Kind}
use Rattle.run_plan.specs.declared.plan.Plan.{Plan}
use Rattle.run_plan.specs.Groups.{kind_of}
use Rattle.exec_journal.specs.declared.attempt.Attempt.{Attempt}
use Rattle.exec_journal.specs.Entry.{Entry}
use Rattle.exec_journal.specs.declared.call.Answer.{Answer}
use Rattle.exec_journal.specs.declared.call.Call.{Call}
use Rattle.exec_journal.specs.declared.call.Call.TheVariants as call
use Rattle.exec_journal.specs.declared.call.Found.{Found}
use Rattle.exec_journal.specs.declared.call.Found.TheVariants as found
use Rattle.exec_journal.specs.declared.reply.Reply.{Reply}
use Rattle.exec_journal.specs.declared.reply.Reply.TheVariants as reply
use Rattle.list_lemmas.specs.Options.{unless_before}
use Rattle.exec_journal.specs.History.{ever}
use Rattle.exec_journal.specs.Entries.{attempt_of, same_branch, launch_in, granted_in, committed_in, takes, ends}
use Rattle.exec_journal.specs.Words.{last_work, has_ended, was_taken, was_killed, kill_ordered, was_sent, launch_of, started, failed, wrote, of_action, grant_of, commit_of}
use Rattle.exec_journal.specs.Rules.{gathered}
use Rattle.exec_journal.specs.Scripts as sc
use Rattle.exec_journal.specs.Lawful.{Lawful}
use Rattle.exec_journal.proofs.Ruled.{by_bool}
use Rattle.exec_journal.proofs.Begins.{same_branch_eq, same_branch_refl}
use Rattle.journal_laws.specs.Invariant.{claimed}
use Rattle.journal_laws.proofs.Owed as o
use Rattle.journal_laws.proofs.Owed.{is_work}
use Rattle.journal_laws.proofs.Carried as k
use Rattle.journal_laws.proofs.Over as v
use Rattle.journal_laws.proofs.Lanes as la
use Rattle.journal_laws.proofs.Taps as ta
use Rattle.journal_laws.proofs.Allowed as al
use Rattle.journal_laws.proofs.Debts.{wins_by}
use Rattle.journal_laws.specs.Steps.{is_line}
use Rattle.call_laws.specs.Moments.{IsOwed, IsRead, launches_line}
use Rattle.call_laws.proofs.Owing as ow

-- ---- a grant of files is met by its Committed

abbrev wins : ℕ → Branch → Entry → Bool
wins a b e = sc.is_commit_of a b e.call e.reply

win_works : (a : ℕ) (b : Branch) (c : Call) (x : Reply) → sc.is_commit_of a b c x ≡ true
    → is_work c ≡ true
win_works a b (call.Claim m n t f) x h = refl
win_works a b _ x h = absurd (cc)

win_asks_none : (a : ℕ) (b : Branch) (c : Call) (x : Reply) → sc.is_commit_of a b c x ≡ true
    → sc.may_ask_after c x ≡ true → ⊥
win_asks_none a b (call.Claim m n t (found.Files f)) reply.Granted h y = cc
win_asks_none a b _ _ h y = absurd (cc)

win_granted : (a : ℕ) (b : Branch) (c : Call) (x : Reply) → sc.is_commit_of a b c x ≡ true
    → x ≡ reply.Granted
win_granted a b (call.Claim m n t (found.Files f)) reply.Granted h = refl
win_granted a b _ _ h = absurd (cc)

-- the Committed that is owed is of the branch that was granted
same_win : (a i : ℕ) (b m : Branch) (c : Call) (x : Reply) → sc.is_commit_of a b c x ≡ true
    → sc.is_commit_of i m c x ≡ true → ((i == a) && same_branch m b) ≡ true
same_win a i b m (call.Claim y n t (found.Files f)) reply.Granted h g =
    let p = and_parts (y == a) _ h in
    let q = and_parts (y == i) _ g in
    let action : i ≡ a = sym (eqb-true y i q.0) ∙ eqb-true y a p.0 in
    and_from _ _ (eq-eqb i a action) (subst (λ (z : Branch). same_branch z b ≡ true)
    (same_branch_eq n m q.1) p.1)
same_win a i b m _ _ h g = absurd (cc)

module _ (p : Plan) (a : ℕ) (b : Branch) (e : Entry) (j : List Entry) (d : Entry)
    (legal : Lawful p (e ∷ j)) (at : last_work j e.lane ≡ Some d) (h : wins a b d ≡ true) where
  commits_here : (c : Call) → sc.is_owed_commit c (Some d) ≡ true
      → is_some (committed_in a b c) ≡ true
  commits_here (call.Committed i m how) y = rw (same_win a i b m d.call d.reply h y) refl
  commits_here _ y = absurd (cc)

  owed_none : (n : Kind) (c : Call) → is_work c ≡ true → sc.is_owed p n c d.reply ≡ true → ⊥
  owed_none n c w y = by c w (subst (λ (x : Reply). sc.is_owed p n c x ≡ true)
      (win_granted a b d.call d.reply h) y)
    where
      by : (z : Call) → is_work z ≡ true → sc.is_owed p n z reply.Granted ≡ true → ⊥
      by (call.Look l) w g = cc
      by call.Ask w g = cc
      by call.Take w g = cc
      by call.Halt w g = cc
      by call.Tick w g = cc
      by (call.Launched i how) w g = cc
      by (call.Wrote i m how) w g = cc
      by (call.Claim i m t f) w g = cc
      by (call.Committed i m how) w g = cc
      by (call.Killed i) w g = cc
      by (call.Answer i x) w g = cc
      by (call.Ended i how) w g = cc

  after : (c : Call) → is_work c ≡ true → sc.is_owed_after p kind.Single c (Some d)
      ≡ true → is_some (committed_in a b c) ≡ true
  after c w y = elim (or_cases (sc.is_owed p kind.Single c d.reply) _ y) [
    | inl order ↦ absurd (owed_none kind.Single c w order)
    | inr commit ↦ commits_here c commit
  ]

  allowed_next : (c : Call) → is_work c ≡ true → sc.allowed p kind.Single true
      (Some d) c ≡ true → is_some (committed_in a b c) ≡ true
  allowed_next call.Ask w y = absurd (win_asks_none a b d.call d.reply h y)
  allowed_next call.Take w y = absurd (cc)
  allowed_next call.Halt w y = absurd (cc)
  allowed_next call.Tick w y = after call.Tick w y
  allowed_next (call.Look l) w y = absurd (cc)
  allowed_next (call.Answer l x) w y = absurd (cc)
  allowed_next (call.Ended l how) w y = absurd (cc)
  allowed_next (call.Launched l how) w y = after (call.Launched l how) w y
  allowed_next (call.Wrote l n how) w y = after (call.Wrote l n how) w y
  allowed_next (call.Claim m n t f) w y = after (call.Claim m n t f) w y
  allowed_next (call.Committed m n how) w y = after (call.Committed m n how) w y
  allowed_next (call.Killed l) w y = after (call.Killed l) w y

  commit_next : is_work e.call ≡ true → is_some (committed_in a b e.call) ≡ true
  commit_next w =
      let even = (al.may_commit p j e.lane d legal.0 at (wins_by a b d.call d.reply h)).even in
      elim (o.scripts p j e.lane e.call legal.1.scripted) [
        | o.Ticks is proxy ask ↦ absurd (win_asks_none a b d.call d.reply h (subst
            (λ (x : Option Entry). sc.may_ask x ≡ true) at ask))
        | o.Owes owes ↦ commits_here e.call (subst (λ (x : Option Entry). sc.is_owed_commit e.call x
            ≡ true) at owes)
        | o.May may ↦ allowed_next e.call w (subst (λ z. sc.allowed p kind.Single z
            (Some d) e.call ≡ true) even (subst (λ (x : Option Entry). sc.allowed p
            kind.Single (e.lane % 2 == 0) x e.call ≡ true) at may))
      ]

abbrev is_committed : ℕ → Branch → List Entry → Bool
is_committed a b j = is_some (commit_of j a b)

committed_later : (a : ℕ) (b : Branch) (e : Entry) (j : List Entry) → is_committed a b j ≡ true
    → is_committed a b (e ∷ j) ≡ true
unfolding commit_of
committed_later a b e j h = k.some_later_cause (committed_in a b e.call) (commit_of j a b) h

committed_here : (a : ℕ) (b : Branch) (e : Entry) (j : List Entry)
    → is_some (committed_in a b e.call) ≡ true → is_committed a b (e ∷ j) ≡ true
unfolding commit_of
committed_here a b e j h = k.some_new_cause (committed_in a b e.call) (commit_of j a b) h

commit_meets : (p : Plan) (a : ℕ) (b : Branch) (e : Entry) (j : List Entry) → Lawful p (e ∷ j)
    → ow.Meets (wins a b) (is_committed a b) j e
commit_meets p a b e j legal = record {
  works = λ h. win_works a b e.call e.reply h;
  stays = λ h. committed_later a b e j h;
  answer = λ d at h w. committed_here a b e j (commit_next p a b e j d legal at h w);
}

won_by : (a : ℕ) (t : Attempt) (f : List (List ℕ)) (c : Call) (x : Reply)
    → of_action a (granted_in c x) ≡ Some (t, found.Files f) → sc.is_commit_of a t.branch c x ≡ true
won_by a t f (call.Claim m n i z) reply.Granted h = by (m == a) refl h
  where
    by : (q : Bool) → (m == a) ≡ q → cond {A = Option (Attempt × Found)} q
        (Some (attempt_of m n i, z)) None ≡ Some (t, found.Files f)
        → sc.is_commit_of a t.branch (call.Claim m n i z) reply.Granted ≡ true
    by true on g =
        let pair : ◌≡◌ {A = Attempt × Found} (attempt_of m n i, z) (t, found.Files f) = cc in
        let branch : n ≡ t.branch = ap (λ (y : Attempt × Found). y.0.branch) pair in
        let files : z ≡ found.Files f = ap (λ (y : Attempt × Found). y.1) pair in
        rw files (and_from _ _ on (subst (λ (y : Branch). same_branch n y ≡ true) branch
        (same_branch_refl n)))
    by false off g = absurd (cc)
won_by a t f _ _ h = absurd (cc)

won_ever : (j : List Entry) (a : ℕ) (t : Attempt) (f : List (List ℕ))
    → grant_of j a ≡ Some (t, found.Files f) → ever (λ _ e. wins a t.branch e) j ≡ true
unfolding grant_of
won_ever [] a t f h = absurd (cc)
won_ever (e ∷ j) a t f h = by (of_action a (granted_in e.call e.reply)) (grant_of j a) refl refl h
    (λ y. won_ever j a t f y)
  where
    by : (n w : Option (Attempt × Found)) → of_action a (granted_in e.call e.reply) ≡ n
        → grant_of j a ≡ w → unless_before n w ≡ Some (t, found.Files f)
        → (grant_of j a ≡ Some (t, found.Files f) → ever (λ _ d. wins a t.branch d) j ≡ true)
        → ever (λ _ d. wins a t.branch d) (e ∷ j) ≡ true
    by None w is was g ih = or_right (wins a t.branch e) _ (ih (was ∙ g))
    by (Some y) None is was g ih = or_left (wins a t.branch e) _
        (won_by a t f e.call e.reply (is ∙ g))
    by (Some y) (Some z) is was g ih = or_right (wins a t.branch e) _ (ih (was ∙ g))

-- ---- in the words of the law

owed_is : (q : Entry → Bool) (D : List Entry → Bool) (j : List Entry) → ow.IsMet q D j
    → (D j ≡ true) ⊎ IsOwed j q
owed_is q D j (ow.Done h) = inl h
owed_is q D j (ow.Owes lane d at h) = inr (record { lane = lane; order = d; newest = at; asks = h })

launches_is : (l : ℕ) (x : Reply) → o.launches_line l x ≡ true
    → is_line (option_map (λ (y : ℕ × Attempt). y.0) (launch_in x)) l ≡ true
launches_is l (reply.Launch m a b t) h = h
launches_is l _ h = absurd (cc)

pub launch_met : (p : Plan) (j : List Entry) (l m : ℕ) (t : Attempt) → Lawful p j
    → launch_of j l ≡ Some (m, t) → ((started j l || failed j l) ≡ true)
    ⊎ IsOwed j (launches_line l)
launch_met p j l m t legal h = by (ow.launch_met p j l m t legal h)
  where
    by : ow.IsMet (o.is_launch l) (ow.reported l) j → ((started j l || failed j l) ≡ true)
        ⊎ IsOwed j (launches_line l)
    by (ow.Done y) = inl y
    by (ow.Owes lane d at y) = inr (record {
      lane = lane;
      order = d;
      newest = at;
      asks = launches_is l d.reply y;
    })

pub send_met : (p : Plan) (j : List Entry) (t : Attempt) → Lawful p j → was_sent j t ≡ true
    → (is_some (wrote j t) ≡ true) ⊎ IsOwed j (o.is_send t)
send_met p j t legal h = owed_is _ _ j (ow.send_met p j t legal h)

pub gather_met : (p : Plan) (j : List Entry) (t : Attempt) → Lawful p j → gathered j t ≡ true
    → (claimed j t ≡ true) ⊎ IsOwed j (o.is_gather t)
gather_met p j t legal h = owed_is _ _ j (ow.gather_met p j t legal h)

pub kill_met : (p : Plan) (j : List Entry) (l : ℕ) → Lawful p j → kill_ordered j l ≡ true
    → (was_killed j l ≡ true) ⊎ IsOwed j (o.is_kill l)
kill_met p j l legal h = by (la.kill_is p j l legal h)
  where
    by : la.KillIs j l → (was_killed j l ≡ true) ⊎ IsOwed j (o.is_kill l)
    by (la.Made y) = inl y
    by (la.Owes lane d at y) = inr (record { lane = lane; order = d; newest = at; asks = y })

pub grant_met : (p : Plan) (j : List Entry) (a : ℕ) (t : Attempt) (f : List (List ℕ)) → Lawful p j
    → grant_of j a ≡ Some (t, found.Files f)
    → (is_some (commit_of j a t.branch) ≡ true) ⊎ IsOwed j
    (λ e. sc.is_commit_of a t.branch e.call e.reply)
grant_met p j a t f legal h =
    owed_is _ _ j (ow.met (wins a t.branch) (is_committed a t.branch) j
    (ow.each_legal p _ (λ e i y. commit_meets p a t.branch e i y) j legal) (won_ever j a t f h))

-- ---- a line that was given to its tap lane is read until it Ends

ended_later : (e : Entry) (j : List Entry) (l : ℕ) → has_ended j l ≡ true
    → has_ended (e ∷ j) l ≡ true
unfolding has_ended
ended_later e j l h = or_right (ends l e.call) _ h

ended_here : (e : Entry) (j : List Entry) (l : ℕ) → ends l e.call ≡ true
    → has_ended (e ∷ j) l ≡ true
unfolding has_ended
ended_here e j l h = or_left (ends l e.call) _ h

takes_line : (l : ℕ) (x : Reply) → takes l x ≡ true → x ≡ reply.Line l
takes_line l (reply.Line m) h = ap reply.Line (eqb-true m l h)
takes_line l _ h = absurd (cc)

line_heard : (l : ℕ) (c : Call) (x : Reply) → x ≡ reply.Line l → sc.hears_after l c x ≡ true
line_heard l c x h = rw h (eq-eqb l l refl)

same_heard : (l m : ℕ) (c : Call) (x : Reply) → sc.hears_after l c x ≡ true
    → sc.hears_after m c x ≡ true → m ≡ l
same_heard l m c (reply.Line i) h g = sym (eqb-true i m g) ∙ eqb-true i l h
same_heard l m (call.Answer i y) _ h g = sym (eqb-true i m g) ∙ eqb-true i l h
same_heard l m _ _ h g = absurd (cc)

no_take : (l : ℕ) (c : Call) (x : Reply) → sc.hears_after l c x ≡ true
    → sc.may_take_after c x ≡ true → ⊥
no_take l c (reply.Line i) h y = cc
no_take l (call.Answer i z) _ h y = cc
no_take l _ _ h y = absurd (cc)

no_commit : (l a : ℕ) (b : Branch) (c : Call) (x : Reply) → sc.hears_after l c x ≡ true
    → sc.is_commit_of a b c x ≡ true → ⊥
no_commit l a b (call.Claim m n t (found.Files f)) reply.Granted h y = cc
no_commit l a b _ _ h y = absurd (cc)

answer_heard : (l : ℕ) (z : Answer) (x : Reply) → ((i : ℕ) → x ≡ reply.Line i → ⊥)
    → sc.hears_after l (call.Answer l z) x ≡ true
answer_heard l z (reply.Line i) none = absurd (none i refl)
answer_heard l z _ none = eq-eqb l l refl

-- the lane that reads the line makes no other work than Answers and then its Ended
module _ (p : Plan) (e : Entry) (j : List Entry) (l : ℕ) (d : Entry) (legal : Lawful p (e ∷ j))
    (at : last_work j e.lane ≡ Some d) (h : sc.hears_after l d.call d.reply ≡ true) where
  owes_none : (c : Call) → sc.is_owed_commit c (Some d) ≡ true → ⊥
  owes_none (call.Committed i m how) y = no_commit l i m d.call d.reply h y
  owes_none _ y = absurd (cc)

  answers : (z : Answer) → e.call ≡ call.Answer l z → sc.hears_after l e.call e.reply ≡ true
  answers z is = subst (λ (c : Call). sc.hears_after l c e.reply ≡ true) (sym is)
      (answer_heard l z e.reply (λ i line.
      let take = (ta.take_line p j e.lane i e.call e.reply (v.entry_ruled p e j legal) line).0 in
      let both : call.Answer l z ≡ call.Take = sym is ∙ take in cc))

  next_by : (c : Call) → e.call ≡ c → is_work c ≡ true
      → sc.allowed p kind.Single false (Some d) c ≡ true
      → (ends l e.call ≡ true) ⊎ (sc.hears_after l e.call e.reply ≡ true)
  next_by call.Ask is w y = absurd (cc)
  next_by call.Take is w y = absurd (no_take l d.call d.reply h y)
  next_by call.Halt is w y = absurd (cc)
  next_by call.Tick is w y = absurd (cc)
  next_by (call.Look z) is w y = absurd (cc)
  next_by (call.Answer m z) is w y = (let same = same_heard l m d.call d.reply h y in
      inr (answers z (is ∙ ap (λ i. call.Answer i z) same)))
  next_by (call.Ended m how) is w y = (let same = same_heard l m d.call d.reply h y in
      inl (rw is (eq-eqb m l same)))
  next_by (call.Launched m how) is w y = absurd (cc)
  next_by (call.Wrote m n how) is w y = absurd (cc)
  next_by (call.Claim m n t f) is w y = absurd (cc)
  next_by (call.Committed m n how) is w y = absurd (cc)
  next_by (call.Killed m) is w y = absurd (cc)

  reads_next : is_work e.call ≡ true → (ends l e.call ≡ true)
      ⊎ (sc.hears_after l e.call e.reply ≡ true)
  reads_next w =
      let odd = ta.hearing_odd p j e.lane l d legal.0 at h in
      elim (o.scripts p j e.lane e.call legal.1.scripted) [
        | o.Ticks is proxy ask ↦ absurd (let both : true ≡ false = sym proxy ∙ odd in cc)
        | o.Owes owes ↦ absurd (owes_none e.call (subst (λ (x : Option Entry).
            sc.is_owed_commit e.call x ≡ true) at owes))
        | o.May may ↦ next_by e.call refl w (subst (λ z. sc.allowed p kind.Single z
            (Some d) e.call ≡ true) odd (subst (λ (x : Option Entry). sc.allowed p
            kind.Single (e.lane % 2 == 0) x e.call ≡ true) at may))
      ]

pub read_met : (p : Plan) (j : List Entry) (l : ℕ) → Lawful p j → was_taken j l ≡ true
    → (has_ended j l ≡ true) ⊎ IsRead j l
unfolding was_taken
read_met p [] l legal h = absurd (cc)
read_met p (e ∷ j) l legal h = by (or_cases (takes l e.reply) _ h) (λ y. read_met p j l legal.0 y)
  where
    here : is_work e.call ≡ true → sc.hears_after l e.call e.reply ≡ true → IsRead (e ∷ j) l
    here w y = record { lane = e.lane; work = e; newest = o.newest_own e j w; hears = y }

    more : (has_ended j l ≡ true) ⊎ IsRead j l → (has_ended (e ∷ j) l ≡ true) ⊎ IsRead (e ∷ j) l
    more (inl over) = inl (ended_later e j l over)
    more (inr is) =
        by_bool ((e.lane == is.lane) && is_work e.call) (λ b.
        ((e.lane == is.lane) && is_work e.call) ≡ b → (has_ended (e ∷ j) l ≡ true)
        ⊎ IsRead (e ∷ j) l)
        (λ _ own.
        let parts = and_parts (e.lane == is.lane) _ own in
        let at : last_work j e.lane ≡ Some is.work = subst
        (λ n. last_work j n ≡ Some is.work) (sym (eqb-true e.lane is.lane parts.0)) is.newest in
        elim (reads_next p e j l is.work legal at is.hears parts.1) [
          | inl over ↦ inl (ended_here e j l over)
          | inr reads ↦ inr (here parts.1 reads)
        ])
        (λ _ off. inr (record {
          lane = is.lane;
          work = is.work;
          newest = o.newest_other e j is.lane off ∙ is.newest;
          hears = is.hears;
        })) refl

    by : (takes l e.reply ≡ true) ⊎ (was_taken j l ≡ true)
        → (was_taken j l ≡ true → (has_ended j l ≡ true) ⊎ IsRead j l)
        → (has_ended (e ∷ j) l ≡ true) ⊎ IsRead (e ∷ j) l
    by (inl now) ih =
        let line = takes_line l e.reply now in
        let take = (ta.take_line p j e.lane l e.call e.reply (v.entry_ruled p e j legal) line).0 in
        inr (here (rw take refl) (line_heard l e.call e.reply line))
    by (inr before) ih = more (ih before)
