-- An action is granted once, and its files are committed once, by the lane that was granted them.
use Rattle.std.proofs.Common.{◌≡◌, ℕ, ◌==◌, Bool, true, false, ◌&&◌, ◌||◌, not, List, [], ◌∷◌, Some, inl, inr, refl, ap, subst, ◌∙◌}
use Rattle.std.specs.List.{list_all}
use Rattle.std.proofs.lemmas.Bool.{eqb-true, eq-eqb, and_parts, and_from, or_cases, or_left, or_right, not_from_false}
use Rattle.run_plan.specs.declared.plan.Branch.{Branch}
use Rattle.run_plan.specs.declared.plan.Plan.{Plan}
use Rattle.exec_journal.specs.declared.attempt.Attempt.{Attempt}
use Rattle.exec_journal.specs.Entry.{Entry}
use Rattle.exec_journal.specs.declared.call.Call.{Call}
use Rattle.exec_journal.specs.declared.call.Call.TheVariants as call
use Rattle.exec_journal.specs.declared.call.CommitEnd.{CommitEnd}
use Rattle.exec_journal.specs.declared.call.Found.{Found}
use Rattle.exec_journal.specs.declared.call.Found.TheVariants as found
use Rattle.exec_journal.specs.declared.reply.Reply.{Reply}
use Rattle.exec_journal.specs.declared.reply.Reply.TheVariants as reply
use Rattle.exec_journal.specs.History.{each, ever, AtEach}
use Rattle.exec_journal.specs.Entries.{Request, attempt_of, send_in, granted_in}
use Rattle.exec_journal.specs.Words.{last_work, was_sent, answered, has_ended, granted, grant_of, of_action, sent_on}
use Rattle.exec_journal.specs.Attempts.{line_of, ended}
use Rattle.exec_journal.specs.Lawful as lw
use Rattle.exec_journal.specs.Scripts as sc
use Rattle.exec_journal.specs.Scripts.{is_commit_of}
use Rattle.exec_journal.specs.Race.{has_grant_of, commits, committed, race_at, Race}
use Rattle.exec_journal.specs.Accounted.{is_request_accounted}
use Rattle.exec_journal.specs.Lawful.{Lawful}
use Rattle.exec_journal.specs.Facts.{BeginInOrder}
use Rattle.exec_journal.proofs.Histories.{AllOf}
use Rattle.exec_journal.proofs.Ruled.{by_bool}
use Rattle.exec_journal.proofs.Begins.{begin_in_order}
use Rattle.journal_laws.proofs.Owed as o
use Rattle.journal_laws.proofs.Owed.{Once, Keeps, Leaves, is_work, is_commit_grant}
use Rattle.journal_laws.proofs.Carried as k
use Rattle.journal_laws.proofs.Over as v
use Rattle.journal_laws.proofs.Claims.{clash, false_by}
use Rattle.journal_laws.proofs.Granted as g

-- ---- a grant of files is followed by its Committed, once

-- the entry grants files of the action
abbrev pub grants_files_by : ℕ → Call → Reply → Bool
grants_files_by a (call.Claim c d t (found.Files f)) reply.Granted = c == a
grants_files_by a _ _ = false

abbrev pub grants_files : ℕ → Entry → Bool
grants_files a d = grants_files_by a d.call d.reply

pub commit_of_action : (a : ℕ) (b : Branch) (c : Call) (x : Reply) → is_commit_of a b c x ≡ true → grants_files_by a c x ≡ true
commit_of_action a b (call.Claim c d t (found.Files f)) reply.Granted h = (and_parts (c == a) _ h).0
commit_of_action a b _ _ h = absurd (cc)

grants_action : (a : ℕ) (c : Call) (x : Reply) → grants_files_by a c x ≡ true → (y : Attempt × Found) × (granted_in c x ≡ Some y) × (y.0.action ≡ a)
grants_action a (call.Claim c d t (found.Files f)) reply.Granted h = ((attempt_of c d t, found.Files f), refl, eqb-true c a h)
grants_action a _ _ h = absurd (cc)

granted_later : (e : Entry) (j : List Entry) (a : ℕ) → granted j a ≡ true → granted (e ∷ j) a ≡ true
granted_later e j a h = let x = g.granted_is j a h in g.is_granted (e ∷ j) a x.0 (g.grant_same e j a x.0 x.1)

granted_here : (e : Entry) (j : List Entry) (a : ℕ) (y : Attempt × Found) → granted_in e.call e.reply ≡ Some y → y.0.action ≡ a → granted (e ∷ j) a ≡ true
unfolding granted grant_of
granted_here e j a y h same = k.some_new_cause (of_action a (granted_in e.call e.reply)) (grant_of j a) (rw (h, eq-eqb y.0.action a same) refl)

files_granted : (a : ℕ) (j : List Entry) → ever (λ _ e. grants_files a e) j ≡ true → granted j a ≡ true
files_granted a [] h = absurd (cc)
files_granted a (e ∷ j) h = elim (or_cases (grants_files a e) _ h) [
  | inl here ↦ (let y = grants_action a e.call e.reply here in granted_here e j a y.0 y.1 y.2)
  | inr before ↦ granted_later e j a (files_granted a j before)
]

files_once : (p : Plan) (a : ℕ) (j : List Entry) → Lawful p j → AtEach (Once (grants_files a)) j
files_once p a [] legal = tt
files_once p a (e ∷ j) legal = (
  files_once p a j legal.0,
  λ h. (let y = grants_action a e.call e.reply h in
      let none : granted j a ≡ false = subst (λ n. granted j n ≡ false) y.2 (g.grant_is_first p e j y.0 legal y.1) in
      false_by _ (λ old. clash (granted j a) (files_granted a j old) none)),
)

commits_is : (a : ℕ) (c : Call) → commits a c ≡ true → (b : Branch) × (how : CommitEnd) × (c ≡ call.Committed a b how)
commits_is a (call.Committed d b how) h = (b, how, ap (λ n. call.Committed n b how) (eqb-true d a h))
commits_is a _ h = absurd (cc)

-- a Committed of the action answers a grant of its files
commit_owed : (p : Plan) (e : Entry) (j : List Entry) (a : ℕ) → Lawful p (e ∷ j) → commits a e.call ≡ true → o.Answers j e.lane (grants_files a)
commit_owed p e j a legal h =
    let c = commits_is a e.call h in
    let answer = o.commit_answers p j e.lane a c.0 c.1 (subst (λ (x : Call). lw.in_script p j e.lane x ≡ true) c.2 legal.1.scripted) in
    record { order = answer.order; newest = answer.newest; fits = commit_of_action a c.0 answer.order.call answer.order.reply answer.fits }

pub committed_granted : (p : Plan) (j : List Entry) (a : ℕ) → Lawful p j → committed j a ≡ true → granted j a ≡ true
unfolding committed
committed_granted p [] a legal h = absurd (cc)
committed_granted p (e ∷ j) a legal h = granted_later e j a (elim (or_cases (commits a e.call) (committed j a) h) [
  | inl here ↦ (let owed = commit_owed p e j a legal here in files_granted a j (o.newest_ever (grants_files a) j e.lane owed.order owed.newest owed.fits))
  | inr before ↦ committed_granted p j a legal.0 before
])

committed_same : (e : Entry) (j : List Entry) (a : ℕ) → commits a e.call ≡ false → committed (e ∷ j) a ≡ committed j a
unfolding committed
committed_same e j a h = rw h refl

grant_commits_none : (a : ℕ) (c : Call) (x : Reply) → grants_files_by a c x ≡ true → commits a c ≡ false
grant_commits_none a (call.Claim c d t f) x h = refl
grant_commits_none a (call.Committed c d how) x h = absurd (cc)
grant_commits_none a _ x h = refl

commit_works : (a : ℕ) (c : Call) → commits a c ≡ true → is_work c ≡ true
commit_works a (call.Committed c d how) h = refl
commit_works a _ h = absurd (cc)

commit_keeps : (p : Plan) (a : ℕ) (j : List Entry) → Lawful p j → AtEach (Keeps (grants_files a) (λ i. committed i a ≡ false)) j
commit_keeps p a [] legal = tt
commit_keeps p a (e ∷ j) legal = (
  commit_keeps p a j legal.0,
  record {
    begin = λ h. (let y = grants_action a e.call e.reply h in
        let none : granted j a ≡ false = subst (λ n. granted j n ≡ false) y.2 (g.grant_is_first p e j y.0 legal y.1) in
        committed_same e j a (grant_commits_none a e.call e.reply h) ∙ false_by _ (λ old. clash (granted j a) (committed_granted p j a legal.0 old) none));
    stay = λ none leaves. committed_same e j a (false_by _ (λ now. let owed = commit_owed p e j a legal now in leaves owed.order owed.newest owed.fits (commit_works a e.call now))) ∙ none;
  },
)

-- while a lane owes the Committed of an action there was none
pub owed_uncommitted : (p : Plan) (j : List Entry) (a : ℕ) → Lawful p j → (lane : ℕ) (d : Entry) → last_work j lane ≡ Some d → grants_files a d ≡ true → committed j a ≡ false
owed_uncommitted p j a legal lane d h y = o.while_owed (grants_files a) (λ i. committed i a ≡ false) j (files_once p a j legal) (commit_keeps p a j legal) lane d h y

-- ---- Race

granted_by : (j : List Entry) (lane a : ℕ) (b : Branch) → o.Answers j lane (is_commit_grant a b) → has_grant_of j lane a b ≡ true
unfolding has_grant_of
granted_by j lane a b owed =
    o.newest_ever (λ d. (d.lane == lane) && is_commit_of a b d.call d.reply) j lane owed.order owed.newest
    (and_from _ _ (eq-eqb owed.order.lane lane (o.newest_lane j lane owed.order owed.newest)) owed.fits)

race_of : (p : Plan) (e : Entry) (j : List Entry) → Lawful p (e ∷ j) → (c : Call) (x : Reply) → e.call ≡ c → e.reply ≡ x → race_at j e.lane c x ≡ true
race_of p e j legal (call.Claim a b t f) reply.Granted ic ir =
    let y : granted_in e.call e.reply ≡ Some (attempt_of a b t, f) = rw (ic, ir) refl in
    not_from_false (granted j a) (g.grant_is_first p e j (attempt_of a b t, f) legal y)
race_of p e j legal (call.Claim a b t f) _ ic ir = refl
race_of p e j legal (call.Committed a b how) x ic ir =
    let answer = o.commit_answers p j e.lane a b how (subst (λ (c : Call). lw.in_script p j e.lane c ≡ true) ic legal.1.scripted) in
    and_from _ _ (granted_by j e.lane a b answer)
    (not_from_false (committed j a) (owed_uncommitted p j a legal.0 e.lane answer.order answer.newest (commit_of_action a b answer.order.call answer.order.reply answer.fits)))
race_of p e j legal _ x ic ir = refl

pub race : (p : Plan) (j : List Entry) → Lawful p j → Race j
race p [] legal = tt
race p (e ∷ j) legal = (race p j legal.0, race_of p e j legal e.call e.reply refl refl)

-- ---- each request is accounted for

pub record IsSentRequest (j : List Entry) (q : Request) : Type 0 where
  pub sent : was_sent j q.attempt ≡ true
  pub carrier : line_of j q.attempt ≡ Some q.line

pub sent_line : (e : Entry) (j : List Entry) (x : Reply) (q : Request) → e.reply ≡ x → send_in x ≡ Some q → IsSentRequest (e ∷ j) q
sent_line e j (reply.Send m n a b t) q is h =
    let here : record { line = m; number = n; attempt = attempt_of a b t } ≡ q = cc in
    subst (IsSentRequest (e ∷ j)) here (let at : sent_on m (reply.Send m n a b t) ≡ Some (record { line = m; number = n; attempt = attempt_of a b t }) = rw (eq-eqb m m refl) refl in
    let on = k.sent_here e j m (reply.Send m n a b t) (record { line = m; number = n; attempt = attempt_of a b t }) is at in
    record { sent = on.sent; carrier = on.carrier })
sent_line e j _ q is h = absurd (cc)

pub all_sends : (j : List Entry) → BeginInOrder j → AllOf (IsSentRequest j) (each (λ _ e. send_in e.reply) j)
all_sends [] all = tt
all_sends (e ∷ j) all =
    k.all_more (IsSentRequest (e ∷ j)) (send_in e.reply) (each (λ _ d. send_in d.reply) j)
    (λ q h. sent_line e j e.reply q refl h)
    (k.all_map (IsSentRequest j) (IsSentRequest (e ∷ j)) (λ q h. record { sent = k.sent_later e j q.attempt h.sent; carrier = k.line_stays e j q.attempt q.line all h.carrier }) _ (all_sends j all.0))

pub list_all_from : {X : Type 0} (test : X → Bool) (xs : List X) → AllOf (λ x. test x ≡ true) xs → list_all test xs ≡ true
list_all_from test [] all = refl
list_all_from test (x ∷ xs) all = and_from _ _ all.0 (list_all_from test xs all.1)

request_accounted : (j : List Entry) (q : Request) → IsSentRequest j q → is_request_accounted j q ≡ true
request_accounted j q on =
    by_bool (has_ended j q.line) (λ b. has_ended j q.line ≡ b → (not b || (answered j q.attempt || (ended j q.attempt || granted j q.attempt.action))) ≡ true)
    (λ _ over. by_bool (answered j q.attempt) (λ b. answered j q.attempt ≡ b → (b || (ended j q.attempt || granted j q.attempt.action)) ≡ true) (λ _ _. refl)
    (λ _ un. by_bool (granted j q.attempt.action) (λ b. granted j q.attempt.action ≡ b → (ended j q.attempt || b) ≡ true)
    (λ _ _. or_right (ended j q.attempt) true refl)
    (λ _ free. or_left _ _ (v.over_ended j q.attempt free (v.IsLost q.line on.carrier (and_from _ _ over (rw un refl)))))
    refl) refl)
    (λ _ _. refl) refl

pub requests_accounted : (p : Plan) (j : List Entry) → Lawful p j → list_all (is_request_accounted j) (each (λ _ e. send_in e.reply) j) ≡ true
requests_accounted p j legal =
    list_all_from (is_request_accounted j) _ (k.all_map (IsSentRequest j) (λ q. is_request_accounted j q ≡ true) (λ q on. request_accounted j q on) _ (all_sends j (begin_in_order p j legal)))
