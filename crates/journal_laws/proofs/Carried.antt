-- Attempts and the lines that carry them: each request was sent once, on the line on which its attempt was launched.
use Rattle.std.proofs.Common.{◌≡◌, ℕ, ◌==◌, Bool, true, false, cond, List, [], ◌∷◌, Option, Some, None, is_some, option_map, ◌⊎◌, inl, inr, refl, sym, ap, subst, ◌∙◌}
use Rattle.std.proofs.lemmas.Bool.{eqb-true, or_cases, or_left, or_right}
use Rattle.exec_journal.specs.declared.attempt.Attempt.{Attempt}
use Rattle.exec_journal.specs.Entry.{Entry}
use Rattle.exec_journal.specs.declared.call.Call.{Call}
use Rattle.exec_journal.specs.declared.call.Call.TheVariants as call
use Rattle.exec_journal.specs.declared.reply.Reply.{Reply}
use Rattle.exec_journal.specs.declared.reply.Reply.TheVariants as reply
use Rattle.exec_journal.specs.History.{each, AtEach}
use Rattle.list_lemmas.specs.Options.{or_else, unless_before, and_more}
use Rattle.exec_journal.specs.Entries.{Request, attempt_of, same_attempt, is_for, launch_in, send_in, ends}
use Rattle.exec_journal.specs.Words.{launch_of, launch_at, launch_on, sends, sent_on, was_sent, has_ended, line_cause, broke, break_at, break_by, order_of, end_cause}
use Rattle.exec_journal.specs.Attempts.{begun_in, line_of, carrier_in}
use Rattle.exec_journal.specs.Facts.{begun, BeginsNext, ContinuesOn, Begins, BeginInOrder}
use Rattle.exec_journal.proofs.Histories.{AllOf}
use Rattle.exec_journal.proofs.Ruled.{by_bool}
use Rattle.exec_journal.proofs.Begins.{same_attempt_eq, same_attempt_refl}
use Rattle.journal_laws.proofs.Owed.{Once, is_send}

-- ---- what was sent or carried was begun

send_begins : (t : Attempt) (x : Reply) → is_for t (option_map (λ q. q.attempt) (send_in x)) ≡ true → is_for t (begun_in x) ≡ true
send_begins t (reply.Send l n a b u) h = h
send_begins t _ h = absurd (cc)

pub sent_begun : (j : List Entry) (t : Attempt) → was_sent j t ≡ true → begun j t ≡ true
unfolding was_sent begun
sent_begun [] t h = absurd (cc)
sent_begun (e ∷ j) t h = elim (or_cases (is_send t e) (was_sent j t) h) [
  | inl here ↦ or_left (is_for t (begun_in e.reply)) _ (send_begins t e.reply here)
  | inr before ↦ or_right (is_for t (begun_in e.reply)) _ (sent_begun j t before)
]

pub unbegun_unsent : (j : List Entry) (t : Attempt) → begun j t ≡ false → was_sent j t ≡ false
unbegun_unsent j t none = by (was_sent j t) refl
  where
    by : (b : Bool) → was_sent j t ≡ b → b ≡ false
    by false is = refl
    by true is = (let both : true ≡ false = sym (sent_begun j t is) ∙ none in cc)

carrier_begins : (t : Attempt) (x : Reply) (l : ℕ) → carrier_in t x ≡ Some l → is_for t (begun_in x) ≡ true
carrier_begins t (reply.Launch m a b n) l h =
    by_bool (same_attempt (attempt_of a b n) t) (λ c. cond c (Some m) None ≡ Some l → c ≡ true) (λ _ _. refl) (λ _ k. absurd (cc)) h
carrier_begins t (reply.Send m o a b n) l h =
    by_bool (same_attempt (attempt_of a b n) t) (λ c. cond c (Some m) None ≡ Some l → c ≡ true) (λ _ _. refl) (λ _ k. absurd (cc)) h
carrier_begins t _ l h = absurd (cc)

pub or_some : {X : Type 0} (o q : Option X) (x : X) → or_else o q ≡ Some x → (o ≡ Some x) ⊎ (q ≡ Some x)
or_some None q x h = inr h
or_some (Some y) q x h = inl h

pub carried_begun : (j : List Entry) (t : Attempt) (l : ℕ) → line_of j t ≡ Some l → begun j t ≡ true
unfolding line_of begun
carried_begun [] t l h = absurd (cc)
carried_begun (e ∷ j) t l h = elim (or_some (carrier_in t e.reply) (line_of j t) l h) [
  | inl here ↦ or_left (is_for t (begun_in e.reply)) _ (carrier_begins t e.reply l here)
  | inr before ↦ or_right (is_for t (begun_in e.reply)) _ (carried_begun j t l before)
]

-- ---- each attempt is sent once

no_launch : (t : Attempt) (x : Reply) → is_for t (option_map (λ q. q.attempt) (send_in x)) ≡ true → launch_in x ≡ None
no_launch t (reply.Send l n a b u) h = refl
no_launch t _ h = absurd (cc)

-- what a Send of the attempt says of it
pub record SendsIt (k : List Entry) (x : Reply) (t : Attempt) : Type 0 where
  pub request : Request
  pub is : send_in x ≡ Some request
  pub of : request.attempt ≡ t
  pub begins : BeginsNext k t ⊎ ContinuesOn k request.line t

pub send_of : (k : List Entry) (x : Reply) (t : Attempt) → Begins k (launch_in x) (send_in x) → is_for t (option_map (λ q. q.attempt) (send_in x)) ≡ true → SendsIt k x t
send_of k x t begins h = by (launch_in x) (send_in x) refl (no_launch t x h) begins h
  where
    by : (o : Option (ℕ × Attempt)) (q : Option Request) → send_in x ≡ q → o ≡ None → Begins k o q → is_for t (option_map (λ r. r.attempt) q) ≡ true → SendsIt k x t
    by None (Some r) is none begins h =
        let same : r.attempt ≡ t = same_attempt_eq r.attempt t h in
        record { request = r; is = is; of = same; begins = subst (λ (v : Attempt). BeginsNext k v ⊎ ContinuesOn k r.line v) same begins }
    by None None is none begins h = absurd (cc)
    by (Some x) q is none begins h = absurd (cc)

pub unsent_by : (k : List Entry) (l : ℕ) (t : Attempt) → BeginsNext k t ⊎ ContinuesOn k l t → was_sent k t ≡ false
unsent_by k l t (inl next) = unbegun_unsent k t next.unbegun
unsent_by k l t (inr on) = on.unsent

pub sent_once : (t : Attempt) (j : List Entry) → BeginInOrder j → AtEach (Once (is_send t)) j
unfolding was_sent
sent_once t [] all = tt
sent_once t (e ∷ j) all = (sent_once t j all.0, λ h. (let it = send_of j e.reply t all.1 h in unsent_by j it.request.line t it.begins))

-- ---- its line stays

-- an attempt that was launched is on that line
pub record AreCarried (j : List Entry) : Type 0 where
  pub launched : (l lane : ℕ) (t : Attempt) → launch_of j l ≡ Some (lane, t) → line_of j t ≡ Some l

line_more : (e : Entry) (j : List Entry) (t : Attempt) (l : ℕ) → (carrier_in t e.reply ≡ None) ⊎ (carrier_in t e.reply ≡ Some l) → line_of j t ≡ Some l → line_of (e ∷ j) t ≡ Some l
unfolding line_of
line_more e j t l (inl none) h = rw none h
line_more e j t l (inr here) h = rw here refl

carrier_here : (t s : Attempt) (m : ℕ) (l : ℕ) → (same_attempt s t ≡ true → m ≡ l) → (cond (same_attempt s t) (Some m) None ≡ None) ⊎ (cond (same_attempt s t) (Some m) None ≡ Some l)
carrier_here t s m l f =
    by_bool (same_attempt s t) (λ c. (c ≡ true → m ≡ l) → (cond c (Some m) None ≡ None) ⊎ (cond c (Some m) None ≡ Some l))
    (λ _ g. inr (ap Some (g refl))) (λ _ g. inl refl) f

carrier_same : (j : List Entry) (t : Attempt) (l : ℕ) (x : Reply) → AreCarried j → Begins j (launch_in x) (send_in x) → line_of j t ≡ Some l → (carrier_in t x ≡ None) ⊎ (carrier_in t x ≡ Some l)
carrier_same j t l (reply.Launch m a b n) are begins h =
    carrier_here t (attempt_of a b n) m l (λ same.
    let is = same_attempt_eq (attempt_of a b n) t same in
    let old = carried_begun j t l h in
    let new : begun j t ≡ false = subst (λ (v : Attempt). begun j v ≡ false) is begins.unbegun in
    let both : true ≡ false = sym old ∙ new in absurd (cc))
carrier_same j t l (reply.Send m o a b n) are begins h =
    carrier_here t (attempt_of a b n) m l (λ same. by begins (same_attempt_eq (attempt_of a b n) t same))
  where
    by : BeginsNext j (attempt_of a b n) ⊎ ContinuesOn j m (attempt_of a b n) → attempt_of a b n ≡ t → m ≡ l
    by (inl next) is =
        let old = carried_begun j t l h in
        let new : begun j t ≡ false = subst (λ (v : Attempt). begun j v ≡ false) is next.unbegun in
        let both : true ≡ false = sym old ∙ new in absurd (cc)
    by (inr on) is =
        let at : line_of j t ≡ Some m = subst (λ (v : Attempt). line_of j v ≡ Some m) is (are.launched m on.launched.0 (attempt_of a b n) on.launched.1) in
        let both : Some m ≡ Some l = sym at ∙ h in cc
carrier_same j t l _ are begins h = inl refl

line_stays_by : (e : Entry) (j : List Entry) (t : Attempt) (l : ℕ) → AreCarried j → Begins j (launch_in e.reply) (send_in e.reply) → line_of j t ≡ Some l → line_of (e ∷ j) t ≡ Some l
line_stays_by e j t l are begins h = line_more e j t l (carrier_same j t l e.reply are begins h) h

launch_carries : (l lane : ℕ) (x : Reply) (y : ℕ × Attempt) → launch_on l lane (launch_in x) ≡ Some y → carrier_in y.1 x ≡ Some l
launch_carries l lane (reply.Launch m a b n) y h =
    by_bool (m == l) (λ c. cond c (Some (lane, attempt_of a b n)) None ≡ Some y → cond (same_attempt (attempt_of a b n) y.1) (Some m) None ≡ Some l)
    (λ same k. let is : (lane, attempt_of a b n) ≡ y = cc in
    subst (λ (z : ℕ × Attempt). cond (same_attempt (attempt_of a b n) z.1) (Some m) None ≡ Some l) is
    (rw (same_attempt_refl (attempt_of a b n)) (ap Some (eqb-true m l same))))
    (λ _ k. absurd (cc)) h
launch_carries l lane _ y h = absurd (cc)

carried_here : (e : Entry) (j : List Entry) (t : Attempt) (l : ℕ) → carrier_in t e.reply ≡ Some l → line_of (e ∷ j) t ≡ Some l
unfolding line_of
carried_here e j t l h = rw h refl

pub are_carried : (j : List Entry) → BeginInOrder j → AreCarried j
unfolding launch_of
are_carried [] all = record { launched = λ l lane t h. absurd (cc) }
are_carried (e ∷ j) all =
    let are = are_carried j all.0 in
    record {
      launched = λ l lane t h. elim (or_some (launch_at l e) (launch_of j l) (lane, t) h) [
        | inl here ↦ carried_here e j t l (launch_carries l e.lane e.reply (lane, t) here)
        | inr before ↦ line_stays_by e j t l are all.1 (are.launched l lane t before)
      ];
    }

pub line_stays : (e : Entry) (j : List Entry) (t : Attempt) (l : ℕ) → BeginInOrder (e ∷ j) → line_of j t ≡ Some l → line_of (e ∷ j) t ≡ Some l
line_stays e j t l all h = line_stays_by e j t l (are_carried j all.0) all.1 h

-- ---- the requests of a line

pub all_map : {X : Type 0} (P Q : X → Type 0) → ((x : X) → P x → Q x) → (xs : List X) → AllOf P xs → AllOf Q xs
all_map P Q f [] all = tt
all_map P Q f (x ∷ xs) all = (f x all.0, all_map P Q f xs all.1)

pub all_both : {X : Type 0} (P Q : X → Type 0) (xs : List X) → AllOf P xs → AllOf Q xs → AllOf (λ x. P x × Q x) xs
all_both P Q [] a b = tt
all_both P Q (x ∷ xs) a b = ((a.0, b.0), all_both P Q xs a.1 b.1)

-- a request that was sent on the line
pub record IsSentOn (j : List Entry) (l : ℕ) (q : Request) : Type 0 where
  pub line : q.line ≡ l
  pub sent : was_sent j q.attempt ≡ true
  pub carrier : line_of j q.attempt ≡ Some l

pub sent_later : (e : Entry) (j : List Entry) (t : Attempt) → was_sent j t ≡ true → was_sent (e ∷ j) t ≡ true
unfolding was_sent
sent_later e j t h = or_right (is_send t e) _ h

pub sent_here : (e : Entry) (j : List Entry) (l : ℕ) (x : Reply) (q : Request) → e.reply ≡ x → sent_on l x ≡ Some q → IsSentOn (e ∷ j) l q
unfolding was_sent
sent_here e j l (reply.Send m n a b t) q is h =
    by_bool (m == l) (λ c. cond c (Some (record { line = m; number = n; attempt = attempt_of a b t })) None ≡ Some q → IsSentOn (e ∷ j) l q)
    (λ same k. let here : record { line = m; number = n; attempt = attempt_of a b t } ≡ q = cc in
    let m_is = eqb-true m l same in
    subst (IsSentOn (e ∷ j) l) here (record {
      line = m_is;
      sent = or_left _ _ (subst (λ (y : Reply). is_for (attempt_of a b t) (option_map (λ r. r.attempt) (send_in y)) ≡ true) (sym is) (same_attempt_refl (attempt_of a b t)));
      carrier = carried_here e j (attempt_of a b t) l (subst (λ (y : Reply). carrier_in (attempt_of a b t) y ≡ Some l) (sym is) (rw (same_attempt_refl (attempt_of a b t)) (ap Some m_is)));
    }))
    (λ _ k. absurd (cc)) h
sent_here e j l _ q is h = absurd (cc)

pub all_more : {X : Type 0} (P : X → Type 0) (o : Option X) (xs : List X) → ((x : X) → o ≡ Some x → P x) → AllOf P xs → AllOf P (and_more o xs)
all_more P None xs g all = all
all_more P (Some x) xs g all = (g x refl, all)

pub sends_on : (j : List Entry) (l : ℕ) → BeginInOrder j → AllOf (IsSentOn j l) (sends j l)
unfolding sends
sends_on [] l all = tt
sends_on (e ∷ j) l all =
    all_more (IsSentOn (e ∷ j) l) (sent_on l e.reply) (each (λ _ d. sent_on l d.reply) j)
    (λ q h. sent_here e j l e.reply q refl h)
    (all_map (IsSentOn j l) (IsSentOn (e ∷ j) l) (λ q h. record { line = h.line; sent = sent_later e j q.attempt h.sent; carrier = line_stays e j q.attempt l all h.carrier }) _ (sends_on j l all.0))

-- ---- a line that has Ended broke

end_breaks : (k : List Entry) (o : Option Request) (l : ℕ) (c : Call) (x : Reply) → ends l c ≡ true → is_some (break_by k o l c x) ≡ true
end_breaks k o l (call.Ended m how) x h = by_bool (m == l) (λ b. b ≡ true → is_some (cond b (Some (end_cause how)) None) ≡ true) (λ _ _. refl) (λ _ g. absurd (cc)) h
end_breaks k o l _ x h = absurd (cc)

pub some_later_cause : {X : Type 0} (n o : Option X) → is_some o ≡ true → is_some (unless_before n o) ≡ true
some_later_cause None o h = h
some_later_cause (Some d) None h = refl
some_later_cause (Some d) (Some c) h = refl

pub some_new_cause : {X : Type 0} (n o : Option X) → is_some n ≡ true → is_some (unless_before n o) ≡ true
some_new_cause None o h = absurd (cc)
some_new_cause (Some d) None h = refl
some_new_cause (Some d) (Some c) h = refl

pub ended_broke : (j : List Entry) (l : ℕ) → has_ended j l ≡ true → broke j l ≡ true
unfolding has_ended line_cause
ended_broke [] l h = absurd (cc)
ended_broke (e ∷ j) l h = elim (or_cases (ends l e.call) (has_ended j l) h) [
  | inl here ↦ some_new_cause (break_at l j e) (line_cause j l) (end_breaks j (order_of j e.lane) l e.call e.reply here)
  | inr before ↦ some_later_cause (break_at l j e) (line_cause j l) (ended_broke j l before)
]
