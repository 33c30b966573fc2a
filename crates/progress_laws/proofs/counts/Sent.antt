-- Each attempt has one request, which stays.
use Rattle.std.proofs.Common.{◌≡◌, ℕ, true, false, cond, List, [], ◌∷◌, Option, Some, None, option_map, inl, inr, refl, ap, ◌∙◌}
use Rattle.std.proofs.lemmas.Bool.{or_left, or_right}
use Rattle.run_plan.specs.declared.plan.Plan.{Plan}
use Rattle.exec_journal.specs.declared.attempt.Attempt.{Attempt}
use Rattle.exec_journal.specs.Entry.{Entry}
use Rattle.list_lemmas.specs.Options.{or_else}
use Rattle.exec_journal.specs.History.{each, latest}
use Rattle.exec_journal.specs.Entries.{Request, same_attempt, is_for, send_in}
use Rattle.exec_journal.specs.Lawful.{Lawful}
use Rattle.exec_journal.specs.Words.{sends, sent_on, was_sent}
use Rattle.exec_journal.proofs.Histories.{AllOf}
use Rattle.exec_journal.proofs.Ruled.{by_bool}
use Rattle.exec_journal.proofs.Begins.{begin_in_order, same_attempt_refl}
use Rattle.journal_laws.proofs.Carried as k
use Rattle.journal_laws.proofs.Claims.{clash}
use Rattle.journal_laws.proofs.Owed.{is_send}
use Rattle.journal_laws.proofs.Requests as q

abbrev if_of : Attempt → Option Request → Option Request
if_of t (Some x) = cond (same_attempt x.attempt t) (Some x) None
if_of t None = None

-- the request of the attempt, where it was sent
pub request_of : List Entry → Attempt → Option Request
request_of j t = latest (λ _ e. if_of t (send_in e.reply)) j

of_send : (t : Attempt) (o : Option Request) (x : Request) → if_of t o ≡ Some x
    → is_for t (option_map (λ r. r.attempt) o) ≡ true
of_send t None x h = absurd (cc)
of_send t (Some y) x h =
    by_bool (same_attempt y.attempt t) (λ b. cond b (Some y) None ≡ Some x → b ≡ true)
    (λ _ _. refl) (λ _ m. absurd (cc)) h

none_of_send : (t : Attempt) (o : Option Request)
    → is_for t (option_map (λ r. r.attempt) o) ≡ false → if_of t o ≡ None
none_of_send t None h = refl
none_of_send t (Some y) h = rw h refl

pub request_sent : (j : List Entry) (t : Attempt) (x : Request) → request_of j t ≡ Some x
    → was_sent j t ≡ true
unfolding request_of was_sent
request_sent [] t x h = absurd (cc)
request_sent (e ∷ j) t x h = elim (k.or_some (if_of t (send_in e.reply)) (request_of j t) x h) [
  | inl here ↦ or_left (is_send t e) _ (of_send t (send_in e.reply) x here)
  | inr before ↦ or_right (is_send t e) _ (request_sent j t x before)
]

pub request_stays : (p : Plan) (e : Entry) (j : List Entry) (t : Attempt) (x : Request)
    → Lawful p (e ∷ j) → request_of j t ≡ Some x
    → request_of (e ∷ j) t ≡ Some x
unfolding request_of was_sent
request_stays p e j t x legal h =
    by_bool (is_send t e) (λ b. is_send t e ≡ b → request_of (e ∷ j) t ≡ Some x)
    (λ _ again. absurd (clash (was_sent j t) (request_sent j t x h)
    ((k.sent_once t (e ∷ j) (begin_in_order p (e ∷ j) legal)).1 again)))
    (λ _ off. ap (λ o. or_else o (request_of j t)) (none_of_send t (send_in e.reply) off) ∙ h) refl

-- a request of the line, which is its attempt's
pub record IsAsked (j : List Entry) (l : ℕ) (x : Request) : Type 0 where
  pub on : k.IsSentOn j l x
  pub own : request_of j x.attempt ≡ Some x

request_here : (e : Entry) (j : List Entry) (l : ℕ) (x : Request) → sent_on l e.reply ≡ Some x
    → request_of (e ∷ j) x.attempt ≡ Some x
unfolding request_of
request_here e j l x h =
    let is = (q.sent_on_is l e.reply x h).0 in
    let mine : if_of x.attempt (send_in e.reply) ≡ Some x =
    ap (if_of x.attempt) is ∙ ap (λ b. cond b (Some x) None) (same_attempt_refl x.attempt) in
    ap (λ o. or_else o (request_of j x.attempt)) mine

requests_own : (p : Plan) (j : List Entry) (l : ℕ) → Lawful p j
    → AllOf (λ x. request_of j x.attempt ≡ Some x) (sends j l)
unfolding sends
requests_own p [] l legal = tt
requests_own p (e ∷ j) l legal =
    k.all_more (λ x. request_of (e ∷ j) x.attempt ≡ Some x) (sent_on l e.reply)
    (each (λ _ d. sent_on l d.reply) j)
    (λ x h. request_here e j l x h)
    (k.all_map (λ x. request_of j x.attempt ≡ Some x) (λ x. request_of (e ∷ j) x.attempt ≡ Some x)
    (λ x h. request_stays p e j x.attempt x legal h) _ (requests_own p j l legal.0))

pub requests_asked : (p : Plan) (j : List Entry) (l : ℕ) → Lawful p j
    → AllOf (IsAsked j l) (sends j l)
requests_asked p j l legal =
    k.all_map (λ x. k.IsSentOn j l x × (request_of j x.attempt ≡ Some x)) (IsAsked j l)
    (λ x h. record { on = h.0; own = h.1 }) (sends j l)
    (k.all_both (k.IsSentOn j l) (λ x. request_of j x.attempt ≡ Some x) (sends j l)
    (k.sends_on j l (begin_in_order p j legal))
    (requests_own p j l legal))
