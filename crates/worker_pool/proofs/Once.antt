-- Where attempts begin in order, each is launched once and sent once.
use Rattle.std.proofs.Common.{◌≡◌, ℕ, zero, suc, ◌==◌, Bool, true, false, cond, List, [], ◌∷◌, length, Option, Some, None, option_map, ◌⊎◌, inl, inr, refl, ap, sym, subst, ◌∙◌}
use Rattle.std.specs.Prelude.{slice_get}
use Rattle.std.specs.List.{filter}
use Rattle.std.proofs.lemmas.Bool.{or_parts, eqb-true, eq-eqb}
use Rattle.run_plan.specs.declared.plan.Plan.{Plan}
use Rattle.exec_journal.specs.declared.attempt.Attempt.{Attempt}
use Rattle.exec_journal.specs.Entry.{Entry}
use Rattle.exec_journal.specs.declared.reply.Reply.{Reply}
use Rattle.exec_journal.specs.declared.reply.Reply.TheVariants as reply
use Rattle.list_lemmas.specs.Options.{or_else, and_more}
use Rattle.exec_journal.specs.Entries.{Request, same_attempt, is_for, launch_in, send_in}
use Rattle.exec_journal.specs.Words.{launch_of, launch_on, has_ended, sends, sent_on, was_sent, answered, is_pending, pending}
use Rattle.exec_journal.specs.Attempts.{carrier_by, line_of}
use Rattle.exec_journal.specs.Settled.{bound}
use Rattle.exec_journal.specs.Facts.{begun, BeginsNext, ContinuesOn, Begins, BeginInOrder}
use Rattle.exec_journal.proofs.Begins.{same_attempt_eq, same_attempt_refl, launched_begun, bound_is}
use Rattle.exec_journal.proofs.Ruled.{by_bool}
use Rattle.worker_pool.specs.Entries.{is_of, pending_of_attempt, IsPendingOn, IsPendingNowhere, IsSentTo}
use Rattle.worker_pool.proofs.Launched.{never_sent, never_carried}

-- ---- launched once

launched_twice : (j : List Entry) (l lane : ℕ) (t : Attempt) → launch_of j l ≡ Some (lane, t) → begun j t ≡ false → ⊥
launched_twice j l lane t h new = let both : true ≡ false = sym (launched_begun j l lane t h) ∙ new in cc

pub launched_once : (j : List Entry) → BeginInOrder j → (l m x y : ℕ) (t : Attempt) → launch_of j l ≡ Some (x, t) → launch_of j m ≡ Some (y, t) → l ≡ m
unfolding launch_of
launched_once [] order l m x y t h g = absurd (cc)
launched_once (e ∷ j) order l m x y t h g = by (launch_in e.reply) order.1 (launched_once j order.0 l m x y t) h g
  where
    at : (k : ℕ) (u : Attempt) (b c : Bool) → (k == l) ≡ b → (k == m) ≡ c → begun j u ≡ false → (launch_of j l ≡ Some (x, t) → launch_of j m ≡ Some (y, t) → l ≡ m)
        → or_else (cond b (Some (e.lane, u)) None) (launch_of j l) ≡ Some (x, t) → or_else (cond c (Some (e.lane, u)) None) (launch_of j m) ≡ Some (y, t) → l ≡ m
    at k u true true this that new rest p q = sym (eqb-true k l this) ∙ eqb-true k m that
    at k u true false this that new rest p q = let known : ◌≡◌ {A = ℕ × Attempt} (e.lane, u) (x, t) = cc in absurd (launched_twice j m y t q (ap (λ (z : ℕ × Attempt). begun j z.1) (sym known) ∙ new))
    at k u false true this that new rest p q = let known : ◌≡◌ {A = ℕ × Attempt} (e.lane, u) (y, t) = cc in absurd (launched_twice j l x t p (ap (λ (z : ℕ × Attempt). begun j z.1) (sym known) ∙ new))
    at k u false false this that new rest p q = rest p q

    by : (o : Option (ℕ × Attempt)) → Begins j o (send_in e.reply) → (launch_of j l ≡ Some (x, t) → launch_of j m ≡ Some (y, t) → l ≡ m)
        → or_else (launch_on l e.lane o) (launch_of j l) ≡ Some (x, t) → or_else (launch_on m e.lane o) (launch_of j m) ≡ Some (y, t) → l ≡ m
    by None begins rest p q = rest p q
    by (Some (k, u)) begins rest p q = at k u (k == l) (k == m) refl refl begins.unbegun rest p q

-- what was launched and not sent is carried by the line of its launch
pub launched_carrier : (j : List Entry) → BeginInOrder j → (l x : ℕ) (t : Attempt) → launch_of j l ≡ Some (x, t) → was_sent j t ≡ false → line_of j t ≡ Some l
unfolding launch_of line_of was_sent
launched_carrier [] order l x t h unsent = absurd (cc)
launched_carrier (e ∷ j) order l x t h unsent =
    let parts = or_parts (is_for t (option_map (λ q. q.attempt) (send_in e.reply))) (was_sent j t) unsent in
    by (launch_in e.reply) (send_in e.reply) order.1 parts.0 (λ k. launched_carrier j order.0 l x t k parts.1) h
  where
    at : (k : ℕ) (u : Attempt) (b c : Bool) → (k == l) ≡ b → same_attempt u t ≡ c → begun j u ≡ false → (launch_of j l ≡ Some (x, t) → line_of j t ≡ Some l)
        → or_else (cond b (Some (e.lane, u)) None) (launch_of j l) ≡ Some (x, t) → or_else (cond c (Some k) None) (line_of j t) ≡ Some l
    at k u true true this same new rest p = ap Some (eqb-true k l this)
    at k u true false this same new rest p =
        let known : ◌≡◌ {A = ℕ × Attempt} (e.lane, u) (x, t) = cc in
        let its : same_attempt u t ≡ true = ap (λ (z : ℕ × Attempt). same_attempt z.1 t) known ∙ same_attempt_refl t in
        let both : true ≡ false = sym its ∙ same in
        absurd (cc)
    at k u false true this same new rest p = absurd (launched_twice j l x t p (ap (begun j) (sym (same_attempt_eq u t same)) ∙ new))
    at k u false false this same new rest p = rest p

    by : (o : Option (ℕ × Attempt)) (q : Option Request) → Begins j o q → is_for t (option_map (λ r. r.attempt) q) ≡ false → (launch_of j l ≡ Some (x, t) → line_of j t ≡ Some l)
        → or_else (launch_on l e.lane o) (launch_of j l) ≡ Some (x, t) → or_else (carrier_by t o q) (line_of j t) ≡ Some l
    by (Some (k, u)) q begins other rest p = at k u (k == l) (same_attempt u t) refl refl begins.unbegun rest p
    by None None begins other rest p = rest p
    by None (Some r) begins other rest p = rw other (rest p)

pub bound_carrier : (p : Plan) (j : List Entry) (l : ℕ) (t : Attempt) → BeginInOrder j → bound p j l ≡ Some t → line_of j t ≡ Some l
bound_carrier p j l t order h = let b = bound_is p j l t h in launched_carrier j order l b.lane t b.launched b.unsent

pub sent_to : (j : List Entry) (q : Request) → BeginInOrder j → Begins j None (Some q) → has_ended j q.line ≡ false → answered j q.attempt ≡ false → IsSentTo j q.attempt q.line
sent_to j q order (inl next) unended unanswered = record {
  unended = unended;
  unsent = never_sent j q.attempt next.unbegun;
  unanswered = unanswered;
  carrier = λ m h. absurd (let none = never_carried j q.attempt next.unbegun in cc);
  launched = λ lane m h. absurd (launched_twice j m lane q.attempt h next.unbegun);
}
sent_to j q order (inr on) unended unanswered = record {
  unended = unended;
  unsent = on.unsent;
  unanswered = unanswered;
  carrier = λ m h. let here : line_of j q.attempt ≡ Some q.line = launched_carrier j order q.line on.launched.0 q.attempt on.launched.1 on.unsent in (let e : m ≡ q.line = cc in e);
  launched = λ lane m h. launched_once j order m q.line lane on.launched.0 q.attempt h on.launched.1;
}

-- ---- sent once

other_way : (s t : Attempt) → same_attempt s t ≡ false → same_attempt t s ≡ false
other_way s t h =
    by_bool (same_attempt t s) (λ b. b ≡ false)
    (λ same. absurd (let both : true ≡ false = sym (same_attempt_refl t) ∙ ap (λ (u : Attempt). same_attempt u t) (same_attempt_eq t s same) ∙ h in cc))
    (λ _. refl)

abbrev on_line : ℕ → Option Request → Option Request
on_line l (Some q) = cond (q.line == l) (Some q) None
on_line l None = None

sent_on_line : (x : Reply) (l : ℕ) → sent_on l x ≡ on_line l (send_in x)
sent_on_line (reply.Send k n a b t) l = refl
sent_on_line _ l = refl

sends_more : (e : Entry) (j : List Entry) (l : ℕ) → sends (e ∷ j) l ≡ and_more (on_line l (send_in e.reply)) (sends j l)
unfolding sends
sends_more e j l = ap (λ (o : Option Request). and_more o (sends j l)) (sent_on_line e.reply l)

-- a request of another attempt isn't among them
passed_over : (t : Attempt) (b : Bool) (r : Request) (qs : List Request) → same_attempt r.attempt t ≡ false → filter (is_of t) (and_more (cond b (Some r) None) qs) ≡ filter (is_of t) qs
passed_over t true r qs h = let apart = other_way r.attempt t h in rw apart refl
passed_over t false r qs h = refl

none_sent : (j : List Entry) (t : Attempt) → was_sent j t ≡ false → (m : ℕ) → filter (is_of t) (sends j m) ≡ []
unfolding was_sent sends
none_sent [] t h m = refl
none_sent (e ∷ j) t h m =
    let parts = or_parts (is_for t (option_map (λ q. q.attempt) (send_in e.reply))) (was_sent j t) h in
    ap (filter (is_of t)) (sends_more e j m) ∙ by (send_in e.reply) parts.0 ∙ none_sent j t parts.1 m
  where
    by : (o : Option Request) → is_for t (option_map (λ q. q.attempt) o) ≡ false → filter (is_of t) (and_more (on_line m o) (sends j m)) ≡ filter (is_of t) (sends j m)
    by None g = refl
    by (Some r) g = passed_over t (r.line == m) r (sends j m) g

send_only : (x : Reply) (r : Request) → send_in x ≡ Some r → launch_in x ≡ None
send_only (reply.Launch l a b t) r h = absurd (cc)
send_only _ r h = refl

begins_unsent : (j : List Entry) (x : Reply) (r : Request) → send_in x ≡ Some r → Begins j (launch_in x) (send_in x) → was_sent j r.attempt ≡ false
begins_unsent j x r h begins = by (subst (λ (o : Option Request). Begins j None o) h (subst (λ (o : Option (ℕ × Attempt)). Begins j o (send_in x)) (send_only x r h) begins))
  where
    by : BeginsNext j r.attempt ⊎ ContinuesOn j r.line r.attempt → was_sent j r.attempt ≡ false
    by (inl next) = never_sent j r.attempt next.unbegun
    by (inr on) = on.unsent

-- it is the only one of its attempt, on any line
abbrev IsAlone : List Entry → ℕ → Request → Type 0
IsAlone j l q = (m : ℕ) → filter (is_of q.attempt) (sends j m) ≡ cond (l == m) (q ∷ []) []

module _ (j : List Entry) (r q : Request) (l : ℕ) (new : was_sent j r.attempt ≡ false) where
  -- the one that was sent last
  last_alone : r ≡ q → (r.line == l) ≡ true → (m : ℕ) → filter (is_of q.attempt) (and_more (cond (r.line == m) (Some r) None) (sends j m)) ≡ cond (l == m) (q ∷ []) []
  last_alone same here m =
      subst (λ (v : Request). filter (is_of v.attempt) (and_more (cond (r.line == m) (Some r) None) (sends j m)) ≡ cond (l == m) (v ∷ []) []) same
      (subst (λ k. filter (is_of r.attempt) (and_more (cond (r.line == m) (Some r) None) (sends j m)) ≡ cond (k == m) (r ∷ []) []) (eqb-true r.line l here) (at (r.line == m)))
    where
      at : (b : Bool) → filter (is_of r.attempt) (and_more (cond b (Some r) None) (sends j m)) ≡ cond b (r ∷ []) []
      at true = let its = same_attempt_refl r.attempt in let none = none_sent j r.attempt new m in rw its (ap (λ qs. r ∷ qs) none)
      at false = none_sent j r.attempt new m

  -- one that was sent before
  still_alone : IsAlone j l q → (m : ℕ) → filter (is_of q.attempt) (and_more (cond (r.line == m) (Some r) None) (sends j m)) ≡ cond (l == m) (q ∷ []) []
  still_alone alone m = passed_over q.attempt (r.line == m) r (sends j m) apart ∙ alone m
    where
      apart : same_attempt r.attempt q.attempt ≡ false
      apart =
          by_bool (same_attempt r.attempt q.attempt) (λ b. b ≡ false)
          (λ same. absurd (let none = none_sent j q.attempt (ap (was_sent j) (sym (same_attempt_eq r.attempt q.attempt same)) ∙ new) l in
          let here : (l == l) ≡ true = eq-eqb l l refl in
          let one : filter (is_of q.attempt) (sends j l) ≡ q ∷ [] = alone l ∙ ap (λ b. cond b (q ∷ []) []) here in
          let both : [] ≡ q ∷ [] = sym none ∙ one in cc))
          (λ _. refl)

  more_alone : (b : Bool) → (r.line == l) ≡ b → (i : ℕ) → ((k : ℕ) → slice_get (sends j l) k ≡ Some q → IsAlone j l q) → slice_get (and_more (cond b (Some r) None) (sends j l)) i ≡ Some q
      → (m : ℕ) → filter (is_of q.attempt) (and_more (cond (r.line == m) (Some r) None) (sends j m)) ≡ cond (l == m) (q ∷ []) []
  more_alone true here zero rest h = last_alone (cc) here
  more_alone true here (suc i) rest h = still_alone (rest i h)
  more_alone false here i rest h = still_alone (rest i h)

pub sent_alone : (j : List Entry) → BeginInOrder j → (l i : ℕ) (q : Request) → slice_get (sends j l) i ≡ Some q → IsAlone j l q
unfolding sends
sent_alone [] order l i q h m = absurd (cc)
sent_alone (e ∷ j) order l i q h m =
    ap (filter (is_of q.attempt)) (sends_more e j m)
    ∙ by (send_in e.reply) refl (λ k g. sent_alone j order.0 l k q g) (sym (ap (λ qs. slice_get qs i) (sends_more e j l)) ∙ h)
  where
    by : (o : Option Request) → send_in e.reply ≡ o → ((k : ℕ) → slice_get (sends j l) k ≡ Some q → IsAlone j l q) → slice_get (and_more (on_line l o) (sends j l)) i ≡ Some q
        → filter (is_of q.attempt) (and_more (on_line m o) (sends j m)) ≡ cond (l == m) (q ∷ []) []
    by None is rest g = rest i g m
    by (Some r) is rest g = more_alone j r q l (begins_unsent j e.reply r is order.1) (r.line == l) refl i rest g m

-- ---- so of its attempt it alone can be pending

swapped : (f g : Request → Bool) (qs : List Request) → filter f (filter g qs) ≡ filter g (filter f qs)
swapped f g [] = refl
swapped f g (q ∷ qs) =
    let rest = swapped f g qs in
    by_bool (f q) (λ b. filter f (cond (g q) (q ∷ filter g qs) (filter g qs)) ≡ filter g (cond b (q ∷ filter f qs) (filter f qs)))
    (λ yes_f. by_bool (g q) (λ c. filter f (cond c (q ∷ filter g qs) (filter g qs)) ≡ cond c (q ∷ filter g (filter f qs)) (filter g (filter f qs))) (λ _. rw yes_f (ap (λ xs. q ∷ xs) rest)) (λ _. rest))
    (λ no_f. by_bool (g q) (λ c. filter f (cond c (q ∷ filter g qs) (filter g qs)) ≡ filter g (filter f qs)) (λ _. rw no_f rest) (λ _. rest))

module _ (j : List Entry) (order : BeginInOrder j) (l i : ℕ) (q : Request) (h : slice_get (sends j l) i ≡ Some q) where
  of_it : (m : ℕ) → pending_of_attempt j q.attempt m ≡ length (filter (is_pending j) (cond (l == m) (q ∷ []) []))
  unfolding pending
  of_it m = ap length (swapped (is_of q.attempt) (is_pending j) (sends j m) ∙ ap (filter (is_pending j)) (sent_alone j order l i q h m))

  count_if : (b c : Bool) → is_pending j q ≡ c → length (filter (is_pending j) (cond b (q ∷ []) [])) ≡ cond b (cond c 1 0) 0
  count_if true true is = rw is refl
  count_if true false is = rw is refl
  count_if false c is = refl

  pub pending_on : is_pending j q ≡ true → IsPendingOn j q.attempt l
  pending_on is = record { each = λ m. of_it m ∙ count_if (l == m) true is }

  pub pending_nowhere : is_pending j q ≡ false → IsPendingNowhere j q.attempt
  pending_nowhere is = record { each = λ m. of_it m ∙ count_if (l == m) false is ∙ none (l == m) }
    where
      none : (b : Bool) → ◌≡◌ {A = ℕ} (cond b 0 0) 0
      none true = refl
      none false = refl
