-- What is kept of a line when a request is sent to it.
use Rattle.std.proofs.Common.{◌≡◌, ℕ, ◌+◌, ◌==◌, Bool, true, false, ◌&&◌, ◌||◌, not, cond, List, [], ◌∷◌, length, Option, Some, None, is_some, option_map, refl, ap, sym, subst, ◌∙◌, add-one}
use Rattle.std.specs.List.{filter}
use Rattle.std.specs.Prelude.{ℤ}
use Rattle.std.proofs.lemmas.Bool.{eqb-true, eq-eqb, or_parts}
use Rattle.run_plan.specs.declared.plan.Plan.{Plan}
use Rattle.exec_journal.specs.declared.attempt.Attempt.{Attempt}
use Rattle.exec_journal.specs.declared.ends.Cause.{Cause}
use Rattle.exec_journal.specs.Entry.{Entry}
use Rattle.exec_journal.specs.declared.call.Call.{Call}
use Rattle.exec_journal.specs.declared.call.Call.TheVariants as call
use Rattle.exec_journal.specs.declared.reply.Reply.TheVariants as reply
use Rattle.list_lemmas.specs.Options.{or_else, and_more}
use Rattle.exec_journal.specs.Entries.{Request, same_attempt, is_for, send_in}
use Rattle.exec_journal.specs.Words.{launch_of, started, has_ended, was_killed, sends, was_sent, answered, wrote, wrote_if, order_of, is_pending, pending, line_cause}
use Rattle.exec_journal.specs.Attempts.{line_of, fault_of, lost_cause, over, ended}
use Rattle.exec_journal.specs.Settled.{wanted, if_bound, bound}
use Rattle.exec_journal.specs.Facts.{SameActions}
use Rattle.exec_journal.proofs.Begins.{same_attempt_eq, same_attempt_refl, bound_is}
use Rattle.exec_journal.proofs.Quiet.{ended_same, wanted_same}
use Rattle.exec_journal.proofs.Ruled.{by_bool}
use Rattle.worker_pool.specs.Rows.{Facts, change, set_unbound, one_more}
use Rattle.worker_pool.specs.Stands.{Stands, row_of}
use Rattle.worker_pool.specs.Entries.{IsSentTo}
use Rattle.worker_pool.proofs.Bound.{another}
use Rattle.worker_pool.proofs.Kept.{more_row, one_changes, twice_changes, row_by}
use Rattle.worker_pool.proofs.Words.{same_actions, granted_same, launch_same}

-- ---- what wasn't sent has no Wrote

unsent_write : (t : Attempt) (c : Call) (o : Option Request) → is_for t (option_map (λ q. q.attempt) o) ≡ false → wrote_if t c o ≡ None
unsent_write t (call.Wrote k n how) None h = refl
unsent_write t (call.Wrote k n how) (Some q) h = rw h refl
unsent_write t _ o h = refl

pub unwritten : (j : List Entry) (t : Attempt) → was_sent j t ≡ false → wrote j t ≡ None
unfolding wrote was_sent
unwritten [] t h = refl
unwritten (e ∷ j) t h =
    let before = (or_parts (is_for t (option_map (λ q. q.attempt) (send_in e.reply))) (was_sent j t) h).1 in
    rw (unsent_write t e.call (order_of j e.lane) (another j e.lane t (order_of j e.lane) refl before)) (unwritten j t before)

module _ (p : Plan) (seats : ℕ) (f : Facts) (j : List Entry) (lane l : ℕ) (n : ℤ) (t : Attempt) (s : Stands p seats f j) (to : IsSentTo j t l) where
  abbrev pub send_entry : Entry
  send_entry = record { lane = lane; call = call.Ask; reply = reply.Send l n t.action t.branch t.number }

  abbrev request : Request
  request = record { line = l; number = n; attempt = t }

  -- ---- one more is pending

  request_pending : is_pending j request ≡ true
  unfolding is_pending
  request_pending = let none = unwritten j t to.unsent in rw (to.unanswered, none, to.unended) refl

  one_more_pending : (b : Bool) (qs : List Request) → cond b (length (filter (is_pending j) qs) + 1) (length (filter (is_pending j) qs)) ≡ length (filter (is_pending j) (and_more (cond b (Some request) None) qs))
  one_more_pending true qs = rw request_pending (add-one (length (filter (is_pending j) qs)))
  one_more_pending false qs = refl

  send_pending : (m : ℕ) → cond (l == m) (length (pending j m) + 1) (length (pending j m)) ≡ length (pending (send_entry ∷ j) m)
  unfolding pending sends is_pending answered wrote has_ended
  send_pending m = one_more_pending (l == m) (sends j m)

  -- ---- no attempt ends

  none_lost : (u : Attempt) (o : Option ℕ) → ((m : ℕ) → o ≡ Some m → m ≡ l) → lost_cause j u o ≡ None
  none_lost u None h = refl
  none_lost u (Some m) h =
      let e : m ≡ l = h m refl in
      let open_yet : has_ended j m ≡ false = ap (has_ended j) e ∙ to.unended in
      rw open_yet refl

  lost_same : (u : Attempt) (b : Bool) → same_attempt t u ≡ b → lost_cause j u (or_else (cond b (Some l) None) (line_of j u)) ≡ lost_cause j u (line_of j u)
  lost_same u true h =
      let e : t ≡ u = same_attempt_eq t u h in
      none_lost u (Some l) (λ m k. let same : l ≡ m = cc in sym same)
      ∙ sym (none_lost u (line_of j u) (subst (λ (v : Attempt). (m : ℕ) → line_of j v ≡ Some m → m ≡ l) e to.carrier))
  lost_same u false h = refl

  over_same : (u : Attempt) → over (send_entry ∷ j) u ≡ over j u
  unfolding fault_of line_of has_ended answered wrote line_cause
  over_same u = ap (λ (o : Option Cause). or_else (fault_of j u) o) (lost_same u (same_attempt t u) refl)

  pub send_actions : SameActions j (send_entry ∷ j)
  send_actions = same_actions send_entry j (λ u. ended_same send_entry j u (over_same u) (granted_same send_entry j u.action refl)) refl (λ a b. refl)

  -- ---- what stays bound

  bound_or : (b : Bool) (u : Attempt) → is_some (cond (wanted p j u.action u.branch && (not (b || was_sent j u) && not (ended j u))) (Some u) None) ≡ (not b && is_some (if_bound p j (Some (lane, u))))
  bound_or true u = elim (wanted p j u.action u.branch) as (λ w. is_some (cond (w && false) (Some u) None) ≡ false) [ true ↦ refl | false ↦ refl ]
  bound_or false u = refl

  bound_of : (u : Attempt) → is_some (if_bound p (send_entry ∷ j) (Some (lane, u))) ≡ (not (same_attempt t u) && is_some (if_bound p j (Some (lane, u))))
  unfolding was_sent
  bound_of u = (λ i. is_some (cond (wanted_same p j (send_entry ∷ j) send_actions u.action u.branch i && (not (same_attempt t u || was_sent j u) && not (send_actions.ended_too u i))) (Some u) None)) ∙ bound_or (same_attempt t u) u

  abbrev bound_before : Option (ℕ × Attempt) → Bool
  bound_before o = is_some (if_bound p j o)

  -- where its own line had it bound, it has nothing bound any longer
  taken : (m : ℕ) (o : Option (ℕ × Attempt)) → bound p j l ≡ Some t → launch_of j m ≡ o → (not (l == m) && bound_before o) ≡ is_some (if_bound p (send_entry ∷ j) o)
  taken m None was h = elim (l == m) as (λ b. (not b && false) ≡ false) [ true ↦ refl | false ↦ refl ]
  taken m (Some (la, u)) was h =
      by_bool (l == m) (λ b. (not b && bound_before (Some (la, u))) ≡ is_some (if_bound p (send_entry ∷ j) (Some (la, u))))
      (λ here. let known = bound_is p j l t was in
      let same : (la, u) ≡ (known.lane, t) = (let e : Some (la, u) ≡ Some (known.lane, t) = sym h ∙ ap (launch_of j) (sym (eqb-true l m here)) ∙ known.launched in cc) in
      let its : same_attempt t u ≡ true = ap (λ (x : ℕ × Attempt). same_attempt t x.1) same ∙ same_attempt_refl t in
      sym (bound_of u ∙ ap (λ b. not b && bound_before (Some (la, u))) its))
      (λ apart. sym (bound_of u ∙ ap (λ b. not b && bound_before (Some (la, u))) (other apart (same_attempt t u) refl)))
    where
      other : (l == m) ≡ false → (b : Bool) → same_attempt t u ≡ b → same_attempt t u ≡ false
      other apart false is = is
      other apart true is =
          let e : t ≡ u = same_attempt_eq t u is in
          let here : l ≡ m = sym (to.launched la m (h ∙ ap (λ (v : Attempt). Some (la, v)) (sym e))) in
          let both : true ≡ false = sym (eq-eqb l m here) ∙ apart in
          absurd (cc)

  -- where it had nothing bound, nothing changes
  untaken : (m : ℕ) (o : Option (ℕ × Attempt)) → bound p j l ≡ None → bound p j m ≡ if_bound p j o → launch_of j m ≡ o → bound_before o ≡ is_some (if_bound p (send_entry ∷ j) o)
  untaken m None none is h = refl
  untaken m (Some (la, u)) none is h = by (same_attempt t u) refl
    where
      by : (b : Bool) → same_attempt t u ≡ b → bound_before (Some (la, u)) ≡ is_some (if_bound p (send_entry ∷ j) (Some (la, u)))
      by false apart = sym (bound_of u ∙ ap (λ b. not b && bound_before (Some (la, u))) apart)
      by true same =
          let e : t ≡ u = same_attempt_eq t u same in
          let here : m ≡ l = to.launched la m (h ∙ ap (λ (v : Attempt). Some (la, v)) (sym e)) in
          let empty : bound_before (Some (la, u)) ≡ false = ap is_some (sym is ∙ ap (bound p j) here ∙ none) in
          empty ∙ sym (bound_of u ∙ ap (λ b. not b && bound_before (Some (la, u))) same)

  sent_bound : bound p j l ≡ Some t → (m : ℕ) → (not (l == m) && is_some (bound p j m)) ≡ is_some (bound p (send_entry ∷ j) m)
  unfolding bound
  sent_bound was m = taken m (launch_of j m) was refl ∙ ap (λ (o : Option (ℕ × Attempt)). is_some (if_bound p (send_entry ∷ j) o)) (sym (launch_same send_entry j refl m))

  sent_unbound : bound p j l ≡ None → (m : ℕ) → is_some (bound p j m) ≡ is_some (bound p (send_entry ∷ j) m)
  unfolding bound
  sent_unbound none m = untaken m (launch_of j m) none refl refl ∙ ap (λ (o : Option (ℕ × Attempt)). is_some (if_bound p (send_entry ∷ j) o)) (sym (launch_same send_entry j refl m))

  -- ---- the laws

  twice_row : (b : Bool) (o : Option (ℕ × Attempt)) (st br en ki bo : Bool) (k : ℕ) → cond b (option_map set_unbound (cond b (option_map one_more (row_of p o st br en ki bo k)) (row_of p o st br en ki bo k))) (cond b (option_map one_more (row_of p o st br en ki bo k)) (row_of p o st br en ki bo k)) ≡ row_of p o st br en ki (not b && bo) (cond b (k + 1) k)
  twice_row true None st br en ki bo k = refl
  twice_row true (Some x) st br en ki bo k = refl
  twice_row false o st br en ki bo k = refl

  pub bound_sends_kept : bound p j l ≡ Some t → Stands p seats (change (change f l one_more) l set_unbound) (send_entry ∷ j)
  unfolding started has_ended was_killed line_cause
  bound_sends_kept was =
      twice_changes p seats f j send_entry s refl l one_more set_unbound (λ m.
      twice_row (l == m) (launch_of j m) _ _ _ _ _ _
      ∙ row_by p seats f j send_entry s refl m _ _ _ _ _ _ refl refl refl refl (sent_bound was m) (send_pending m))

  pub sends_kept : bound p j l ≡ None → Stands p seats (change f l one_more) (send_entry ∷ j)
  unfolding started has_ended was_killed line_cause
  sends_kept none =
      one_changes p seats f j send_entry s refl l one_more (λ m.
      more_row p (l == m) (launch_of j m) _ _ _ _ _ _
      ∙ row_by p seats f j send_entry s refl m _ _ _ _ _ _ refl refl refl refl (sent_unbound none m) (send_pending m))
