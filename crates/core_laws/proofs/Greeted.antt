-- What the last line of each berth has said, after any entry.
use Rattle.std.proofs.Common.{◌≡◌, ℕ, ◌/◌, ◌==◌, nat_lt, Bool, true, false, ◌||◌, cond, List, ◌∷◌, Option, Some, None, option_map, refl, ap, sym, ◌∙◌}
use Rattle.std.specs.Prelude.{slice_get}
use Rattle.std.proofs.lemmas.Bool.{eq-eqb}
use Rattle.run_plan.specs.declared.plan.Plan.{Plan}
use Rattle.exec_journal.specs.declared.attempt.Attempt.{Attempt}
use Rattle.exec_journal.specs.declared.call.Answer.{Answer}
use Rattle.exec_journal.specs.declared.call.Call.{Call}
use Rattle.exec_journal.specs.declared.call.Call.TheVariants as call
use Rattle.exec_journal.specs.Entry.{Entry}
use Rattle.exec_journal.specs.declared.reply.Reply.{Reply}
use Rattle.exec_journal.specs.declared.reply.Reply.TheVariants as reply
use Rattle.exec_journal.specs.Entries.{greets, launch_in, speaks}
use Rattle.exec_journal.specs.Facts.{IsFresh}
use Rattle.exec_journal.specs.Words.{has_greeted, has_spoken, last_line}
use Rattle.list_lemmas.specs.Options.{or_else}
use Rattle.list_lemmas.proofs.Updates.{get_update}
use Rattle.worker_pool.proofs.Words.{last_same}
use Rattle.core_tables.specs.declared.greetings.Greeting.{Greeting}
use Rattle.core_tables.specs.Greetings.{greeting_in, greeting_of, is_answer, is_greeted, said_by, silent, unless_launched, with_said}
use Rattle.core_state.specs.declared.state.State.{State}
use Rattle.core_laws.specs.Stands.{Stands}
use Rattle.core_laws.proofs.Rowed.{changed_rows}

-- ---- an entry that is no Answer and orders no Launch

module _ (seats : ℕ) (j : List Entry) (e : Entry) (quiet : is_answer e.call ≡ false)
    (plain : launch_in e.reply ≡ None) where
  unlaunched : (r : Reply) (x : Greeting) → launch_in r ≡ None → unless_launched r x ≡ x
  unlaunched (reply.Launch l a b t) x h = absurd (cc)
  unlaunched _ x h = refl

  said_same : (c : Call) (x : Greeting) → is_answer c ≡ false → said_by c e.reply x ≡ x
  said_same (call.Answer l y) x h = absurd (cc)
  said_same _ x h = unlaunched e.reply x plain

  mute : (l : ℕ) (c : Call) → is_answer c ≡ false → speaks l c ≡ false
  mute l (call.Answer k y) h = absurd (cc)
  mute l _ h = refl

  no_greeting : (l : ℕ) (c : Call) (r : Reply) → is_answer c ≡ false → greets l c r ≡ false
  no_greeting l (call.Answer k y) r h = absurd (cc)
  no_greeting l _ r h = refl

  of_same : (o : Option ℕ) → greeting_of (e ∷ j) o ≡ greeting_of j o
  unfolding has_spoken has_greeted
  of_same None = refl
  of_same (Some l) = λ i. record {
    spoken = mute l e.call quiet i || has_spoken j l;
    greeted = no_greeting l e.call e.reply quiet i || has_greeted j l;
  }

  row_same : (b : Bool) (o : Option Greeting) → cond b (option_map (said_by e.call e.reply) o) o ≡ o
  row_same false o = refl
  row_same true None = refl
  row_same true (Some x) = ap Some (said_same e.call x quiet)

  pub quiet_greetings : (rows : List Greeting) → ((w : ℕ) → slice_get rows w ≡ greeting_in seats j w)
      → (w : ℕ) → slice_get (with_said rows (e.lane / 2) e.call e.reply) w ≡ greeting_in seats (e ∷ j) w
  unfolding greeting_in
  quiet_greetings rows h w =
      get_update (said_by e.call e.reply) rows (e.lane / 2) w
      ∙ row_same (e.lane / 2 == w) (slice_get rows w) ∙ h w
      ∙ ap (λ x. cond (nat_lt w seats) (Some x) None)
      (sym (of_same (last_line j w)) ∙ ap (greeting_of (e ∷ j)) (sym (last_same e j plain w)))

-- ---- an Answer

module _ (p : Plan) (seats : ℕ) (s : State) (j : List Entry) (lane l : ℕ) (x : Answer) (y : Reply)
    (st : Stands p seats s j) (here : last_line j (lane / 2) ≡ Some l) (plain : launch_in y ≡ None) where
  abbrev e : Entry
  e = record { lane = lane; call = call.Answer l x; reply = y }

  own_greets : (r : Reply) → greets l (call.Answer l x) r ≡ is_greeted r
  own_greets reply.Greeted = eq-eqb l l refl
  own_greets _ = refl

  other_greets : (k : ℕ) (r : Reply) → (l == k) ≡ false → greets k (call.Answer l x) r ≡ false
  other_greets k reply.Greeted h = h
  other_greets k _ h = refl

  own : greeting_of (e ∷ j) (Some l) ≡ said_by (call.Answer l x) y (greeting_of j (Some l))
  unfolding has_spoken has_greeted
  own = λ i. record {
    spoken = eq-eqb l l refl i || has_spoken j l;
    greeted = own_greets y i || has_greeted j l;
  }

  others : (k : ℕ) → (l == k) ≡ false → greeting_of (e ∷ j) (Some k) ≡ greeting_of j (Some k)
  unfolding has_spoken has_greeted
  others k h = λ i. record {
    spoken = h i || has_spoken j k;
    greeted = other_greets k y h i || has_greeted j k;
  }

  pub answer_greetings : (w : ℕ) → slice_get (with_said s.greetings (lane / 2) (call.Answer l x) y)
      w ≡ greeting_in seats (e ∷ j) w
  unfolding greeting_in
  answer_greetings =
      changed_rows p seats s j e l st here plain greeting_of (said_by (call.Answer l x) y) own others refl
      s.greetings (with_said s.greetings (lane / 2) (call.Answer l x) y)
      st.greetings (λ v. get_update (said_by (call.Answer l x) y) s.greetings (lane / 2) v)

-- ---- a Launch

module _ (seats : ℕ) (j : List Entry) (lane l : ℕ) (t : Attempt) (free : IsFresh j l) where
  abbrev launch : Entry
  launch = record {
    lane = lane;
    call = call.Ask;
    reply =
        reply.Launch l t.action t.branch t.number;
  }

  fresh_one : greeting_of (launch ∷ j) (Some l) ≡ silent
  unfolding has_spoken has_greeted
  fresh_one = λ i. record { spoken = free.speak i; greeted = free.greet i }

  old_same : (o : Option ℕ) → greeting_of (launch ∷ j) o ≡ greeting_of j o
  unfolding has_spoken has_greeted
  old_same None = refl
  old_same (Some k) = refl

  launched_by : (v : ℕ) (b known : Bool)
      → cond b (option_map (λ (x : Greeting). silent) (cond known
      (Some (greeting_of j (last_line j v))) None)) (cond known
      (Some (greeting_of j (last_line j v))) None)
      ≡ cond known (Some (greeting_of (launch ∷ j) (or_else (cond b (Some l) None)
      (last_line j v)))) None
  launched_by v true true = ap Some (sym fresh_one)
  launched_by v true false = refl
  launched_by v false true = ap Some (sym (old_same (last_line j v)))
  launched_by v false false = refl

  pub launch_greetings : (rows : List Greeting) → ((w : ℕ) → slice_get rows w ≡ greeting_in seats j w)
      → (w : ℕ) → slice_get (with_said rows (lane / 2) call.Ask launch.reply) w ≡ greeting_in seats
      (launch ∷ j) w
  unfolding greeting_in last_line
  launch_greetings rows h v =
      get_update (λ (x : Greeting). silent) rows (lane / 2) v
      ∙ ap (λ (o : Option Greeting). cond (lane / 2 == v) (option_map (λ x. silent) o) o) (h v)
      ∙ launched_by v (lane / 2 == v) (nat_lt v seats)
