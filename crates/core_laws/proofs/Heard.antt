-- What an answer that is consumed makes of a state that stands for a journal.
use Rattle.std.proofs.Common.{◌≡◌, ℕ, ◌/◌, ◌==◌, nat_lt, Bool, true, false, ◌&&◌, cond, List, [], ◌∷◌, ◌++◌, length, map, reverse, Option, Some, None, option_map, refl, ap, sym, ◌∙◌}
use Rattle.std.specs.Prelude.{slice_get}
use Rattle.arrayvec.specs.ArrayVec.{ArrayVec}
use Rattle.run_plan.specs.declared.plan.Plan.{Plan}
use Rattle.exec_journal.specs.declared.attempt.Attempt.{Attempt}
use Rattle.exec_journal.specs.Entry.{Entry}
use Rattle.exec_journal.specs.declared.call.Answer.{Answer}
use Rattle.exec_journal.specs.declared.call.Call.TheVariants as call
use Rattle.exec_journal.specs.declared.reply.Reply.TheVariants as reply
use Rattle.exec_journal.specs.Facts.{SameActions}
use Rattle.list_lemmas.specs.Options.{and_more}
use Rattle.exec_journal.specs.Rules.{gathered}
use Rattle.exec_journal.specs.Words.{halted, last_line, wrote, granted, grant_of}
use Rattle.list_lemmas.proofs.Updates.{get_update}
use Rattle.worker_pool.specs.Entries.{IsPendingOn}
use Rattle.worker_pool.proofs.Freed.{answers_kept, answer_actions}
use Rattle.request_table.specs.Entries.{IsKnownBy}
use Rattle.request_table.proofs.Kept as asks
use Rattle.request_table.proofs.Lists.{reverse_front}
use Rattle.cancel_rules.proofs.Followed as marks
use Rattle.core_tables.specs.declared.matches.Match.{Match}
use Rattle.core_state.specs.declared.state.State.{State}
use Rattle.core_tables.specs.Matches.{match_in, matches_in, with_match, on_row}
use Rattle.call_laws.specs.Matches.{Matched, recent, is_spent}
use Rattle.core_state.specs.Noted.{noted_after}
use Rattle.core_state.specs.Reports.{new_match, heard_late, heard_match}
use Rattle.core_laws.specs.Stands.{Stands, MayCall}
use Rattle.core_laws.proofs.Own.{lanes_kept, last_kept, matches_kept, IsQuiet, SpendsNone, ready_kept, race_kept, attempts_kept, map_matches}
use Rattle.core_laws.proofs.Greeted.{answer_greetings}
use Rattle.exec_journal.specs.Lawful.{plain_reply}

module _ (p : Plan) (seats : ℕ) (s : State) (j : List Entry) (lane l : ℕ) (x : Answer) (t : Attempt)
    (st : Stands p seats s j) (may : MayCall p seats j lane (call.Answer l x))
    (here : last_line j (lane / 2) ≡ Some l)
    (on : IsPendingOn j t l) (known : IsKnownBy j l x.number t) where
  -- ---- Late

  module _ (is : reply.Late t.action t.branch t.number ≡ plain_reply p j lane (call.Answer l x)) where
    abbrev late_entry : Entry
    late_entry = record {
      lane = lane;
      call = call.Answer l x;
      reply = reply.Late t.action t.branch t.number;
    }

    late_same : SameActions j (late_entry ∷ j)
    late_same = answer_actions p seats s.pool j lane l x (reply.Late t.action t.branch t.number) t st.pool
        refl

    late_quiet : IsQuiet seats j late_entry
    unfolding wrote
    late_quiet = record {
      no_launch = refl;
      no_send = refl;
      no_take = λ m. refl;
      no_break = λ m. refl;
      no_feed = λ u. refl;
    }

    late_spends : SpendsNone seats j late_entry
    unfolding wrote granted grant_of gathered
    late_spends = record { no_send = refl; no_match = refl; same = λ u. refl }

    pub late_stands : Stands p seats (noted_after (heard_late s l x.number) lane (call.Answer l x)
        (reply.Late t.action t.branch t.number)) (late_entry ∷ j)
    unfolding halted
    late_stands = record {
      plan = st.plan;
      sound = st.sound;
      lawful = (st.lawful, record { scripted = may.scripted; told = is; kept = refl });
      seated = (st.seated, may.berth);
      few = st.few;
      pool = answers_kept p seats s.pool j lane l x (reply.Late t.action t.branch t.number) t st.pool refl
          on;
      requests = asks.answers j lane l x (reply.Late t.action t.branch t.number) t refl p s.requests
          st.requests known;
      cancels = marks.answers p s.cancels j lane l x (reply.Late t.action t.branch t.number) t
          st.cancels refl known;
      ready = ready_kept p j late_entry late_same refl s.ready st.ready;
      race = race_kept p j late_entry late_same refl s.race st.race;
      attempts = attempts_kept p j late_entry late_same refl s.attempts st.attempts;
      lanes = lanes_kept seats j late_entry s.lanes st.lanes;
      greetings = answer_greetings p seats s j lane l x (reply.Late t.action t.branch t.number) st here
          refl;
      last = last_kept seats j late_entry late_quiet s.last st.last;
      matches = matches_kept seats j late_entry late_spends s.matches st.matches;
      halted = st.halted;
    }

  -- ---- Matched

  module _ (is : reply.Matched t.action t.branch t.number ≡ plain_reply p j lane (call.Answer l x))
      (waits : is_spent j t ≡ false) where
    abbrev match_entry : Entry
    match_entry = record {
      lane = lane;
      call = call.Answer l x;
      reply = reply.Matched t.action t.branch t.number;
    }

    match_actions : SameActions j (match_entry ∷ j)
    match_actions = answer_actions p seats s.pool j lane l x
        (reply.Matched t.action t.branch t.number) t st.pool refl

    match_quiet : IsQuiet seats j match_entry
    unfolding wrote
    match_quiet = record {
      no_launch = refl;
      no_send = refl;
      no_take = λ m. refl;
      no_break = λ m. refl;
      no_feed = λ u. refl;
    }

    abbrev matched : Matched
    matched = record {
      line = l;
      number = x.number;
      attempt = t;
      exit = x.exit;
      refused = nat_lt 0 (length x.refusal);
    }

    spent_same : (u : Attempt) → is_spent (match_entry ∷ j) u ≡ is_spent j u
    unfolding wrote granted grant_of gathered
    spent_same u = refl

    old_same : (m : Matched) → match_in (match_entry ∷ j) m ≡ match_in j m
    old_same m = ap (λ b. record {
      line = m.line;
      number = m.number;
      attempt = m.attempt;
      exit = m.exit;
      refused = m.refused;
      spent = b;
    }) (spent_same m.attempt)

    new_is : new_match l x t ≡ match_in (match_entry ∷ j) matched
    new_is = ap (λ b. record {
      line = l;
      number = x.number;
      attempt = t;
      exit = x.exit;
      refused = nat_lt 0 (length x.refusal);
      spent = b;
    }) (sym waits ∙ sym (spent_same t))

    abbrev rec : List Match → ArrayVec Match
    rec xs = record { items = xs }

    row_now : (w : ℕ) → reverse (map (match_in j) (recent j w)) ++ new_match l x t ∷ [] ≡ reverse
        (map (match_in (match_entry ∷ j)) (matched ∷ recent j w))
    row_now w =
        (λ i. reverse (map_matches seats j match_entry (match_in j) (match_in (match_entry ∷ j))
        (recent j w) (λ m. sym (old_same m)) i) ++ new_is i ∷ [])
        ∙ sym (reverse_front (match_in (match_entry ∷ j) matched)
        (map (match_in (match_entry ∷ j)) (recent j w)))

    one_more : (w : ℕ) (b known_too : Bool) → cond b (option_map
        (on_row (λ ms. ms ++ new_match l x t ∷ [])) (cond known_too
        (Some (rec (reverse (map (match_in j) (recent j w))))) None))
        (cond known_too (Some (rec (reverse (map (match_in j) (recent j w))))) None)
        ≡ cond known_too (Some (rec (reverse (map (match_in (match_entry ∷ j))
        (cond (b && false) [] (and_more (cond b (Some matched) None) (recent j w))))))) None
    one_more w true true = ap (λ xs. Some (rec xs)) (row_now w)
    one_more w true false = refl
    one_more w false true = ap (λ xs. Some (rec (reverse xs)))
        (map_matches seats j match_entry (match_in j) (match_in (match_entry ∷ j)) (recent j w)
        (λ m. sym (old_same m)))
    one_more w false false = refl

    matches_is : (w : ℕ) → slice_get (with_match s.matches (lane / 2) (new_match l x t)) w
        ≡ matches_in seats (match_entry ∷ j) w
    unfolding matches_in recent
    matches_is w =
        get_update (on_row (λ ms. ms ++ new_match l x t ∷ [])) s.matches (lane / 2) w
        ∙ ap (λ (o : Option (ArrayVec Match)). cond (lane / 2 == w)
        (option_map (on_row (λ ms. ms ++ new_match l x t ∷ [])) o) o) (st.matches w)
        ∙ one_more w (lane / 2 == w) (nat_lt w seats)

    pub match_stands : Stands p seats (noted_after (heard_match s (lane / 2) l x t) lane (call.Answer l x)
        (reply.Matched t.action t.branch t.number)) (match_entry ∷ j)
    unfolding halted
    match_stands = record {
      plan = st.plan;
      sound = st.sound;
      lawful = (st.lawful, record { scripted = may.scripted; told = is; kept = refl });
      seated = (st.seated, may.berth);
      few = st.few;
      pool = answers_kept p seats s.pool j lane l x (reply.Matched t.action t.branch t.number) t st.pool
          refl on;
      requests = asks.answers j lane l x (reply.Matched t.action t.branch t.number) t refl p
          s.requests st.requests known;
      cancels = marks.answers p s.cancels j lane l x (reply.Matched t.action t.branch t.number) t
          st.cancels refl known;
      ready = ready_kept p j match_entry match_actions refl s.ready st.ready;
      race = race_kept p j match_entry match_actions refl s.race st.race;
      attempts = attempts_kept p j match_entry match_actions refl s.attempts st.attempts;
      lanes = lanes_kept seats j match_entry s.lanes st.lanes;
      greetings = answer_greetings p seats s j lane l x (reply.Matched t.action t.branch t.number) st here
          refl;
      last = last_kept seats j match_entry match_quiet s.last st.last;
      matches = matches_is;
      halted = st.halted;
    }
