-- Nothing is said of a line that wasn't launched yet.
use Rattle.std.proofs.Common.{◌≡◌, ℕ, ◌/◌, ◌<◌, ◌≤◌, ◌==◌, false, not, List, [], ◌∷◌, Option, Some, None, refl, arith}
use Rattle.std.proofs.lemmas.Bool.{ne_eqb, and_right}
use Rattle.run_plan.specs.declared.plan.Plan.{Plan}
use Rattle.exec_journal.specs.Entry.{Entry}
use Rattle.exec_journal.specs.declared.call.Call.{Call}
use Rattle.exec_journal.specs.declared.call.Call.TheVariants as call
use Rattle.exec_journal.specs.declared.reply.Reply.{Reply}
use Rattle.exec_journal.specs.declared.reply.Reply.TheVariants as reply
use Rattle.exec_journal.specs.History.{AtEach}
use Rattle.exec_journal.specs.Entries.{Request, starts, fails, ends, kills, takes, speaks, greets, is_done}
use Rattle.exec_journal.specs.Words.{line_count, started, failed, has_ended, was_killed, was_taken, has_spoken, has_greeted, line_cause, break_at, break_by, if_line, order_of, launch_of, launch_at, sends, sent_on}
use Rattle.exec_journal.specs.Lawful.{Lawful}
use Rattle.exec_journal.specs.Facts.{call_line, reply_line, OfBerth, NameTheirLines, IsFresh}
use Rattle.exec_journal.proofs.Histories.{each_map, ever_none, first_none, latest_none, each_none}
use Rattle.exec_journal.proofs.Lines.{count_grows, lines_named}

-- no line from l on is named
abbrev Below : Option ℕ → ℕ → Type 0
Below (Some k) l = k < l
Below None l = Unit {0}

abbrev NamesBelow : ℕ → List Entry → Entry → Type 0
NamesBelow l j e = Below (call_line e.call) l × Below (reply_line e.reply) l

of_below : (j : List Entry) (o : Option ℕ) (w l : ℕ) → OfBerth j o w → line_count j ≤ l → Below o l
of_below j (Some k) w l h le = let b = h.below in omega arith
of_below j None w l h le = tt

all_below : (j : List Entry) (l : ℕ) → NameTheirLines j → line_count j ≤ l → AtEach (NamesBelow l) j
all_below [] l all le = tt
all_below (e ∷ j) l all le =
    let g = count_grows e j in let before : line_count j ≤ l = omega arith in
    (all_below j l all.0 before, (of_below j (call_line e.call) (e.lane / 2) l all.1.called before, of_below (e ∷ j) (reply_line e.reply) (e.lane / 2) l all.1.replied le))

apart : (k l : ℕ) → k < l → (k == l) ≡ false
apart k l lt = ne_eqb k l (λ e. omega arith)

module _ (l : ℕ) where
  no_start : (c : Call) → Below (call_line c) l → starts l c ≡ false
  no_start (call.Launched k how) lt = and_right (is_done how) (k == l) (apart k l lt)
  no_start _ lt = refl

  no_fail : (c : Call) → Below (call_line c) l → fails l c ≡ false
  no_fail (call.Launched k how) lt = and_right (not (is_done how)) (k == l) (apart k l lt)
  no_fail _ lt = refl

  no_end : (c : Call) → Below (call_line c) l → ends l c ≡ false
  no_end (call.Ended k how) lt = apart k l lt
  no_end _ lt = refl

  no_kill : (c : Call) → Below (call_line c) l → kills l c ≡ false
  no_kill (call.Killed k) lt = apart k l lt
  no_kill _ lt = refl

  no_take : (x : Reply) → Below (reply_line x) l → takes l x ≡ false
  no_take (reply.Line k) lt = apart k l lt
  no_take _ lt = refl

  no_speech : (c : Call) → Below (call_line c) l → speaks l c ≡ false
  no_speech (call.Answer k x) lt = apart k l lt
  no_speech _ lt = refl

  no_greeting : (c : Call) (x : Reply) → Below (call_line c) l → greets l c x ≡ false
  no_greeting (call.Answer k y) reply.Greeted lt = apart k l lt
  no_greeting _ _ lt = refl

  no_send : (x : Reply) → Below (reply_line x) l → sent_on l x ≡ None
  no_send (reply.Send k m a b t) lt = rw (apart k l lt)
  no_send _ lt = refl

  if_none : {X : Type 0} (k : ℕ) (o : Option X) → k < l → if_line k l o ≡ None
  if_none k o lt = rw (apart k l lt)

  no_break : (j : List Entry) (o : Option Request) (c : Call) (x : Reply) → Below (call_line c) l → break_by j o l c x ≡ None
  no_break j o (call.Wrote k m how) x lt = if_none k _ lt
  no_break j o (call.Answer k a) (reply.Breach y) lt = if_none k _ lt
  no_break j o (call.Ended k how) x lt = if_none k _ lt
  no_break j o _ _ lt = refl

  no_launch : (lane : ℕ) (c : Call) (x : Reply) → Below (reply_line x) l → launch_at l (record { lane = lane; call = c; reply = x }) ≡ None
  no_launch lane c (reply.Launch k a b t) lt = rw (apart k l lt)
  no_launch lane c _ lt = refl

pub fresh : (p : Plan) (j : List Entry) (l : ℕ) → Lawful p j → line_count j ≤ l → IsFresh j l
unfolding launch_of started failed line_cause has_ended was_killed was_taken has_spoken has_greeted sends
fresh p j l legal le =
    let below = all_below j l (lines_named p j legal) le in
    record {
      launch = latest_none (λ _ e. launch_at l e) j (each_map (NamesBelow l) _ (λ k e h. no_launch l e.lane e.call e.reply h.1) j below);
      start = ever_none (λ _ e. starts l e.call) j (each_map (NamesBelow l) _ (λ k e h. no_start l e.call h.0) j below);
      fail = ever_none (λ _ e. fails l e.call) j (each_map (NamesBelow l) _ (λ k e h. no_fail l e.call h.0) j below);
      break = first_none (break_at l) j (each_map (NamesBelow l) _ (λ k e h. no_break l k (order_of k e.lane) e.call e.reply h.0) j below);
      end = ever_none (λ _ e. ends l e.call) j (each_map (NamesBelow l) _ (λ k e h. no_end l e.call h.0) j below);
      kill = ever_none (λ _ e. kills l e.call) j (each_map (NamesBelow l) _ (λ k e h. no_kill l e.call h.0) j below);
      take = ever_none (λ _ e. takes l e.reply) j (each_map (NamesBelow l) _ (λ k e h. no_take l e.reply h.1) j below);
      speak = ever_none (λ _ e. speaks l e.call) j (each_map (NamesBelow l) _ (λ k e h. no_speech l e.call h.0) j below);
      greet = ever_none (λ _ e. greets l e.call e.reply) j (each_map (NamesBelow l) _ (λ k e h. no_greeting l e.call e.reply h.0) j below);
      send = each_none (λ _ e. sent_on l e.reply) j (each_map (NamesBelow l) _ (λ k e h. no_send l e.reply h.1) j below);
    }
