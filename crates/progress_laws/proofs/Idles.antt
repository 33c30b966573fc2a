-- What holds where a lane that may ask would be told Idle: none of the rules fits.
use Rattle.std.proofs.Common.{◌≡◌, ℕ, ◌/◌, ◌==◌, nat_lt, Bool, true, false, ◌&&◌, not, cond, List, [], ◌∷◌, Option, Some, None, option_map, unwrap_or, inl, inr, refl, ◌∙◌}
use Rattle.std.specs.List.{filter}
use Rattle.run_plan.specs.declared.plan.Kind.{Kind}
use Rattle.run_plan.specs.declared.plan.Plan.{Plan}
use Rattle.exec_journal.specs.declared.attempt.Attempt.{Attempt}
use Rattle.exec_journal.specs.declared.call.Call.{Call}
use Rattle.exec_journal.specs.declared.reply.Reply.{Reply}
use Rattle.exec_journal.specs.declared.reply.Reply.TheVariants as reply
use Rattle.exec_journal.specs.declared.reply.Why.TheVariants as why
use Rattle.exec_journal.specs.Entry.{Entry}
use Rattle.exec_journal.specs.Rules as r
use Rattle.exec_journal.specs.Settled.{bound, free_places}
use Rattle.exec_journal.specs.Words.{live, pending, line_cause, started, was_taken, why_of, has_cancel}
use Rattle.exec_journal.proofs.Ruled as ru
use Rattle.exec_journal.proofs.Ruled.{by_bool}
use Rattle.exec_journal.proofs.Histories.{AtSome}
use Rattle.list_lemmas.specs.Options.{or_else}

-- where the rule fits, its order isn't Idle
abbrev pub NeverIdle : Option Reply → Type 0
NeverIdle o = (x : Reply) → o ≡ Some x → x ≡ reply.Idle → ⊥

next_none : (o rest : Option Reply) → NeverIdle o → unwrap_or
    (or_else o rest) reply.Idle ≡ reply.Idle → (o ≡ None) × (unwrap_or rest reply.Idle ≡ reply.Idle)
next_none (Some x) rest never h = absurd (never x refl h)
next_none None rest never h = (refl, h)

last_none : (o : Option Reply) → NeverIdle o → unwrap_or o reply.Idle ≡ reply.Idle → o ≡ None
last_none (Some x) never h = absurd (never x refl h)
last_none None never h = refl

-- ---- no rule says Idle

pub when_never : (b : Bool) (x : Reply) → (x ≡ reply.Idle → ⊥) → NeverIdle (r.when b x)
when_never true x n y h idle = (let same : x ≡ y = cc in n (same ∙ idle))
when_never false x n y h idle = absurd (cc)

pub leave_never : (j : List Entry) (o : Option ℕ) → r.leave j o ≡ reply.Idle → ⊥
leave_never j None h = cc
leave_never j (Some l) h = by (r.runs j l) h
  where
    by : (b : Bool) → cond b (reply.Kill l why.Quit) reply.Stop ≡ reply.Idle → ⊥
    by true k1 = cc
    by false k1 = cc

pub map_never : {X : Type 0} (o : Option X) (f : X → Reply) → ((x : X) → f x ≡ reply.Idle → ⊥)
    → NeverIdle (option_map f o)
map_never (Some x) f n y h idle = (let same : f x ≡ y = cc in n x (same ∙ idle))
map_never None f n y h idle = absurd (cc)

pub if_never : (b : Bool) (o : Option Reply) → NeverIdle o → NeverIdle (cond b o None)
if_never true o n = n
if_never false o n = λ y h idle. absurd (cc)

broken_never : (j : List Entry) (o : Option ℕ) → NeverIdle (r.kills_broken j o)
broken_never j None = λ y h idle. absurd (cc)
broken_never j (Some l) =
    if_never (r.runs j l) _ (map_never (line_cause j l) (λ y. reply.Kill l (why_of y)) (λ y h. cc))

unwanted_never : (p : Plan) (j : List Entry) (k : Kind) (g : ℕ) (o : Option ℕ)
    → NeverIdle (r.kills_unwanted_of p j k g o)
unwanted_never p j k g None = λ y h idle. absurd (cc)
unwanted_never p j k g (Some l) = when_never _ (reply.Kill l why.Unwanted) (λ h. cc)

gathers_never : (j : List Entry) (w : ℕ) → NeverIdle (r.gathers_next j w)
gathers_never j w x h idle = by j (ru.gathers_from j w x h)
  where
    form : (d : Call) (y z : Reply) → ru.GatherFor j d y z → z ≡ reply.Idle → ⊥
    form d y z (ru.For l a b n t ready) m = cc

    by : (i : List Entry) → AtSome (λ _ e. ((e.lane / 2 == w) ≡ true)
        × ru.GatherFor j e.call e.reply x) i → ⊥
    by [] m = absurd m
    by (e ∷ i) (inl m) = form e.call e.reply x m.1 idle
    by (e ∷ i) (inr m) = by i m

cancels_never : (p : Plan) (j : List Entry) (k : Kind) (g : ℕ) (o : Option ℕ)
    → NeverIdle (r.cancels_next_of p j k g o)
cancels_never p j k g None = λ y h idle. absurd (cc)
cancels_never p j k g (Some l) =
    if_never _ _ (map_never (r.oldest (filter (λ y. r.is_unwanted p j y && not (has_cancel j y))
    (pending j l))) r.cancel_for (λ y h. cc))

sends_never : (p : Plan) (j : List Entry) (k : Kind) (next : Option Attempt) (o : Option ℕ)
    → NeverIdle (r.sends_next_of p j k next o)
sends_never p j k next None = λ y h idle. absurd (cc)
sends_never p j k next (Some l) =
    if_never (live j l) _ (map_never (r.next_of p j k next l) (r.send_order_of j k l) (λ y h. cc))

-- ---- a lane that is told Idle

-- the lane of the berth w, whose last line, of kind k and group g, is `last`: neither what is next
-- in
-- that group nor what is ordered where nothing is sent is ordered
pub record IsIdle (p : Plan) (j : List Entry) (w : ℕ) (k : Kind) (g : ℕ) (last : Option ℕ)
    (next : Option Attempt) (more : Option Reply) : Type 0 where
  pub whole : r.kills_broken j last ≡ None
  pub unkilled : r.kills_unwanted_of p j k g last ≡ None
  pub uncancelled : r.cancels_next_of p j k g last ≡ None
  pub ungathered : r.gathers_next j w ≡ None
  pub unsent : r.sends_next_of p j k next last ≡ None
  pub no_more : more ≡ None

pub idle_asks : (p : Plan) (j : List Entry) (w : ℕ) (k : Kind) (g : ℕ) (last : Option ℕ)
    (next : Option Attempt) (more : Option Reply) → NeverIdle more
    → r.ask_of p j w k g last next more ≡ reply.Idle → IsIdle p j w k g last next more
idle_asks p j w k g last next more never h =
    let a = next_none (r.quits p j last) _ (when_never (r.is_over p j) (r.leave j last)
    (leave_never j last)) h in
    let b = next_none (r.kills_broken j last) _ (broken_never j last) a.1 in
    let c = next_none (r.kills_unwanted_of p j k g last) _ (unwanted_never p j k g last) b.1 in
    let d = next_none (r.gathers_next j w) _ (gathers_never j w) c.1 in
    let e = next_none (r.cancels_next_of p j k g last) _ (cancels_never p j k g last) d.1 in
    let f = next_none (r.sends_next_of p j k next last) more (sends_never p j k next last) e.1 in
    record {
      whole = b.0;
      unkilled = c.0;
      uncancelled = e.0;
      ungathered = d.0;
      unsent =
          f.0;
      no_more = last_none more never f.1;
    }

-- then the run goes on: a lane that asks where all is over is told more
pub idle_on : (p : Plan) (j : List Entry) (w : ℕ) (k : Kind) (g : ℕ) (last : Option ℕ)
    (next : Option Attempt) (more : Option Reply) → r.ask_of p j w k g last next more ≡ reply.Idle
    → r.is_over p j ≡ false
idle_on p j w k g last next more h =
    by (r.is_over p j) (next_none (r.quits p j last) _
    (when_never (r.is_over p j) (r.leave j last) (leave_never j last)) h).0
  where
    by : (b : Bool) → r.when b (r.leave j last) ≡ None → b ≡ false
    by true m = absurd (cc)
    by false m = refl

-- so is a lane that takes
pub take_on : (p : Plan) (j : List Entry) (last : Option ℕ) → r.take_reply p j last ≡ reply.Idle
    → r.is_over p j ≡ false
take_on p j None h = unstopped (r.is_over p j) h
  where
    unstopped : (b : Bool) → cond b reply.Stop reply.Idle ≡ reply.Idle → b ≡ false
    unstopped true m = absurd (cc)
    unstopped false m = refl
take_on p j (Some l) h = by (started j l && not (was_taken j l)) (r.is_over p j) h
  where
    by : (a b : Bool) → cond a (reply.Line l) (cond b reply.Stop reply.Idle) ≡ reply.Idle
        → b ≡ false
    by true b m = absurd (cc)
    by false true m = absurd (cc)
    by false false m = refl

-- a live line gets nothing: nothing is bound there, and where a place is free nothing is next
pub live_unsent : (p : Plan) (j : List Entry) (k : Kind) (next : Option Attempt) (l : ℕ)
    → r.sends_next_of p j k next (Some l) ≡ None → live j l ≡ true → (bound p j l ≡ None)
    × (nat_lt 0 (free_places p j k l) ≡ true → next ≡ None)
live_unsent p j k next l h up = by (live j l) up (bound p j l) h
  where
    then_none : (b : Bool) → option_map (r.send_order_of j k l) (cond b next None) ≡ None → b ≡ true
        → next ≡ None
    then_none true m y = none next m
      where
        none : (o : Option Attempt) → option_map (r.send_order_of j k l) o ≡ None → o ≡ None
        none None z = refl
        none (Some t) z = absurd (cc)
    then_none false m y = absurd (cc)

    by : (b : Bool) → b ≡ true → (o : Option Attempt)
        → cond b (option_map (r.send_order_of j k l) (or_else o
        (cond (nat_lt 0 (free_places p j k l)) next None))) None ≡ None → (o ≡ None)
        × (nat_lt 0 (free_places p j k l) ≡ true → next ≡ None)
    by true y None m = (refl, λ z. then_none (nat_lt 0 (free_places p j k l)) m z)
    by true y (Some t) m = absurd (cc)
    by false y o m = absurd (cc)
