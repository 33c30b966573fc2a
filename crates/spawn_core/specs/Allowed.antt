-- What the tables allow a lane is what its script has: an impl of `Rules` cites it.
use Rattle.std.proofs.Common.{◌≡◌, ℕ, ◌*◌, ◌/◌, ◌%◌, ◌<◌, ◌==◌, nat_lt, Bool, true, false, ◌&&◌, ◌||◌, not, cond, List, Option, Some, None, refl, ap, sym, ◌∙◌, arith}
use Rattle.std.proofs.lemmas.Bool.{and_parts, ltb-true}
use Rattle.run_plan.specs.declared.plan.Kind.{Kind}
use Rattle.run_plan.specs.declared.plan.Plan.{Plan}
use Rattle.run_plan.specs.Groups.{is_remote}
use Rattle.exec_journal.specs.declared.call.Call.{Call}
use Rattle.exec_journal.specs.declared.call.Call.TheVariants as call
use Rattle.exec_journal.specs.Entries.{attempt_of, same_attempt}
use Rattle.exec_journal.specs.Entry.{Entry}
use Rattle.exec_journal.specs.declared.reply.Reply.{Reply}
use Rattle.exec_journal.specs.declared.reply.Reply.TheVariants as reply
use Rattle.exec_journal.specs.Lawful.{may_tick}
use Rattle.exec_journal.specs.Scripts.{allowed, is_owed, is_owed_after, is_owed_commit, may_find, outputs_of, seat_script}
use Rattle.exec_journal.specs.Words.{last_work, stopped, has_halted}
use Rattle.exec_journal.proofs.Ruled.{by_bool}
use Rattle.core_contract.specs.Disciplines.{berth_script, script_of}
use Rattle.core_contract.specs.Discipline.{Discipline}
use Rattle.discipline_laws.proofs.Fitting.{scripted_as}
use Rattle.discipline_laws.proofs.Ticking.{known}
use Rattle.core_tables.specs.declared.berth_group.BerthGroup.{BerthGroup}
use Rattle.core_tables.specs.Lanes.{allows_by}
use Rattle.core_state.specs.declared.state.State.{State}
use Rattle.core_laws.specs.Stands.{Stands}
use Rattle.core_laws.proofs.Scripted.{script_is}
use Rattle.spawn_core.specs.Policies.{SaysSeat}
use Rattle.spawn_core.specs.Turns.{asked_for, may_make}

-- ---- a script reads of a kind alone whether it is an executor's

module _ (p : Plan) (k m : Kind) (same : is_remote k ≡ is_remote m) where
  owed_kind : (c : Call) (r : Reply) → is_owed p k c r ≡ is_owed p m c r
  owed_kind (call.Claim a b t f) (reply.Gather l n c d u e v) =
      ap (λ (x : Bool). same_attempt (attempt_of a b t) (attempt_of c d u)
      && may_find (outputs_of p a) x e v f) same
  owed_kind (call.Claim a b t f) _ = refl
  owed_kind (call.Launched l how) (reply.Launch n a b t) = refl
  owed_kind (call.Launched l how) _ = refl
  owed_kind (call.Wrote l n how) (reply.Send i o a b t) = refl
  owed_kind (call.Wrote l n how) (reply.Cancel i o) = refl
  owed_kind (call.Wrote l n how) _ = refl
  owed_kind (call.Killed l) (reply.Kill n y) = refl
  owed_kind (call.Killed l) _ = refl
  owed_kind (call.Look w) r = refl
  owed_kind call.Ask r = refl
  owed_kind (call.Committed a b how) r = refl
  owed_kind call.Take r = refl
  owed_kind (call.Answer l x) r = refl
  owed_kind (call.Ended l how) r = refl
  owed_kind call.Halt r = refl
  owed_kind call.Tick r = refl

  after_kind : (c : Call) (o : Option Entry) → is_owed_after p k c o ≡ is_owed_after p m c o
  after_kind c None = refl
  after_kind c (Some e) = ap (λ (x : Bool). x || is_owed_commit c (Some e)) (owed_kind c e.reply)

  allowed_kind : (proxy : Bool) (o : Option Entry) (c : Call)
      → allowed p k proxy o c ≡ allowed p m proxy o c
  allowed_kind proxy o call.Ask = refl
  allowed_kind proxy o call.Take = refl
  allowed_kind proxy o (call.Answer l x) = refl
  allowed_kind proxy o (call.Ended l how) = refl
  allowed_kind proxy o call.Halt = refl
  allowed_kind proxy o call.Tick = ap (λ (x : Bool). proxy && x) (after_kind call.Tick o)
  allowed_kind proxy o (call.Launched l how) = ap (λ (x : Bool). proxy && x)
      (after_kind (call.Launched l how) o)
  allowed_kind proxy o (call.Wrote l n how) = ap (λ (x : Bool). proxy && x)
      (after_kind (call.Wrote l n how) o)
  allowed_kind proxy o (call.Look w) = ap (λ (x : Bool). proxy && x) (after_kind (call.Look w) o)
  allowed_kind proxy o (call.Claim a b t f) = ap (λ (x : Bool). proxy && x)
      (after_kind (call.Claim a b t f) o)
  allowed_kind proxy o (call.Committed a b how) = ap (λ (x : Bool). proxy && x)
      (after_kind (call.Committed a b how) o)
  allowed_kind proxy o (call.Killed l) = ap (λ (x : Bool). proxy && x) (after_kind (call.Killed l) o)

-- ---- a lane whose script has a call is one of the discipline's berths

pub lane_within : (q : Discipline) (j : List Entry) (lane : ℕ) (c : Call)
    → script_of q j lane c ≡ true → lane / 2 < q.seats
lane_within q j lane c may = known q j lane c (scripted_as q j lane c may)

-- ---- the script of a berth has no Tick

module _ (q : Discipline) (j : List Entry) (lane : ℕ) where
  unowed : (o : Option Entry) → is_owed_after q.plan (q.kinds (lane / 2)) call.Tick o ≡ true → ⊥
  unowed None h = cc
  unowed (Some e) h = cc

  uncommitted : (o : Option Entry) → is_owed_commit call.Tick o ≡ true → ⊥
  uncommitted None h = cc
  uncommitted (Some e) h = cc

  no_tick : berth_script q j lane call.Tick ≡ true → ⊥
  no_tick may =
      let here = and_parts (nat_lt lane (2 * q.seats)) _ may in
      let runs = and_parts (not (stopped j lane)) _ here.1 in
      by_bool (has_halted j lane) (λ b. cond b (is_owed_commit call.Tick (last_work j lane))
      (allowed q.plan (q.kinds (lane / 2)) (lane % 2 == 0) (last_work j lane) call.Tick) ≡ true
      → ⊥)
      (λ _ h. uncommitted (last_work j lane) h)
      (λ _ h. unowed (last_work j lane) (and_parts (lane % 2 == 0) _ h).1) runs.1

  tick_out : berth_script q j lane call.Tick ≡ false
  tick_out = by_bool (berth_script q j lane call.Tick)
      (λ b. berth_script q j lane call.Tick ≡ b → b ≡ false) (λ _ h. absurd (no_tick h))
      (λ _ _. refl) refl

  -- a Tick is in the script of a lane that makes them
  pub ticks_there : script_of q j lane call.Tick ≡ true → q.ticks lane ≡ true
  ticks_there may = by_bool (q.ticks lane)
      (λ b. (b && may_tick (berth_script q j lane call.Ask) None call.Tick)
      || berth_script q j lane call.Tick ≡ true → b ≡ true)
      (λ _ _. refl) (λ _ h. absurd (no_tick h)) may

  tick_asks : (b tick : Bool) → tick ≡ false → b ≡ (b && true) || tick
  tick_asks true tick none = refl
  tick_asks false tick none = sym none

  -- what a lane's script has is in that of its berth, or is a Tick where an Ask is
  script_by : (ticks : Bool) (c : Call) → berth_script q j lane (asked_for ticks c)
      ≡ (ticks && may_tick (berth_script q j lane call.Ask) None c) || berth_script q j lane c
  script_by false c = refl
  script_by true call.Tick =
      tick_asks (berth_script q j lane call.Ask) (berth_script q j lane call.Tick) tick_out
  script_by true call.Ask = refl
  script_by true (call.Launched l how) = refl
  script_by true (call.Wrote l n how) = refl
  script_by true (call.Look w) = refl
  script_by true (call.Claim a b t f) = refl
  script_by true (call.Committed a b how) = refl
  script_by true (call.Killed l) = refl
  script_by true call.Take = refl
  script_by true (call.Answer l x) = refl
  script_by true (call.Ended l how) = refl
  script_by true call.Halt = refl

-- ---- what the tables allow

abbrev pub is_tick : Call → Bool
is_tick call.Tick = true
is_tick _ = false

pub asked_same : (ticks : Bool) (c : Call) → is_tick c ≡ false → asked_for ticks c ≡ c
asked_same false c other = refl
asked_same true call.Tick other = absurd (cc)
asked_same true call.Ask other = refl
asked_same true (call.Launched l how) other = refl
asked_same true (call.Wrote l n how) other = refl
asked_same true (call.Look w) other = refl
asked_same true (call.Claim a b t f) other = refl
asked_same true (call.Committed a b how) other = refl
asked_same true (call.Killed l) other = refl
asked_same true call.Take other = refl
asked_same true (call.Answer l x) other = refl
asked_same true (call.Ended l how) other = refl
asked_same true call.Halt other = refl

module _ (q : Discipline) (s : State) (j : List Entry) (lane : ℕ) (seat : BerthGroup)
    (st : Stands q.plan q.seats s j)
    (remote : lane / 2 < q.seats → is_remote seat.kind ≡ is_remote (q.kinds (lane / 2))) where
  by_kind : (c : Call) → seat_script q.seats (λ _. seat.kind) q.plan j lane c
      ≡ berth_script q j lane c
  by_kind c = by_bool (nat_lt lane (2 * q.seats)) (λ b. nat_lt lane (2 * q.seats) ≡ b
      → b && (not (stopped j lane) && cond (has_halted j lane) (is_owed_commit c (last_work j lane))
      (allowed q.plan seat.kind (lane % 2 == 0) (last_work j lane) c))
      ≡ b && (not (stopped j lane) && cond (has_halted j lane) (is_owed_commit c (last_work j lane))
      (allowed q.plan (q.kinds (lane / 2)) (lane % 2 == 0) (last_work j lane) c)))
      (λ yes _. let l = ltb-true lane (2 * q.seats) yes in
      ap (λ (x : Bool). not (stopped j lane) && cond (has_halted j lane)
      (is_owed_commit c (last_work j lane)) x)
      (allowed_kind q.plan seat.kind (q.kinds (lane / 2)) (remote (omega (arith, l)))
      (lane % 2 == 0) (last_work j lane) c))
      (λ _ _. refl) refl

  berth_allows : (c : Call) → allows_by s.plan seat.kind s.lanes lane c ≡ berth_script q j lane c
  berth_allows c =
      ap (λ (p : Plan). allows_by p seat.kind s.lanes lane c) st.plan
      ∙ script_is q.plan q.seats seat.kind j s.lanes lane c (st.lanes lane) ∙ by_kind c

  pub allowed_is : (c : Call)
      → may_make s seat.kind (q.ticks lane) lane c ≡ script_of q j lane c
  allowed_is c =
      berth_allows (asked_for (q.ticks lane) c) ∙ script_by q j lane (q.ticks lane) c

  -- so of any call but a Tick
  pub allowed_plain : (c : Call) → is_tick c ≡ false
      → allows_by s.plan seat.kind s.lanes lane c ≡ script_of q j lane c
  allowed_plain c other =
      sym (ap (allows_by s.plan seat.kind s.lanes lane) (asked_same (q.ticks lane) c other))
      ∙ allowed_is c

-- a berth of which nothing is said
pub none_scripted : (q : Discipline) (j : List Entry) (lane : ℕ) (c : Call) (o : Option BerthGroup)
    → (lane / 2 < q.seats → SaysSeat q j (lane / 2) o) → o ≡ None → script_of q j lane c ≡ false
none_scripted q j lane c o says at =
    by_bool (script_of q j lane c) (λ b. script_of q j lane c ≡ b → b ≡ false)
    (λ _ h. absurd (let y = says (lane_within q j lane c h) in let z = sym y.is ∙ at in cc))
    (λ _ _. refl) refl
