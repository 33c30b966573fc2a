-- What holds where a lane is ordered so, where a line is started, and where it is given.
use Rattle.std.proofs.Common.{◌∷◌, ◌≡◌, ℕ, ◌/◌, ◌%◌, ◌==◌, true, false, cond, ◌&&◌, ◌||◌, not, List, length, Option, Some, None, refl, ap, sym, subst, ◌∙◌}
use Rattle.std.proofs.lemmas.Bool.{and_parts}
use Rattle.run_plan.specs.declared.plan.Plan.{Plan}
use Rattle.run_plan.specs.declared.plan.Kind.TheVariants as kind
use Rattle.run_plan.specs.Groups.{is_remote}
use Rattle.exec_journal.specs.declared.call.Call.{Call}
use Rattle.exec_journal.specs.declared.call.Call.TheVariants as call
use Rattle.exec_journal.specs.declared.call.Started.TheVariants as start
use Rattle.exec_journal.specs.Entry.{Entry}
use Rattle.exec_journal.specs.declared.reply.Reply.{Reply}
use Rattle.exec_journal.specs.declared.reply.Reply.TheVariants as reply
use Rattle.exec_journal.specs.declared.reply.Why.TheVariants as why
use Rattle.exec_journal.specs.Entries.{Request, attempt_of, is_kept}
use Rattle.exec_journal.specs.Lawful.{Lawful}
use Rattle.exec_journal.specs.Rules as r
use Rattle.exec_journal.specs.Lawful as lw
use Rattle.exec_journal.specs.Seated.{line_kind}
use Rattle.core_contract.specs.Disciplines.{IsDiscipline, script_of}
use Rattle.core_contract.specs.Discipline.{Discipline}
use Rattle.core_contract.specs.Ruled.{CameAbout, answer_after, journal_of}
use Rattle.exec_journal.specs.Scripts.{allowed, is_owed_commit}
use Rattle.exec_journal.specs.Words.{last_work, last_line, started, was_killed, kill_ordered, live, broke, has_halted, stopped, line_count, was_taken, pending}
use Rattle.exec_journal.proofs.Histories.{all_filter, all_oldest}
use Rattle.exec_journal.proofs.Lines.{pending_line}
use Rattle.exec_journal.proofs.Reasons as u
use Rattle.exec_journal.proofs.Ruled.{by_bool, not_true}
use Rattle.journal_laws.proofs.Claims.{clash, false_by}
use Rattle.journal_laws.proofs.Given as given
use Rattle.journal_laws.proofs.Lanes as lanes
use Rattle.call_laws.proofs.Calls as calls
use Rattle.call_laws.proofs.LastLines as last
use Rattle.core_contract.specs.Laws.{OrderFits, OrderHolds, InScript, lines_in, is_taken}
use Rattle.core_contract.specs.Moves.{History}
use Rattle.core_contract.specs.Shelf.{child_at, tap_at}
use Rattle.discipline_laws.proofs.Bridging.{child_is, tap_is, lines_are, taken_is}
use Rattle.discipline_laws.proofs.Fitting.{answer_is, anywhere, lawful, scripted_so}
use Rattle.discipline_laws.proofs.Lying.{child_in, child_of, child_lies, tap_lies, there_is, none_down, none_gone, vacant_child, proxy_of, launched_unstarted}
use Rattle.discipline_laws.proofs.Steps.{ask_even, launched_even}

-- ---- a call in its script, that isn't a Committed, comes from a lane that hasn't halted

running : (p : Plan) (j : List Entry) (lane : ℕ) (c : Call) → lw.in_script p j lane c ≡ true
    → (is_owed_commit c (last_work j lane) ≡ true → ⊥) → has_halted j lane ≡ false
running p j lane c may uncommitted =
    let runs = and_parts (not (stopped j lane)) _ may in
    by_bool (has_halted j lane) (λ b. cond b (is_owed_commit c (last_work j lane))
    (lw.may_tick (lane % 2 == 0) (last_work j lane) c || allowed p kind.Single (lane % 2 == 0) (last_work j lane) c) ≡ true → b ≡ false)
    (λ _ g. absurd (uncommitted g)) (λ _ g. refl) runs.1

module _ (p : Plan) (j : List Entry) (lane : ℕ) (legal : Lawful p j)
    (may : lw.in_script p j lane call.Ask ≡ true) where
  abbrev here : Option ℕ
  here = last_line j (lane / 2)

  abbrev child : Option ℕ
  child = child_in (lane / 2) j

  abbrev asked : Reply → Entry
  asked x = record { lane = lane; call = call.Ask; reply = x }

  next : (x : Reply) → lw.Asked p j (lane / 2) x → is_kept x ≡ true → Lawful p (asked x ∷ j)
  next x told kept = (legal, record { scripted = may; told = told; kept = kept })

  child_so : child ≡ child_of j here
  child_so = child_lies p (lane / 2) j legal
      (ap (has_halted j) (proxy_of lane (ask_even p j lane may))
      ∙ running p j lane call.Ask may (λ h. cc))

  runs_here : (x : Reply) → lw.Asked p j (lane / 2) x → is_kept x ≡ true → (l : ℕ) → here ≡ Some l → r.runs j l ≡ true
      → child ≡ Some l
  runs_here x told kept l is runs =
      let parts = and_parts (started j l) _ runs in
      child_so ∙ there_is (started j) (kill_ordered j) here l is parts.0
      (false_by _ (λ old. clash (was_killed j l)
      (lanes.asked_killed p (asked x) j l (next x told kept) refl
      (lanes.here_own p j (lane / 2) l legal is) old)
      (not_true _ parts.1)))

  live_here : (x : Reply) → lw.Asked p j (lane / 2) x → is_kept x ≡ true → (l : ℕ) → here ≡ Some l → live j l ≡ true
      → child ≡ Some l
  unfolding live
  live_here x told kept l is alive =
      let up = and_parts (started j l) _ alive in
      let whole = and_parts (not (broke j l)) _ up.1 in
      runs_here x told kept l is (λ i. up.0 i && whole.1 i)

  -- where it is told to stop, no child lies there
  stops_none : (o : Option ℕ) → here ≡ o → r.leave j o ≡ reply.Stop → child_of j o ≡ None
  stops_none None is h = refl
  stops_none (Some l) is h =
      by_bool (started j l) (λ b. started j l ≡ b → child_of j (Some l) ≡ None)
      (λ _ up. by_bool (was_killed j l) (λ b. was_killed j l ≡ b → child_of j (Some l) ≡ None)
      (λ _ killed. none_gone (started j) (kill_ordered j) (Some l) l refl
      (given.killed_ordered p j l legal killed))
      (λ _ kept. absurd (let stays : r.leave j (Some l) ≡ reply.Kill l why.Quit =
      (λ i. cond (up i && not (kept i)) (reply.Kill l why.Quit) reply.Stop) in
      let both : reply.Kill l why.Quit ≡ reply.Stop = sym stays ∙ h in cc)) refl)
      (λ _ down. none_down (started j) (kill_ordered j) (Some l) l refl down) refl

  order_holds : (x : Reply) → lw.Asked p j (lane / 2) x → OrderHolds (length p.actions) child (line_count j) x
  order_holds x (lw.Quits l at run over) = runs_here x (lw.Quits l at run over) refl l at run
  order_holds x (lw.KillsBroken l y at run broken over) = runs_here x (lw.KillsBroken l y at run broken over) refl l at run
  order_holds x (lw.KillsUnwanted l at run one none unwanted over) =
      runs_here x (lw.KillsUnwanted l at run one none unwanted over) refl l at run
  order_holds x (lw.Evicts l at alive empty free none) = live_here x (lw.Evicts l at alive empty free none) refl l at alive
  order_holds x (lw.Stops over gone) = child_so ∙ stops_none here refl gone
  order_holds x (lw.Gathers l n a b t e v nexts over) =
      calls.gather_within p (asked x) j (attempt_of a b t) (next x (lw.Gathers l n a b t e v nexts over) refl) refl
  order_holds x (lw.Cancels l q at alive can which none) =
      let line : q.line ≡ l = all_oldest (λ (z : Request). z.line ≡ l) _ q
      (all_filter (λ (z : Request). z.line ≡ l) _ (pending j l) (pending_line j l)) which in
      live_here x (lw.Cancels l q at alive can which none) refl l at alive ∙ ap Some (sym line)
  order_holds x (lw.Sends l t at alive goes none) = (
    calls.send_within p (asked x) j (record {
      line = l;
      number = r.number_of j (line_kind p j l) l;
      attempt = attempt_of t.action t.branch t.number;
    }) (next x (lw.Sends l t at alive goes none) refl) refl,
    live_here x (lw.Sends l t at alive goes none) refl l at alive,
  )
  order_holds x (lw.Launches g t free goes none) = (refl, child_so ∙ vacant_child p j here legal free)
  order_holds x lw.Idles = tt

-- what an order says holds
pub orders_hold : (q : Discipline) → IsDiscipline q → (h : History) (lane : ℕ) → CameAbout q h
    → OrderHolds (length q.plan.actions) (child_at (lane / 2) h) (lines_in h)
    (answer_after q h lane call.Ask)
orders_hold q is h lane came =
    by_bool (script_of q (journal_of h) lane call.Ask)
    (λ b. script_of q (journal_of h) lane call.Ask ≡ b
    → OrderHolds (length q.plan.actions) (child_at (lane / 2) h) (lines_in h)
    (cond b (q.rule (journal_of h) lane call.Ask) reply.Astray))
    (λ _ may. subst (λ (o : Option ℕ). OrderHolds (length q.plan.actions) o (lines_in h)
    (q.rule (journal_of h) lane call.Ask)) (sym (child_is (lane / 2) h))
    (subst (λ (n : ℕ). OrderHolds (length q.plan.actions) (child_in (lane / 2) (journal_of h)) n
    (q.rule (journal_of h) lane call.Ask)) (sym (lines_are h))
    (order_holds q.plan (journal_of h) lane (lawful q is (journal_of h) came.legal) (anywhere q (journal_of h) lane call.Ask may)
    (q.rule (journal_of h) lane call.Ask) (is.told (journal_of h) lane call.Ask came.legal may))))
    (λ _ _. tt) refl

-- and it is of an attempt whose group is an executor's exactly where the berth is
pub orders_fit : (q : Discipline) → IsDiscipline q → (h : History) (lane : ℕ) → CameAbout q h
    → OrderFits q.plan (is_remote (q.kinds (lane / 2))) (answer_after q h lane call.Ask)
orders_fit q is h lane came =
    let j = journal_of h in
    let remote = is_remote (q.kinds (lane / 2)) in
    by_bool (script_of q j lane call.Ask)
    (λ b. script_of q j lane call.Ask ≡ b
    → OrderFits q.plan remote (cond b (q.rule j lane call.Ask) reply.Astray))
    (λ _ may. is.seated j lane came.sound came.legal may) (λ _ _. tt) refl

-- nothing lies on the shelf for the berth where a line is put there
pub lines_find_room : (q : Discipline) → IsDiscipline q → (h : History) (lane l : ℕ) → CameAbout q h
    → InScript (answer_after q) h lane (call.Launched l start.Done)
    → (child_at (lane / 2) h ≡ None) × (tap_at (lane / 2) h ≡ None)
lines_find_room q is h lane l came fit =
    let p = q.plan in
    let j = journal_of h in
    let good = lawful q is j came.legal in
    let may = anywhere q j lane (call.Launched l start.Done) (scripted_so q h lane (call.Launched l start.Done) fit) in
    let at = last.names_last p j lane l (call.Launched l start.Done) good may refl in
    let down = launched_unstarted p j lane l start.Done good may in
    let even = launched_even p j lane l start.Done may in
    let runs = ap (has_halted j) (proxy_of lane even)
    ∙ running p j lane (call.Launched l start.Done) may (λ h. cc) in (
      child_is (lane / 2) h ∙ (child_lies p (lane / 2) j good runs
          ∙ none_down (started j) (kill_ordered j) (last_line j (lane / 2)) l at down),
      tap_is (lane / 2) h ∙ (tap_lies p (lane / 2) j good
          ∙ none_down (started j) (was_taken j) (last_line j (lane / 2)) l at down),
    )

-- ---- a line that is given

record IsGiven (j : List Entry) (w l : ℕ) : Type 0 where
  last_is : last_line j w ≡ Some l
  up : started j l ≡ true
  new : was_taken j l ≡ false

given_by : (p : Plan) (j : List Entry) (lane l : ℕ) (c : Call) (x : Reply) → u.Ruled p j lane c x
    → c ≡ call.Take → x ≡ reply.Line l → IsGiven j (lane / 2) l
given_by p j lane l c x (u.Takes m at up new) is so =
    let e : m ≡ l = cc in
    subst (IsGiven j (lane / 2)) e (record { last_is = at; up = up; new = new })
given_by p j lane l c x (u.Notes d n) is so = absurd (cc)
given_by p j lane l c x _ is so = absurd (cc)

-- an answer that isn't Astray is the rule's
pub ruled_so : (q : Discipline) (h : History) (lane : ℕ) (c : Call) (x : Reply)
    → answer_after q h lane c ≡ x
    → (x ≡ reply.Astray → ⊥)
    → (script_of q (journal_of h) lane c ≡ true) × (q.rule (journal_of h) lane c ≡ x)
ruled_so q h lane c x is other =
    let may = scripted_so q h lane c (λ astray. other (sym is ∙ astray)) in
    (may, sym (answer_is q h lane c may) ∙ is)

given_after : (q : Discipline) → IsDiscipline q → (h : History) (lane l : ℕ) → answer_after q h lane call.Take ≡ reply.Line l
    → IsGiven (journal_of h) (lane / 2) l
given_after q is h lane l so =
    let ruled = ruled_so q h lane call.Take (reply.Line l) so (λ astray. cc) in
    given_by q.plan (journal_of h) lane l call.Take (reply.Line l)
    (u.told_ruled q.plan (journal_of h) lane call.Take (reply.Line l) (sym ruled.1 ∙ is.plain (journal_of h) lane call.Take refl)) refl refl

-- it is given while its tap lies on the shelf
pub takes_there : (q : Discipline) → IsDiscipline q → (h : History) (lane l : ℕ) → CameAbout q h
    → answer_after q h lane call.Take ≡ reply.Line l → tap_at (lane / 2) h ≡ Some l
takes_there q is h lane l came so =
    let g = given_after q is h lane l so in
    tap_is (lane / 2) h ∙ (tap_lies q.plan (lane / 2) (journal_of h) (lawful q is (journal_of h) came.legal)
    ∙ there_is (started (journal_of h)) (was_taken (journal_of h))
    (last_line (journal_of h) (lane / 2)) l g.last_is g.up g.new)

-- and never twice
pub takes_once : (q : Discipline) → IsDiscipline q → (h : History) (lane l : ℕ)
    → answer_after q h lane call.Take ≡ reply.Line l → is_taken l h ≡ false
takes_once q is h lane l so = taken_is l h ∙ (given_after q is h lane l so).new
