-- Where a tap lane stands by its own entries is what the journal's script asks of it.
use Rattle.std.proofs.Common.{◌≡◌, ℕ, ◌*◌, ◌/◌, ◌%◌, ◌==◌, ◌<◌, nat_lt, Bool, true, false, cond, ◌&&◌, ◌||◌, not, List, [], ◌∷◌, Option, Some, None, refl, ap, sym, ◌∙◌, subst, arith, lt-ltb, eq-eqb}
use Rattle.std.proofs.lemmas.Bool.{eqb-true, ne_eqb, and_parts}
use Rattle.run_plan.specs.declared.plan.Branch.{Branch}
use Rattle.run_plan.specs.declared.plan.Kind.{Kind}
use Rattle.run_plan.specs.declared.plan.Plan.{Plan}
use Rattle.run_plan.specs.declared.plan.Kind.TheVariants as kind
use Rattle.exec_journal.specs.declared.call.Call.{Call}
use Rattle.exec_journal.specs.declared.call.Call.TheVariants as call
use Rattle.exec_journal.specs.Entry.{Entry}
use Rattle.exec_journal.specs.declared.reply.Reply.{Reply}
use Rattle.exec_journal.specs.declared.reply.Reply.TheVariants as reply
use Rattle.exec_journal.specs.Entries.{is_stop, is_halt, is_look}
use Rattle.exec_journal.specs.Lawful.{LawfulEntry, Lawful}
use Rattle.journal_laws.proofs.Owed as ow
use Rattle.exec_journal.specs.Words.{last_work, stopped, has_halted}
use Rattle.exec_journal.specs.Scripts.{seat_script, allowed, hears, hears_after, may_take, is_owed_commit, is_commit_of}
use Rattle.exec_journal.proofs.Ruled.{by_bool, not_true}
use Rattle.journal_laws.specs.Paid.{seat_paid}
use Rattle.core_contract.specs.Laws.{Hearing, Free, Hears, Over, leads_by_call, leads_by_line, hearing_from, hearing_by, hearing_then, hearing_of, may_hear, tells_of, tap_lane}
use Rattle.core_contract.specs.Moves.{History}
use Rattle.seat_desk.specs.History.{calls_by}
use Rattle.core_contract.specs.Ruled.{journal_of}
use Rattle.discipline_laws.proofs.Going.{then, flip, elsewhere}
use Rattle.discipline_laws.proofs.Dues.{neither_left}
use Rattle.discipline_laws.proofs.Along.{after_all, own_then, along_own}

abbrev is_over : Hearing → Bool
is_over Over = true
is_over Free = false
is_over (Hears l) = false

-- what a work that is neither a Look nor a Halt leaves
abbrev heard_call : Call → Hearing
heard_call (call.Answer l x) = Hears l
heard_call _ = Free

abbrev heard_work : Call → Reply → Hearing
heard_work c reply.Stop = Over
heard_work c (reply.Line l) = Hears l
heard_work c _ = heard_call c

abbrev heard_by : Option Entry → Hearing
heard_by None = Free
heard_by (Some e) = heard_work e.call e.reply

record HearingIs (s : Hearing) (j : List Entry) (lane : ℕ) : Type 0 where
  gone : is_over s ≡ (stopped j lane || has_halted j lane)
  owed : is_over s ≡ false → s ≡ heard_by (last_work j lane)

-- ---- one entry

data AtReply (r : Reply) : Type 0 where
  Stops : is_stop r ≡ true → ((s : Hearing) (c : Call) → hearing_from s c r ≡ Over) → AtReply r
  Gives : (l : ℕ) → is_stop r ≡ false
      → ((s : Hearing) (c : Call) → hearing_from s c r ≡ leads_by_line l s c)
      → ((c : Call) → heard_work c r ≡ Hears l) → AtReply r
  Else : is_stop r ≡ false → ((s : Hearing) (c : Call) → hearing_from s c r ≡ leads_by_call s c)
      → ((c : Call) → heard_work c r ≡ heard_call c) → AtReply r

at_reply : (r : Reply) → AtReply r
at_reply reply.Stop = Stops refl (λ s c. refl)
at_reply (reply.Line l) = Gives l refl (λ s c. refl) (λ c. refl)
at_reply _ = Else refl (λ s c. refl) (λ c. refl)

record AtCall (c : Call) (s : Hearing) : Type 0 where
  halts_line : is_halt c ≡ true → (l : ℕ) → leads_by_line l s c ≡ Over
  halts : is_halt c ≡ true → leads_by_call s c ≡ Over
  looks_line : is_look c ≡ true → (l : ℕ) → leads_by_line l s c ≡ s
  looks : is_look c ≡ true → leads_by_call s c ≡ s
  works_line : is_look c ≡ false → is_halt c ≡ false → (l : ℕ) → leads_by_line l s c ≡ Hears l
  works : is_look c ≡ false → is_halt c ≡ false → leads_by_call s c ≡ heard_call c

at_call : (c : Call) (s : Hearing) → AtCall c s
at_call call.Halt s = record {
  halts_line = λ e l. refl;
  halts = λ e. refl;
  looks_line = λ e l. absurd (cc);
  looks = λ e. absurd (cc);
  works_line = λ e f l. absurd (cc);
  works = λ e f. absurd (cc);
}
at_call (call.Look w) s = record {
  halts_line = λ e l. absurd (cc);
  halts = λ e. absurd (cc);
  looks_line = λ e l. refl;
  looks = λ e. refl;
  works_line = λ e f l. absurd (cc);
  works = λ e f. absurd (cc);
}
at_call _ s = record {
  halts_line = λ e l. absurd (cc);
  halts = λ e. absurd (cc);
  looks_line = λ e l. absurd (cc);
  looks = λ e. absurd (cc);
  works_line = λ e f l. refl;
  works = λ e f. refl;
}

heard_open : (c : Call) → is_over (heard_call c) ≡ false
heard_open (call.Answer l x) = refl
heard_open _ = refl

-- after an entry that stops or halts the lane, after a Look, and after another work
record Next (c : Call) (r : Reply) (s : Hearing) : Type 0 where
  stops : is_stop r ≡ true → hearing_from s c r ≡ Over
  halts : is_stop r ≡ false → is_halt c ≡ true → hearing_from s c r ≡ Over
  looks : is_stop r ≡ false → is_look c ≡ true → hearing_from s c r ≡ s
  works : is_stop r ≡ false → is_look c ≡ false → is_halt c ≡ false
      → hearing_from s c r ≡ heard_work c r
  goes_on : is_stop r ≡ false → is_over (heard_work c r) ≡ false

next : (c : Call) (r : Reply) (s : Hearing) → AtReply r → AtCall c s → Next c r s
next c r s (Stops is so) at = record {
  stops = λ e. so s c;
  halts = λ e f. so s c;
  looks = λ e f. absurd (let x : true ≡ false = sym is ∙ e in cc);
  works = λ e f g. absurd (let x : true ≡ false = sym is ∙ e in cc);
  goes_on = λ e. absurd (let x : true ≡ false = sym is ∙ e in cc);
}
next c r s (Gives l isnt so work) at = record {
  stops = λ e. absurd (let x : true ≡ false = sym e ∙ isnt in cc);
  halts = λ e f. so s c ∙ at.halts_line f l;
  looks = λ e f. so s c ∙ at.looks_line f l;
  works = λ e f g. so s c ∙ (at.works_line f g l ∙ sym (work c));
  goes_on = λ e. ap is_over (work c);
}
next c r s (Else isnt so work) at = record {
  stops = λ e. absurd (let x : true ≡ false = sym e ∙ isnt in cc);
  halts = λ e f. so s c ∙ at.halts f;
  looks = λ e f. so s c ∙ at.looks f;
  works = λ e f g. so s c ∙ (at.works f g ∙ sym (work c));
  goes_on = λ e. ap is_over (work c) ∙ heard_open c;
}

over_stays : (s : Hearing) (c : Call) (r : Reply) → is_over s ≡ true → hearing_by s c r ≡ Over
over_stays Over c r h = refl
over_stays Free c r h = absurd (cc)
over_stays (Hears l) c r h = absurd (cc)

goes_from : (s : Hearing) (c : Call) (r : Reply) → is_over s ≡ false
    → hearing_by s c r ≡ hearing_from s c r
goes_from Over c r h = absurd (cc)
goes_from Free c r h = refl
goes_from (Hears l) c r h = refl

or_true : (a b : Bool) → (a || b) ≡ true → (x y : Bool) → ((x || a) || (y || b)) ≡ true
or_true true b h true y = refl
or_true true b h false y = refl
or_true false true h true y = refl
or_true false true h false true = refl
or_true false true h false false = refl
or_true false false h x y = absurd (cc)

or_first : (a b x y : Bool) → (a || b) ≡ true → ((a || x) || (b || y)) ≡ true
or_first true b x y h = refl
or_first false true true y h = refl
or_first false true false y h = refl
or_first false false x y h = absurd (cc)

-- an entry of the lane
module _ (s : Hearing) (e : Entry) (j : List Entry) (lane : ℕ) (own : (e.lane == lane) ≡ true)
    (is : HearingIs s j lane) where
  stops_own : stopped (e ∷ j) lane ≡ (is_stop e.reply || stopped j lane)
  stops_own = (then e j lane).stops
      ∙ ap (λ (b : Bool). (b && is_stop e.reply) || stopped j lane) own

  halts_own : has_halted (e ∷ j) lane ≡ (is_halt e.call || has_halted j lane)
  halts_own = (then e j lane).halts
      ∙ ap (λ (b : Bool). (b && is_halt e.call) || has_halted j lane) own

  then_at : Next e.call e.reply s
  then_at = next e.call e.reply s (at_reply e.reply) (at_call e.call s)

  -- it is over then
  over_now : hearing_by s e.call e.reply ≡ Over
      → ((is_stop e.reply || stopped j lane) || (is_halt e.call || has_halted j lane)) ≡ true
      → HearingIs (hearing_by s e.call e.reply) (e ∷ j) lane
  over_now over why = record {
    gone = ap is_over over ∙ sym ((λ i. stops_own i || halts_own i) ∙ why);
    owed = λ h. absurd (let x : true ≡ false = sym (ap is_over over) ∙ h in cc);
  }

  -- it goes on
  module _ (here : is_over s ≡ false) (on : is_stop e.reply ≡ false)
      (runs : is_halt e.call ≡ false) where
    neither : (stopped (e ∷ j) lane || has_halted (e ∷ j) lane) ≡ false
    neither = (λ i. stops_own i || halts_own i)
        ∙ ((λ i. (on i || stopped j lane) || (runs i || has_halted j lane)) ∙ (sym is.gone ∙ here))

    goes_further : (b : Bool) → is_look e.call ≡ b
        → HearingIs (hearing_by s e.call e.reply) (e ∷ j) lane
    goes_further true look =
        let same = goes_from s e.call e.reply here ∙ then_at.looks on look in record {
          gone = ap is_over same ∙ (here ∙ sym neither);
          owed = λ h. same ∙ (is.owed here ∙ ap heard_by (sym ((then e j lane).other
              (λ i. own i && (not (look i) && not (runs i))))));
        }
    goes_further false work =
        let same = goes_from s e.call e.reply here ∙ then_at.works on work runs in record {
          gone = ap is_over same ∙ (then_at.goes_on on ∙ sym neither);
          owed = λ h. same ∙ ap heard_by (sym ((then e j lane).work
              (λ i. own i && (not (work i) && not (runs i)))));
        }

  by_halt : is_over s ≡ false → is_stop e.reply ≡ false → (b : Bool) → is_halt e.call ≡ b
      → HearingIs (hearing_by s e.call e.reply) (e ∷ j) lane
  by_halt here on true halts = over_now (goes_from s e.call e.reply here ∙ then_at.halts on halts)
      (or_first (is_stop e.reply) (is_halt e.call) (stopped j lane) (has_halted j lane)
      (λ i. on i || halts i))
  by_halt here on false runs = goes_further here on runs (is_look e.call) refl

  by_stop : is_over s ≡ false → (b : Bool) → is_stop e.reply ≡ b
      → HearingIs (hearing_by s e.call e.reply) (e ∷ j) lane
  by_stop here true stops = over_now (goes_from s e.call e.reply here ∙ then_at.stops stops)
      (or_first (is_stop e.reply) (is_halt e.call) (stopped j lane) (has_halted j lane)
      (ap (λ (b : Bool). b || is_halt e.call) stops))
  by_stop here false on = by_halt here on (is_halt e.call) refl

  own_entry : (b : Bool) → is_over s ≡ b → HearingIs (hearing_by s e.call e.reply) (e ∷ j) lane
  own_entry true gone = over_now (over_stays s e.call e.reply gone)
      (or_true (stopped j lane) (has_halted j lane) (sym is.gone ∙ gone) (is_stop e.reply)
      (is_halt e.call))
  own_entry false here = by_stop here (is_stop e.reply) refl

other_entry : (s : Hearing) (e : Entry) (j : List Entry) (lane : ℕ) → (e.lane == lane) ≡ false
    → HearingIs s j lane → HearingIs s (e ∷ j) lane
other_entry s e j lane other is =
    let same = elsewhere e j lane other in
    record {
      gone = is.gone ∙ sym (λ i. same.stops i || same.halts i);
      owed = λ h. is.owed h ∙ ap heard_by (sym same.works);
    }

-- ---- all entries

abbrev hears_then : Hearing → Entry → Hearing
hears_then s e = hearing_by s e.call e.reply

abbrev hearing_in : ℕ → List Entry → Hearing
hearing_in lane j = after_all (own_then lane hears_then) Free j

hearing_is : (lane : ℕ) (j : List Entry) → HearingIs (hearing_in lane j) j lane
unfolding stopped has_halted last_work
hearing_is lane [] = record { gone = refl; owed = λ h. refl }
hearing_is lane (e ∷ j) = by (lane == e.lane) refl (hearing_is lane j)
  where
    by : (b : Bool) → (lane == e.lane) ≡ b → HearingIs (hearing_in lane j) j lane
        → HearingIs (cond b (hears_then (hearing_in lane j) e) (hearing_in lane j)) (e ∷ j) lane
    by true own is = own_entry (hearing_in lane j) e j lane (flip lane e.lane true own) is
        (is_over (hearing_in lane j)) refl
    by false other is =
        other_entry (hearing_in lane j) e j lane (flip lane e.lane false other) is

heard_so : (h : History) (lane : ℕ)
    → HearingIs (hearing_of (calls_by lane h)) (journal_of h) lane
heard_so h lane = by _ (sym (along_own lane hears_then Free hearing_then (λ s e. refl) h []))
  where
    by : (s : Hearing) → hearing_in lane (journal_of h) ≡ s → HearingIs s (journal_of h) lane
    by s same = same_is s same (hearing_is lane (journal_of h))
      where
        same_is : (s : Hearing) → hearing_in lane (journal_of h) ≡ s
            → HearingIs (hearing_in lane (journal_of h)) (journal_of h) lane
            → HearingIs s (journal_of h) lane
        same_is s e is = record {
          gone = ap is_over (sym e) ∙ is.gone;
          owed = λ o. sym e ∙ is.owed (ap is_over e ∙ o);
        }

-- ---- which calls a tap lane may make

hears_line : (k l : ℕ) (c : Call) (r : Reply) → heard_work c r ≡ Hears l → (k == l) ≡ true
    → hears_after k c r ≡ true
hears_line k l c (reply.Line m) h same = let e : m ≡ l = cc in
    flip k m true (ap (λ n. k == n) e ∙ same)
hears_line k l c reply.Stop h same = absurd (cc)
hears_line k l (call.Answer m x) _ h same = let e : m ≡ l = cc in
    flip k m true (ap (λ n. k == n) e ∙ same)
hears_line k l _ _ h same = absurd (cc)

takes_free : (c : Call) (r : Reply) → heard_work c r ≡ Free
    → may_take (Some (record { lane = 0; call = c; reply = r })) ≡ true
takes_free c (reply.Line m) h = absurd (cc)
takes_free c reply.Stop h = absurd (cc)
takes_free (call.Answer m x) _ h = absurd (cc)
takes_free _ _ h = refl

free_may : (k : Kind) (p : Plan) (o : Option Entry) (c : Call) → heard_by o ≡ Free
    → may_hear Free c ≡ true → allowed p k false o c ≡ true
free_may k p None call.Take is h = refl
free_may k p (Some e) call.Take is h = takes_free e.call e.reply is
free_may k p o call.Halt is h = refl
free_may k p o _ is h = absurd (cc)

hears_may : (k : Kind) (p : Plan) (o : Option Entry) (l : ℕ) (c : Call) → heard_by o ≡ Hears l
    → may_hear (Hears l) c ≡ true → allowed p k false o c ≡ true
hears_may k p None l c is h = absurd (cc)
hears_may k p (Some e) l (call.Answer m x) is h = hears_line m l e.call e.reply is h
hears_may k p (Some e) l (call.Ended m how) is h = hears_line m l e.call e.reply is h
hears_may k p (Some e) l call.Halt is h = refl
hears_may k p (Some e) l _ is h = absurd (cc)

heard_may : (k : Kind) (p : Plan) (s : Hearing) (o : Option Entry) (c : Call) → heard_by o ≡ s
    → may_hear s c ≡ true → allowed p k false o c ≡ true
heard_may k p Free o c is h = free_may k p o c is h
heard_may k p (Hears l) o c is h = hears_may k p o l c is h
heard_may k p Over o c is h = absurd (cc)

not_over : (s : Hearing) (c : Call) → may_hear s c ≡ true → is_over s ≡ false
not_over Free c h = refl
not_over (Hears l) c h = refl
not_over Over c h = absurd (cc)

tap_within : (n w : ℕ) → w < n → nat_lt (tap_lane w) (2 * n) ≡ true
tap_within n w lt = lt-ltb (tap_lane w) (2 * n) (omega (arith, lt))

tap_odd : (w : ℕ) → (tap_lane w % 2 == 0) ≡ false
tap_odd w = ne_eqb (tap_lane w % 2) 0 (λ e. omega (arith, e))

tap_berth : (w : ℕ) → tap_lane w / 2 ≡ w
tap_berth w = omega arith

-- what a tap lane may do, where it stands, is in its script
pub hearing_is_scripted : (n : ℕ) (kinds : ℕ → Kind) (p : Plan) (h : History) (w : ℕ) (c : Call) → w < n
    → may_hear (hearing_of (calls_by (tap_lane w) h)) c ≡ true
    → seat_script n kinds p (journal_of h) (tap_lane w) c ≡ true
hearing_is_scripted n kinds p h w c lt may =
    let j = journal_of h in
    let lane = tap_lane w in
    let s = hearing_of (calls_by lane h) in
    let is = heard_so h lane in
    let here : is_over s ≡ false = not_over s c may in
    let on = neither_left (stopped j lane) (has_halted j lane) (sym is.gone ∙ here) in
    let odd = tap_odd w in
    (λ i. tap_within n w lt i && (not (on.0 i)
    && cond (on.1 i) (is_owed_commit c (last_work j lane))
    (allowed p (kinds (tap_berth w i)) (odd i) (last_work j lane) c)))
    ∙ heard_may (kinds w) p s (last_work j lane) c (sym (is.owed here)) may

is_not_over : (s : Hearing) → (s ≡ Over → ⊥) → is_over s ≡ false
is_not_over Free n = refl
is_not_over (Hears l) n = refl
is_not_over Over n = absurd (n refl)

-- its Halt is paid for until it is over
pub tap_halt_is_paid : (m : ℕ) (h : History) (w : ℕ) → w < m
    → (hearing_of (calls_by (tap_lane w) h) ≡ Over → ⊥)
    → seat_paid m (journal_of h) (tap_lane w) call.Halt ≡ true
tap_halt_is_paid m h w lt n =
    let is = heard_so h (tap_lane w) in
    let here = neither_left (stopped (journal_of h) (tap_lane w))
    (has_halted (journal_of h) (tap_lane w))
    (sym is.gone ∙ is_not_over (hearing_of (calls_by (tap_lane w) h)) n) in
    (λ i. tap_within m w lt i && (not (here.0 i) && not (here.1 i)))

-- ---- who tells of a line

heard_line : (l : ℕ) (c : Call) (r : Reply) → is_over (heard_work c r) ≡ false
    → hears_after l c r ≡ true → heard_work c r ≡ Hears l
heard_line l c (reply.Line m) on h = ap Hears (eqb-true m l h)
heard_line l c reply.Stop on h = absurd (cc)
heard_line l (call.Answer m x) _ on h = ap Hears (eqb-true m l h)
heard_line l _ _ on h = absurd (cc)

line_is : (o : Option Entry) (s : Hearing) (l : ℕ) → s ≡ heard_by o → is_over s ≡ false
    → hears o l ≡ true → s ≡ Hears l
line_is None s l is on h = absurd (cc)
line_is (Some e) s l is on h = is ∙ heard_line l e.call e.reply (ap is_over (sym is) ∙ on) h

-- ---- and no other calls are

-- this work of a tap lane is no Claim, so no Committed is owed for it
abbrev Unowing : Option Entry → Type 0
Unowing o = (c : Call) → is_owed_commit c o ≡ true → ⊥

heard_unowing : (k : Kind) (p : Plan) (o : Option Entry) (e : Entry)
    → allowed p k false o e.call ≡ true → Unowing (Some e)
heard_unowing k p o e may c owed = by_call e.call e.reply may c owed
  where
    none_of : (x : Call) (r : Reply) → allowed p k false o x ≡ true → (a : ℕ) (b : Branch)
        → is_commit_of a b x r ≡ true → ⊥
    none_of (call.Claim d b t f) r h a c owed = cc
    none_of x r h a b owed = cc

    by_call : (x : Call) (r : Reply) → allowed p k false o x ≡ true → (c : Call)
        → is_owed_commit c (Some (record { lane = e.lane; call = x; reply = r })) ≡ true → ⊥
    by_call x r h (call.Committed a b how) owed = none_of x r h a b owed
    by_call x r h c owed = cc

unowing_next : (p : Plan) (lane : ℕ) → (lane % 2 == 0) ≡ false → (e : Entry) (j : List Entry)
    → LawfulEntry p j e → Unowing (last_work j lane) → Unowing (last_work (e ∷ j) lane)
unowing_next p lane odd e j legal before =
    by ((e.lane == lane) && (not (is_look e.call) && not (is_halt e.call))) refl
  where
    own : (e.lane == lane) ≡ true → Unowing (Some e)
    own same =
        let is : e.lane ≡ lane = eqb-true e.lane lane same in
        let there : (e.lane % 2 == 0) ≡ false = ap (λ (n : ℕ). n % 2 == 0) is ∙ odd in
        elim (ow.scripts p j e.lane e.call legal.scripted) [
          | ow.Owes g ↦ absurd (before e.call
              (ap (λ (n : ℕ). is_owed_commit e.call (last_work j n)) (sym is) ∙ g))
          | ow.Ticks tick proxy ask ↦ absurd (let both : true ≡ false = sym proxy ∙ there in cc)
          | ow.May g ↦ heard_unowing kind.Single p (last_work j e.lane) e
              (ap (λ (b : Bool). allowed p kind.Single b (last_work j e.lane) e.call) (sym there) ∙ g)
        ]

    by : (b : Bool)
        → ((e.lane == lane) && (not (is_look e.call) && not (is_halt e.call))) ≡ b
        → Unowing (last_work (e ∷ j) lane)
    by true is =
        subst Unowing (sym ((then e j lane).work is)) (own (and_parts (e.lane == lane) _ is).0)
    by false is = subst Unowing (sym ((then e j lane).other is)) before

tap_unowing : (p : Plan) (lane : ℕ) → (lane % 2 == 0) ≡ false → (j : List Entry) → Lawful p j
    → Unowing (last_work j lane)
unfolding last_work
tap_unowing p lane odd [] legal = λ c. none_owed c
  where
    none_owed : (c : Call) → is_owed_commit c None ≡ true → ⊥
    none_owed (call.Committed a b how) owed = cc
    none_owed c owed = cc
tap_unowing p lane odd (e ∷ j) legal =
    unowing_next p lane odd e j legal.1 (tap_unowing p lane odd j legal.0)

takes_only_free : (x : Call) (r : Reply) → is_over (heard_work x r) ≡ false
    → may_take (Some (record { lane = 0; call = x; reply = r })) ≡ true
    → may_hear (heard_work x r) call.Take ≡ true
takes_only_free x (reply.Line l) on h = absurd (cc)
takes_only_free x reply.Stop on h = absurd (cc)
takes_only_free (call.Answer l y) r on h = absurd (cc)
takes_only_free x r on h = refl

halts_open : (s : Hearing) → is_over s ≡ false → may_hear s call.Halt ≡ true
halts_open Free on = refl
halts_open (Hears l) on = refl
halts_open Over on = absurd (cc)

open_may : (k : Kind) (p : Plan) (o : Option Entry) (c : Call) → is_over (heard_by o) ≡ false
    → allowed p k false o c ≡ true → may_hear (heard_by o) c ≡ true
open_may k p o call.Halt on h = halts_open (heard_by o) on
open_may k p None call.Take on h = refl
open_may k p (Some e) call.Take on h = takes_only_free e.call e.reply on h
open_may k p o (call.Answer l x) on h =
    ap (λ (s : Hearing). may_hear s (call.Answer l x)) (line_is o (heard_by o) l refl on h)
    ∙ eq-eqb l l refl
open_may k p o (call.Ended l how) on h =
    ap (λ (s : Hearing). may_hear s (call.Ended l how)) (line_is o (heard_by o) l refl on h)
    ∙ eq-eqb l l refl
open_may k p o c on h = absurd (cc)

-- what is in a tap lane's script, where it stands, it may do
pub script_is_hearing : (n : ℕ) (kinds : ℕ → Kind) (p : Plan) (h : History) (w : ℕ) (c : Call) → Lawful p (journal_of h)
    → seat_script n kinds p (journal_of h) (tap_lane w) c ≡ true
    → may_hear (hearing_of (calls_by (tap_lane w) h)) c ≡ true
script_is_hearing n kinds p h w c legal may =
    let j = journal_of h in
    let lane = tap_lane w in
    let last = last_work j lane in
    let k = kinds (lane / 2) in
    let s = hearing_of (calls_by lane h) in
    let is = heard_so h lane in
    let odd = tap_odd w in
    let parts = and_parts (nat_lt lane (2 * n)) _ may in
    let runs = and_parts (not (stopped j lane)) _ parts.1 in
    by_bool (has_halted j lane)
    (λ b. has_halted j lane ≡ b
    → cond b (is_owed_commit c last) (allowed p k (lane % 2 == 0) last c) ≡ true
    → may_hear s c ≡ true)
    (λ _ halts g. absurd (tap_unowing p lane odd j legal c g))
    (λ _ on g. let here : is_over s ≡ false =
    is.gone ∙ (λ i. not_true (stopped j lane) runs.0 i || on i) in
    ap (λ (x : Hearing). may_hear x c) (is.owed here)
    ∙ open_may k p last c (ap is_over (sym (is.owed here)) ∙ here)
    (ap (λ (b : Bool). allowed p k b last c) (sym odd) ∙ g))
    refl runs.1

tells_heard : (p : Plan) (k : Kind) (proxy : Bool) (o : Option Entry) (l : ℕ) (c : Call)
    → tells_of l c ≡ true → allowed p k proxy o c ≡ true → hears o l ≡ true
tells_heard p k proxy o l (call.Answer m x) is h =
    ap (hears o) (sym (eqb-true m l is)) ∙ (and_parts (not proxy) _ h).1
tells_heard p k proxy o l (call.Ended m how) is h =
    ap (hears o) (sym (eqb-true m l is)) ∙ (and_parts (not proxy) _ h).1
tells_heard p k proxy o l _ is h = absurd (cc)

tells_uncommitted : (o : Option Entry) (l : ℕ) (c : Call) → tells_of l c ≡ true
    → is_owed_commit c o ≡ true → ⊥
tells_uncommitted o l (call.Answer m x) is h = cc
tells_uncommitted o l (call.Ended m how) is h = cc
tells_uncommitted o l _ is h = cc

-- an Answer and an Ended in its script come from the lane that hears the line
pub tells_hears : (n : ℕ) (kinds : ℕ → Kind) (p : Plan) (h : History) (lane : ℕ) (c : Call) (l : ℕ) → tells_of l c ≡ true
    → seat_script n kinds p (journal_of h) lane c ≡ true → hearing_of (calls_by lane h) ≡ Hears l
tells_hears n kinds p h lane c l tells may =
    let j = journal_of h in
    let last = last_work j lane in
    let k = kinds (lane / 2) in
    let proxy = lane % 2 == 0 in
    let s = hearing_of (calls_by lane h) in
    let is = heard_so h lane in
    let parts = and_parts (nat_lt lane (2 * n)) _ may in
    let runs = and_parts (not (stopped j lane)) _ parts.1 in
    by_bool (has_halted j lane)
    (λ b. has_halted j lane ≡ b
    → cond b (is_owed_commit c last) (allowed p k proxy last c) ≡ true → s ≡ Hears l)
    (λ _ halts g. absurd (tells_uncommitted last l c tells g))
    (λ _ on g. let here : is_over s ≡ false =
    is.gone ∙ (λ i. not_true (stopped j lane) runs.0 i || on i) in
    line_is last s l (is.owed here) here (tells_heard p k proxy last l c tells g))
    refl runs.1
