-- A greeting: an executor's first answer. It consumes nothing, and its line stays greeted.
use Rattle.std.proofs.Common.{◌≡◌, ℕ, zero, suc, ◌+◌, ◌/◌, Bool, true, false, ◌&&◌, ◌||◌, not, cond, List, [], ◌∷◌, length, Option, Some, None, option_map, unwrap_or, inl, inr, refl, sym, ap, subst, ◌∙◌, ℤ, pos, arith}
use Rattle.std.specs.Prelude.{slice_get, option_and_then, int_le}
use Rattle.std.specs.List.{list_any, list_all}
use Rattle.std.specs.Ordering.{int_eq}
use Rattle.std.proofs.lemmas.Bool.{eqb-true, and_parts, and_from, or_cases, or_right, or_from}
use Rattle.std.proofs.lemmas.Bool.Decides.{Decides-int_eq}
use Rattle.run_plan.specs.declared.plan.Group.{Group}
use Rattle.run_plan.specs.declared.plan.Kind.{Kind}
use Rattle.run_plan.specs.declared.plan.Kind.TheVariants as kind
use Rattle.run_plan.specs.declared.plan.Plan.{Plan}
use Rattle.exec_journal.specs.declared.attempt.Attempt.{Attempt}
use Rattle.exec_journal.specs.Entry.{Entry}
use Rattle.exec_journal.specs.declared.call.Answer.{Answer}
use Rattle.exec_journal.specs.declared.call.Call.{Call}
use Rattle.exec_journal.specs.declared.call.Call.TheVariants as call
use Rattle.exec_journal.specs.declared.reply.Reply.{Reply}
use Rattle.exec_journal.specs.declared.reply.Reply.TheVariants as reply
use Rattle.exec_journal.specs.Entries.{Request, speaks, greets}
use Rattle.exec_journal.specs.Words.{line_count, launch_of, line_cause, broke, live, started, was_killed, has_ended, has_spoken, has_greeted, sends, was_sent, answered, match_of, wrote, is_pending, pending, has_cancel}
use Rattle.exec_journal.specs.Lawful as lw
use Rattle.exec_journal.specs.Seated.{kind_for, group_on, line_group, line_kind, may_be_asked}
use Rattle.run_plan.specs.Groups.{kind_of, is_single, is_remote, has_cancellation, berth_group}
use Rattle.exec_journal.specs.Rules as r
use Rattle.run_plan.specs.Sound.{Sound, is_sound_group}
use Rattle.exec_journal.specs.Lawful.{Lawful}
use Rattle.exec_journal.specs.Facts.{call_line, IsOfBerth, OfBerth, SameActions}
use Rattle.journal_laws.specs.Invariant.{NumberedAs}
use Rattle.journal_laws.specs.Steps.{IsGreeting, SameRequests}
use Rattle.exec_journal.proofs.Histories.{all_oldest, all_filter}
use Rattle.exec_journal.proofs.Reasons as u
use Rattle.exec_journal.proofs.Ruled.{by_bool, not_true}
use Rattle.exec_journal.proofs.Lines.{lines_named, launch_stays, of_berth_more, pending_line}
use Rattle.exec_journal.proofs.Quiet.{bound_same}
use Rattle.journal_laws.proofs.Over as v
use Rattle.journal_laws.proofs.Claims as c
use Rattle.journal_laws.proofs.Claims.{clash, false_by}
use Rattle.journal_laws.proofs.Requests as q
use Rattle.journal_laws.proofs.Endings as en
use Rattle.journal_laws.proofs.Lanes as la
use Rattle.journal_laws.proofs.Known as kn

-- ---- which answer is a greeting

-- only an Answer is answered Greeted
greets_is : (p : Plan) (j : List Entry) (lane : ℕ) (d : Call) (x : Reply) → u.Ruled p j lane d x → x ≡ reply.Greeted
    → (l : ℕ) × (a : Answer) × (d ≡ call.Answer l a) × (broke j l ≡ false) × (r.is_greeting_of j (line_kind p j l) l a ≡ true)
greets_is p j lane d x (u.Greets l a whole greeting) h = (l, a, refl, whole, greeting)
greets_is p j lane d x (u.KillsBroken l y here run broken over) h = absurd (cc)
greets_is p j lane d x (u.Notes n k) h = absurd (cc)
greets_is p j lane d x _ h = absurd (cc)

greets_call : (l : ℕ) (d : Call) (x : Reply) → greets l d x ≡ true → (a : Answer) × (d ≡ call.Answer l a) × (x ≡ reply.Greeted)
greets_call l (call.Answer k a) reply.Greeted h = (let e = eqb-true k l h in (a, (λ i. call.Answer (e i) a), refl))
greets_call l (call.Answer k a) _ h = absurd (cc)
greets_call l _ _ h = absurd (cc)

greets_speaks : (l : ℕ) (d : Call) (x : Reply) → greets l d x ≡ true → speaks l d ≡ true
greets_speaks l (call.Answer k a) reply.Greeted h = h
greets_speaks l (call.Answer k a) _ h = absurd (cc)
greets_speaks l _ _ h = absurd (cc)

pub greeted_spoken : (j : List Entry) (l : ℕ) → has_greeted j l ≡ true → has_spoken j l ≡ true
unfolding has_greeted has_spoken
greeted_spoken j l h = c.ever_map (λ e. greets l e.call e.reply) (λ e. speaks l e.call) (λ e y. greets_speaks l e.call e.reply y) j h

remote_many : (k : Kind) → is_remote k ≡ true → is_single k ≡ false
remote_many kind.Single h = absurd (cc)
remote_many kind.Multi h = refl
remote_many kind.Boxed h = refl
remote_many kind.Remote h = refl

-- numbers off Single lines count from 1
none_zero : (qs : List Request) → NumberedAs false qs → list_any (λ y. int_eq y.number (pos 0)) qs ≡ false
none_zero [] all = refl
none_zero (y ∷ qs) all =
    or_from _ _ (false_by _ (λ same. let e = (Decides-int_eq y.number (pos 0)).0 same in let k : pos (length qs + 1) ≡ pos 0 = sym all.0 ∙ e in let m : length qs + 1 ≡ 0 = cc in omega arith))
    (none_zero qs all.1)

of_greeting : (p : Plan) (j : List Entry) (w l : ℕ) (x : Answer) → Lawful p j → IsOfBerth j l w → broke j l ≡ false → r.is_greeting_of j (line_kind p j l) l x ≡ true → IsGreeting p j l x
of_greeting p j w l x legal own whole g =
    let a = and_parts (is_remote (line_kind p j l)) _ g in
    let b = and_parts (int_eq x.number (pos 0)) _ a.1 in
    let d = and_parts (int_le (pos 2) x.version) _ b.1 in
    let quiet = not_true _ d.1 in
    let facts = q.line_facts p j l w legal own in
    record {
      of_executor = a.0;
      number = (Decides-int_eq x.number (pos 0)).0 b.0;
      version = d.0;
      whole = whole;
      first = quiet;
      ungreeted = false_by _ (λ y. clash (has_spoken j l) (greeted_spoken j l y) quiet);
      nobody = rw (none_zero (sends j l) (subst (λ s. NumberedAs s (sends j l)) (remote_many (line_kind p j l) a.0) facts.numbers)) refl;
    }

own_line : (p : Plan) (e : Entry) (j : List Entry) (l : ℕ) (x : Answer) → Lawful p (e ∷ j) → e.call ≡ call.Answer l x → IsOfBerth j l (e.lane / 2)
own_line p e j l x legal ic = subst (λ (d : Call). OfBerth j (call_line d) (e.lane / 2)) ic (lines_named p (e ∷ j) legal).1.called

pub greeting_is : (p : Plan) (e : Entry) (j : List Entry) (l : ℕ) (x : Answer) → Lawful p (e ∷ j) → e.call ≡ call.Answer l x → e.reply ≡ reply.Greeted → IsGreeting p j l x
greeting_is p e j l x legal ic ir =
    let g = greets_is p j e.lane e.call e.reply (v.entry_ruled p e j legal) ir in
    let same_call : call.Answer g.0 g.1 ≡ call.Answer l x = sym g.2 ∙ ic in
    let l_is : g.0 ≡ l = cc in
    let x_is : g.1 ≡ x = cc in
    of_greeting p j (e.lane / 2) l x legal.0 (own_line p e j l x legal ic) (subst (λ n. broke j n ≡ false) l_is g.3)
    (subst (λ (y : Answer). r.is_greeting_of j (line_kind p j l) l y ≡ true) x_is (subst (λ n. r.is_greeting_of j (line_kind p j n) n g.1 ≡ true) l_is g.4))

-- each such answer is greeted
greets_by : (b g : Bool) (x y : Reply) → b ≡ false → g ≡ true → cond b x (cond g reply.Greeted y) ≡ reply.Greeted
greets_by false true x y h k = refl
greets_by true g x y h k = absurd (cc)
greets_by false false x y h k = absurd (cc)

pub greeting_so : (p : Plan) (e : Entry) (j : List Entry) (l : ℕ) (x : Answer) → Lawful p (e ∷ j) → e.call ≡ call.Answer l x → IsGreeting p j l x → e.reply ≡ reply.Greeted
greeting_so p e j l x legal ic g =
    subst (λ (d : Call). lw.Told p j e.lane d e.reply) ic legal.1.told
    ∙ greets_by (broke j l) (r.is_greeting_of j (line_kind p j l) l x) _ _ g.whole
    (and_from _ _ g.of_executor (and_from _ _ ((Decides-int_eq x.number (pos 0)).1 g.number) (and_from _ _ g.version (rw g.first refl))))

-- ---- it consumes nothing: only its line has spoken now, and greeted

abbrev pub greeting_entry : ℕ → ℕ → Answer → Entry
greeting_entry lane l x = record { lane = lane; call = call.Answer l x; reply = reply.Greeted }

same_actions : (p : Plan) (j : List Entry) (lane l : ℕ) (x : Answer) → Lawful p (greeting_entry lane l x ∷ j) → SameActions j (greeting_entry lane l x ∷ j)
same_actions p j lane l x legal = record {
  grant = λ a. en.grants_same (greeting_entry lane l x) j a refl;
  commit = λ a b. en.commits_same (greeting_entry lane l x) j a b (λ how k. cc);
  ended_too = λ t. en.quiet_ends_none p (greeting_entry lane l x) j t legal refl;
}

same_requests : (p : Plan) (j : List Entry) (lane l : ℕ) (x : Answer) → Lawful p (greeting_entry lane l x ∷ j) → SameRequests p j (greeting_entry lane l x ∷ j)
unfolding line_count launch_of line_cause live started was_killed has_ended sends was_sent answered match_of wrote is_pending pending has_cancel
same_requests p j lane l x legal = record {
  actions = same_actions p j lane l x legal;
  none_begins = λ a b. kn.none_begins (greeting_entry lane l x) j a b refl;
  count = refl;
  launch = λ m. refl;
  cause = λ m. refl;
  lives = λ m. refl;
  bound_too = λ m. bound_same p j (greeting_entry lane l x ∷ j) (same_actions p j lane l x legal) m refl (λ t. refl);
  sends_too = λ m. refl;
  pending_too = λ m. refl;
  answered_too = λ t. refl;
  matched_too = λ t. refl;
  wrote_too = λ t. refl;
  cancels_too = λ y. refl;
}

pub greeting_keeps : (p : Plan) (e : Entry) (j : List Entry) → Lawful p (e ∷ j) → e.reply ≡ reply.Greeted → SameRequests p j (e ∷ j)
greeting_keeps p e j legal ir =
    let g = greets_is p j e.lane e.call e.reply (v.entry_ruled p e j legal) ir in
    let same : e ≡ greeting_entry e.lane g.0 g.1 = λ i. record { lane = e.lane; call = g.2 i; reply = ir i } in
    subst (λ (d : Entry). SameRequests p j (d ∷ j)) (sym same) (same_requests p j e.lane g.0 g.1 (subst (λ (d : Entry). Lawful p (d ∷ j)) same legal))

-- ---- a line that has greeted

pub greeted_stays : (e : Entry) (j : List Entry) (l : ℕ) → has_greeted j l ≡ true → has_greeted (e ∷ j) l ≡ true
unfolding has_greeted
greeted_stays e j l h = or_right (greets l e.call e.reply) _ h

-- it is an executor's
greeted_by : (p : Plan) (j : List Entry) (l : ℕ) → Lawful p j → has_greeted j l ≡ true → (m : ℕ) × (t : Attempt) × (launch_of j l ≡ Some (m, t)) × (is_remote (kind_for p t) ≡ true)
unfolding has_greeted
greeted_by p [] l legal h = absurd (cc)
greeted_by p (e ∷ j) l legal h = elim (or_cases (greets l e.call e.reply) (has_greeted j l) h) [
  | inl here ↦ (let g = greets_call l e.call e.reply here in
      let is = greeting_is p e j l g.0 legal g.1 g.2 in
      let own = own_line p e j l g.0 legal g.1 in
      let later = of_berth_more e j l (e.lane / 2) (lines_named p (e ∷ j) legal).1.numbered own in
      let kind = q.kind_is p j l own.owner.0 own.owner.1 own.owner.2 in
      (own.owner.0, own.owner.1, launch_stays e j l (lines_named p (e ∷ j) legal).1.numbered own.below ∙ own.owner.2, subst (λ (k : Kind). is_remote k ≡ true) kind is.of_executor))
  | inr before ↦ (let b = greeted_by p j l legal.0 before in
      (b.0, b.1, q.launch_later p e j l b.0 b.1 legal b.2, b.3))
]

pub greeted_remote : (p : Plan) (j : List Entry) (l : ℕ) → Lawful p j → has_greeted j l ≡ true → is_remote (line_kind p j l) ≡ true
greeted_remote p j l legal h =
    let b = greeted_by p j l legal h in subst (λ (k : Kind). is_remote k ≡ true) (sym (q.kind_is p j l b.0 b.1 b.2)) b.3

both_or_one : (a b d : Bool) → (d ≡ true → b ≡ true) → (a || (b && d)) ≡ (a || d)
both_or_one true b d h = refl
both_or_one false true d h = refl
both_or_one false false false h = refl
both_or_one false false true h = absurd (let k = h refl in cc)

-- so for a line it decides alone, beside the group
pub may_be_asked_is : (p : Plan) (j : List Entry) (l : ℕ) → Lawful p j → may_be_asked p j l ≡ (has_cancellation p (line_group p j l) || has_greeted j l)
may_be_asked_is p j l legal = both_or_one (has_cancellation p (line_group p j l)) (is_remote (line_kind p j l)) (has_greeted j l) (λ h. greeted_remote p j l legal h)

-- ---- an executor's line gets a Cancel only once it has greeted

all_at : (test : Group → Bool) (gs : List Group) (i : ℕ) (x : Group) → list_all test gs ≡ true → slice_get gs i ≡ Some x → test x ≡ true
all_at test [] i x all h = absurd (cc)
all_at test (y ∷ gs) zero x all h = (let e : y ≡ x = cc in subst (λ (z : Group). test z ≡ true) e (and_parts (test y) _ all).0)
all_at test (y ∷ gs) (suc i) x all h = all_at test gs i x (and_parts (test y) _ all).1 h

no_cancel : (gs : List Group) (o : Option ℕ) → list_all is_sound_group gs ≡ true
    → is_remote (unwrap_or (option_map (λ y. y.kind) (option_and_then (λ k. slice_get gs k) o)) kind.Single) ≡ true → unwrap_or (option_map (λ y. y.cancel) (slice_get gs (unwrap_or o 0))) false ≡ false
no_cancel gs None all h = absurd (cc)
no_cancel gs (Some g) all h = at (slice_get gs g) refl h
  where
    at : (o : Option Group) → slice_get gs g ≡ o → is_remote (unwrap_or (option_map (λ y. y.kind) o) kind.Single) ≡ true → unwrap_or (option_map (λ y. y.cancel) o) false ≡ false
    at None is m = absurd (cc)
    at (Some x) is m = false_by _ (λ y. clash _ (and_from _ _ m y) (not_true _ (all_at is_sound_group gs g x all is)))

no_cancellation : (p : Plan) (j : List Entry) (l : ℕ) → Sound p → is_remote (line_kind p j l) ≡ true → has_cancellation p (line_group p j l) ≡ false
no_cancellation p j l sound h = no_cancel p.groups (group_on p j l) sound.each_group h

cancels_on : (p : Plan) (j : List Entry) (lane : ℕ) (d : Call) (x : Reply) (l : ℕ) (n : ℤ) → u.Ruled p j lane d x → x ≡ reply.Cancel l n → may_be_asked p j l ≡ true
cancels_on p j lane d x l n (u.Cancels m y here alive may which none) h =
    let on : y.line ≡ m = all_oldest (λ (z : Request). z.line ≡ m) _ y (all_filter (λ (z : Request). z.line ≡ m) (λ z. r.is_unwanted p j z && not (has_cancel j z)) (pending j m) (pending_line j m)) which in
    let same : y.line ≡ l = cc in
    subst (λ i. may_be_asked p j i ≡ true) (sym on ∙ same) may
cancels_on p j lane d x l n (u.KillsBroken m y here run broken over) h = absurd (cc)
cancels_on p j lane d x l n (u.Notes k m) h = absurd (cc)
cancels_on p j lane d x l n _ h = absurd (cc)

pub cancel_greeted : (p : Plan) (e : Entry) (j : List Entry) (l : ℕ) (n : ℤ) → Sound p → Lawful p (e ∷ j) → e.reply ≡ reply.Cancel l n → is_remote (line_kind p j l) ≡ true → has_greeted j l ≡ true
cancel_greeted p e j l n sound legal ir remote =
    let may = cancels_on p j e.lane e.call e.reply l n (v.entry_ruled p e j legal) ir in
    elim (or_cases (has_cancellation p (line_group p j l)) _ may) [
      | inl group ↦ absurd (clash _ group (no_cancellation p j l sound remote))
      | inr line ↦ (and_parts (is_remote (line_kind p j l)) _ line).1
    ]
