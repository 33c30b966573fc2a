-- All that the core asks of lawful journals, for each journal, each call and each entry.
use Rattle.std.proofs.Common.{◌≡◌, ℕ, ◌<◌, ◌≤◌, ◌==◌, nat_lt, zero, suc, Bool, true, false, ◌&&◌, ◌||◌, cond, length, filter, List, [], ◌∷◌, ◌++◌, reverse, map, Option, Some, None, option_map, ◌⊎◌, inl, inr, refl, sym, ap, subst, ◌∙◌, ℤ, arith}
use Rattle.std.specs.Prelude.{slice_get}
use Rattle.std.specs.List.{find, list_any}
use Rattle.std.proofs.lemmas.Bool.{eqb-true, eq-eqb, and_parts, and_from}
use Rattle.run_plan.specs.declared.plan.Kind.{Kind}
use Rattle.run_plan.specs.declared.plan.Kind.TheVariants as kind
use Rattle.run_plan.specs.declared.plan.Branch.{Branch}
use Rattle.run_plan.specs.declared.plan.Plan.{Plan}
use Rattle.exec_journal.specs.declared.attempt.Attempt.{Attempt}
use Rattle.exec_journal.specs.Entry.{Entry}
use Rattle.exec_journal.specs.declared.call.Answer.{Answer}
use Rattle.exec_journal.specs.declared.call.Call.{Call}
use Rattle.exec_journal.specs.declared.call.Call.TheVariants as call
use Rattle.exec_journal.specs.declared.call.Found.{Found}
use Rattle.exec_journal.specs.declared.call.HowEnded.{HowEnded}
use Rattle.exec_journal.specs.declared.call.Started.{Started}
use Rattle.exec_journal.specs.declared.call.Written.{Written}
use Rattle.exec_journal.specs.declared.reply.Reply.{Reply}
use Rattle.exec_journal.specs.declared.reply.Reply.TheVariants as reply
use Rattle.exec_journal.specs.Entries.{Request, attempt_of, same_attempt, is_for, is_kept, launch_in, consumed_in, matched_in, launch_of_entry}
use Rattle.exec_journal.specs.Words.{last_work, last_line, launch_of, order_of, sends, pending, wrote, says_feed_fault, granted}
use Rattle.exec_journal.specs.Attempts.{ended, line_of}
use Rattle.exec_journal.specs.Settled.{bound}
use Rattle.exec_journal.specs.Rules as r
use Rattle.run_plan.specs.Sound.{Sound}
use Rattle.exec_journal.specs.Facts.{begun}
use Rattle.journal_laws.specs.Invariant.{older}
use Rattle.exec_journal.proofs.Histories.{AllOf}
use Rattle.exec_journal.proofs.Ruled.{by_bool}
use Rattle.exec_journal.proofs.Begins.{same_attempt_refl}
use Rattle.journal_laws.proofs.Carried as k
use Rattle.journal_laws.proofs.Claims as c
use Rattle.journal_laws.proofs.Claims.{clash, false_by}
use Rattle.journal_laws.proofs.Granted as g
use Rattle.journal_laws.proofs.Firm as f
use Rattle.journal_laws.proofs.Keeping as ke
use Rattle.journal_laws.proofs.Exactly as ex
use Rattle.journal_laws.proofs.Offered as of
use Rattle.journal_laws.proofs.Places as pl
use Rattle.journal_laws.proofs.Counted as co
use Rattle.journal_laws.proofs.Lanes as la
use Rattle.ready_order.specs.Entries.{is_among}
use Rattle.call_laws.specs.Moments.{fed_on, stands_on}
use Rattle.table_laws.proofs.Bridge as br
use Rattle.call_laws.proofs.Calls as ca
use Rattle.call_laws.proofs.Ended as ed
use Rattle.call_laws.proofs.LastLines as ll
use Rattle.call_laws.proofs.LineEnds as le
use Rattle.call_laws.proofs.Requested as re
use Rattle.call_laws.specs.Moments.{BranchOf}
use Rattle.call_laws.proofs.Recent.{room_for_match}
use Rattle.exec_journal.specs.Words.{has_greeted, lines_of, live, sends}
use Rattle.journal_laws.proofs.Requests as q
use Rattle.call_laws.proofs.Gathers.{gathers}
use Rattle.run_plan.specs.Groups.{has_cancellation, is_remote, is_single}
use Rattle.exec_journal.specs.Lawful as lw
use Rattle.exec_journal.specs.Lawful.{Lawful}
use Rattle.exec_journal.specs.Seated.{group_on, line_group, line_kind}
use Rattle.request_table.proofs.Lists.{reverse_front}
use Rattle.core_tables.specs.Last.{fed_of}
use Rattle.table_laws.specs.Moments.{JournalFacts, Among, Uses, SentInGroup, LostOn, ConsumesOne, lost_with, if_there, is_line, is_left, MoreFacts, WritesOne, ClaimsOne, CallFacts, EntryFacts, AllLawful}

or_comm : (x y : Bool) → (x || y) ≡ (y || x)
or_comm true true = refl
or_comm true false = refl
or_comm false true = refl
or_comm false false = refl

or_assoc : (x y z : Bool) → (x || (y || z)) ≡ ((x || y) || z)
or_assoc true y z = refl
or_assoc false y z = refl

or_false : (b : Bool) → (b || false) ≡ b
or_false true = refl
or_false false = refl

module _ {X : Type 0} (f : X → Bool) where
  any_append : (xs ys : List X) → list_any f (xs ++ ys) ≡ (list_any f xs || list_any f ys)
  any_append [] ys = refl
  any_append (x ∷ xs) ys = ap (λ b. f x || b) (any_append xs ys)
      ∙ or_assoc (f x) (list_any f xs) (list_any f ys)

  any_reverse : (xs : List X) → list_any f (reverse xs) ≡ list_any f xs
  any_reverse [] = refl
  any_reverse (x ∷ xs) =
      ap (list_any f) (reverse_front x xs) ∙ any_append (reverse xs) (x ∷ [])
      ∙ (λ i. any_reverse xs i || or_false (f x) i) ∙ or_comm (list_any f xs) (f x)

  any_map : {Y : Type 0} (g : Y → X) (ys : List Y)
      → list_any f (map g ys) ≡ list_any (λ y. f (g y)) ys
  any_map g [] = refl
  any_map g (y ∷ ys) = ap (λ b. f (g y) || b) (any_map g ys)

among_all : (P : ℕ → Type 0) (k : ℕ) (ls : List ℕ) → AllOf P ls → Among k ls → P k
among_all P k [] all h = absurd h
among_all P k (l ∷ ls) all (inl here) = subst P (sym here) all.0
among_all P k (l ∷ ls) all (inr more) = among_all P k ls all.1 more

-- a Single line is no executor's, so it has a Cancel only where its group has cancellation
single_only : (k : Kind) (c g : Bool) → is_single k ≡ true → c ≡ false
    → (c || (is_remote k && g)) ≡ false
single_only kind.Single c g one none = rw none refl
single_only kind.Multi c g one none = absurd (cc)
single_only kind.Boxed c g one none = absurd (cc)
single_only kind.Remote c g one none = absurd (cc)

pub facts : (p : Plan) (j : List Entry) → Sound p → Lawful p j → JournalFacts p j
facts p j sound legal = record {
  lines_fit = (let a = co.lines_made p j legal in let b = co.made_most p j legal sound.least in
      omega arith);
  live_last = λ w l here k among up. among_all (λ i. live j i ≡ true → i ≡ l) k (lines_of j w)
      (ll.live_last p j w l legal here) among up;
  launched_yet = λ lane l asks here. ll.launched_yet p j lane l legal asks here;
  wanted_by_grant = λ l. br.wanted_by_grant p j l legal;
  no_cancel = λ l one none. br.each_of _ _ (re.no_cancel p j l legal
      (single_only (line_kind p j l) (has_cancellation p (line_group p j l)) (has_greeted j l) one none));
  bound_group = λ l t at. re.bound_group p j l t legal at;
  numbered = λ w l here. br.numbered _ (sends j l) (re.numbered p j l w legal (la.here_own p j w l legal here));
  gathers = λ lane asks. gathers p j lane legal asks;
  unbegun_goes = λ t h. false_by _ (λ y. clash _ (c.ended_begun p j t legal y) h);
  unsent_unanswered = λ t h. false_by _ (λ y. clash _ (c.answered_sent p j t legal y) h);
}

-- ---- of each legal journal

uses : (p : Plan) (j : List Entry) (t : Attempt) → Lawful p j → begun j t ≡ true → Uses p t
uses p j t legal h = let has = f.going_ready_at p j t legal h in
    record { action = has.action; place = has.place; group = has.group; runs = has.runs }

grouped : (p : Plan) (j : List Entry) (w l : ℕ) → Lawful p j → last_line j w ≡ Some l → SentInGroup p j l
grouped p j w l legal here =
    let own = la.here_own p j w l legal here in
    let m = own.owner.0 in
    let t = own.owner.1 in
    let at = own.owner.2 in
    let runs = ke.launched_runs p j l m t legal at in
    let group = q.group_is p j l m t at ∙ ke.group_runs p t (line_group p j l) runs in
    br.each_of _ _ (k.all_map (λ (x : Request). ke.RunsIn p x.attempt (line_group p j l)) (λ x. BranchOf p x.attempt (group_on p j l))
    (λ x h. ke.group_runs p x.attempt (line_group p j l) h ∙ sym group) (sends j l) (ke.sends_run p j l m t (line_group p j l) legal at runs))

more : (p : Plan) (j : List Entry) → Sound p → Lawful p j → MoreFacts p j
more p j sound legal = record {
  used = λ t h. uses p j t legal h;
  grouped = λ w l here. grouped p j w l legal here;
  carries = br.carries p j legal;
  bound_at = λ l t h. (let s = ca.bound_seat p j l t legal h in
      record { berth = s.berth; here = s.last });
  sends_fit = λ l. (let a = co.line_sends j l in let b = co.sends_made p j legal sound.least in
      let m = co.sent_most p j in omega arith);
  matches_fit = λ w l here. room_for_match p j w l legal sound.least here;
  alone = λ w l here one. pl.one_pending p j l w legal (la.here_own p j w l legal here) one;
}

-- ---- of each call

module _ (p : Plan) (j : List Entry) (lane : ℕ) (sound : Sound p) (legal : Lawful p j) where
  abbrev next : Call → Entry
  next d = ca.next_entry p j lane d

  launches : (l m : ℕ) (how : Started) (t : Attempt)
      → lw.in_script p j lane (call.Launched l how) ≡ true → launch_of j l ≡ Some (m, t)
      → launch_of_entry (last_work j lane) ≡ Some t
  launches l m how t may at =
      let x = ed.launched_order p j lane l how legal may in
      let both : Some (lane, x.attempt) ≡ Some (m, t) = sym x.launched ∙ at in
      let pair : (lane, x.attempt) ≡ (m, t) = cc in
      of_order x.order x.attempt t x.newest x.launch (ap (λ (y : ℕ × Attempt). y.1) pair)
    where
      of_order : (d : Entry) (s t : Attempt) → last_work j lane ≡ Some d
          → launch_in d.reply ≡ Some (l, s) → s ≡ t → launch_of_entry (last_work j lane) ≡ Some t
      of_order d s t newest is same = rw (newest, is) (ap Some same)

  none_fed : (xs : List Request) (x : Request) → r.head xs ≡ Some x → wrote j x.attempt ≡ None
      → AllOf (λ y. says_feed_fault (wrote j y.attempt) ≡ false) (older xs)
      → find (λ y. says_feed_fault (wrote j y.attempt)) xs ≡ None
  none_fed [] x h none all = refl
  none_fed (y ∷ ys) x h none all =
      let same : y ≡ x = cc in
      rw (subst (λ (z : Request). wrote j z.attempt ≡ None) (sym same) none) (rest ys all)
    where
      rest : (zs : List Request) → AllOf (λ z. says_feed_fault (wrote j z.attempt) ≡ false) zs
          → find (λ z. says_feed_fault (wrote j z.attempt)) zs ≡ None
      rest [] every = refl
      rest (z ∷ zs) every = rw every.0 (rest zs every.1)

  writes : (l : ℕ) (n : ℤ) (how : Written) (x : Request)
      → lw.in_script p j lane (call.Wrote l n how) ≡ true → order_of j lane ≡ Some x
      → WritesOne j l n x
  unfolding fed_of
  writes l n how x may order =
      let e : Entry = next (call.Wrote l n how) in
      let after : Lawful p (e ∷ j) = ca.next_legal p j lane (call.Wrote l n how) legal may refl refl in
      let it = la.writes_request p e j l n how x after refl order in
      let at = pl.written_place p j lane x legal order in
      let head : r.head (sends j l) ≡ Some x = subst (λ i. r.head (sends j i) ≡ Some x) it.line
      (la.newest_head p j lane it.order x legal it.newest it.sends_it) in
      record {
        line = it.line;
        place = at.place;
        there = subst (λ i. slice_get (sends j i) at.place ≡ Some x) it.line at.is;
        first = pl.first_write p j lane x legal order;
        known = br.known_write p e j l n how x after refl order;
        unfed = ap (option_map (λ (y : Request). y.attempt))
            (none_fed (sends j l) x head (pl.first_write p j lane x legal order)
            (re.fed_last p j l legal));
      }

  claims : (a n : ℕ) (b : Branch) (x : Found) → lw.in_script p j lane (call.Claim a b n x) ≡ true
      → ClaimsOne j a b n
  claims a n b x may =
      let e : Entry = next (call.Claim a b n x) in
      let after : Lawful p (e ∷ j) = ca.claim_legal p j lane a b n x legal may in
      let it = g.claimable p e j (attempt_of a b n) after (same_attempt_refl (attempt_of a b n)) in
      record {
        sent = c.answered_sent p j (attempt_of a b n) legal it.consumed;
        start = it.under_way.begun_yet;
        apart = λ y h. g.never_twice p e j (attempt_of a b n) after
            (same_attempt_refl (attempt_of a b n)) y h;
      }

  consumed_kept : (x : Reply) (t : Attempt) → consumed_in x ≡ Some t → is_kept x ≡ true
  consumed_kept (reply.Matched a b n) t h = refl
  consumed_kept (reply.Late a b n) t h = refl
  consumed_kept _ t h = absurd (cc)

  matched_consumed : (x : Reply) (t : Attempt) → matched_in x ≡ Some t → consumed_in x ≡ Some t
  matched_consumed (reply.Matched a b n) t h = h
  matched_consumed _ t h = absurd (cc)

  consumes : (l : ℕ) (x : Answer) → lw.in_script p j lane (call.Answer l x) ≡ true
      → ConsumesOne p j lane l x
  consumes l x may = record {
    on = λ t h. br.is_pending_on p (next (call.Answer l x)) j l x t (after t h) refl h;
    known = λ t h. br.known_answer p (next (call.Answer l x)) j l x t (after t h) refl h;
    waits = λ t h. ca.match_unspent p (next (call.Answer l x)) j l x t
        (after t (matched_consumed (lw.plain_reply p j lane (call.Answer l x)) t h)) refl h;
  }
    where
      after : (t : Attempt) → consumed_in (lw.plain_reply p j lane (call.Answer l x)) ≡ Some t
          → Lawful p (next (call.Answer l x) ∷ j)
      after t h = ca.next_legal p j lane (call.Answer l x) legal may refl
          (consumed_kept (lw.plain_reply p j lane (call.Answer l x)) t h)

  -- what stands on the line is what is lost with it
  any_there : (t : Attempt) (o : Option Attempt) → list_any (same_attempt t) (if_there o)
      ≡ is_for t o
  any_there t None = refl
  any_there t (Some s) = last (same_attempt t s) ∙ ed.same_sym t s
    where
      last : (b : Bool) → (b || false) ≡ b
      last true = refl
      last false = refl

  any_pending : (t : Attempt) (xs : List Request) → list_any
      (λ x. same_attempt t x.attempt) xs ≡ list_any (λ x. same_attempt x.attempt t) xs
  any_pending t [] = refl
  any_pending t (x ∷ xs) = λ i. ed.same_sym t x.attempt i || any_pending t xs i

  among_is : (l : ℕ) (t : Attempt) → is_among (lost_with p j l) t ≡ stands_on p j l t
  unfolding fed_of
  among_is l t =
      any_append (same_attempt t) (reverse (map (λ (x : Request). x.attempt) (pending j l)))
      (if_there (fed_of j l) ++ if_there (bound p j l))
      ∙ (λ i. first i || rest i)
    where
      first : list_any (same_attempt t) (reverse (map (λ (x : Request). x.attempt) (pending j l)))
          ≡ list_any (λ (x : Request). same_attempt x.attempt t) (pending j l)
      first = any_reverse (same_attempt t) (map (λ (x : Request). x.attempt) (pending j l))
          ∙ any_map (same_attempt t) (λ (x : Request). x.attempt) (pending j l)
          ∙ any_pending t (pending j l)

      rest : list_any (same_attempt t) (if_there (fed_of j l) ++ if_there (bound p j l)) ≡
          (is_for t (fed_on j l) || is_for t (bound p j l))
      rest = any_append (same_attempt t) (if_there (fed_of j l)) (if_there (bound p j l))
          ∙ (λ i. any_there t (fed_of j l) i || any_there t (bound p j l) i)

  lost : (l : ℕ) (how : HowEnded) → lw.in_script p j lane (call.Ended l how) ≡ true → LostOn p j l
  lost l how may = record { each = λ t going free. sides t going free ∙ sym (among_is l t) }
    where
      at_line : (o : Option ℕ) → is_line o l ≡ true → o ≡ Some l
      at_line (Some m) h = ap Some (eqb-true m l h)
      at_line None h = absurd (cc)

      is_at : (o : Option ℕ) → o ≡ Some l → is_line o l ≡ true
      is_at o h = rw h (eq-eqb l l refl)

      sides : (t : Attempt) → ended j t ≡ false → granted j t.action ≡ false
          → (is_line (line_of j t) l && is_left j t) ≡ stands_on p j l t
      sides t going free =
          by_bool (stands_on p j l t) (λ b. stands_on p j l t ≡ b
          → (is_line (line_of j t) l && is_left j t) ≡ b)
          (λ _ on. let x = le.stands_left p j l t legal on in
          and_from _ _ (is_at (line_of j t) x.carrier) x.left)
          (λ _ off. false_by _ (λ h. let parts = and_parts (is_line (line_of j t) l) _ h in
          clash _ (le.left_stands p j l t legal (ll.heard p j lane l how legal may).running
          (at_line (line_of j t) parts.0) parts.1 free going) off)) refl

  calls : (d : Call) → lw.in_script p j lane d ≡ true → CallFacts p j lane d
  calls d may = record {
    names = λ l is. ll.names_last p j lane l d legal may is;
    launches = λ l m how t is at. launches l m how t (subst
        (λ (z : Call). lw.in_script p j lane z ≡ true) is may) at;
    writes = λ l n how x is order. writes l n how x (subst
        (λ (z : Call). lw.in_script p j lane z ≡ true) is may) order;
    claims = λ a n b x is. claims a n b x (subst (λ (z : Call). lw.in_script p j lane z ≡ true) is
        may);
    commits = λ a b how is. (let now = subst (λ (z : Call). lw.in_script p j lane z ≡ true) is may in
        br.won_files p (next (call.Committed a b how)) j a b how
        (ca.next_legal p j lane (call.Committed a b how) legal now refl refl) refl);
    commits_within = λ a b how is. ca.commit_within p j lane a b how legal
        (subst (λ (z : Call). lw.in_script p j lane z ≡ true) is may);
    consumes = λ l x is. consumes l x (subst (λ (z : Call). lw.in_script p j lane z ≡ true) is may);
    lost = λ l how is. lost l how (subst (λ (z : Call). lw.in_script p j lane z ≡ true) is may);
  }

-- ---- of each entry

entries : (p : Plan) (j : List Entry) (e : Entry) → Sound p → Lawful p (e ∷ j) → EntryFacts p j e
entries p j e sound legal = record {
  stays = br.wanted_stays p e j legal;
  grants = λ x h. br.is_open p e j x legal h;
  launch_room = λ x h. (pl.fresh_launch p e j x legal sound.least h).room;
  send_room = λ x h. (let s = pl.numbered_send p e j x legal sound.least h in
      record { place = s.place; left = s.room });
  launched = λ l m how t is fault at. ex.launched_ends p e j l m how t legal is fault at;
  unwritten = λ l n how x is un order. ex.unwritten_ends p e j l n how x legal is un order;
  fed = λ l n x is order. ex.feed_ends p e j l n x legal is order
      (ed.order_carrier p j e.lane x legal.0 order);
  refused = λ x h. ex.refused_ends p e j x legal h;
  finished = λ l how is. ex.line_ends p e j l how legal is;
}

pub all_facts : AllLawful
all_facts p j sound legal = record {
  facts = facts p j sound legal;
  more = more p j sound legal;
  calls = λ lane d may. calls p j lane sound legal d may;
  entries = λ e entry. entries p j e sound (legal, entry);
}
