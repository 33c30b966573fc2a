-- Lines of a legal journal are numbered in order, and each line that an entry names was launched by its own berth's lane.
use Rattle.std.proofs.Common.{◌≡◌, ℕ, ◌*◌, ◌/◌, ◌%◌, ◌<◌, ◌≤◌, ◌==◌, nat_lt, Bool, true, ◌&&◌, ◌||◌, not, cond, List, [], ◌∷◌, length, Option, Some, None, option_map, ℤ, inl, inr, refl, sym, subst, ◌∙◌, arith}
use Rattle.std.proofs.lemmas.Bool.{eqb-true, eq-eqb, ne_eqb, and_parts, or_cases}
use Rattle.run_plan.specs.declared.plan.Plan.{Plan}
use Rattle.exec_journal.specs.declared.attempt.Attempt.{Attempt}
use Rattle.exec_journal.specs.Entry.{Entry}
use Rattle.exec_journal.specs.declared.call.Call.{Call}
use Rattle.exec_journal.specs.declared.call.Call.TheVariants as call
use Rattle.exec_journal.specs.declared.call.Started.{Started}
use Rattle.exec_journal.specs.declared.call.Written.{Written}
use Rattle.exec_journal.specs.declared.reply.Reply.{Reply}
use Rattle.exec_journal.specs.declared.reply.Reply.TheVariants as reply
use Rattle.exec_journal.specs.History.{each, latest}
use Rattle.list_lemmas.specs.Options.{or_else, and_more}
use Rattle.exec_journal.specs.Entries.{Request, launch_in, send_in, is_look, is_halt}
use Rattle.exec_journal.specs.Words.{line_count, last_work, work_at, last_line, line_at, launch_of, launch_on, sends, sent_on, pending, is_pending, stopped, has_halted}
use Rattle.run_plan.specs.declared.plan.Kind.{Kind}
use Rattle.run_plan.specs.declared.plan.Kind.TheVariants as kind
use Rattle.exec_journal.specs.Rules as r
use Rattle.exec_journal.specs.Scripts as s
use Rattle.exec_journal.specs.Lawful.{in_script, may_tick, Lawful}
use Rattle.exec_journal.specs.Facts.{call_line, reply_line, IsOfBerth, OfBerth, IsNext, NamesItsLine, NameTheirLines}
use Rattle.exec_journal.proofs.Histories.{AtSome, some_each, some_map, AllOf, all_each, all_filter, all_oldest}
use Rattle.exec_journal.proofs.Reasons as u
use Rattle.exec_journal.proofs.Ruled.{by_bool, GatherFor, For, gathers_from}

more_than : {X : Type 0} (o : Option X) (xs : List X) → length xs ≤ length (and_more o xs)
more_than None xs = omega arith
more_than (Some x) xs = omega arith

pub count_grows : (e : Entry) (j : List Entry) → line_count j ≤ line_count (e ∷ j)
unfolding line_count
count_grows e j = more_than (launch_in e.reply) (each (λ _ d. launch_in d.reply) j)

-- ---- a line stays its berth's

other_launch : (l lane : ℕ) (o : Option (ℕ × Attempt)) (n : ℕ) → ((x : ℕ × Attempt) → o ≡ Some x → x.0 ≡ n) → l < n → launch_on l lane o ≡ None
other_launch l lane None n h lt = refl
other_launch l lane (Some x) n h lt = rw (ne_eqb x.0 l (λ e. let i = h x refl in omega arith))

is_next : (j : List Entry) (o : Option (ℕ × Attempt)) → IsNext j o → (x : ℕ × Attempt) → o ≡ Some x → x.0 ≡ line_count j
is_next j (Some y) h x e = let same : y ≡ x = cc in subst (λ (z : ℕ × Attempt). z.0 ≡ line_count j) same h
is_next j None h x e = absurd (cc)

-- a later entry says nothing new of the launch of a line that was launched
pub launch_stays : (e : Entry) (j : List Entry) (l : ℕ) → IsNext j (launch_in e.reply) → l < line_count j → launch_of (e ∷ j) l ≡ launch_of j l
unfolding launch_of
launch_stays e j l next lt = rw (other_launch l e.lane (launch_in e.reply) (line_count j) (is_next j (launch_in e.reply) next) lt)

pub of_berth_more : (e : Entry) (j : List Entry) (l w : ℕ) → IsNext j (launch_in e.reply) → IsOfBerth j l w → IsOfBerth (e ∷ j) l w
of_berth_more e j l w next h =
    let g = count_grows e j in let b = h.below in
    record { below = omega arith; owner = (h.owner.0, h.owner.1, launch_stays e j l next b ∙ h.owner.2, h.owner.3) }

of_berth_option : (e : Entry) (j : List Entry) (o : Option ℕ) (w : ℕ) → IsNext j (launch_in e.reply) → OfBerth j o w → OfBerth (e ∷ j) o w
of_berth_option e j None w next h = tt
of_berth_option e j (Some l) w next h = of_berth_more e j l w next h

-- ---- the berth's last line is its own

launched_line : (x : Reply) (j : List Entry) (w : ℕ) → OfBerth j (reply_line x) w → OfBerth j (option_map (λ y. y.0) (launch_in x)) w
launched_line (reply.Launch l a b t) j w h = h
launched_line _ j w h = tt

line_here : (w : ℕ) (e : Entry) (j : List Entry) → OfBerth j (reply_line e.reply) (e.lane / 2) → OfBerth j (line_at w e) w
line_here w e j h =
    by_bool (e.lane / 2 == w) (λ b. OfBerth j (cond b (option_map (λ y. y.0) (launch_in e.reply)) None) w)
    (λ same. subst (OfBerth j (option_map (λ y. y.0) (launch_in e.reply))) (eqb-true (e.lane / 2) w same) (launched_line e.reply j (e.lane / 2) h)) (λ _. tt)

either : (j : List Entry) (o q : Option ℕ) (w : ℕ) → OfBerth j o w → OfBerth j q w → OfBerth j (or_else o q) w
either j None q w h k = k
either j (Some l) q w h k = h

pub last_line_own : (w : ℕ) (j : List Entry) → NameTheirLines j → OfBerth j (last_line j w) w
unfolding last_line
last_line_own w [] all = tt
last_line_own w (e ∷ j) all =
    either (e ∷ j) (line_at w e) (last_line j w) w (line_here w e (e ∷ j) all.1.replied) (of_berth_option e j (last_line j w) w all.1.numbered (last_line_own w j all.0))

here_own : (j : List Entry) (w l : ℕ) → NameTheirLines j → last_line j w ≡ Some l → IsOfBerth j l w
here_own j w l all h = subst (λ (o : Option ℕ). OfBerth j o w) h (last_line_own w j all)

-- ---- what the lane's newest work names is its own

abbrev pub WorkOwn : List Entry → Option Entry → ℕ → Type 0
WorkOwn j (Some e) w = OfBerth j (call_line e.call) w × OfBerth j (reply_line e.reply) w
WorkOwn j None w = Unit {0}

work_more : (e : Entry) (j : List Entry) (o : Option Entry) (w : ℕ) → IsNext j (launch_in e.reply) → WorkOwn j o w → WorkOwn (e ∷ j) o w
work_more e j None w next h = tt
work_more e j (Some d) w next h = (of_berth_option e j (call_line d.call) w next h.0, of_berth_option e j (reply_line d.reply) w next h.1)

pub last_work_own : (lane : ℕ) (j : List Entry) → NameTheirLines j → WorkOwn j (last_work j lane) (lane / 2)
unfolding last_work
last_work_own lane [] all = tt
last_work_own lane (e ∷ j) all =
    by_bool ((e.lane == lane) && (not (is_look e.call) && not (is_halt e.call)))
    (λ b. WorkOwn (e ∷ j) (or_else (cond b (Some e) None) (latest (λ _ d. work_at lane d) j)) (lane / 2))
    (λ h. let same = eqb-true e.lane lane (and_parts (e.lane == lane) _ h).0 in
    subst (λ (n : ℕ). WorkOwn (e ∷ j) (Some e) (n / 2)) same (of_berth_option e j (call_line e.call) (e.lane / 2) all.1.numbered all.1.called, all.1.replied))
    (λ _. work_more e j (last_work j lane) (lane / 2) all.1.numbered (last_work_own lane j all.0))

-- ---- what the rules name

sent_line : (l : ℕ) (x : Reply) (q : Request) → sent_on l x ≡ Some q → q.line ≡ l
sent_line l (reply.Send k n a b t) q h =
    by_bool (k == l) (λ c. cond c (send_in (reply.Send k n a b t)) None ≡ Some q → q.line ≡ l)
    (λ same g. let e : record { line = k; number = n; attempt = record { action = a; branch = b; number = t } } ≡ q = cc in subst (λ (y : Request). y.line ≡ l) e (eqb-true k l same))
    (λ _ g. absurd (cc)) h
sent_line l _ q h = absurd (cc)

-- each request that was sent on a line has it as its line
pub sends_line : (j : List Entry) (l : ℕ) → AllOf (λ (q : Request). q.line ≡ l) (sends j l)
unfolding sends
sends_line j l = all_each (λ (q : Request). q.line ≡ l) (λ _ e. sent_on l e.reply) (λ _ e q h. sent_line l e.reply q h) j

pub pending_line : (j : List Entry) (l : ℕ) → AllOf (λ (q : Request). q.line ≡ l) (pending j l)
unfolding pending
pending_line j l = all_filter (λ (q : Request). q.line ≡ l) (is_pending j) (sends j l) (sends_line j l)

-- the line of a match that waits
gathered_line : (w : ℕ) (j : List Entry) (k : List Entry) (e : Entry) (x : Reply)
    → (((e.lane / 2 == w) ≡ true) × GatherFor j e.call e.reply x) × NamesItsLine k e → OfBerth k (reply_line x) w
gathered_line w j k e x h =
    subst (λ (v : ℕ). OfBerth k (reply_line x) v) (eqb-true (e.lane / 2) w h.0.0) (of_form e.call e.reply x h.0.1 h.1.called)
  where
    of_form : (c : Call) (y z : Reply) → GatherFor j c y z → OfBerth k (call_line c) (e.lane / 2) → OfBerth k (reply_line z) (e.lane / 2)
    of_form c y z (For l m a b t waiting) known = known

later_own : (w : ℕ) (o : Option ℕ) (j : List Entry) → NameTheirLines j → AtSome (λ k e. OfBerth k o w) j → OfBerth j o w
later_own w o (e ∷ j) all (inl h) = of_berth_option e j o w all.1.numbered h
later_own w o (e ∷ j) all (inr h) = of_berth_option e j o w all.1.numbered (later_own w o j all.0 h)
later_own w o [] all h = absurd h

gather_own : (w : ℕ) (j : List Entry) (x : Reply) → NameTheirLines j → r.gathers_next j w ≡ Some x → OfBerth j (reply_line x) w
gather_own w j x all h =
    later_own w (reply_line x) j all
    (some_map _ (λ k e. OfBerth k (reply_line x) w) (λ k e g. gathered_line w j k e x g) j (some_each _ NamesItsLine j (gathers_from j w x h) all))

-- a reply that launches nothing names a line of the berth before its entry
ruled_own : (p : Plan) (j : List Entry) (lane : ℕ) (c : Call) (x : Reply) → NameTheirLines j → u.Ruled p j lane c x
    → (launch_in x ≡ None → OfBerth j (reply_line x) (lane / 2)) × IsNext j (launch_in x)
ruled_own p j lane c x all (u.Quits l here run over) = (λ _. here_own j (lane / 2) l all here, tt)
ruled_own p j lane c x all (u.KillsBroken l y here run broken over) = (λ _. here_own j (lane / 2) l all here, tt)
ruled_own p j lane c x all (u.KillsUnwanted l here run one none unwanted over) = (λ _. here_own j (lane / 2) l all here, tt)
ruled_own p j lane c x all (u.Gathers l n a b t e v next over) = (λ _. gather_own (lane / 2) j (reply.Gather l n a b t e v) all next, tt)
ruled_own p j lane c x all (u.Cancels l q here alive may which none) =
    let own = here_own j (lane / 2) l all here in
    let on = all_oldest (λ (y : Request). y.line ≡ l) _ q (all_filter (λ (y : Request). y.line ≡ l) _ (pending j l) (pending_line j l)) which in
    (λ _. subst (λ (m : ℕ). IsOfBerth j m (lane / 2)) (sym on) own, tt)
ruled_own p j lane c x all (u.Sends l t here alive next none) = (λ _. here_own j (lane / 2) l all here, tt)
ruled_own p j lane c x all (u.Launches g t vacant next none) = (λ h. absurd (cc), refl)
ruled_own p j lane c x all (u.Evicts l here alive empty free none) = (λ _. here_own j (lane / 2) l all here, tt)
ruled_own p j lane c x all (u.Takes l here up untaken) = (λ _. here_own j (lane / 2) l all here, tt)
ruled_own p j lane c x all _ = (λ _. tt, tt)

-- ---- what a call in the script names is the lane's own

abbrev reply_of : Option Entry → Reply
reply_of (Some e) = e.reply
reply_of None = reply.Idle

own_reply : (j : List Entry) (o : Option Entry) (w : ℕ) → WorkOwn j o w → OfBerth j (reply_line (reply_of o)) w
own_reply j None w h = tt
own_reply j (Some e) w h = h.1

same_own : (j : List Entry) (k l w : ℕ) → (k == l) ≡ true → IsOfBerth j k w → IsOfBerth j l w
same_own j k l w h own = subst (λ (m : ℕ). IsOfBerth j m w) (eqb-true k l h) own

launched_own : (p : Plan) (j : List Entry) (k : Kind) (w l : ℕ) (how : Started) (x : Reply) → s.is_owed p k (call.Launched l how) x ≡ true → OfBerth j (reply_line x) w → IsOfBerth j l w
launched_own p j k w l how (reply.Launch m a b t) h own = same_own j m l w h own
launched_own p j k w l how _ h own = absurd (cc)

killed_own : (p : Plan) (j : List Entry) (k : Kind) (w l : ℕ) (x : Reply) → s.is_owed p k (call.Killed l) x ≡ true → OfBerth j (reply_line x) w → IsOfBerth j l w
killed_own p j k w l (reply.Kill m y) h own = same_own j m l w h own
killed_own p j k w l _ h own = absurd (cc)

wrote_own : (p : Plan) (j : List Entry) (k : Kind) (w l : ℕ) (n : ℤ) (how : Written) (x : Reply) → s.is_owed p k (call.Wrote l n how) x ≡ true → OfBerth j (reply_line x) w → IsOfBerth j l w
wrote_own p j k w l n how (reply.Send m o a b t) h own = same_own j m l w (and_parts (m == l) _ h).0 own
wrote_own p j k w l n how (reply.Cancel m o) h own = same_own j m l w (and_parts (m == l) _ h).0 own
wrote_own p j k w l n how _ h own = absurd (cc)

pub hears_own : (j : List Entry) (w l : ℕ) (c : Call) (x : Reply) → s.hears_after l c x ≡ true → OfBerth j (call_line c) w → OfBerth j (reply_line x) w → IsOfBerth j l w
hears_own j w l c (reply.Line m) h called own = same_own j m l w h own
hears_own j w l (call.Answer m y) _ h called own = same_own j m l w h called
hears_own j w l _ _ h called own = absurd (cc)

heard_own : (j : List Entry) (w l : ℕ) (o : Option Entry) → s.hears o l ≡ true → WorkOwn j o w → IsOfBerth j l w
heard_own j w l None h own = absurd (cc)
heard_own j w l (Some e) h own = hears_own j w l e.call e.reply h own.0 own.1

no_commit : (c : Call) (o : Option Entry) → (s.is_owed_commit c o ≡ true) → call_line c ≡ None
no_commit (call.Committed a b how) o h = refl
no_commit call.Ask o h = absurd (cc)
no_commit (call.Launched l how) o h = absurd (cc)
no_commit (call.Wrote l n how) o h = absurd (cc)
no_commit (call.Look w) o h = absurd (cc)
no_commit (call.Claim a b t f) o h = absurd (cc)
no_commit (call.Killed l) o h = absurd (cc)
no_commit call.Take o h = absurd (cc)
no_commit (call.Answer l x) o h = absurd (cc)
no_commit (call.Ended l how) o h = absurd (cc)
no_commit call.Halt o h = absurd (cc)
no_commit call.Tick o h = absurd (cc)

-- what is owed is what the newest reply orders, but for a Committed
owed_order : (p : Plan) (k : Kind) (c : Call) (o : Option Entry) (l : ℕ) → call_line c ≡ Some l → s.is_owed_after p k c o ≡ true → s.is_owed p k c (reply_of o) ≡ true
owed_order p k c None l named h = absurd (cc)
owed_order p k c (Some e) l named h =
    elim (or_cases (s.is_owed p k c e.reply) _ h) [ inl order ↦ order | inr commit ↦ absurd (let n = no_commit c (Some e) commit in let both : None ≡ Some l = sym n ∙ named in cc) ]

call_own : (p : Plan) (j : List Entry) (k : Kind) (w : ℕ) (proxy : Bool) (o : Option Entry) (c : Call) → s.allowed p k proxy o c ≡ true → WorkOwn j o w → OfBerth j (call_line c) w
call_own p j k w proxy o (call.Launched l how) h own = launched_own p j k w l how (reply_of o) (owed_order p k (call.Launched l how) o l refl (and_parts proxy _ h).1) (own_reply j o w own)
call_own p j k w proxy o (call.Wrote l n how) h own = wrote_own p j k w l n how (reply_of o) (owed_order p k (call.Wrote l n how) o l refl (and_parts proxy _ h).1) (own_reply j o w own)
call_own p j k w proxy o (call.Killed l) h own = killed_own p j k w l (reply_of o) (owed_order p k (call.Killed l) o l refl (and_parts proxy _ h).1) (own_reply j o w own)
call_own p j k w proxy o (call.Answer l x) h own = heard_own j w l o (and_parts (not proxy) _ h).1 own
call_own p j k w proxy o (call.Ended l how) h own = heard_own j w l o (and_parts (not proxy) _ h).1 own
call_own p j k w proxy o _ h own = tt

none_own : (j : List Entry) (o : Option ℕ) (w : ℕ) → o ≡ None → OfBerth j o w
none_own j None w h = tt
none_own j (Some l) w h = absurd (cc)

tick_own : (j : List Entry) (w : ℕ) (proxy : Bool) (o : Option Entry) (c : Call) → may_tick proxy o c ≡ true → OfBerth j (call_line c) w
tick_own j w proxy o call.Tick h = tt
tick_own j w proxy o (call.Launched l how) h = absurd (cc)
tick_own j w proxy o (call.Wrote l n how) h = absurd (cc)
tick_own j w proxy o (call.Killed l) h = absurd (cc)
tick_own j w proxy o (call.Answer l x) h = absurd (cc)
tick_own j w proxy o (call.Ended l how) h = absurd (cc)
tick_own j w proxy o _ h = tt

-- a call in a lane's script names a line of its berth
pub script_own : (p : Plan) (j : List Entry) (lane : ℕ) (c : Call) → in_script p j lane c ≡ true → NameTheirLines j → OfBerth j (call_line c) (lane / 2)
script_own p j lane c h all =
    let running = (and_parts (not (stopped j lane)) _ h).1 in
    by_bool (has_halted j lane)
    (λ b. cond b (s.is_owed_commit c (last_work j lane)) (may_tick (lane % 2 == 0) (last_work j lane) c || s.allowed p kind.Single (lane % 2 == 0) (last_work j lane) c) ≡ true → OfBerth j (call_line c) (lane / 2))
    (λ _ g. none_own j (call_line c) (lane / 2) (no_commit c (last_work j lane) g))
    (λ _ g. elim (or_cases (may_tick (lane % 2 == 0) (last_work j lane) c) _ g) [
      | inl tick ↦ tick_own j (lane / 2) (lane % 2 == 0) (last_work j lane) c tick
      | inr may ↦ call_own p j kind.Single (lane / 2) (lane % 2 == 0) (last_work j lane) c may (last_work_own lane j all)
    ]) running

-- ---- the entry's own launch

launch_here : (e : Entry) (j : List Entry) (o : Option (ℕ × Attempt)) (x : ℕ × Attempt) → launch_in e.reply ≡ o → o ≡ Some x → x.0 ≡ line_count j → IsOfBerth (e ∷ j) x.0 (e.lane / 2)
unfolding line_count launch_of
launch_here e j None x h g n = absurd (cc)
launch_here e j (Some y) x h g n =
    let same : y ≡ x = cc in
    let mine : launch_in e.reply ≡ Some x = h ∙ g in
    record {
      below = rw mine (let c = n in omega arith);
      owner = (e.lane, x.1, rw (mine, eq-eqb x.0 x.0 refl) refl, refl);
    }

names_launch : (x : Reply) (y : ℕ × Attempt) → launch_in x ≡ Some y → reply_line x ≡ Some y.0
names_launch (reply.Launch l a b t) y h = let e : (l, record { action = a; branch = b; number = t }) ≡ y = cc in subst (λ (z : ℕ × Attempt). Some l ≡ Some z.0) e refl
names_launch _ y h = absurd (cc)

reply_own : (e : Entry) (j : List Entry) → (launch_in e.reply ≡ None → OfBerth j (reply_line e.reply) (e.lane / 2)) → IsNext j (launch_in e.reply) → OfBerth (e ∷ j) (reply_line e.reply) (e.lane / 2)
reply_own e j old next = by (launch_in e.reply) refl
  where
    by : (o : Option (ℕ × Attempt)) → launch_in e.reply ≡ o → OfBerth (e ∷ j) (reply_line e.reply) (e.lane / 2)
    by None h = of_berth_option e j (reply_line e.reply) (e.lane / 2) next (old h)
    by (Some x) h = subst (λ (o : Option ℕ). OfBerth (e ∷ j) o (e.lane / 2)) (sym (names_launch e.reply x h)) (launch_here e j (launch_in e.reply) x refl h (is_next j (launch_in e.reply) next x h))

pub lines_named : (p : Plan) (j : List Entry) → Lawful p j → NameTheirLines j
lines_named p [] legal = tt
lines_named p (e ∷ j) legal =
    let all = lines_named p j legal.0 in
    let ruled = ruled_own p j e.lane e.call e.reply all (u.ruled p j e legal.1) in (
      all,
      record {
        called = script_own p j e.lane e.call legal.1.scripted all;
        replied = reply_own e j ruled.0 ruled.1;
        numbered = ruled.1;
      },
    )
