-- What was written is read back.
use Rattle.std.proofs.Common.{◌≡◌, ℕ, zero, suc, ◌<◌, ◌^◌, ℤ, pos, negsuc, List, [], ◌∷◌, map, true, Option, Some, None, refl, ap, ◌∙◌, arith}
use Rattle.std.proofs.lemmas.Bool.{lt-ltb}
use Rattle.serde_json.specs.Data.{Data, string}
use Rattle.serde_json.specs.View.{items_of}
use Rattle.base64.specs.Engines.{standard}
use Rattle.base64.specs.GeneralPurpose.{IsBytes, IsConsistent}
use Rattle.base64.proofs.EngineFacts.{decode_of-encode_of}
use Rattle.run_plan.specs.declared.plan.Group.{Group}
use Rattle.run_plan.specs.declared.plan.Maker.{Maker}
use Rattle.run_plan.specs.declared.plan.Plan.{Plan}
use Rattle.run_plan.specs.declared.plan.PlanAction.{PlanAction}
use Rattle.placed_rules.specs.declared.placed.Placed.{Placed}
use Rattle.placed_rules.specs.declared.placed.Seating.{Seating}
use Rattle.placed_rules.specs.declared.placed.Seating.TheVariants.{Own, Pools}
use Rattle.placed_rules.specs.declared.pools.SharedPool.{SharedPool}
use Rattle.exec_journal.specs.Entry.{Entry}
use Rattle.exec_journal.specs.declared.call.Answer.{Answer}
use Rattle.exec_journal.specs.declared.call.NamedFile.{NamedFile}
use Rattle.exec_journal.specs.declared.call.Call.{Call}
use Rattle.exec_journal.specs.declared.call.Call.TheVariants as call
use Rattle.exec_journal.specs.declared.call.CommitEnd.{CommitEnd}
use Rattle.exec_journal.specs.declared.call.CommitEnd.TheVariants as commit
use Rattle.exec_journal.specs.declared.call.Found.{Found}
use Rattle.exec_journal.specs.declared.call.Found.TheVariants as found
use Rattle.exec_journal.specs.declared.call.Wanted.{Wanted}
use Rattle.exec_journal.specs.declared.call.Wanted.TheVariants as look
use Rattle.exec_journal.specs.declared.reply.Reply.{Reply}
use Rattle.exec_journal.specs.declared.reply.Reply.TheVariants as reply
use Rattle.run_plan.specs.declared.plan.Branch.{Branch}
use Rattle.run_plan.specs.declared.plan.Branch.TheVariants as branch
use Rattle.run_plan.specs.declared.plan.Kind.{Kind}
use Rattle.run_plan.specs.declared.plan.Kind.TheVariants as kind
use Rattle.exec_journal.specs.declared.call.Started.{Started}
use Rattle.exec_journal.specs.declared.call.Started.TheVariants as started
use Rattle.exec_journal.specs.declared.call.Written.{Written}
use Rattle.exec_journal.specs.declared.call.Written.TheVariants as written
use Rattle.exec_journal.specs.declared.call.HowEnded.{HowEnded}
use Rattle.exec_journal.specs.declared.call.HowEnded.TheVariants as how_ended
use Rattle.exec_journal.specs.declared.reply.Why.{Why}
use Rattle.exec_journal.specs.declared.reply.Why.TheVariants as why
use Rattle.exec_journal.specs.declared.reply.StrayWhy.{StrayWhy}
use Rattle.exec_journal.specs.declared.reply.StrayWhy.TheVariants as stray
use Rattle.exec_journal.specs.declared.reply.BreachWhy.{BreachWhy}
use Rattle.exec_journal.specs.declared.reply.BreachWhy.TheVariants as breach
use Rattle.journal_text.specs.Fits.{AnswerFits, CallFits, CommitEndFits, Each, EntryFits, FileFits, FoundFits, GroupFits, IfCount, IsCount, IsSigned, MakerFits, PlacedFits, PlanActionFits, PlanFits, PoolFits, ReplyFits, SeatingFits, WantedFits}
use Rattle.journal_text.specs.Options.{each}
use Rattle.journal_text.specs.Placed.{has_row, placed_data, placed_in, pool_data, pool_in, seating_data, seating_in, ticks_data, ticks_in}
use Rattle.journal_text.specs.Reading.{answer_in, call_in, commit_end_in, entry_in, file_in, found_in, group_in, maker_in, plan_action_in, plan_in, reply_in, wanted_in}
use Rattle.journal_text.specs.Values.{content_data, content_in, count_data, count_in, datas, decoded, list_in, maybe_data, maybe_in, row_data, signed_data, signed_in, text_in}
use Rattle.journal_text.specs.Words.{branch_data, branch_in, breach_data, breach_in, how_ended_data, how_ended_in, kind_data, kind_in, started_data, started_in, stray_data, stray_in, why_data, why_in, written_data, written_in}
use Rattle.journal_text.specs.Writing.{answer_data, call_data, commit_end_data, entry_data, file_data, found_data, group_data, maker_data, plan_action_data, plan_data, reply_data, wanted_data}

-- ---- parts

pub count_back : (n : ℕ) → IsCount n → count_in (count_data n) ≡ Some n
count_back n l = rw (lt-ltb n (2 ^ 32) l) refl

pub signed_back : (z : ℤ) → IsSigned z → signed_in (signed_data z) ≡ Some z
signed_back (pos n) l = let m : n < 2 ^ 63 = omega arith in rw (lt-ltb n (2 ^ 63) m, lt-ltb n (2 ^ 31) l) refl
signed_back (negsuc n) l = rw (lt-ltb n (2 ^ 31) l) refl

consistent : IsConsistent standard
consistent = refl

pub content_back : (b : List ℕ) → IsBytes b → content_in (content_data b) ≡ Some b
content_back b bytes = ap decoded (decode_of-encode_of standard b consistent bytes)

pub maybe_back : (o : Option ℕ) → IfCount o → maybe_in (maybe_data o) ≡ Some o
maybe_back None l = refl
maybe_back (Some n) l = rw (count_back n l) refl

branch_back : (x : Branch) → branch_in (branch_data x) ≡ Some x
branch_back branch.Local = refl
branch_back branch.Remote = refl

kind_back : (x : Kind) → kind_in (kind_data x) ≡ Some x
kind_back kind.Single = refl
kind_back kind.Multi = refl
kind_back kind.Boxed = refl
kind_back kind.Remote = refl

started_back : (x : Started) → started_in (started_data x) ≡ Some x
started_back started.Done = refl
started_back started.RoomFault = refl
started_back started.LaunchFault = refl

written_back : (x : Written) → written_in (written_data x) ≡ Some x
written_back written.Done = refl
written_back written.RoomFault = refl
written_back written.FeedFault = refl
written_back written.TooLarge = refl

how_ended_back : (x : HowEnded) → how_ended_in (how_ended_data x) ≡ Some x
how_ended_back how_ended.End = refl
how_ended_back how_ended.TapFault = refl
how_ended_back how_ended.BadFrame = refl
how_ended_back how_ended.Long = refl

why_back : (x : Why) → why_in (why_data x) ≡ Some x
why_back why.Ended = refl
why_back why.Breach = refl
why_back why.Feed = refl
why_back why.Unwanted = refl
why_back why.Quit = refl
why_back why.Evicted = refl

stray_back : (x : StrayWhy) → stray_in (stray_data x) ≡ Some x
stray_back stray.Never = refl
stray_back stray.Closed = refl

breach_back : (x : BreachWhy) → breach_in (breach_data x) ≡ Some x
breach_back breach.Broken = refl
breach_back breach.WrongNumber = refl
breach_back breach.Unasked = refl
breach_back breach.NotCancelled = refl

-- ---- lists

datas-items_of : (ds : List Data) → datas (items_of ds) ≡ ds
datas-items_of [] = refl
datas-items_of (d ∷ ds) = ap (λ (xs : List Data). d ∷ xs) (datas-items_of ds)

each_back : {A : Type 0} (f : Data → Option A) (data_of : A → Data) (P : A → Type 0) → ((x : A) → P x → f (data_of x) ≡ Some x) → (xs : List A) → Each P xs → each f (map data_of xs) ≡ Some xs
each_back f data_of P back [] p = refl
each_back f data_of P back (x ∷ xs) p = rw (back x p.0, each_back f data_of P back xs p.1) refl

list_back : {A : Type 0} (f : Data → Option A) (data_of : A → Data) (P : A → Type 0) → ((x : A) → P x → f (data_of x) ≡ Some x) → (xs : List A) → Each P xs → list_in f (row_data (map data_of xs)) ≡ Some xs
list_back f data_of P back xs p = ap (each f) (datas-items_of (map data_of xs)) ∙ each_back f data_of P back xs p

texts_back : (ts : List (List ℕ)) → each text_in (map string ts) ≡ Some ts
texts_back [] = refl
texts_back (t ∷ ts) = rw (texts_back ts) refl

text_list_back : (ts : List (List ℕ)) → list_in text_in (row_data (map string ts)) ≡ Some ts
text_list_back ts = ap (each text_in) (datas-items_of (map string ts)) ∙ texts_back ts

-- ---- the plan

maker_back : (m : Maker) → MakerFits m → maker_in (maker_data m) ≡ Some m
maker_back m p = rw (count_back m.action p.action, count_back m.output p.output) refl

action_back : (a : PlanAction) → PlanActionFits a → plan_action_in (plan_action_data a) ≡ Some a
action_back a p = rw (text_list_back a.outputs, list_back maker_in maker_data MakerFits maker_back a.makers p.makers, maybe_back a.local p.local, maybe_back a.remote p.remote) refl

group_back : (g : Group) → GroupFits g → group_in (group_data g) ≡ Some g
group_back g p = rw (kind_back g.kind, count_back g.berths p.berths) refl

pub plan_back : (x : Plan) → PlanFits x → plan_in (plan_data x) ≡ Some x
plan_back x p = rw (list_back plan_action_in plan_action_data PlanActionFits action_back x.actions p.actions, list_back group_in group_data GroupFits group_back x.groups p.groups, count_back x.limit p.limit) refl

-- ---- the plan on its berths

pool_back : (x : SharedPool) → PoolFits x → pool_in (pool_data x) ≡ Some x
pool_back x p = rw (list_back count_in count_data IsCount count_back x.groups p.groups, count_back x.berths p.berths) refl

seating_back : (x : Seating) → SeatingFits x → seating_in (seating_data x) ≡ Some x
seating_back Own p = refl
seating_back (Pools pools instances) p = rw (list_back pool_in pool_data PoolFits pool_back pools p.0, count_back instances p.1) refl

ticks_back : (s : Seating) (ticks : Option ℕ) → IfCount ticks → has_row s ticks ≡ true → (ticks ≡ Some 0 → ⊥) → ticks_in s (ticks_data ticks) ≡ Some ticks
ticks_back s None l row some = rw row refl
ticks_back s (Some zero) l row some = absurd (some refl)
ticks_back s (Some (suc n)) l row some = rw (count_back (suc n) l, row) refl

pub placed_back : (x : Placed) → PlacedFits x → has_row x.seating x.ticks ≡ true → (x.ticks ≡ Some 0 → ⊥) → placed_in (placed_data x) ≡ Some x
placed_back x p row some = rw (plan_back x.plan p.plan, seating_back x.seating p.seating, ticks_back x.seating x.ticks p.ticks row some) refl

-- ---- calls

file_back : (f : NamedFile) → FileFits f → file_in (file_data f) ≡ Some f
file_back f p = rw (content_back f.content p.content) refl

answer_back : (x : Answer) → AnswerFits x → answer_in (answer_data x) ≡ Some x
answer_back x p = rw (signed_back x.number p.number, signed_back x.exit p.exit, list_back file_in file_data FileFits file_back x.files p.files, signed_back x.version p.version) refl

wanted_back : (w : Wanted) → WantedFits w → wanted_in (wanted_data w) ≡ Some w
wanted_back (look.Made a o) p = rw (count_back a p.0, count_back o p.1) refl
wanted_back (look.Answered l n o) p = rw (count_back l p.0, signed_back n p.1, count_back o p.2) refl

found_back : (f : Found) → FoundFits f → found_in (found_data f) ≡ Some f
found_back (found.Files fs) p = rw (list_back content_in content_data IsBytes content_back fs p) refl
found_back (found.Exit n) p = rw (signed_back n p) refl
found_back (found.Missing k) p = rw (count_back k p) refl
found_back found.RoomFault p = refl
found_back found.Refused p = refl

commit_end_back : (x : CommitEnd) → CommitEndFits x → commit_end_in (commit_end_data x) ≡ Some x
commit_end_back commit.Done p = refl
commit_end_back (commit.PlaceFault k) p = rw (count_back k p) refl

call_back : (c : Call) → CallFits c → call_in (call_data c) ≡ Some c
call_back call.Ask p = refl
call_back (call.Launched l how) p = rw (count_back l p, started_back how) refl
call_back (call.Wrote l n how) p = rw (count_back l p.0, signed_back n p.1, written_back how) refl
call_back (call.Look w) p = rw (wanted_back w p) refl
call_back (call.Claim a b t f) p = rw (count_back a p.0, branch_back b, count_back t p.1, found_back f p.2) refl
call_back (call.Committed a b how) p = rw (count_back a p.0, branch_back b, commit_end_back how p.1) refl
call_back (call.Killed l) p = rw (count_back l p) refl
call_back call.Take p = refl
call_back (call.Answer l x) p = rw (count_back l p.0, answer_back x p.1) refl
call_back (call.Ended l how) p = rw (count_back l p, how_ended_back how) refl
call_back call.Tick p = refl
call_back call.Halt p = refl

-- ---- replies

reply_back : (r : Reply) → ReplyFits r → reply_in (reply_data r) ≡ Some r
reply_back (reply.Launch l a b t) p = rw (count_back l p.0, count_back a p.1, branch_back b, count_back t p.2) refl
reply_back (reply.Send l n a b t) p = rw (count_back l p.0, signed_back n p.1, count_back a p.2, branch_back b, count_back t p.3) refl
reply_back (reply.Cancel l n) p = rw (count_back l p.0, signed_back n p.1) refl
reply_back (reply.Gather l n a b t e r) p = rw (count_back l p.0, signed_back n p.1, count_back a p.2, branch_back b, count_back t p.3, signed_back e p.4) refl
reply_back (reply.Kill l y) p = rw (count_back l p, why_back y) refl
reply_back reply.Stop p = refl
reply_back reply.Idle p = refl
reply_back reply.Noted p = refl
reply_back (reply.File b) p = rw (content_back b p) refl
reply_back reply.NoFile p = refl
reply_back reply.Granted p = refl
reply_back reply.Lost p = refl
reply_back reply.Dropped p = refl
reply_back reply.AgainLater p = refl
reply_back (reply.Line l) p = rw (count_back l p) refl
reply_back (reply.Matched a b t) p = rw (count_back a p.0, branch_back b, count_back t p.1) refl
reply_back (reply.Late a b t) p = rw (count_back a p.0, branch_back b, count_back t p.1) refl
reply_back reply.Greeted p = refl
reply_back (reply.Stray y) p = rw (stray_back y) refl
reply_back (reply.Breach y) p = rw (breach_back y) refl
reply_back reply.Astray p = refl
reply_back reply.NoMemory p = refl

pub entry_back : (e : Entry) → EntryFits e → entry_in (entry_data e) ≡ Some e
entry_back e p = rw (count_back e.lane p.lane, call_back e.call p.call, reply_back e.reply p.reply) refl
