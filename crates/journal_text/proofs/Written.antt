-- The written lines of the plan and of entries: one line each, that spells it.
use Rattle.std.proofs.Common.{◌≡◌, ℕ, suc, ◌+◌, ◌<◌, List, [], ◌∷◌, ◌++◌, drop, length, get_or, true, false, arith, Option, Some, None, Result, Ok, Err, refl, sym, ap, subst, ◌∙◌, append_assoc}
use Rattle.std.specs.Prelude.{IfOk, OnOk}
use Rattle.std.specs.List.{flat_map}
use Rattle.std.specs.Str.{IsUtf8, is_utf8}
use Rattle.std.proofs.lemmas.List.Concat.{flat_map-cons}
use Rattle.std.proofs.lemmas.Str.{is_utf8-from_IsUtf8}
use Rattle.serde_json.specs.Read.{read}
use Rattle.std.proofs.lemmas.List.{at_drop_more}
use Rattle.serde_json.specs.Data.{Data}
use Rattle.serde_json.specs.Written.{compact_text}
use Rattle.base64.specs.GeneralPurpose.{IsBytes}
use Rattle.run_plan.specs.declared.plan.Group.{Group}
use Rattle.run_plan.specs.declared.plan.Maker.{Maker}
use Rattle.run_plan.specs.declared.plan.Plan.{Plan}
use Rattle.run_plan.specs.declared.plan.PlanAction.{PlanAction}
use Rattle.placed_rules.specs.declared.placed.Placed.{Placed}
use Rattle.placed_rules.specs.declared.placed.Seating.{Seating}
use Rattle.placed_rules.specs.declared.placed.Seating.TheVariants.{Own, Pools}
use Rattle.placed_rules.specs.declared.pools.SharedPool.{SharedPool}
use Rattle.exec_journal.specs.Entry.{Entry}
use Rattle.exec_journal.specs.declared.call.Answer.{Answer}
use Rattle.exec_journal.specs.declared.call.NamedFile.{NamedFile}
use Rattle.exec_journal.specs.declared.call.Call.{Call}
use Rattle.exec_journal.specs.declared.call.Call.TheVariants as call
use Rattle.exec_journal.specs.declared.call.CommitEnd.{CommitEnd}
use Rattle.exec_journal.specs.declared.call.CommitEnd.TheVariants as commit
use Rattle.exec_journal.specs.declared.call.Found.{Found}
use Rattle.exec_journal.specs.declared.call.Found.TheVariants as found
use Rattle.exec_journal.specs.declared.call.Wanted.{Wanted}
use Rattle.exec_journal.specs.declared.call.Wanted.TheVariants as look
use Rattle.exec_journal.specs.declared.reply.Reply.{Reply}
use Rattle.exec_journal.specs.declared.reply.Reply.TheVariants as reply
use Rattle.journal_text.specs.Fits.{AnswerFits, CallFits, CommitEndFits, Each, EntryFits, FileFits, FoundFits, GroupFits, IfCount, IsCount, MakerFits, PlacedFits, PlanActionFits, PlanFits, PoolFits, ReplyFits, SeatingFits, WantedFits}
use Rattle.journal_text.specs.Lines.{IsOneLine, IsWrittenEntry, IsWrittenPlaced, IsWrittenPlan, entry_text, first_text, json_in, placed_of, placed_row_of, placed_row_text, plan_of, plan_text}
use Rattle.placed_rules.specs.Placed.{on_own, placed}
use Rattle.journal_text.specs.Options.{◌>>=◌}
use Rattle.journal_text.specs.Placed.{alone, has_row, or_else, placed_data, placed_in, pool_data, seating_data, ticks_data}
use Rattle.journal_text.specs.Reading.{entry_in, plan_in}
use Rattle.journal_text.specs.Values.{content_data, count_data}
use Rattle.journal_text.specs.Words.{word_data}
use Rattle.journal_text.specs.Writing.{answer_data, call_data, commit_end_data, entry_data, file_data, found_data, group_data, maker_data, plan_action_data, plan_data, reply_data, wanted_data}
use Rattle.journal_text.proofs.Back.{entry_back, placed_back, plan_back}
use Rattle.journal_text.proofs.Plain.{IsPlain, content_plain, count_plain, each_plain, flag_plain, maybe_plain, row_plain, signed_plain, text_plain, texts_plain}

-- ---- plain

word_plain : (n : ℕ) (name : List ℕ) → IsPlain (suc n) (word_data name)
word_plain n name = row_plain n (text_plain n name, tt)

maker_plain : (m : Maker) → MakerFits m → IsPlain 1 (maker_data m)
maker_plain m p = row_plain 0 (count_plain 0 m.action p.action, (count_plain 0 m.output p.output, tt))

action_plain : (a : PlanAction) → PlanActionFits a → IsPlain 3 (plan_action_data a)
action_plain a p = row_plain 2 (
  text_plain 2 a.name,
  (
    row_plain 1 (texts_plain 1 a.outputs),
    (row_plain 1 (each_plain 1 MakerFits maker_data maker_plain a.makers p.makers), (maybe_plain 2 a.local p.local, (maybe_plain 2 a.remote p.remote, tt))),
  ),
)

group_plain : (g : Group) → GroupFits g → IsPlain 3 (group_data g)
group_plain g p = row_plain 2 (word_plain 1 _, (flag_plain 2 g.cancel, (count_plain 2 g.berths p.berths, tt)))

pub plan_plain : (x : Plan) → PlanFits x → IsPlain 5 (plan_data x)
plan_plain x p = row_plain 4 (
  row_plain 3 (each_plain 3 PlanActionFits plan_action_data action_plain x.actions p.actions),
  (row_plain 3 (each_plain 3 GroupFits group_data group_plain x.groups p.groups), (count_plain 4 x.limit p.limit, tt)),
)

pool_plain : (x : SharedPool) → PoolFits x → IsPlain 3 (pool_data x)
pool_plain x p = row_plain 2 (row_plain 1 (each_plain 1 IsCount count_data (count_plain 1) x.groups p.groups), (count_plain 2 x.berths p.berths, tt))

seating_plain : (x : Seating) → SeatingFits x → IsPlain 5 (seating_data x)
seating_plain Own p = word_plain 4 _
seating_plain (Pools pools instances) p = row_plain 4 (text_plain 4 _, (row_plain 3 (each_plain 3 PoolFits pool_data pool_plain pools p.0), (count_plain 4 instances p.1, tt)))

ticks_plain : (n : ℕ) (ticks : Option ℕ) → IfCount ticks → IsPlain n (ticks_data ticks)
ticks_plain n None p = count_plain n 0 (omega arith)
ticks_plain n (Some m) p = count_plain n m p

pub placed_plain : (x : Placed) → PlacedFits x → IsPlain 6 (placed_data x)
placed_plain x p = row_plain 5 (text_plain 5 _, (plan_plain x.plan p.plan, (seating_plain x.seating p.seating, (ticks_plain 5 x.ticks p.ticks, tt))))

file_plain : (f : NamedFile) → FileFits f → IsPlain 2 (file_data f)
file_plain f p = row_plain 1 (text_plain 1 f.path, (content_plain 1 f.content, tt))

answer_plain : (x : Answer) → AnswerFits x → IsPlain 4 (answer_data x)
answer_plain x p = row_plain 3 (
  signed_plain 3 x.number p.number,
  (
    signed_plain 3 x.exit p.exit,
    (
      flag_plain 3 x.cancelled,
      (
        text_plain 3 x.text,
        (text_plain 3 x.refusal, (row_plain 2 (each_plain 2 FileFits file_data file_plain x.files p.files), (signed_plain 3 x.version p.version, tt))),
      ),
    ),
  ),
)

wanted_plain : (w : Wanted) → WantedFits w → IsPlain 4 (wanted_data w)
wanted_plain (look.Made a o) p = row_plain 3 (text_plain 3 _, (count_plain 3 a p.0, (count_plain 3 o p.1, tt)))
wanted_plain (look.Answered l n o) p = row_plain 3 (text_plain 3 _, (count_plain 3 l p.0, (signed_plain 3 n p.1, (count_plain 3 o p.2, tt))))

found_plain : (f : Found) → FoundFits f → IsPlain 4 (found_data f)
found_plain (found.Files fs) p = row_plain 3 (text_plain 3 _, (row_plain 2 (each_plain 2 IsBytes content_data (λ b _. content_plain 2 b) fs p), tt))
found_plain (found.Exit n) p = row_plain 3 (text_plain 3 _, (signed_plain 3 n p, tt))
found_plain (found.Missing k) p = row_plain 3 (text_plain 3 _, (count_plain 3 k p, tt))
found_plain found.RoomFault p = word_plain 3 _
found_plain found.Refused p = word_plain 3 _

commit_end_plain : (x : CommitEnd) → CommitEndFits x → IsPlain 4 (commit_end_data x)
commit_end_plain commit.Done p = word_plain 3 _
commit_end_plain (commit.PlaceFault k) p = row_plain 3 (text_plain 3 _, (count_plain 3 k p, tt))

call_plain : (c : Call) → CallFits c → IsPlain 5 (call_data c)
call_plain call.Ask p = word_plain 4 _
call_plain (call.Launched l how) p = row_plain 4 (text_plain 4 _, (count_plain 4 l p, (word_plain 3 _, tt)))
call_plain (call.Wrote l n how) p = row_plain 4 (text_plain 4 _, (count_plain 4 l p.0, (signed_plain 4 n p.1, (word_plain 3 _, tt))))
call_plain (call.Look w) p = row_plain 4 (text_plain 4 _, (wanted_plain w p, tt))
call_plain (call.Claim a b t f) p = row_plain 4 (text_plain 4 _, (count_plain 4 a p.0, (word_plain 3 _, (count_plain 4 t p.1, (found_plain f p.2, tt)))))
call_plain (call.Committed a b how) p = row_plain 4 (text_plain 4 _, (count_plain 4 a p.0, (word_plain 3 _, (commit_end_plain how p.1, tt))))
call_plain (call.Killed l) p = row_plain 4 (text_plain 4 _, (count_plain 4 l p, tt))
call_plain call.Take p = word_plain 4 _
call_plain (call.Answer l x) p = row_plain 4 (text_plain 4 _, (count_plain 4 l p.0, (answer_plain x p.1, tt)))
call_plain (call.Ended l how) p = row_plain 4 (text_plain 4 _, (count_plain 4 l p, (word_plain 3 _, tt)))
call_plain call.Tick p = word_plain 4 _
call_plain call.Halt p = word_plain 4 _

reply_plain : (r : Reply) → ReplyFits r → IsPlain 5 (reply_data r)
reply_plain (reply.Launch l a b t) p = row_plain 4 (text_plain 4 _, (count_plain 4 l p.0, (count_plain 4 a p.1, (word_plain 3 _, (count_plain 4 t p.2, tt)))))
reply_plain (reply.Send l n a b t) p = row_plain 4 (text_plain 4 _, (count_plain 4 l p.0, (signed_plain 4 n p.1, (count_plain 4 a p.2, (word_plain 3 _, (count_plain 4 t p.3, tt))))))
reply_plain (reply.Cancel l n) p = row_plain 4 (text_plain 4 _, (count_plain 4 l p.0, (signed_plain 4 n p.1, tt)))
reply_plain (reply.Gather l n a b t e r) p = row_plain 4 (
  text_plain 4 _,
  (count_plain 4 l p.0, (signed_plain 4 n p.1, (count_plain 4 a p.2, (word_plain 3 _, (count_plain 4 t p.3, (signed_plain 4 e p.4, (flag_plain 4 r, tt))))))),
)
reply_plain (reply.Kill l y) p = row_plain 4 (text_plain 4 _, (count_plain 4 l p, (word_plain 3 _, tt)))
reply_plain reply.Stop p = word_plain 4 _
reply_plain reply.Idle p = word_plain 4 _
reply_plain reply.Noted p = word_plain 4 _
reply_plain (reply.File b) p = row_plain 4 (text_plain 4 _, (content_plain 4 b, tt))
reply_plain reply.NoFile p = word_plain 4 _
reply_plain reply.Granted p = word_plain 4 _
reply_plain reply.Lost p = word_plain 4 _
reply_plain reply.Dropped p = word_plain 4 _
reply_plain reply.AgainLater p = word_plain 4 _
reply_plain (reply.Line l) p = row_plain 4 (text_plain 4 _, (count_plain 4 l p, tt))
reply_plain (reply.Matched a b t) p = row_plain 4 (text_plain 4 _, (count_plain 4 a p.0, (word_plain 3 _, (count_plain 4 t p.1, tt))))
reply_plain (reply.Late a b t) p = row_plain 4 (text_plain 4 _, (count_plain 4 a p.0, (word_plain 3 _, (count_plain 4 t p.1, tt))))
reply_plain reply.Greeted p = word_plain 4 _
reply_plain (reply.Stray y) p = row_plain 4 (text_plain 4 _, (word_plain 3 _, tt))
reply_plain (reply.Breach y) p = row_plain 4 (text_plain 4 _, (word_plain 3 _, tt))
reply_plain reply.Astray p = word_plain 4 _
reply_plain reply.NoMemory p = word_plain 4 _

pub entry_plain : (e : Entry) → EntryFits e → IsPlain 6 (entry_data e)
entry_plain e p = row_plain 5 (count_plain 5 e.lane p.lane, (call_plain e.call p.call, (reply_plain e.reply p.reply, tt)))

-- ---- written

pub plan_written : (x : Plan) → PlanFits x → json_in (compact_text (plan_data x)) ≡ Some (plan_data x) → IsWrittenPlan x
unfolding plan_text
plan_written x p again = record { one_line = (plan_plain x p).lined; again = ap (λ (o : Option Data). o >>= plan_in) again ∙ plan_back x p }

-- the row of a plan on its berths spells no plan, since it begins with a word
row_written : (x : Placed) → PlacedFits x → has_row x.seating x.ticks ≡ true → (x.ticks ≡ Some 0 → ⊥) → json_in (compact_text (placed_data x)) ≡ Some (placed_data x)
    → placed_of (compact_text (placed_data x)) ≡ Some x
row_written x p row some again =
    let no_plan : plan_of (compact_text (placed_data x)) ≡ None = ap (λ (o : Option Data). o >>= plan_in) again in
    let spelled : placed_row_of (compact_text (placed_data x)) ≡ Some x = ap (λ (o : Option Data). o >>= placed_in) again ∙ placed_back x p row some in
    ap (λ (o : Option Plan). or_else (alone o) (placed_row_of (compact_text (placed_data x)))) no_plan ∙ spelled

pub by_row : (x : Placed) → has_row x.seating x.ticks ≡ true → first_text x ≡ placed_row_text x
by_row x row = rw row refl

pub by_plan : (x : Placed) → has_row x.seating x.ticks ≡ false → first_text x ≡ plan_text x.plan
by_plan x no' = rw no' refl

written_so : (x : Placed) (text : List ℕ) → first_text x ≡ text → IsOneLine text → placed_of text ≡ Some x → IsWrittenPlaced x
written_so x text is one again = record { one_line = subst IsOneLine (sym is) one; again = ap placed_of is ∙ again }

pub placed_written : (x : Placed) → PlacedFits x → has_row x.seating x.ticks ≡ true → (x.ticks ≡ Some 0 → ⊥) → json_in (compact_text (placed_data x)) ≡ Some (placed_data x) → IsWrittenPlaced x
unfolding placed_row_text
placed_written x p row some again = written_so x (compact_text (placed_data x)) (by_row x row) (placed_plain x p).lined (row_written x p row some again)

-- own berths without Ticks are told apart by nothing else
is_alone : (p : Plan) (s : Seating) (ticks : Option ℕ) → has_row s ticks ≡ false → on_own p None ≡ placed p s ticks
is_alone p Own None e = refl
is_alone p Own (Some n) e = absurd (cc)
is_alone p (Pools pools instances) ticks e = absurd (cc)

pub plan_is_written : (x : Placed) → has_row x.seating x.ticks ≡ false → IsWrittenPlan x.plan → IsWrittenPlaced x
plan_is_written x no' w =
    let spelled : placed_of (plan_text x.plan) ≡ Some (on_own x.plan None) = ap (λ (o : Option Plan). or_else (alone o) (placed_row_of (plan_text x.plan))) w.again in
    written_so x (plan_text x.plan) (by_plan x no') w.one_line (spelled ∙ ap Some (is_alone x.plan x.seating x.ticks no'))

pub placed_text_is : (x : Placed) (d : Data) → d ≡ placed_data x → compact_text d ≡ placed_row_text x
unfolding placed_row_text
placed_text_is x d is = ap compact_text is

pub entry_written : (e : Entry) → EntryFits e → json_in (compact_text (entry_data e)) ≡ Some (entry_data e) → IsWrittenEntry e
unfolding entry_text
entry_written e p again = record { one_line = (entry_plain e p).lined; again = ap (λ (o : Option Data). o >>= entry_in) again ∙ entry_back e p }

pub plan_text_is : (x : Plan) (d : Data) → d ≡ plan_data x → compact_text d ≡ plan_text x
unfolding plan_text
plan_text_is x d is = ap compact_text is

pub entry_text_is : (e : Entry) (d : Data) → d ≡ entry_data e → compact_text d ≡ entry_text e
unfolding entry_text
entry_text_is e d is = ap compact_text is

-- ---- one more element fits

pub fits_more : {A : Type 0} (P : A → Type 0) (xs : List A) (i : ℕ) (x : A) → (Each P (drop i xs) → Each P xs) → i < length xs → x ≡ get_or xs i x → P x → Each P (drop (i + 1) xs) → Each P xs
fits_more {A} P xs i x before below is fits rest =
    let front : drop i xs ≡ x ∷ drop (i + 1) xs = at_drop_more (λ (l : List A). l) xs i x below ∙ ap (λ (w : A). w ∷ drop (i + 1) xs) (sym is) in
    before (subst (Each P) (sym front) (fits, rest))

-- ---- texts

pub read_again : (d : Data) (text : List ℕ) → text ≡ compact_text d → IsUtf8 text → read text ≡ Some d → json_in (compact_text d) ≡ Some d
read_again d text is utf8 e =
    let t : is_utf8 (compact_text d) ≡ true = ap is_utf8 (sym is) ∙ is_utf8-from_IsUtf8 text utf8 in
    let r : read (compact_text d) ≡ Some d = ap read (sym is) ∙ e in
    rw (t, r) refl

pub if_ok : {A E : Type 0} (r : Result A E) (P Q : A → Type 0) → ((a : A) → P a → Q a) → IfOk r P → IfOk r Q
if_ok (Ok a) P Q f p = f a p
if_ok (Err e) P Q f p = p

pub on_ok : {A E : Type 0} (r : Result A E) (P Q : Type 0) → (P → Q) → OnOk r P → OnOk r Q
on_ok (Ok a) P Q f p = f p
on_ok (Err e) P Q f p = p

abbrev pub with_feed : Entry → List ℕ
with_feed e = entry_text e ++ 10 ∷ []

pub text_more : (xs : List Entry) (i : ℕ) (x : Entry) (text line all : List ℕ) → text ++ flat_map with_feed (drop i xs) ≡ all → i < length xs → x ≡ get_or xs i x → line ≡ entry_text x
    → ((text ++ line) ++ 10 ∷ []) ++ flat_map with_feed (drop (i + 1) xs) ≡ all
text_more xs i x text line all before below is said =
    let front : drop i xs ≡ x ∷ drop (i + 1) xs = at_drop_more (λ (l : List Entry). l) xs i x below ∙ ap (λ (w : Entry). w ∷ drop (i + 1) xs) (sym is) in
    let rest : flat_map with_feed (drop i xs) ≡ with_feed x ++ flat_map with_feed (drop (i + 1) xs) = ap (flat_map with_feed) front ∙ flat_map-cons with_feed x (drop (i + 1) xs) in
    ap (λ (s : List ℕ). ((text ++ s) ++ 10 ∷ []) ++ flat_map with_feed (drop (i + 1) xs)) said
    ∙ ap (λ (s : List ℕ). s ++ flat_map with_feed (drop (i + 1) xs)) (append_assoc text (entry_text x) (10 ∷ []))
    ∙ append_assoc text (with_feed x) (flat_map with_feed (drop (i + 1) xs))
    ∙ ap (λ (s : List ℕ). text ++ s) (sym rest) ∙ before
