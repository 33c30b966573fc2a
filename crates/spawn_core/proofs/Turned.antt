-- One call that its lane's script has: what is kept stands for the journal with its entry.
use Rattle.std.proofs.Common.{◌≡◌, ℕ, ◌/◌, ◌<◌, Bool, true, false, cond, List, ◌∷◌, length, refl, ap, sym, subst, ◌∙◌}
use Rattle.run_plan.specs.declared.plan.Plan.{Plan}
use Rattle.exec_journal.specs.declared.call.Call.{Call}
use Rattle.exec_journal.specs.declared.call.Call.TheVariants as call
use Rattle.exec_journal.specs.declared.call.Wanted.{Wanted}
use Rattle.exec_journal.specs.Entry.{Entry}
use Rattle.exec_journal.specs.declared.reply.Reply.{Reply}
use Rattle.exec_journal.specs.declared.reply.Reply.TheVariants as reply
use Rattle.exec_journal.specs.Entries.{is_kept, is_look}
use Rattle.exec_journal.specs.Legal.{after}
use Rattle.core_contract.specs.Disciplines.{LegalBy, LegalEntryBy, script_of}
use Rattle.core_contract.specs.Discipline.{Discipline}
use Rattle.discipline_laws.proofs.Fitting.{entry_lawful}
use Rattle.core_tables.specs.declared.berth_group.BerthGroup.{BerthGroup}
use Rattle.core_tables.specs.Lanes.{allows_by}
use Rattle.core_state.specs.declared.state.State.{State}
use Rattle.core_state.specs.Noted.{noted_if_kept}
use Rattle.spawn_core.specs.Turns.{CanTurn, Orders, may_make, turned, turned_reply}
use Rattle.table_laws.specs.Moments.{LawfulMore}
use Rattle.core_laws.specs.Stands as tables
use Rattle.spawn_core.specs.Turning.{IsServed, turn_is}
use Rattle.core_tables.specs.Slots as slots
use Rattle.core_tables.specs.Slots.{Follows, FoundFiles}
use Rattle.core_tables.specs.Stands as files
use Rattle.core_tables.proofs.Kept.{follows}
use Rattle.spawn_core.specs.Allowed.{allowed_plain, asked_same, lane_within}
use Rattle.spawn_core.specs.Answers.{Replies, answer_by}
use Rattle.spawn_core.specs.Looks.{ToldLook}
use Rattle.spawn_core.specs.Stands.{TablesStand}
use Rattle.core_laws.proofs.AllOf.{all_of}
use Rattle.spawn_core.proofs.Looked.{look_told, look_unkept}
use Rattle.spawn_core.proofs.Stepped.{script_here, can_here, lane_here, berth_here, plan_here, reply_here, stands_here}

-- a reply that isn't kept leaves no file
unkept_files : (p : Plan) (c : Call) (r : Reply) (f g : slots.Facts) → is_kept r ≡ false
    → Follows p c r f g → g ≡ f
unkept_files p (call.Claim a b n x) reply.Granted f g h k = absurd (cc)
unkept_files p (call.Claim a b n x) _ f g h k = k
unkept_files p (call.Answer l x) (reply.Matched a b n) f g h k = absurd (cc)
unkept_files p (call.Answer l x) _ f g h k = k
unkept_files p _ r f g h k = k

module _ (q : Discipline) (s : State) (j : List Entry) (lane : ℕ) (seat : BerthGroup) (x : Orders)
    (c : Call) (st : tables.Stands q.plan q.seats s j) (lawful : LegalBy q j)
    (v : IsServed q s j lane seat x) (look : is_look c ≡ false)
    (may : may_make s seat.kind (q.ticks lane) lane c ≡ true) where
  abbrev all : LawfulMore q.plan j
  all = all_of q.plan q.seats s j st

  abbrev told : Reply
  told = turned_reply s lane seat x c

  pub can_turn : CanTurn s lane seat x c
  can_turn = can_here q s j lane seat x c st v lawful all look may

  pub lane_turn : lane < length (turned s lane seat x c).lanes
  lane_turn = lane_here q s j lane seat x c st v lawful all look may

  pub berth_turn : lane / 2 < length (turned s lane seat x c).greetings
  berth_turn = berth_here q s j lane seat x c st v lawful all look may

  -- the berth is one of the discipline's
  pub within_turn : lane / 2 < q.seats
  within_turn = lane_within q j lane c (script_here q s j lane seat x c st v lawful all look may)

  pub reply_turn : Replies (answer_by q j lane c) told
  reply_turn = reply_here q s j lane seat x c st v lawful all look may

  abbrev entry : Entry
  entry = record { lane = lane; call = c; reply = told }

  legal : is_kept told ≡ true → LegalEntryBy q j entry
  legal kept = record {
    scripted = script_here q s j lane seat x c st v lawful all look may;
    replied = turn_is q s j lane seat x st lawful all v c look
        (script_here q s j lane seat x c st v lawful all look may);
    kept = kept;
  }

  legal_turn : (b : Bool) → is_kept told ≡ b → LegalBy q (cond b (entry ∷ j) j)
  legal_turn true new = (lawful, legal new)
  legal_turn false old = lawful

  pub tables_turn : tables.Stands q.plan q.seats
      (noted_if_kept (turned s lane seat x c) lane c told) (after j lane c told)
  tables_turn = stands_here q s j lane seat x c st v lawful all look may

  pub legal_then : LegalBy q (after j lane c told)
  legal_then = legal_turn (is_kept told) refl

  module _ (f g : slots.Facts) (kept : files.Stands q.plan f j)
      (h : Follows (turned s lane seat x c).plan c told f g) where
    followed : Follows q.plan c told f g
    followed = subst (λ (p : Plan). Follows p c told f g)
        (plan_here q s j lane seat x c st v lawful all look may ∙ st.plan) h

    files_turn : (b : Bool) → is_kept told ≡ b → files.Stands q.plan g (cond b (entry ∷ j) j)
    files_turn true new = follows q.plan f g j lane kept c told
        (λ y is. ((all.entries entry (entry_lawful q v.is j entry lawful (legal new))).grants y
        is).ungranted) followed
    files_turn false old = subst (λ (k : slots.Facts). files.Stands q.plan k j)
        (sym (unkept_files q.plan c told f g old followed)) kept

    pub stands_turn : (own : List Entry → Type 0) → own (after j lane c told)
        → TablesStand q own (noted_if_kept (turned s lane seat x c) lane c told) g
        (after j lane c told)
    stands_turn own new = record {
      legal = legal_then;
      tables = tables_turn;
      kept = files_turn (is_kept told) refl;
      own = new;
    }

-- ---- what the check of a call says

pub unlook : (c : Call) → ((w : Wanted) → c ≡ call.Look w → ⊥) → is_look c ≡ false
unlook (call.Look w) h = absurd (h w refl)
unlook _ h = refl

module _ (q : Discipline) (own : List Entry → Type 0) (s : State) (f : slots.Facts)
    (j : List Entry) (lane : ℕ) (seat : BerthGroup) (x : Orders) (c : Call) (w : Wanted) (y : Reply)
    (st : TablesStand q own s f j) (v : IsServed q s j lane seat x)
    (may : may_make s seat.kind (q.ticks lane) lane c ≡ true) (is : c ≡ call.Look w)
    (told : ToldLook s f lane w y) where
  allowed_look : allows_by s.plan seat.kind s.lanes lane (call.Look w) ≡ true
  allowed_look = sym (ap (allows_by s.plan seat.kind s.lanes lane)
      (asked_same (q.ticks lane) (call.Look w) refl))
      ∙ (ap (may_make s seat.kind (q.ticks lane) lane) (sym is) ∙ may)

  script_look : script_of q j lane (call.Look w) ≡ true
  script_look = sym (allowed_plain q s j lane seat st.tables v.remote (call.Look w) refl)
      ∙ allowed_look

  pub look_reply : Replies (answer_by q j lane c) y
  look_reply = subst (λ (d : Call). Replies (answer_by q j lane d) y) (sym is)
      (look_told q v.is own s f j lane seat.kind st w y script_look
      (subst (λ (p : Plan). allows_by p seat.kind s.lanes lane (call.Look w) ≡ true) st.tables.plan
      allowed_look) told)

  pub look_stands : TablesStand q own s f (after j lane c y)
  look_stands = subst (λ (b : Bool). TablesStand q own s f
      (cond b (record { lane = lane; call = c; reply = y } ∷ j) j))
      (sym (look_unkept s f lane w y told)) st
