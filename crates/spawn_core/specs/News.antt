-- The law of `Rules` on news: the tables have news for a lane exactly where the discipline has.
use Rattle.std.proofs.Common.{◌≡◌, ℕ, ◌/◌, ◌%◌, ◌<◌, ◌==◌, Bool, true, false, cond, ◌&&◌, not, List, Option, Some, None, refl, ap, sym, subst, ◌∙◌}
use Rattle.std.proofs.lemmas.Bool.{and_parts}
use Rattle.run_plan.specs.Groups.{is_remote}
use Rattle.exec_journal.specs.declared.call.Call.{Call}
use Rattle.exec_journal.specs.declared.call.Call.TheVariants as call
use Rattle.exec_journal.specs.Entry.{Entry}
use Rattle.exec_journal.specs.declared.reply.Reply.{Reply}
use Rattle.exec_journal.specs.declared.reply.Reply.TheVariants as reply
use Rattle.exec_journal.specs.Entries.{is_look}
use Rattle.exec_journal.proofs.Ruled.{by_bool}
use Rattle.core_tables.specs.declared.berth_group.BerthGroup.{BerthGroup}
use Rattle.core_state.specs.declared.choice.Choice.{Choice}
use Rattle.core_state.specs.declared.state.State.{State}
use Rattle.core_state.specs.Machine.{carried_reply, take_reply, takeable}
use Rattle.core_laws.specs.Stands as tables
use Rattle.core_laws.proofs.AllOf.{all_of}
use Rattle.core_contract.specs.Disciplines.{IsDiscipline, LegalBy, script_of}
use Rattle.core_contract.specs.Discipline.{Discipline}
use Rattle.core_contract.specs.Ruled.{journal_of}
use Rattle.core_contract.specs.Moves.{History}
use Rattle.core_contract.specs.News.{question, HasNews, SaysNews}
use Rattle.discipline_laws.proofs.Fitting.{in_script}
use Rattle.spawn_core.specs.Allowed.{allowed_is, lane_within, none_scripted}
use Rattle.spawn_core.specs.Outlook.{has_news, has_news_at, has_news_by, is_idle, told_by}
use Rattle.spawn_core.specs.Policies.{Serves}
use Rattle.spawn_core.specs.Turning.{IsServed, turn_is}
use Rattle.spawn_core.specs.Turns.{Orders, turned_reply}

record Fits (q : Discipline) (j : List Entry) (w : ℕ) (seat : BerthGroup) : Type 0 where
  fits : tables.SeatFits q.plan j w seat
  remote : is_remote seat.kind ≡ is_remote (q.kinds w)

-- what is said of the lane's berth is what is said of each
pub served : (q : Discipline) (s : State) (j : List Entry) (seated : ℕ → Option BerthGroup)
    (chosen : ℕ → Choice) (ticked : Reply) → Serves q s j seated chosen ticked → (lane : ℕ)
    (seat : BerthGroup) → seated (lane / 2) ≡ Some seat
    → IsServed q s j lane seat (record { ask = chosen (lane / 2); tick = ticked })
served q s j seated chosen ticked v lane seat at = record {
  is = v.is;
  fits = λ lt. (same lt).fits;
  remote = λ lt. (same lt).remote;
  carried = v.choices lane;
  ticked = v.ticks lane;
}
  where
    same : lane / 2 < q.seats → Fits q j (lane / 2) seat
    same lt = let y = v.seats (lane / 2) lt in
        subst (Fits q j (lane / 2)) (let z = sym y.is ∙ at in cc)
        (record { fits = y.fits; remote = y.remote })

-- ---- what a lane would be told

module _ (q : Discipline) (s : State) (j : List Entry) (seated : ℕ → Option BerthGroup)
    (chosen : ℕ → Choice) (ticked : Reply) (st : tables.Stands q.plan q.seats s j)
    (legal : LegalBy q j) (v : Serves q s j seated chosen ticked) (lane : ℕ) where
  abbrev ordered : Orders
  ordered = record { ask = chosen (lane / 2); tick = ticked }

  question_told : (c : Call) → is_look c ≡ false → script_of q j lane c ≡ true
      → (seat : BerthGroup) × (turned_reply s lane seat ordered c ≡ q.rule j lane c)
  question_told c look may =
      let y = v.seats (lane / 2) (lane_within q j lane c may) in (
        y.seat,
        turn_is q s j lane y.seat ordered st legal (all_of q.plan q.seats s j st)
            (served q s j seated chosen ticked v lane y.seat y.is) c look may,
      )

  -- of a lane that may ask the tables answer what the discipline does
  told_news : script_of q j lane (question q.ticks lane) ≡ true
      → not (is_idle (told_by s ordered (q.ticks lane) lane))
      ≡ not (is_idle (q.rule j lane (question q.ticks lane)))
  told_news = by_bool (q.ticks lane)
      (λ b. script_of q j lane (cond b call.Tick untimed) ≡ true
      → not (is_idle (cond b ticked told_untimed))
      ≡ not (is_idle (q.rule j lane (cond b call.Tick untimed))))
      (λ _ may. ap (λ (x : Reply). not (is_idle x)) (question_told call.Tick refl may).1)
      (λ _. untimed_told)
    where
      untimed : Call
      untimed = cond (lane % 2 == 0) call.Ask call.Take

      told_untimed : Reply
      told_untimed = cond (lane % 2 == 0) (carried_reply s (lane / 2) (chosen (lane / 2)))
          (take_reply s (takeable s (lane / 2)))

      untimed_told : script_of q j lane untimed ≡ true
          → not (is_idle told_untimed) ≡ not (is_idle (q.rule j lane untimed))
      untimed_told = by_bool (lane % 2 == 0)
          (λ b. script_of q j lane (cond b call.Ask call.Take) ≡ true
          → not (is_idle (cond b (carried_reply s (lane / 2) (chosen (lane / 2)))
          (take_reply s (takeable s (lane / 2)))))
          ≡ not (is_idle (q.rule j lane (cond b call.Ask call.Take))))
          (λ _ may. ap (λ (x : Reply). not (is_idle x)) (question_told call.Ask refl may).1)
          (λ _ may. ap (λ (x : Reply). not (is_idle x)) (question_told call.Take refl may).1)

  -- of a lane of this seat, by what the tables allow
  pub news_at : (o : Option BerthGroup) → seated (lane / 2) ≡ o
      → has_news_at s ordered q.ticks lane o ≡ has_news q j lane
  news_at None at =
      ap (λ (b : Bool). b && not (is_idle (q.rule j lane asked)))
      (sym (none_scripted q j lane asked (seated (lane / 2)) (v.seats (lane / 2)) at))
    where
      asked : Call
      asked = question q.ticks lane
  news_at (Some seat) at =
      let y = served q s j seated chosen ticked v lane seat at in
      let same = allowed_is q s j lane seat st y.remote asked in
      ap (λ (b : Bool). b && told) same
      ∙ by_bool (script_of q j lane asked) (λ b. script_of q j lane asked ≡ b
      → b && told ≡ b && not (is_idle (q.rule j lane asked)))
      (λ _ may. told_news may) (λ _ _. refl) refl
    where
      asked : Call
      asked = question q.ticks lane

      told : Bool
      told = not (is_idle (told_by s ordered (q.ticks lane) lane))

-- ---- the law

not_idle : (x : Reply) → (x ≡ reply.Idle → ⊥) → not (is_idle x) ≡ true
not_idle reply.Idle f = absurd (f refl)
not_idle _ f = refl

idle_is : (x : Reply) → x ≡ reply.Idle → not (is_idle x) ≡ true → ⊥
idle_is x e on = let clash : false ≡ true = ap (λ y. not (is_idle y)) (sym e) ∙ on in cc

module _ (q : Discipline) (is : IsDiscipline q) (h : History) (lane : ℕ) where
  abbrev told : Reply
  told = q.rule (journal_of h) lane (question q.ticks lane)

  abbrev may : Bool
  may = script_of q (journal_of h) lane (question q.ticks lane)

  said : HasNews q h lane → has_news q (journal_of h) lane ≡ true
  said news = by_bool may
      (λ b. (cond b told reply.Astray ≡ reply.Astray → ⊥)
      → (cond b told reply.Astray ≡ reply.Idle → ⊥) → b && not (is_idle told) ≡ true)
      (λ _ _ f. not_idle told f) (λ _ f _. absurd (f refl)) news.0 news.1

  so : has_news q (journal_of h) lane ≡ true → HasNews q h lane
  so on =
      let parts = and_parts may (not (is_idle told)) on in (
        in_script q is h lane (question q.ticks lane) parts.0,
        λ quiet. idle_is told (ap (λ b. cond b told reply.Astray) (sym parts.0) ∙ quiet) parts.1,
      )

pub news_are : (q : Discipline) (s : State) (h : History) (seated : ℕ → Option BerthGroup)
    (chosen : ℕ → Choice) (ticked : Reply) (lane : ℕ)
    → tables.Stands q.plan q.seats s (journal_of h) → LegalBy q (journal_of h)
    → Serves q s (journal_of h) seated chosen ticked
    → SaysNews q h lane (has_news_by s seated
    (record { ask = chosen (lane / 2); tick = ticked }) q.ticks lane)
news_are q s h seated chosen ticked lane st legal v =
    let same = news_at q s (journal_of h) seated chosen ticked st legal v lane (seated (lane / 2))
    refl in
    record {
      said = λ news. same ∙ said q v.is h lane news;
      so = λ on. so q v.is h lane (sym same ∙ on);
    }
