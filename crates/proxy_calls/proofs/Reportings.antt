-- Reports that are answered Noted.
use Rattle.std.proofs.Common.{◌≡◌, ℕ, true, false, [], ◌∷◌, ◌++◌, None, refl, ap, sym, subst, ◌∙◌, eq-eqb}
use Rattle.exec_journal.specs.declared.attempt.Attempt.{Attempt}
use Rattle.exec_journal.specs.declared.call.Call.{Call}
use Rattle.exec_journal.specs.declared.call.Call.TheVariants as call
use Rattle.exec_journal.specs.declared.call.Started.TheVariants as start
use Rattle.exec_journal.specs.declared.reply.Reply.{Reply}
use Rattle.exec_journal.specs.declared.reply.Reply.TheVariants as reply
use Rattle.outside.specs.Told.{ChildTold, TapTold, PlaceTold}
use Rattle.core_contract.specs.Discipline.{Discipline}
use Rattle.core_contract.specs.Moves.{History}
use Rattle.core_contract.specs.Laws.{says_file, fits, fits_noted}
use Rattle.core_contract.specs.Duties.{Duty, Asks, Launches, Sends, Cancels, Gathers, Commits, Kills, Left, duty_from, duty_by, duty_of, may_do}
use Rattle.core_machine.specs.Bench.{GoesIn}
use Rattle.exec_journal.specs.declared.call.Started.{Started}
use Rattle.proxy_words.specs.Ends.{may_halt}
use Rattle.proxy_calls.specs.Reports.{is_report}
use Rattle.seat_desk.specs.History.{entry, StartsWith}
use Rattle.proxy_calls.proofs.Replies.{never_noted}
use Rattle.proxy_calls.proofs.Entries.{Called, made, grew, duty_made}

pub report_fits : (c : Call) (r : Reply) → is_report c ≡ true → fits c r ≡ fits_noted r
report_fits call.Ask r e = absurd (cc)
report_fits (call.Launched l start.Done) r e = absurd (cc)
report_fits (call.Launched l start.RoomFault) r e = refl
report_fits (call.Launched l start.LaunchFault) r e = refl
report_fits (call.Wrote l n how) r e = refl
report_fits (call.Look w) r e = absurd (cc)
report_fits (call.Claim a b t f) r e = absurd (cc)
report_fits (call.Committed a b how) r e = absurd (cc)
report_fits (call.Killed l) r e = refl
report_fits call.Take r e = absurd (cc)
report_fits call.Tick r e = absurd (cc)
report_fits (call.Answer l x) r e = absurd (cc)
report_fits (call.Ended l how) r e = absurd (cc)
report_fits call.Halt r e = absurd (cc)

pub never_reported : (c : Call) (r : Reply) → is_report c ≡ true → fits c r ≡ true
    → says_file r ≡ true → ⊥
never_reported c r rep fit x = never_noted r (sym (report_fits c r rep) ∙ fit) x

-- nothing goes in with it
module _ {K T P : Type 0} (child : K → ChildTold) (tap : T → TapTold) (place : P → PlaceTold)
    (discipline : Discipline) where
  pub goes_plain : (h : History) (lane : ℕ) (c : Call) → is_report c ≡ true
      → GoesIn child tap place discipline h lane c None
  goes_plain h lane call.Ask e = absurd (cc)
  goes_plain h lane (call.Launched l start.Done) e = absurd (cc)
  goes_plain h lane (call.Launched l start.RoomFault) e = refl
  goes_plain h lane (call.Launched l start.LaunchFault) e = refl
  goes_plain h lane (call.Wrote l n how) e = refl
  goes_plain h lane (call.Look w) e = absurd (cc)
  goes_plain h lane (call.Claim a b t f) e = absurd (cc)
  goes_plain h lane (call.Committed a b how) e = absurd (cc)
  goes_plain h lane (call.Killed l) e = refl
  goes_plain h lane call.Take e = absurd (cc)
  goes_plain h lane call.Tick e = absurd (cc)
  goes_plain h lane (call.Answer l x) e = absurd (cc)
  goes_plain h lane (call.Ended l how) e = absurd (cc)
  goes_plain h lane call.Halt e = absurd (cc)

-- ---- what is owed then: nothing

module _ (discipline : Discipline) (w : ℕ) where
  abbrev May : Duty → Call → Type 0
  May s c = may_do discipline w s c ≡ true

  never_left : (c : Call) → May Left c → ⊥
  never_left call.Ask e = cc
  never_left (call.Launched l how) e = cc
  never_left (call.Wrote l n how) e = cc
  never_left (call.Look w) e = cc
  never_left (call.Claim a b t f) e = cc
  never_left (call.Committed a b how) e = cc
  never_left (call.Killed l) e = cc
  never_left call.Take e = cc
  never_left call.Tick e = cc
  never_left (call.Answer l x) e = cc
  never_left (call.Ended l how) e = cc
  never_left call.Halt e = cc

  plain : (s : Duty) (c : Call) → is_report c ≡ true → duty_from s c reply.Noted ≡ Asks
  plain s call.Ask e = absurd (cc)
  plain s (call.Launched l start.Done) e = absurd (cc)
  plain s (call.Launched l start.RoomFault) e = refl
  plain s (call.Launched l start.LaunchFault) e = refl
  plain s (call.Wrote l n how) e = refl
  plain s (call.Look w) e = absurd (cc)
  plain s (call.Claim a b t f) e = absurd (cc)
  plain s (call.Committed a b how) e = absurd (cc)
  plain s (call.Killed l) e = refl
  plain s call.Take e = absurd (cc)
  plain s call.Tick e = absurd (cc)
  plain s (call.Answer l x) e = absurd (cc)
  plain s (call.Ended l how) e = absurd (cc)
  plain s call.Halt e = absurd (cc)

  goes_by : (s : Duty) (c : Call) (r : Reply) → (s ≡ Left → ⊥) → duty_by s c r ≡ duty_from s c r
  goes_by Asks c r n = refl
  goes_by (Launches m t) c r n = refl
  goes_by (Sends m o k) c r n = refl
  goes_by (Cancels m o) c r n = refl
  goes_by (Gathers m o u v z) c r n = refl
  goes_by (Commits k d fs) c r n = refl
  goes_by (Kills m) c r n = refl
  goes_by Left c r n = absurd (n refl)

  pub by_call : (s : Duty) (c d : Call) (r : Reply) → May s d → duty_by s c r ≡ duty_from s c r
  by_call s c d r may =
      goes_by s c r (λ e. never_left d (subst (λ (x : Duty). May x d) e may))

  -- after a report
  pub by_report : (s : Duty) (c : Call) → is_report c ≡ true → May s c
      → duty_by s c reply.Noted ≡ Asks
  by_report s c rep may = by_call s c c reply.Noted may ∙ plain s c rep

-- ---- the entry of a call that was answered Noted

module _ (rule : History → ℕ → Call → Reply) (lane : ℕ) (then seen own seen' own' : History)
    (c : Call) (r : Reply) (k : Called rule lane then seen own seen' own' c r)
    (noted : r ≡ reply.Noted) where
  pub noted_made : StartsWith seen' seen × (own' ≡ own ++ entry lane c reply.Noted ∷ [])
  noted_made = (
    grew rule lane then seen own seen' own' c r reply.Noted k noted refl,
    made rule lane then seen own seen' own' c r reply.Noted k noted refl,
  )

  pub noted_asks : duty_by (duty_of own) c reply.Noted ≡ Asks → duty_of own' ≡ Asks
  noted_asks to = duty_made rule lane then seen own seen' own' c r reply.Noted k noted refl ∙ to

-- ---- what a lane may make

module _ (discipline : Discipline) (w : ℕ) where
  pub may_launch : (s : Duty) (l : ℕ) (how : Started) → (t : Attempt) × (s ≡ Launches l t)
      → may_do discipline w s (call.Launched l how) ≡ true
  may_launch s l how is =
      ap (λ (x : Duty). may_do discipline w x (call.Launched l how)) is.1 ∙ eq-eqb l l refl

  pub may_make_halt : (s : Duty) → may_halt s ≡ true
      → may_do discipline w s call.Halt ≡ true
  may_make_halt Asks e = refl
  may_make_halt (Launches l t) e = refl
  may_make_halt (Sends l n t) e = refl
  may_make_halt (Cancels l n) e = refl
  may_make_halt (Gathers l n t x y) e = refl
  may_make_halt (Commits a b fs) e = absurd (cc)
  may_make_halt (Kills l) e = refl
  may_make_halt Left e = absurd (cc)

pub not_left : (s : Duty) → may_halt s ≡ true → s ≡ Left → ⊥
not_left s may is = (let x : true ≡ false = sym may ∙ ap may_halt is in cc)
