-- What a lane's script has, where some lanes make Ticks too.
use Rattle.exec_journal.specs.Lawful.{Lawful, may_tick}
use Rattle.exec_journal.specs.declared.call.Call.{Call}
use Rattle.exec_journal.specs.Entry.{Entry}
use Rattle.discipline_laws.proofs.Hearing.{script_is_hearing, tells_hears}
use Rattle.core_contract.specs.Disciplines.{script_of}
use Rattle.core_contract.specs.Discipline.{Discipline}
use Rattle.core_contract.specs.Ruled.{journal_of}
use Rattle.core_contract.specs.Duties.{Asks, Duty, duty_of, may_make, proxy_lane}
use Rattle.core_contract.specs.Laws.{Free, Hearing, Hears, Over, hearing_of, may_hear, tap_lane, tells_of}
use Rattle.core_contract.specs.Moves.{History}
use Rattle.discipline_laws.proofs.Only.{script_is_duty}
use Rattle.discipline_laws.proofs.Staying.{lane_is_known, script_stays}
use Rattle.seat_desk.specs.History.{calls_by}
use Rattle.std.proofs.Common.{List, None, [], refl, true, ℕ, ◌&&◌, ◌++◌, ◌/◌, ◌<◌, ◌||◌, ◌≡◌}
use Rattle.exec_journal.specs.declared.call.Call.TheVariants as call
use Rattle.discipline_laws.proofs.Fitting.{Scripted, Ticks, Seated}

asks_make : (discipline : Discipline) (w : ℕ) (s : Duty) → may_make discipline w s call.Ask ≡ true
    → may_make discipline w s call.Tick ≡ true
asks_make discipline w Asks h = refl
asks_make discipline w _ h = absurd (cc)

pub only_makes : (q : Discipline) (h : History) (w : ℕ) (d : Call) → Scripted q (journal_of h) (proxy_lane w) d
    → may_make (q) w (duty_of (calls_by (proxy_lane w) h)) d ≡ true
only_makes q h w d (Seated _ seat) = script_is_duty q h w d seat
only_makes q h w d (Ticks ask) =
    asks_make (q) w (duty_of (calls_by (proxy_lane w) h))
    (script_is_duty q h w call.Ask ask)

pub known : (q : Discipline) (j : List Entry) (lane : ℕ) (d : Call) → Scripted q j lane d → lane / 2 < q.seats
known q j lane d (Seated _ seat) = lane_is_known q.seats q.kinds q.plan j lane d seat
known q j lane d (Ticks ask) = lane_is_known q.seats q.kinds q.plan j lane call.Ask ask

pub stays : (q : Discipline) (h more : History) (lane : ℕ) (d : Call) → calls_by lane more ≡ []
    → script_of q (journal_of (h ++ more)) lane d ≡ script_of q (journal_of h) lane d
stays q h more lane d none =
    let ask = script_stays q.seats q.kinds q.plan h more lane call.Ask none in
    let same = script_stays q.seats q.kinds q.plan h more lane d none in
    λ i. (q.ticks lane && may_tick (ask i) None d) || same i

asks_not : (s : Hearing) → may_hear s call.Ask ≡ true → ⊥
asks_not Free h = cc
asks_not (Hears l) h = cc
asks_not Over h = cc

pub only_hears : (q : Discipline) (h : History) (w : ℕ) (d : Call) → Lawful q.plan (journal_of h) → Scripted q (journal_of h) (tap_lane w) d
    → may_hear (hearing_of (calls_by (tap_lane w) h)) d ≡ true
only_hears q h w d good (Seated _ seat) = script_is_hearing q.seats q.kinds q.plan h w d good seat
only_hears q h w d good (Ticks ask) =
    absurd (asks_not (hearing_of (calls_by (tap_lane w) h)) (script_is_hearing q.seats q.kinds q.plan h w call.Ask good ask))

pub telling : (q : Discipline) (h : History) (lane : ℕ) (d : Call) (l : ℕ) → tells_of l d ≡ true → Scripted q (journal_of h) lane d
    → hearing_of (calls_by lane h) ≡ Hears l
telling q h lane d l tells (Seated _ seat) = tells_hears q.seats q.kinds q.plan h lane d l tells seat
telling q h lane d l tells (Ticks ask) = absurd (cc)
