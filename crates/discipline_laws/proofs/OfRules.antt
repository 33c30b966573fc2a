-- The laws of `Rules`, of each discipline: what a core that goes by one keeps.
use Rattle.std.proofs.Common.{◌∙◌, ◌*◌, ap, arith, refl}
use Rattle.std.proofs.lemmas.Bool.{and_from, or_left}
use Rattle.std.specs.Prelude.{◌≡◌, ℕ, ℤ, ◌/◌, ◌+◌, ◌<◌, ◌≤◌, true, false, List, [], ◌∷◌, ◌++◌, length, Some, None}
use Rattle.run_plan.specs.declared.plan.Branch.{Branch}
use Rattle.run_plan.specs.Groups.{is_remote}
use Rattle.exec_journal.specs.declared.attempt.Attempt.{Attempt}
use Rattle.exec_journal.specs.declared.call.Call.{Call}
use Rattle.exec_journal.specs.declared.call.Call.TheVariants as call
use Rattle.exec_journal.specs.declared.call.CommitEnd.{CommitEnd}
use Rattle.exec_journal.specs.declared.call.Found.TheVariants as found
use Rattle.exec_journal.specs.declared.call.Started.TheVariants as start
use Rattle.exec_journal.specs.declared.call.Wanted.TheVariants as wanted
use Rattle.exec_journal.specs.declared.reply.Reply.TheVariants as reply
use Rattle.exec_journal.specs.Entries.{is_kept}
use Rattle.run_plan.specs.Sound.{Sound}
use Rattle.seat_desk.specs.History.{entry, calls_by}
use Rattle.core_contract.specs.Duties.{Asks, Duty, Sends, Commits, Left, proxy_lane, duty_of, is_maker, may_do, may_make}
use Rattle.core_contract.specs.Laws.{InScript, Fits, tap_lane, hearing_of, may_hear, Hears, Over, tells_of, claimed, says_file, lines_in, is_taken, OrderFits, OrderHolds}
use Rattle.core_contract.specs.Keeps.{Keeps}
use Rattle.core_contract.specs.Moves.{Past, History}
use Rattle.core_contract.specs.Shelf.{child_at, tap_at, place_at, Fresh, Away}
use Rattle.core_contract.specs.Discipline.{Discipline, makers_in}
use Rattle.core_contract.specs.Ruled.{CameAbout, IsPaidAfter, answer_after, journal_of, owes_after}
use Rattle.call_laws.proofs.Reports.{few_lines}
use Rattle.discipline_laws.proofs.Doing.{duty_is_scripted}
use Rattle.discipline_laws.proofs.Dues as paying
use Rattle.discipline_laws.proofs.Bridging.{lines_are}
use Rattle.discipline_laws.proofs.Fitting.{in_script, lawful, scripted_as, scripted_so, seated_so, replies_fit}
use Rattle.discipline_laws.proofs.Ticking as ticking
use Rattle.discipline_laws.proofs.Granting as granting
use Rattle.discipline_laws.proofs.Growing as growing
use Rattle.discipline_laws.proofs.Hearing as hearing
use Rattle.discipline_laws.proofs.Inputs as inputs
use Rattle.discipline_laws.proofs.Ordering as ordering
use Rattle.discipline_laws.proofs.Paying as paid
use Rattle.core_contract.specs.Disciplines.{IsDiscipline, berth_script}

module _ (q : Discipline) (is : IsDiscipline q) where
  pub legal_before : (h : History) (e : Past) → CameAbout q (h ++ e ∷ [])
      → CameAbout q h × (e.reply ≡ answer_after q h e.lane e.call) × (is_kept e.reply ≡ true)
  legal_before h e came = growing.legal_before q h e came

  -- ---- what is paid

  pub paid_is_noted : (h : History) (lane : ℕ) (c : Call) → CameAbout q h → IsPaidAfter q h lane c
      → answer_after q h lane c ≡ reply.Noted
  paid_is_noted h lane c came p = paid.paid_noted q is h lane c came p

  pub paid_stays : (h more : History) (lane : ℕ) (c : Call) → calls_by lane more ≡ []
      → IsPaidAfter q h lane c → IsPaidAfter q (h ++ more) lane c
  paid_stays h more lane c none p = paid.paid_stays q h more lane c none p

  pub owes_less : (h : History) (lane : ℕ) (c : Call) → IsPaidAfter q h lane c
      → owes_after q (h ++ entry lane c reply.Noted ∷ []) + 1 ≡ owes_after q h
  owes_less h lane c p = paid.owes_less q h lane c p

  pub owes_more : (h : History) (lane : ℕ) (c : Call)
      → is_kept (answer_after q h lane c) ≡ true
      → owes_after q (h ++ entry lane c (answer_after q h lane c) ∷ []) ≤ owes_after q h + 2
  owes_more h lane c kept = paid.owes_more q h lane c kept

  -- ---- scripts

  pub replies : (h : History) (lane : ℕ) (c : Call) → Fits c (answer_after q h lane c)
  replies h lane c = replies_fit q is h lane c

  pub lanes_are_known : (h : History) (lane : ℕ) (c : Call)
      → InScript (answer_after q) h lane c → lane / 2 < q.seats
  lanes_are_known h lane c fit =
      ticking.known q (journal_of h) lane c
      (scripted_as q (journal_of h) lane c (scripted_so q h lane c fit))

  pub script_stays : (h more : History) (lane : ℕ) (c : Call) → calls_by lane more ≡ []
      → InScript (answer_after q) h lane c → InScript (answer_after q) (h ++ more) lane c
  script_stays h more lane c none fit = in_script q is (h ++ more) lane c
      (ticking.stays q h more lane c none ∙ scripted_so q h lane c fit)

  pub taps_hear : (h : History) (w : ℕ) (c : Call) → w < q.seats
      → may_hear (hearing_of (calls_by (tap_lane w) h)) c ≡ true
      → InScript (answer_after q) h (tap_lane w) c
  taps_hear h w c lt may =
      in_script q is h (tap_lane w) c (seated_so q (journal_of h) (tap_lane w) c
      (hearing.hearing_is_scripted q.seats q.kinds q.plan h w c lt may))

  pub taps_hear_only : (h : History) (w : ℕ) (c : Call) → CameAbout q h
      → InScript (answer_after q) h (tap_lane w) c
      → may_hear (hearing_of (calls_by (tap_lane w) h)) c ≡ true
  taps_hear_only h w c came fit =
      ticking.only_hears q h w c (lawful q is (journal_of h) came.legal)
      (scripted_as q (journal_of h) (tap_lane w) c (scripted_so q h (tap_lane w) c fit))

  pub taps_may_halt : (h : History) (w : ℕ) → w < q.seats
      → (hearing_of (calls_by (tap_lane w) h) ≡ Over → ⊥)
      → IsPaidAfter q h (tap_lane w) call.Halt
  taps_may_halt h w lt n = hearing.tap_halt_is_paid q.seats h w lt n

  pub only_hears : (h : History) (lane : ℕ) (c : Call) (l : ℕ) → tells_of l c ≡ true
      → InScript (answer_after q) h lane c → hearing_of (calls_by lane h) ≡ Hears l
  only_hears h lane c l tells fit =
      ticking.telling q h lane c l tells
      (scripted_as q (journal_of h) lane c (scripted_so q h lane c fit))

  pub proxies_do : (h : History) (w : ℕ) (c : Call) → w < q.seats
      → may_do (q) w (duty_of (calls_by (proxy_lane w) h)) c ≡ true
      → InScript (answer_after q) h (proxy_lane w) c
  proxies_do h w c lt may = in_script q is h (proxy_lane w) c
      (seated_so q (journal_of h) (proxy_lane w) c
      (duty_is_scripted q h w c lt may))

  pub proxies_do_only : (h : History) (w : ℕ) (c : Call)
      → InScript (answer_after q) h (proxy_lane w) c
      → may_make (q) w (duty_of (calls_by (proxy_lane w) h)) c ≡ true
  proxies_do_only h w c fit =
      ticking.only_makes q h w c
      (scripted_as q (journal_of h) (proxy_lane w) c (scripted_so q h (proxy_lane w) c fit))

  pub tickers_may_tick : (h : History) (w : ℕ) → w < q.seats → q.ticks (proxy_lane w) ≡ true
      → duty_of (calls_by (proxy_lane w) h) ≡ Asks
      → InScript (answer_after q) h (proxy_lane w) call.Tick
  tickers_may_tick h w lt ticks owes =
      let lane = proxy_lane w in
      let ask : berth_script q (journal_of h) lane call.Ask ≡ true =
      duty_is_scripted q h w call.Ask lt
      (ap (λ (s : Duty). may_do (q) w s call.Ask) owes) in
      in_script q is h lane call.Tick
      (or_left _ _ (and_from _ _ ticks (and_from _ _ ask refl)))

  pub proxies_may_halt : (h : History) (w : ℕ) → w < q.seats
      → (duty_of (calls_by (proxy_lane w) h) ≡ Left → ⊥)
      → IsPaidAfter q h (proxy_lane w) call.Halt
  proxies_may_halt h w lt n = paying.halt_is_paid q.seats h w lt n

  pub commits_are_paid : (h : History) (w a : ℕ) (b : Branch) (fs : List (List ℕ))
      (how : CommitEnd) → w < q.seats → duty_of (calls_by (proxy_lane w) h) ≡ Commits a b fs
      → IsPaidAfter q h (proxy_lane w) (call.Committed a b how)
  commits_are_paid h w a b fs how lt e = paying.commit_is_paid q.seats h w a b fs how lt e

  -- ---- what holds of every history that came about

  pub orders_hold : (h : History) (lane : ℕ) → CameAbout q h
      → OrderHolds (length q.plan.actions) (child_at (lane / 2) h) (lines_in h)
      (answer_after q h lane call.Ask)
  orders_hold h lane came = ordering.orders_hold q is h lane came

  pub orders_fit : (h : History) (lane : ℕ) → CameAbout q h
      → OrderFits q.plan (is_remote (q.kinds (lane / 2))) (answer_after q h lane call.Ask)
  orders_fit h lane came = ordering.orders_fit q is h lane came

  pub lines_fit : (h : History) → CameAbout q h
      → lines_in h ≤ 2 * length q.plan.actions * q.plan.limit
  lines_fit h came =
      let same = lines_are h in
      let few = few_lines q.plan (journal_of h) came.sound (lawful q is (journal_of h) came.legal) in
      omega (arith, same, few)

  pub inputs_are_there : (h : History) (w l : ℕ) (n : ℤ) (t : Attempt) (c o : ℕ) → CameAbout q h
      → duty_of (calls_by (proxy_lane w) h) ≡ Sends l n t
      → is_maker (makers_in q.plan t.action) c o ≡ true
      → says_file (answer_after q h (proxy_lane w) (call.Look (wanted.Made c o))) ≡ true
  inputs_are_there h w l n t c o came owes maker =
      inputs.inputs_are_there q is h w l n t c o came owes maker

  pub lines_find_room : (h : History) (lane l : ℕ) → CameAbout q h
      → InScript (answer_after q) h lane (call.Launched l start.Done)
      → (child_at (lane / 2) h ≡ None) × (tap_at (lane / 2) h ≡ None)
  lines_find_room h lane l came fit = ordering.lines_find_room q is h lane l came fit

  pub takes_there : (h : History) (lane l : ℕ) → CameAbout q h
      → answer_after q h lane call.Take ≡ reply.Line l → tap_at (lane / 2) h ≡ Some l
  takes_there h lane l came so = ordering.takes_there q is h lane l came so

  pub takes_once : (h : History) (lane l : ℕ) → CameAbout q h
      → answer_after q h lane call.Take ≡ reply.Line l → is_taken l h ≡ false
  takes_once h lane l came so = ordering.takes_once q is h lane l so

  pub grants_once : (h : History) (lane a : ℕ) (b : Branch) (t : ℕ) (fs : List (List ℕ))
      → CameAbout q h
      → answer_after q h lane (call.Claim a b t (found.Files fs)) ≡ reply.Granted
      → (a < length q.plan.actions) × (place_at a h ≡ Fresh)
  grants_once h lane a b t fs came so = granting.grants_once q is h lane a b t fs came so

  pub commits_own : (h : History) (lane a : ℕ) (b : Branch) (how : CommitEnd)
      → CameAbout q h → InScript (answer_after q) h lane (call.Committed a b how)
      → place_at a h ≡ Away (claimed (calls_by lane h))
  commits_own h lane a b how came fit = granting.commits_own q is h lane a b how came fit

  -- all of it, if a sound plan has few berths
  pub keeps : (Sound q.plan → q.seats ≤ 128) → Keeps q
  keeps few = record {
    is = is;
    few = few;
    legal_before = legal_before;
    paid_is_noted = paid_is_noted;
    paid_stays = paid_stays;
    owes_less = owes_less;
    owes_more = owes_more;
    replies = replies;
    lanes_are_known = lanes_are_known;
    script_stays = script_stays;
    taps_hear = taps_hear;
    taps_hear_only = taps_hear_only;
    taps_may_halt = taps_may_halt;
    only_hears = only_hears;
    proxies_do = proxies_do;
    proxies_do_only = proxies_do_only;
    tickers_may_tick = tickers_may_tick;
    proxies_may_halt = proxies_may_halt;
    commits_are_paid = commits_are_paid;
    orders_hold = orders_hold;
    orders_fit = orders_fit;
    lines_fit = lines_fit;
    inputs_are_there = inputs_are_there;
    lines_find_room = lines_find_room;
    takes_there = takes_there;
    takes_once = takes_once;
    grants_once = grants_once;
    commits_own = commits_own;
  }
