-- The laws of a discipline on which lanes and the bench rely.
use Rattle.std.specs.Prelude.{◌≡◌, ℕ, ℤ, ◌*◌, ◌/◌, ◌+◌, ◌<◌, ◌≤◌, true, false, List, [], ◌∷◌, ◌++◌, length, Some, None}
use Rattle.run_plan.specs.declared.plan.Branch.{Branch}
use Rattle.run_plan.specs.Groups.{is_remote}
use Rattle.run_plan.specs.Sound.{Sound}
use Rattle.exec_journal.specs.declared.attempt.Attempt.{Attempt}
use Rattle.exec_journal.specs.declared.call.Call.{Call}
use Rattle.exec_journal.specs.declared.call.Call.TheVariants as call
use Rattle.exec_journal.specs.declared.call.CommitEnd.{CommitEnd}
use Rattle.exec_journal.specs.declared.call.Found.TheVariants as found
use Rattle.exec_journal.specs.declared.call.Started.TheVariants as start
use Rattle.exec_journal.specs.declared.call.Wanted.TheVariants as wanted
use Rattle.exec_journal.specs.declared.reply.Reply.TheVariants as reply
use Rattle.exec_journal.specs.Entries.{is_kept}
use Rattle.seat_desk.specs.History.{entry, calls_by}
use Rattle.core_contract.specs.Discipline.{Discipline, line_room, makers_in}
use Rattle.core_contract.specs.Disciplines.{IsDiscipline}
use Rattle.core_contract.specs.Duties.{Asks, Sends, Commits, Left, proxy_lane, duty_of, is_maker, may_do, may_make}
use Rattle.core_contract.specs.Laws.{InScript, Fits, tap_lane, hearing_of, may_hear, Hears, Over, tells_of, claimed, says_file, lines_in, is_taken, OrderFits, OrderHolds}
use Rattle.core_contract.specs.Moves.{Past, History}
use Rattle.core_contract.specs.Shelf.{child_at, tap_at, place_at, Fresh, Away}
use Rattle.core_contract.specs.Ruled.{answer_after, IsPaidAfter, owes_after, CameAbout}

-- A law about histories that a core can reach requires that the history came about; the others hold
-- for any entries.
pub record Keeps (q : Discipline) : Type 0 where
  -- each order has its reasons, and every other reply is the journal's
  pub is : IsDiscipline q
  -- a sound plan has at most 128 berths
  pub few : Sound q.plan → q.seats ≤ 128
  -- a history that came about did so before its last entry, whose reply is the discipline's and
  -- is recorded
  pub legal_before : (h : History) (e : Past) → CameAbout q (h ++ e ∷ [])
      → CameAbout q h × (e.reply ≡ answer_after q h e.lane e.call) × (is_kept e.reply ≡ true)
  -- a paid call gets the reply Noted, and so never a lack of memory
  pub paid_is_noted : (h : History) (lane : ℕ) (c : Call) → CameAbout q h → IsPaidAfter q h lane c
      → answer_after q h lane c ≡ reply.Noted
  -- a call that a history has paid for stays paid for after entries of other lanes
  pub paid_stays : (h more : History) (lane : ℕ) (c : Call) → calls_by lane more ≡ []
      → IsPaidAfter q h lane c → IsPaidAfter q (h ++ more) lane c
  -- a paid call lowers the number of owed entries by one
  pub owes_less : (h : History) (lane : ℕ) (c : Call) → IsPaidAfter q h lane c
      → owes_after q (h ++ entry lane c reply.Noted ∷ []) + 1 ≡ owes_after q h
  -- any call raises that number by at most two
  pub owes_more : (h : History) (lane : ℕ) (c : Call)
      → is_kept (answer_after q h lane c) ≡ true
      → owes_after q (h ++ entry lane c (answer_after q h lane c) ∷ []) ≤ owes_after q h + 2
  -- a call in its lane's script gets a reply of its kind
  pub replies : (h : History) (lane : ℕ) (c : Call) → Fits c (answer_after q h lane c)
  -- a call in a script is one of a lane of a berth
  pub lanes_are_known : (h : History) (lane : ℕ) (c : Call)
      → InScript (answer_after q) h lane c → lane / 2 < q.seats
  -- a call in a script stays there after entries of other lanes
  pub script_stays : (h more : History) (lane : ℕ) (c : Call) → calls_by lane more ≡ []
      → InScript (answer_after q) h lane c → InScript (answer_after q) (h ++ more) lane c
  -- the calls in a tap lane's script depend only on the lane's own entries
  pub taps_hear : (h : History) (w : ℕ) (c : Call) → w < q.seats
      → may_hear (hearing_of (calls_by (tap_lane w) h)) c ≡ true
      → InScript (answer_after q) h (tap_lane w) c
  -- after a history that came about, no other call is in it
  pub taps_hear_only : (h : History) (w : ℕ) (c : Call) → CameAbout q h
      → InScript (answer_after q) h (tap_lane w) c
      → may_hear (hearing_of (calls_by (tap_lane w) h)) c ≡ true
  -- a tap lane's Halt is paid for until the lane was told to stop or has halted
  pub taps_may_halt : (h : History) (w : ℕ) → w < q.seats
      → (hearing_of (calls_by (tap_lane w) h) ≡ Over → ⊥)
      → IsPaidAfter q h (tap_lane w) call.Halt
  -- an Answer or an Ended comes from the tap lane that reads the line
  pub only_hears : (h : History) (lane : ℕ) (c : Call) (l : ℕ) → tells_of l c ≡ true
      → InScript (answer_after q) h lane c → hearing_of (calls_by lane h) ≡ Hears l
  -- the calls in a proxy lane's script depend only on the lane's own entries
  pub proxies_do : (h : History) (w : ℕ) (c : Call) → w < q.seats
      → may_do q w (duty_of (calls_by (proxy_lane w) h)) c ≡ true
      → InScript (answer_after q) h (proxy_lane w) c
  -- no other call is in it, except the Halt of a lane that owes a Committed, the Committed of a
  -- lane that has left, and a Tick
  pub proxies_do_only : (h : History) (w : ℕ) (c : Call)
      → InScript (answer_after q) h (proxy_lane w) c
      → may_make q w (duty_of (calls_by (proxy_lane w) h)) c ≡ true
  -- a lane that makes Ticks may make one whenever it owes nothing
  pub tickers_may_tick : (h : History) (w : ℕ) → w < q.seats → q.ticks (proxy_lane w) ≡ true
      → duty_of (calls_by (proxy_lane w) h) ≡ Asks
      → InScript (answer_after q) h (proxy_lane w) call.Tick
  -- a proxy lane's Halt is paid for until the lane was told to stop or has halted
  pub proxies_may_halt : (h : History) (w : ℕ) → w < q.seats
      → (duty_of (calls_by (proxy_lane w) h) ≡ Left → ⊥)
      → IsPaidAfter q h (proxy_lane w) call.Halt
  -- the Committed of an action's branch whose files were granted to the lane is paid for too
  pub commits_are_paid : (h : History) (w a : ℕ) (b : Branch) (fs : List (List ℕ))
      (how : CommitEnd) → w < q.seats → duty_of (calls_by (proxy_lane w) h) ≡ Commits a b fs
      → IsPaidAfter q h (proxy_lane w) (call.Committed a b how)
  -- the facts in an order hold: the line that it names, the action, and the objects on the shelf
  pub orders_hold : (h : History) (lane : ℕ) → CameAbout q h
      → OrderHolds (length q.plan.actions) (child_at (lane / 2) h) (lines_in h)
      (answer_after q h lane call.Ask)
  -- an order's attempt is of an executor's group exactly if the berth is an executor's
  pub orders_fit : (h : History) (lane : ℕ) → CameAbout q h
      → OrderFits q.plan (is_remote (q.kinds (lane / 2))) (answer_after q h lane call.Ask)
  -- the number of ordered lines is at most the room for them
  pub lines_fit : (h : History) → CameAbout q h
      → lines_in h ≤ line_room q
  -- the made inputs of an ordered request are present when its lane looks at them
  pub inputs_are_there : (h : History) (w l : ℕ) (n : ℤ) (t : Attempt) (c o : ℕ) → CameAbout q h
      → duty_of (calls_by (proxy_lane w) h) ≡ Sends l n t
      → is_maker (makers_in q.plan t.action) c o ≡ true
      → says_file (answer_after q h (proxy_lane w) (call.Look (wanted.Made c o))) ≡ true
  -- the berth's shelf slots are empty when a line is put there
  pub lines_find_room : (h : History) (lane l : ℕ) → CameAbout q h
      → InScript (answer_after q) h lane (call.Launched l start.Done)
      → (child_at (lane / 2) h ≡ None) × (tap_at (lane / 2) h ≡ None)
  -- a line is given to a tap lane while its tap is on the shelf for its berth
  pub takes_there : (h : History) (lane l : ℕ) → CameAbout q h
      → answer_after q h lane call.Take ≡ reply.Line l → tap_at (lane / 2) h ≡ Some l
  -- no line is given twice
  pub takes_once : (h : History) (lane l : ℕ) → CameAbout q h
      → answer_after q h lane call.Take ≡ reply.Line l → is_taken l h ≡ false
  -- files are granted at most once for each action, and only for an action of the plan
  pub grants_once : (h : History) (lane a : ℕ) (b : Branch) (t : ℕ) (fs : List (List ℕ))
      → CameAbout q h
      → answer_after q h lane (call.Claim a b t (found.Files fs)) ≡ reply.Granted
      → (a < length q.plan.actions) × (place_at a h ≡ Fresh)
  -- a Committed comes from the lane that was granted the action's files, which are those of its
  -- last grant
  pub commits_own : (h : History) (lane a : ℕ) (b : Branch) (how : CommitEnd)
      → CameAbout q h → InScript (answer_after q) h lane (call.Committed a b how)
      → place_at a h ≡ Away (claimed (calls_by lane h))
