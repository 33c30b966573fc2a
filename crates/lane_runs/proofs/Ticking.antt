-- The lane that makes Ticks: it may run, and what it leaves.
use Rattle.std.proofs.Common.{◌≡◌, ℕ, zero, suc, ◌+◌, ◌*◌, ◌<◌, ◌==◌, nat_lt, true, false, inl, inr, [], ◌∷◌, ◌++◌, replicate, Option, Some, None, refl, sym, ap, subst, ◌∙◌, arith, eqb-true}
use Rattle.std.proofs.lemmas.Bool.{eqb-false, ltb-false}
use Rattle.seat_desk.specs.declared.machine.Machine.{Ghosts}
use Rattle.seat_desk.specs.declared.desk.Pass.{Pass}
use Rattle.seat_desk.specs.declared.desk.Desk.{Desk}
use Rattle.seat_desk.specs.History.{calls_by, entry}
use Rattle.seat_desk.specs.Passes.{IsPassOf, IsSamePass, mine}
use Rattle.seat_desk.specs.Turns.{NoneFrom}
use Rattle.exec_journal.specs.declared.call.Call.{Call}
use Rattle.exec_journal.specs.declared.call.Call.TheVariants as call
use Rattle.exec_journal.specs.declared.reply.Reply.{Reply}
use Rattle.exec_journal.specs.declared.reply.Reply.TheVariants as reply
use Rattle.exec_journal.proofs.Ruled.{by_bool}
use Rattle.lane_threads.specs.Lanes.{IsFresh}
use Rattle.lane_threads.specs.LaneJobs.{KeepsPasses}
use Rattle.core_contract.specs.Discipline.{Discipline}
use Rattle.core_contract.specs.Moves.{Past, History}
use Rattle.core_contract.specs.Duties.{Left, duty_of, proxy_lane}
use Rattle.lane_threads.specs.Beside.{EndsBeside, MayRunBeside, count_of}
use Rattle.lane_laws.specs.Places.{HasLeft, IsGone, halts_owing}
use Rattle.tick_lane.specs.declared.seat.TickEnd.{TickEnd}
use Rattle.tick_lane.specs.declared.seat.TickEnd.TheVariants as end
use Rattle.tick_lane.specs.declared.seat.TickLeft.{TickLeft}
use Rattle.tick_lane.specs.declared.seat.TickStart.{TickStart}
use Rattle.tick_lane.specs.Ticks.{IsTicker, LaneTicks, last_entry}
use Rattle.lane_runs.specs.Paced.{HasPaced, MayPace, pacer_back, pacer_left, seat_for}

-- ---- before it runs

module _ {M G Q W : Type 0} (g : Ghosts M Call Reply G Q) (rules : Q → Discipline)
    (told : W → ℕ) where
  abbrev pub MayTick : TickStart W → Desk M Call Reply G Q → ℕ → Pass M Call Reply G Q g → Type 0
  MayTick seat desk bells pass = IsPassOf desk pass × IsFresh pass
      × IsTicker rules seat.berth pass × (pass.lane < bells)

  abbrev pub TicksRan : TickStart W → Pass M Call Reply G Q g → TickLeft W
      → Pass M Call Reply G Q g → Type 0
  TicksRan seat pass left after = IsSamePass pass after
      × LaneTicks pass.lane (told seat.pacer) (told left.pacer) left.end (mine after)

  pub keeps_ticking : KeepsPasses TicksRan
  keeps_ticking seat before left after ran = ran.0

  pub may_tick : (q : Q) (w k : ℕ) (pacer : Option W) → k ≡ proxy_lane w
      → MayPace (rules q) w pacer → MayRunBeside MayTick q k (seat_for w pacer)
  may_tick q w k None at may = tt
  may_tick q w k (Some pacer) at may = λ desk bells pass of fresh number bell by. (
    of,
    fresh,
    record {
      proxy = (
        number ∙ at,
        subst (λ (r : Q). w < (rules r).seats) (sym by) may.0,
      );
      makes = subst (λ (r : Q). (rules r).ticks (proxy_lane w) ≡ true) (sym by) may.1;
    },
    subst (λ (n : ℕ). n < bells) (sym number) bell,
  )

  -- ---- after it ran

  pub has_paced : (q : Q) (h : History) (w k : ℕ) (pacer : Option W) (left : Option (TickLeft W))
      → k ≡ proxy_lane w → EndsBeside TicksRan q h k (seat_for w pacer) left
      → HasPaced told (proxy_lane w) pacer (pacer_left left) h
  has_paced q h w k None None at ends = tt
  has_paced q h w k None (Some left) at ends = absurd ends
  has_paced q h w k (Some pacer) None at ends = absurd ends
  has_paced q h w k (Some pacer) (Some left) at ends = (
    left.end,
    subst (λ (n : ℕ). LaneTicks n (told pacer) (told left.pacer) left.end (calls_by n h)) at
        (subst (λ (own : History). LaneTicks k (told pacer) (told left.pacer) left.end own)
        ends.made
        (subst (λ (n : ℕ). LaneTicks n (told pacer) (told left.pacer) left.end (mine ends.after))
        ends.number ends.ran.1)),
  )

-- ---- it has left

module _ (lane : ℕ) where
  abbrev noted : Past
  noted = entry lane call.Tick reply.Noted

  ends_left : (n : ℕ) (how : TickEnd)
      → duty_of (replicate n noted ++ last_entry lane how ∷ []) ≡ Left
  ends_left zero end.Stopped = refl
  ends_left zero end.Halted = refl
  ends_left (suc n) how = ends_left n how

  ends_paid : (n : ℕ) (how : TickEnd)
      → halts_owing (replicate n noted ++ last_entry lane how ∷ []) ≡ false
  ends_paid zero end.Stopped = refl
  ends_paid zero end.Halted = refl
  ends_paid (suc n) how = ends_paid n how

  ticks_left : (told told' : ℕ) (how : TickEnd) (own : History)
      → LaneTicks lane told told' how own → HasLeft own
  ticks_left told told' how own ran = record {
    left = ap duty_of ran.made ∙ ends_left ran.noted how;
    paid = ap halts_owing ran.made ∙ ends_paid ran.noted how;
  }

-- each proxy lane behind those of the first n berths is gone
pub all_gone : {W : Type 0} (told : W → ℕ) (n : ℕ) (pacer after : Option W) (h : History)
    → HasPaced told (proxy_lane n) pacer after h → NoneFrom (2 * n + count_of pacer) h → (w : ℕ)
    → nat_lt w n ≡ false → IsGone (calls_by (proxy_lane w) h)
all_gone told n None None h paced none w beyond =
    let above = ltb-false w n beyond in inl (none (proxy_lane w) (omega (arith, above)))
all_gone told n None (Some after) h paced none w beyond = absurd paced
all_gone told n (Some pacer) None h paced none w beyond = absurd paced
all_gone told n (Some pacer) (Some after) h paced none w beyond =
    by_bool (w == n) (λ _. IsGone (calls_by (proxy_lane w) h))
    (λ same. inr (subst (λ (v : ℕ). HasLeft (calls_by (proxy_lane v) h))
    (sym (eqb-true w n same))
    (ticks_left (proxy_lane n) (told pacer) (told after) paced.0 (calls_by (proxy_lane n) h)
    paced.1)))
    (λ other. let above = ltb-false w n beyond in let apart = eqb-false w n other in
    inl (none (proxy_lane w) (omega (arith, above, apart))))

-- a seat gives back its pacer
pub back_is : {W : Type 0} (w : ℕ) (pacer : Option W) → pacer_back (seat_for w pacer) ≡ pacer
back_is w None = refl
back_is w (Some pacer) = refl

-- and stands beside where there is one
pub as_many_beside : {W : Type 0} (w : ℕ) (pacer : Option W)
    → count_of (seat_for w pacer) ≡ count_of pacer
as_many_beside w None = refl
as_many_beside w (Some pacer) = refl

-- ---- of the seat that was made for it

pub seat_others : {W : Type 0} (w k : ℕ) (pacer : Option W) (seat : Option (TickStart W))
    → seat ≡ seat_for w pacer → (h : History) → NoneFrom (k + count_of seat) h
    → NoneFrom (k + count_of pacer) h
seat_others w k pacer seat is h none = subst (λ (n : ℕ). NoneFrom (k + n) h)
    (ap count_of is ∙ as_many_beside w pacer) none

module _ {M G Q W : Type 0} (g : Ghosts M Call Reply G Q) (rules : Q → Discipline)
    (told : W → ℕ) (w k : ℕ) (pacer : Option W)
    (seat : Option (TickStart W)) (is : seat ≡ seat_for w pacer) (at : k ≡ proxy_lane w) where
  pub seat_may : (q : Q) → MayPace (rules q) w pacer
      → MayRunBeside (MayTick g rules told) q k seat
  seat_may q may = subst (λ (o : Option (TickStart W)). MayRunBeside (MayTick g rules told) q k o)
      (sym is) (may_tick g rules told q w k pacer at may)

  pub seat_paced : (q : Q) (h : History) (left : Option (TickLeft W))
      → EndsBeside (TicksRan g rules told) q h k seat left
      → HasPaced told (proxy_lane w) pacer (pacer_left left) h
  seat_paced q h left ends = has_paced g rules told q h w k pacer left at
      (subst (λ (o : Option (TickStart W)). EndsBeside (TicksRan g rules told) q h k o left)
      is ends)

  -- each proxy lane behind those of the first w berths is gone
  pub seat_gone : (q : Q) (h : History) (left : Option (TickLeft W))
      → EndsBeside (TicksRan g rules told) q h k seat left → NoneFrom (k + count_of seat) h
      → (v : ℕ) → nat_lt v w ≡ false → IsGone (calls_by (proxy_lane v) h)
  seat_gone q h left ends none = all_gone told w pacer (pacer_left left) h
      (seat_paced q h left ends)
      (subst (λ (n : ℕ). NoneFrom (n + count_of pacer) h) at
      (seat_others w k pacer seat is h none))
