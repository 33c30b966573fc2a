-- From the seats of the berths to what each berth's lanes leave.
use Rattle.std.proofs.Common.{◌≡◌, ℕ, suc, ◌+◌, ◌*◌, ◌<◌, ◌≤◌, List, [], ◌∷◌, length, map, Some, slice_get, refl, sym, ap, subst, ◌∙◌, arith}
use Rattle.run_plan.specs.Groups.{is_remote}
use Rattle.std.specs.Prelude.{Bool}
use Rattle.std.specs.Option.{option_map}
use Rattle.seat_desk.specs.declared.machine.Machine.{Ghosts}
use Rattle.seat_desk.specs.declared.desk.Pass.{Pass}
use Rattle.seat_desk.specs.declared.desk.Desk.{Desk}
use Rattle.seat_desk.specs.History.{calls_by}
use Rattle.seat_desk.specs.Passes.{IsPassOf, IsSamePass, mine, basis, seen}
use Rattle.exec_journal.specs.declared.call.Call.{Call}
use Rattle.exec_journal.specs.declared.reply.Reply.{Reply}
use Rattle.lane_threads.specs.declared.pair.Either.{Either}
use Rattle.lane_threads.specs.declared.pair.Either.TheVariants.{First, Second}
use Rattle.lane_threads.specs.Lanes.{IsFresh}
use Rattle.lane_threads.specs.Pairs.{MayRunOfKind, HasRunOfKind}
use Rattle.lane_threads.specs.LaneJobs.{MayRun, MayRunInOrder, KeepsPasses, LaneEnds, EachLane}
use Rattle.outside.specs.Told.{BerthTold, FeedTold, TapTold, ChildTold}
use Rattle.run_plan.specs.declared.plan.Speech.{Speech}
use Rattle.remote_messages.specs.declared.work.WorkAction.{WorkAction}
use Rattle.core_contract.specs.Discipline.{Discipline}
use Rattle.core_contract.specs.Ruled.{answer_after}
use Rattle.core_contract.specs.Moves.{History}
use Rattle.core_contract.specs.Duties.{proxy_lane}
use Rattle.core_contract.specs.Laws.{tap_lane}
use Rattle.proxy_calls.specs.Calls.{IsProxyOf}
use Rattle.run_values.specs.declared.settings.Settings.{Settings}
use Rattle.proxy_words.specs.Settings.{FitsSettings}
use Rattle.run_values.specs.Settings.{AreOfPlan, Means, speaks_remote}
use Rattle.proxy_words.proofs.Growing.{all_told_later}
use Rattle.proxy_laws.specs.Lanes.{back_of}
use Rattle.proxy_laws.specs.Steps.{Ended, IsServedBy}
use Rattle.run_values.specs.Work.{IsWorkOf}
use Rattle.tap_lane.specs.Heard.{back_by}
use Rattle.tap_lane.specs.Lane as tap
use Rattle.lane_runs.specs.declared.proxies.ProxyStart.{ProxyStart}
use Rattle.proxy_lane.specs.declared.lane.ProxyLeft.{ProxyLeft}
use Rattle.tap_lane.specs.declared.seat.TapStart.{TapStart}
use Rattle.tap_lane.specs.declared.ends.TapLeft.{TapLeft}
use Rattle.lane_runs.specs.Seats.{IsProxyStart, IsTapStart, AreSeats, SpeechesFit, means_for, means_of}
use Rattle.lane_runs.specs.Ran.{EachBerthRan}

-- the speeches of the berths from w on fit them
module _ (q : Discipline) where
  abbrev remote : ℕ → Bool
  remote w = is_remote (q.kinds w)

  abbrev pub FitFrom : ℕ → List Speech → Type 0
  FitFrom w ss =
      (k : ℕ) (s : Speech) → slice_get ss k ≡ Some s → speaks_remote s ≡ remote (w + k)

  pub all_fit : (ss : List Speech) → SpeechesFit q ss → FitFrom 0 ss
  all_fit ss fit k s at = let e : k ≡ 0 + k = omega arith in fit k s at ∙ ap remote e

  first_fits : (w : ℕ) (s : Speech) (ss : List Speech) → FitFrom w (s ∷ ss)
      → speaks_remote s ≡ remote w
  first_fits w s ss fit = let e : w + 0 ≡ w = omega arith in fit 0 s refl ∙ ap remote e

  rest_fits : (w : ℕ) (s : Speech) (ss : List Speech) → FitFrom w (s ∷ ss) → FitFrom (w + 1) ss
  rest_fits w s ss fit k t at =
      let e : w + suc k ≡ w + 1 + k = omega arith in fit (suc k) t at ∙ ap remote e

module _ {M G Q : Type 0} (g : Ghosts M Call Reply G Q) {B D T K : Type 0}
    (rules : Q → Discipline) (berth : B → BerthTold) (feed : D → FeedTold) (heard : T → TapTold)
    (child : K → ChildTold) where
  abbrev rule : Q → History → ℕ → Call → Reply
  rule q = answer_after (rules q)

  -- ---- what the lanes ask and leave

  abbrev pub MayProxy : ProxyStart B → Desk M Call Reply G Q → ℕ → Pass M Call Reply G Q g → Type 0
  MayProxy seat desk bells pass = IsPassOf desk pass × IsFresh pass
      × IsProxyOf rules seat.number pass × (pass.lane < bells)
      × FitsSettings (rules (basis pass)) seat.number seat.speech seat.settings.now
      × IsWorkOf (rules (basis pass)).plan seat.actions.now

  abbrev pub MayTap : TapStart → Desk M Call Reply G Q → ℕ → Pass M Call Reply G Q g → Type 0
  MayTap seat desk bells pass = IsPassOf desk pass × IsFresh pass
      × (pass.lane ≡ tap_lane seat.berth) × (seat.berth < (rules (basis pass)).seats) × (pass.lane < bells)

  abbrev pub ProxyRan : ProxyStart B → Pass M Call Reply G Q g → ProxyLeft B D K
      → Pass M Call Reply G Q g → Type 0
  ProxyRan seat pass left after = IsSamePass pass after
      × IsServedBy (means_of seat) rules (berth seat.berth) (berth left.berth)
      (map (back_of feed child) left.feeds.items) (option_map (back_of feed child) left.unsaid)
      left.halted after

  abbrev pub TapRan : TapStart → Pass M Call Reply G Q g → TapLeft T → Pass M Call Reply G Q g
      → Type 0
  TapRan seat pass left after = IsSamePass pass after
      × tap.LaneEnds seat.speech pass.lane left.halted (map (back_by heard) left.taps.items)
      (mine after)

  abbrev pub May : Either (ProxyStart B) TapStart → Desk M Call Reply G Q → ℕ
      → Pass M Call Reply G Q g → Type 0
  May = MayRunOfKind MayProxy MayTap

  abbrev pub HasRan : Either (ProxyStart B) TapStart → Pass M Call Reply G Q g
      → Either (ProxyLeft B D K) (TapLeft T) → Pass M Call Reply G Q g → Type 0
  HasRan = HasRunOfKind ProxyRan TapRan

  -- each gives back its pass
  pub keeps : KeepsPasses HasRan
  keeps (First seat) before (First left) after ran = ran.0
  keeps (Second seat) before (Second left) after ran = ran.0
  keeps (First seat) before (Second left) after ran = absurd ran
  keeps (Second seat) before (First left) after ran = absurd ran

  -- ---- before they run

  module _ (q : Q) (settings : Settings) (actions : List WorkAction) where
    may_proxy : (w : ℕ) (b : B) (s : Speech) (x : ProxyStart B)
        → IsProxyStart settings actions w b s x → w < (rules q).seats
        → FitsSettings (rules q) w s settings → IsWorkOf (rules q).plan actions
        → MayRun May q (2 * w) (First x)
    may_proxy w b s x is below fits work desk bells pass of fresh number bell by =
        let Fits : Q → ℕ → Means → Type 0 =
        λ r n m. FitsSettings (rules r) n m.speech m.settings in (
          of,
          fresh,
          (
            subst (λ (n : ℕ). pass.lane ≡ proxy_lane n) (sym is.1) number,
            subst (λ (r : Q). x.number < (rules r).seats) (sym by)
                (subst (λ (n : ℕ). n < (rules q).seats) (sym is.1) below),
          ),
          subst (λ (n : ℕ). n < bells) (sym number) bell,
          subst (λ (r : Q). Fits r x.number (means_of x)) (sym by)
              (subst (λ (n : ℕ). Fits q n (means_of x)) (sym is.1)
              (subst (λ (m : Means). Fits q w m) (sym is.2) fits)),
          subst (λ (r : Q). IsWorkOf (rules r).plan x.actions.now) (sym by)
              (subst (λ (m : Means). IsWorkOf (rules q).plan m.actions) (sym is.2) work),
        )

    may_tap : (w : ℕ) (s : Speech) (y : TapStart) → IsTapStart w s y → w < (rules q).seats
        → MayRun May q (2 * w + 1) (Second y)
    may_tap w s y is below desk bells pass of fresh number bell by = (
      of,
      fresh,
      subst (λ (n : ℕ). pass.lane ≡ tap_lane n) (sym is.0) number,
      subst (λ (r : Q). y.berth < (rules r).seats) (sym by)
          (subst (λ (n : ℕ). n < (rules q).seats) (sym is.0) below),
      subst (λ (n : ℕ). n < bells) (sym number) bell,
    )

    pub all_may : (w : ℕ) (bs : List B) (ss : List Speech)
        (lanes : List (Either (ProxyStart B) TapStart)) → AreSeats settings actions w bs ss lanes
        → w + length ss ≤ (rules q).seats → AreOfPlan (rules q).plan settings
        → FitFrom (rules q) w ss → IsWorkOf (rules q).plan actions
        → MayRunInOrder May q (2 * w) lanes
    all_may w [] [] [] are most plan fit work = tt
    all_may w [] [] (x ∷ lanes) are most plan fit work = absurd (cc)
    all_may w (b ∷ bs) (s ∷ ss) (First x ∷ Second y ∷ lanes) are most plan fit work = (
      may_proxy w b s x are.0 (omega (arith, most)) (record { of_plan = plan; speaks = first_fits (rules q) w s ss fit }) work,
      (
        may_tap w s y are.1 (omega (arith, most)),
        subst (λ (k : ℕ). MayRunInOrder May q k lanes)
            (let e : 2 * (w + 1) ≡ 2 * w + 1 + 1 = omega arith in e)
            (all_may (w + 1) bs ss lanes are.2 (omega (arith, most)) plan (rest_fits (rules q) w s ss fit) work),
      ),
    )
    all_may w (b ∷ bs) (s ∷ ss) [] are most plan fit work = absurd are
    all_may w (b ∷ bs) (s ∷ ss) (First x ∷ []) are most plan fit work = absurd are
    all_may w (b ∷ bs) (s ∷ ss) (First x ∷ First y ∷ lanes) are most plan fit work = absurd are
    all_may w (b ∷ bs) (s ∷ ss) (Second x ∷ lanes) are most plan fit work = absurd are
    all_may w [] (s ∷ ss) lanes are most plan fit work = absurd are
    all_may w (b ∷ bs) [] lanes are most plan fit work = absurd are

  -- ---- after they ran

  served : (q : Q) (h : History) (settings : Settings) (actions : List WorkAction) (w : ℕ) (b : B)
      (s : Speech) (x : ProxyStart B) (u : ProxyLeft B D K) → IsProxyStart settings actions w b s x
      → LaneEnds HasRan q h (2 * w) (First x) (First u)
      → Ended (means_for settings actions s) (rule q) (proxy_lane w) (calls_by (proxy_lane w) h) h
      (berth b) (berth u.berth) (map (back_of feed child) u.feeds.items)
      (option_map (back_of feed child) u.unsaid) u.halted
  served q h settings actions w b s x u is r =
      let by : basis r.after ≡ q = r.same.2 ∙ r.by in
      let lane : r.after.lane ≡ proxy_lane w = r.same.1 ∙ r.number in
      let end = r.ran.1 in
      let late : Ended (means_of x) (rule (basis r.after)) r.after.lane (mine r.after) h
      (berth x.berth) (berth u.berth) (map (back_of feed child) u.feeds.items)
      (option_map (back_of feed child) u.unsaid) u.halted = record {
        deeds = end.deeds;
        ends = end.ends;
        told = all_told_later (rule (basis r.after)) r.after.lane (seen r.after) h r.saw end.deeds end.told;
        berth = end.berth;
        lines = end.lines;
      } in
      let Of : Means → Q → ℕ → History → B → Type 0 =
      λ means r l own before. Ended means (rule r) l own h (berth before) (berth u.berth)
      (map (back_of feed child) u.feeds.items) (option_map (back_of feed child) u.unsaid) u.halted in
      let means : Means = means_for settings actions s in
      subst (λ (o : B). Of means q (proxy_lane w) (calls_by (proxy_lane w) h) o) is.0
      (subst (λ (o : History). Of means q (proxy_lane w) o x.berth) r.made
      (subst (λ (o : ℕ). Of means q o (mine r.after) x.berth) lane
      (subst (λ (o : Q). Of means o r.after.lane (mine r.after) x.berth) by
      (subst (λ (o : Means). Of o (basis r.after) r.after.lane (mine r.after) x.berth) is.2 late))))

  told : (q : Q) (h : History) (w : ℕ) (s : Speech) (y : TapStart) (v : TapLeft T)
      → IsTapStart w s y → LaneEnds HasRan q h (2 * w + 1) (Second y) (Second v)
      → tap.LaneEnds s (tap_lane w) v.halted (map (back_by heard) v.taps.items)
      (calls_by (tap_lane w) h)
  told q h w s y v is r =
      subst (λ (o : History). tap.LaneEnds s (tap_lane w) v.halted (map (back_by heard) v.taps.items) o)
      r.made
      (subst (λ (o : ℕ). tap.LaneEnds s o v.halted (map (back_by heard) v.taps.items) (mine r.after))
      r.number
      (subst (λ (o : Speech). tap.LaneEnds o r.before.lane v.halted (map (back_by heard) v.taps.items) (mine r.after))
      is.1 r.ran.1))

  pub each_berth : (q : Q) (h : History) (settings : Settings) (actions : List WorkAction) (w : ℕ)
      (bs : List B) (ss : List Speech) (lanes : List (Either (ProxyStart B) TapStart))
      (ends : List (Either (ProxyLeft B D K) (TapLeft T))) → AreSeats settings actions w bs ss lanes
      → EachLane HasRan q h (2 * w) lanes ends
      → EachBerthRan berth feed heard child (rule q) settings actions h w bs ss ends
  each_berth q h settings actions w [] [] [] [] are x = refl
  each_berth q h settings actions w [] [] [] (e ∷ es) are x = absurd x
  each_berth q h settings actions w [] [] (l ∷ ls) ends are x = absurd (cc)
  each_berth q h settings actions w (b ∷ bs) (s ∷ ss) (First l ∷ Second m ∷ lanes) (First u ∷ Second v ∷ es) are x = (
    record {
      served = served q h settings actions w b s l u are.0 x.0;
      told = told q h w s m v are.1 x.1.0;
    },
    each_berth q h settings actions (w + 1) bs ss lanes es are.2
        (subst (λ (k : ℕ). EachLane HasRan q h k lanes es) (let e : 2 * w + 1 + 1 ≡ 2 * (w + 1) = omega arith in e) x.1.1),
  )
  each_berth q h settings actions w (b ∷ bs) (s ∷ ss) (First l ∷ Second m ∷ lanes) [] are x = absurd x
  each_berth q h settings actions w (b ∷ bs) (s ∷ ss) (First l ∷ Second m ∷ lanes) (First u ∷ []) are x = absurd x.1
  each_berth q h settings actions w (b ∷ bs) (s ∷ ss) (First l ∷ Second m ∷ lanes) (Second u ∷ es) are x = absurd x.0.ran
  each_berth q h settings actions w (b ∷ bs) (s ∷ ss) (First l ∷ Second m ∷ lanes) (First u ∷ First v ∷ es) are x = absurd x.1.0.ran
  each_berth q h settings actions w (b ∷ bs) (s ∷ ss) [] ends are x = absurd are
  each_berth q h settings actions w (b ∷ bs) (s ∷ ss) (First l ∷ []) ends are x = absurd are
  each_berth q h settings actions w (b ∷ bs) (s ∷ ss) (First l ∷ First m ∷ lanes) ends are x = absurd are
  each_berth q h settings actions w (b ∷ bs) (s ∷ ss) (Second l ∷ lanes) ends are x = absurd are
  each_berth q h settings actions w [] (s ∷ ss) lanes ends are x = absurd are
  each_berth q h settings actions w (b ∷ bs) [] lanes ends are x = absurd are
