-- The site and what is asked there after a call, and what an order leaves by how it was reported.
use Rattle.std.proofs.Common.{◌≡◌, ◌⊎◌, inl, inr, ℕ, ℤ, ◌<◌, ◌≤◌, List, [], length, get_or, slice_get, Option, Some, None, unwrap_or, option_map, Result, Ok, Err, refl, ap, sym, subst, ◌∙◌, append-nil, arith}
use Rattle.std.proofs.lemmas.Option.{slice_get_cases, slice_get_within}
use Rattle.std.specs.Prelude.{OnOk, IfErr}
use Rattle.plain_values.specs.declared.no_memory.NoMemory.{NoMemory}
use Rattle.seat_desk.specs.declared.machine.Machine.{Ghosts}
use Rattle.seat_desk.specs.declared.desk.Pass.{Pass}
use Rattle.seat_desk.specs.Passes.{IsSamePass, mine, seen}
use Rattle.exec_journal.specs.declared.call.Call.{Call}
use Rattle.exec_journal.specs.declared.call.Call.TheVariants as call
use Rattle.exec_journal.specs.declared.call.Written.{Written}
use Rattle.exec_journal.specs.declared.reply.Reply.{Reply}
use Rattle.exec_journal.specs.declared.reply.Reply.TheVariants as reply
use Rattle.run_plan.specs.declared.plan.Plan.{Plan}
use Rattle.run_plan.specs.declared.plan.PlanAction.{PlanAction}
use Rattle.remote_messages.specs.declared.work.WorkAction.{WorkAction}
use Rattle.core_contract.specs.Discipline.{Discipline, makers_in, outputs_in}
use Rattle.core_contract.specs.Shelf.{child_at}
use Rattle.core_contract.specs.Duties.{Asks, duty_of}
use Rattle.proxy_words.specs.declared.halt.ProxyHalt.{ProxyHalt}
use Rattle.proxy_words.specs.declared.halt.ProxyHalt.TheVariants as cause
use Rattle.proxy_words.specs.Settings.{FitsSettings}
use Rattle.run_values.specs.Settings.{HasGroup, Means}
use Rattle.proxy_calls.specs.Calls.{MakesNone, MakesOne, Stays}
use Rattle.proxy_calls.specs.Reports.{Told}
use Rattle.proxy_calls.specs.declared.asking.Order.{Order}
use Rattle.outside.specs.Told.{BerthTold, ChildTold, FeedTold}
use Rattle.run_values.specs.Work.{IsWork, IsWorkOf}
use Rattle.proxy_laws.specs.Lanes.{LaneObjects, Open, open_line}
use Rattle.proxy_laws.specs.Steps.{open_in, IsShelved, IsLaidBy, Goes, Halts, TellsWrote, IsCauseOf}
use Rattle.proxy_laws.proofs.Sends.{starts_later}
use Rattle.proxy_laws.proofs.Serving.{proxy_on, by_rules}
use Rattle.proxy_lane.specs.Held.{ByOpenLine, IsOpen, with_berth}
use Rattle.proxy_lane.specs.declared.site.Site.{Site}
use Rattle.proxy_lane.specs.declared.site.Request.{Request}
use Rattle.proxy_lane.specs.declared.lane.ProxyLane.{ProxyLane}
use Rattle.proxy_lane.specs.Sites.{means_at, IsSite, IsDue, IsOrdered, IsSameLane, IsWorkAt, Obeyed, Obeys, ReportsWrote, StaysHere}

-- ---- after a call

module _ {M G Q : Type 0} {g : Ghosts M Call Reply G Q} where
  pub same_on : (p p1 p2 : Pass M Call Reply G Q g) → IsSamePass p p1 → IsSamePass p1 p2
      → IsSamePass p p2
  same_on p p1 p2 x y = (y.0 ∙ x.0, y.1 ∙ x.1, y.2 ∙ x.2)

  pub stays_at : (p : Pass M Call Reply G Q g) → Stays p p
  stays_at p = record {
    same = (refl, refl, refl);
    none = (([], sym (append-nil (seen p))), refl);
  }

  pub stays_on : (p p1 p2 : Pass M Call Reply G Q g) → Stays p p1 → Stays p1 p2 → Stays p p2
  stays_on p p1 p2 x y = record {
    same = same_on p p1 p2 x.same y.same;
    none = (
      starts_later (seen p) (seen p1) (seen p2) x.none.0 y.none.0,
      y.none.1 ∙ x.none.1,
    );
  }

module _ {M G Q R : Type 0} {g : Ghosts M Call Reply G Q} (rules : Q → Discipline) (site : Site R)
    (p p' : Pass M Call Reply G Q g) where
  -- what holds of the site holds of it later
  pub site_on : IsSamePass p p' → IsSite rules site p → IsSite rules site p'
  site_on same x = record {
    lane = proxy_on rules site.berth p p' same x.lane;
    settings = by_rules (λ q. FitsSettings (rules q) site.berth site.speech site.settings.now) p p' same
        x.settings;
    work = by_rules (λ q. IsWorkOf (rules q).plan site.actions.now) p p' same x.work;
  }

module _ {M B R G Q D T K : Type 0} {g : Ghosts M Call Reply G Q} (rules : Q → Discipline)
    (x x' : ProxyLane M B R Call Reply G Q D T K g) where
  -- what holds of its site holds of it later
  pub site_at : IsSameLane x x' → IsSite rules x.site x.caller.pass → IsSite rules x'.site x'.caller.pass
  site_at same at = subst (λ (s : Site R). IsSite rules s x'.caller.pass) (sym same.site)
      (site_on rules x.site x.caller.pass x'.caller.pass same.pass at)

  -- also where it made no entry
  pub now_at_site : StaysHere x x' → IsSite rules x.site x.caller.pass → IsSite rules x'.site x'.caller.pass
  now_at_site here at = site_at (record { pass = here.stays.same; site = here.site }) at

  -- so does what holds of an action's work
  pub work_on : (a : ℕ) (work : WorkAction) → IsSamePass x.caller.pass x'.caller.pass
      → IsWorkAt rules x a work → IsWorkAt rules x' a work
  work_on a work same is = by_rules
      (λ q. IsWork (outputs_in (rules q).plan a) (makers_in (rules q).plan a) work)
      x.caller.pass x'.caller.pass same is

  -- and of a request that is due
  pub due_on : (request : Request) → StaysHere x x' → IsDue rules x request → IsDue rules x' request
  due_on request here due = record {
    at_site = now_at_site here due.at_site;
    owes = ap duty_of here.stays.none.1 ∙ due.owes;
    group = subst (λ (s : Site R). HasGroup s.settings.now request.attempt) (sym here.site) due.group;
    of_action = work_on request.attempt.action request.work.now here.stays.same due.of_action;
  }

module _ {M B R G Q D T K : Type 0} {g : Ghosts M Call Reply G Q} where
  pub stays_here : (x : ProxyLane M B R Call Reply G Q D T K g) → StaysHere x x
  stays_here x = record { stays = stays_at x.caller.pass; site = refl }

  pub here_on : (x x1 x2 : ProxyLane M B R Call Reply G Q D T K g) → StaysHere x x1 → StaysHere x1 x2
      → StaysHere x x2
  here_on x x1 x2 a b = record {
    stays = stays_on x.caller.pass x1.caller.pass x2.caller.pass a.stays b.stays;
    site = b.site ∙ a.site;
  }

  -- where the pass stays, and the site with it
  pub looked_on : (x x1 x2 : ProxyLane M B R Call Reply G Q D T K g) → StaysHere x x1
      → Stays x1.caller.pass x2.caller.pass → x2.site ≡ x1.site → StaysHere x x2
  looked_on x x1 x2 a stays site = here_on x x1 x2 a (record { stays = stays; site = site })

-- the work of an action is asked by what the plan says of the action
pub work_at : (p : Plan) (works : List WorkAction) (a : ℕ) (work : WorkAction) → IsWorkOf p works
    → slice_get works a ≡ Some work → IsWork (outputs_in p a) (makers_in p a) work
work_at p works a work of at = by (slice_get_cases p.actions a).1
  where
    by : ((x : PlanAction) × (a < length p.actions) × (slice_get p.actions a ≡ Some x)
        × (get_or p.actions a x ≡ x)) ⊎ ((length p.actions ≤ a) × (slice_get p.actions a ≡ None))
        → IsWork (outputs_in p a) (makers_in p a) work
    by (inl x) = subst (λ (o : Option PlanAction). IsWork
        (unwrap_or (option_map (λ y. y.outputs) o) []) (unwrap_or (option_map (λ y. y.makers) o) []) work)
        (sym x.2) (of.each a x.0 work x.2 at)
    by (inr x) = absurd (
        let past = x.0 in
        let many = of.as_many in
        let within = slice_get_within works a work at in
        omega (arith, past, many, within))

-- where the child on the shelf and the open line are as they were
pub still_tidy : {M G Q : Type 0} {g : Ghosts M Call Reply G Q} (w : ℕ)
    (p p' : Pass M Call Reply G Q g) (line line' : Option ℕ) → child_at w (mine p') ≡ child_at w (mine p)
    → line' ≡ line → IsShelved w p line → child_at w (mine p') ≡ line'
still_tidy w p p' line line' child same shelved = child ∙ (shelved ∙ sym same)

-- hands that are the same are so but for the berth
pub same_hands : {h h' : LaneObjects} → h' ≡ h → h' ≡ with_berth h'.berth h
same_hands {h} {h'} is = is ∙ ap (λ (y : LaneObjects). with_berth y.berth h) (sym is)

-- ---- the open line

-- the line that is open is open
pub is_open : (h : LaneObjects) (l : ℕ) → open_in h ≡ Some l → IsOpen h
is_open h l is = by h.opened is
  where
    by : (o : Option Open) → open_line o ≡ Some l → (x : Open) × (o ≡ Some x)
    by (Some x) e = (x, refl)
    by None e = absurd (cc)

-- and has its number
pub open_is : (h : LaneObjects) (o : Open) (l : ℕ) → open_in h ≡ Some l → h.opened ≡ Some o → o.line ≡ l
open_is h o l is was = let e : Some o.line ≡ Some l = sym (ap open_line was) ∙ is in cc

-- what was done is said of the hands as they were
pub by_line_at : (F : BerthTold → BerthTold → FeedTold → FeedTold → Type 0) (h0 h : LaneObjects)
    {h' : LaneObjects} → h0 ≡ h → ByOpenLine F h0 h' → ByOpenLine F h h'
by_line_at F h0 h {h'} is x = subst (λ (y : LaneObjects). ByOpenLine F y h') is x

-- where nothing was done, and nothing has changed
pub by_no_line : (F : BerthTold → BerthTold → FeedTold → FeedTold → Type 0) (h h' : LaneObjects)
    → IsOpen h → h' ≡ h → ((f : FeedTold) → F h.berth h.berth f f) → ByOpenLine F h h'
by_no_line F h h' o is done = subst (λ (y : LaneObjects). ByOpenLine F h y) (sym is) (record {
  was_open = o.0;
  feed = o.0.feed;
  was = o.1;
  is = ap (λ (x : Option Open). record h { opened = x }) o.1;
  done = done o.0.feed;
})

-- ---- by a report

-- what was told of a Wrote
pub reports_wrote : {M B R G Q D T K A : Type 0} {g : Ghosts M Call Reply G Q} (l : ℕ) (n : ℤ)
    (how : Written) (wrote : Result Written NoMemory) (r : Result A ProxyHalt)
    (x x' : ProxyLane M B R Call Reply G Q D T K g) → wrote ≡ Ok how → IsSameLane x x'
    → x'.hands ≡ x.hands → Told (call.Wrote l n how) r x.caller.pass x'.caller.pass
    → ReportsWrote r x x' l n wrote
reports_wrote {M} {B} {R} {G} {Q} {D} {T} {K} {A} {g} l n how wrote r x x' is same hands told =
    let p = x.caller.pass in
    let p' = x'.caller.pass in
    subst (λ (w : Result Written NoMemory). ReportsWrote r x x' l n w) (sym is) (record {
      same = same;
      hands = hands;
      told = elim r as (λ (y : Result A ProxyHalt). Told (call.Wrote l n how) y p p'
          → OnOk y ((duty_of (mine p') ≡ Asks) × TellsWrote l n (Ok how) p p')) [
            | Ok u ↦ λ t. (t.1, t.0)
            | Err by ↦ λ t. tt
          ] told;
      refused = elim r as (λ (y : Result A ProxyHalt). Told (call.Wrote l n how) y p p'
          → IfErr y (λ by. MakesNone p p' × IsCauseOf l n (Ok how) by)) [
            | Ok u ↦ λ t. tt
            | Err by ↦ λ t. (t.1, t.0)
          ] told;
    })

module _ {M G Q A : Type 0} {g : Ghosts M Call Reply G Q} (means : Means)
    (rules : Q → Discipline) (r : Result A ProxyHalt) (p : Pass M Call Reply G Q g) (h : LaneObjects)
    (p' : Pass M Call Reply G Q g) (h' : LaneObjects) where
  -- what each outcome of a report says comes to what is said of the order
  pub obeys_by : (Said : Type 0) (Unsaid : ProxyHalt → Type 0)
      → (Said → (duty_of (mine p') ≡ Asks) × Goes means rules p h p' h')
      → ((by : ProxyHalt) → Unsaid by → Halts means rules by p h p' h')
      → OnOk r Said → IfErr r Unsaid → Obeyed means rules r p h p' h'
  obeys_by Said Unsaid goes halts said unsaid = elim r as (λ (x : Result A ProxyHalt).
      OnOk x Said → IfErr x Unsaid → Obeyed means rules x p h p' h')
      [ Ok u ↦ λ t n. goes t | Err by ↦ λ t n. halts by n ] said unsaid

  -- so does the report itself
  pub obeys_told : (report : Call)
      → (MakesOne report reply.Noted p p' → Goes means rules p h p' h')
      → ((by : ProxyHalt) → by ≡ cause.Refused report → MakesNone p p'
      → Halts means rules by p h p' h')
      → Told report r p p' → Obeyed means rules r p h p' h'
  obeys_told report goes halts told = elim r as (λ (x : Result A ProxyHalt).
      Told report x p p' → Obeyed means rules x p h p' h')
      [ Ok u ↦ λ t. (t.1, goes t.0) | Err by ↦ λ t. halts by t.0 t.1 ] told

-- ---- what is said of what is held, by what it is

-- what the line was laid by from
pub laid_at : (l : ℕ) (h0 h : LaneObjects) {h' : LaneObjects} → h0 ≡ h → IsLaidBy l h0 h' → IsLaidBy l h h'
laid_at l h0 h {h'} is x = subst (λ (y : LaneObjects). IsLaidBy l y h') is x

module _ {M G Q : Type 0} {g : Ghosts M Call Reply G Q} (means : Means) (rules : Q → Discipline)
    (p p' : Pass M Call Reply G Q g) (h0 h : LaneObjects) {h' : LaneObjects} (is : h0 ≡ h) where
  pub goes_at : Goes means rules p h0 p' h' → Goes means rules p h p' h'
  goes_at x = subst (λ (y : LaneObjects). Goes means rules p y p' h') is x

  pub halts_at : (by : ProxyHalt) → Halts means rules by p h0 p' h' → Halts means rules by p h p' h'
  halts_at by x = subst (λ (y : LaneObjects). Halts means rules by p y p' h') is x

pub obeyed_at : {M G Q A : Type 0} {g : Ghosts M Call Reply G Q} (means : Means) (rules : Q → Discipline)
    (p p' : Pass M Call Reply G Q g) (h0 h h' : LaneObjects) → h0 ≡ h → (r : Result A ProxyHalt)
    → Obeyed means rules r p h0 p' h' → Obeyed means rules r p h p' h'
obeyed_at means rules p p' h0 h h' is r x =
    subst (λ (y : LaneObjects). Obeyed means rules r p y p' h') is x

-- ---- what is said of the lane, by what it is

module _ {M B R G Q D T K : Type 0} {g : Ghosts M Call Reply G Q} (rules : Q → Discipline) where
  pub ordered_at : (told : K → ChildTold) (order : Order K) (x0 x : ProxyLane M B R Call Reply G Q D T K g)
      → x0 ≡ x → IsOrdered rules told order x → IsOrdered rules told order x0
  ordered_at told order x0 x is y =
      subst (λ (z : ProxyLane M B R Call Reply G Q D T K g). IsOrdered rules told order z) (sym is) y

  pub obeys_at : {A : Type 0} (r : Result A ProxyHalt) (x0 x : ProxyLane M B R Call Reply G Q D T K g)
      {x' : ProxyLane M B R Call Reply G Q D T K g} → x0 ≡ x → Obeys rules r x0 x' → Obeys rules r x x'
  obeys_at r x0 x {x'} is y =
      subst (λ (z : ProxyLane M B R Call Reply G Q D T K g). Obeys rules r z x') is y

  -- what an order leaves, where the lane has its site and these things in its hands
  pub obeys_with : {A : Type 0} (r : Result A ProxyHalt) (x x' : ProxyLane M B R Call Reply G Q D T K g)
      (h' : LaneObjects) → IsSameLane x x' → x'.hands ≡ h'
      → child_at x.site.berth (mine x'.caller.pass) ≡ open_in h'
      → Obeyed (means_at x.site) rules r x.caller.pass x.hands x'.caller.pass h' → Obeys rules r x x'
  obeys_with r x x' h' same is tidy goes = record {
    same = same;
    tidy = subst (λ (s : Site R). child_at s.berth (mine x'.caller.pass) ≡ open_in x'.hands) (sym same.site)
        (tidy ∙ sym (ap open_in is));
    goes = subst (λ (y : LaneObjects). Obeyed (means_at x.site) rules r x.caller.pass x.hands
        x'.caller.pass y) (sym is) goes;
  }
