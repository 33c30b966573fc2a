use Rattle.std.specs.Prelude.{IfSome, map, option_map}
use Rattle.std.specs.Global.{Vec}
use Rattle.std.proofs.Common.{◌≡◌, ℕ, List, [], Option, Some, Result, refl, ap, sym, subst, ◌∙◌, inl, inr}
use Rattle.seat_desk.specs.Passes.{mine}
use Rattle.exec_journal.specs.declared.call.Call.TheVariants as call
use Rattle.exec_journal.specs.declared.call.Started.TheVariants as start
use Rattle.exec_journal.specs.declared.reply.Reply.TheVariants as reply
use Rattle.outside.specs.Launches.{IsNewFeed, IsNewTap, IsNewChild}
use Rattle.outside.specs.Told.{BerthTold, FeedTold, ChildTold}
use Rattle.berth_acts.specs.declared.launching.Opened.{Opened}
use Rattle.berth_acts.specs.Acts.{OnOpened}
use Rattle.berth_acts.specs.Acts as acts
use Rattle.core_contract.specs.Shelf.{child_at}
use Rattle.core_contract.specs.Duties.{Launches, duty_of}
use Rattle.proxy_words.specs.declared.halt.ProxyHalt.{ProxyHalt}
use Rattle.proxy_words.specs.declared.halt.ProxyHalt.TheVariants as cause
use Rattle.proxy_words.specs.Lines.{unsaid_by}
use Rattle.proxy_words.specs.Ends.{HaltsBy}
use Rattle.proxy_calls.proofs.Reportings.{may_launch}
use Rattle.proxy_laws.specs.declared.hands.EndedFeed.{EndedFeed}
use Rattle.proxy_laws.specs.declared.hands.OpenFeed.{OpenFeed}
use Rattle.proxy_laws.specs.Lanes.{back_of, open_of}
use Rattle.proxy_laws.proofs.Acting.{none_open}
use Rattle.proxy_laws.proofs.Shelving.{child_more, told_shelved}
use Rattle.proxy_laws.proofs.Starts.{calls_deed, launch_deed, launch_halts, unsaid_halts, fault_goes, started_goes}
use Rattle.sandbox_rooms.proofs.Runs.{made_none}
use Rattle.proxy_lane.proofs.Siting.{obeys_told, stays_at, goes_at, halts_at, obeyed_at, ordered_at, obeys_at}
use Rattle.proxy_lane.specs.Held.{held_of}
use Rattle.proxy_lane.specs.Sites.{means_at}
use Rattle.proxy_lane.proofs.launching.ProxyLane+Bench+B+P+C+B+R.launch.Goals as goal

-- room that was made changes nothing of what is held
at_ended : {B D K : Type 0} (told : B → BerthTold) (feed : D → FeedTold) (child : K → ChildTold) (b : B)
    (line : Option (OpenFeed D)) (e e' : Vec (EndedFeed D K)) (u : Option (EndedFeed D K))
    → e'.items ≡ e.items → held_of told feed child b line e' u ≡ held_of told feed child b line e u
at_ended {B} {D} {K} told feed child b line e e' u is = ap (λ (x : List (EndedFeed D K)). record {
  berth = told b;
  opened = option_map (open_of feed) line;
  ended = map (back_of feed child) x;
  unsaid = option_map (back_of feed child) u;
}) is

pub tell_started-requires-clause-child : goal.tell_started-requires-clause-child
tell_started-requires-clause-child g c = subst (λ (o : Opened g.row.B-Feed.Denot g.row.B-Tap.Denot g.row.B-Child.Denot).
    OnOpened o (λ f t k. IsNewChild c.args.line (g.B.Child.Child.told k))) c.in-Line.is c.in-Ok.ensures.child

pub tell_started-requires-clause-tap : goal.tell_started-requires-clause-tap
tell_started-requires-clause-tap g c = subst (λ (o : Opened g.row.B-Feed.Denot g.row.B-Tap.Denot g.row.B-Child.Denot).
    OnOpened o (λ f t k. IsNewTap c.args.line (g.B.Tap.Tap.told t))) c.in-Line.is c.in-Ok.ensures.tap

pub tell_started-requires-clause-owes : goal.tell_started-requires-clause-owes
tell_started-requires-clause-owes g c = (c.args.attempt, (ordered_at g.C.Rules.discipline g.B.Child.Child.told _ _ c.args.self.now c.self.view_is c.requires).may.0)

pub tell-requires-clause-may : goal.tell-requires-clause-may
tell-requires-clause-may g c =
    let v = c.self.inside.0.1.0.pass.seat.me.0 in
    may_launch (g.C.Rules.discipline v.basis) c.self.inside.0.0.berth (duty_of v.mine) c.args.line start.RoomFault
    (c.args.attempt, (ordered_at g.C.Rules.discipline g.B.Child.Child.told _ _ c.args.self.now c.self.view_is c.requires).may.0)

pub returns-in-Ok-tell_started : goal.returns-in-Ok-tell_started
returns-in-Ok-tell_started g c =
    let req = ordered_at g.C.Rules.discipline g.B.Child.Child.told _ _ c.args.self.now c.self.view_is c.requires in
    let means = means_at c.self.inside.0.0 in
    let rules = g.C.Rules.discipline in
    let p = c.self.inside.0.1.0.pass in
    let l = c.args.line in
    let t = c.args.attempt in
    let command = c.command_of-command.result.now in
    let group = c.command_of-command.ensures in
    let order = req.may in
    let inside = c.self.inside.0.1.1.0 in
    let feeds = g.B.Feed.Feed.told in
    let children = g.B.Child.Child.told in
    let was = held_of g.B.Berth.told feeds children inside.berth inside.«open» inside.ended inside.unsaid in
    let held = at_ended g.B.Berth.told feeds children inside.berth inside.«open» inside.ended c.reserve.new.self
    inside.unsaid c.reserve.ensures.items in
    let h = held_of g.B.Berth.told feeds children inside.berth inside.«open» c.reserve.new.self inside.unsaid in
    let p2 = c.tell_started.new.caller.pass in
    let new = g.B.Berth.told c.launch_line.new.berth in
    let x = subst (λ (o : Opened g.row.B-Feed.Denot g.row.B-Tap.Denot g.row.B-Child.Denot). acts.Launches l command (Result.Ok o) (g.B.Berth.told inside.berth) new)
    c.in-Line.is c.in-Ok.ensures.calls in
    let none = none_open h.opened order.1 in
    let made = c.in-Ok-tell_started.ensures.told.0 in
    obeys_at g.C.Rules.discipline _ _ c.args.self.now c.self.view_is (record {
      same = record { pass = c.tell_started.ensures.same; site = refl };
      tidy = ap (child_at c.self.inside.0.0.berth) made.1
          ∙ child_more c.self.inside.0.0.berth p.lane (mine p) (call.Launched l start.Done) reply.Noted
          req.at_site.lane.0;
      goes = (
        c.in-Ok-tell_started.ensures.told.1,
        goes_at means rules p p2 h was held
            (started_goes means rules p p2 h l t order.0 none start.Done x.0 ⊥ new x.2 command group x.1 made refl
            (g.B.Feed.Feed.told c.in-Line.feed) (subst (λ (o : Opened g.row.B-Feed.Denot g.row.B-Tap.Denot g.row.B-Child.Denot).
            OnOpened o (λ f t k. IsNewFeed l (g.B.Feed.Feed.told f))) c.in-Line.is c.in-Ok.ensures.feed)
            order.3.0 order.3.1),
      );
    })

pub returns-in-Err-tell_started : goal.returns-in-Err-tell_started
returns-in-Err-tell_started g c =
    let req = ordered_at g.C.Rules.discipline g.B.Child.Child.told _ _ c.args.self.now c.self.view_is c.requires in
    let means = means_at c.self.inside.0.0 in
    let rules = g.C.Rules.discipline in
    let p = c.self.inside.0.1.0.pass in
    let l = c.args.line in
    let t = c.args.attempt in
    let command = c.command_of-command.result.now in
    let group = c.command_of-command.ensures in
    let order = req.may in
    let inside = c.self.inside.0.1.1.0 in
    let feeds = g.B.Feed.Feed.told in
    let children = g.B.Child.Child.told in
    let was = held_of g.B.Berth.told feeds children inside.berth inside.«open» inside.ended inside.unsaid in
    let held = at_ended g.B.Berth.told feeds children inside.berth inside.«open» inside.ended c.reserve.new.self
    inside.unsaid c.reserve.ensures.items in
    let h = held_of g.B.Berth.told feeds children inside.berth inside.«open» c.reserve.new.self inside.unsaid in
    let p2 = c.tell_started.new.caller.pass in
    let new = g.B.Berth.told c.launch_line.new.berth in
    let x = subst (λ (o : Opened g.row.B-Feed.Denot g.row.B-Tap.Denot g.row.B-Child.Denot). acts.Launches l command (Result.Ok o) (g.B.Berth.told inside.berth) new)
    c.in-Line.is c.in-Ok.ensures.calls in
    let none = none_open h.opened order.1 in
    let child = g.B.Child.Child.told in
    let refused = c.in-Err-tell_started.ensures.refused in
    let of = ap (λ k. (child k).line) refused.0 in
    let fresh = subst (λ (o : Opened g.row.B-Feed.Denot g.row.B-Tap.Denot g.row.B-Child.Denot).
    OnOpened o (λ f t k. IsNewChild l (child k))) c.in-Line.is c.in-Ok.ensures.child in
    obeys_at g.C.Rules.discipline _ _ c.args.self.now c.self.view_is (record {
      same = record { pass = c.tell_started.ensures.same; site = refl };
      tidy = ap (child_at c.self.inside.0.0.berth) refused.1.1 ∙ order.2;
      goes = halts_at means rules p p2 h was held (cause.Refused (call.Launched l start.Done))
          (unsaid_halts means rules p p2 h l t order.0 none
          (cause.Refused (call.Launched l start.Done)) x.0 ⊥ new x.2 refused.1
          (refl, launch_deed means t l start.Done x.0 command group x.1) (g.B.Berth.told c.end.new.self)
          (record { log = c.end.ensures.log; later = c.end.ensures.count; same = c.end.ensures.number })
          (record { line = l; feed = g.B.Feed.Feed.told c.in-Line.feed; child = child c.end.new.child }) refl
          (subst (λ (o : Opened g.row.B-Feed.Denot g.row.B-Tap.Denot g.row.B-Child.Denot).
          OnOpened o (λ f t k. IsNewFeed l (g.B.Feed.Feed.told f))) c.in-Line.is c.in-Ok.ensures.feed)
          (record {
            of_line = subst (λ (o : Option ℕ). IfSome o (λ n. n ≡ l)) (sym (c.end.ensures.line ∙ of))
                fresh.of_line;
            killed = c.end.ensures.killed 0 (subst (λ (o : Option ℕ). IfSome o (λ n. n ≡ 0))
                (sym (ap (λ k. (child k).kills) refused.0)) fresh.not_killed);
          }) order.3.0 order.3.1 refl);
    })

pub returns-in-RoomFault : goal.returns-in-RoomFault
returns-in-RoomFault g c =
    let req = ordered_at g.C.Rules.discipline g.B.Child.Child.told _ _ c.args.self.now c.self.view_is c.requires in
    let means = means_at c.self.inside.0.0 in
    let rules = g.C.Rules.discipline in
    let p = c.self.inside.0.1.0.pass in
    let l = c.args.line in
    let t = c.args.attempt in
    let command = c.command_of-command.result.now in
    let group = c.command_of-command.ensures in
    let order = req.may in
    let inside = c.self.inside.0.1.1.0 in
    let feeds = g.B.Feed.Feed.told in
    let children = g.B.Child.Child.told in
    let was = held_of g.B.Berth.told feeds children inside.berth inside.«open» inside.ended inside.unsaid in
    let held = at_ended g.B.Berth.told feeds children inside.berth inside.«open» inside.ended c.reserve.new.self
    inside.unsaid c.reserve.ensures.items in
    let h = held_of g.B.Berth.told feeds children inside.berth inside.«open» c.reserve.new.self inside.unsaid in
    let p2 = c.tell.new.caller.pass in
    let new = g.B.Berth.told c.launch_line.new.berth in
    let x = subst (λ (o : Opened g.row.B-Feed.Denot g.row.B-Tap.Denot g.row.B-Child.Denot). acts.Launches l command (Result.Ok o) (g.B.Berth.told inside.berth) new)
    c.in-RoomFault.is c.in-Ok.ensures.calls in
    let none = none_open h.opened order.1 in
    let told = c.tell.ensures.told in
    obeys_at g.C.Rules.discipline _ _ c.args.self.now c.self.view_is (record {
      same = record { pass = c.tell.ensures.same; site = refl };
      tidy = told_shelved c.self.inside.0.0.berth (call.Launched l start.RoomFault) p p2 c.tell.result
          req.at_site.lane.0 (λ o. refl) told
          ∙ order.2;
      goes = obeyed_at means rules p p2 h was _ held c.tell.result
          (obeys_told means rules c.tell.result p h p2 _
          (call.Launched l start.RoomFault)
          (λ made. fault_goes means rules p p2 h l t order.0 none start.RoomFault x.0 (Unit {0}) new x.2 command group x.1 made
          refl tt)
          (λ by is stays. launch_halts means rules p p2 h l t order.0 none by x.0 (Unit {0}) new x.2 stays
          (subst (λ (z : ProxyHalt). HaltsBy means z (Launches l t) (calls_deed x.0)) (sym is)
          (refl, launch_deed means t l start.RoomFault x.0 command group x.1)) (ap (λ (z : ProxyHalt). unsaid_by (Some z)) is))
          told);
    })

pub returns-in-LaunchFault : goal.returns-in-LaunchFault
returns-in-LaunchFault g c =
    let req = ordered_at g.C.Rules.discipline g.B.Child.Child.told _ _ c.args.self.now c.self.view_is c.requires in
    let means = means_at c.self.inside.0.0 in
    let rules = g.C.Rules.discipline in
    let p = c.self.inside.0.1.0.pass in
    let l = c.args.line in
    let t = c.args.attempt in
    let command = c.command_of-command.result.now in
    let group = c.command_of-command.ensures in
    let order = req.may in
    let inside = c.self.inside.0.1.1.0 in
    let feeds = g.B.Feed.Feed.told in
    let children = g.B.Child.Child.told in
    let was = held_of g.B.Berth.told feeds children inside.berth inside.«open» inside.ended inside.unsaid in
    let held = at_ended g.B.Berth.told feeds children inside.berth inside.«open» inside.ended c.reserve.new.self
    inside.unsaid c.reserve.ensures.items in
    let h = held_of g.B.Berth.told feeds children inside.berth inside.«open» c.reserve.new.self inside.unsaid in
    let p2 = c.tell-in-LaunchFault.new.caller.pass in
    let new = g.B.Berth.told c.launch_line.new.berth in
    let x = subst (λ (o : Opened g.row.B-Feed.Denot g.row.B-Tap.Denot g.row.B-Child.Denot). acts.Launches l command (Result.Ok o) (g.B.Berth.told inside.berth) new)
    c.in-LaunchFault.is c.in-Ok.ensures.calls in
    let none = none_open h.opened order.1 in
    let told = c.tell-in-LaunchFault.ensures.told in
    obeys_at g.C.Rules.discipline _ _ c.args.self.now c.self.view_is (record {
      same = record { pass = c.tell-in-LaunchFault.ensures.same; site = refl };
      tidy = told_shelved c.self.inside.0.0.berth (call.Launched l start.LaunchFault) p p2 c.tell-in-LaunchFault.result
          req.at_site.lane.0 (λ o. refl) told
          ∙ order.2;
      goes = obeyed_at means rules p p2 h was _ held c.tell-in-LaunchFault.result
          (obeys_told means rules c.tell-in-LaunchFault.result p h p2 _
          (call.Launched l start.LaunchFault)
          (λ made. fault_goes means rules p p2 h l t order.0 none start.LaunchFault x.0 (Unit {0}) new x.2 command group x.1 made
          refl tt)
          (λ by is stays. launch_halts means rules p p2 h l t order.0 none by x.0 (Unit {0}) new x.2 stays
          (subst (λ (z : ProxyHalt). HaltsBy means z (Launches l t) (calls_deed x.0)) (sym is)
          (refl, launch_deed means t l start.LaunchFault x.0 command group x.1)) (ap (λ (z : ProxyHalt). unsaid_by (Some z)) is))
          told);
    })

pub returns-in-Err : goal.returns-in-Err
returns-in-Err g c =
    let req = ordered_at g.C.Rules.discipline g.B.Child.Child.told _ _ c.args.self.now c.self.view_is c.requires in
    let means = means_at c.self.inside.0.0 in
    let rules = g.C.Rules.discipline in
    let p = c.self.inside.0.1.0.pass in
    let l = c.args.line in
    let t = c.args.attempt in
    let order = req.may in
    let stays = stays_at p in
    let inside = c.self.inside.0.1.1.0 in
    let feeds = g.B.Feed.Feed.told in
    let children = g.B.Child.Child.told in
    let was = held_of g.B.Berth.told feeds children inside.berth inside.«open» inside.ended inside.unsaid in
    let held = at_ended g.B.Berth.told feeds children inside.berth inside.«open» inside.ended c.reserve.new.self
    inside.unsaid c.reserve.ensures.items in
    let h = held_of g.B.Berth.told feeds children inside.berth inside.«open» c.reserve.new.self inside.unsaid in
    let x = c.in-Err.ensures.calls in
    obeys_at g.C.Rules.discipline _ _ c.args.self.now c.self.view_is (record {
      same = record { pass = stays.same; site = refl };
      tidy = order.2;
      goes = halts_at means rules p p h was held cause.NoMemory
          (launch_halts means rules p p h l t order.0
          (none_open h.opened order.1) cause.NoMemory x.0 ⊥
          (g.B.Berth.told c.launch_line.new.berth) x.2 stays.none (refl, inr x.1) refl);
    })

pub returns-then-is_err : goal.returns-then-is_err
returns-then-is_err g c =
    let req = ordered_at g.C.Rules.discipline g.B.Child.Child.told _ _ c.args.self.now c.self.view_is c.requires in
    let means = means_at c.self.inside.0.0 in
    let rules = g.C.Rules.discipline in
    let p = c.self.inside.0.1.0.pass in
    let l = c.args.line in
    let t = c.args.attempt in
    let order = req.may in
    let stays = stays_at p in
    let inside = c.self.inside.0.1.1.0 in
    let feeds = g.B.Feed.Feed.told in
    let children = g.B.Child.Child.told in
    let was = held_of g.B.Berth.told feeds children inside.berth inside.«open» inside.ended inside.unsaid in
    let held = at_ended g.B.Berth.told feeds children inside.berth inside.«open» inside.ended c.reserve.new.self
    inside.unsaid c.reserve.ensures.items in
    let h = held_of g.B.Berth.told feeds children inside.berth inside.«open» c.reserve.new.self inside.unsaid in
    obeys_at g.C.Rules.discipline _ _ c.args.self.now c.self.view_is (record {
      same = record { pass = stays.same; site = refl };
      tidy = order.2;
      goes = halts_at means rules p p h was held cause.NoMemory
          (launch_halts means rules p p h l t order.0
          (none_open h.opened order.1) cause.NoMemory [] ⊥ h.berth
          (made_none h.berth) stays.none (refl, inl refl) refl);
    })
