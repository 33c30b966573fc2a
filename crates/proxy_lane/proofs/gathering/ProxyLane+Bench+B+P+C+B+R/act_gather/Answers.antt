use Rattle.core_contract.specs.Ruled.{answer_after}
use Rattle.std.proofs.Common.{w32, to_z, of_z, ℕ, ℤ, Bool, true, false, List, length, [], refl, sym, subst, ◌∙◌, SFits, rules as facts}
use Rattle.std.proofs.Math.Facts.{to_z-of_z}
use Rattle.exec_journal.specs.declared.call.Found.TheVariants as found
use Rattle.sandbox_rooms.specs.declared.room.Room.{Room}
use Rattle.sandbox_rooms.specs.Rooms.{GatherAsks, gathering}
use Rattle.sandbox_rooms.proofs.Runs.{made_none}
use Rattle.berth_acts.specs.Acts.{ReportsLooks}
use Rattle.run_values.specs.Settings.{speaks_remote}
use Rattle.request_frames.specs.Requests.{room_for}
use Rattle.seat_desk.specs.Passes.{basis, seen}
use Rattle.proxy_words.specs.Deeds.{FoundIn, look_asks}
use Rattle.proxy_laws.specs.Acts.{GatherActs}
use Rattle.proxy_laws.specs.Lanes.{LaneObjects}
use Rattle.proxy_laws.proofs.Acting.{gather_none, gather_answered, gather_looked}
use Rattle.proxy_lane.proofs.Siting.{same_hands}
use Rattle.proxy_lane.specs.Sites.{means_at}
use Rattle.proxy_lane.proofs.gathering.ProxyLane+Bench+B+P+C+B+R.act_gather.Goals as goal

exit_in : (r : Bool) (asks : GatherAsks) (outputs l : ℕ) (n x : ℤ)
    → FoundIn r asks outputs l n (found.Exit x)
    (record { line = 0; looks = []; calls = []; given = [] })
exit_in true asks outputs l n x = (refl, refl, refl)
exit_in false asks outputs l n x = (refl, refl, refl)

refused_in : (r : Bool) (asks : GatherAsks) (outputs l : ℕ) (n : ℤ)
    → FoundIn r asks outputs l n found.Refused
    (record { line = 0; looks = []; calls = []; given = [] })
refused_in true asks outputs l n = (refl, refl, refl)
refused_in false asks outputs l n = (refl, refl, refl)

pub returns-then-answer-ne0-clause-acts : goal.returns-then-answer-ne0-clause-acts
returns-then-answer-ne0-clause-acts g c =
    let p = c.args.self.now.caller.pass in
    let means = means_at c.args.self.now.site in
    let t = c.args.answer.now.attempt in
    let work = c.args.work.now in
    let b = c.args.self.now.hands.berth in
    gather_none means t (answer_after (g.C.Rules.discipline (basis p))) p.lane c.args.answer.now.line c.args.answer.now.number work (seen p)
    (found.Exit (to_z w32 (of_z w32 c.args.answer.now.exit))) b
    (exit_in (speaks_remote means.speech) (look_asks means t c.args.answer.now.number work) (length work.outputs) c.args.answer.now.line
    c.args.answer.now.number (to_z w32 (of_z w32 c.args.answer.now.exit))) (made_none b)

pub returns-then-answer-clause-acts : goal.returns-then-answer-clause-acts
returns-then-answer-clause-acts g c =
    let p = c.args.self.now.caller.pass in
    let means = means_at c.args.self.now.site in
    let t = c.args.answer.now.attempt in
    let work = c.args.work.now in
    let b = c.args.self.now.hands.berth in
    gather_none means t (answer_after (g.C.Rules.discipline (basis p))) p.lane c.args.answer.now.line c.args.answer.now.number work (seen p)
    found.Refused b
    (refused_in (speaks_remote means.speech) (look_asks means t c.args.answer.now.number work) (length work.outputs)
    c.args.answer.now.line c.args.answer.now.number) (made_none b)

pub returns-then-is_executor-clause-hands : goal.returns-then-is_executor-clause-hands
returns-then-is_executor-clause-hands g c = same_hands c.answered.ensures.hands

pub returns-then-is_executor-clause-acts : goal.returns-then-is_executor-clause-acts
returns-then-is_executor-clause-acts g c =
    let x = c.args.self.now in
    let x1 = c.answered.new.self in
    let p = x.caller.pass in
    let means = means_at x.site in
    let t = c.args.answer.now.attempt in
    let work = c.args.work.now in
    subst (λ (h : LaneObjects). GatherActs means t (answer_after (g.C.Rules.discipline (basis p))) p.lane
    c.args.answer.now.line c.args.answer.now.number work c.answered.result (seen x1.caller.pass) x.hands.berth h.berth)
    (sym c.answered.ensures.hands)
    (gather_answered means t (answer_after (g.C.Rules.discipline (basis p))) p.lane c.args.answer.now.line
    c.args.answer.now.number work (seen x1.caller.pass) c.answered.result x.hands.berth
    (sym c.is_executor.ensures ∙ c.if-is_executor.true) c.answered.ensures.answered)

pub returns-clause-acts : goal.returns-clause-acts
returns-clause-acts g c =
    let fits : SFits w32 c.args.answer.now.number = search facts in
    let p = c.args.self.now.caller.pass in
    let means = means_at c.args.self.now.site in
    let t = c.args.answer.now.attempt in
    let work = c.args.work.now in
    let old = c.args.self.now.hands.berth in
    let new = c.gather.new.self.berth in
    let room = c.room_of-room.ensures
    ∙ (λ i. room_for (c.kind_of-kind.ensures i) (to_z-of_z fits i)) in
    gather_looked means t (answer_after (g.C.Rules.discipline (basis p))) p.lane c.args.answer.now.line c.args.answer.now.number work (seen p)
    c.gather.result old new (sym c.is_executor.ensures ∙ c.if-is_executor.false)
    (subst (λ (r : Room). ReportsLooks (gathering r work.outputs) c.gather.result old new) room
    (subst (λ xs. ReportsLooks (gathering c.room_of-room.result xs) c.gather.result old new)
    c.as_slice.ensures c.gather.ensures.looks))
