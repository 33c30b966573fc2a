use Rattle.std.proofs.Common.{List, ℤ, sym, subst, w32, SFits, rules as facts}
use Rattle.std.proofs.Math.Facts.{to_z-of_z}
use Rattle.std.proofs.lemmas.Result.{err_from_is_err_and}
use Rattle.seat_desk.specs.Passes.{basis, seen}
use Rattle.core_contract.specs.Ruled.{answer_after}
use Rattle.remote_messages.specs.declared.file.NamedFile.{NamedFile}
use Rattle.run_values.specs.Settings.{HasGroup}
use Rattle.proxy_words.specs.Deeds.{AreInputs, looks_of, send_asks, due_for}
use Rattle.proxy_words.specs.Told.{AreTold}
use Rattle.proxy_laws.specs.Acts.{SendActs, Writes}
use Rattle.proxy_laws.specs.Lanes.{LaneObjects}
use Rattle.proxy_laws.proofs.Acting.{send_acts, no_inputs}
use Rattle.proxy_lane.specs.Held.{ByOpenLine, IsOpen}
use Rattle.proxy_lane.specs.declared.site.Site.{Site}
use Rattle.proxy_lane.specs.Sites.{means_at}
use Rattle.proxy_lane.proofs.Siting.{by_line_at, by_no_line}
use Rattle.proxy_lane.proofs.sending.ProxyLane+Bench+B+P+C+B+R.act_send.Goals as goal

pub send-requires-clause-opened : goal.send-requires-clause-opened
send-requires-clause-opened g c =
    subst (λ (h : LaneObjects). IsOpen h) (sym c.in_ok-inputs.ensures.hands) c.requires.opened

pub send-requires-clause-group : goal.send-requires-clause-group
send-requires-clause-group g c =
    subst (λ (s : Site g.row.R.Denot). HasGroup s.settings.now c.args.request.now.attempt)
    (sym c.in_ok-inputs.ensures.stays.site) c.requires.due.group

pub returns-clause-stays : goal.returns-clause-stays
returns-clause-stays g c =
    let here = c.in_ok-inputs.ensures.stays in
    record { stays = here.stays; site = here.site }

pub returns-clause-acts : goal.returns-clause-acts
returns-clause-acts g c =
    let x = c.args.self.now in
    let x1 = c.inputs_of.new.self in
    let p = x.caller.pass in
    let rule = answer_after (g.C.Rules.discipline (basis p)) in
    let request = c.args.request.now in
    let work = request.work.now in
    let later = seen x1.caller.pass in
    let means = means_at x.site in
    let t = request.attempt in
    let files = c.as_slice.result.now in
    let fits : SFits w32 request.number = search facts in
    let wrote = c.send.result in
    let got = c.in_ok-inputs.ensures in
    let sent = subst (λ (s : Site g.row.R.Denot). ByOpenLine
    (Writes (send_asks (means_at s) t request.number work files) (due_for (means_at s) t request.number work files)
    wrote) x1.hands c.send.new.self) got.stays.site
    (subst (λ (n : ℤ). ByOpenLine (Writes (send_asks (means_at x1.site) t n work files)
    (due_for (means_at x1.site) t n work files) wrote) x1.hands c.send.new.self) (to_z-of_z fits) c.send.ensures) in
    by_line_at (SendActs means t rule p.lane request.line request.number work wrote later) x1.hands x.hands
    got.hands (record {
      was_open = sent.was_open;
      feed = sent.feed;
      was = sent.was;
      is = sent.is;
      done = send_acts means t rule p.lane request.line request.number work later files wrote
          x1.hands.berth c.send.new.self.berth sent.was_open.feed sent.feed
          (subst (λ (fs : List NamedFile). AreInputs work.inputs fs) (sym c.as_slice.ensures.value) got.inputs)
          (subst (λ (fs : List NamedFile). AreTold rule p.lane later (looks_of work.inputs fs))
          (sym c.as_slice.ensures.value) got.told)
          sent.done;
    })

pub returns-in_err-inputs-clause-stays : goal.returns-in_err-inputs-clause-stays
returns-in_err-inputs-clause-stays g c = c.inputs_of.ensures.stays

pub returns-in_err-inputs-clause-acts : goal.returns-in_err-inputs-clause-acts
returns-in_err-inputs-clause-acts g c =
    let x = c.args.self.now in
    let x1 = c.inputs_of.new.self in
    let p = x.caller.pass in
    let request = c.args.request.now in
    let rule = answer_after (g.C.Rules.discipline (basis p)) in
    let e = err_from_is_err_and c.from_residual.result c.from_residual.ensures.1 in
    rw (e.1) (by_no_line (SendActs (means_at x.site) request.attempt rule p.lane request.line request.number
    request.work.now _ (seen x1.caller.pass)) x.hands x1.hands c.requires.opened c.inputs_of.ensures.hands
    (λ f. no_inputs (means_at x.site) request.attempt rule p.lane request.line request.number request.work.now
    (seen x1.caller.pass) _ x.hands.berth f))
