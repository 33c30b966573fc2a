use Rattle.request_frames.specs.Requests.{room_for}
use Rattle.std.proofs.Math.Facts.{to_z-of_z}
use Rattle.std.proofs.Common.{ap, sym, subst, ◌∙◌, w32, SFits, rules as facts}
use Rattle.std.proofs.lemmas.Result.{err_from_is_err_and}
use Rattle.request_frames.specs.declared.frames.Due.TheVariants.{Frame, TooLarge}
use Rattle.std.specs.Prelude.{ℕ, List}
use Rattle.sandbox_rooms.specs.declared.room.Room.{Room}
use Rattle.proxy_words.specs.Deeds.{send_asks, due_for}
use Rattle.proxy_laws.specs.Acts.{Writes}
use Rattle.proxy_laws.proofs.Acting.{due_writes, large_writes, cut_writes, due_is}
use Rattle.proxy_lane.specs.Sites.{means_at}
use Rattle.proxy_lane.specs.Writing.{asks_in}
use Rattle.proxy_lane.proofs.sending.write.Goals as goal

pub returns-in-TooLarge : goal.returns-in-TooLarge
returns-in-TooLarge g c =
    let fits : SFits w32 c.args.work.now.number = search facts in
    let means = means_at c.args.site.now in
    let t = c.args.attempt in
    let work = c.args.work.now.action.now in
    let files = c.args.work.now.inputs.now in
    large_writes (send_asks means t c.args.work.now.number work files) (due_for means t c.args.work.now.number work files)
    (g.B.Berth.told c.args.berth.now) (g.B.Feed.Feed.told c.args.feed.now)
    (sym (due_is means t c.args.work.now.number work files c.room_of-room.result TooLarge (c.room_of-room.ensures
    ∙ (λ i. room_for (c.kind_of.ensures i) (to_z-of_z fits i)))
    (sym c.in-TooLarge.is ∙ c.in_ok-send_frame.ensures)))

pub returns-in-Frame : goal.returns-in-Frame
returns-in-Frame g c =
    let fits : SFits w32 c.args.work.now.number = search facts in
    let means = means_at c.args.site.now in
    let t = c.args.attempt in
    let n = c.args.work.now.number in
    let work = c.args.work.now.action.now in
    let files = c.args.work.now.inputs.now in
    let room = c.room_of-room.ensures ∙ (λ i. room_for (c.kind_of.ensures i) (to_z-of_z fits i)) in
    let old = g.B.Berth.told c.args.berth.now in
    let new = g.B.Berth.told c.write_frame.new.berth in
    let before = g.B.Feed.Feed.told c.args.feed.now in
    let after = g.B.Feed.Feed.told c.write_frame.new.feed in
    due_writes (send_asks means t n work files) (due_for means t n work files)
    (Frame c.as_slice-bytes.result.now) c.write_frame.result old new before after
    (ap (λ (bs : List ℕ). Frame bs) c.as_slice-bytes.ensures
    ∙ due_is means t n work files c.room_of-room.result (Frame c.in-Frame.frame) room
    (sym c.in-Frame.is ∙ c.in_ok-send_frame.ensures))
    (subst (λ (r : Room). Writes (asks_in means.speech r c.args.work.now) (Frame c.as_slice-bytes.result.now)
    c.write_frame.result old new before after) room c.write_frame.ensures)

pub returns-in_err-know_digests : goal.returns-in_err-know_digests
returns-in_err-know_digests g c =
    let means = means_at c.args.site.now in
    let t = c.args.attempt in
    let n = c.args.work.now.number in
    let work = c.args.work.now.action.now in
    let files = c.args.work.now.inputs.now in
    let e = err_from_is_err_and c.from_residual.result c.from_residual.ensures.1 in
    rw (e.1) (cut_writes (send_asks means t n work files) (due_for means t n work files) e.0
    (g.B.Berth.told c.args.berth.now) (g.B.Feed.Feed.told c.args.feed.now))

pub returns-in_err-send_frame : goal.returns-in_err-send_frame
returns-in_err-send_frame g c =
    let means = means_at c.args.site.now in
    let t = c.args.attempt in
    let n = c.args.work.now.number in
    let work = c.args.work.now.action.now in
    let files = c.args.work.now.inputs.now in
    let e = err_from_is_err_and c.from_residual-in_err-send_frame.result c.from_residual-in_err-send_frame.ensures.1 in
    rw (e.1) (cut_writes (send_asks means t n work files) (due_for means t n work files) e.0
    (g.B.Berth.told c.args.berth.now) (g.B.Feed.Feed.told c.args.feed.now))
