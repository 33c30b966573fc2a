use Rattle.std.proofs.Common.{◌≡◌, not, ◌∙◌, refl, ◌++◌, [], ap, sym, subst, append-nil, List}
use Rattle.plain_values.specs.declared.entry.Entry.{Entry}
use Rattle.seat_desk.specs.declared.held.Held.{Held}
use Rattle.seat_desk.specs.History.{entry, after, calls_by, IsReply}
use Rattle.seat_desk.proofs.Calls.{may_end, made_none, others_only, added, after_is, only_added, calls_after, after_turn, idle_again, same_basis}
use Rattle.seat_desk.specs.Helds.{log_of}
use Rattle.seat_desk.proofs.Goods.{good_of, good_by_own, good_with_room, room_of_call}
use Rattle.seat_desk.proofs.desk.Desk.call.Goals as goal

pub leave-requires : goal.leave-requires
leave-requires g c = let y' : Held g.row.M.Denot g.row.M-Call.Denot g.row.M-Reply.Denot = record { machine = c.enter-held.result.machine; history = c.reserve.new.self } in
    let s = c.enter-held.ensures.1 in (
      c.enter-held.ensures.0 ∙ c.requires.desk,
      may_end log_of (good_of g.M.Machine) c.args.pass.now.lane c.args.pass.now.seat.me c.enter-held.new.seat.me c.enter-held.result y' [] c.args.pass.now.idle s
          (good_with_room g.M.Machine c.args.pass.now.seat.me.0.basis c.enter-held.result c.reserve.new.self s.0.0 c.reserve.ensures.items c.reserve.ensures.room)
          (c.reserve.ensures.items ∙ sym (append-nil c.enter-held.result.history.items)) tt,
    )

pub step-reply-requires-clause-good : goal.step-reply-requires-clause-good
step-reply-requires-clause-good g c =
    good_with_room g.M.Machine (g.M.Machine.basis c.enter-held.result.machine) c.enter-held.result c.reserve.new.self
    (good_by_own g.M.Machine c.args.pass.now.seat.me.0.basis c.enter-held.result c.enter-held.ensures.1.0.0) c.reserve.ensures.items c.reserve.ensures.room

pub step-reply-requires-clause-room : goal.step-reply-requires-clause-room
step-reply-requires-clause-room g c = let good = c.enter-held.ensures.1.0.0 in
    room_of_call g.M.Machine c.enter-held.result c.reserve.new.self c.args.pass.now.lane c.args.call c.owed.result c.saturating_add-room.result c.reserve.result
    (good_by_own g.M.Machine c.args.pass.now.seat.me.0.basis c.enter-held.result good) c.reserve.ensures.items (c.owed.ensures c.enter-held.result.history.items good.0)
    c.saturating_add-room.ensures (c.is_err.ensures.negation ∙ ap not c.if-is_err.false) c.reserve.ensures.ok c.reserve.ensures.bounded

pub step-reply-requires-clause-suits : goal.step-reply-requires-clause-suits
step-reply-requires-clause-suits g c = let idle = c.args.pass.now.idle in let found = c.enter-held.ensures.1.0 in let front = found.1 in
    let others : calls_by c.args.pass.now.lane front.0 ≡ [] = others_only c.args.pass.now.lane c.args.pass.now.seat.me.0.seen front.0 c.enter-held.result.history.items c.args.pass.now.seat.me.0.mine
    idle.3 (found.2 c.args.pass.now.lane idle.0) front.1 in
    subst (λ (h : List (Entry g.row.M-Call.Denot g.row.M-Reply.Denot)). g.M.Machine.goes_in (g.M.Machine.basis c.enter-held.result.machine) h c.args.pass.now.lane c.args.call c.args.put) (sym (c.reserve.ensures.items ∙ front.1))
    (g.met.M.Machine.suits_still c.enter-held.result.machine c.args.pass.now.seat.me.0.seen front.0 c.args.pass.now.lane c.args.call c.args.put (subst (g.M.Machine.stands c.enter-held.result.machine) front.1 found.0.0) others (subst (λ (q : g.row.M-Basis.Denot). g.M.Machine.goes_in q c.args.pass.now.seat.me.0.seen c.args.pass.now.lane c.args.call c.args.put) (sym c.enter-held.ensures.1.0.0.2) c.requires.suits))

pub leave-requires-2 : goal.leave-requires-2
leave-requires-2 g c = let s = c.enter-held.ensures.1 in let same : c.reserve.new.self.items ≡ c.enter-held.result.history.items = c.reserve.ensures.items in
    let e : Entry g.row.M-Call.Denot g.row.M-Reply.Denot = entry c.args.pass.now.lane c.args.call c.step-reply.result.0 in (
      c.enter-held.ensures.0 ∙ c.requires.desk,
      may_end log_of (good_of g.M.Machine) c.args.pass.now.lane c.args.pass.now.seat.me c.enter-held.new.seat.me c.enter-held.result c.step-reply.new.held (added g.M.Machine.keeps e)
          c.args.pass.now.idle s (subst (λ (q : g.row.M-Basis.Denot). good_of g.M.Machine q c.step-reply.new.held) c.enter-held.ensures.1.0.0.2 c.step-reply.ensures.good)
          (c.step-reply.ensures.history ∙ (after_is g.M.Machine.keeps c.reserve.new.self.items e ∙ ap (λ (h : List (Entry g.row.M-Call.Denot g.row.M-Reply.Denot)). h ++ added g.M.Machine.keeps e) same)) (only_added g.M.Machine.keeps e),
    )

pub returns-clause-answer : goal.returns-clause-answer
returns-clause-answer g c = let idle = c.args.pass.now.idle in let found = c.enter-held.ensures.1.0 in let front = found.1 in
    let e : Entry g.row.M-Call.Denot g.row.M-Reply.Denot = entry c.args.pass.now.lane c.args.call c.step-reply.result.0 in let same : c.reserve.new.self.items ≡ c.enter-held.result.history.items = c.reserve.ensures.items in
    let last = (after_turn c.args.pass.now.lane c.args.pass.now.seat.me c.enter-held.new.seat.me c.leave-2.new.seat.me c.enter-held.result.history.items _ c.args.pass.now.idle c.enter-held.ensures.1.1 c.leave-2.ensures.1) in
    let others : calls_by c.args.pass.now.lane front.0 ≡ [] = others_only c.args.pass.now.lane c.args.pass.now.seat.me.0.seen front.0 c.enter-held.result.history.items c.args.pass.now.seat.me.0.mine
    idle.3 (found.2 c.args.pass.now.lane idle.0) front.1 in (
      c.reserve.new.self.items,
      (front.0, same ∙ front.1, others),
      subst (λ (q : g.row.M-Basis.Denot). IsReply (g.M.Machine.next q) g.M.Machine.short (g.M.Machine.may_be_short q) c.reserve.new.self.items c.args.pass.now.lane c.args.call c.step-reply.result.0) c.enter-held.ensures.1.0.0.2 c.step-reply.ensures.reply,
      (
        ap (λ m. m.0.seen) last ∙ c.step-reply.ensures.history,
        ap (λ m. m.0.mine) last ∙ (ap (calls_by c.args.pass.now.lane) c.step-reply.ensures.history ∙ (calls_after g.M.Machine.keeps c.reserve.new.self.items e
            ∙ ap (λ (h : List (Entry g.row.M-Call.Denot g.row.M-Reply.Denot)). after g.M.Machine.keeps h e) (ap (calls_by c.args.pass.now.lane) same ∙ found.2 c.args.pass.now.lane idle.0))),
      ),
      subst (λ (q : g.row.M-Basis.Denot). g.M.Machine.comes_out q c.reserve.new.self.items c.args.pass.now.lane c.args.call c.step-reply.result.0 c.step-reply.result.1) c.enter-held.ensures.1.0.0.2 c.step-reply.ensures.comes,
      (c.enter-held.result.machine, (subst (g.M.Machine.stands c.enter-held.result.machine) (sym same) found.0.0, found.0.2)),
    )

pub returns-then-is_err-clause-refused : goal.returns-then-is_err-clause-refused
returns-then-is_err-clause-refused g c = let y' : Held g.row.M.Denot g.row.M-Call.Denot g.row.M-Reply.Denot = record { machine = c.enter-held.result.machine; history = c.reserve.new.self } in
    let none = made_none log_of (good_of g.M.Machine) c.args.pass.now.lane c.args.pass.now.seat.me c.enter-held.new.seat.me c.leave.new.seat.me c.enter-held.result y' c.args.pass.now.idle c.enter-held.ensures.1.0 c.reserve.ensures.items (after_turn c.args.pass.now.lane c.args.pass.now.seat.me c.enter-held.new.seat.me c.leave.new.seat.me c.enter-held.result.history.items _ c.args.pass.now.idle c.enter-held.ensures.1.1 c.leave.ensures.1) in
    (refl, refl, none)

pub invariant_of-pass : goal.invariant_of-pass
invariant_of-pass g c = record { idle = idle_again c.args.pass.now.lane c.args.pass.now.seat.me c.enter-held.new.seat.me c.leave.new.seat.me c.enter-held.result.history.items _ c.args.pass.now.idle c.enter-held.ensures.1.1 c.leave.ensures.1 }

pub invariant_of-pass-2 : goal.invariant_of-pass-2
invariant_of-pass-2 g c = record { idle = idle_again c.args.pass.now.lane c.args.pass.now.seat.me c.enter-held.new.seat.me c.leave-2.new.seat.me c.enter-held.result.history.items _ c.args.pass.now.idle c.enter-held.ensures.1.1 c.leave-2.ensures.1 }

pub returns-clause-stirs : goal.returns-clause-stirs
returns-clause-stirs g c = let last = (after_turn c.args.pass.now.lane c.args.pass.now.seat.me c.enter-held.new.seat.me c.leave-2.new.seat.me c.enter-held.result.history.items _ c.args.pass.now.idle c.enter-held.ensures.1.1 c.leave-2.ensures.1) in (
  c.step-reply.new.held.machine,
  (subst (g.M.Machine.stands c.step-reply.new.held.machine) (sym (ap (λ m. m.0.seen) last)) c.step-reply.ensures.good.0, c.step-reply.ensures.good.2 ∙ c.enter-held.ensures.1.0.0.2),
  c.stirs-stirs.ensures,
)

pub returns-then-is_err-clause-same : goal.returns-then-is_err-clause-same
returns-then-is_err-clause-same g c = (
  (c.leave.ensures.0 ∙ c.enter-held.ensures.0),
  refl,
  same_basis c.args.pass.now.lane c.args.pass.now.seat.me c.enter-held.new.seat.me c.leave.new.seat.me c.enter-held.result.history.items _ c.args.pass.now.idle c.enter-held.ensures.1.1 c.leave.ensures.1,
)

pub returns-clause-same : goal.returns-clause-same
returns-clause-same g c = (
  (c.leave-2.ensures.0 ∙ c.enter-held.ensures.0),
  refl,
  same_basis c.args.pass.now.lane c.args.pass.now.seat.me c.enter-held.new.seat.me c.leave-2.new.seat.me c.enter-held.result.history.items _ c.args.pass.now.idle c.enter-held.ensures.1.1 c.leave-2.ensures.1,
)
