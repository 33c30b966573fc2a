use Rattle.std.proofs.Common.{◌≡◌, not, ◌∙◌, refl, ◌++◌, [], ap, sym, subst, List, append-nil, append_assoc, None}
use Rattle.plain_values.specs.declared.entry.Entry.{Entry}
use Rattle.seat_desk.specs.declared.held.Held.{Held}
use Rattle.seat_desk.specs.History.{entry, IsReply}
use Rattle.seat_desk.specs.Helds.{log_of}
use Rattle.seat_desk.proofs.Goods.{good_of, good_by_own, good_with_room, room_of_call}
use Rattle.seat_desk.specs.Desks.{MayFollow, Follows}
use Rattle.seat_desk.proofs.Calls.{may_end, made_none, between, grew_by, added, after_is, only_added, only_both, followed, after_turn, idle_again, same_basis}
use Rattle.seat_desk.proofs.desk.Desk.call_then.Goals as goal

pub leave-requires : goal.leave-requires
leave-requires g c = let y' : Held g.row.M.Denot g.row.M-Call.Denot g.row.M-Reply.Denot = record { machine = c.enter-held.result.machine; history = c.reserve.new.self } in
    let s = c.enter-held.ensures.1 in (
      c.enter-held.ensures.0 ∙ c.requires.desk,
      may_end log_of (good_of g.M.Machine) c.args.pass.now.lane c.args.pass.now.seat.me c.enter-held.new.seat.me c.enter-held.result y' [] c.args.pass.now.idle s
          (good_with_room g.M.Machine c.args.pass.now.seat.me.0.basis c.enter-held.result c.reserve.new.self s.0.0 c.reserve.ensures.items c.reserve.ensures.room)
          (c.reserve.ensures.items ∙ sym (append-nil c.enter-held.result.history.items)) tt,
    )

pub step-reply-requires-clause-good : goal.step-reply-requires-clause-good
step-reply-requires-clause-good g c =
    good_with_room g.M.Machine (g.M.Machine.basis c.enter-held.result.machine) c.enter-held.result c.reserve.new.self
    (good_by_own g.M.Machine c.args.pass.now.seat.me.0.basis c.enter-held.result c.enter-held.ensures.1.0.0) c.reserve.ensures.items c.reserve.ensures.room

pub step-reply-requires-clause-room : goal.step-reply-requires-clause-room
step-reply-requires-clause-room g c = let good = c.enter-held.ensures.1.0.0 in
    room_of_call g.M.Machine c.enter-held.result c.reserve.new.self c.args.pass.now.lane c.args.call c.owed.result c.saturating_add-room.result c.reserve.result
    (good_by_own g.M.Machine c.args.pass.now.seat.me.0.basis c.enter-held.result good) c.reserve.ensures.items (c.owed.ensures c.enter-held.result.history.items good.0)
    c.saturating_add-room.ensures (c.is_err.ensures.negation ∙ ap not c.if-is_err.false) c.reserve.ensures.ok c.reserve.ensures.bounded

pub step-reply-requires-clause-suits : goal.step-reply-requires-clause-suits
step-reply-requires-clause-suits g c = let law = g.met.M.Machine in let same : c.reserve.new.self.items ≡ c.enter-held.result.history.items = c.reserve.ensures.items in
    let b = between log_of (good_of g.M.Machine) c.args.pass.now.lane c.args.pass.now.seat.me c.enter-held.result c.args.pass.now.idle c.enter-held.ensures.1.0 in
    subst (λ (h : List (Entry g.row.M-Call.Denot g.row.M-Reply.Denot)). g.M.Machine.goes_in (g.M.Machine.basis c.enter-held.result.machine) h c.args.pass.now.lane c.args.call None) (sym (same ∙ b.1))
    (law.suits_still c.enter-held.result.machine c.args.pass.now.seat.me.0.seen b.0 c.args.pass.now.lane c.args.call None (subst (g.M.Machine.stands c.enter-held.result.machine) b.1 c.enter-held.ensures.1.0.0.0) b.2 (subst (λ (q : g.row.M-Basis.Denot). g.M.Machine.goes_in q c.args.pass.now.seat.me.0.seen c.args.pass.now.lane c.args.call None) (sym c.enter-held.ensures.1.0.0.2) c.requires.suits))

pub follow-reply-requires-clause-may : goal.follow-reply-requires-clause-may
follow-reply-requires-clause-may g c = let same : c.reserve.new.self.items ≡ c.enter-held.result.history.items = c.reserve.ensures.items in
    let b = between log_of (good_of g.M.Machine) c.args.pass.now.lane c.args.pass.now.seat.me c.enter-held.result c.args.pass.now.idle c.enter-held.ensures.1.0 in
    let e : Entry g.row.M-Call.Denot g.row.M-Reply.Denot = entry c.args.pass.now.lane c.args.call c.step-reply.result.0 in
    let reply = subst (λ (q : g.row.M-Basis.Denot). IsReply (g.M.Machine.next q) g.M.Machine.short (g.M.Machine.may_be_short q) c.reserve.new.self.items c.args.pass.now.lane c.args.call c.step-reply.result.0) c.enter-held.ensures.1.0.0.2 c.step-reply.ensures.reply in
    let comes = subst (λ (q : g.row.M-Basis.Denot). g.M.Machine.comes_out q c.reserve.new.self.items c.args.pass.now.lane c.args.call c.step-reply.result.0 c.step-reply.result.1) c.enter-held.ensures.1.0.0.2 c.step-reply.ensures.comes in
    subst (λ (q : g.row.M-Basis.Denot). MayFollow g.W.Then.meets (g.M.Machine.paid q) (g.M.Machine.goes_in q) c.args.pass.now.lane c.step-reply.new.held.history.items c.args.work.now c.step-reply.result.0 c.step-reply.result.1) (sym (c.step-reply.ensures.good.2 ∙ c.enter-held.ensures.1.0.0.2))
    (subst (λ (h : List (Entry g.row.M-Call.Denot g.row.M-Reply.Denot)). MayFollow g.W.Then.meets (g.M.Machine.paid c.args.pass.now.seat.me.0.basis) (g.M.Machine.goes_in c.args.pass.now.seat.me.0.basis) c.args.pass.now.lane h c.args.work.now c.step-reply.result.0 c.step-reply.result.1) (sym c.step-reply.ensures.history)
    (c.requires.may c.reserve.new.self.items b.0 c.step-reply.new.held.machine c.step-reply.result.0 c.step-reply.result.1 (same ∙ b.1) b.2
    (subst (g.M.Machine.stands c.step-reply.new.held.machine) c.step-reply.ensures.history c.step-reply.ensures.good.0, (c.step-reply.ensures.good.2 ∙ c.enter-held.ensures.1.0.0.2)) reply comes))

pub leave-requires-2 : goal.leave-requires-2
leave-requires-2 g c = let same : c.reserve.new.self.items ≡ c.enter-held.result.history.items = c.reserve.ensures.items in
    let b = between log_of (good_of g.M.Machine) c.args.pass.now.lane c.args.pass.now.seat.me c.enter-held.result c.args.pass.now.idle c.enter-held.ensures.1.0 in
    let e : Entry g.row.M-Call.Denot g.row.M-Reply.Denot = entry c.args.pass.now.lane c.args.call c.step-reply.result.0 in
    let more = followed g.W.Then.meets (g.M.Machine.next (g.M.Machine.basis c.step-reply.new.held.machine)) g.M.Machine.short g.M.Machine.keeps (g.M.Machine.comes_out (g.M.Machine.basis c.step-reply.new.held.machine)) c.args.pass.now.lane c.step-reply.new.held.history.items c.args.work.now c.step-reply.result.0 c.step-reply.result.1
    c.follow-reply.result.0 c.follow-reply.result.1 c.follow-reply.new.work c.follow-reply.new.held.history.items c.follow-reply.ensures.follows in
    let news : List (Entry g.row.M-Call.Denot g.row.M-Reply.Denot) = added g.M.Machine.keeps e ++ more.0 in
    let all : c.follow-reply.new.held.history.items ≡ c.enter-held.result.history.items ++ news =
    more.1 ∙ (ap (λ (h : List (Entry g.row.M-Call.Denot g.row.M-Reply.Denot)). h ++ more.0) (c.step-reply.ensures.history ∙ (after_is g.M.Machine.keeps c.reserve.new.self.items e ∙ ap (λ (h : List (Entry g.row.M-Call.Denot g.row.M-Reply.Denot)). h ++ added g.M.Machine.keeps e) same))
    ∙ append_assoc c.enter-held.result.history.items (added g.M.Machine.keeps e) more.0) in
    let only = only_both c.args.pass.now.lane (added g.M.Machine.keeps e) more.0 (only_added g.M.Machine.keeps e) more.2 in (
      c.enter-held.ensures.0 ∙ c.requires.desk,
      may_end log_of (good_of g.M.Machine) c.args.pass.now.lane c.args.pass.now.seat.me c.enter-held.new.seat.me c.enter-held.result c.follow-reply.new.held news
          c.args.pass.now.idle c.enter-held.ensures.1 (subst (λ (q : g.row.M-Basis.Denot). good_of g.M.Machine q c.follow-reply.new.held) (c.step-reply.ensures.good.2 ∙ c.enter-held.ensures.1.0.0.2) c.follow-reply.ensures.good) all only,
    )

pub returns-clause-answer : goal.returns-clause-answer
returns-clause-answer g c = let same : c.reserve.new.self.items ≡ c.enter-held.result.history.items = c.reserve.ensures.items in
    let b = between log_of (good_of g.M.Machine) c.args.pass.now.lane c.args.pass.now.seat.me c.enter-held.result c.args.pass.now.idle c.enter-held.ensures.1.0 in
    let e : Entry g.row.M-Call.Denot g.row.M-Reply.Denot = entry c.args.pass.now.lane c.args.call c.step-reply.result.0 in
    let more = followed g.W.Then.meets (g.M.Machine.next (g.M.Machine.basis c.step-reply.new.held.machine)) g.M.Machine.short g.M.Machine.keeps (g.M.Machine.comes_out (g.M.Machine.basis c.step-reply.new.held.machine)) c.args.pass.now.lane c.step-reply.new.held.history.items c.args.work.now c.step-reply.result.0 c.step-reply.result.1
    c.follow-reply.result.0 c.follow-reply.result.1 c.follow-reply.new.work c.follow-reply.new.held.history.items c.follow-reply.ensures.follows in
    let news : List (Entry g.row.M-Call.Denot g.row.M-Reply.Denot) = added g.M.Machine.keeps e ++ more.0 in
    let all : c.follow-reply.new.held.history.items ≡ c.enter-held.result.history.items ++ news =
    more.1 ∙ (ap (λ (h : List (Entry g.row.M-Call.Denot g.row.M-Reply.Denot)). h ++ more.0) (c.step-reply.ensures.history ∙ (after_is g.M.Machine.keeps c.reserve.new.self.items e ∙ ap (λ (h : List (Entry g.row.M-Call.Denot g.row.M-Reply.Denot)). h ++ added g.M.Machine.keeps e) same))
    ∙ append_assoc c.enter-held.result.history.items (added g.M.Machine.keeps e) more.0) in
    let only = only_both c.args.pass.now.lane (added g.M.Machine.keeps e) more.0 (only_added g.M.Machine.keeps e) more.2 in
    let grew = grew_by log_of (good_of g.M.Machine) c.args.pass.now.lane c.args.pass.now.seat.me c.enter-held.new.seat.me c.leave-2.new.seat.me c.enter-held.result c.follow-reply.new.held news
    c.args.pass.now.idle c.enter-held.ensures.1.0 only all (after_turn c.args.pass.now.lane c.args.pass.now.seat.me c.enter-held.new.seat.me c.leave-2.new.seat.me c.enter-held.result.history.items _ c.args.pass.now.idle c.enter-held.ensures.1.1 c.leave-2.ensures.1) in (
      c.reserve.new.self.items,
      c.step-reply.result.0,
      c.step-reply.result.1,
      (b.0, same ∙ b.1, b.2),
      subst (λ (q : g.row.M-Basis.Denot). IsReply (g.M.Machine.next q) g.M.Machine.short (g.M.Machine.may_be_short q) c.reserve.new.self.items c.args.pass.now.lane c.args.call c.step-reply.result.0) c.enter-held.ensures.1.0.0.2 c.step-reply.ensures.reply,
      subst (λ (q : g.row.M-Basis.Denot). g.M.Machine.comes_out q c.reserve.new.self.items c.args.pass.now.lane c.args.call c.step-reply.result.0 c.step-reply.result.1) c.enter-held.ensures.1.0.0.2 c.step-reply.ensures.comes,
      subst (λ (h : List (Entry g.row.M-Call.Denot g.row.M-Reply.Denot)). Follows g.W.Then.meets (g.M.Machine.next c.args.pass.now.seat.me.0.basis) g.M.Machine.short g.M.Machine.keeps (g.M.Machine.comes_out c.args.pass.now.seat.me.0.basis) c.args.pass.now.lane h c.args.work.now c.step-reply.result.0 c.step-reply.result.1 c.follow-reply.result.0 c.follow-reply.result.1 c.follow-reply.new.work c.leave-2.new.seat.me.0.seen) c.step-reply.ensures.history
          (subst (λ (q : g.row.M-Basis.Denot). Follows g.W.Then.meets (g.M.Machine.next q) g.M.Machine.short g.M.Machine.keeps (g.M.Machine.comes_out q) c.args.pass.now.lane c.step-reply.new.held.history.items c.args.work.now c.step-reply.result.0 c.step-reply.result.1 c.follow-reply.result.0 c.follow-reply.result.1 c.follow-reply.new.work c.leave-2.new.seat.me.0.seen) (c.step-reply.ensures.good.2 ∙ c.enter-held.ensures.1.0.0.2)
          (subst (λ (h : List (Entry g.row.M-Call.Denot g.row.M-Reply.Denot)). Follows g.W.Then.meets (g.M.Machine.next (g.M.Machine.basis c.step-reply.new.held.machine)) g.M.Machine.short g.M.Machine.keeps (g.M.Machine.comes_out (g.M.Machine.basis c.step-reply.new.held.machine)) c.args.pass.now.lane c.step-reply.new.held.history.items c.args.work.now c.step-reply.result.0 c.step-reply.result.1 c.follow-reply.result.0 c.follow-reply.result.1 c.follow-reply.new.work h) (all ∙ sym grew.0) c.follow-reply.ensures.follows)),
      grew.2,
      (news, grew.0 ∙ ap (λ (h : List (Entry g.row.M-Call.Denot g.row.M-Reply.Denot)). h ++ news) (sym same), grew.1),
      (c.enter-held.result.machine, (subst (g.M.Machine.stands c.enter-held.result.machine) (sym same) c.enter-held.ensures.1.0.0.0, c.enter-held.ensures.1.0.0.2)),
      (
        c.stirs-first.result,
        c.stirs.result,
        (c.step-reply.new.held.machine, (subst (g.M.Machine.stands c.step-reply.new.held.machine) c.step-reply.ensures.history c.step-reply.ensures.good.0, c.step-reply.ensures.good.2 ∙ c.enter-held.ensures.1.0.0.2), c.stirs-first.ensures),
        (c.follow-reply.new.held.machine, (subst (g.M.Machine.stands c.follow-reply.new.held.machine) (all ∙ sym grew.0) c.follow-reply.ensures.good.0, c.follow-reply.ensures.good.2 ∙ (c.step-reply.ensures.good.2 ∙ c.enter-held.ensures.1.0.0.2)), c.stirs.ensures),
        refl,
      ),
    )

pub returns-then-is_err-clause-refused : goal.returns-then-is_err-clause-refused
returns-then-is_err-clause-refused g c = let y' : Held g.row.M.Denot g.row.M-Call.Denot g.row.M-Reply.Denot = record { machine = c.enter-held.result.machine; history = c.reserve.new.self } in
    let none = made_none log_of (good_of g.M.Machine) c.args.pass.now.lane c.args.pass.now.seat.me c.enter-held.new.seat.me c.leave.new.seat.me c.enter-held.result y' c.args.pass.now.idle c.enter-held.ensures.1.0 c.reserve.ensures.items (after_turn c.args.pass.now.lane c.args.pass.now.seat.me c.enter-held.new.seat.me c.leave.new.seat.me c.enter-held.result.history.items _ c.args.pass.now.idle c.enter-held.ensures.1.1 c.leave.ensures.1) in
    (refl, refl, refl, none)

pub invariant_of-pass : goal.invariant_of-pass
invariant_of-pass g c = record { idle = idle_again c.args.pass.now.lane c.args.pass.now.seat.me c.enter-held.new.seat.me c.leave.new.seat.me c.enter-held.result.history.items _ c.args.pass.now.idle c.enter-held.ensures.1.1 c.leave.ensures.1 }

pub invariant_of-pass-2 : goal.invariant_of-pass-2
invariant_of-pass-2 g c = record { idle = idle_again c.args.pass.now.lane c.args.pass.now.seat.me c.enter-held.new.seat.me c.leave-2.new.seat.me c.enter-held.result.history.items _ c.args.pass.now.idle c.enter-held.ensures.1.1 c.leave-2.ensures.1 }

pub returns-then-is_err-clause-same : goal.returns-then-is_err-clause-same
returns-then-is_err-clause-same g c = (
  (c.leave.ensures.0 ∙ c.enter-held.ensures.0),
  refl,
  same_basis c.args.pass.now.lane c.args.pass.now.seat.me c.enter-held.new.seat.me c.leave.new.seat.me c.enter-held.result.history.items _ c.args.pass.now.idle c.enter-held.ensures.1.1 c.leave.ensures.1,
)

pub returns-clause-same : goal.returns-clause-same
returns-clause-same g c = (
  (c.leave-2.ensures.0 ∙ c.enter-held.ensures.0),
  refl,
  same_basis c.args.pass.now.lane c.args.pass.now.seat.me c.enter-held.new.seat.me c.leave-2.new.seat.me c.enter-held.result.history.items _ c.args.pass.now.idle c.enter-held.ensures.1.1 c.leave-2.ensures.1,
)

pub follow-reply-requires-clause-good : goal.follow-reply-requires-clause-good
follow-reply-requires-clause-good g c = good_by_own g.M.Machine (g.M.Machine.basis c.enter-held.result.machine) c.step-reply.new.held c.step-reply.ensures.good
