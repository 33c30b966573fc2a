use Rattle.std.proofs.Common.{◌∙◌, ap, subst, sym, List, [], ◌∷◌, ◌++◌, append_assoc, append-nil}
use Rattle.delimited_framing.specs.declared.frame.Next.TheVariants as next
use Rattle.json_framing.specs.Cutter.{form_of, framing_of, held}
use Rattle.json_framing.specs.declared.cutter.Framing.{Framing}
use Rattle.message_service.specs.Stream.{Heard}
use Rattle.message_service.proofs.Streams.{Gave, heard_all, heard_fault, heard_frame, heard_none}
use Rattle.message_service.proofs.hearing.hear_all.Goals as goal

pub loop-init : goal.loop-init
loop-init g c = record {
  framing = c.requires;
  heard = λ fed before h. subst (λ (ms : List g.row.V-Message.Denot). Heard
      (form_of g.V.Service.framing) g.V.Service.spells fed ms (held c.args.cutter.now))
      (sym (ap (λ (ms : List g.row.V-Message.Denot). before ++ ms) c.new-messages.ensures.items
      ∙ append-nil before)) h;
}

pub returns-in-NotYet-clause-ok : goal.returns-in-NotYet-clause-ok
returns-in-NotYet-clause-ok g c =
    let i = c.loop.invariant in
    let h = held c.loop.cutter in
    let h' = held c.next-in-loop.new.self in
    let gave : Gave (framing_of c.loop.cutter) h next.NotYet h' =
    rw (c.in-NotYet.is) at (c.in_ok-frame.ensures.ok) in
    λ fed before x. heard_all g.V.Service.framing g.V.Service.spells fed _ h h'
    (subst (λ (f : Framing). Gave f h next.NotYet h') i.framing gave) (i.heard fed before x)

pub returns-in-Bad-clause-ok : goal.returns-in-Bad-clause-ok
returns-in-Bad-clause-ok g c =
    let i = c.loop.invariant in
    let h = held c.loop.cutter in
    let h' = held c.next-in-loop.new.self in
    let bad = next.Bad c.in-Bad.field-0 in
    let gave : Gave (framing_of c.loop.cutter) h bad h' =
    rw (c.in-Bad.is) at (c.in_ok-frame.ensures.ok) in
    λ fed before x. heard_fault g.V.Service.framing g.V.Service.spells fed _ h h'
    c.in-Bad.field-0 (subst (λ (f : Framing). Gave f h bad h') i.framing gave)
    (i.heard fed before x)

pub loop-preserved : goal.loop-preserved
loop-preserved g c =
    let i = c.loop.invariant in
    let h = held c.loop.cutter in
    let h' = held c.next-in-loop.new.self in
    let f = next.Frame c.in-Frame.frame in
    let gave : Gave (framing_of c.loop.cutter) h f h' =
    rw (c.in-Frame.is) at (c.in_ok-frame.ensures.ok) in
    let reads = rw (c.deref.ensures.value) at (rw (c.in-Some-2.is) at
    (c.in_ok-message-in-Frame.ensures)) in
    record {
      framing = c.next-in-loop.ensures.same ∙ i.framing;
      heard = λ fed before x. subst (λ (ms : List g.row.V-Message.Denot). Heard
          (form_of g.V.Service.framing) g.V.Service.spells fed ms h')
          (append_assoc before c.loop.messages.items (c.in-Some-2.message ∷ [])
          ∙ ap (λ (ms : List g.row.V-Message.Denot). before ++ ms) (sym
          c.in_ok-push-in-Some-2.ensures.items))
          (heard_frame g.V.Service.framing g.V.Service.spells fed c.in-Frame.frame _ h h'
          c.in-Some-2.message (subst (λ (k : Framing). Gave k h f h') i.framing gave) reads
          (i.heard fed before x));
    }

pub returns-in-None-2-clause-ok : goal.returns-in-None-2-clause-ok
returns-in-None-2-clause-ok g c =
    let i = c.loop.invariant in
    let h = held c.loop.cutter in
    let h' = held c.next-in-loop.new.self in
    let f = next.Frame c.in-Frame.frame in
    let gave : Gave (framing_of c.loop.cutter) h f h' =
    rw (c.in-Frame.is) at (c.in_ok-frame.ensures.ok) in
    let none = rw (c.deref.ensures.value) at (rw (c.in-None-2.is) at
    (c.in_ok-message-in-Frame.ensures)) in
    λ fed before x. heard_none g.V.Service.framing g.V.Service.spells fed c.in-Frame.frame _ h h'
    (subst (λ (k : Framing). Gave k h f h') i.framing gave) none (i.heard fed before x)
