use Rattle.std.proofs.Common.{◌≡◌, ◌∷◌, ◌++◌, [], List, reverse, subst, sym, ap, ◌∙◌}
use Rattle.run_plan.specs.declared.plan.Plan.{Plan}
use Rattle.exec_journal.specs.Entry.{Entry}
use Rattle.exec_journal.specs.Legal.{after}
use Rattle.journal_replay.specs.Beyond.{entry_beyond_by}
use Rattle.journal_replay.specs.Bounds.{AreBounds}
use Rattle.journal_replay.proofs.Steps.{counted, first_wrong, joins, newest, spelled_more}
use Rattle.journal_replay.proofs.auditor.judged.Goals as goal

pub returns-then-is_told : goal.returns-then-is_told
returns-then-is_told g c = λ ls line k is few.
    let e = c.args.entry in
    let r = c.reply-reply.result in
    let b = k.basis in
    let path : after (reverse k.journal) e.lane e.call r ≡ reverse (k.journal ++ e ∷ []) = joins (reverse k.journal) e r (sym c.is_told.ensures ∙ c.if-is_told.true) ∙ sym (newest k.journal e) in
    let stood = subst (λ (x : List Entry). g.C.Replayed.stands b c.reply-reply.new.self x) path (c.reply-reply.ensures.stands b (reverse k.journal) k.stood) in
    record {
      basis = b;
      journal = k.journal ++ e ∷ [];
      spelled = spelled_more g.C.Replayed.rules.spelled ls b k.journal line e k.spelled is;
      sound = k.sound;
      stood = stood;
      legal = c.reply-reply.ensures.legal b _ stood;
      race = c.reply-reply.ensures.race b _ stood;
      paired = c.reply-reply.ensures.paired b _ stood;
      plan_is = k.plan_is;
      bounds_are = k.bounds_are;
      entries_are = counted g.C.Replayed.rules.spelled ls b k.journal e _ _ k.spelled k.entries_are few c.saturating_add.ensures;
    }

pub returns : goal.returns
returns g c = λ ls line k is few.
    let rules = g.C.Replayed.rules in
    let bounds : AreBounds c.args.going.bounds (rules.lanes k.basis) (rules.plan k.basis) = subst (AreBounds c.args.going.bounds (rules.lanes k.basis)) k.plan_is k.bounds_are in
    let names = c.is_entry_beyond-beyond.ensures ∙ ap (λ (p : Plan). entry_beyond_by c.args.going.bounds.lanes c.args.going.bounds.lines p c.args.entry) k.plan_is in
    first_wrong rules g.met.C.Replayed.kept ls k.basis k.journal line c.args.entry c.args.going.entries c.reply-reply.result c.is_entry_beyond-beyond.result c.args.going.bounds k.spelled k.sound k.legal k.entries_are bounds is
    (λ x due. c.reply-reply.ensures.only k.basis (reverse k.journal) x k.stood due) (sym c.is_told.ensures ∙ c.if-is_told.false) names
