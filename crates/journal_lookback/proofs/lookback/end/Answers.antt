use Rattle.std.proofs.Common.{option_copied, is_some, refl, ap, sym, subst, ◌∙◌, ◌+◌}
use Rattle.journal_lookback.specs.declared.attempt_state.Track.{Track}
use Rattle.journal_lookback.specs.Lookback.{front}
use Rattle.journal_lookback.proofs.States.{Follows, follow_new, follow_concerned, follow_aside, or_then, or_other}
use Rattle.journal_lookback.proofs.lookback.end.Goals as goal
use Rattle.journal_lookback.proofs.lookback.end.Goals.{then-is_concerned+then-won, then-is_concerned+else-won, else-is_concerned}

pub loop-i-init : goal.loop-i-init
loop-i-init c = follow_new _ c.args.attempt refl refl refl refl refl

pub loop-i-preserved : goal.loop-i-preserved
loop-i-preserved c =
    elim c.if-is_concerned.branch [
      | then-is_concerned+then-won w ↦
          follow_concerned c.args.entries.now c.loop-i.i c.index-entries-i.result c.loop-i.track c.args.attempt c.loop-i.won c.loop-i-test.true c.index-entries-i.is c.loop-i.invariant
          (option_copied c.last_work-order.result) c.last_work-order.ensures w.ended_line-lost.result w.ended_line-lost.ensures c.if-is_concerned.track (w.track-is ∙ w.after-track.ensures)
          c.if-is_concerned.won (or_then c.loop-i.won c.if-is_concerned.won _ w.if-won.true w.won-is)
      | then-is_concerned+else-won w ↦
          follow_concerned c.args.entries.now c.loop-i.i c.index-entries-i.result c.loop-i.track c.args.attempt c.loop-i.won c.loop-i-test.true c.index-entries-i.is c.loop-i.invariant
          (option_copied c.last_work-order.result) c.last_work-order.ensures w.ended_line-lost.result w.ended_line-lost.ensures c.if-is_concerned.track (w.track-is ∙ w.after-track.ensures)
          c.if-is_concerned.won (or_other c.loop-i.won c.if-is_concerned.won _ w.if-won.false (w.won-is ∙ w.is_some-won.ensures ∙ ap is_some w.grant_in.ensures))
      | else-is_concerned w ↦
          let kept = follow_aside c.args.entries.now c.loop-i.i c.index-entries-i.result c.loop-i.track c.args.attempt c.loop-i.won c.loop-i-test.true c.index-entries-i.is c.loop-i.invariant
          (option_copied c.last_work-order.result) c.last_work-order.ensures (sym c.is_concerned.ensures ∙ w.if-is_concerned.false) in
          let next = front c.args.entries.now (c.loop-i.i + 1) in
          subst (λ (k : Track). Follows k c.if-is_concerned.won next c.args.attempt) (sym w.track-is) (subst (λ b. Follows c.loop-i.track b next c.args.attempt) (sym w.won-is) kept)
    ]
