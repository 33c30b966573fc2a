use Rattle.std.proofs.Common.{sym, ◌∙◌}
use Rattle.journal_replay.proofs.Steps.{is_sound_plan, sound_plan_is}
use Rattle.journal_replay.proofs.sound.is_sound.Goals as goal

pub returns : goal.returns
returns c =
    let p = c.args.plan.now in
    (λ holds. is_sound_plan p (sym c.meets_all.ensures ∙ holds), λ sound. c.meets_all.ensures ∙ sound_plan_is p sound)
