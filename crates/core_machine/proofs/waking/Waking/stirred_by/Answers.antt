use Rattle.std.proofs.Common.{◌≡◌, true, false, refl, sym, ◌∙◌}
use Rattle.core_machine.proofs.waking.Waking.stirred_by.Goals as goal

pub returns-then-is_kept : goal.returns-then-is_kept
returns-then-is_kept c = λ q. record {
  news = λ _ h e wakes. wakes.stirred h e refl;
  none = λ dropped. absurd (let clash : true ≡ false =
      sym c.if-is_kept.true ∙ (c.is_kept.ensures ∙ dropped) in cc);
}
