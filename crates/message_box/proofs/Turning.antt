-- A turn of the mailbox.
use Rattle.std.proofs.Common.{◌≡◌, ◌⊎◌, ℕ, Bool, true, false, cond, List, [], ◌∷◌, ◌++◌}
use Rattle.std.proofs.Common.{refl, ap, sym, ◌∙◌, subst, inl, inr}
use Rattle.plain_values.specs.declared.entry.Entry.{Entry}
use Rattle.seat_desk.specs.History.{entry, after}
use Rattle.message_box.specs.declared.mailbox.Ask.{Ask}
use Rattle.message_box.specs.declared.mailbox.Answer.{Answer}
use Rattle.message_box.specs.declared.mailbox.Mailbox.{Mailbox}
use Rattle.message_box.specs.States.{State, is_kept, is_short}
use Rattle.message_box.specs.States.{answer_to, moved, state_of, Matches}
use Rattle.message_box.specs.States.{MayBeShort}
use Rattle.message_box.specs.StateLaws.{one_more, short_not_kept}

by_kept : {X : Type 0} (b : Bool) (h : List (Entry (Ask X) Answer)) (e : Entry (Ask X) Answer)
    → is_kept (answer_to (state_of h) e.lane e.call) ≡ b
    → state_of (cond b (h ++ e ∷ []) h) ≡ cond b (moved (state_of h) e.call) (state_of h)
by_kept {X} true h e k =
    one_more h e ∙ ap (λ (t : Bool). cond t (moved (state_of h) e.call) (state_of h)) k
by_kept false h e k = refl

-- the state after a call that was answered so
pub after_is : {X : Type 0} (h : List (Entry (Ask X) Answer)) (lane : ℕ) (call : Ask X)
    (reply : Answer)
    → (reply ≡ answer_to (state_of h) lane call) ⊎ ((is_short reply ≡ true) × MayBeShort call)
    → state_of (after (λ e. is_kept e.reply) h (entry lane call reply))
    ≡ cond (is_kept reply) (moved (state_of h) call) (state_of h)
after_is {X} h lane call reply (inl p) =
    by_kept (is_kept reply) h (entry lane call reply) (ap is_kept (sym p))
after_is {X} h lane call reply (inr q) =
    let k = short_not_kept reply q.0 in
    ap (λ (b : Bool). state_of (cond b (h ++ entry lane call reply ∷ []) h)) k
    ∙ sym (ap (λ (b : Bool). cond b (moved (state_of h) call) (state_of h)) k)

pub matches_after : {X : Type 0} (m' : Mailbox X) (h : List (Entry (Ask X) Answer)) (lane : ℕ)
    (call : Ask X) (reply : Answer)
    → (reply ≡ answer_to (state_of h) lane call) ⊎ ((is_short reply ≡ true) × MayBeShort call)
    → Matches m' (cond (is_kept reply) (moved (state_of h) call) (state_of h))
    → Matches m' (state_of (after (λ e. is_kept e.reply) h (entry lane call reply)))
matches_after {X} m' h lane call reply r m =
    subst (λ (s : State X). Matches m' s) (sym (after_is h lane call reply r)) m
