-- The slot's answers.
use Rattle.std.proofs.Common.{◌≡◌, ℕ, Bool, true, false, cond, refl, sym, ◌∙◌, List, [], ◌∷◌, ◌++◌}
use Rattle.plain_values.specs.declared.entry.Entry.{Entry}
use Rattle.seat_desk.specs.History.{entry, after}
use Rattle.desk_machines.specs.declared.slot.Ask.{Ask}
use Rattle.desk_machines.specs.declared.slot.Answer.{Answer}
use Rattle.desk_machines.specs.declared.slot.Answer.TheVariants.{Done, Idle}
use Rattle.desk_machines.specs.Slots.{is_done, is_idle, fills, full_after}

pub kept_or_idle : (a : Answer) → is_idle a ≡ false → is_done a ≡ true
kept_or_idle Done h = refl
kept_or_idle Idle h = absurd (cc)

pub one_more : (b : Bool) (h : List (Entry Ask Answer)) (e : Entry Ask Answer) → full_after b (h ++ e ∷ []) ≡ fills e.call
one_more b [] e = refl
one_more b (x ∷ xs) e = one_more (fills x.call) xs e

stands_by : (b : Bool) (full full' : Bool) (h : List (Entry Ask Answer)) (e : Entry Ask Answer) → full ≡ full_after false h → full' ≡ cond b (fills e.call) full
    → full' ≡ full_after false (cond b (h ++ e ∷ []) h)
stands_by true full full' h e s f = f ∙ sym (one_more false h e)
stands_by false full full' h e s f = f ∙ s

pub stands_after : (full full' : Bool) (h : List (Entry Ask Answer)) (lane : ℕ) (c : Ask) (r : Answer) → full ≡ full_after false h
    → full' ≡ cond (is_done r) (fills c) full → full' ≡ full_after false (after (λ e. is_done e.reply) h (entry lane c r))
stands_after full full' h lane c r s f = stands_by (is_done r) full full' h (entry lane c r) s f
