-- Lines that were started and not reported, berth by berth.
use Rattle.std.proofs.Common.{◌≡◌, ℕ, zero, suc, ◌+◌, List, [], ◌∷◌, length, slice_get, Option, Some, None, refl, ap, subst, arith}
use Rattle.std.proofs.lemmas.List.Elements.{All-head}
use Rattle.lane_laws.proofs.Halting.{ends_tell}
use Rattle.exec_journal.specs.declared.call.Call.{Call}
use Rattle.exec_journal.specs.declared.reply.Reply.{Reply}
use Rattle.proxy_words.specs.declared.halt.ProxyHalt.{ProxyHalt}
use Rattle.run_plan.specs.declared.plan.Speech.{Speech}
use Rattle.run_values.specs.declared.settings.Settings.{Settings}
use Rattle.proxy_words.specs.Lines.{Returned, IsBack, started_in}
use Rattle.lane_runs.specs.Seats.{means_for}
use Rattle.lane_runs.specs.Runs.{EndTold, Rooms, backs_at}
use Rattle.proxy_laws.specs.Steps.{Ended}
use Rattle.outside.specs.Told.{BerthTold}
use Rattle.remote_messages.specs.declared.work.WorkAction.{WorkAction}
use Rattle.core_contract.specs.Duties.{proxy_lane}
use Rattle.core_contract.specs.Moves.{History}
use Rattle.seat_desk.specs.History.{calls_by}
use Rattle.worker_run.specs.Headline.{IsUnsaid}

module _ (rule : History → ℕ → Call → Reply) (settings : Settings) (work : List WorkAction)
    (h : History) (lines : List EndTold) where
  -- a line is unsaid only where the lane has halted
  of_ended : (w : ℕ) (spoken : Speech) (old new : BerthTold) (feeds : List Returned) (line : Returned)
      (halted : Option ProxyHalt)
      → Ended (means_for settings work spoken) rule (proxy_lane w) (calls_by (proxy_lane w) h) h old new feeds (Some line)
      halted → IsUnsaid h w line
  of_ended w spoken old new feeds line None lane = absurd (let e = lane.lines.last in cc)
  of_ended w spoken old new feeds line (Some cause) lane = record {
    halted = ends_tell.proxy_halted (means_for settings work spoken) (proxy_lane w) cause (calls_by (proxy_lane w) h) lane.deeds lane.ends;
    killed = (All-head (IsBack (calls_by (proxy_lane w) h) lane.deeds) line [] lane.lines.also).1;
  }

  some_same : (a b : Returned) → Some (Some a) ≡ Some (Some b) → a ≡ b
  some_same a b e = cc

  pub rooms_unsaid : (w : ℕ) (speeches : List Speech) (olds news : List BerthTold)
      (unsaid : List (Option Returned)) → Rooms rule settings work h lines w speeches olds news unsaid
      → length unsaid ≡ length news
  rooms_unsaid w [] [] [] [] r = refl
  rooms_unsaid w (s ∷ ss) (o ∷ os) (n ∷ ns) (u ∷ us) r =
      ap suc (rooms_unsaid (w + 1) ss os ns us r.1)
  rooms_unsaid w [] [] [] (u ∷ us) r = absurd r
  rooms_unsaid w [] [] (n ∷ ns) us r = absurd r
  rooms_unsaid w [] (o ∷ os) ns us r = absurd r
  rooms_unsaid w (s ∷ ss) [] ns us r = absurd r
  rooms_unsaid w (s ∷ ss) (o ∷ os) [] us r = absurd r
  rooms_unsaid w (s ∷ ss) (o ∷ os) (n ∷ ns) [] r = absurd r

  pub unsaid_at : (w : ℕ) (speeches : List Speech) (olds news : List BerthTold)
      (unsaid : List (Option Returned)) → Rooms rule settings work h lines w speeches olds news unsaid → (i : ℕ)
      (line : Returned) → slice_get unsaid i ≡ Some (Some line) → IsUnsaid h (w + i) line
  unsaid_at w [] [] [] [] r i line is = absurd (cc)
  unsaid_at w (s ∷ ss) (o ∷ os) (n ∷ ns) (Some x ∷ us) r zero line is =
      subst (λ (v : ℕ). IsUnsaid h v line) (let e : w ≡ w + 0 = omega arith in e)
      (subst (λ (y : Returned). IsUnsaid h w y) (some_same x line is)
      (of_ended w s o n (backs_at lines (started_in (calls_by (proxy_lane w) h))) x r.0.halted r.0.lane))
  unsaid_at w (s ∷ ss) (o ∷ os) (n ∷ ns) (None ∷ us) r zero line is = absurd (cc)
  unsaid_at w (s ∷ ss) (o ∷ os) (n ∷ ns) (u ∷ us) r (suc i) line is =
      subst (λ (v : ℕ). IsUnsaid h v line) (let e : w + 1 + i ≡ w + suc i = omega arith in e)
      (unsaid_at (w + 1) ss os ns us r.1 i line is)
  unsaid_at w [] [] [] (u ∷ us) r i line is = absurd r
  unsaid_at w [] [] (n ∷ ns) us r i line is = absurd r
  unsaid_at w [] (o ∷ os) ns us r i line is = absurd r
  unsaid_at w (s ∷ ss) [] ns us r i line is = absurd r
  unsaid_at w (s ∷ ss) (o ∷ os) [] us r i line is = absurd r
  unsaid_at w (s ∷ ss) (o ∷ os) (n ∷ ns) [] r i line is = absurd r
