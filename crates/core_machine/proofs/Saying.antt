-- What each reply moves, by what it says.
use Rattle.std.proofs.Common.{◌≡◌, ◌⊎◌, inl, inr, ⊎_elim, ℕ, ◌%◌, ◌==◌, true, false, cond, List, refl, ap, sym, ◌∙◌}
use Rattle.exec_journal.specs.declared.call.Call.{Call}
use Rattle.exec_journal.specs.declared.call.Call.TheVariants as call
use Rattle.exec_journal.specs.declared.call.Started.TheVariants as start
use Rattle.exec_journal.specs.declared.call.Found.{Found}
use Rattle.exec_journal.specs.declared.call.Found.TheVariants as found
use Rattle.exec_journal.specs.declared.reply.Reply.{Reply}
use Rattle.exec_journal.specs.declared.reply.Reply.TheVariants as reply
use Rattle.exec_journal.specs.declared.reply.Why.{Why}
use Rattle.exec_journal.specs.Entries.{is_kept}
use Rattle.core_contract.specs.Moves.{Move, PutLine, GiveUp, PutPlace, Nothing, move_in, noted_moves, ask_moves, take_moves, claim_moves, tap_move, proxy_move}

-- the reply to each kind of call that moves something says so, or nothing is moved
pub record Says (r : Reply) : Type 0 where
  pub noted : (r ≡ reply.Noted) ⊎ ((m : Move) → noted_moves m r ≡ Nothing)
  pub kill : ((l : ℕ) × (y : Why) × (r ≡ reply.Kill l y)) ⊎ (ask_moves r ≡ Nothing)
  pub line : ((l : ℕ) × (r ≡ reply.Line l)) ⊎ (take_moves r ≡ Nothing)
  pub granted : (r ≡ reply.Granted)
      ⊎ ((a : ℕ) (fs : List (List ℕ)) → claim_moves a (found.Files fs) r ≡ Nothing)

says_nothing : {r : Reply} → ((m : Move) → noted_moves m r ≡ Nothing) → ask_moves r ≡ Nothing
    → take_moves r ≡ Nothing
    → ((a : ℕ) (fs : List (List ℕ)) → claim_moves a (found.Files fs) r ≡ Nothing) → Says r
says_nothing m k l g = record { noted = inr m; kill = inr k; line = inr l; granted = inr g }

pub says : (r : Reply) → Says r
says (reply.Launch l a b t) = says_nothing (λ m. refl) refl refl (λ a fs. refl)
says (reply.Send l n a b t) = says_nothing (λ m. refl) refl refl (λ a fs. refl)
says (reply.Cancel l n) = says_nothing (λ m. refl) refl refl (λ a fs. refl)
says (reply.Gather l n a b t x y) = says_nothing (λ m. refl) refl refl (λ a fs. refl)
says (reply.Kill l y) = record {
  noted = inr (λ m. refl);
  kill = inl (l, y, refl);
  line = inr refl;
  granted = inr (λ a fs. refl);
}
says reply.Stop = says_nothing (λ m. refl) refl refl (λ a fs. refl)
says reply.Idle = says_nothing (λ m. refl) refl refl (λ a fs. refl)
says reply.Noted = record {
  noted = inl refl;
  kill = inr refl;
  line = inr refl;
  granted = inr (λ a fs. refl);
}
says (reply.File f) = says_nothing (λ m. refl) refl refl (λ a fs. refl)
says reply.NoFile = says_nothing (λ m. refl) refl refl (λ a fs. refl)
says reply.Granted = record {
  noted = inr (λ m. refl);
  kill = inr refl;
  line = inr refl;
  granted = inl refl;
}
says reply.Lost = says_nothing (λ m. refl) refl refl (λ a fs. refl)
says reply.Dropped = says_nothing (λ m. refl) refl refl (λ a fs. refl)
says reply.AgainLater = says_nothing (λ m. refl) refl refl (λ a fs. refl)
says (reply.Line l) = record {
  noted = inr (λ m. refl);
  kill = inr refl;
  line = inl (l, refl);
  granted = inr (λ a fs. refl);
}
says (reply.Matched a b t) = says_nothing (λ m. refl) refl refl (λ a fs. refl)
says (reply.Late a b t) = says_nothing (λ m. refl) refl refl (λ a fs. refl)
says reply.Greeted = says_nothing (λ m. refl) refl refl (λ a fs. refl)
says (reply.Stray y) = says_nothing (λ m. refl) refl refl (λ a fs. refl)
says (reply.Breach y) = says_nothing (λ m. refl) refl refl (λ a fs. refl)
says reply.Astray = says_nothing (λ m. refl) refl refl (λ a fs. refl)
says reply.NoMemory = says_nothing (λ m. refl) refl refl (λ a fs. refl)

-- ---- what isn't kept moves nothing

-- a kept reply is none that isn't
kept_is : (r s : Reply) → is_kept s ≡ true → r ≡ s → is_kept r ≡ false → ⊥
kept_is r s kept e rests = (let x : true ≡ false = sym kept ∙ (ap is_kept (sym e) ∙ rests) in cc)

noted_rests : (m : Move) (r : Reply) → is_kept r ≡ false → noted_moves m r ≡ Nothing
noted_rests m r rests =
    ⊎_elim (λ e. absurd (kept_is r reply.Noted refl e rests)) (λ f. f m) (says r).noted

ask_rests : (r : Reply) → is_kept r ≡ false → ask_moves r ≡ Nothing
ask_rests r rests =
    ⊎_elim (λ k. absurd (kept_is r (reply.Kill k.0 k.1) refl k.2 rests)) (λ e. e) (says r).kill

take_rests : (r : Reply) → is_kept r ≡ false → take_moves r ≡ Nothing
take_rests r rests =
    ⊎_elim (λ k. absurd (kept_is r (reply.Line k.0) refl k.1 rests)) (λ e. e) (says r).line

claim_rests : (a : ℕ) (f : Found) (r : Reply) → is_kept r ≡ false → claim_moves a f r ≡ Nothing
claim_rests a (found.Files fs) r rests =
    ⊎_elim (λ e. absurd (kept_is r reply.Granted refl e rests)) (λ f. f a fs) (says r).granted
claim_rests a (found.Exit k) r rests = refl
claim_rests a (found.Missing k) r rests = refl
claim_rests a found.RoomFault r rests = refl
claim_rests a found.Refused r rests = refl

proxy_rests : (c : Call) (r : Reply) → is_kept r ≡ false → proxy_move c r ≡ Nothing
proxy_rests call.Ask r rests = ask_rests r rests
proxy_rests (call.Launched l start.Done) r rests = noted_rests (PutLine l) r rests
proxy_rests (call.Launched l start.RoomFault) r rests = refl
proxy_rests (call.Launched l start.LaunchFault) r rests = refl
proxy_rests (call.Wrote l n how) r rests = refl
proxy_rests call.Tick r rests = refl
proxy_rests (call.Look w) r rests = refl
proxy_rests (call.Claim a b t f) r rests = claim_rests a f r rests
proxy_rests (call.Committed a b how) r rests = noted_rests (PutPlace a how) r rests
proxy_rests (call.Killed l) r rests = refl
proxy_rests call.Take r rests = refl
proxy_rests (call.Answer l x) r rests = refl
proxy_rests (call.Ended l how) r rests = refl
proxy_rests call.Halt r rests = noted_rests GiveUp r rests

tap_rests : (c : Call) (r : Reply) → is_kept r ≡ false → tap_move c r ≡ Nothing
tap_rests call.Take r rests = take_rests r rests
tap_rests call.Ask r rests = refl
tap_rests (call.Launched l how) r rests = refl
tap_rests (call.Wrote l n how) r rests = refl
tap_rests call.Tick r rests = refl
tap_rests (call.Look w) r rests = refl
tap_rests (call.Claim a b t f) r rests = refl
tap_rests (call.Committed a b how) r rests = refl
tap_rests (call.Killed l) r rests = refl
tap_rests (call.Answer l x) r rests = refl
tap_rests (call.Ended l how) r rests = refl
tap_rests call.Halt r rests = refl

pub unkept_moves_nothing : (lane : ℕ) (c : Call) (r : Reply) → is_kept r ≡ false
    → move_in lane c r ≡ Nothing
unkept_moves_nothing lane c r rests = elim (lane % 2 == 0) as (λ b.
    cond b (proxy_move c r) (tap_move c r) ≡ Nothing) [
      | true ↦ proxy_rests c r rests
      | false ↦ tap_rests c r rests
    ]
