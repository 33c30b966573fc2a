-- Which child lies on the shelf after an entry of the proxy lane.
use Rattle.std.proofs.Common.{◌≡◌, ℕ, ℤ, Result, ◌/◌, ◌==◌, Bool, true, cond, List, [], ◌∷◌, ◌++◌, Option, None, refl, ap, ◌∙◌, eq-eqb, ⊎_elim}
use Rattle.std.proofs.lemmas.Grind.{fold-append}
use Rattle.std.specs.Prelude.{OnOk, IfErr}
use Rattle.seat_desk.specs.declared.machine.Machine.{Ghosts}
use Rattle.seat_desk.specs.declared.desk.Pass.{Pass}
use Rattle.seat_desk.specs.Passes.{mine}
use Rattle.plain_values.specs.declared.no_memory.NoMemory.{NoMemory}
use Rattle.exec_journal.specs.declared.call.Call.TheVariants as call
use Rattle.exec_journal.specs.declared.call.Written.{Written}
use Rattle.exec_journal.specs.declared.reply.Reply.TheVariants as reply
use Rattle.exec_journal.specs.declared.attempt.Attempt.{Attempt}
use Rattle.exec_journal.specs.declared.call.Found.{Found}
use Rattle.exec_journal.specs.declared.call.Found.TheVariants as found
use Rattle.proxy_calls.specs.Claims.{claim_of}
use Rattle.proxy_words.specs.declared.halt.ProxyHalt.{ProxyHalt}
use Rattle.proxy_calls.specs.Calls.{MakesNone}
use Rattle.proxy_calls.specs.Reports.{Told}
use Rattle.proxy_laws.specs.Steps.{TellsWrote, IsCauseOf, ClaimsFound}
use Rattle.seat_desk.specs.History.{entry}
use Rattle.exec_journal.specs.declared.call.Call.{Call}
use Rattle.exec_journal.specs.declared.reply.Reply.{Reply}
use Rattle.core_contract.specs.Moves.{History, claim_moves, proxy_move, move_in}
use Rattle.core_contract.specs.Shelf.{child_by, child_then, child_at}
use Rattle.core_contract.specs.Duties.{Asks, duty_of, proxy_lane}
use Rattle.proxy_calls.proofs.Entries.{move_is, halved}

pub child_more : (w lane : ℕ) (own : History) (c : Call) (r : Reply) → lane ≡ proxy_lane w
    → child_at w (own ++ entry lane c r ∷ []) ≡ child_by (child_at w own) (proxy_move c r)
child_more w lane own c r is =
    let o : Option ℕ = child_at w own in
    let half : (lane / 2 == w) ≡ true =
    eq-eqb (lane / 2) w (ap (λ (n : ℕ). n / 2) is ∙ halved w) in
    fold-append (child_then w) None own (entry lane c r ∷ [])
    ∙ (ap (λ (b : Bool). cond b (child_by o (move_in lane c r)) o) half
    ∙ ap (child_by o) (move_is lane w c r is))

-- what lies there by the number of the lane
pub at_half : {M G Q : Type 0} {g : Ghosts M Call Reply G Q} (w : ℕ) (p : Pass M Call Reply G Q g)
    (o : Option ℕ) → p.lane ≡ proxy_lane w → child_at w (mine p) ≡ o
    → child_at (p.lane / 2) (mine p) ≡ o
at_half w p o is at =
    ap (λ (n : ℕ). child_at n (mine p)) (ap (λ (n : ℕ). n / 2) is ∙ halved w) ∙ at

-- a report of what was written leaves it
pub wrote_shelved : {M G Q A : Type 0} {g : Ghosts M Call Reply G Q} (w l : ℕ) (n : ℤ)
    (wrote : Result Written NoMemory) (p p1 p2 : Pass M Call Reply G Q g) (r : Result A ProxyHalt)
    → p.lane ≡ proxy_lane w → MakesNone p p1 → p1.lane ≡ p.lane
    → OnOk r ((duty_of (mine p2) ≡ Asks) × TellsWrote l n wrote p1 p2)
    → IfErr r (λ by. MakesNone p1 p2 × IsCauseOf l n wrote by)
    → child_at w (mine p2) ≡ child_at w (mine p)
wrote_shelved w l n (Result.Ok how) p p1 p2 (Result.Ok u) is none lane told refused =
    ap (child_at w) told.1.1 ∙ (child_more w p1.lane (mine p1) (call.Wrote l n how) reply.Noted (lane ∙ is)
    ∙ ap (child_at w) none.1)
wrote_shelved w l n (Result.Err e) p p1 p2 (Result.Ok u) is none lane told refused = absurd told.1
wrote_shelved w l n wrote p p1 p2 (Result.Err by) is none lane told refused =
    ap (child_at w) (refused.0.1 ∙ none.1)

-- so does a report by which nothing is moved
pub told_shelved : {M G Q A : Type 0} {g : Ghosts M Call Reply G Q} (w : ℕ) (c : Call)
    (p p2 : Pass M Call Reply G Q g) (r : Result A ProxyHalt) → p.lane ≡ proxy_lane w
    → ((o : Option ℕ) → child_by o (proxy_move c reply.Noted) ≡ o) → Told c r p p2
    → child_at w (mine p2) ≡ child_at w (mine p)
told_shelved w c p p2 (Result.Ok u) is still told =
    ap (child_at w) told.0.1 ∙ (child_more w p.lane (mine p) c reply.Noted is
    ∙ still (child_at w (mine p)))
told_shelved w c p p2 (Result.Err by) is still told = ap (child_at w) told.1.1

-- so do a Claim and a Committed
files_leave : (o : Option ℕ) (k : ℕ) (fs : List (List ℕ)) (r : Reply)
    → child_by o (claim_moves k (found.Files fs) r) ≡ o
files_leave o k fs (reply.Launch l a b t) = refl
files_leave o k fs (reply.Send l n a b t) = refl
files_leave o k fs (reply.Cancel l n) = refl
files_leave o k fs (reply.Gather l n a b t x y) = refl
files_leave o k fs (reply.Kill l y) = refl
files_leave o k fs reply.Stop = refl
files_leave o k fs reply.Idle = refl
files_leave o k fs reply.Noted = refl
files_leave o k fs (reply.File f) = refl
files_leave o k fs reply.NoFile = refl
files_leave o k fs reply.Granted = refl
files_leave o k fs reply.Lost = refl
files_leave o k fs reply.Dropped = refl
files_leave o k fs reply.AgainLater = refl
files_leave o k fs (reply.Line l) = refl
files_leave o k fs (reply.Matched a b t) = refl
files_leave o k fs (reply.Late a b t) = refl
files_leave o k fs reply.Greeted = refl
files_leave o k fs (reply.Stray y) = refl
files_leave o k fs (reply.Breach y) = refl
files_leave o k fs reply.Astray = refl
files_leave o k fs reply.NoMemory = refl

claim_leaves : (o : Option ℕ) (k : ℕ) (f : Found) (r : Reply) → child_by o (claim_moves k f r) ≡ o
claim_leaves o k (found.Files fs) r = files_leave o k fs r
claim_leaves o k (found.Exit x) r = refl
claim_leaves o k (found.Missing n) r = refl
claim_leaves o k found.RoomFault r = refl
claim_leaves o k found.Refused r = refl

pub claim_shelved : {M G Q : Type 0} {g : Ghosts M Call Reply G Q} (w : ℕ) (t : Attempt) (f : Found)
    (p p1 p2 : Pass M Call Reply G Q g) → p.lane ≡ proxy_lane w → MakesNone p p1
    → p1.lane ≡ p.lane → ClaimsFound t f p1 p2 → child_at w (mine p2) ≡ child_at w (mine p)
claim_shelved w t f p p1 p2 is none lane claims =
    let c = claims.1 in
    let first : child_at w c.1 ≡ child_at w (mine p) =
    ap (child_at w) c.2 ∙ (child_more w p1.lane (mine p1) (claim_of t f) c.0 (lane ∙ is)
    ∙ (claim_leaves (child_at w (mine p1)) t.action f c.0 ∙ ap (child_at w) none.1)) in
    ⊎_elim (λ x. ap (child_at w) x ∙ first)
    (λ x. ap (child_at w) x.1.1 ∙ (child_more w p1.lane c.1
    (call.Committed t.action t.branch x.1.0) reply.Noted (lane ∙ is) ∙ first)) c.3
