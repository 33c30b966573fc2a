-- What a call of a tap lane makes of its own entries.
use Rattle.std.proofs.Common.{◌≡◌, ◌≢◌, inl, inr, ℕ, ◌+◌, ◌*◌, ◌%◌, ◌/◌, ◌==◌, ◌<◌, Bool, true, false, cond, List, [], ◌∷◌, ◌++◌, Option, Some, None, refl, ap, sym, subst, ◌∙◌, arith, eq-eqb, ne_eqb}
use Rattle.std.proofs.lemmas.Grind.{fold-append}
use Rattle.seat_desk.specs.declared.machine.Machine.{Ghosts}
use Rattle.seat_desk.specs.declared.view.View.{View}
use Rattle.seat_desk.specs.declared.desk.Pass.{Pass}
use Rattle.seat_desk.specs.Passes.{mine, basis, seen}
use Rattle.seat_desk.specs.History.{entry, after, calls_by, GoesOn, IsReply}
use Rattle.seat_desk.specs.Desks.{Grows}
use Rattle.outside.specs.Told.{ChildTold, TapTold, PlaceTold}
use Rattle.exec_journal.specs.declared.call.Answer.{Answer}
use Rattle.exec_journal.specs.declared.call.Call.{Call}
use Rattle.exec_journal.specs.declared.call.Call.TheVariants as call
use Rattle.exec_journal.specs.declared.call.HowEnded.{HowEnded}
use Rattle.exec_journal.specs.declared.reply.Reply.{Reply}
use Rattle.exec_journal.specs.declared.reply.Reply.TheVariants as reply
use Rattle.exec_journal.specs.Entries.{is_kept}
use Rattle.core_contract.specs.Keeps.{Keeps}
use Rattle.core_contract.specs.Ruled.{answer_after}
use Rattle.core_contract.specs.Discipline.{Discipline}
use Rattle.core_contract.specs.Moves.{Past, History, proxy_move, tap_move}
use Rattle.core_contract.specs.Laws.{is_short, says_file, fits, Fits, InScript, tap_lane, Hearing, Free, Hears, Over, hearing_then, hearing_of, may_hear}
use Rattle.core_machine.specs.declared.shelf.Good.{Good}
use Rattle.core_machine.specs.declared.shelf.Good.TheVariants as good
use Rattle.core_machine.specs.Bench.{IsTap, IsTapOf, Comes, ComesOut}
use Rattle.core_machine.specs.BenchLaws.{calls_stay}
use Rattle.tap_lane.specs.Heard.{IsTapLane, IsAnswer}
use Rattle.tap_lane.specs.Taking.{tap_good}
use Rattle.tap_lane.proofs.Replies.{answer_leads, is_noted, noted_no_file}

abbrev kept : Past → Bool
kept e = is_kept e.reply

-- the lane may make the call, as its own entries say
abbrev pub MayHear : History → Call → Type 0
MayHear own c = may_hear (hearing_of own) c ≡ true

-- whenever a tap lane's own entries say so, the call is in its script
abbrev pub Hearable : (History → ℕ → Call → Reply) → ℕ → Call → Type 0
Hearable rule seats c = (h : History) (w : ℕ) → w < seats
    → MayHear (calls_by (tap_lane w) h) c → InScript rule h (tap_lane w) c

-- no reply of its kind is a file
abbrev pub NoFile : Call → Type 0
NoFile c = (r : Reply) → fits c r ≡ true → says_file r ≡ false

-- what may come out with a reply after a history
abbrev pub Out : Type 0 → Type 1
Out G = History → ℕ → Call → Reply → Option G → Type 0

module _ {G : Type 0} (rule : History → ℕ → Call → Reply) (comes : Out G) where
  -- the reply is of the call's kind; the lane's own entries grew by it, and this came out
  pub record Called (lane : ℕ) (own own' : History) (c : Call) (r : Reply) (g : Option G)
      : Type 0 where
    pub point : History
    pub fitting : fits c r ≡ true
    pub grown : own' ≡ after kept own (entry lane c r)
    pub out : comes point lane c r g

  -- what a call says of the history that it met, as far as it is used here
  abbrev pub Met : {Q : Type 0} → ℕ → View Call Reply Q → Call → Reply → Option G
      → View Call Reply Q → Type 0
  Met lane v c r g v' =
      (h : History) × GoesOn lane v.seen h
      × IsReply rule is_short (λ h lane c. says_file (rule h lane c) ≡ true) h lane c r
      × Grows kept lane v h (entry lane c r) v' × comes h lane c r g

  by_law : (h : History) (lane : ℕ) (c : Call) (r : Reply) → NoFile c
      → fits c (rule h lane c) ≡ true
      → IsReply rule is_short (λ h lane c. says_file (rule h lane c) ≡ true) h lane c r
      → fits c r ≡ true
  by_law h lane c r no_file fit (inl e) = ap (fits c) e ∙ fit
  by_law h lane c r no_file fit (inr s) = absurd (
      let x : true ≡ false = sym s.1 ∙ no_file (rule h lane c) fit in cc
      )

  -- a paid call may get no short reply
  not_short : (h : History) (lane : ℕ) (c : Call) (r : Reply)
      → IsReply rule is_short (λ h lane c. ⊥) h lane c r
      → IsReply rule is_short (λ h lane c. says_file (rule h lane c) ≡ true) h lane c r
  not_short h lane c r (inl e) = inl e
  not_short h lane c r (inr s) = absurd s.1

  called : {Q : Type 0} (seats lane : ℕ) (v v' : View Call Reply Q) (c : Call) (r : Reply)
      (g : Option G) → NoFile c → ((h : History) → Fits c (rule h lane c))
      → Hearable rule seats c → IsTapLane seats lane → calls_by lane v.seen ≡ v.mine
      → MayHear v.mine c → Met lane v c r g v' → Called lane v.mine v'.mine c r g
  called seats lane v v' c r g no_file fit hear is idle may a =
      let h : History = a.0 in
      let own : calls_by lane h ≡ v.mine =
      ap (calls_by lane) a.1.1 ∙ (calls_stay lane v.seen a.1.0 a.1.2 ∙ idle) in
      let here : MayHear (calls_by lane h) c =
      ap (λ (m : History). may_hear (hearing_of m) c) own ∙ may in
      let scripted : InScript rule h lane c =
      subst (λ (k : ℕ). MayHear (calls_by k h) c → InScript rule h k c) (sym is.1)
      (hear h is.0 is.2) here in
      record {
        point = h;
        fitting = by_law h lane c r no_file (fit h scripted) a.2;
        grown = a.3.1;
        out = a.4;
      }

kept_after : (own : History) (e : Past) → is_kept e.reply ≡ true
    → after kept own e ≡ own ++ e ∷ []
kept_after own e k = ap (λ (b : Bool). cond b (own ++ e ∷ []) own) k

pub hearing_more : (own : History) (e : Past)
    → hearing_of (own ++ e ∷ []) ≡ hearing_then (hearing_of own) e
hearing_more own e = fold-append hearing_then Free own (e ∷ [])

-- what it hears after one entry more
hears_then : (own own' : History) (e : Past) (s t : Hearing) → hearing_of own ≡ s
    → own' ≡ own ++ e ∷ [] → hearing_then s e ≡ t → hearing_of own' ≡ t
hears_then own own' e s t is grown leads =
    ap hearing_of grown ∙ (hearing_more own e ∙ (ap (λ (u : Hearing). hearing_then u e) is ∙ leads))

-- the entry when the reply is known
grown_by : (lane : ℕ) (own own' : History) (c : Call) (r x : Reply) → r ≡ x
    → own' ≡ after kept own (entry lane c r) → own' ≡ after kept own (entry lane c x)
grown_by lane own own' c r x is grown =
    grown ∙ ap (λ (y : Reply). after kept own (entry lane c y)) is

module _ {G : Type 0} (rule : History → ℕ → Call → Reply) (comes : Out G) (lane : ℕ)
    (own own' : History) (g : Option G) where
  answered : (l : ℕ) (x : Answer) (r : Reply)
      → Called rule comes lane own own' (call.Answer l x) r g → hearing_of own ≡ Hears l
      → (e : Past) × IsAnswer l x e × (own' ≡ own ++ e ∷ []) × (hearing_of own' ≡ Hears l)
  answered l x r k hears =
      let e : Past = entry lane (call.Answer l x) r in
      let leads = answer_leads l x r k.fitting in
      let grown : own' ≡ own ++ e ∷ [] = k.grown ∙ kept_after own e leads.0 in
      (e, (refl, k.fitting), grown, hears_then own own' e (Hears l) (Hears l) hears grown leads.2)

  ended : (l : ℕ) (how : HowEnded) (r : Reply)
      → Called rule comes lane own own' (call.Ended l how) r g → hearing_of own ≡ Hears l
      → (own' ≡ own ++ entry lane (call.Ended l how) reply.Noted ∷ [])
      × (hearing_of own' ≡ Free)
  ended l how r k hears =
      let grown = grown_by lane own own' (call.Ended l how) r reply.Noted
      (is_noted r k.fitting) k.grown in (
        grown,
        hears_then own own' (entry lane (call.Ended l how) reply.Noted) (Hears l) Free
            hears grown refl,
      )

  pub took_line : (l : ℕ) (r : Reply) → Called rule comes lane own own' call.Take r g
      → hearing_of own ≡ Free → r ≡ reply.Line l
      → (own' ≡ own ++ entry lane call.Take (reply.Line l) ∷ []) × (hearing_of own' ≡ Hears l)
  took_line l r k free is =
      let grown = grown_by lane own own' call.Take r (reply.Line l) is k.grown in (
        grown,
        hears_then own own' (entry lane call.Take (reply.Line l)) Free (Hears l)
            free grown refl,
      )

  pub took_stop : (r : Reply) → Called rule comes lane own own' call.Take r g → r ≡ reply.Stop
      → own' ≡ own ++ entry lane call.Take reply.Stop ∷ []
  took_stop r k is = grown_by lane own own' call.Take r reply.Stop is k.grown

  has_halted : (r : Reply) → Called rule comes lane own own' call.Halt r g
      → own' ≡ own ++ entry lane call.Halt reply.Noted ∷ []
  has_halted r k = grown_by lane own own' call.Halt r reply.Noted (is_noted r k.fitting) k.grown

-- ---- what it may call

answer_may : (own : History) (l : ℕ) (x : Answer) → hearing_of own ≡ Hears l
    → MayHear own (call.Answer l x)
answer_may own l x e = ap (λ (s : Hearing). may_hear s (call.Answer l x)) e ∙ eq-eqb l l refl

end_may : (own : History) (l : ℕ) (how : HowEnded) → hearing_of own ≡ Hears l
    → MayHear own (call.Ended l how)
end_may own l how e = ap (λ (s : Hearing). may_hear s (call.Ended l how)) e ∙ eq-eqb l l refl

pub take_may : (own : History) → hearing_of own ≡ Free → MayHear own call.Take
take_may own e = ap (λ (s : Hearing). may_hear s call.Take) e

halt_by : (s : Hearing) → s ≢ Over → may_hear s call.Halt ≡ true
halt_by Free n = refl
halt_by (Hears l) n = refl
halt_by Over n = absurd (n refl)

halt_may : (own : History) → hearing_of own ≢ Over → MayHear own call.Halt
halt_may own n = halt_by (hearing_of own) n

-- ---- the calls of a lane's pass, by a core's laws

module _ {M G Q : Type 0} {g : Ghosts M Call Reply G Q} (rules : Q → Discipline)
    (law : (q : Q) → Keeps (rules q)) (comes : Q → Out G) (p p' : Pass M Call Reply G Q g)
    (is : IsTapLane (rules (basis p)).seats p.lane) (r : Reply) (good : Option G) where
  abbrev rule : Q → History → ℕ → Call → Reply
  rule q = answer_after (rules q)

  -- so the call was answered, and this came out
  abbrev pub IsAnswered : Call → Type 0
  IsAnswered c = Met (rule (basis p)) (comes (basis p)) p.lane p.seat.me.0 c r good p'.seat.me.0

  pub called_by : (c : Call) → NoFile c → MayHear (mine p) c → IsAnswered c
      → Called (rule (basis p)) (comes (basis p)) p.lane (mine p) (mine p') c r good
  called_by c no_file may a =
      called (rule (basis p)) (comes (basis p)) (rules (basis p)).seats p.lane p.seat.me.0
      p'.seat.me.0 c r good no_file (λ h. (law (basis p)).replies h p.lane c)
      (λ h w below here. (law (basis p)).taps_hear h w c below here) is p.idle.3 may a

  pub told_answer : (l : ℕ) (x : Answer) → hearing_of (mine p) ≡ Hears l
      → IsAnswered (call.Answer l x)
      → (e : Past) × IsAnswer l x e × (mine p' ≡ mine p ++ e ∷ []) × (hearing_of (mine p') ≡ Hears l)
  told_answer l x hears a =
      answered (rule (basis p)) (comes (basis p)) p.lane (mine p) (mine p') good l x r
      (called_by (call.Answer l x) (λ s fit. (answer_leads l x s fit).1)
      (answer_may (mine p) l x hears) a) hears

  pub told_end : (l : ℕ) (how : HowEnded) → hearing_of (mine p) ≡ Hears l
      → IsAnswered (call.Ended l how)
      → (mine p' ≡ mine p ++ entry p.lane (call.Ended l how) reply.Noted ∷ [])
      × (hearing_of (mine p') ≡ Free)
  told_end l how hears a =
      ended (rule (basis p)) (comes (basis p)) p.lane (mine p) (mine p') good l how r
      (called_by (call.Ended l how) noted_no_file (end_may (mine p) l how hears) a) hears

  -- so is a call that was paid for, whose reply isn't short
  pub told_halt : hearing_of (mine p) ≢ Over
      → (h : History) × GoesOn p.lane (seen p) h
      × IsReply (rule (basis p)) is_short (λ h lane c. ⊥) h p.lane call.Halt r
      × Grows kept p.lane p.seat.me.0 h (entry p.lane call.Halt r) p'.seat.me.0
      × comes (basis p) h p.lane call.Halt r good
      → mine p' ≡ mine p ++ entry p.lane call.Halt reply.Noted ∷ []
  told_halt goes_on a =
      let reply_is = not_short (rule (basis p)) (comes (basis p)) a.0 p.lane call.Halt r a.2 in
      has_halted (rule (basis p)) (comes (basis p)) p.lane (mine p) (mine p') good r
      (called_by call.Halt noted_no_file (halt_may (mine p) goes_on) (a.0, a.1, reply_is, a.3, a.4))

-- ---- what comes out of a Take

odd : (w : ℕ) → ((2 * w + 1) % 2 == 0) ≡ false
odd w = ne_eqb ((2 * w + 1) % 2) 0 (λ e. omega arith)

module _ {K T P : Type 0} (child : K → ChildTold) (tap : T → TapTold) (place : P → PlaceTold)
    (discipline : Discipline) where
  tap_is : (l : ℕ) (g : Option (Good K T P)) (t : T) → IsTap child tap place discipline l g
      → tap_good g ≡ Some t → IsTapOf tap l t
  tap_is l (Some (good.Tap u)) t is e = subst (IsTapOf tap l) (cc) is
  tap_is l (Some (good.Line k u)) t is e = absurd is
  tap_is l (Some (good.Child k)) t is e = absurd is
  tap_is l (Some (good.Place p)) t is e = absurd is
  tap_is l None t is e = absurd is

  no_tap : (l : ℕ) (g : Option (Good K T P)) → IsTap child tap place discipline l g
      → tap_good g ≡ None → ⊥
  no_tap l (Some (good.Tap u)) is e = cc
  no_tap l (Some (good.Line k u)) is e = is
  no_tap l (Some (good.Child k)) is e = is
  no_tap l (Some (good.Place p)) is e = is
  no_tap l None is e = is

  out_is : (h : History) (lane w l : ℕ) (r : Reply) (g : Option (Good K T P))
      → lane ≡ tap_lane w → r ≡ reply.Line l
      → ComesOut child tap place discipline h lane call.Take r g → IsTap child tap place discipline l g
  out_is h lane w l r g lane_is is out =
      let line : Reply = reply.Line l in
      let at : ComesOut child tap place discipline h (tap_lane w) call.Take line g =
      subst (λ (k : ℕ). ComesOut child tap place discipline h k call.Take line g) lane_is
      (subst (λ (x : Reply). ComesOut child tap place discipline h lane call.Take x g) is out) in
      subst (λ (b : Bool). Comes child tap place discipline h (tap_lane w / 2)
      (cond b (proxy_move call.Take line) (tap_move call.Take line)) g) (odd w) at

  -- with the line that a Take was answered its tap came out
  pub tap_out : (h : History) (lane w l : ℕ) (r : Reply) (g : Option (Good K T P)) (o : Option T)
      (t : T) → lane ≡ tap_lane w → r ≡ reply.Line l
      → ComesOut child tap place discipline h lane call.Take r g → o ≡ tap_good g → o ≡ Some t
      → IsTapOf tap l t
  tap_out h lane w l r g o t lane_is is out e s =
      tap_is l g t (out_is h lane w l r g lane_is is out) (sym e ∙ s)

  pub tap_must : (h : History) (lane w l : ℕ) (r : Reply) (g : Option (Good K T P)) (o : Option T)
      → lane ≡ tap_lane w → r ≡ reply.Line l
      → ComesOut child tap place discipline h lane call.Take r g → o ≡ tap_good g → o ≡ None → ⊥
  tap_must h lane w l r g o lane_is is out e s =
      no_tap l g (out_is h lane w l r g lane_is is out) (sym e ∙ s)
