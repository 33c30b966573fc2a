-- A place that is away is owed by a proxy lane, or its lane halted before it made the Committed.
use Rattle.std.proofs.Common.{◌≡◌, ◌⊎◌, inl, inr, ⊎_elim, ℕ, ◌/◌, ◌%◌, ◌==◌, ◌<◌, Bool, true, false, cond, ◌&&◌, ◌||◌, List, [], ◌∷◌, ◌++◌, refl, ap, sym, subst, ◌∙◌, eq-eqb}
use Rattle.std.specs.List.{fold}
use Rattle.std.proofs.lemmas.Bool.{eqb-true, and_parts}
use Rattle.seat_desk.specs.History.{calls_by}
use Rattle.run_plan.specs.declared.plan.Branch.{Branch}
use Rattle.exec_journal.specs.declared.call.Call.{Call}
use Rattle.exec_journal.specs.declared.call.Call.TheVariants as call
use Rattle.exec_journal.specs.declared.call.CommitEnd.{CommitEnd}
use Rattle.exec_journal.specs.declared.call.Found.{Found}
use Rattle.exec_journal.specs.declared.call.Found.TheVariants as found
use Rattle.exec_journal.specs.declared.call.Started.TheVariants as start
use Rattle.exec_journal.specs.declared.reply.Reply.{Reply}
use Rattle.exec_journal.specs.declared.reply.Reply.TheVariants as reply
use Rattle.exec_journal.specs.Entries.{is_kept, is_halt, same_branch}
use Rattle.core_contract.specs.Ruled.{CameAbout, answer_after}
use Rattle.core_contract.specs.Keeps.{Keeps}
use Rattle.core_contract.specs.Discipline.{Discipline}
use Rattle.core_contract.specs.Moves.{Past, History, Move, PutLine, TakeTap, TakeChild, GiveUp, TakePlace, PutPlace, Nothing, claim_moves, noted_moves, proxy_move, tap_move, move_of}
use Rattle.core_contract.specs.Laws.{fits, Fits, InScript}
use Rattle.core_contract.specs.Duties.{Duty, Asks, Commits, Left, duty_by, duty_then, duty_of, proxy_lane, may_make}
use Rattle.core_contract.specs.Shelf.{Spot, Fresh, Away, Back, place_by, place_at}
use Rattle.tap_lane.proofs.Replies.{is_noted}
use Rattle.lane_laws.specs.Places.{owes_commit, halts_owing_from, halts_owing, IsGone}
use Rattle.lane_laws.proofs.Steps as steps
use Rattle.lane_laws.proofs.Steps.{own_call, other_call, duty_more, place_more, even_lane}

or_none : (b : Bool) → (b || false) ≡ b
or_none true = refl
or_none false = refl

or_true : (b : Bool) → (b || true) ≡ true
or_true true = refl
or_true false = refl

or_assoc : (a b c : Bool) → (a || (b || c)) ≡ ((a || b) || c)
or_assoc true b c = refl
or_assoc false b c = refl

-- ---- what makes a place be away

data After (a : ℕ) (files : List (List ℕ)) (s : Spot) (m : Move) : Type 0 where
  Took : m ≡ TakePlace a files → After a files s m
  Stayed : s ≡ Away files → ((how : CommitEnd) → m ≡ PutPlace a how → ⊥) → After a files s m

take_after : (a : ℕ) (files : List (List ℕ)) (s : Spot) (b : ℕ) (gs : List (List ℕ)) (same : Bool)
    → (b == a) ≡ same → cond same (Away gs) s ≡ Away files → After a files s (TakePlace b gs)
take_after a files s b gs true is e =
    let given : gs ≡ files = cc in Took (λ i. TakePlace (eqb-true b a is i) (given i))
take_after a files s b gs false is e = Stayed e (λ how p. cc)

put_after : (a : ℕ) (files gs : List (List ℕ)) (s : Spot) (b : ℕ) (how : CommitEnd) (same : Bool)
    → (b == a) ≡ same → cond same (Back gs how) s ≡ Away files
    → After a files s (PutPlace b how)
put_after a files gs s b how true is e = absurd (cc)
put_after a files gs s b how false is e = Stayed e (λ end p.
    let at : b ≡ a = cc in let x : true ≡ false = sym (eq-eqb b a at) ∙ is in cc)

away_after : (a : ℕ) (files : List (List ℕ)) (s : Spot) (m : Move)
    → place_by a s m ≡ Away files → After a files s m
away_after a files s (TakePlace b gs) e = take_after a files s b gs (b == a) refl e
away_after a files s (PutPlace b how) e = put_after a files _ s b how (b == a) refl e
away_after a files s (PutLine l) e = Stayed e (λ how p. cc)
away_after a files s (TakeTap l) e = Stayed e (λ how p. cc)
away_after a files s (TakeChild l) e = Stayed e (λ how p. cc)
away_after a files s GiveUp e = Stayed e (λ how p. cc)
away_after a files s Nothing e = Stayed e (λ how p. cc)

-- ---- which entry takes a place

-- it is a Claim that was granted these files
abbrev IsGrant : ℕ → List (List ℕ) → Call → Reply → Type 0
IsGrant a files c r =
    (b : Branch) × (t : ℕ) × (c ≡ call.Claim a b t (found.Files files)) × (r ≡ reply.Granted)

claim_took : (d : ℕ) (b : Branch) (t : ℕ) (f : Found) (r : Reply) (a : ℕ)
    (files : List (List ℕ)) → claim_moves d f r ≡ TakePlace a files
    → IsGrant a files (call.Claim d b t f) r
claim_took d b t (found.Files gs) reply.Granted a files e =
    let at : d ≡ a = cc in
    let given : gs ≡ files = cc in
    (b, t, (λ i. call.Claim (at i) b t (found.Files (given i))), refl)
claim_took d b t (found.Files gs) _ a files e = absurd (cc)
claim_took d b t _ r a files e = absurd (cc)

noted_took : (m : Move) (r : Reply) (a : ℕ) (files : List (List ℕ))
    → (m ≡ TakePlace a files → ⊥) → noted_moves m r ≡ TakePlace a files → ⊥
noted_took m reply.Noted a files other e = other e
noted_took m _ a files other e = cc

ask_took : (r : Reply) (a : ℕ) (files : List (List ℕ))
    → proxy_move call.Ask r ≡ TakePlace a files → ⊥
ask_took (reply.Kill l y) a files e = cc
ask_took _ a files e = cc

proxy_took : (c : Call) (r : Reply) (a : ℕ) (files : List (List ℕ))
    → proxy_move c r ≡ TakePlace a files → IsGrant a files c r
proxy_took (call.Claim d b t f) r a files e = claim_took d b t f r a files e
proxy_took call.Ask r a files e = absurd (ask_took r a files e)
proxy_took (call.Launched l start.Done) r a files e =
    absurd (noted_took (PutLine l) r a files (λ p. cc) e)
proxy_took (call.Committed d b how) r a files e =
    absurd (noted_took (PutPlace d how) r a files (λ p. cc) e)
proxy_took call.Halt r a files e = absurd (noted_took GiveUp r a files (λ p. cc) e)
proxy_took _ r a files e = absurd (cc)

tap_took : (c : Call) (r : Reply) (a : ℕ) (files : List (List ℕ))
    → tap_move c r ≡ TakePlace a files → ⊥
tap_took call.Take (reply.Line l) a files e = cc
tap_took call.Take _ a files e = cc
tap_took _ r a files e = cc

took_by : (lane : ℕ) (even : Bool) (c : Call) (r : Reply) (a : ℕ) (files : List (List ℕ))
    → (lane % 2 == 0) ≡ even → cond even (proxy_move c r) (tap_move c r) ≡ TakePlace a files
    → ((lane % 2 == 0) ≡ true) × IsGrant a files c r
took_by lane true c r a files is e = (is, proxy_took c r a files e)
took_by lane false c r a files is e = absurd (tap_took c r a files e)

-- ---- Halts while a Committed is owed

halts_more_from : (s : Duty) (own : History) (e : Past) → halts_owing_from s (own ++ e ∷ [])
    ≡ (halts_owing_from s own || (is_halt e.call && owes_commit (fold duty_then s own)))
halts_more_from s [] e = or_none (is_halt e.call && owes_commit s)
halts_more_from s (x ∷ own) e =
    ap (λ (b : Bool). (is_halt x.call && owes_commit s) || b)
    (halts_more_from (duty_then s x) own e)
    ∙ or_assoc (is_halt x.call && owes_commit s) (halts_owing_from (duty_then s x) own)
    (is_halt e.call && owes_commit (fold duty_then (duty_then s x) own))

pub halts_more : (own : History) (e : Past) → halts_owing (own ++ e ∷ [])
    ≡ (halts_owing own || (is_halt e.call && owes_commit (duty_of own)))
halts_more own e = halts_more_from Asks own e

-- ---- a lane with a place

-- it owes the Committed of this action, or halted while it owed one
abbrev Holds : ℕ → List (List ℕ) → History → Type 0
Holds a files own =
    ((b : Branch) × (duty_of own ≡ Commits a b files)) ⊎ (halts_owing own ≡ true)

-- a lane that is gone has none
gone_holds_none : (a : ℕ) (files : List (List ℕ)) (own : History) → IsGone own
    → Holds a files own → ⊥
gone_holds_none a files own (inl none) (inl owes) =
    let y : Asks ≡ Commits a owes.0 files = sym (ap duty_of none) ∙ owes.1 in cc
gone_holds_none a files own (inl none) (inr halted) =
    let y : true ≡ false = sym halted ∙ ap halts_owing none in cc
gone_holds_none a files own (inr gone) (inl owes) =
    let y : Left ≡ Commits a owes.0 files = sym gone.left ∙ owes.1 in cc
gone_holds_none a files own (inr gone) (inr halted) =
    let y : true ≡ false = sym halted ∙ gone.paid in cc

module _ (q : Discipline) (law : Keeps q) where
  abbrev legal : History → Type 0
  legal = CameAbout q

  abbrev rule : History → ℕ → Call → Reply
  rule = answer_after q

  abbrev Step : History → Past → Type 0
  Step h e = steps.Step q law h e

  -- what is granted files is owed from then on
  grants : (w : ℕ) (s : Duty) (a : ℕ) (b : Branch) (t : ℕ) (files : List (List ℕ))
      → may_make q w s (call.Claim a b t (found.Files files)) ≡ true
      → duty_by s (call.Claim a b t (found.Files files)) reply.Granted ≡ Commits a b files
  grants w Left a b t files may = absurd (cc)
  grants w s a b t files may = refl

  commits_only : (w a : ℕ) (b : Branch) (files : List (List ℕ)) (c : Call)
      → may_make q w (Commits a b files) c ≡ true
      → (c ≡ call.Halt) ⊎ ((d : Branch) × (how : CommitEnd) × (c ≡ call.Committed a d how))
  commits_only w a b files call.Halt may = inl refl
  commits_only w a b files (call.Committed x d how) may =
      let both : ((a == x) && same_branch b d) ≡ true =
      sym (or_none ((a == x) && same_branch b d)) ∙ may in
      let at : a ≡ x = eqb-true a x (and_parts (a == x) _ both).0 in
      inr (d, how, λ i. call.Committed (sym at i) d how)
  commits_only w a b files _ may = absurd (cc)

  abbrev Holder : ℕ → List (List ℕ) → History → Type 0
  Holder a files h = (w : ℕ) × (w < q.seats) × Holds a files (calls_by (proxy_lane w) h)

  abbrev AllHeld : History → Type 0
  AllHeld h = (a : ℕ) (files : List (List ℕ)) → place_at a h ≡ Away files → Holder a files h

  module _ (h : History) (e : Past) (s : Step h e) (a : ℕ) (files : List (List ℕ)) where
    taken : move_of e ≡ TakePlace a files → Holder a files (h ++ e ∷ [])
    taken m =
        let t = took_by e.lane (e.lane % 2 == 0) e.call e.reply a files refl m in
        let w : ℕ = e.lane / 2 in
        let lane : proxy_lane w ≡ e.lane = even_lane e.lane t.0 in
        let b : Branch = t.1.0 in
        let own : History = calls_by (proxy_lane w) h in
        let may = law.proxies_do_only h w e.call
        (subst (λ (n : ℕ). InScript rule h n e.call) (sym lane) s.scripted) in
        let claim = subst (λ (c : Call).
        may_make q w (duty_of own) c ≡ true) t.1.2 may in
        let owes : duty_of (calls_by (proxy_lane w) (h ++ e ∷ [])) ≡ Commits a b files =
        ap duty_of (own_call (proxy_lane w) h e (eq-eqb (proxy_lane w) e.lane lane))
        ∙ (duty_more own e ∙ ((λ i. duty_by (duty_of own) (t.1.2 i) (t.1.3 i))
        ∙ grants w (duty_of own) a b t.1.1 files claim)) in
        (w, law.lanes_are_known h e.lane e.call s.scripted, inl (b, owes))

    -- by the lane that has the place
    module _ (w : ℕ) (lane : (proxy_lane w == e.lane) ≡ true)
        (not_put : (how : CommitEnd) → move_of e ≡ PutPlace a how → ⊥) where
      abbrev own : History
      own = calls_by (proxy_lane w) h

      goes_on : halts_owing own ≡ true → halts_owing (own ++ e ∷ []) ≡ true
      goes_on halted =
          halts_more own e
          ∙ ap (λ (b : Bool). b || (is_halt e.call && owes_commit (duty_of own))) halted

      halts_now : (b : Branch) → duty_of own ≡ Commits a b files → e.call ≡ call.Halt
          → halts_owing (own ++ e ∷ []) ≡ true
      halts_now b owes halt =
          halts_more own e
          ∙ ((λ i. halts_owing own || (is_halt (halt i) && owes_commit (owes i)))
          ∙ or_true (halts_owing own))

      puts : (d : Branch) (how : CommitEnd) → e.call ≡ call.Committed a d how
          → move_of e ≡ PutPlace a how
      puts d how is =
          let noted : e.reply ≡ reply.Noted =
          is_noted e.reply (ap (λ (c : Call). fits c e.reply) (sym is) ∙ s.fit) in
          let at : proxy_lane w ≡ e.lane = eqb-true (proxy_lane w) e.lane lane in
          (λ i. cond (even i) (proxy_move (is i) (noted i)) (tap_move (is i) (noted i)))
        where
          even : (e.lane % 2 == 0) ≡ true
          even = steps.proxy_even w e.lane (eqb-true (proxy_lane w) e.lane lane)

      still : Holds a files own → Holds a files (own ++ e ∷ [])
      still (inr halted) = inr (goes_on halted)
      still (inl owes) =
          let may = law.proxies_do_only h w e.call
          (subst (λ (n : ℕ). InScript rule h n e.call)
          (sym (eqb-true (proxy_lane w) e.lane lane)) s.scripted) in
          ⊎_elim
          (λ halt. inr (halts_now owes.0 owes.1 halt))
          (λ put. absurd (not_put put.1 (puts put.0 put.1 put.2)))
          (commits_only w a owes.0 files e.call
          (subst (λ (x : Duty). may_make q w x e.call ≡ true) owes.1 may))

    stayed_by : (w : ℕ) (mine : Bool) → (proxy_lane w == e.lane) ≡ mine
        → ((how : CommitEnd) → move_of e ≡ PutPlace a how → ⊥)
        → Holds a files (calls_by (proxy_lane w) h)
        → Holds a files (calls_by (proxy_lane w) (h ++ e ∷ []))
    stayed_by w true lane not_put holds =
        subst (Holds a files) (sym (own_call (proxy_lane w) h e lane)) (still w lane not_put holds)
    stayed_by w false lane not_put holds =
        subst (Holds a files) (sym (other_call (proxy_lane w) h e lane)) holds

    stays_held : AllHeld h → After a files (place_at a h) (move_of e)
        → Holder a files (h ++ e ∷ [])
    stays_held held (Took m) = taken m
    stays_held held (Stayed was not_put) =
        let x = held a files was in
        (x.0, x.1, stayed_by x.0 (proxy_lane x.0 == e.lane) refl not_put x.2)

  all_held : (h : History) → legal h → AllHeld h
  all_held = steps.along q law AllHeld
      (λ a files e. absurd (let x : Fresh ≡ Away files = e in cc))
      (λ h e s held a files away. stays_held h e s a files held
      (away_after a files (place_at a h) (move_of e) (sym (place_more a h e) ∙ away)))

  pub places_back : (h : History) → legal h
      → ((w : ℕ) → w < q.seats → IsGone (calls_by (proxy_lane w) h))
      → (a : ℕ) (files : List (List ℕ)) → place_at a h ≡ Away files → ⊥
  places_back h good left a files away =
      let x = all_held h good a files away in
      gone_holds_none a files (calls_by (proxy_lane x.0) h) (left x.0 x.1) x.2
