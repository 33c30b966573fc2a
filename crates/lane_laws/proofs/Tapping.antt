-- Each line that a proxy lane started was taken by its tap lane, or its tap lies on the shelf.
use Rattle.std.proofs.Common.{◌≡◌, ℕ, ◌+◌, ◌*◌, ◌/◌, ◌%◌, ◌==◌, Bool, true, false, cond, List, [], ◌∷◌, ◌++◌, Option, Some, None, refl, ap, sym, subst, ◌∙◌, append_assoc, append-nil, arith, eq-eqb, ne_eqb}
use Rattle.std.proofs.lemmas.Bool.{eqb-true}
use Rattle.std.proofs.Math.Nat.{div-add-mod}
use Rattle.seat_desk.specs.History.{calls_by}
use Rattle.exec_journal.specs.declared.call.Call.{Call}
use Rattle.exec_journal.specs.declared.call.Call.TheVariants as call
use Rattle.exec_journal.specs.declared.call.Found.TheVariants as found
use Rattle.exec_journal.specs.declared.call.Started.TheVariants as start
use Rattle.exec_journal.specs.declared.reply.Reply.{Reply}
use Rattle.exec_journal.specs.declared.reply.Reply.TheVariants as reply
use Rattle.exec_journal.specs.Entries.{is_kept}
use Rattle.core_contract.specs.Ruled.{CameAbout, answer_after}
use Rattle.core_contract.specs.Keeps as laws
use Rattle.core_contract.specs.Discipline.{Discipline}
use Rattle.core_contract.specs.Moves.{Past, History, proxy_move, tap_move, move_of}
use Rattle.core_contract.specs.Laws.{fits, Fits, InScript, tap_lane}
use Rattle.core_contract.specs.Duties.{proxy_lane}
use Rattle.core_contract.specs.Shelf.{child_at, tap_by, tap_at}
use Rattle.proxy_words.specs.Lines.{started_by, started_in, listed}
use Rattle.proxy_words.proofs.Growing.{started_more}
use Rattle.lane_laws.specs.Taps.{taken_by, taken_in, started_at}
use Rattle.lane_laws.proofs.Steps as steps
use Rattle.lane_laws.proofs.Steps.{own_call, other_call, tap_more, proxy_even}

pub taken_more : (own : History) (e : Past)
    → taken_in (own ++ e ∷ []) ≡ taken_in own ++ taken_by e.call e.reply
taken_more [] e = append-nil (taken_by e.call e.reply)
taken_more (x ∷ own) e =
    ap (λ (ls : List ℕ). taken_by x.call x.reply ++ ls) (taken_more own e)
    ∙ sym (append_assoc (taken_by x.call x.reply) (taken_in own) (taken_by e.call e.reply))

-- ---- what a call does to the tap on the shelf

-- it starts a line, and puts its tap there, or does neither
data ByProxy (o : Option ℕ) (c : Call) (r : Reply) : Type 0 where
  Starts : (l : ℕ) → c ≡ call.Launched l start.Done → tap_by o (proxy_move c r) ≡ Some l
      → ByProxy o c r
  Leaves : started_by c ≡ [] → tap_by o (proxy_move c r) ≡ o → ByProxy o c r

by_proxy : (o : Option ℕ) (c : Call) (r : Reply) → fits c r ≡ true → ByProxy o c r
by_proxy o (call.Launched l start.Done) reply.Noted f = Starts l refl refl
by_proxy o (call.Launched l start.Done) _ f = absurd (cc)
by_proxy o (call.Launched l how) r f = Leaves refl refl
by_proxy o call.Ask (reply.Kill l y) f = Leaves refl refl
by_proxy o call.Ask _ f = Leaves refl refl
by_proxy o (call.Claim a b t (found.Files fs)) reply.Granted f = Leaves refl refl
by_proxy o (call.Claim a b t (found.Files fs)) _ f = Leaves refl refl
by_proxy o (call.Claim a b t g) r f = Leaves refl refl
by_proxy o (call.Committed a b how) reply.Noted f = Leaves refl refl
by_proxy o (call.Committed a b how) _ f = Leaves refl refl
by_proxy o call.Halt reply.Noted f = Leaves refl refl
by_proxy o call.Halt _ f = Leaves refl refl
by_proxy o _ r f = Leaves refl refl

-- it is given a line, whose tap it takes, or does neither
data ByTap (o : Option ℕ) (c : Call) (r : Reply) : Type 0 where
  Takes : (l : ℕ) → c ≡ call.Take → r ≡ reply.Line l → taken_by c r ≡ l ∷ []
      → tap_by o (tap_move c r) ≡ None → ByTap o c r
  Keeps : taken_by c r ≡ [] → tap_by o (tap_move c r) ≡ o → ByTap o c r

by_tap : (o : Option ℕ) (c : Call) (r : Reply) → ByTap o c r
by_tap o call.Take (reply.Line l) = Takes l refl refl refl refl
by_tap o call.Take _ = Keeps refl refl
by_tap o _ r = Keeps refl refl

-- ---- the lanes of a berth

abbrev berth_of : ℕ → ℕ
berth_of lane = lane / 2

proxy_half : (w lane : ℕ) → proxy_lane w ≡ lane → (berth_of lane == w) ≡ true
proxy_half w lane is = eq-eqb (lane / 2) w (omega (arith, is))

tap_half : (w lane : ℕ) → tap_lane w ≡ lane → (berth_of lane == w) ≡ true
tap_half w lane is = eq-eqb (lane / 2) w (omega (arith, is))

tap_odd : (w lane : ℕ) → tap_lane w ≡ lane → (lane % 2 == 0) ≡ false
tap_odd w lane is = ne_eqb (lane % 2) 0 (λ e. omega (arith, is, e))

proxy_only : (w lane : ℕ) → proxy_lane w ≡ lane → (tap_lane w == lane) ≡ false
proxy_only w lane is = ne_eqb (tap_lane w) lane (λ e. omega (arith, is, e))

tap_only : (w lane : ℕ) → tap_lane w ≡ lane → (proxy_lane w == lane) ≡ false
tap_only w lane is = ne_eqb (proxy_lane w) lane (λ e. omega (arith, is, e))

pub differs : (a b : ℕ) → (a == b) ≡ false → a ≡ b → ⊥
differs a b apart e = let x : true ≡ false = sym (eq-eqb a b e) ∙ apart in cc

neither : (w lane : ℕ) → (proxy_lane w ≡ lane → ⊥) → (tap_lane w ≡ lane → ⊥)
    → (berth_of lane == w) ≡ false
neither w lane no_proxy no_tap = ne_eqb (lane / 2) w (λ e.
    let whole = div-add-mod lane 2 in
    by_rest (lane % 2) refl e whole)
  where
    by_rest : (n : ℕ) → lane % 2 ≡ n → lane / 2 ≡ w → 2 * (lane / 2) + lane % 2 ≡ lane → ⊥
    by_rest n is half whole = elim (n == 0) as (λ b. (n == 0) ≡ b → ⊥) [
      | true ↦ λ zero. no_proxy (let z : n ≡ 0 = eqb-true n 0 zero in omega (arith, is, half, z))
      | false ↦ λ one. no_tap (let z = differs n 0 one in omega (arith, is, half, z))
    ] refl

module _ (q : Discipline) (law : laws.Keeps q) (w : ℕ) where
  abbrev legal : History → Type 0
  legal = CameAbout q

  abbrev rule : History → ℕ → Call → Reply
  rule = answer_after q

  abbrev Step : History → Past → Type 0
  Step h e = steps.Step q law h e

  abbrev Tapped : History → Type 0
  Tapped h = started_at w h ≡ taken_in (calls_by (tap_lane w) h) ++ listed (tap_at w h)

  module _ (h : History) (e : Past) (s : Step h e) (so : Tapped h) where
    abbrev started : List ℕ
    started = started_at w h

    abbrev taken : List ℕ
    taken = taken_in (calls_by (tap_lane w) h)

    -- from what each part is with the entry
    parts : (new more : List ℕ) (o : Option ℕ) → started_at w (h ++ e ∷ []) ≡ started ++ new
        → taken_in (calls_by (tap_lane w) (h ++ e ∷ [])) ≡ taken ++ more
        → tap_at w (h ++ e ∷ []) ≡ o → started ++ new ≡ (taken ++ more) ++ listed o
        → Tapped (h ++ e ∷ [])
    parts new more o a b c so_then = a ∙ (so_then ∙ (λ i. sym b i ++ listed (sym c i)))

    -- nothing has changed
    same : started ++ [] ≡ (taken ++ []) ++ listed (tap_at w h)
    same = append-nil started
        ∙ (so ∙ ap (λ (ls : List ℕ). ls ++ listed (tap_at w h)) (sym (append-nil taken)))

    module _ (lane : proxy_lane w ≡ e.lane) where
      here : (proxy_lane w == e.lane) ≡ true
      here = eq-eqb (proxy_lane w) e.lane lane

      started_now : started_at w (h ++ e ∷ []) ≡ started ++ started_by e.call
      started_now =
          ap started_in (own_call (proxy_lane w) h e here)
          ∙ started_more (calls_by (proxy_lane w) h) e

      taken_then : taken_in (calls_by (tap_lane w) (h ++ e ∷ [])) ≡ taken ++ []
      taken_then =
          ap taken_in (other_call (tap_lane w) h e (proxy_only w e.lane lane))
          ∙ sym (append-nil taken)

      tap_now : tap_at w (h ++ e ∷ []) ≡ tap_by (tap_at w h) (proxy_move e.call e.reply)
      tap_now =
          tap_more w h e
          ∙ (λ i. cond (proxy_half w e.lane lane i)
          (tap_by (tap_at w h) (cond (proxy_even w e.lane lane i)
          (proxy_move e.call e.reply) (tap_move e.call e.reply))) (tap_at w h))

      by_own : ByProxy (tap_at w h) e.call e.reply → Tapped (h ++ e ∷ [])
      by_own (Starts l is tap) =
          let half : e.lane / 2 ≡ w = eqb-true (e.lane / 2) w (proxy_half w e.lane lane) in
          let none : tap_at w h ≡ None = subst (λ (v : ℕ). tap_at v h ≡ None) half
          (law.lines_find_room h e.lane l s.good
          (subst (λ (c : Call). InScript rule h e.lane c) is s.scripted)).1 in
          let were : started ≡ taken ++ [] =
          so ∙ ap (λ (o : Option ℕ). taken ++ listed o) none in
          parts (l ∷ []) [] (Some l) (started_now ∙ ap (λ (c : Call). started ++ started_by c) is)
          taken_then (tap_now ∙ tap) (ap (λ (ls : List ℕ). ls ++ l ∷ []) were)
      by_own (Leaves none tap) =
          parts [] [] (tap_at w h) (started_now ∙ ap (λ (ls : List ℕ). started ++ ls) none)
          taken_then (tap_now ∙ tap) same

    module _ (lane : tap_lane w ≡ e.lane) where
      own : (tap_lane w == e.lane) ≡ true
      own = eq-eqb (tap_lane w) e.lane lane

      started_then : started_at w (h ++ e ∷ []) ≡ started ++ []
      started_then =
          ap started_in (other_call (proxy_lane w) h e (tap_only w e.lane lane))
          ∙ sym (append-nil started)

      taken_now : taken_in (calls_by (tap_lane w) (h ++ e ∷ []))
          ≡ taken ++ taken_by e.call e.reply
      taken_now =
          ap taken_in (own_call (tap_lane w) h e own)
          ∙ taken_more (calls_by (tap_lane w) h) e

      tap_after : tap_at w (h ++ e ∷ []) ≡ tap_by (tap_at w h) (tap_move e.call e.reply)
      tap_after =
          tap_more w h e
          ∙ (λ i. cond (tap_half w e.lane lane i)
          (tap_by (tap_at w h) (cond (tap_odd w e.lane lane i)
          (proxy_move e.call e.reply) (tap_move e.call e.reply))) (tap_at w h))

      by_partner : ByTap (tap_at w h) e.call e.reply → Tapped (h ++ e ∷ [])
      by_partner (Takes l take line is tap) =
          let half : e.lane / 2 ≡ w = eqb-true (e.lane / 2) w (tap_half w e.lane lane) in
          let there : tap_at w h ≡ Some l = subst (λ (v : ℕ). tap_at v h ≡ Some l) half
          (law.takes_there h e.lane l s.good
          (ap (rule h e.lane) (sym take) ∙ (sym s.ruled ∙ line))) in
          parts [] (l ∷ []) None started_then
          (taken_now ∙ ap (λ (ls : List ℕ). taken ++ ls) is) (tap_after ∙ tap)
          (append-nil started ∙ (so ∙ (ap (λ (o : Option ℕ). taken ++ listed o) there
          ∙ sym (append-nil (taken ++ l ∷ [])))))
      by_partner (Keeps none tap) =
          parts [] [] (tap_at w h) started_then
          (taken_now ∙ ap (λ (ls : List ℕ). taken ++ ls) none) (tap_after ∙ tap) same

    by_others : (proxy_lane w == e.lane) ≡ false → (tap_lane w == e.lane) ≡ false
        → Tapped (h ++ e ∷ [])
    by_others no_proxy no_tap =
        parts [] [] (tap_at w h)
        (ap started_in (other_call (proxy_lane w) h e no_proxy) ∙ sym (append-nil started))
        (ap taken_in (other_call (tap_lane w) h e no_tap) ∙ sym (append-nil taken))
        (tap_more w h e
        ∙ ap (λ (b : Bool). cond b (tap_by (tap_at w h) (move_of e)) (tap_at w h))
        (neither w e.lane (differs (proxy_lane w) e.lane no_proxy)
        (differs (tap_lane w) e.lane no_tap))) same

    by_lane : (p t : Bool) → (proxy_lane w == e.lane) ≡ p → (tap_lane w == e.lane) ≡ t
        → Tapped (h ++ e ∷ [])
    by_lane true t proxy tap =
        by_own (eqb-true (proxy_lane w) e.lane proxy)
        (by_proxy (tap_at w h) e.call e.reply s.fit)
    by_lane false true proxy tap =
        by_partner (eqb-true (tap_lane w) e.lane tap) (by_tap (tap_at w h) e.call e.reply)
    by_lane false false proxy tap = by_others proxy tap

    pub tapped_more : Tapped (h ++ e ∷ [])
    tapped_more = by_lane (proxy_lane w == e.lane) (tap_lane w == e.lane) refl refl

  pub tapped : (h : History) → legal h → Tapped h
  tapped = steps.along q law Tapped refl (λ h e s so. tapped_more h e s so)
