-- A line whose tap lies on the shelf was given to no tap lane.
use Rattle.std.proofs.Common.{◌≡◌, ◌⊎◌, inl, inr, ⊎_elim, ℕ, ◌/◌, ◌%◌, ◌==◌, Bool, true, false, ◌||◌, List, [], ◌∷◌, ◌++◌, Option, Some, refl, ap, sym, subst, ◌∙◌, eq-eqb, arith}
use Rattle.std.proofs.lemmas.Bool.{eqb-true}
use Rattle.std.proofs.lemmas.List.Folds.{list_any-append}
use Rattle.std.proofs.Math.Nat.{div-add-mod}
use Rattle.seat_desk.specs.History.{calls_by}
use Rattle.seat_desk.proofs.Lines.{calls-append}
use Rattle.exec_journal.specs.declared.call.Call.{Call}
use Rattle.exec_journal.specs.declared.call.Call.TheVariants as call
use Rattle.exec_journal.specs.declared.reply.Reply.{Reply}
use Rattle.exec_journal.specs.declared.reply.Reply.TheVariants as reply
use Rattle.exec_journal.specs.Entries.{is_kept, takes}
use Rattle.core_contract.specs.Ruled.{CameAbout, answer_after}
use Rattle.core_contract.specs.Keeps.{Keeps}
use Rattle.core_contract.specs.Discipline.{Discipline}
use Rattle.core_contract.specs.Moves.{Past, History}
use Rattle.core_contract.specs.Laws.{fits, Fits, InScript, tap_lane, is_taken}
use Rattle.core_contract.specs.Duties.{Duty, Commits, Asks, Left, duty_of, proxy_lane, may_make}
use Rattle.core_contract.specs.Shelf.{tap_at}
use Rattle.proxy_words.specs.Lines.{listed}
use Rattle.lane_laws.specs.Numbers.{In, Distinct}
use Rattle.lane_laws.proofs.Ins.{in_front, in_back}
use Rattle.lane_laws.specs.Taps.{taken_by, taken_in, started_at}
use Rattle.lane_laws.specs.Lines.{AreApart}
use Rattle.lane_laws.proofs.Steps as steps
use Rattle.lane_laws.proofs.Steps.{own_call, even_lane}
use Rattle.lane_laws.proofs.Tapping.{taken_more, differs}
use Rattle.lane_laws.proofs.Leaving.{taken_both}

-- ---- which call is answered with a line

only_takes : (c : Call) (l : ℕ) → fits c (reply.Line l) ≡ true → c ≡ call.Take
only_takes call.Take l f = refl
only_takes _ l f = absurd (cc)

line_given : (l : ℕ) (r : Reply) → takes l r ≡ true → r ≡ reply.Line l
line_given l (reply.Line k) t = ap reply.Line (eqb-true k l t)
line_given l _ t = absurd (cc)

odd_lane : (lane : ℕ) → (lane % 2 == 0) ≡ false → tap_lane (lane / 2) ≡ lane
odd_lane lane odd =
    let whole = div-add-mod lane 2 in
    let some : lane % 2 ≡ 0 → ⊥ = differs (lane % 2) 0 odd in omega (arith, whole, some)

one_of : (a b : Bool) → (a || (b || false)) ≡ true → (a ≡ true) ⊎ (b ≡ true)
one_of true b e = inl refl
one_of false true e = inr refl
one_of false false e = absurd (cc)

is_false : (b : Bool) → (b ≡ true → ⊥) → b ≡ false
is_false true not_so = absurd (not_so refl)
is_false false not_so = refl

last_is_new : (xs : List ℕ) (l : ℕ) → Distinct (xs ++ l ∷ []) → In l xs → ⊥
last_is_new [] l d here = here
last_is_new (x ∷ xs) l d (inl e) =
    d.0 (subst (λ (n : ℕ). In n (xs ++ l ∷ [])) e (in_back l xs (l ∷ []) (inl refl)))
last_is_new (x ∷ xs) l d (inr here) = last_is_new xs l d.1 here

-- the lines that the tap lane of this berth was given
abbrev taken_at : ℕ → History → List ℕ
taken_at w h = taken_in (calls_by (tap_lane w) h)

-- a line that was given was given to the tap lane of some berth
abbrev GivenToBerths : History → Type 0
GivenToBerths h = (l : ℕ) → is_taken l h ≡ true → (w : ℕ) × In l (taken_at w h)

module _ (q : Discipline) (law : Keeps q) where
  abbrev legal : History → Type 0
  legal = CameAbout q

  abbrev rule : History → ℕ → Call → Reply
  rule = answer_after q

  no_proxy_takes : (w : ℕ) (s : Duty) → may_make q w s call.Take ≡ true → ⊥
  no_proxy_takes w (Commits a b fs) may = absurd (cc)
  no_proxy_takes w Left may = absurd (cc)
  no_proxy_takes w Asks may = absurd (cc)
  no_proxy_takes w _ may = absurd (cc)

  module _ (h : History) (e : Past) (s : steps.Step q law h e) where
    -- the entry gives the line
    module _ (l : ℕ) (line : e.reply ≡ reply.Line l) where
      take : e.call ≡ call.Take
      take = only_takes e.call l (subst (λ (r : Reply). fits e.call r ≡ true) line s.fit)

      by_rest : (even : Bool) → (e.lane % 2 == 0) ≡ even → tap_lane (e.lane / 2) ≡ e.lane
      by_rest false odd = odd_lane e.lane odd
      by_rest true even = absurd (
          let may = law.proxies_do_only h (e.lane / 2) e.call
          (subst (λ (n : ℕ). InScript rule h n e.call) (sym (even_lane e.lane even)) s.scripted) in
          let duty = duty_of (calls_by (proxy_lane (e.lane / 2)) h) in
          no_proxy_takes (e.lane / 2) duty
          (subst (λ (c : Call). may_make q (e.lane / 2) duty c ≡ true)
          take may))

      by_tap_lane : tap_lane (e.lane / 2) ≡ e.lane
      by_tap_lane = by_rest (e.lane % 2 == 0) refl

      given_now : In l (taken_at (e.lane / 2) (h ++ e ∷ []))
      given_now =
          let lane = tap_lane (e.lane / 2) in
          let all : taken_at (e.lane / 2) (h ++ e ∷ []) ≡ taken_at (e.lane / 2) h ++ l ∷ [] =
          ap taken_in (own_call lane h e (eq-eqb lane e.lane by_tap_lane))
          ∙ (taken_more (calls_by lane h) e
          ∙ (λ i. taken_at (e.lane / 2) h ++ taken_by (take i) (line i))) in
          subst (λ (ls : List ℕ). In l ls) (sym all)
          (in_back l (taken_at (e.lane / 2) h) (l ∷ []) (inl refl))

    given_before : (l w : ℕ) → In l (taken_at w h) → In l (taken_at w (h ++ e ∷ []))
    given_before l w here =
        let more = taken_at w (e ∷ []) in
        let all : taken_at w (h ++ e ∷ []) ≡ taken_at w h ++ more =
        ap taken_in (calls-append (tap_lane w) h (e ∷ []))
        ∙ taken_both (calls_by (tap_lane w) h) (calls_by (tap_lane w) (e ∷ [])) in
        subst (λ (ls : List ℕ). In l ls) (sym all) (in_front l (taken_at w h) more here)

    given_more : GivenToBerths h → GivenToBerths (h ++ e ∷ [])
    given_more so l taken = ⊎_elim
        (λ old. let at = so l old in (at.0, given_before l at.0 at.1))
        (λ new. (e.lane / 2, given_now l (line_given l e.reply new)))
        (one_of (is_taken l h) (takes l e.reply)
        (sym (list_any-append (λ (x : Past). takes l x.reply) h (e ∷ [])) ∙ taken))

  given_to_berths : (h : History) → legal h → GivenToBerths h
  given_to_berths = steps.along q law GivenToBerths
      (λ l taken. absurd (cc)) (λ h e s so. given_more h e s so)

  -- what was given was started, and so was the line on the shelf, after it: but no line was twice
  pub untaken : (seats : ℕ) (h : History) → legal h → AreApart seats h
      → ((w : ℕ) → started_at w h ≡ taken_at w h ++ listed (tap_at w h))
      → (w l : ℕ) → tap_at w h ≡ Some l → is_taken l h ≡ false
  untaken seats h good apart tapped w l there = is_false (is_taken l h) (λ taken.
      let at = given_to_berths h good l taken in
      let last : started_at w h ≡ taken_at w h ++ l ∷ [] =
      tapped w ∙ ap (λ (o : Option ℕ). taken_at w h ++ listed o) there in
      let mine : In l (started_at w h) = subst (λ (ls : List ℕ). In l ls) (sym last)
      (in_back l (taken_at w h) (l ∷ []) (inl refl)) in
      let theirs : In l (started_at at.0 h) =
      subst (λ (ls : List ℕ). In l ls) (sym (tapped at.0))
      (in_front l (taken_at at.0 h) (listed (tap_at at.0 h)) at.1) in
      let same : at.0 ≡ w = apart.apart at.0 w l theirs mine in
      last_is_new (taken_at w h) l (subst Distinct last (apart.once w))
      (subst (λ (v : ℕ). In l (taken_at v h)) same at.1))
