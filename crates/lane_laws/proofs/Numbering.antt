-- Lines that were started are numbered and apart.
use Rattle.std.proofs.Common.{◌≡◌, ◌⊎◌, inl, inr, ⊎_elim, ℕ, zero, suc, ◌+◌, ◌==◌, ◌<◌, ◌≤◌, Bool, true, false, cond, ◌||◌, List, [], ◌∷◌, ◌++◌, length, is_some, refl, ap, sym, subst, ◌∙◌, append_assoc, append-nil, arith, All}
use Rattle.std.specs.List.{filter}
use Rattle.std.proofs.lemmas.Bool.{eqb-true}
use Rattle.std.proofs.lemmas.List.Elements.{All-nil, All-cons, filter-append}
use Rattle.std.proofs.lemmas.List.{length-append}
use Rattle.seat_desk.specs.History.{calls_by}
use Rattle.run_plan.specs.declared.plan.Branch.{Branch}
use Rattle.exec_journal.specs.declared.call.Call.{Call}
use Rattle.exec_journal.specs.declared.call.Call.TheVariants as call
use Rattle.exec_journal.specs.declared.call.Found.TheVariants as found
use Rattle.exec_journal.specs.declared.call.Started.TheVariants as start
use Rattle.exec_journal.specs.declared.reply.Reply.{Reply}
use Rattle.exec_journal.specs.declared.reply.Reply.TheVariants as reply
use Rattle.exec_journal.specs.Entries.{is_kept, launch_in}
use Rattle.core_contract.specs.Ruled.{CameAbout, answer_after}
use Rattle.core_contract.specs.Keeps.{Keeps}
use Rattle.core_contract.specs.Discipline.{Discipline}
use Rattle.core_contract.specs.Moves.{Past, History}
use Rattle.core_contract.specs.Laws.{fits, Fits, InScript, OrderHolds, lines_in}
use Rattle.core_contract.specs.Duties.{Duty, Asks, Launches, Sends, Cancels, Gathers, Commits, Kills, Left, duty_from, duty_by, duty_of, proxy_lane, may_make}
use Rattle.core_contract.specs.Shelf.{child_at}
use Rattle.proxy_words.specs.Lines.{started_by, started_in}
use Rattle.proxy_words.proofs.Growing.{started_more}
use Rattle.lane_laws.specs.Numbers.{In, Distinct}
use Rattle.lane_laws.specs.Numbers.{concat}
use Rattle.lane_laws.proofs.Ins.{in_front, in_either}
use Rattle.lane_laws.specs.Taps.{started_at}
use Rattle.lane_laws.specs.Lines.{started_from, AreApart}
use Rattle.lane_laws.proofs.Steps as steps
use Rattle.lane_laws.proofs.Steps.{own_call, other_call, duty_more}
use Rattle.std.specs.Prelude.{◌/◌}

-- ---- lists of numbers

distinct_front : (xs ys : List ℕ) → Distinct (xs ++ ys) → Distinct xs
distinct_front [] ys d = tt
distinct_front (x ∷ xs) ys d =
    ((λ h. d.0 (in_front x xs ys h)), distinct_front xs ys d.1)

distinct_both : (xs ys : List ℕ) → Distinct xs → Distinct ys
    → ((n : ℕ) → In n xs → In n ys → ⊥) → Distinct (xs ++ ys)
distinct_both [] ys d e apart = e
distinct_both (x ∷ xs) ys d e apart = (
  (λ h. ⊎_elim (λ a. d.0 a) (λ b. apart x (inl refl) b) (in_either x xs ys h)),
  distinct_both xs ys d.1 e (λ n a b. apart n (inr a) b),
)

in_one : (n m : ℕ) → In n (m ∷ []) → n ≡ m
in_one n m (inl e) = e
in_one n m (inr h) = absurd h

-- ---- the line that a lane is ordered to launch

abbrev launching : Duty → List ℕ
launching (Launches l t) = l ∷ []
launching Asks = []
launching (Sends l n t) = []
launching (Cancels l n) = []
launching (Gathers l n t exit refused) = []
launching (Commits a b fs) = []
launching (Kills l) = []
launching Left = []

-- with those that it started
abbrev begun : History → List ℕ
begun own = started_in own ++ launching (duty_of own)

-- ---- what a call makes of it

-- it is neither an Ask nor a Launched
abbrev is_plain : Call → Bool
is_plain call.Ask = false
is_plain (call.Launched l how) = false
is_plain _ = true

plain_starts_none : (c : Call) → is_plain c ≡ true → started_by c ≡ []
plain_starts_none call.Ask p = absurd (cc)
plain_starts_none (call.Launched l how) p = absurd (cc)
plain_starts_none _ p = refl

plain_orders_none : (s : Duty) (c : Call) (r : Reply) → launching s ≡ [] → is_plain c ≡ true
    → fits c r ≡ true → launching (duty_from s c r) ≡ []
plain_orders_none s (call.Look w) (reply.File b) n p f = n
plain_orders_none s (call.Look w) reply.NoFile n p f = n
plain_orders_none s (call.Look w) _ n p f = absurd (cc)
plain_orders_none s (call.Claim a b t (found.Files fs)) reply.Granted n p f = refl
plain_orders_none s (call.Claim a b t (found.Files fs)) reply.Lost n p f = refl
plain_orders_none s (call.Claim a b t (found.Files fs)) reply.AgainLater n p f = refl
plain_orders_none s (call.Claim a b t (found.Files fs)) reply.Dropped n p f = refl
plain_orders_none s (call.Claim a b t (found.Files fs)) _ n p f = absurd (cc)
plain_orders_none s (call.Claim a b t g) reply.Granted n p f = refl
plain_orders_none s (call.Claim a b t g) reply.Lost n p f = refl
plain_orders_none s (call.Claim a b t g) reply.AgainLater n p f = refl
plain_orders_none s (call.Claim a b t g) reply.Dropped n p f = refl
plain_orders_none s (call.Claim a b t g) _ n p f = absurd (cc)
plain_orders_none s call.Take (reply.Line l) n p f = refl
plain_orders_none s call.Take reply.Stop n p f = refl
plain_orders_none s call.Take reply.Idle n p f = refl
plain_orders_none s call.Take _ n p f = absurd (cc)
plain_orders_none s (call.Answer l x) (reply.Matched a b t) n p f = refl
plain_orders_none s (call.Answer l x) (reply.Late a b t) n p f = refl
plain_orders_none s (call.Answer l x) reply.Greeted n p f = refl
plain_orders_none s (call.Answer l x) (reply.Stray y) n p f = refl
plain_orders_none s (call.Answer l x) (reply.Breach y) n p f = refl
plain_orders_none s (call.Answer l x) _ n p f = absurd (cc)
plain_orders_none s (call.Wrote l m how) reply.Noted n p f = refl
plain_orders_none s (call.Wrote l m how) _ n p f = absurd (cc)
plain_orders_none s (call.Committed a b how) reply.Noted n p f = refl
plain_orders_none s (call.Committed a b how) _ n p f = absurd (cc)
plain_orders_none s (call.Killed l) reply.Noted n p f = refl
plain_orders_none s (call.Killed l) _ n p f = absurd (cc)
plain_orders_none s (call.Ended l how) reply.Noted n p f = refl
plain_orders_none s (call.Ended l how) _ n p f = absurd (cc)
plain_orders_none s call.Tick reply.Noted n p f = refl
plain_orders_none s call.Tick reply.Stop n p f = refl
plain_orders_none s call.Tick reply.Idle n p f = refl
plain_orders_none s call.Tick _ n p f = absurd (cc)
plain_orders_none s call.Halt reply.Noted n p f = refl
plain_orders_none s call.Halt _ n p f = absurd (cc)
plain_orders_none s call.Ask r n p f = absurd (cc)
plain_orders_none s (call.Launched l how) r n p f = absurd (cc)

-- the lines begun after a call, beside those started before
abbrev left_over : Duty → Call → Reply → List ℕ
left_over s c r = started_by c ++ launching (duty_by s c r)

-- it begins no line, or is ordered to launch one
data Course (s : Duty) (c : Call) (r : Reply) : Type 0 where
  Drops : (x : List ℕ) → launching s ≡ left_over s c r ++ x → Course s c r
  Orders : (l a : ℕ) (b : Branch) (t : ℕ) → launching s ≡ [] → c ≡ call.Ask
      → r ≡ reply.Launch l a b t → left_over s c r ≡ l ∷ [] → Course s c r

plain_course : (s : Duty) (c : Call) (r : Reply) → launching s ≡ []
    → duty_by s c r ≡ duty_from s c r → is_plain c ≡ true → fits c r ≡ true → Course s c r
plain_course s c r none by p f =
    let all : left_over s c r ≡ [] =
    (λ i. plain_starts_none c p i ++ launching (by i))
    ∙ plain_orders_none s c r none p f in
    Drops [] (none ∙ sym (append-nil (left_over s c r) ∙ all))

-- ---- by the laws of a core for one plan

module _ (q : Discipline) (law : Keeps q) where
  abbrev legal : History → Type 0
  legal = CameAbout q

  abbrev rule : History → ℕ → Call → Reply
  rule = answer_after q

  abbrev Step : History → Past → Type 0
  Step h e = steps.Step q law h e

  module _ (w : ℕ) where
    abbrev May : Duty → Call → Type 0
    May s c = may_make q w s c ≡ true

    course : (s : Duty) (c : Call) (r : Reply) → May s c → fits c r ≡ true → Course s c r
    course Asks call.Ask (reply.Launch l a b t) may f = Orders l a b t refl refl refl refl
    course Asks call.Ask _ may f = Drops [] refl
    course Asks call.Halt r may f = plain_course Asks call.Halt r refl refl refl f
    course Asks call.Tick r may f = plain_course Asks call.Tick r refl refl refl f
    course Asks _ r may f = absurd (cc)
    course (Launches m t) (call.Launched l start.Done) reply.Noted may f =
        Drops [] (ap (λ (n : ℕ). n ∷ []) (launched m l may))
      where
        launched : (m l : ℕ) → ((m == l) || false) ≡ true → m ≡ l
        launched m l is = eqb-true m l (by (m == l) is)
          where
            by : (b : Bool) → (b || false) ≡ true → b ≡ true
            by true e = refl
            by false e = absurd (cc)
    course (Launches m t) (call.Launched l start.Done) _ may f = absurd (cc)
    course (Launches m t) (call.Launched l how) reply.Noted may f = Drops (m ∷ []) refl
    course (Launches m t) (call.Launched l how) _ may f = absurd (cc)
    course (Launches m t) call.Halt reply.Noted may f = Drops (m ∷ []) refl
    course (Launches m t) call.Halt _ may f = absurd (cc)
    course (Launches m t) _ r may f = absurd (cc)
    course Left (call.Committed a b how) r may f = Drops [] refl
    course Left _ r may f = absurd (cc)
    course (Sends l n t) c r may f =
        plain_course (Sends l n t) c r refl refl (sends_plain c may) f
      where
        sends_plain : (c : Call) → May (Sends l n t) c → is_plain c ≡ true
        sends_plain call.Ask m = absurd (cc)
        sends_plain (call.Launched k how) m = absurd (cc)
        sends_plain _ m = refl
    course (Cancels l n) c r may f =
        plain_course (Cancels l n) c r refl refl (cancels_plain c may) f
      where
        cancels_plain : (c : Call) → May (Cancels l n) c → is_plain c ≡ true
        cancels_plain call.Ask m = absurd (cc)
        cancels_plain (call.Launched k how) m = absurd (cc)
        cancels_plain _ m = refl
    course (Gathers l n t exit refused) c r may f =
        plain_course (Gathers l n t exit refused) c r refl refl (gathers_plain c may) f
      where
        gathers_plain : (c : Call) → May (Gathers l n t exit refused) c → is_plain c ≡ true
        gathers_plain call.Ask m = absurd (cc)
        gathers_plain (call.Launched k how) m = absurd (cc)
        gathers_plain _ m = refl
    course (Commits a b fs) c r may f =
        plain_course (Commits a b fs) c r refl refl (commits_plain c may) f
      where
        commits_plain : (c : Call) → May (Commits a b fs) c → is_plain c ≡ true
        commits_plain call.Ask m = absurd (cc)
        commits_plain (call.Launched k how) m = absurd (cc)
        commits_plain _ m = refl
    course (Kills l) c r may f = plain_course (Kills l) c r refl refl (kills_plain c may) f
      where
        kills_plain : (c : Call) → May (Kills l) c → is_plain c ≡ true
        kills_plain call.Ask m = absurd (cc)
        kills_plain (call.Launched k how) m = absurd (cc)
        kills_plain _ m = refl

  -- ---- one entry more

  abbrev begun_at : ℕ → History → List ℕ
  begun_at w h = begun (calls_by (proxy_lane w) h)

  -- the berth begins no line with it, or the next one
  data Turn (h : History) (e : Past) (w : ℕ) : Type 0 where
    Fewer : (x : List ℕ) → begun_at w h ≡ begun_at w (h ++ e ∷ []) ++ x → Turn h e w
    OneMore : begun_at w (h ++ e ∷ []) ≡ begun_at w h ++ lines_in h ∷ []
        → lines_in (h ++ e ∷ []) ≡ lines_in h + 1 → proxy_lane w ≡ e.lane → Turn h e w

  lines_split : (h : History) (e : Past) → lines_in (h ++ e ∷ [])
      ≡ lines_in h + length (cond (is_some (launch_in e.reply)) (e ∷ []) [])
  lines_split h e =
      ap length (filter-append (λ (x : Past). is_some (launch_in x.reply)) h (e ∷ []))
      ∙ length-append (filter (λ (x : Past). is_some (launch_in x.reply)) h)
      (cond (is_some (launch_in e.reply)) (e ∷ []) [])

  no_fewer : (h : History) (e : Past) → lines_in h ≤ lines_in (h ++ e ∷ [])
  no_fewer h e = let is = lines_split h e in omega (arith, is)

  module _ (h : History) (e : Past) (s : Step h e) where
    module _ (w : ℕ) (mine : (proxy_lane w == e.lane) ≡ true) where
      abbrev own : History
      own = calls_by (proxy_lane w) h

      abbrev duty : Duty
      duty = duty_of own

      abbrev more : List ℕ
      more = left_over duty e.call e.reply

      lane : proxy_lane w ≡ e.lane
      lane = eqb-true (proxy_lane w) e.lane mine

      now : begun_at w (h ++ e ∷ []) ≡ started_in own ++ more
      now = ap begun (own_call (proxy_lane w) h e mine)
          ∙ ((λ i. started_more own e i ++ launching (duty_more own e i))
          ∙ append_assoc (started_in own) (started_by e.call)
          (launching (duty_by duty e.call e.reply)))

      next : (l a : ℕ) (b : Branch) (t : ℕ) → e.call ≡ call.Ask → e.reply ≡ reply.Launch l a b t
          → l ≡ lines_in h
      next l a b t ask launch = (subst (λ (r : Reply).
          OrderHolds (length q.plan.actions) (child_at (e.lane / 2) h) (lines_in h) r)
          (ap (rule h e.lane) (sym ask) ∙ (sym s.ruled ∙ launch)) (law.orders_hold h e.lane s.good)).0

      counted : (l a : ℕ) (b : Branch) (t : ℕ) → e.reply ≡ reply.Launch l a b t
          → lines_in (h ++ e ∷ []) ≡ lines_in h + 1
      counted l a b t launch =
          let split = lines_split h e in
          let one : length (cond (is_some (launch_in e.reply)) (e ∷ []) []) ≡ 1 =
          ap (λ (r : Reply). length (cond (is_some (launch_in r)) (e ∷ []) [])) launch in
          omega (arith, split, one)

      turn_of : Course duty e.call e.reply → Turn h e w
      turn_of (Drops x are) = Fewer x
          (ap (λ (ls : List ℕ). started_in own ++ ls) are
          ∙ (sym (append_assoc (started_in own) more x)
          ∙ ap (λ (ls : List ℕ). ls ++ x) (sym now)))
      turn_of (Orders l a b t none ask launch is) =
          let before : begun_at w h ≡ started_in own =
          ap (λ (ls : List ℕ). started_in own ++ ls) none ∙ append-nil (started_in own) in
          let n = next l a b t ask launch in
          OneMore
          (now ∙ (ap (λ (ls : List ℕ). started_in own ++ ls) is
          ∙ (λ i. sym before i ++ n i ∷ [])))
          (counted l a b t launch) lane

      own_turn : Turn h e w
      own_turn = turn_of (course w duty e.call e.reply
          (law.proxies_do_only h w e.call (subst (λ (n : ℕ). InScript rule h n e.call) (sym lane) s.scripted))
          s.fit)

    turn_by : (w : ℕ) (mine : Bool) → (proxy_lane w == e.lane) ≡ mine → Turn h e w
    turn_by w true mine = own_turn w mine
    turn_by w false other = Fewer []
        (sym (append-nil (begun_at w (h ++ e ∷ []))
        ∙ ap begun (other_call (proxy_lane w) h e other)))

    turn : (w : ℕ) → Turn h e w
    turn w = turn_by w (proxy_lane w == e.lane) refl

  -- ---- all entries

  record Apart (h : History) : Type 0 where
    below : (w l : ℕ) → In l (begun_at w h) → l < lines_in h
    once : (w : ℕ) → Distinct (begun_at w h)
    own : (w v l : ℕ) → In l (begun_at w h) → In l (begun_at v h) → w ≡ v

  -- a line that this entry has begun
  abbrev New : History → Past → ℕ → ℕ → Type 0
  New h e w l = (l ≡ lines_in h) × (lines_in (h ++ e ∷ []) ≡ lines_in h + 1)
      × (proxy_lane w ≡ e.lane)

  whence : (h : History) (e : Past) (w l : ℕ) → Turn h e w → In l (begun_at w (h ++ e ∷ []))
      → In l (begun_at w h) ⊎ New h e w l
  whence h e w l (Fewer x are) here =
      inl (subst (In l) (sym are) (in_front l (begun_at w (h ++ e ∷ [])) x here))
  whence h e w l (OneMore are lines lane) here =
      ⊎_elim (λ old. inl old)
      (λ new. inr (in_one l (lines_in h) new, lines, lane))
      (in_either l (begun_at w h) (lines_in h ∷ []) (subst (In l) are here))

  once_more : (h : History) (e : Past) (w : ℕ) → Apart h → Turn h e w
      → Distinct (begun_at w (h ++ e ∷ []))
  once_more h e w a (Fewer x are) =
      distinct_front (begun_at w (h ++ e ∷ [])) x (subst Distinct are (a.once w))
  once_more h e w a (OneMore are lines lane) =
      subst Distinct (sym are)
      (distinct_both (begun_at w h) (lines_in h ∷ []) (a.once w) ((λ x. x), tt)
      (λ n old new. let less = a.below w n old in
      let is = in_one n (lines_in h) new in absurd (omega (arith, less, is))))

  apart_more : (h : History) (e : Past) → Step h e → Apart h → Apart (h ++ e ∷ [])
  apart_more h e s a = record {
    below = λ w l here. let least = no_fewer h e in
        ⊎_elim
        (λ old. let less = a.below w l old in omega (arith, less, least))
        (λ new. let is = new.0 in let lines = new.1 in omega (arith, is, lines))
        (whence h e w l (turn h e s w) here);
    once = λ w. once_more h e w a (turn h e s w);
    own = λ w v l mine yours.
        ⊎_elim
        (λ old. ⊎_elim
        (λ also. a.own w v l old also)
        (λ new. let less = a.below w l old in let is = new.0 in absurd (omega (arith, less, is)))
        (whence h e v l (turn h e s v) yours))
        (λ new. ⊎_elim
        (λ old. let less = a.below v l old in let is = new.0 in absurd (omega (arith, less, is)))
        (λ also. let here = new.2 in let there = also.2 in omega (arith, here, there))
        (whence h e v l (turn h e s v) yours))
        (whence h e w l (turn h e s w) mine);
  }

  all_apart : (h : History) → legal h → Apart h
  all_apart = steps.along q law Apart
      (record {
        below = λ w l here. absurd here;
        once = λ w. tt;
        own = λ w v l here. absurd here;
      })
      (λ h e s a. apart_more h e s a)

  -- ---- the lines of all berths together

  module _ (h : History) (a : Apart h) where
    begun_too : (w l : ℕ) → In l (started_at w h) → In l (begun_at w h)
    begun_too w l here = in_front l (started_at w h)
        (launching (duty_of (calls_by (proxy_lane w) h))) here

    started_once : (w : ℕ) → Distinct (started_at w h)
    started_once w = distinct_front (started_at w h)
        (launching (duty_of (calls_by (proxy_lane w) h))) (a.once w)

    some_berth : (w n l : ℕ) → In l (concat (started_from h w n))
        → (v : ℕ) × (w ≤ v) × In l (started_at v h)
    unfolding started_from
    some_berth w zero l here = absurd here
    some_berth w (suc n) l here =
        ⊎_elim
        (λ own. (w, omega arith, own))
        (λ rest. let x = some_berth (w + 1) n l rest in
        (x.0, (let least = x.1 in omega (arith, least)), x.2))
        (in_either l (started_at w h) (concat (started_from h (w + 1) n)) here)

    from_once : (w n : ℕ) → Distinct (concat (started_from h w n))
    unfolding started_from
    from_once w zero = tt
    from_once w (suc n) =
        distinct_both (started_at w h) (concat (started_from h (w + 1) n)) (started_once w)
        (from_once (w + 1) n)
        (λ l mine rest.
        let x = some_berth (w + 1) n l rest in
        let same = a.own w x.0 l (begun_too w l mine) (begun_too x.0 l x.2) in
        let least = x.1 in absurd (omega (arith, same, least)))

    all_in : (ls : List ℕ) → ((l : ℕ) → In l ls → l < lines_in h)
        → All (λ l. l < lines_in h) ls
    all_in [] f = All-nil (λ l. l < lines_in h)
    all_in (l ∷ ls) f =
        All-cons (λ l. l < lines_in h) l ls (f l (inl refl)) (all_in ls (λ k x. f k (inr x)))

    are_apart : (seats : ℕ) → AreApart seats h
    are_apart seats = record {
      below = λ w l here. a.below w l (begun_too w l here);
      once = started_once;
      apart = λ w v l mine yours. a.own w v l (begun_too w l mine) (begun_too v l yours);
      all_once = from_once 0 seats;
      all_below = all_in (concat (started_from h 0 seats)) (λ l here.
          let x = some_berth 0 seats l here in a.below x.0 l (begun_too x.0 l x.2));
    }

  pub started_apart : (seats : ℕ) (h : History) → legal h → AreApart seats h
  started_apart seats h good = are_apart h (all_apart h good) seats
