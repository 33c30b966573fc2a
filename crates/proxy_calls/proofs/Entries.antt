-- What a call of a proxy lane makes of its own entries, and of what its pass has seen.
use Rattle.std.proofs.Common.{◌≡◌, inl, inr, ℕ, ◌*◌, ◌%◌, ◌/◌, ◌==◌, Bool, true, false, cond, [], ◌∷◌, ◌++◌, ap, sym, subst, ◌∙◌, arith, eq-eqb, append_assoc}
use Rattle.std.proofs.lemmas.Grind.{fold-append}
use Rattle.seat_desk.specs.declared.view.View.{View}
use Rattle.seat_desk.specs.History.{entry, after, calls_by, GoesOn, StartsWith, IsReply, StandsUnder, SomeStands}
use Rattle.seat_desk.specs.declared.machine.Machine.{Ghosts}
use Rattle.seat_desk.specs.declared.desk.Pass.{Pass}
use Rattle.seat_desk.specs.Passes.{basis}
use Rattle.seat_desk.specs.Desks.{Grows}
use Rattle.exec_journal.specs.declared.call.Call.{Call}
use Rattle.exec_journal.specs.declared.reply.Reply.{Reply}
use Rattle.exec_journal.specs.Entries.{is_kept}
use Rattle.core_contract.specs.Moves.{Past, History, tap_move, proxy_move, move_in}
use Rattle.core_contract.specs.Laws.{is_short, says_file, fits, Fits, InScript, claimed, claimed_by}
use Rattle.core_contract.specs.Duties.{Duty, proxy_lane, duty_then, duty_of, Asks}
use Rattle.core_machine.specs.BenchLaws.{calls_stay}

-- an entry joins the history
abbrev pub keeps : Past → Bool
keeps e = is_kept e.reply

-- ---- a call

-- What is known of a call that was in its lane's script, and was not answered by lack of memory.
pub record Called (rule : History → ℕ → Call → Reply) (lane : ℕ)
    (then seen own seen' own' : History) (c : Call) (r : Reply) : Type 0 where
  pub goes : GoesOn lane seen then
  pub own_then : calls_by lane then ≡ own
  pub by_rule : r ≡ rule then lane c
  pub fitting : fits c r ≡ true
  pub saw : seen' ≡ after keeps then (entry lane c r)
  pub grown : own' ≡ after keeps own (entry lane c r)

by_law : (rule : History → ℕ → Call → Reply) (MayBe : History → ℕ → Call → Type 0)
    (h : History) (lane : ℕ) (c : Call) (r : Reply) → (MayBe h lane c → ⊥)
    → IsReply rule is_short MayBe h lane c r → r ≡ rule h lane c
by_law rule MayBe h lane c r never (inl e) = e
by_law rule MayBe h lane c r never (inr s) = absurd (never s.1)

-- what the history then had of the lane
pub own_at : {Q : Type 0} (lane : ℕ) (v : View Call Reply Q) (h : History) → GoesOn lane v.seen h
    → calls_by lane v.seen ≡ v.mine → calls_by lane h ≡ v.mine
own_at lane v h goes idle =
    ap (calls_by lane) goes.1 ∙ (calls_stay lane v.seen goes.0 goes.2 ∙ idle)

-- what a lane may do by its own entries is in its script
pub scripted : (rule : History → ℕ → Call → Reply) (lane w : ℕ) (c : Call)
    (may : Duty → Call → Bool) (own : History) → lane ≡ proxy_lane w → may (duty_of own) c ≡ true
    → ((h : History) → may (duty_of (calls_by (proxy_lane w) h)) c ≡ true
    → InScript rule h (proxy_lane w) c)
    → (h : History) → calls_by lane h ≡ own → InScript rule h lane c
scripted rule lane w c may own is can law h own_is =
    subst (λ (k : ℕ). InScript rule h k c) (sym is) (law h
    (ap (λ (k : ℕ). may (duty_of (calls_by k h)) c) (sym is)
    ∙ (ap (λ (o : History). may (duty_of o) c) own_is ∙ can)))

module _ {Q : Type 0} (rule : History → ℕ → Call → Reply) (lane w : ℕ)
    (may : Duty → Call → Bool) (v v' : View Call Reply Q) (c : Call) (r : Reply) (h : History)
    (goes : GoesOn lane v.seen h) (grows : Grows keeps lane v h (entry lane c r) v')
    (idle : calls_by lane v.seen ≡ v.mine) (is : lane ≡ proxy_lane w)
    (can : may (duty_of v.mine) c ≡ true) (fit : (h : History) → Fits c (rule h lane c))
    (law : (h : History) → may (duty_of (calls_by (proxy_lane w) h)) c ≡ true
    → InScript rule h (proxy_lane w) c) where
  by_all : (MayBe : History → ℕ → Call → Type 0) → IsReply rule is_short MayBe h lane c r
      → (fits c (rule h lane c) ≡ true → MayBe h lane c → ⊥)
      → Called rule lane h v.seen v.mine v'.seen v'.mine c r
  by_all MayBe answer never =
      let own = own_at lane v h goes idle in
      let fitted : fits c (rule h lane c) ≡ true =
      fit h (scripted rule lane w c may v.mine is can law h own) in
      let so : r ≡ rule h lane c = by_law rule MayBe h lane c r (never fitted) answer in
      record {
        goes = goes;
        own_then = own;
        by_rule = so;
        fitting = ap (fits c) so ∙ fitted;
        saw = grows.0;
        grown = grows.1;
      }

  -- a call
  pub called : IsReply rule is_short (λ h n x. says_file (rule h n x) ≡ true) h lane c r
      → ((s : Reply) → fits c s ≡ true → says_file s ≡ true → ⊥)
      → Called rule lane h v.seen v.mine v'.seen v'.mine c r
  called answer never =
      by_all (λ h n x. says_file (rule h n x) ≡ true) answer (never (rule h lane c))

  -- a paid call
  pub called_paid : IsReply rule is_short (λ h n x. ⊥) h lane c r
      → Called rule lane h v.seen v.mine v'.seen v'.mine c r
  called_paid answer = by_all (λ h n x. ⊥) answer (λ fitted x. x)

-- the history at which a call was answered is legal
pub legal_at : {M G Q : Type 0} {g : Ghosts M Call Reply G Q} (p : Pass M Call Reply G Q g)
    (h : History) (legal : Q → History → Type 0)
    → SomeStands (StandsUnder g.basis g.stands (basis p)) h
    → ((m : M) (k : History) → g.stands m k → legal (g.basis m) k) → legal (basis p) h
legal_at {M} {G} {Q} {g} p h legal some law =
    subst (λ (q : Q). legal q h) some.1.1 (law some.0 h some.1.0)

pub kept_after : (h : History) (e : Past) → is_kept e.reply ≡ true → after keeps h e ≡ h ++ e ∷ []
kept_after h e k = ap (λ (b : Bool). cond b (h ++ e ∷ []) h) k

pub same_after : (h : History) (e : Past) → is_kept e.reply ≡ false → after keeps h e ≡ h
same_after h e k = ap (λ (b : Bool). cond b (h ++ e ∷ []) h) k

pub goes_front : (lane : ℕ) (seen h : History) → GoesOn lane seen h → StartsWith h seen
goes_front lane seen h goes = (goes.0, goes.1)

pub front_more : (seen h more : History) → StartsWith h seen → StartsWith (h ++ more) seen
front_more seen h more s =
    (s.0 ++ more, ap (λ (x : History). x ++ more) s.1 ∙ append_assoc seen s.0 more)

pub front_is : (seen h k : History) → k ≡ h → StartsWith h seen → StartsWith k seen
front_is seen h k e s = (s.0, e ∙ s.1)

pub duty_more : (own : History) (e : Past)
    → duty_of (own ++ e ∷ []) ≡ duty_then (duty_of own) e
duty_more own e = fold-append duty_then Asks own (e ∷ [])

pub claimed_more : (own : History) (e : Past)
    → claimed (own ++ e ∷ []) ≡ claimed_by (claimed own) (move_in e.lane e.call e.reply)
claimed_more own e =
    fold-append (λ fs (e : Past). claimed_by fs (move_in e.lane e.call e.reply)) [] own (e ∷ [])

-- ---- a proxy lane's number

pub is_even : (w : ℕ) → ((2 * w) % 2 == 0) ≡ true
is_even w = eq-eqb ((2 * w) % 2) 0 (omega arith)

pub halved : (w : ℕ) → (2 * w) / 2 ≡ w
halved w = omega arith

pub move_is : (lane w : ℕ) (c : Call) (r : Reply) → lane ≡ proxy_lane w
    → move_in lane c r ≡ proxy_move c r
move_is lane w c r is =
    ap (λ (k : ℕ). move_in k c r) is
    ∙ ap (λ (b : Bool). cond b (proxy_move c r) (tap_move c r)) (is_even w)

-- ---- an entry that was kept

module _ (rule : History → ℕ → Call → Reply) (lane : ℕ) (then seen own seen' own' : History)
    (c : Call) (r s : Reply) (k : Called rule lane then seen own seen' own' c r) (is : r ≡ s)
    (kept : is_kept s ≡ true) where
  pub made : own' ≡ own ++ entry lane c s ∷ []
  made = k.grown ∙ (ap (λ (x : Reply). after keeps own (entry lane c x)) is
      ∙ kept_after own (entry lane c s) kept)

  pub saw_made : seen' ≡ then ++ entry lane c s ∷ []
  saw_made = k.saw ∙ (ap (λ (x : Reply). after keeps then (entry lane c x)) is
      ∙ kept_after then (entry lane c s) kept)

  pub grew : StartsWith seen' seen
  grew = front_is seen (then ++ entry lane c s ∷ []) seen' saw_made
      (front_more seen then (entry lane c s ∷ []) (goes_front lane seen then k.goes))

  pub duty_made : duty_of own' ≡ duty_then (duty_of own) (entry lane c s)
  duty_made = ap duty_of made ∙ duty_more own (entry lane c s)
