-- Each step keeps the rule of the table.
use Rattle.std.proofs.Common.{◌≡◌, ◌≢◌, ℕ, zero, suc, ◌+◌, ◌%◌, ◌^◌, ◌<◌, ◌≤◌, Bool, true, false, List, [], ◌∷◌, ◌++◌, length, get_or, set, sym, refl, ap, ◌∙◌, subst, arith, length-set, Option, Some, None}
use mathlib.Core.Logic.{dite}
use mathlib.Core.Option as maybe
use native.Mathlib.Decide.{ℕ_discrete}
use lib.ListN.{get_elem?}
use lib.Seq.{set-get_or}
use Rattle.atomic_table.specs.Table.{State, Me, Act, keeps, takes, gives, put_back, rest, carried_after, Valid, stepped, Allows, opening}
use Rattle.atomic_table.proofs.Lists.{set_again, one_turn}
use Rattle.plain_values.specs.declared.entry.Entry.{Entry}
use Rattle.seat_desk.specs.declared.view.Role.{Role}
use Rattle.seat_desk.specs.declared.view.Role.TheVariants.{Root, Lane, Gone}
use Rattle.seat_desk.specs.declared.view.Stage.{Stage}
use Rattle.seat_desk.specs.declared.view.Stage.TheVariants.{Idle, Waits, Turn}
use Rattle.seat_desk.specs.declared.view.Joined.{Joined}
use Rattle.seat_desk.specs.declared.view.View.{View}
use Rattle.seat_desk.specs.History.{calls_by, StartsWith}
use Rattle.seat_desk.specs.Turns.{tickets_at, tickets_out, first_view, view_at, view_in_turn, view_after_turn, Only, AllJoined, Below, Queued, Plays, Lies, Kept, TellsDraw, TellsLook, TellsEnd}
use Rattle.seat_desk.proofs.Lines.{put, put_here, true_not_false, words_draw, words_end, words_same, at_below, seats_stay, outs_set, outs_le, opens_same, calls_stay, joined_stay, longer, whole, draw_other, look_other, end_other}

module _ {H C R Q : Type 0} (log_of : H → List (Entry C R)) (good : Q → H → Type 0) where
  abbrev V : Type 0
  V = View C R Q

  abbrev Slot : Type 0
  Slot = Option (H)

  abbrev Homes : Type 0
  Homes = List (maybe.Option Slot)

  abbrev St : Type 0
  St = State Slot V

  abbrev Rule : St → Type 0
  Rule = Kept log_of good

  abbrev SeatState : Type 0
  SeatState = Me Slot V

  abbrev or_held : H → Slot → H
  or_held d None = d
  or_held d (Some y) = y

  abbrev held_in : H → List (ℕ × Slot) → H
  held_in d [] = d
  held_in d (x ∷ xs) = or_held d x.1

  pub starts : (q : Q) (y : H) → (log_of y) ≡ [] → good q y → Rule (opening (0 ∷ 0 ∷ []) (Some y ∷ []) (first_view q))
  starts q y empty good = record {
    basis = q;
    log = [];
    done = 0;
    drawn = 0;
    owner = λ t. 0;
    busy = false;
    joined = [];
    words = refl;
    count = refl;
    few = omega arith;
    turn = λ e. absurd (true_not_false (sym e));
    lies = (y, refl, empty, good);
    lines = λ j v at. subst (λ (z : V). Queued [] 0 0 (λ t. 0) false j z.seen z.stage) (first_is j v at).1 tt;
    fronts = λ j v at. subst (λ (z : V). StartsWith [] z.seen × StartsWith [] z.told) (first_is j v at).1 (([], refl), ([], refl));
    roles = λ j v at. subst (λ (z : ℕ × V). Plays q [] [] 1 z.0 z.1 z.1.role) (λ i. (sym (first_is j v at).0 i, (first_is j v at).1 i)) (refl, refl, refl, refl);
    ends = tt;
    below = tt;
    passes = refl;
    later = λ k l. refl;
  }
    where
      first_is : (j : ℕ) (v : V) → get_elem? (first_view q ∷ []) j ≡ maybe.some v → (j ≡ 0) × (first_view q ≡ v)
      first_is zero v e = (refl, maybe.some-injective (first_view q) v e)
      first_is (suc j) v e = absurd (maybe.some-ne-none v (sym e))

  -- drawing a ticket
  pub draws : (slots id : ℕ) (me : SeatState) → me.0.stage ≡ Idle → me.0.role ≢ Gone → Allows Rule slots id me 0 (λ n. (n + 1) % 2 ^ 64) (TellsDraw log_of good me)
  draws slots id me idle lives s r deep at fits = let w : V = view_at me.0 (Waits r.drawn) in
      let n : length (set s.views id w) ≡ length s.views = length-set s.views id w in
      let outs' : tickets_out (set s.views id w) + 0 ≡ tickets_out s.views + 1 = ap (λ (x : Stage). tickets_out (set s.views id w) + tickets_at x) (sym idle) ∙ outs_set s.views id me.0 w at in
      let count = r.count in (
        w,
        keeps,
        tt,
        record {
          basis = r.basis;
          log = r.log;
          done = r.done;
          drawn = r.drawn + 1;
          owner = put r.owner r.drawn id;
          busy = r.busy;
          joined = r.joined;
          words = words_draw s.words r.drawn r.done r.words;
          count = omega arith;
          few = subst (λ (k : ℕ). k ≤ 2 ^ 32) (sym n) r.few;
          turn = λ b. (let l : r.done < r.drawn = r.turn b in omega arith);
          lies = r.lies;
          lines = seats_stay (λ j (v : V). Queued r.log r.done (r.drawn + 1) (put r.owner r.drawn id) r.busy j v.seen v.stage) s.views id w
              ((let c = r.count in omega arith), omega arith, put_here r.owner r.drawn id, λ b e. (let l : r.done < r.drawn = r.turn b in absurd (omega arith)))
              (λ j v other there. draw_other r.log r.done r.drawn id r.owner r.busy j v.seen v.stage r.turn (r.lines j v there));
          fronts = seats_stay (λ j (v : V). StartsWith r.log v.seen × StartsWith r.log v.told) s.views id w (r.fronts id me.0 at) (λ j v other there. r.fronts j v there);
          roles = subst (λ (k : ℕ). (j : ℕ) (v : V) → get_elem? (set s.views id w) j ≡ maybe.some v → Plays r.basis r.log r.joined k j v v.role) (sym n)
              (seats_stay (λ j (v : V). Plays r.basis r.log r.joined (length s.views) j v v.role) s.views id w (restaged r.basis r.log r.joined (length s.views) id me.0 (Waits r.drawn) me.0.role lives (r.roles id me.0 at)) (λ j v other there. r.roles j v there));
          ends = r.ends;
          below = subst (λ (k : ℕ). Below k r.joined) (sym n) r.below;
          passes = ap (λ (k : ℕ). k + length r.joined + 1) (opens_same s.views id me.0 w at refl) ∙ (r.passes ∙ sym n);
          later = subst (λ (m : ℕ). (k : ℕ) → m ≤ k + 1 → calls_by k r.log ≡ []) (sym n) r.later;
        },
        (refl, (r.drawn, drawn_word s.words r.drawn r.done r.words, refl)),
      )
    where
      restaged : (basis : Q) (log : List (Entry C R)) (joined : List (Joined C R)) (n seat : ℕ) (v : V) (x : Stage) (role : Role) → role ≢ Gone → Plays basis log joined n seat v role → Plays basis log joined n seat (view_at v x) role
      restaged basis log joined n seat v x (Root made) lives p = p
      restaged basis log joined n seat v x (Lane k) lives p = p
      restaged basis log joined n seat v x Gone lives p = absurd (lives refl)

      drawn_word : (ws : List ℕ) (a d : ℕ) → ws ≡ a % 2 ^ 64 ∷ d % 2 ^ 64 ∷ [] → a % 2 ^ 64 ≡ get_or ws 0 0
      drawn_word ws a d e = sym (ap (λ (l : List ℕ). get_or l 0 0) e)

  -- a look changes nothing but the places in the line
  same_words : (s : St) (r : Rule s) → set s.words 1 (get_or s.words 1 0) ≡ r.drawn % 2 ^ 64 ∷ r.done % 2 ^ 64 ∷ []
  same_words s r = words_same s.words 1 r.drawn r.done r.words

  served_word : (ws : List ℕ) (a d : ℕ) → ws ≡ a % 2 ^ 64 ∷ d % 2 ^ 64 ∷ [] → get_or ws 1 0 ≡ d % 2 ^ 64
  served_word ws a d e = ap (λ (l : List ℕ). get_or l 1 0) e

  -- nothing changes
  rests : (s : St) (r : Rule s) (id : ℕ) (v : V) → get_elem? s.views id ≡ maybe.some v → Rule record { words = set s.words 1 (get_or s.words 1 0); homes = s.homes; views = set s.views id v }
  rests s r id v at = subst (λ (x : List ℕ × List V). Rule record { words = x.0; homes = s.homes; views = x.1 }) (λ i. (sym (set-get_or s.words 1 0) i, sym (set_again s.views id v at) i)) r

  finds : (basis : Q) (log : List (Entry C R)) (joined : List (Joined C R)) (n seat : ℕ) (v : V) (k : ℕ) (role : Role) → Plays basis log joined n seat v role → role ≡ Lane k → calls_by k log ≡ v.mine
  finds basis log joined n seat v k (Root made) p e = absurd (cc)
  finds basis log joined n seat v k (Lane j) p e = let same : j ≡ k = cc in ap (λ (x : ℕ). calls_by x log) (sym same) ∙ p.1
  finds basis log joined n seat v k Gone p e = absurd (cc)

  served_role : (basis : Q) (log : List (Entry C R)) (joined : List (Joined C R)) (n seat : ℕ) (v : V) (t : ℕ) (role : Role) → v.stage ≡ Waits t → Plays basis log joined n seat v role → Plays basis log joined n seat (view_in_turn v t log) role
  served_role basis log joined n seat v t (Root made) waits p = p
  served_role basis log joined n seat v t (Lane k) waits p = p
  served_role basis log joined n seat v t Gone waits p = absurd (cc)

  -- the slot is taken
  serves : (s : St) (r : Rule s) (id t : ℕ) (v : V) → get_elem? s.views id ≡ maybe.some v → v.stage ≡ Waits t → t ≡ r.done
      → Rule record { words = set s.words 1 (get_or s.words 1 0); homes = maybe.none ∷ []; views = set s.views id (view_in_turn v t r.log) }
  serves s r id t v at waits now = let w : V = view_in_turn v t r.log in
      let n : length (set s.views id w) ≡ length s.views = length-set s.views id w in
      let line : Queued r.log r.done r.drawn r.owner r.busy id v.seen (Waits t) = subst (Queued r.log r.done r.drawn r.owner r.busy id v.seen) waits (r.lines id v at) in
      let mine : r.owner r.done ≡ id = ap r.owner (sym now) ∙ line.2 in
      let free : r.busy ≡ false = not_busy r.busy (λ b. line.3 b now) in
      let outs' : tickets_out (set s.views id w) + 1 ≡ tickets_out s.views + 1 = ap (λ (x : Stage). tickets_out (set s.views id w) + tickets_at x) (sym waits) ∙ outs_set s.views id v w at in
      let count = r.count in let l : t < r.drawn = line.1 in let front = r.fronts id v at in record {
        basis = r.basis;
        log = r.log;
        done = r.done;
        drawn = r.drawn;
        owner = r.owner;
        busy = true;
        joined = r.joined;
        words = same_words s r;
        count = omega arith;
        few = subst (λ (k : ℕ). k ≤ 2 ^ 32) (sym n) r.few;
        turn = λ b. omega arith;
        lies = refl;
        lines = seats_stay (λ j (v : V). Queued r.log r.done r.drawn r.owner true j v.seen v.stage) s.views id w (now, line.2, refl, refl)
            (λ j v other there. look_other r.log r.done r.drawn id r.owner r.busy j v.seen v.stage mine other free (r.lines j v there));
        fronts = seats_stay (λ j (v : V). StartsWith r.log v.seen × StartsWith r.log v.told) s.views id w (whole r.log, front.1) (λ j v other there. r.fronts j v there);
        roles = subst (λ (k : ℕ). (j : ℕ) (v : V) → get_elem? (set s.views id w) j ≡ maybe.some v → Plays r.basis r.log r.joined k j v v.role) (sym n)
            (seats_stay (λ j (v : V). Plays r.basis r.log r.joined (length s.views) j v v.role) s.views id w (served_role r.basis r.log r.joined (length s.views) id v t v.role waits (r.roles id v at)) (λ j v other there. r.roles j v there));
        ends = r.ends;
        below = subst (λ (k : ℕ). Below k r.joined) (sym n) r.below;
        passes = ap (λ (k : ℕ). k + length r.joined + 1) (opens_same s.views id v w at refl) ∙ (r.passes ∙ sym n);
        later = subst (λ (m : ℕ). (k : ℕ) → m ≤ k + 1 → calls_by k r.log ≡ []) (sym n) r.later;
      }
    where
      not_busy : (b : Bool) → (b ≡ true → ⊥) → b ≡ false
      not_busy true n = absurd (n refl)
      not_busy false n = refl

  -- a seat that isn't idle has the basis of the machine
  goes_by : (basis : Q) (log : List (Entry C R)) (joined : List (Joined C R)) (n seat : ℕ) (v : V) (role : Role) → v.stage ≢ Idle → Plays basis log joined n seat v role → v.basis ≡ basis
  goes_by basis log joined n seat v (Root made) busy p = p.3
  goes_by basis log joined n seat v (Lane k) busy p = p.3
  goes_by basis log joined n seat v Gone busy p = absurd (busy p)

  -- a look, where the ticket is served
  hits : (slots id t : ℕ) (me : SeatState) (s : St) (r : Rule s) → get_elem? s.views id ≡ maybe.some me.0 → me.0.stage ≡ Waits t → t ≡ r.done → (b : Bool) → r.busy ≡ b → Lies log_of good r.basis b r.log s.homes
      → (w : V) × (a : Act Slot) × Valid s.homes me.1 a × Rule (stepped s 1 (get_or s.words 1 0) id me.1 w a)
      × TellsLook log_of good me (get_or s.words 1 0) (w, carried_after me.1 a)
  hits slots id t me s r at waits now true busy lies = let line : Queued r.log r.done r.drawn r.owner r.busy id me.0.seen (Waits t) = subst (Queued r.log r.done r.drawn r.owner r.busy id me.0.seen) waits (r.lines id me.0 at) in
      absurd (line.3 busy now)
  hits slots id t me s r at waits now false busy lies = let y : H = lies.0 in let w : V = view_in_turn me.0 t r.log in
      let is_log : (log_of y) ≡ r.log = lies.2 in (
        w,
        takes 0 (Some y),
        ap (λ (l : Homes). get_elem? l 0) lies.1,
        subst (λ (l : Homes). Rule record { words = set s.words 1 (get_or s.words 1 0); homes = l; views = set s.views id w }) (sym (ap (λ (l : Homes). set l 0 maybe.none) lies.1)) (serves s r id t me.0 at waits now),
        λ u e. (let same : t ≡ u = cc in (
          λ hit. (
            y,
            (
              subst (λ (q : Q). good q y) (sym (goes_by r.basis r.log r.joined (length s.views) id me.0 me.0.role (λ idle. (let x : Waits t ≡ Idle = sym waits ∙ idle in cc)) (r.roles id me.0 at))) lies.3,
              subst (λ (l : List (Entry C R)). StartsWith l me.0.seen) (sym is_log) (r.fronts id me.0 at).0,
              λ k lane. ap (λ (l : List (Entry C R)). calls_by k l) is_log ∙ finds r.basis r.log r.joined (length s.views) id me.0 k me.0.role (r.roles id me.0 at) lane,
            ),
            (λ i. view_in_turn me.0 (same i) (sym is_log i)),
            refl,
          ),
          λ miss. absurd (miss (served_word s.words r.drawn r.done r.words ∙ ap (λ (x : ℕ). x % 2 ^ 64) (sym now ∙ same))),
        )),
      )

  -- looking at the served word
  pub looks : (slots id t : ℕ) (me : SeatState) → me.0.stage ≡ Waits t → Allows Rule slots id me 1 (λ n. n) (TellsLook log_of good me)
  looks slots id t me waits s r deep at fits = dite (ℕ_discrete (get_or s.words 1 0) (t % 2 ^ 64))
      (λ hit. hits slots id t me s r at waits (now hit) r.busy refl r.lies)
      (λ miss. (me.0, keeps, tt, rests s r id me.0 at, λ u e. (let same : t ≡ u = cc in (λ hit. absurd (miss (hit ∙ ap (λ (x : ℕ). x % 2 ^ 64) (sym same))), λ _. refl))))
    where
      now : get_or s.words 1 0 ≡ t % 2 ^ 64 → t ≡ r.done
      now hit = let line : Queued r.log r.done r.drawn r.owner r.busy id me.0.seen (Waits t) = subst (Queued r.log r.done r.drawn r.owner r.busy id me.0.seen) waits (r.lines id me.0 at) in
          let below : r.done ≤ t = line.0 in let above : t < r.drawn = line.1 in let count = r.count in let few = r.few in let le = outs_le s.views in
          sym (one_turn r.done t (2 ^ 64) below (omega arith) (sym (served_word s.words r.drawn r.done r.words) ∙ hit))

  -- ending a turn that added these entries
  pub ends : (slots id t k : ℕ) (me : SeatState) (y : H) (news : List (Entry C R)) → me.0.stage ≡ Turn t → me.0.role ≡ Lane k → me.1 ≡ (0, Some y) ∷ [] → good me.0.basis y
      → (log_of y) ≡ me.0.seen ++ news → Only k news → Allows Rule slots id me 1 (λ n. (n + 1) % 2 ^ 64) (TellsEnd log_of good me)
  ends slots id t k me y news turn lane carried fine added only s r deep at fits = let log' : List (Entry C R) = (log_of y) in let w : V = view_after_turn me.0 k log' in
      let n : length (set s.views id w) ≡ length s.views = length-set s.views id w in
      let line : Queued r.log r.done r.drawn r.owner r.busy id me.0.seen (Turn t) = subst (Queued r.log r.done r.drawn r.owner r.busy id me.0.seen) turn (r.lines id me.0 at) in
      let mine : r.owner r.done ≡ id = ap r.owner (sym line.0) ∙ line.1 in
      let grew : log' ≡ r.log ++ news = added ∙ ap (λ (l : List (Entry C R)). l ++ news) line.3 in
      let role : Plays r.basis r.log r.joined (length s.views) id me.0 (Lane k) = subst (Plays r.basis r.log r.joined (length s.views) id me.0) lane (r.roles id me.0 at) in
      let away : s.homes ≡ maybe.none ∷ [] = lent r.busy line.2 s.homes r.lies in
      let outs' : tickets_out (set s.views id w) + 1 ≡ tickets_out s.views + 0 = ap (λ (x : Stage). tickets_out (set s.views id w) + tickets_at x) (sym turn) ∙ outs_set s.views id me.0 w at in
      let count = r.count in let below : id < length s.views = at_below s.views id me.0 at in let seat : id ≡ k + 1 = role.0 in (
        w,
        gives,
        tt,
        record {
          basis = r.basis;
          log = log';
          done = r.done + 1;
          drawn = r.drawn;
          owner = r.owner;
          busy = false;
          joined = r.joined;
          words = words_end s.words r.drawn r.done r.words;
          count = omega arith;
          few = subst (λ (k : ℕ). k ≤ 2 ^ 32) (sym n) r.few;
          turn = λ b. absurd (true_not_false (sym b));
          lies = (y, (λ i. put_back (away i) (carried i)), refl, subst (λ (q : Q). good q y) role.3 fine);
          lines = seats_stay (λ j (v : V). Queued log' (r.done + 1) r.drawn r.owner false j v.seen v.stage) s.views id w tt
              (λ j v other there. end_other r.log log' r.done r.drawn id r.owner r.busy j v.seen v.stage mine other (r.lines j v there));
          fronts = seats_stay (λ j (v : V). StartsWith log' v.seen × StartsWith log' v.told) s.views id w (whole log', grown me.0.told grew (r.fronts id me.0 at).1)
              (λ j v other there. (grown v.seen grew (r.fronts j v there).0, grown v.told grew (r.fronts j v there).1));
          roles = subst (λ (m : ℕ). (j : ℕ) (v : V) → get_elem? (set s.views id w) j ≡ maybe.some v → Plays r.basis log' r.joined m j v v.role) (sym n)
              (seats_stay (λ j (v : V). Plays r.basis log' r.joined (length s.views) j v v.role) s.views id w
              (subst (Plays r.basis log' r.joined (length s.views) id w) (sym lane) (seat, refl, role.2, role.3))
              (λ j v other there. other_role grew seat j other v v.role (r.roles j v there)));
          ends = subst (λ (l : List (Entry C R)). AllJoined l r.joined) (sym grew) (joined_stay k r.log news r.joined only role.2 r.ends);
          below = subst (λ (k : ℕ). Below k r.joined) (sym n) r.below;
          passes = ap (λ (k : ℕ). k + length r.joined + 1) (opens_same s.views id me.0 w at refl) ∙ (r.passes ∙ sym n);
          later = subst (λ (m : ℕ). (j : ℕ) → m ≤ j + 1 → calls_by j log' ≡ []) (sym n)
              (λ j far. ap (calls_by j) grew ∙ (calls_stay k j r.log news only (λ e. (let far' : length s.views ≤ j + 1 = far in absurd (omega arith))) ∙ r.later j far));
        },
        (ap rest carried, λ k' y' lane' carried'. (let same : k ≡ k' = cc in let one : y ≡ y' = ap (held_in y) (sym carried ∙ carried') in λ i. view_after_turn me.0 (same i) (log_of (one i)))),
      )
    where
      lent : (b : Bool) → b ≡ true → (homes : Homes) → Lies log_of good r.basis b r.log homes → homes ≡ maybe.none ∷ []
      lent true e homes l = l
      lent false e homes l = absurd (true_not_false (sym e))

      grown : (v : List (Entry C R)) → (log_of y) ≡ r.log ++ news → StartsWith r.log v → StartsWith (log_of y) v
      grown v grew front = subst (λ (l : List (Entry C R)). StartsWith l v) (sym grew) (longer r.log news v front)

      other_role : (log_of y) ≡ r.log ++ news → id ≡ k + 1 → (j : ℕ) → j ≢ id → (v : V) (role : Role) → Plays r.basis r.log r.joined (length s.views) j v role → Plays r.basis (log_of y) r.joined (length s.views) j v role
      other_role grew seat j other v (Root made) p = p
      other_role grew seat j other v (Lane i) p = let at_i : j ≡ i + 1 = p.0 in let at_k : id ≡ k + 1 = seat in
          (p.0, ap (calls_by i) grew ∙ (calls_stay k i r.log news only (λ e. other (at_i ∙ (ap (λ (x : ℕ). x + 1) e ∙ sym at_k))) ∙ p.1), p.2, p.3)
      other_role grew seat j other v Gone p = p
