-- What a request's lane may look at was made: the producer was granted files and committed them,
-- and it has a file for each of its outputs.
use Rattle.std.proofs.Common.{◌≡◌, ℕ, ℤ, zero, suc, ◌+◌, ◌*◌, ◌%◌, ◌^◌, ◌<◌, ◌==◌, nat_lt, Bool, true, false, cond, ◌&&◌, ◌||◌, not, List, [], ◌∷◌, length, Option, Some, None, option_map, unwrap_or, ◌⊎◌, inl, inr, refl, ap, sym, subst, ◌∙◌, pos, arith}
use Rattle.std.specs.Prelude.{slice_get}
use Rattle.std.specs.List.{list_all, list_any}
use Rattle.std.specs.Ordering.{int_eq}
use Rattle.std.proofs.lemmas.Bool.{and_parts, eqb-true, ltb-true, or_cases}
use Rattle.std.proofs.lemmas.Option.{slice_get-get_or}
use Rattle.run_plan.specs.declared.plan.Branch.{Branch}
use Rattle.run_plan.specs.declared.plan.Kind.{Kind}
use Rattle.run_plan.specs.declared.plan.Maker.{Maker}
use Rattle.run_plan.specs.declared.plan.Plan.{Plan}
use Rattle.run_plan.specs.declared.plan.PlanAction.{PlanAction}
use Rattle.run_plan.specs.Groups.{is_remote}
use Rattle.run_plan.specs.declared.plan.Kind.TheVariants as kind
use Rattle.run_plan.specs.Sound.{Sound, are_sound_from, has_branches, is_earlier, is_sound_action}
use Rattle.exec_journal.specs.declared.attempt.Attempt.{Attempt}
use Rattle.exec_journal.specs.declared.call.Call.{Call}
use Rattle.exec_journal.specs.declared.call.Call.TheVariants as call
use Rattle.exec_journal.specs.declared.call.Found.{Found}
use Rattle.exec_journal.specs.declared.call.Found.TheVariants as found
use Rattle.exec_journal.specs.declared.call.Wanted.TheVariants as wanted
use Rattle.exec_journal.specs.declared.ends.Standing.{Standing}
use Rattle.exec_journal.specs.Entry.{Entry}
use Rattle.exec_journal.specs.declared.reply.Reply.{Reply}
use Rattle.exec_journal.specs.declared.reply.Reply.TheVariants as reply
use Rattle.exec_journal.specs.Entries.{attempt_of, granted_in, same_attempt}
use Rattle.exec_journal.specs.Lawful.{Lawful}
use Rattle.exec_journal.specs.Rules as r
use Rattle.exec_journal.specs.Lawful as lw
use Rattle.core_contract.specs.Disciplines.{IsDiscipline, LegalBy}
use Rattle.core_contract.specs.Discipline.{Discipline, makers_in}
use Rattle.core_contract.specs.Ruled.{CameAbout, answer_after, journal_of}
use Rattle.exec_journal.specs.Scripts.{is_made, is_owed, is_owed_after, may_find, outputs_of}
use Rattle.exec_journal.specs.Settled.{all_dropped, by_grant, is_starved, is_success, ready, standings}
use Rattle.exec_journal.specs.Words.{last_work, grant_of}
use Rattle.exec_journal.proofs.Begins.{same_attempt_refl}
use Rattle.exec_journal.proofs.Ruled.{by_bool}
use Rattle.journal_laws.proofs.Carried as carried
use Rattle.journal_laws.proofs.Claims as claims
use Rattle.journal_laws.proofs.Firm as firm
use Rattle.journal_laws.proofs.Granted as granted
use Rattle.journal_laws.proofs.Owed as owed
use Rattle.journal_laws.proofs.Owed.{is_work}
use Rattle.core_contract.specs.Duties.{Duty, Sends, duty_of, duty_of_claim, is_maker, may_do, ordered, proxy_lane}
use Rattle.core_contract.specs.Laws.{says_file}
use Rattle.core_contract.specs.Moves.{History}
use Rattle.seat_desk.specs.History.{calls_by}
use Rattle.discipline_laws.specs.Owed.{has_left, duty_of_work, owed_by}
use Rattle.discipline_laws.proofs.Doing.{duty_is_scripted}
use Rattle.discipline_laws.proofs.Going.{duty_is}
use Rattle.discipline_laws.proofs.Fitting.{answer_is, lawful, in_seats, seated_so}
use Rattle.discipline_laws.proofs.Granting.{granted_files}

-- ---- the order of a lane that owes a Wrote for a request

record IsSend (l : ℕ) (n : ℤ) (t : Attempt) (x : Reply) : Type 0 where
  is : x ≡ reply.Send l n t.action t.branch t.number

send_by : (l k : ℕ) (n m : ℤ) (t : Attempt) (a : ℕ) (b : Branch) (u : ℕ)
    → Sends k m (attempt_of a b u) ≡ Sends l n t → IsSend l n t (reply.Send k m a b u)
send_by l k n m t a b u h =
    let line : k ≡ l = cc in let number : m ≡ n = cc in let same : attempt_of a b u ≡ t = cc in
    record {
      is = λ i. reply.Send (line i) (number i) (same i).action (same i).branch (same i).number;
    }

order_sends : (l : ℕ) (n : ℤ) (t : Attempt) (x : Reply) → ordered x ≡ Sends l n t → IsSend l n t x
order_sends l n t (reply.Send k m a b u) h = send_by l k n m t a b u h
order_sends l n t _ h = absurd (cc)

files_send : (l : ℕ) (n : ℤ) (t : Attempt) (c : ℕ) (b : Branch) (fs : List (List ℕ)) (x : Reply)
    → duty_of_claim c b (found.Files fs) x ≡ Sends l n t → IsSend l n t x
files_send l n t c b fs (reply.Send k m a e u) h = send_by l k n m t a e u h
files_send l n t c b fs _ h = absurd (cc)

work_sends : (l : ℕ) (n : ℤ) (t : Attempt) (c : Call) (x : Reply) → duty_of_work c x ≡ Sends l n t
    → IsSend l n t x
work_sends l n t (call.Claim c b u (found.Files fs)) x h = files_send l n t c b fs x h
work_sends l n t (call.Claim c b u (found.Exit k)) x h = order_sends l n t x h
work_sends l n t (call.Claim c b u (found.Missing k)) x h = order_sends l n t x h
work_sends l n t (call.Claim c b u found.RoomFault) x h = order_sends l n t x h
work_sends l n t (call.Claim c b u found.Refused) x h = order_sends l n t x h
work_sends l n t _ x h = order_sends l n t x h

record OwesWrote (j : List Entry) (lane l : ℕ) (n : ℤ) (t : Attempt) : Type 0 where
  order : Entry
  newest : last_work j lane ≡ Some order
  sends : IsSend l n t order.reply

newest_sends : (j : List Entry) (lane l : ℕ) (n : ℤ) (t : Attempt) (o : Option Entry)
    → last_work j lane ≡ o → owed_by o ≡ Sends l n t → OwesWrote j lane l n t
newest_sends j lane l n t None is h = absurd (cc)
newest_sends j lane l n t (Some e) is h =
    record { order = e; newest = is; sends = work_sends l n t e.call e.reply h }

owes_wrote : (h : History) (lane l : ℕ) (n : ℤ) (t : Attempt)
    → duty_of (calls_by lane h) ≡ Sends l n t → OwesWrote (journal_of h) lane l n t
owes_wrote h lane l n t is =
    let d = duty_is h lane in
    newest_sends (journal_of h) lane l n t (last_work (journal_of h) lane) refl
    (sym (d.owed (ap has_left is)) ∙ is)

-- a lane that has made a work is one of the plan
worker_within : (q : Discipline) (j : List Entry) (lane : ℕ) (d : Entry) → LegalBy q j
    → last_work j lane ≡ Some d → lane < 2 * q.seats
unfolding last_work
worker_within q [] lane d legal h = absurd (cc)
worker_within q (e ∷ j) lane d legal h = by (owed.newest_cases e j lane d h)
    (λ m. worker_within q j lane d legal.0 m)
  where
    by : ((e ≡ d) × (e.lane ≡ lane) × (is_work e.call ≡ true))
        ⊎ ((((e.lane == lane) && is_work e.call) ≡ false) × (last_work j lane ≡ Some d))
        → (last_work j lane ≡ Some d → lane < 2 * q.seats) → lane < 2 * q.seats
    by (inl own) ih = subst (λ (n : ℕ). n < 2 * q.seats) own.1
        (ltb-true e.lane (2 * q.seats)
        (in_seats q j e.lane e.call legal.1.scripted))
    by (inr before) ih = ih before.1

-- ---- a producer with success was granted files

record MadeFiles (j : List Entry) (c : ℕ) : Type 0 where
  winner : Attempt
  files : List (List ℕ)
  won : grant_of j c ≡ Some (winner, found.Files files)

by_standing : (j : List Entry) (c : ℕ) (d : Bool) (x y : Standing) (o : Option (Attempt × Found))
    → grant_of j c ≡ o → is_success (Some x) ≡ false → is_success (Some y) ≡ false
    → is_success (Some (unwrap_or (by_grant j o) (cond d x y))) ≡ true → MadeFiles j c
by_standing j c d x y (Some (t, found.Files fs)) is nx ny h =
    record { winner = t; files = fs; won = is }
by_standing j c d x y (Some (t, found.Exit n)) is nx ny h = absurd (cc)
by_standing j c true x y (Some (t, found.Missing n)) is nx ny h =
    absurd (let both : true ≡ false = sym h ∙ nx in cc)
by_standing j c false x y (Some (t, found.Missing n)) is nx ny h =
    absurd (let both : true ≡ false = sym h ∙ ny in cc)
by_standing j c true x y (Some (t, found.RoomFault)) is nx ny h =
    absurd (let both : true ≡ false = sym h ∙ nx in cc)
by_standing j c false x y (Some (t, found.RoomFault)) is nx ny h =
    absurd (let both : true ≡ false = sym h ∙ ny in cc)
by_standing j c true x y (Some (t, found.Refused)) is nx ny h =
    absurd (let both : true ≡ false = sym h ∙ nx in cc)
by_standing j c false x y (Some (t, found.Refused)) is nx ny h =
    absurd (let both : true ≡ false = sym h ∙ ny in cc)
by_standing j c true x y None is nx ny h = absurd (let both : true ≡ false = sym h ∙ nx in cc)
by_standing j c false x y None is nx ny h = absurd (let both : true ≡ false = sym h ∙ ny in cc)

made_files : (p : Plan) (j : List Entry) (c : ℕ) (x : PlanAction) → slice_get p.actions c ≡ Some x
    → is_success (slice_get (standings p j) c) ≡ true → MadeFiles j c
made_files p j c x at h =
    let stands = firm.stands_at p j c x at in
    by_standing j c (all_dropped p j c x || is_starved x stands.front) _ _ (grant_of j c) refl refl
    refl
    (ap is_success (sym stands.is) ∙ h)

-- ---- a grant has a file for each output

find_files : (outputs : ℕ) (remote : Bool) (exit : ℤ) (refused : Bool) (fs : List (List ℕ))
    → may_find outputs remote exit refused (found.Files fs) ≡ true → length fs ≡ outputs
find_files outputs remote exit refused fs h =
    by_bool (not (int_eq exit (pos 0)))
    (λ b. cond b false (cond refused false (length fs == outputs)) ≡ true → length fs ≡ outputs)
    (λ _ g. absurd (cc))
    (λ _ g. by refused g) h
  where
    by : (b : Bool) → cond b false (length fs == outputs) ≡ true → length fs ≡ outputs
    by true g = absurd (cc)
    by false g = eqb-true (length fs) outputs g

claim_finds : (p : Plan) (k : Kind) (a : ℕ) (b : Branch) (t : ℕ) (fs : List (List ℕ)) (x : Reply)
    → (is_owed p k (call.Claim a b t (found.Files fs)) x || false) ≡ true
    → length fs ≡ outputs_of p a
claim_finds p k a b t fs (reply.Gather l n c d u exit refused) h = elim (or_cases _ false h) [
  | inl yes_so ↦ find_files (outputs_of p a) (is_remote k) exit refused fs
      (and_parts (same_attempt (attempt_of a b t) (attempt_of c d u)) _ yes_so).1
  | inr none ↦ absurd (cc)
]
claim_finds p k a b t fs _ h = absurd (cc)

claim_files : (p : Plan) (j : List Entry) (lane a : ℕ) (b : Branch) (t : ℕ)
    (fs : List (List ℕ)) → lw.in_script p j lane (call.Claim a b t (found.Files fs)) ≡ true
    → length fs ≡ outputs_of p a
claim_files p j lane a b t fs may =
    elim (owed.scripted p j lane (call.Claim a b t (found.Files fs)) refl may) [
      | inl owes ↦ absurd (cc)
      | inr allows ↦ by (last_work j lane) (and_parts (lane % 2 == 0) _ allows).1
    ]
  where
    by : (o : Option Entry)
        → is_owed_after p kind.Single (call.Claim a b t (found.Files fs)) o ≡ true
        → length fs ≡ outputs_of p a
    by None h = absurd (cc)
    by (Some e) h = claim_finds p kind.Single a b t fs e.reply h

grant_files : (p : Plan) (j : List Entry) (a : ℕ) (t : Attempt) (fs : List (List ℕ)) → Lawful p j
    → grant_of j a ≡ Some (t, found.Files fs) → length fs ≡ outputs_of p a
unfolding grant_of
grant_files p [] a t fs legal h = absurd (cc)
grant_files p (e ∷ j) a t fs legal h = by (granted.grant_cases e j a (t, found.Files fs) h)
    (λ m. grant_files p j a t fs legal.0 m)
  where
    by : (grant_of j a ≡ Some (t, found.Files fs))
        ⊎ ((granted_in e.call e.reply ≡ Some (t, found.Files fs)) × (t.action ≡ a))
        → (grant_of j a ≡ Some (t, found.Files fs) → length fs ≡ outputs_of p a)
        → length fs ≡ outputs_of p a
    by (inl old) ih = ih old
    by (inr new) ih =
        let g = granted_files e.call e.reply t fs new.0 in
        claim_files p j e.lane g.action g.branch g.number fs
        (subst (λ (c : Call). lw.in_script p j e.lane c ≡ true) g.is legal.1.scripted)
        ∙ ap (outputs_of p) (g.of ∙ new.1)

-- ---- a maker that is among an action's made inputs

some_maker : (q s e : Maker → Bool) (ms : List Maker) → list_any q ms ≡ true
    → list_all s ms ≡ true → list_all e ms ≡ true
    → (m : Maker) × (q m ≡ true) × (s m ≡ true) × (e m ≡ true)
some_maker q s e [] h k l = absurd (cc)
some_maker q s e (m ∷ ms) h k l =
    let now = and_parts (s m) _ k in let also = and_parts (e m) _ l in
    elim (or_cases (q m) (list_any q ms) h) [
      | inl here ↦ (m, here, now.0, also.0)
      | inr more ↦ some_maker q s e ms more now.1 also.1
    ]

sound_at : (p : Plan) (n : ℕ) (xs : List PlanAction) (i : ℕ) (x : PlanAction)
    → are_sound_from p n xs ≡ true → slice_get xs i ≡ Some x → is_sound_action p (n + i) x ≡ true
sound_at p n [] i x h k = absurd (cc)
sound_at p n (y ∷ ys) zero x h k =
    let same : y ≡ x = cc in
    let z : n ≡ n + 0 = omega arith in
    subst (λ (w : PlanAction). is_sound_action p (n + 0) w ≡ true) same
    (subst (λ m. is_sound_action p m y ≡ true) z (and_parts (is_sound_action p n y) _ h).0)
sound_at p n (y ∷ ys) (suc i) x h k =
    let z : suc n + i ≡ n + suc i = omega arith in
    subst (λ m. is_sound_action p m x ≡ true) z
    (sound_at p (suc n) ys i x (and_parts (is_sound_action p n y) _ h).1 k)

record IsOutput (p : Plan) (c o : ℕ) : Type 0 where
  action : PlanAction
  place : slice_get p.actions c ≡ Some action
  below : o < length action.outputs

output_by : (p : Plan) (c o : ℕ) (q : Option PlanAction) → slice_get p.actions c ≡ q
    → unwrap_or (option_map (λ x. nat_lt o (length x.outputs)) q) false ≡ true → IsOutput p c o
output_by p c o (Some x) at h =
    record { action = x; place = at; below = ltb-true o (length x.outputs) h }
output_by p c o None at h = absurd (cc)

-- the output is its action's, which has success
record IsMade (p : Plan) (j : List Entry) (c o : ℕ) : Type 0 where
  output : IsOutput p c o
  success : is_success (slice_get (standings p j) c) ≡ true

input_made : (p : Plan) (j : List Entry) (a c o : ℕ) (x : PlanAction) → Sound p
    → slice_get p.actions a ≡ Some x → ready p j x ≡ true
    → list_any (λ m. is_made m c o) x.makers ≡ true → IsMade p j c o
unfolding ready
input_made p j a c o x sound at all h =
    let whole = sound_at p 0 p.actions a x sound.each_action at in
    let earlier = (and_parts (has_branches (length p.groups) x) _
    (and_parts (nat_lt (length x.outputs) (2 ^ 32)) _ whole).1).1 in
    let m = some_maker (λ m. is_made m c o) (λ m. is_success (slice_get (standings p j) m.action))
    (is_earlier p.actions (0 + a)) x.makers h all earlier in
    let parts = and_parts (m.0.action == c) _ m.1 in
    let action = eqb-true m.0.action c parts.0 in
    let output = eqb-true m.0.output o parts.1 in
    let out = output_by p m.0.action m.0.output (slice_get p.actions m.0.action) refl
    (and_parts (nat_lt m.0.action (0 + a)) _ m.3).1 in record {
      output = subst (λ (n : ℕ). IsOutput p n o) action
          (subst (λ (n : ℕ). IsOutput p m.0.action n) output out);
      success = ap (λ (n : ℕ). is_success (slice_get (standings p j) n)) (sym action) ∙ m.2;
    }

made_look : (p : Plan) (j : List Entry) (lane c o : ℕ) → Lawful p j → IsMade p j c o
    → says_file (lw.plain_reply p j lane (call.Look (wanted.Made c o))) ≡ true
made_look p j lane c o legal made =
    let files = made_files p j c made.output.action made.output.place made.success in
    let few = grant_files p j c files.winner files.files legal files.won in
    let outputs : outputs_of p c ≡ length made.output.action.outputs =
    ap (λ (q : Option PlanAction). unwrap_or (option_map (λ x. length x.outputs) q) 0)
    made.output.place in
    let below = made.output.below in
    let at = slice_get-get_or files.files o [] (omega (arith, few, outputs, below)) in
    ap (λ (g : Option (Attempt × Found)). says_file (r.file_reply (slice_get
    (r.files_of_grant g) o))) files.won
    ∙ ap (λ (f : Option (List ℕ)). says_file (r.file_reply f)) at

-- the made inputs of a request that was ordered are there
pub inputs_are_there : (q : Discipline) → IsDiscipline q
    → (h : History) (w l : ℕ) (n : ℤ) (t : Attempt) (c o : ℕ) → CameAbout q h
    → duty_of (calls_by (proxy_lane w) h) ≡ Sends l n t
    → is_maker (makers_in q.plan t.action) c o ≡ true
    → says_file (answer_after q h (proxy_lane w) (call.Look (wanted.Made c o))) ≡ true
inputs_are_there q is h w l n t c o came owes maker =
    let p = q.plan in
    let j = journal_of h in
    let good = lawful q is j came.legal in
    let lane = proxy_lane w in
    let order = owes_wrote h lane l n t owes in
    let inside = worker_within q j lane order.order came.legal order.newest in
    let may = duty_is_scripted q h w (call.Look (wanted.Made c o)) (omega (arith, inside))
    (ap (λ (s : Duty). may_do q w s
    (call.Look (wanted.Made c o))) owes ∙ maker) in
    let fits : owed.is_send t order.order ≡ true =
    ap (λ (x : Reply). owed.is_send t (record { lane = 0; call = call.Ask; reply = x }))
    order.sends.is ∙ same_attempt_refl t in
    let sent = claims.sent_newest j t lane order.order order.newest fits in
    let has = firm.going_ready_at p j t good (carried.sent_begun j t sent) in
    let among = ap (λ (q : Option PlanAction). is_maker (unwrap_or
    (option_map (λ x. x.makers) q) []) c o) (sym has.place) ∙ maker in
    ap says_file (answer_is q h lane (call.Look (wanted.Made c o)) (seated_so q j lane (call.Look (wanted.Made c o)) may) ∙ is.plain j lane (call.Look (wanted.Made c o)) refl)
    ∙ made_look p j lane c o good
    (input_made p j t.action c o has.action came.sound has.place has.inputs among)
