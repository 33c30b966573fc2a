-- Where the place of an action is after a legal journal: it is taken with the grant of its files,
-- and put back with their Committed.
use Rattle.std.proofs.Common.{◌≡◌, ℕ, ◌%◌, ◌==◌, Bool, true, false, cond, ◌&&◌, List, [], ◌∷◌, Option, Some, None, refl, ap, sym, subst, ◌∙◌}
use Rattle.std.proofs.lemmas.Bool.{eqb-true, eq-eqb}
use Rattle.run_plan.specs.declared.plan.Branch.{Branch}
use Rattle.run_plan.specs.declared.plan.Plan.{Plan}
use Rattle.exec_journal.proofs.Ruled as ru
use Rattle.exec_journal.specs.Lawful as lw
use Rattle.exec_journal.specs.declared.attempt.Attempt.{Attempt}
use Rattle.exec_journal.specs.declared.call.Call.{Call}
use Rattle.exec_journal.specs.declared.call.Call.TheVariants as call
use Rattle.exec_journal.specs.declared.call.CommitEnd.{CommitEnd}
use Rattle.exec_journal.specs.declared.call.Found.{Found}
use Rattle.exec_journal.specs.declared.call.Found.TheVariants as found
use Rattle.exec_journal.specs.declared.call.Started.TheVariants as start
use Rattle.exec_journal.specs.Entry.{Entry}
use Rattle.exec_journal.specs.declared.reply.Reply.{Reply}
use Rattle.exec_journal.specs.declared.reply.Reply.TheVariants as reply
use Rattle.exec_journal.specs.Entries.{attempt_of, granted_in, committed_in, same_branch}
use Rattle.exec_journal.specs.Lawful.{Lawful}
use Rattle.exec_journal.specs.Words.{grant_of, of_action, commit_of}
use Rattle.exec_journal.proofs.Begins.{same_branch_refl}
use Rattle.exec_journal.proofs.Reasons as u
use Rattle.exec_journal.proofs.Ruled.{by_bool}
use Rattle.journal_laws.proofs.Allowed.{may_commit}
use Rattle.journal_laws.proofs.Debts.{wins_by}
use Rattle.journal_laws.proofs.Granted as granted
use Rattle.journal_laws.proofs.Offered as offered
use Rattle.journal_laws.proofs.Over.{entry_ruled}
use Rattle.journal_laws.proofs.Owed as owed
use Rattle.core_contract.specs.Moves.{Move, move_in, proxy_move, tap_move, claim_moves, PutPlace}
use Rattle.core_contract.specs.Shelf.{Spot, Fresh, Away, Back, files_of_spot, place_by}
use Rattle.discipline_laws.proofs.Along.{after_all}
use Rattle.discipline_laws.proofs.Steps.{claim_even}

-- ---- the words

abbrev pub place_entry : ℕ → Spot → Entry → Spot
place_entry a s e = place_by a s (move_in e.lane e.call e.reply)

abbrev pub place_in : ℕ → List Entry → Spot
place_in a j = after_all (place_entry a) Fresh j

-- what came of a place that was taken for these files
abbrev spot_of : List (List ℕ) → Option CommitEnd → Spot
spot_of fs None = Away fs
spot_of fs (Some how) = Back fs how

abbrev spot_by : List Entry → Option (Attempt × Found) → Spot
spot_by j (Some (t, found.Files fs)) = spot_of fs (commit_of j t.action t.branch)
spot_by j _ = Fresh

-- ---- what an entry does

record IsNone (a : ℕ) (lane : ℕ) (c : Call) (x : Reply) : Type 0 where
  ungranted : granted_in c x ≡ None
  uncommitted : (d : ℕ) (b : Branch) → committed_in d b c ≡ None
  stays : (s : Spot) → place_by a s (move_in lane c x) ≡ s

data PlaceStep (a : ℕ) (lane : ℕ) (c : Call) (x : Reply) : Type 0 where
  Wins : (d : ℕ) (b : Branch) (t : ℕ) (fs : List (List ℕ)) → c ≡ call.Claim d b t (found.Files fs)
      → x ≡ reply.Granted → PlaceStep a lane c x
  Exits : (d : ℕ) (b : Branch) (t : ℕ) (f : Found) → ((fs : List (List ℕ)) → f ≡ found.Files fs → ⊥)
      → c ≡ call.Claim d b t f → x ≡ reply.Granted → PlaceStep a lane c x
  Puts : (d : ℕ) (b : Branch) (how : CommitEnd) → c ≡ call.Committed d b how → x ≡ reply.Noted
      → PlaceStep a lane c x
  Leaves : IsNone a lane c x → PlaceStep a lane c x

leaves : (a : ℕ) (lane : ℕ) (c : Call) (x : Reply) → granted_in c x ≡ None
    → ((d : ℕ) (b : Branch) → committed_in d b c ≡ None)
    → ((s : Spot) → place_by a s (proxy_move c x) ≡ s)
    → ((s : Spot) → place_by a s (tap_move c x) ≡ s) → PlaceStep a lane c x
leaves a lane c x none unput proxy tap = Leaves (record {
  ungranted = none;
  uncommitted = unput;
  stays = λ s. by_bool (lane % 2 == 0)
      (λ b. place_by a s (cond b (proxy_move c x) (tap_move c x)) ≡ s)
      (λ _. proxy s) (λ _. tap s);
})

claim_leaves : (a d : ℕ) (f : Found) (x : Reply) → (x ≡ reply.Granted → ⊥) → (s : Spot)
    → place_by a s (claim_moves d f x) ≡ s
claim_leaves a d (found.Files fs) reply.Granted other s = absurd (other refl)
claim_leaves a d (found.Files fs) _ other s = refl
claim_leaves a d (found.Exit n) x other s = refl
claim_leaves a d (found.Missing k) x other s = refl
claim_leaves a d found.RoomFault x other s = refl
claim_leaves a d found.Refused x other s = refl

noted_place : (a : ℕ) (lane : ℕ) (c : Call) → ru.is_noted c ≡ true
    → PlaceStep a lane c reply.Noted
noted_place a lane (call.Launched l start.Done) h = leaves a lane (call.Launched l start.Done)
    reply.Noted refl (λ d b. refl) (λ s. refl) (λ s. refl)
noted_place a lane (call.Launched l start.RoomFault) h = leaves a lane
    (call.Launched l start.RoomFault) reply.Noted refl (λ d b. refl) (λ s. refl) (λ s. refl)
noted_place a lane (call.Launched l start.LaunchFault) h = leaves a lane
    (call.Launched l start.LaunchFault) reply.Noted refl (λ d b. refl) (λ s. refl) (λ s. refl)
noted_place a lane (call.Wrote l n how) h = leaves a lane (call.Wrote l n how) reply.Noted refl
    (λ d b. refl) (λ s. refl) (λ s. refl)
noted_place a lane (call.Committed d b how) h = Puts d b how refl refl
noted_place a lane (call.Killed l) h = leaves a lane (call.Killed l) reply.Noted refl
    (λ d b. refl) (λ s. refl) (λ s. refl)
noted_place a lane (call.Ended l how) h = leaves a lane (call.Ended l how) reply.Noted refl
    (λ d b. refl) (λ s. refl) (λ s. refl)
noted_place a lane call.Halt h = leaves a lane call.Halt reply.Noted refl
    (λ d b. refl) (λ s. refl) (λ s. refl)
noted_place a lane call.Tick h = leaves a lane call.Tick reply.Noted refl
    (λ d b. refl) (λ s. refl) (λ s. refl)
noted_place a lane _ h = absurd (cc)

win_place : (a : ℕ) (lane : ℕ) (d : ℕ) (b : Branch) (t : ℕ) (f : Found)
    → PlaceStep a lane (call.Claim d b t f) reply.Granted
win_place a lane d b t (found.Files fs) = Wins d b t fs refl refl
win_place a lane d b t (found.Exit n) = Exits d b t (found.Exit n) (λ fs e. cc) refl refl
win_place a lane d b t (found.Missing k) = Exits d b t (found.Missing k) (λ fs e. cc) refl refl
win_place a lane d b t found.RoomFault = Exits d b t found.RoomFault (λ fs e. cc) refl refl
win_place a lane d b t found.Refused = Exits d b t found.Refused (λ fs e. cc) refl refl

place_ruled : (p : Plan) (j : List Entry) (a : ℕ) (lane : ℕ) (c : Call) (x : Reply)
    → u.Ruled p j lane c x → PlaceStep a lane c x
place_ruled p j a lane c x (u.Notes d n) = noted_place a lane d n
place_ruled p j a lane c x (u.Loses d b t f other) = leaves a lane (call.Claim d b t f) reply.Lost
    refl (λ i k. refl) (claim_leaves a d f reply.Lost (λ e. cc)) (λ s. refl)
place_ruled p j a lane c x (u.Grants d b t f free may) = win_place a lane d b t f
place_ruled p j a lane c x (u.Defers d b t f free none below) = leaves a lane
    (call.Claim d b t f) reply.AgainLater refl (λ i k. refl)
    (claim_leaves a d f reply.AgainLater (λ e. cc)) (λ s. refl)
place_ruled p j a lane c x (u.Drops d b t f free none at) = leaves a lane
    (call.Claim d b t f) reply.Dropped refl (λ i k. refl)
    (claim_leaves a d f reply.Dropped (λ e. cc)) (λ s. refl)
place_ruled p j a lane c x _ = leaves a lane c x refl (λ d b. refl) (λ s. refl) (λ s. refl)

-- ---- how the words go on

grant_same_as : (e : Entry) (j : List Entry) (a : ℕ)
    → of_action a (granted_in e.call e.reply) ≡ None
    → grant_of (e ∷ j) a ≡ grant_of j a
unfolding grant_of
grant_same_as e j a h = rw h refl

commit_same_as : (e : Entry) (j : List Entry) (a : ℕ) (b : Branch) → committed_in a b e.call ≡ None
    → commit_of (e ∷ j) a b ≡ commit_of j a b
unfolding commit_of
commit_same_as e j a b h = rw h refl

commit_new : (e : Entry) (j : List Entry) (a : ℕ) (b : Branch) (how : CommitEnd)
    → e.call ≡ call.Committed a b how → commit_of j a b ≡ None
    → commit_of (e ∷ j) a b ≡ Some how
unfolding commit_of
commit_new e j a b how is none = rw (is, eq-eqb a a refl, same_branch_refl b, none) refl

pub grant_new : (e : Entry) (j : List Entry) (y : Attempt × Found)
    → granted_in e.call e.reply ≡ Some y → grant_of j y.0.action ≡ None
    → grant_of (e ∷ j) y.0.action ≡ Some y
unfolding grant_of
grant_new e j y h none = rw (h, eq-eqb y.0.action y.0.action refl, none) refl

-- the same grant, and the same end of its commit
spot_same : (j k : List Entry) (o : Option (Attempt × Found))
    → ((y : Attempt × Found) → o ≡ Some y
    → commit_of k y.0.action y.0.branch ≡ commit_of j y.0.action y.0.branch)
    → spot_by j o ≡ spot_by k o
spot_same j k None same = refl
spot_same j k (Some (t, found.Files fs)) same =
    ap (spot_of fs) (sym (same (t, found.Files fs) refl))
spot_same j k (Some (t, found.Exit n)) same = refl
spot_same j k (Some (t, found.Missing n)) same = refl
spot_same j k (Some (t, found.RoomFault)) same = refl
spot_same j k (Some (t, found.Refused)) same = refl

other_spot : (j : List Entry) (t : Attempt) (f : Found)
    → ((fs : List (List ℕ)) → f ≡ found.Files fs → ⊥) → spot_by j (Some (t, f)) ≡ Fresh
other_spot j t (found.Files fs) none = absurd (none fs refl)
other_spot j t (found.Exit n) none = refl
other_spot j t (found.Missing n) none = refl
other_spot j t found.RoomFault none = refl
other_spot j t found.Refused none = refl

no_place : (a d : ℕ) (f : Found) (x : Reply) → ((fs : List (List ℕ)) → f ≡ found.Files fs → ⊥)
    → (s : Spot) → place_by a s (claim_moves d f x) ≡ s
no_place a d (found.Files fs) x none s = absurd (none fs refl)
no_place a d (found.Exit n) x none s = refl
no_place a d (found.Missing k) x none s = refl
no_place a d found.RoomFault x none s = refl
no_place a d found.Refused x none s = refl

module _ (p : Plan) (e : Entry) (j : List Entry) (legal : Lawful p (e ∷ j)) where
  abbrev moves : Move
  moves = move_in e.lane e.call e.reply

  abbrev scripts_it : (c : Call) → e.call ≡ c → lw.in_script p j e.lane c ≡ true
  scripts_it c is = subst (λ (d : Call). lw.in_script p j e.lane d ≡ true) is legal.1.scripted

  claim_move : (d : ℕ) (b : Branch) (t : ℕ) (f : Found) → e.call ≡ call.Claim d b t f
      → e.reply ≡ reply.Granted → moves ≡ claim_moves d f reply.Granted
  claim_move d b t f is so =
      let even = claim_even p j e.lane d b t f (scripts_it (call.Claim d b t f) is) in
      (λ i. cond (even i) (proxy_move (is i) (so i)) (tap_move (is i) (so i)))

  commit_move : (d : ℕ) (b : Branch) (how : CommitEnd) → e.call ≡ call.Committed d b how
      → e.reply ≡ reply.Noted → moves ≡ PutPlace d how
  commit_move d b how is so =
      let answer = owed.commit_answers p j e.lane d b how
      (scripts_it (call.Committed d b how) is) in
      let even = (may_commit p j e.lane answer.order legal.0 answer.newest
      (wins_by d b answer.order.call answer.order.reply answer.fits)).even in
      (λ i. cond (even i) (proxy_move (is i) (so i)) (tap_move (is i) (so i)))

  -- of the action that the entry is about
  win_here : (d : ℕ) (b : Branch) (t : ℕ) (fs : List (List ℕ)) (s : Spot)
      → e.call ≡ call.Claim d b t (found.Files fs) → e.reply ≡ reply.Granted
      → place_by d s moves ≡ spot_by (e ∷ j) (grant_of (e ∷ j) d)
  win_here d b t fs s is so =
      let got : granted_in e.call e.reply ≡ Some (attempt_of d b t, found.Files fs) =
      rw (is, so) refl in
      let free = offered.is_ungranted p e j (attempt_of d b t, found.Files fs) legal got in
      let now = grant_new e j (attempt_of d b t, found.Files fs) got free.ungranted in
      let uncommitted : commit_of (e ∷ j) d b ≡ None =
      commit_same_as e j d b (rw is refl) ∙ free.uncommitted b in
      ap (place_by d s) (claim_move d b t (found.Files fs) is so)
      ∙ (ap (λ (c : Bool). cond c (Away fs) s) (eq-eqb d d refl)
      ∙ sym (ap (spot_by (e ∷ j)) now ∙ ap (spot_of fs) uncommitted))

  exit_here : (d : ℕ) (b : Branch) (t : ℕ) (f : Found) (s : Spot)
      → ((fs : List (List ℕ)) → f ≡ found.Files fs → ⊥) → e.call ≡ call.Claim d b t f
      → e.reply ≡ reply.Granted → s ≡ spot_by j (grant_of j d)
      → place_by d s moves ≡ spot_by (e ∷ j) (grant_of (e ∷ j) d)
  exit_here d b t f s none is so before =
      let got : granted_in e.call e.reply ≡ Some (attempt_of d b t, f) = rw (is, so) refl in
      let free = offered.is_ungranted p e j (attempt_of d b t, f) legal got in
      let now = grant_new e j (attempt_of d b t, f) got free.ungranted in
      ap (place_by d s) (claim_move d b t f is so)
      ∙ (no_place d d f reply.Granted none s ∙ (before ∙ (ap (spot_by j) free.ungranted
      ∙ sym (ap (spot_by (e ∷ j)) now ∙ other_spot (e ∷ j) (attempt_of d b t) f none))))

  put_here : (d : ℕ) (b : Branch) (how : CommitEnd) (s : Spot)
      → e.call ≡ call.Committed d b how → e.reply ≡ reply.Noted → s ≡ spot_by j (grant_of j d)
      → place_by d s moves ≡ spot_by (e ∷ j) (grant_of (e ∷ j) d)
  put_here d b how s is so before =
      let won = offered.is_granted_files p e j d b how legal is in
      let away : s ≡ Away won.files = before ∙ (ap (spot_by j) won.winner
      ∙ ap (spot_of won.files) won.uncommitted) in
      let still : grant_of (e ∷ j) d ≡ Some (attempt_of d b won.number, found.Files won.files) =
      grant_same_as e j d (rw is refl) ∙ won.winner in
      ap (place_by d s) (commit_move d b how is so)
      ∙ ((λ i. cond (eq-eqb d d refl i) (Back (files_of_spot (away i)) how) s)
      ∙ sym (ap (spot_by (e ∷ j)) still
      ∙ ap (spot_of won.files) (commit_new e j d b how is won.uncommitted)))

  module _ (a : ℕ) where
    same_spot : of_action a (granted_in e.call e.reply) ≡ None
        → ((y : Attempt × Found) → grant_of j a ≡ Some y
        → committed_in y.0.action y.0.branch e.call ≡ None)
        → spot_by j (grant_of j a) ≡ spot_by (e ∷ j) (grant_of (e ∷ j) a)
    same_spot none unput = spot_same j (e ∷ j) (grant_of j a)
        (λ y h. commit_same_as e j y.0.action y.0.branch (unput y h))
        ∙ ap (spot_by (e ∷ j)) (sym (grant_same_as e j a none))

    -- the entry is about the action d
    at_action : (d : ℕ) → place_in a j ≡ spot_by j (grant_of j a)
        → ((s : Spot) → s ≡ spot_by j (grant_of j d)
        → place_by d s moves ≡ spot_by (e ∷ j) (grant_of (e ∷ j) d))
        → ((d == a) ≡ false → place_by a (place_in a j) moves ≡ place_in a j)
        → ((d == a) ≡ false → spot_by j (grant_of j a) ≡ spot_by (e ∷ j) (grant_of (e ∷ j) a))
        → place_by a (place_in a j) moves ≡ spot_by (e ∷ j) (grant_of (e ∷ j) a)
    at_action d before here stays other = by_bool (d == a) (λ c. (d == a) ≡ c
        → place_by a (place_in a j) moves ≡ spot_by (e ∷ j) (grant_of (e ∷ j) a))
        (λ _ same. subst (λ (n : ℕ). (s : Spot) → s ≡ spot_by j (grant_of j n)
        → place_by n s moves ≡ spot_by (e ∷ j) (grant_of (e ∷ j) n)) (eqb-true d a same) here
        (place_in a j) before)
        (λ _ apart. stays apart ∙ (before ∙ other apart)) refl

    claim_other : (d : ℕ) (b : Branch) (t : ℕ) (f : Found) → e.call ≡ call.Claim d b t f
        → e.reply ≡ reply.Granted → (d == a) ≡ false
        → spot_by j (grant_of j a) ≡ spot_by (e ∷ j) (grant_of (e ∷ j) a)
    claim_other d b t f is so apart =
        let got : granted_in e.call e.reply ≡ Some (attempt_of d b t, f) = rw (is, so) refl in
        same_spot (ap (of_action a) got ∙ (λ i. cond (apart i) (Some (attempt_of d b t, f)) None))
        (λ y h. rw is refl)

    place_step : place_in a j ≡ spot_by j (grant_of j a) → PlaceStep a e.lane e.call e.reply
        → place_by a (place_in a j) moves ≡ spot_by (e ∷ j) (grant_of (e ∷ j) a)
    place_step before (Wins d b t fs is so) = at_action d before
        (λ s _. win_here d b t fs s is so)
        (λ apart. ap (place_by a (place_in a j)) (claim_move d b t (found.Files fs) is so)
        ∙ (λ i. cond (apart i) (Away fs) (place_in a j)))
        (claim_other d b t (found.Files fs) is so)
    place_step before (Exits d b t f none is so) = at_action d before
        (λ s h. exit_here d b t f s none is so h)
        (λ apart. ap (place_by a (place_in a j)) (claim_move d b t f is so)
        ∙ no_place a d f reply.Granted none (place_in a j))
        (claim_other d b t f is so)
    place_step before (Puts d b how is so) = at_action d before
        (λ s h. put_here d b how s is so h)
        (λ apart. ap (place_by a (place_in a j)) (commit_move d b how is so)
        ∙ (λ i. cond (apart i) (Back (files_of_spot (place_in a j)) how) (place_in a j)))
        (λ apart. same_spot (rw is refl) (λ y h.
        let of = (granted.winner p j a y legal.0 h).of_action in
        let off : (d == y.0.action) ≡ false = ap (λ n. d == n) of ∙ apart in
        ap (committed_in y.0.action y.0.branch) is
        ∙ (λ i. cond (off i && same_branch b y.0.branch) (Some how) None)))
    place_step before (Leaves n) = n.stays (place_in a j) ∙ (before
        ∙ same_spot (ap (of_action a) n.ungranted)
        (λ y h. n.uncommitted y.0.action y.0.branch))

pub place_lies : (p : Plan) (a : ℕ) (j : List Entry) → Lawful p j
    → place_in a j ≡ spot_by j (grant_of j a)
unfolding grant_of
place_lies p a [] legal = refl
place_lies p a (e ∷ j) legal = place_step p e j legal a (place_lies p a j legal.0)
    (place_ruled p j a e.lane e.call e.reply (entry_ruled p e j legal))

-- without a grant nobody took it
pub place_fresh : (p : Plan) (a : ℕ) (j : List Entry) → Lawful p j → grant_of j a ≡ None
    → place_in a j ≡ Fresh
place_fresh p a j legal none = place_lies p a j legal ∙ ap (spot_by j) none

-- with files that aren't committed yet it is away
pub place_away : (p : Plan) (j : List Entry) (a : ℕ) (b : Branch) (n : ℕ) (fs : List (List ℕ))
    → Lawful p j → grant_of j a ≡ Some (attempt_of a b n, found.Files fs)
    → commit_of j a b ≡ None → place_in a j ≡ Away fs
place_away p j a b n fs legal won none =
    place_lies p a j legal ∙ (ap (spot_by j) won ∙ ap (spot_of fs) none)
