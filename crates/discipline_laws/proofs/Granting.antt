-- Files are granted while the action's place lies fresh on the shelf, and committed by the lane
-- whose last grant they are.
use Rattle.std.proofs.Common.{◌≡◌, ℕ, ◌%◌, ◌==◌, ◌<◌, Bool, true, false, cond, ◌&&◌, List, [], ◌∷◌, length, Option, Some, None, ◌⊎◌, inl, inr, refl, ap, sym, subst, ◌∙◌}
use Rattle.std.proofs.lemmas.Bool.{and_parts, eqb-true, eq-eqb}
use Rattle.run_plan.specs.declared.plan.Branch.{Branch}
use Rattle.run_plan.specs.declared.plan.Plan.{Plan}
use Rattle.core_contract.specs.Disciplines.{IsDiscipline}
use Rattle.core_contract.specs.Discipline.{Discipline}
use Rattle.core_contract.specs.Ruled.{CameAbout, answer_after, journal_of}
use Rattle.exec_journal.specs.Lawful as lw
use Rattle.exec_journal.specs.declared.attempt.Attempt.{Attempt}
use Rattle.exec_journal.specs.declared.call.Call.{Call}
use Rattle.exec_journal.specs.declared.call.Call.TheVariants as call
use Rattle.exec_journal.specs.declared.call.CommitEnd.{CommitEnd}
use Rattle.exec_journal.specs.declared.call.Found.{Found}
use Rattle.exec_journal.specs.declared.call.Found.TheVariants as found
use Rattle.exec_journal.specs.Entry.{Entry}
use Rattle.exec_journal.specs.declared.reply.Reply.{Reply}
use Rattle.exec_journal.specs.declared.reply.Reply.TheVariants as reply
use Rattle.exec_journal.specs.Entries.{attempt_of, granted_in}
use Rattle.exec_journal.specs.Lawful.{Lawful}
use Rattle.exec_journal.specs.Rules as r
use Rattle.exec_journal.specs.Scripts.{is_commit_of}
use Rattle.exec_journal.specs.Words.{last_work, grant_of}
use Rattle.exec_journal.proofs.Begins.{same_branch_eq}
use Rattle.exec_journal.proofs.Ruled.{by_bool}
use Rattle.journal_laws.proofs.Granted as granted
use Rattle.journal_laws.proofs.Offered as offered
use Rattle.journal_laws.proofs.Owed as owed
use Rattle.journal_laws.proofs.Owed.{is_work}
use Rattle.call_laws.proofs.Calls as calls
use Rattle.core_contract.specs.Laws.{InScript, claimed_by, claimed}
use Rattle.core_contract.specs.Moves.{History, Nothing, move_of, move_in, proxy_move, tap_move}
use Rattle.core_contract.specs.Shelf.{Fresh, Away, place_at, place_then}
use Rattle.seat_desk.specs.History.{calls_by}
use Rattle.discipline_laws.proofs.Going.{flip}
use Rattle.discipline_laws.proofs.Along.{after_all, own_then, along, along_own}
use Rattle.discipline_laws.proofs.Fitting.{anywhere, lawful, scripted_so}
use Rattle.discipline_laws.proofs.Ordering.{ruled_so}
use Rattle.discipline_laws.proofs.Places.{place_entry, place_in, place_fresh, place_away, grant_new}
use Rattle.discipline_laws.proofs.Steps.{claim_even}

pub place_is : (a : ℕ) (h : History) → place_at a h ≡ place_in a (journal_of h)
place_is a h = along (place_entry a) Fresh (place_then a) (λ s e. refl) h []

-- ---- a grant

unlost : (p : Plan) (j : List Entry) (a : ℕ) (b : Branch) (t : ℕ) (f : Found)
    → r.claim_reply p j a b t f ≡ reply.Granted → r.is_other b (grant_of j a) ≡ false
unlost p j a b t f h = by_bool (r.is_other b (grant_of j a))
    (λ c. cond c reply.Lost (r.by_found p t f) ≡ reply.Granted → c ≡ false)
    (λ _ k. absurd (cc)) (λ _ k. refl) h

-- files are granted once at most for each action, and only for one of the plan
pub grants_once : (q : Discipline) → IsDiscipline q → (h : History) (lane a : ℕ) (b : Branch) (t : ℕ)
    (fs : List (List ℕ)) → CameAbout q h
    → answer_after q h lane (call.Claim a b t (found.Files fs)) ≡ reply.Granted
    → (a < length q.plan.actions) × (place_at a h ≡ Fresh)
grants_once q is h lane a b t fs came so =
    let p = q.plan in
    let j = journal_of h in
    let good = lawful q is j came.legal in
    let ruled = ruled_so q h lane (call.Claim a b t (found.Files fs)) reply.Granted so
    (λ astray. cc) in
    let may = anywhere q j lane (call.Claim a b t (found.Files fs)) ruled.0 in
    let won = sym (is.plain j lane (call.Claim a b t (found.Files fs)) refl) ∙ ruled.1 in
    let open_yet = calls.grants_open p j lane a b t (found.Files fs) good may
    (unlost p j a b t (found.Files fs) won) in (
      calls.claim_within p j lane a b t (found.Files fs) good may,
      place_is a h ∙ place_fresh p a j good open_yet.ungranted,
    )

-- ---- a lane's last grant

abbrev claim_entry : List (List ℕ) → Entry → List (List ℕ)
claim_entry fs e = claimed_by fs (move_in e.lane e.call e.reply)

abbrev claimed_in : ℕ → List Entry → List (List ℕ)
claimed_in lane j = after_all (own_then lane claim_entry) [] j

claimed_is : (lane : ℕ) (h : History)
    → claimed (calls_by lane h) ≡ claimed_in lane (journal_of h)
claimed_is lane h = along_own lane claim_entry [] (λ fs e. claimed_by fs (move_of e))
    (λ fs e. refl) h []

-- a Look and a Halt claim nothing
idle_claims : (lane : ℕ) (c : Call) (x : Reply) → is_work c ≡ false → (fs : List (List ℕ))
    → claimed_by fs (move_in lane c x) ≡ fs
idle_claims lane (call.Look w) x h fs = by_bool (lane % 2 == 0)
    (λ b. claimed_by fs (cond b Nothing Nothing) ≡ fs) (λ _. refl) (λ _. refl)
idle_claims lane call.Halt x h fs = by_bool (lane % 2 == 0)
    (λ b. claimed_by fs (cond b (proxy_move call.Halt x) Nothing) ≡ fs) (λ _. by x) (λ _. refl)
  where
    by : (x : Reply) → claimed_by fs (proxy_move call.Halt x) ≡ fs
    by reply.Noted = refl
    by _ = refl
idle_claims lane _ x h fs = absurd (cc)

found_of : Option (Attempt × Found) → Found
found_of (Some x) = x.1
found_of None = found.Refused

action_of : Option (Attempt × Found) → ℕ
action_of (Some x) = x.0.action
action_of None = 0

-- a grant of files is a Claim's
pub record IsFilesClaim (c : Call) (x : Reply) (t : Attempt) (fs : List (List ℕ)) : Type 0 where
  pub action : ℕ
  pub branch : Branch
  pub number : ℕ
  pub is : c ≡ call.Claim action branch number (found.Files fs)
  pub so : x ≡ reply.Granted
  pub of : action ≡ t.action

pub granted_files : (c : Call) (x : Reply) (t : Attempt) (fs : List (List ℕ))
    → granted_in c x ≡ Some (t, found.Files fs) → IsFilesClaim c x t fs
unfolding found_of action_of
granted_files (call.Claim a b n f) reply.Granted t fs h = record {
  action = a;
  branch = b;
  number = n;
  is = ap (λ (g : Found). call.Claim a b n g) (ap found_of h);
  so = refl;
  of = ap action_of h;
}
granted_files (call.Claim a b n f) _ t fs h = absurd (cc)
granted_files _ _ t fs h = absurd (cc)

granted_claims : (p : Plan) (e : Entry) (j : List Entry) (t : Attempt) (fs gs : List (List ℕ))
    → Lawful p (e ∷ j) → granted_in e.call e.reply ≡ Some (t, found.Files fs)
    → claimed_by gs (move_in e.lane e.call e.reply) ≡ fs
granted_claims p e j t fs gs legal h =
    let g = granted_files e.call e.reply t fs h in
    let even = claim_even p j e.lane g.action g.branch g.number (found.Files fs)
    (subst (λ (d : Call). lw.in_script p j e.lane d ≡ true) g.is legal.1.scripted) in
    (λ i. claimed_by gs
    (cond (even i) (proxy_move (g.is i) (g.so i)) (tap_move (g.is i) (g.so i))))

-- its newest work is a grant of files
record WinsFiles (p : Plan) (j : List Entry) (lane : ℕ) (t : Attempt) (fs : List (List ℕ))
    : Type 0 where
  granted_it : grant_of j t.action ≡ Some (t, found.Files fs)
  claimed_it : claimed_in lane j ≡ fs

newest_files : (p : Plan) (j : List Entry) (lane : ℕ) (d : Entry) (t : Attempt)
    (fs : List (List ℕ)) → Lawful p j → last_work j lane ≡ Some d
    → granted_in d.call d.reply ≡ Some (t, found.Files fs) → WinsFiles p j lane t fs
unfolding last_work
newest_files p [] lane d t fs legal h is = absurd (cc)
newest_files p (e ∷ j) lane d t fs legal h is = by (owed.newest_cases e j lane d h)
    (λ m. newest_files p j lane d t fs legal.0 m is)
  where
    by : ((e ≡ d) × (e.lane ≡ lane) × (is_work e.call ≡ true))
        ⊎ ((((e.lane == lane) && is_work e.call) ≡ false) × (last_work j lane ≡ Some d))
        → (last_work j lane ≡ Some d → WinsFiles p j lane t fs) → WinsFiles p (e ∷ j) lane t fs
    by (inl own) ih =
        let mine : granted_in e.call e.reply ≡ Some (t, found.Files fs) =
        subst (λ (x : Entry). granted_in x.call x.reply ≡ Some (t, found.Files fs))
        (sym own.0) is in
        let free = offered.is_ungranted p e j (t, found.Files fs) legal mine in record {
          granted_it = grant_new e j (t, found.Files fs) mine free.ungranted;
          claimed_it = ap (λ (b : Bool). cond b (claim_entry (claimed_in lane j) e)
              (claimed_in lane j)) (eq-eqb lane e.lane (sym own.1))
              ∙ granted_claims p e j t fs (claimed_in lane j) legal mine;
        }
    by (inr before) ih =
        let w = ih before.1 in record {
          granted_it = granted.grant_same e j t.action (t, found.Files fs) w.granted_it;
          claimed_it = by_bool (lane == e.lane) (λ b. (lane == e.lane) ≡ b
              → cond b (claim_entry (claimed_in lane j) e) (claimed_in lane j) ≡ fs)
              (λ _ own. idle_claims e.lane e.call e.reply
              (ap (λ (b : Bool). b && is_work e.call) (sym (flip lane e.lane true own)) ∙ before.0)
              (claimed_in lane j) ∙ w.claimed_it)
              (λ _ other. w.claimed_it) refl;
        }

files_of : (a : ℕ) (b : Branch) (d : Call) (x : Reply) → is_commit_of a b d x ≡ true
    → (n : ℕ) × (fs : List (List ℕ)) × (granted_in d x ≡ Some (attempt_of a b n, found.Files fs))
files_of a b (call.Claim m n t (found.Files fs)) reply.Granted h =
    let parts = and_parts (m == a) _ h in
    let i = eqb-true m a parts.0 in let w = same_branch_eq n b parts.1 in
    (t, fs, (λ z. Some (attempt_of (i z) (w z) t, found.Files fs)))
files_of a b _ _ h = absurd (cc)

-- a Committed comes from the lane that was granted the action's files, and these are its last
pub commits_own : (q : Discipline) → IsDiscipline q → (h : History) (lane a : ℕ) (b : Branch) (how : CommitEnd)
    → CameAbout q h → InScript (answer_after q) h lane (call.Committed a b how)
    → place_at a h ≡ Away (claimed (calls_by lane h))
commits_own q is h lane a b how came fit =
    let p = q.plan in
    let j = journal_of h in
    let good = lawful q is j came.legal in
    let may = anywhere q j lane (call.Committed a b how) (scripted_so q h lane (call.Committed a b how) fit) in
    let answer = owed.commit_answers p j lane a b how may in
    let won = files_of a b answer.order.call answer.order.reply answer.fits in
    let wins = newest_files p j lane answer.order (attempt_of a b won.0) won.1 good
    answer.newest won.2 in
    let due = offered.is_granted_files p (calls.next_entry p j lane (call.Committed a b how)) j
    a b how (calls.next_legal p j lane (call.Committed a b how) good may refl refl) refl in
    place_is a h ∙ (place_away p j a b won.0 won.1 good wins.granted_it due.uncommitted
    ∙ ap Away (sym (claimed_is lane h ∙ wins.claimed_it)))
