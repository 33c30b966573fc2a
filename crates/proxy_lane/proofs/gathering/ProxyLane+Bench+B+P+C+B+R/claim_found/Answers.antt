use Rattle.std.proofs.Common.{◌≡◌, inl, inr, ℕ, ◌<◌, ◌^◌, ◌==◌, Bool, true, false, not, ◌&&◌, int_eq, length, Option, Some, Result, Ok, Err, List, [], ◌∷◌, ◌++◌, refl, ap, sym, subst, ◌∙◌}
use Rattle.seat_desk.specs.History.{entry}
use Rattle.seat_desk.specs.Passes.{mine, basis, seen}
use Rattle.exec_journal.specs.declared.call.Call.TheVariants as call
use Rattle.exec_journal.specs.declared.reply.Reply.TheVariants as reply
use Rattle.exec_journal.specs.declared.reply.Reply.{Reply}
use Rattle.exec_journal.specs.declared.attempt.Attempt.{Attempt}
use Rattle.exec_journal.specs.declared.call.Found.{Found}
use Rattle.exec_journal.specs.declared.call.Found.TheVariants as found
use Rattle.outside.specs.Told.{PlaceTold}
use Rattle.core_contract.specs.Moves.{History}
use Rattle.core_contract.specs.Shelf.{Fresh}
use Rattle.std.specs.Prelude.{if◌then◌else◌, pos, OnErr}
use Rattle.std.proofs.lemmas.Bool.{eqb-true}
use Rattle.std.proofs.lemmas.Result.{err_from_is_err_and}
use Rattle.core_contract.specs.Discipline.{Discipline, outputs_in}
use Rattle.exec_journal.specs.Entries.{same_attempt}
use Rattle.core_contract.specs.Duties.{Duty, Asks, Launches, Sends, Cancels, Gathers, Commits, Kills, Left, duty_of, may_do}
use Rattle.core_machine.specs.Objects.{IsPlaceAt}
use Rattle.proxy_calls.specs.Claims.{claim_of, IsGranted, OwesCommit}
use Rattle.proxy_words.specs.declared.halt.ProxyHalt.{ProxyHalt}
use Rattle.proxy_laws.specs.Steps.{files_in, HasFiles, IsCauseOfClaim}
use Rattle.proxy_laws.proofs.Sends.{starts_later}
use Rattle.proxy_laws.proofs.Serving.{proxy_on, by_rules}
use Rattle.proxy_lane.proofs.Siting.{same_on, stays_at}
use Rattle.proxy_lane.proofs.gathering.ProxyLane+Bench+B+P+C+B+R.claim_found.Goals as goal

-- what is granted is files, which are to be committed to the place
some_granted : {P : Type 0} (told : P → PlaceTold) (outputs : List (List ℕ)) (t : Attempt) (place : P)
    (f : Found) (r : Reply) (own : History) → IsGranted told outputs t (Some place) f r own
    → OwesCommit t (files_in f) own × IsPlaceAt t.action outputs Fresh (told place)
some_granted told outputs t place (found.Exit y) r own x = absurd x
some_granted told outputs t place (found.Missing n) r own x = absurd x
some_granted told outputs t place found.RoomFault r own x = absurd x
some_granted told outputs t place found.Refused r own x = absurd x
some_granted told outputs t place (found.Files fs) reply.Granted own x = x
some_granted told outputs t place (found.Files fs) (reply.Launch l a b k) own x = absurd x
some_granted told outputs t place (found.Files fs) (reply.Send l n a b k) own x = absurd x
some_granted told outputs t place (found.Files fs) (reply.Cancel l n) own x = absurd x
some_granted told outputs t place (found.Files fs) (reply.Gather l n a b k y z) own x = absurd x
some_granted told outputs t place (found.Files fs) (reply.Kill l y) own x = absurd x
some_granted told outputs t place (found.Files fs) reply.Stop own x = absurd x
some_granted told outputs t place (found.Files fs) reply.Idle own x = absurd x
some_granted told outputs t place (found.Files fs) reply.Noted own x = absurd x
some_granted told outputs t place (found.Files fs) (reply.File f) own x = absurd x
some_granted told outputs t place (found.Files fs) reply.NoFile own x = absurd x
some_granted told outputs t place (found.Files fs) reply.Lost own x = absurd x
some_granted told outputs t place (found.Files fs) reply.Dropped own x = absurd x
some_granted told outputs t place (found.Files fs) reply.AgainLater own x = absurd x
some_granted told outputs t place (found.Files fs) (reply.Line l) own x = absurd x
some_granted told outputs t place (found.Files fs) (reply.Matched a b k) own x = absurd x
some_granted told outputs t place (found.Files fs) (reply.Late a b k) own x = absurd x
some_granted told outputs t place (found.Files fs) reply.Greeted own x = absurd x
some_granted told outputs t place (found.Files fs) (reply.Stray y) own x = absurd x
some_granted told outputs t place (found.Files fs) (reply.Breach y) own x = absurd x
some_granted told outputs t place (found.Files fs) reply.Astray own x = absurd x
some_granted told outputs t place (found.Files fs) reply.NoMemory own x = absurd x

-- files that may be claimed are as many as the outputs
second : (a b : Bool) → (a && b) ≡ true → b ≡ true
second true b e = e
second false b e = absurd (cc)

files_fit : (n outputs : ℕ) (zero refused : Bool)
    → (if not zero then false else if refused then false else n == outputs) ≡ true → n ≡ outputs
files_fit n outputs true false e = eqb-true n outputs e
files_fit n outputs true true e = absurd (cc)
files_fit n outputs false refused e = absurd (cc)

claim_fits : (discipline : Discipline) (w : ℕ) (s : Duty) (t : Attempt) (fs : List (List ℕ))
    → may_do discipline w s (claim_of t (found.Files fs)) ≡ true
    → length fs ≡ length (outputs_in discipline.plan t.action)
claim_fits discipline w (Gathers l n u exit refused) t fs e =
    files_fit (length fs) (length (outputs_in discipline.plan t.action)) (int_eq exit (pos 0)) refused
    (second (same_attempt t u) _ e)
claim_fits discipline w Asks t fs e = absurd (cc)
claim_fits discipline w Left t fs e = absurd (cc)
claim_fits discipline w (Launches l u) t fs e = absurd (cc)
claim_fits discipline w (Sends l n u) t fs e = absurd (cc)
claim_fits discipline w (Cancels l n) t fs e = absurd (cc)
claim_fits discipline w (Commits a b gs) t fs e = absurd (cc)
claim_fits discipline w (Kills l) t fs e = absurd (cc)

granted_fits : {P : Type 0} (told : P → PlaceTold) (discipline : Discipline) (w : ℕ) (s : Duty) (t : Attempt)
    (place : P) (f : Found) (r : Reply) (own : History)
    → IsGranted told (outputs_in discipline.plan t.action) t (Some place) f r own
    → may_do discipline w s (claim_of t f) ≡ true
    → length (files_in f) ≡ length (outputs_in discipline.plan t.action)
granted_fits told discipline w s t place (found.Files fs) r own x may = claim_fits discipline w s t fs may
granted_fits told discipline w s t place (found.Exit y) r own x may = absurd x
granted_fits told discipline w s t place (found.Missing n) r own x may = absurd x
granted_fits told discipline w s t place found.RoomFault r own x may = absurd x
granted_fits told discipline w s t place found.Refused r own x may = absurd x

-- what is said of an error holds where there is no answer
else_err : {T E : Type 0} (r : Result T E) (P : Type 0) → OnErr r P → ((x : T) → r ≡ Ok x → ⊥) → P
else_err (Ok x) P said none = absurd (none x refl)
else_err (Err e) P said none = said

pub claim-requires-clause-lane : goal.claim-requires-clause-lane
claim-requires-clause-lane g c = c.requires.at_site.lane

pub claim-requires-clause-may : goal.claim-requires-clause-may
claim-requires-clause-may g c = c.requires.may

pub commit_files-requires-clause-lane : goal.commit_files-requires-clause-lane
commit_files-requires-clause-lane g c = proxy_on g.C.Rules.discipline c.args.self.now.site.berth
    c.args.self.now.caller.pass c.claim.new.caller.pass c.claim.ensures.same c.requires.at_site.lane

pub commit_files-requires-clause-may : goal.commit_files-requires-clause-may
commit_files-requires-clause-may g c =
    let p = c.args.self.now.caller.pass in
    let p1 = c.claim.new.caller.pass in
    let t = c.args.attempt in
    let f = c.args.found in
    let told = g.P.Place.told in
    let discipline = g.C.Rules.discipline (basis p) in
    let outputs = outputs_in discipline.plan t.action in
    let work = c.args.work.now.outputs in
    let paths = c.as_slice-in-Some.ensures in
    let claimed = c.in_ok-place.ensures.claimed in
    let granted = subst (λ (o : Option g.row.P.Denot). IsGranted told outputs t o f claimed.reply (mine p1))
    c.in-Some.is claimed.granted in
    let owes = some_granted told outputs t c.in-Some.place f claimed.reply (mine p1) granted in
    let copies = c.as_slice.ensures.value ∙ c.in-Ok.ensures.ok in
    let of : outputs ≡ work = sym c.requires.of_action.same_outputs in
    record {
      owes = subst (λ (fs : List (List ℕ)). OwesCommit t fs (mine p1)) (sym copies) owes.0;
      outputs = by_rules (λ q. outputs_in (g.C.Rules.discipline q).plan t.action ≡ work) p p1 c.claim.ensures.same of
          ∙ sym paths;
      fits = ap length copies
          ∙ (granted_fits told discipline c.args.self.now.site.berth (duty_of (mine p)) t c.in-Some.place f claimed.reply
          (mine p1) granted c.requires.may ∙ ap length (of ∙ sym paths));
      few = subst (λ (xs : List (List ℕ)). length xs < 2 ^ 32) (sym paths) c.requires.of_action.few;
      place = subst (λ (xs : List (List ℕ)). IsPlaceAt t.action xs Fresh (told c.in-Some.place))
          (of ∙ sym paths) owes.1;
    }

pub returns-in-Some : goal.returns-in-Some
returns-in-Some g c =
    let p = c.args.self.now.caller.pass in
    let p1 = c.claim.new.caller.pass in
    let p2 = c.commit_files.new.caller.pass in
    let t = c.args.attempt in
    let f = c.args.found in
    let told = g.P.Place.told in
    let outputs = outputs_in (g.C.Rules.discipline (basis p)).plan t.action in
    let claimed = c.in_ok-place.ensures.claimed in
    let granted = subst (λ (o : Option g.row.P.Denot). IsGranted told outputs t o f claimed.reply (mine p1))
    c.in-Some.is claimed.granted in
    let owes = some_granted told outputs t c.in-Some.place f claimed.reply (mine p1) granted in
    let done = c.commit_files.ensures.committed in
    let made = subst (λ (n : ℕ). mine p2 ≡ mine p1
    ++ entry n (call.Committed t.action t.branch done.0) reply.Noted ∷ []) c.claim.ensures.same.1
    done.1.1 in
    record {
      same = record { pass = same_on p p1 p2 c.claim.ensures.same c.commit_files.ensures.same; site = refl };
      hands = refl;
      claims = (
        c.commit_files.ensures.asks,
        (
          starts_later (seen p) (seen p1) (seen p2) claimed.made.0 done.1.0,
          (claimed.reply, mine p1, claimed.made.1, inr (owes.0.duty, (done.0, made))),
        ),
      );
      refused = tt;
    }

pub returns : goal.returns
returns g c =
    let p = c.args.self.now.caller.pass in
    let p1 = c.claim.new.caller.pass in
    let t = c.args.attempt in
    let claimed = c.in_ok-place.ensures.claimed in
    record {
      same = record { pass = c.claim.ensures.same; site = refl };
      hands = refl;
      claims = (
        subst (λ (o : Option g.row.P.Denot). IsGranted g.P.Place.told (outputs_in (g.C.Rules.discipline (basis p)).plan t.action)
            t o c.args.found claimed.reply (mine p1)) c.in-None.is claimed.granted,
        (claimed.made.0, (claimed.reply, mine p1, claimed.made.1, inl refl)),
      );
      refused = tt;
    }

pub returns-in_err-place : goal.returns-in_err-place
returns-in_err-place g c =
    let x = c.in_err-place.ensures.refused in
    let e = err_from_is_err_and c.from_residual.result c.from_residual.ensures.1 in
    rw (e.1, e.2) (record {
      same = record { pass = c.claim.ensures.same; site = refl };
      hands = refl;
      claims = tt;
      refused = (
        x.1,
        subst (λ (by : ProxyHalt). IsCauseOfClaim c.args.attempt c.args.found by) (sym x.0) refl,
      );
    })

pub returns-in_default : goal.returns-in_default
returns-in_default g c =
    let stays = stays_at c.args.self.now.caller.pass in
    record {
      same = record { pass = stays.same; site = refl };
      hands = refl;
      claims = tt;
      refused = (stays.none, else_err c.copies_of.result (HasFiles c.args.found) c.copies_of.ensures.err c.in_default.not-Ok);
    }
