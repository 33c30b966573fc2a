-- An order's attempt is run by the group of a line of the berth, or launched.
use Rattle.std.proofs.Common.{◌≡◌, ℕ, ◌/◌, ◌==◌, Bool, true, List, [], ◌∷◌, Option, Some, inl, inr, refl, sym, ap, subst, ◌∙◌, zero, suc}
use Rattle.std.specs.Prelude.{slice_get, ℤ}
use Rattle.std.proofs.lemmas.Bool.{eqb-true}
use Rattle.run_plan.specs.declared.plan.Branch.{Branch}
use Rattle.run_plan.specs.declared.plan.Plan.{Plan}
use Rattle.exec_journal.specs.declared.attempt.Attempt.{Attempt}
use Rattle.exec_journal.specs.declared.call.Answer.{Answer}
use Rattle.exec_journal.specs.declared.call.Call.{Call}
use Rattle.exec_journal.specs.declared.call.Call.TheVariants as call
use Rattle.exec_journal.specs.declared.reply.Reply.{Reply}
use Rattle.exec_journal.specs.declared.reply.Reply.TheVariants as reply
use Rattle.exec_journal.specs.Entry.{Entry}
use Rattle.exec_journal.specs.Entries.{Request, attempt_of, consumed_in, launch_in}
use Rattle.exec_journal.specs.Facts.{IsOfBerth, OfBerth}
use Rattle.exec_journal.specs.Lawful.{Asked, Lawful}
use Rattle.exec_journal.specs.Lawful as lw
use Rattle.exec_journal.specs.Seated.{group_for, group_on}
use Rattle.exec_journal.specs.Words.{last_line, sends}
use Rattle.exec_journal.proofs.Histories.{AllOf, AtSome}
use Rattle.exec_journal.proofs.Lines.{last_line_own, lines_named, of_berth_more, script_own}
use Rattle.exec_journal.proofs.Ruled.{For, GatherFor, gathers_from}
use Rattle.journal_laws.proofs.Keeping as ke
use Rattle.journal_laws.proofs.Places as places
use Rattle.journal_laws.proofs.Requests as q
use Rattle.call_laws.specs.Moments.{BranchOf}
use Rattle.call_laws.proofs.Reports.{grouped}
use Rattle.core_contract.specs.Laws.{OrderFits, RunsOn}

-- the attempt is of the group of a line of the berth
pub record IsOnLine (p : Plan) (j : List Entry) (w : ℕ) (t : Attempt) : Type 0 where
  pub line : ℕ
  pub own : IsOfBerth j line w
  pub group : group_for p t ≡ group_on p j line

stays_on : (p : Plan) (e : Entry) (j : List Entry) (w : ℕ) (t : Attempt) → Lawful p (e ∷ j)
    → IsOnLine p j w t → IsOnLine p (e ∷ j) w t
stays_on p e j w t legal on =
    let at = on.own.owner.2 in
    let later = q.launch_later p e j on.line on.own.owner.0 on.own.owner.1 legal at in
    record {
      line = on.line;
      own = of_berth_more e j on.line w (lines_named p (e ∷ j) legal).1.numbered on.own;
      group = on.group ∙ (q.group_is p j on.line on.own.owner.0 on.own.owner.1 at
          ∙ sym (q.group_is p (e ∷ j) on.line on.own.owner.0 on.own.owner.1 later));
    }

-- ---- so is a match's attempt

each_at : (P : Request → Type 0) (xs : List Request) (i : ℕ) (x : Request) → AllOf P xs
    → slice_get xs i ≡ Some x → P x
each_at P [] i x all at = absurd (cc)
each_at P (y ∷ ys) zero x all at = let same : y ≡ x = cc in subst P same all.0
each_at P (y ∷ ys) (suc i) x all at = each_at P ys i x all.1 at

-- the answer's line is the berth's, and its request is of the line's group
answered_on : (p : Plan) (e : Entry) (j : List Entry) (l : ℕ) (x : Answer) (t : Attempt)
    → Lawful p (e ∷ j) → e.call ≡ call.Answer l x → consumed_in e.reply ≡ Some t
    → IsOnLine p j (e.lane / 2) t
answered_on p e j l x t legal is takes =
    let of_berth : IsOfBerth j l (e.lane / 2) = script_own p j e.lane (call.Answer l x)
    (subst (λ (c : Call). lw.in_script p j e.lane c ≡ true) is legal.1.scripted)
    (lines_named p j legal.0) in
    let found = places.answered_place p e j l x t legal is takes in
    let group = each_at (λ r. BranchOf p r.attempt (group_on p j l)) (sends j l) found.3.place
    found.0 (grouped p j l (e.lane / 2) legal.0 of_berth) found.3.is in
    record { line = l; own = of_berth; group = ap (group_for p) (sym found.1) ∙ group }

-- the Answer that was matched with it
record Gathered (t : Attempt) (c : Call) (y : Reply) : Type 0 where
  line : ℕ
  answer : Answer
  is : c ≡ call.Answer line answer
  takes : consumed_in y ≡ Some t

gathered_for : (k : List Entry) (c : Call) (y x : Reply) (l : ℕ) (n : ℤ) (a : ℕ) (b : Branch)
    (t : ℕ) (exit : ℤ) (refused : Bool) → GatherFor k c y x → x ≡ reply.Gather l n a b t exit refused
    → Gathered (attempt_of a b t) c y
gathered_for k c y x l n a b t exit refused (For m z d e u waits) is =
    let action : d ≡ a = cc in let branch : e ≡ b = cc in let number : u ≡ t = cc in
    record {
      line = m;
      answer = z;
      is = refl;
      takes = λ i. Some (attempt_of (action i) (branch i) (number i));
    }

match_on : (p : Plan) (w : ℕ) (k j : List Entry) (l : ℕ) (n : ℤ) (a : ℕ) (b : Branch) (t : ℕ)
    (exit : ℤ) (refused : Bool) → Lawful p j
    → AtSome (λ _ e. ((e.lane / 2 == w) ≡ true)
    × GatherFor k e.call e.reply (reply.Gather l n a b t exit refused)) j
    → IsOnLine p j w (attempt_of a b t)
match_on p w k [] l n a b t exit refused legal some = absurd some
match_on p w k (e ∷ j) l n a b t exit refused legal (inl here) =
    let g = gathered_for k e.call e.reply _ l n a b t exit refused here.1 refl in
    stays_on p e j w (attempt_of a b t) legal
    (subst (λ i. IsOnLine p j i (attempt_of a b t)) (eqb-true (e.lane / 2) w here.0)
    (answered_on p e j g.line g.answer (attempt_of a b t) legal g.is g.takes))
match_on p w k (e ∷ j) l n a b t exit refused legal (inr more) =
    stays_on p e j w (attempt_of a b t) legal
    (match_on p w k j l n a b t exit refused legal.0 more)

-- ---- and each order's

module _ (p : Plan) (j : List Entry) (w : ℕ) (remote : Bool) (legal : Lawful p j)
    (lines : (t : Attempt) → IsOnLine p j w t → RunsOn p remote t) where
  sent_on_line : (l : ℕ) (t : Attempt) → last_line j w ≡ Some l → lw.NextOn p j l t
      → IsOnLine p j w t
  sent_on_line l t at next =
      let of_berth : IsOfBerth j l w = subst (λ (o : Option ℕ). OfBerth j o w) at
      (last_line_own w j (lines_named p j legal)) in
      record {
        line = l;
        own = of_berth;
        group = ke.group_there p j l of_berth.owner.0 of_berth.owner.1 t legal of_berth.owner.2
            next;
      }

  pub order_fits : (x : Reply) → Asked p j w x
      → ((y : ℕ × Attempt) → launch_in x ≡ Some y → RunsOn p remote y.1) → OrderFits p remote x
  order_fits x (lw.Launches g t free goes none) launched = launched (_, t) refl
  order_fits x (lw.Sends l t at alive goes none) launched =
      lines t (sent_on_line l t at goes)
  order_fits x (lw.Gathers l n a b t exit refused next over) launched =
      lines (attempt_of a b t)
      (match_on p w j j l n a b t exit refused legal (gathers_from j w _ next))
  order_fits x (lw.Quits l at run over) launched = tt
  order_fits x (lw.Stops over gone) launched = tt
  order_fits x (lw.KillsBroken l y at run broken over) launched = tt
  order_fits x (lw.KillsUnwanted l at run one none unwanted over) launched = tt
  order_fits x (lw.Cancels l q at alive can which none) launched = tt
  order_fits x (lw.Evicts l at alive empty free none) launched = tt
  order_fits x lw.Idles launched = tt
