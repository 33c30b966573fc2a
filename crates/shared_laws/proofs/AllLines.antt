-- All lines that were ordered, with their berths: each is of its berth, and each berth's last line
-- is among them.
use Rattle.std.proofs.Common.{◌≡◌, ℕ, ◌/◌, ◌==◌, cond, List, [], ◌∷◌, Option, Some, None, option_map, inl, inr, refl, ap, subst, ◌∙◌}
use Rattle.std.proofs.lemmas.Bool.{eqb-true}
use Rattle.run_plan.specs.declared.plan.Plan.{Plan}
use Rattle.exec_journal.specs.declared.attempt.Attempt.{Attempt}
use Rattle.exec_journal.specs.declared.reply.Reply.{Reply}
use Rattle.exec_journal.specs.declared.reply.Reply.TheVariants as reply
use Rattle.exec_journal.specs.Entry.{Entry}
use Rattle.exec_journal.specs.Entries.{launch_in}
use Rattle.exec_journal.specs.Facts.{IsOfBerth, OfBerth, reply_line}
use Rattle.exec_journal.specs.Lawful.{Lawful}
use Rattle.exec_journal.specs.Words.{last_line}
use Rattle.exec_journal.proofs.Lines.{lines_named, of_berth_more}
use Rattle.exec_journal.proofs.Ruled.{by_bool}
use Rattle.list_lemmas.specs.Options.{or_else}
use Rattle.placed_rules.specs.Needs.{all_lines, line_with}
use Rattle.shared_laws.proofs.Members.{Member, more_new, more_old, one_more}

launch_names : (x : Reply) (y : ℕ × Attempt) → launch_in x ≡ Some y → reply_line x ≡ Some y.0
launch_names (reply.Launch l a b t) y h = ap (option_map (λ z. z.0)) h
launch_names _ y h = absurd (cc)

new_line : (p : Plan) (e : Entry) (j : List Entry) (x : ℕ × ℕ) → Lawful p (e ∷ j)
    → line_with e ≡ Some x → IsOfBerth (e ∷ j) x.1 x.0
new_line p e j x legal h = by (launch_in e.reply) refl h
  where
    by : (o : Option (ℕ × Attempt)) → launch_in e.reply ≡ o
        → option_map (λ y. (e.lane / 2, y.0)) o ≡ Some x → IsOfBerth (e ∷ j) x.1 x.0
    by None is g = absurd (cc)
    by (Some y) is g =
        let same : (e.lane / 2, y.0) ≡ x = cc in
        let own : IsOfBerth (e ∷ j) y.0 (e.lane / 2) =
        subst (λ (o : Option ℕ). OfBerth (e ∷ j) o (e.lane / 2)) (launch_names e.reply y is)
        (lines_named p (e ∷ j) legal).1.replied in
        subst (λ (z : ℕ × ℕ). IsOfBerth (e ∷ j) z.1 z.0) same own

pub line_own : (p : Plan) (j : List Entry) (x : ℕ × ℕ) → Lawful p j → Member x (all_lines j)
    → IsOfBerth j x.1 x.0
unfolding all_lines
line_own p [] x legal at = absurd at
line_own p (e ∷ j) x legal at = elim (one_more (line_with e) x (all_lines j) at) [
  | inl now ↦ new_line p e j x legal now
  | inr before ↦ of_berth_more e j x.1 x.0 (lines_named p (e ∷ j) legal).1.numbered
      (line_own p j x legal.0 before)
]

pub last_among : (j : List Entry) (w l : ℕ) → last_line j w ≡ Some l → Member (w, l) (all_lines j)
unfolding all_lines last_line
last_among [] w l h = absurd (cc)
last_among (e ∷ j) w l h =
    by_bool (e.lane / 2 == w) (λ b. (e.lane / 2 == w) ≡ b → or_else (cond b (option_map (λ x. x.0)
    (launch_in e.reply)) None) (last_line j w) ≡ Some l → Member (w, l) (all_lines (e ∷ j)))
    (λ _ same g. now (launch_in e.reply) refl (eqb-true (e.lane / 2) w same) g
    (λ k. last_among j w l k))
    (λ _ _ g. more_old (line_with e) (w, l) (all_lines j) (last_among j w l g)) refl h
  where
    now : (o : Option (ℕ × Attempt)) → launch_in e.reply ≡ o → e.lane / 2 ≡ w
        → or_else (option_map (λ x. x.0) o) (last_line j w) ≡ Some l
        → (last_line j w ≡ Some l → Member (w, l) (all_lines j))
        → Member (w, l) (all_lines (e ∷ j))
    now None is same g ih = more_old (line_with e) (w, l) (all_lines j) (ih g)
    now (Some x) is same g ih =
        let line : x.0 ≡ l = cc in
        more_new (line_with e) (w, l) (all_lines j)
        (ap (option_map (λ y. (e.lane / 2, y.0))) is ∙ λ i. Some (same i, line i))
