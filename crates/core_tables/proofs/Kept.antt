-- How the table follows a journal.
use Rattle.std.proofs.Common.{◌≡◌, ℕ, ◌<◌, ◌≤◌, ◌==◌, Bool, true, false, ◌&&◌, cond, List, [], ◌∷◌, length, get_or, Option, Some, None, ◌⊎◌, inl, inr, refl, ap, sym, subst, ◌∙◌, arith}
use Rattle.std.specs.Prelude.{slice_get}
use Rattle.std.proofs.lemmas.Bool.{eqb-true, eq-eqb}
use Rattle.std.proofs.lemmas.Option.{slice_get_cases, slice_get_within}
use Rattle.run_plan.specs.declared.plan.Branch.{Branch}
use Rattle.run_plan.specs.declared.plan.Branch.TheVariants.{Local, Remote}
use Rattle.run_plan.specs.declared.plan.Plan.{Plan}
use Rattle.run_plan.specs.declared.plan.PlanAction.{PlanAction}
use Rattle.exec_journal.specs.declared.attempt.Attempt.{Attempt}
use Rattle.exec_journal.specs.declared.call.Answer.{Answer}
use Rattle.exec_journal.specs.declared.call.Call.{Call}
use Rattle.exec_journal.specs.declared.call.Call.TheVariants as call
use Rattle.exec_journal.specs.declared.call.Found.{Found}
use Rattle.exec_journal.specs.declared.call.Found.TheVariants as found
use Rattle.exec_journal.specs.Entry.{Entry}
use Rattle.exec_journal.specs.declared.reply.Reply.{Reply}
use Rattle.exec_journal.specs.declared.reply.Reply.TheVariants as reply
use Rattle.exec_journal.specs.Entries.{attempt_of, granted_in, is_branch_of, same_branch}
use Rattle.exec_journal.specs.Rules.{files_of_grant}
use Rattle.exec_journal.specs.Words.{grant_of, of_action}
use Rattle.exec_journal.proofs.Ruled.{by_bool}
use Rattle.list_lemmas.specs.Options.{or_else, unless_before}
use Rattle.core_tables.specs.declared.files.Slot.{Slot}
use Rattle.core_tables.specs.Slots.{AreNew, Facts, Filled, Follows, FoundFiles, Granted, IsNewFiles, Matched, RowFilled, Tells, file_for, other_of, outputs_at, outputs_on, rows_of}
use Rattle.core_tables.specs.Stands.{RowsStand, Stands, answer_file, match_for, newest_match}

abbrev Content : Type 0
Content = ℕ → ℕ → Option (List ℕ)

module _ (p : Plan) where
  told_same : (slots : List Slot) (n : ℕ) (c d : ℕ → Option (List ℕ)) → ((o : ℕ) → c o ≡ d o)
      → Filled slots n c → Filled slots n d
  told_same slots n c d same st = record {
    count = st.count;
    each = λ o x h. subst (Tells x) (same o) (st.each o x h);
  }

  rows_same : (rows : List (List Slot)) (c d : Content) → ((a o : ℕ) → c a o ≡ d a o)
      → RowsStand p rows c → RowsStand p rows d
  rows_same rows c d same st = record {
    count = st.count;
    each = λ a slots h. told_same slots (length (outputs_at p a)) (c a) (d a) (same a)
        (st.each a slots h);
  }

  rows_filled : (a : ℕ) (content : ℕ → Option (List ℕ)) (xs ys : List (List Slot)) (c d : Content)
      → RowFilled a content xs ys → RowsStand p xs c
      → ((o : ℕ) → content o ≡ d a o) → ((k : ℕ) → (a == k) ≡ false → (o : ℕ) → c k o ≡ d k o)
      → RowsStand p ys d
  rows_filled a content xs ys c d full st own others =
      record {
        count = full.count ∙ st.count;
        each = λ k slots h. by_bool (a == k)
            (λ b. (a == k) ≡ b → Filled slots (length (outputs_at p k)) (d k))
            (λ yes e. here k slots (eqb-true a k yes) h) (λ no e. rest k slots e h) refl;
      }
    where
      before : (k : ℕ) → k < length xs → (x : List Slot) × (slice_get xs k ≡ Some x)
      before k lt = by (slice_get_cases xs k).1
        where
          by : ((x : List Slot) × (k < length xs) × (slice_get xs k ≡ Some x) × (get_or xs k x ≡ x))
              ⊎ ((length xs ≤ k) × (slice_get xs k ≡ None)) → (x : List Slot)
              × (slice_get xs k ≡ Some x)
          by (inl w) = (w.0, w.2)
          by (inr w) = let le = w.0 in absurd (omega arith)

      here : (k : ℕ) (slots : List Slot) → a ≡ k → slice_get ys k ≡ Some slots
          → Filled slots (length (outputs_at p k)) (d k)
      here k slots same h =
          let now : slice_get ys a ≡ Some slots = ap (slice_get ys) same ∙ h in
          let lt = slice_get_within ys a slots now in
          let count = full.count in
          let old = before a (omega arith) in
          let row = told_same slots (length old.0) content (d a) own
          (full.row old.0 slots old.1 now) in
          let n = (st.each a old.0 old.1).count in
          subst (λ i. Filled slots (length (outputs_at p i)) (d i)) same
          (subst (λ m. Filled slots m (d a)) n row)

      rest : (k : ℕ) (slots : List Slot) → (a == k) ≡ false → slice_get ys k ≡ Some slots
          → Filled slots (length (outputs_at p k)) (d k)
      rest k slots ne h = told_same slots (length (outputs_at p k)) (c k) (d k) (others k ne)
          (st.each k slots (sym (full.rest k ne) ∙ h))

  -- ---- a new table

  new_rows : (rows : List (List Slot)) (d : Content) → ((a o : ℕ) → d a o ≡ None)
      → AreNew p.actions rows → RowsStand p rows d
  new_rows rows d none new = record {
    count = new.count;
    each = λ a slots h. by a slots (slice_get p.actions a) refl h;
  }
    where
      past : (a n : ℕ) → slice_get p.actions a ≡ None → a < length p.actions → ⊥
      past a n e lt = two (slice_get_cases p.actions a).1
        where
          two : ((x : PlanAction) × (a < length p.actions) × (slice_get p.actions a ≡ Some x)
              × (get_or p.actions a x ≡ x)) ⊎ ((length p.actions ≤ a)
              × (slice_get p.actions a ≡ None)) → ⊥
          two (inl w) = let k = w.2 in cc
          two (inr w) = let le = w.0 in omega arith

      by : (a : ℕ) (slots : List Slot) (o : Option PlanAction) → slice_get p.actions a ≡ o
          → slice_get rows a ≡ Some slots → Filled slots (length (outputs_at p a)) (d a)
      by a slots (Some x) e h =
          let n : length x.outputs ≡ length (outputs_at p a) =
          sym (ap (λ (q : Option PlanAction). length (outputs_on q)) e) in
          subst (λ m. Filled slots m (d a)) n (told_same slots (length x.outputs) (λ o. None) (d a)
          (λ o. sym (none a o)) (new.each a x slots e h))
      by a slots None e h = absurd (let lt = slice_get_within rows a slots h in let c = new.count in
          past a (length p.actions) e (omega arith))

  pub new_stands : (f : Facts) → IsNewFiles p.actions f → Stands p f []
  unfolding grant_of newest_match
  new_stands f new = record {
    made = new_rows f.made _ (λ a o. refl) new.made;
    answered = λ b. elim b as (λ b. RowsStand p (rows_of b f)
        (λ a o. answer_file p a (newest_match [] a b) o)) [
          | Local ↦ new_rows f.local _ (λ a o. refl) new.local
          | Remote ↦ new_rows f.remote _ (λ a o. refl) new.remote
        ];
  }

  -- ---- an entry

  module _ (f g : Facts) (j : List Entry) (lane : ℕ) (st : Stands p f j) where
    abbrev entry : Call → Reply → Entry
    entry c r = record { lane = lane; call = c; reply = r }

    abbrev made_of : List Entry → Content
    made_of k a o = slice_get (files_of_grant (grant_of k a)) o

    abbrev answers_of : Branch → List Entry → Content
    answers_of b k a o = answer_file p a (newest_match k a b) o

    no_match : (c : Call) (r : Reply) → ((a : ℕ) (b : Branch) → match_for a b c r ≡ None)
        → (b : Branch) (a o : ℕ) → answers_of b j a o ≡ answers_of b (entry c r ∷ j) a o
    unfolding newest_match
    no_match c r none b a o = ap (λ q. answer_file p a (or_else q (newest_match j a b)) o)
        (sym (none a b))

    no_grant : (c : Call) (r : Reply) → granted_in c r ≡ None → (a o : ℕ)
        → made_of j a o ≡ made_of (entry c r ∷ j) a o
    unfolding grant_of
    no_grant c r none a o = ap (λ q. slice_get (files_of_grant
        (unless_before (of_action a q) (grant_of j a))) o) (sym none)

    quiet : (c : Call) (r : Reply) → granted_in c r ≡ None
        → ((a : ℕ) (b : Branch) → match_for a b c r ≡ None) → g ≡ f → Stands p g (entry c r ∷ j)
    quiet c r none nothing same = subst (λ (h : Facts). Stands p h (entry c r ∷ j)) (sym same)
        (record {
          made = rows_same f.made (made_of j) (made_of (entry c r ∷ j)) (no_grant c r none) st.made;
          answered = λ b. rows_same (rows_of b f) (answers_of b j) (answers_of b (entry c r ∷ j))
              (no_match c r nothing b) (st.answered b);
        })

    -- a Claim that is granted
    module _ (a n : ℕ) (b : Branch) (x : Found) (open_yet : grant_of j a ≡ None) where
      abbrev claim : Entry
      claim = entry (call.Claim a b n x) reply.Granted

      own_grant : grant_of (claim ∷ j) a ≡ Some (attempt_of a b n, x)
      unfolding grant_of
      own_grant = rw (eq-eqb a a refl, open_yet) refl

      other_grant : (k : ℕ) → (a == k) ≡ false → (o : ℕ) → made_of j k o ≡ made_of (claim ∷ j) k o
      unfolding grant_of
      other_grant k ne o = ap (λ c. slice_get (files_of_grant
          (unless_before (cond c (Some (attempt_of a b n, x)) None) (grant_of j k))) o) (sym ne)

      -- of an exit code there are no files
      no_files : files_of_grant (Some (attempt_of a b n, x)) ≡ [] → (k o : ℕ)
          → made_of j k o ≡ made_of (claim ∷ j) k o
      no_files none k o =
          by_bool (a == k) (λ c. (a == k) ≡ c → made_of j k o ≡ made_of (claim ∷ j) k o)
          (λ yes e. subst (λ i. made_of j i o ≡ made_of (claim ∷ j) i o) (eqb-true a k yes)
          (ap (λ q. slice_get (files_of_grant q) o) open_yet
          ∙ sym (ap (λ fs. slice_get fs o) (ap files_of_grant own_grant ∙ none))))
          (λ no e. other_grant k e o) refl

      same_answers : (c : Branch) → rows_of c g ≡ rows_of c f
          → RowsStand p (rows_of c g) (answers_of c (claim ∷ j))
      same_answers c same = subst (λ rows. RowsStand p rows (answers_of c (claim ∷ j))) (sym same)
          (rows_same (rows_of c f) (answers_of c j) (answers_of c (claim ∷ j))
          (no_match (call.Claim a b n x) reply.Granted (λ k d. refl) c) (st.answered c))

      without : files_of_grant (Some (attempt_of a b n, x)) ≡ [] → g ≡ f → Stands p g (claim ∷ j)
      without none same = record {
        made = subst (λ rows. RowsStand p rows (made_of (claim ∷ j)))
            (ap (λ (h : Facts). h.made) (sym same)) (rows_same f.made (made_of j)
            (made_of (claim ∷ j)) (no_files none) st.made);
        answered = λ c. same_answers c (ap (rows_of c) same);
      }

    found_kept : (a n : ℕ) (b : Branch) (x : Found) → grant_of j a ≡ None → FoundFiles a x f g
        → Stands p g (entry (call.Claim a b n x) reply.Granted ∷ j)
    found_kept a n b (found.Files fs) open_yet h = record {
      made = rows_filled a (λ o. slice_get fs o) f.made g.made (made_of j)
          (made_of (claim a n b (found.Files fs) open_yet ∷ j)) h.made st.made
          (λ o. sym (ap (λ q. slice_get (files_of_grant q) o)
          (own_grant a n b (found.Files fs) open_yet))) (other_grant a n b
          (found.Files fs) open_yet);
      answered = λ c. same_answers a n b (found.Files fs) open_yet c (h.answers c);
    }
    found_kept a n b (found.Exit m) open_yet h = without a n b (found.Exit m) open_yet refl h
    found_kept a n b (found.Missing m) open_yet h = without a n b (found.Missing m) open_yet refl h
    found_kept a n b found.RoomFault open_yet h = without a n b found.RoomFault open_yet refl h
    found_kept a n b found.Refused open_yet h = without a n b found.Refused open_yet refl h

    -- an Answer that is matched
    same_itself : (b : Branch) → same_branch b b ≡ true
    same_itself Local = refl
    same_itself Remote = refl

    not_other : (b : Branch) → same_branch b (other_of b) ≡ false
    not_other Local = refl
    not_other Remote = refl

    and_false : (b : Bool) → (b && false) ≡ false
    and_false true = refl
    and_false false = refl

    module _ (l a n : ℕ) (b : Branch) (x : Answer) where
      abbrev match : Entry
      match = entry (call.Answer l x) (reply.Matched a b n)

      own_match : (o : ℕ) → file_for x.files (outputs_at p a) o ≡ answers_of b (match ∷ j) a o
      unfolding newest_match
      own_match o = sym (rw (eq-eqb a a refl, same_itself b) refl)

      apart : (k : ℕ) → (a == k) ≡ false → (o : ℕ) → answers_of b j k o ≡ answers_of b
          (match ∷ j) k o
      unfolding newest_match
      apart k ne o = ap (λ c. answer_file p k (or_else (cond (c && same_branch b b) (Some x) None)
          (newest_match j k b)) o) (sym ne)

      other_match : (k o : ℕ) → answers_of (other_of b) j k o ≡ answers_of (other_of b)
          (match ∷ j) k o
      unfolding newest_match
      other_match k o = ap (λ c. answer_file p k (or_else (cond c (Some x) None)
          (newest_match j k (other_of b))) o) (sym (ap (λ c. (a == k) && c) (not_other b)
          ∙ and_false (a == k)))

      own_row : Matched p a b x f g → RowsStand p (rows_of b g) (answers_of b (match ∷ j))
      own_row h = rows_filled a (file_for x.files (outputs_at p a)) (rows_of b f) (rows_of b g)
          (answers_of b j) (answers_of b (match ∷ j)) h.answer (st.answered b) own_match apart

      other_row : Matched p a b x f g → RowsStand p (rows_of (other_of b) g)
          (answers_of (other_of b) (match ∷ j))
      other_row h = subst (λ rows. RowsStand p rows (answers_of (other_of b) (match ∷ j)))
          (sym h.other) (rows_same (rows_of (other_of b) f) (answers_of (other_of b) j)
          (answers_of (other_of b) (match ∷ j)) other_match (st.answered (other_of b)))

      abbrev Row : Branch → Type 0
      Row c = RowsStand p (rows_of c g) (answers_of c (match ∷ j))

      matched_kept : Matched p a b x f g → Stands p g (match ∷ j)
      matched_kept h = record {
        made = subst (λ rows. RowsStand p rows (made_of (match ∷ j))) (sym h.made)
            (rows_same f.made (made_of j) (made_of (match ∷ j))
            (no_grant (call.Answer l x) (reply.Matched a b n) refl) st.made);
        answered = λ c. both b c (own_row h) (other_row h);
      }
        where
          both : (d c : Branch) → Row d → Row (other_of d) → Row c
          both Local Local x y = x
          both Local Remote x y = y
          both Remote Remote x y = x
          both Remote Local x y = y

    pub follows : (c : Call) (r : Reply) → ((x : Attempt × Found) → granted_in c r ≡ Some x
        → grant_of j x.0.action ≡ None) → Follows p c r f g → Stands p g (entry c r ∷ j)
    follows (call.Claim a b n x) reply.Granted open_yet h =
        found_kept a n b x (open_yet (attempt_of a b n, x) refl) h
    follows (call.Claim a b n x) _ open_yet h = quiet _ _ refl (λ k d. refl) h
    follows (call.Answer l x) (reply.Matched a b n) open_yet h = matched_kept l a n b x h
    follows (call.Answer l x) _ open_yet h = quiet _ _ refl (λ k d. refl) h
    follows _ r open_yet h = quiet _ r refl (λ k d. refl) h
