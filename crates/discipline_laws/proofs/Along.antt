-- What is folded over a history, the oldest entry first, as a word of its journal, whose newest
-- entry stands first.
use Rattle.std.proofs.Common.{◌≡◌, ℕ, ◌==◌, Bool, true, false, cond, List, [], ◌∷◌, ◌++◌, refl, ap, sym, ◌∙◌}
use Rattle.std.specs.List.{fold}
use Rattle.std.proofs.lemmas.Grind.{fold-append}
use Rattle.exec_journal.specs.Entry.{Entry}
use Rattle.core_contract.specs.Moves.{Past, History}
use Rattle.seat_desk.specs.History.{calls_by}
use Rattle.core_contract.specs.Ruled.{journal_of}

-- the journal of a longer history
pub journal_more : (h more : History)
    → journal_of (h ++ more) ≡ fold (λ j e. e ∷ j) (journal_of h) more
journal_more h more = fold-append (λ (j : List Entry) (e : Past). e ∷ j) [] h more

pub journal_next : (h : History) (e : Past) → journal_of (h ++ e ∷ []) ≡ e ∷ journal_of h
journal_next h e = journal_more h (e ∷ [])

module _ {S : Type 0} (g : S → Entry → S) (s : S) where
  -- after all entries of a journal, the oldest first
  abbrev pub after_all : List Entry → S
  after_all [] = s
  after_all (e ∷ j) = g (after_all j) e

  pub along : (f : S → Past → S) → ((x : S) (e : Past) → f x e ≡ g x e)
      → (h : History) (j : List Entry)
      → fold f (after_all j) h ≡ after_all (fold (λ j e. e ∷ j) j h)
  along f same [] j = refl
  along f same (e ∷ h) j =
      ap (λ (x : S). fold f x h) (same (after_all j) e) ∙ along f same h (e ∷ j)

-- the entries of one lane alone
abbrev pub own_then : {S : Type 0} → ℕ → (S → Entry → S) → S → Entry → S
own_then lane g x e = cond (lane == e.lane) (g x e) x

pub along_own : {S : Type 0} (lane : ℕ) (g : S → Entry → S) (s : S) (f : S → Past → S)
    → ((x : S) (e : Past) → f x e ≡ g x e) → (h : History) (j : List Entry)
    → fold f (after_all (own_then lane g) s j) (calls_by lane h)
    ≡ after_all (own_then lane g) s (fold (λ j e. e ∷ j) j h)
along_own lane g s f same [] j = refl
along_own {S} lane g s f same (e ∷ h) j =
    by (lane == e.lane) refl (along_own lane g s f same h (e ∷ j))
  where
    before : S
    before = after_all (own_then lane g) s j

    by : (b : Bool) → (lane == e.lane) ≡ b
        → fold f (own_then lane g before e) (calls_by lane h)
        ≡ after_all (own_then lane g) s (fold (λ j e. e ∷ j) (e ∷ j) h)
        → fold f before (cond b (e ∷ calls_by lane h) (calls_by lane h))
        ≡ after_all (own_then lane g) s (fold (λ j e. e ∷ j) (e ∷ j) h)
    by true own rest = ap (λ (x : S). fold f x (calls_by lane h))
        (same before e ∙ ap (λ (b : Bool). cond b (g before e) before) (sym own)) ∙ rest
    by false other rest = ap (λ (x : S). fold f x (calls_by lane h))
        (ap (λ (b : Bool). cond b (g before e) before) (sym other)) ∙ rest
