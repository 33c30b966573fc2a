-- Files that were taken together, one after the other.
use Rattle.std.proofs.Common.{◌≡◌, ℕ, ◌+◌, ◌<◌, zero, suc, ℤ, get_or, take, add-one, List, [], ◌∷◌, ◌++◌, length, Some, refl, ap, sym, subst, ◌∙◌, append_assoc, append-nil, arith}
use Rattle.seat_desk.specs.History.{StartsWith}
use Rattle.exec_journal.specs.declared.call.Call.{Call}
use Rattle.exec_journal.specs.declared.call.Wanted.TheVariants as wanted
use Rattle.exec_journal.specs.declared.reply.Reply.{Reply}
use Rattle.remote_messages.specs.declared.file.NamedFile.{NamedFile}
use Rattle.remote_messages.specs.declared.work.WorkInput.{WorkInput}
use Rattle.core_contract.specs.Moves.{History}
use Rattle.request_frames.specs.Requests.{IsFrom}
use Rattle.proxy_words.specs.Deeds.{Looked, AreInputs, look_at, looks_of, looks_from}
use Rattle.proxy_words.specs.Told.{IsTold, AreTold}
use Rattle.proxy_words.proofs.Growing.{are_told_later, told_more}

pub inputs_more : (xs : List WorkInput) (fs : List NamedFile) (x : WorkInput) (f : NamedFile)
    → AreInputs xs fs → f.path ≡ x.path → IsFrom x.origin f.content
    → AreInputs (xs ++ x ∷ []) (fs ++ f ∷ [])
inputs_more [] fs x f a path from =
    subst (λ (gs : List NamedFile). AreInputs (x ∷ []) (gs ++ f ∷ [])) (sym a) (path, from, refl)
inputs_more (y ∷ xs) [] x f a path from = absurd a
inputs_more (y ∷ xs) (g ∷ fs) x f a path from = (a.0, a.1, inputs_more xs fs x f a.2 path from)

looks_more : (xs : List WorkInput) (fs : List NamedFile) (x : WorkInput) (f : NamedFile)
    → AreInputs xs fs
    → looks_of (xs ++ x ∷ []) (fs ++ f ∷ []) ≡ looks_of xs fs ++ look_at x.origin f.content
looks_more [] fs x f a =
    ap (λ (gs : List NamedFile). looks_of (x ∷ []) (gs ++ f ∷ [])) a
    ∙ append-nil (look_at x.origin f.content)
looks_more (y ∷ xs) [] x f a = absurd a
looks_more (y ∷ xs) (g ∷ fs) x f a =
    ap (λ (ls : List Looked). look_at y.origin g.content ++ ls) (looks_more xs fs x f a.2)
    ∙ sym (append_assoc (look_at y.origin g.content) (looks_of xs fs) (look_at x.origin f.content))

-- one input more, and what its Look told
module _ (rule : History → ℕ → Call → Reply) (lane : ℕ) (seen seen' : History)
    (later : StartsWith seen' seen) where
  pub input_told : (xs : List WorkInput) (fs : List NamedFile) (x : WorkInput) (f : NamedFile)
      → AreInputs xs fs → AreTold rule lane seen (looks_of xs fs)
      → AreTold rule lane seen' (look_at x.origin f.content)
      → AreTold rule lane seen' (looks_of (xs ++ x ∷ []) (fs ++ f ∷ []))
  input_told xs fs x f a told one =
      subst (λ (ls : List Looked). AreTold rule lane seen' ls) (sym (looks_more xs fs x f a))
      (told_more rule lane seen' (looks_of xs fs) (look_at x.origin f.content)
      (are_told_later rule lane seen seen' later (looks_of xs fs) told) one)

  -- one output of an answer more
  pub output_told : (l : ℕ) (n : ℤ) (fs : List (List ℕ)) (k : ℕ) (x : Looked)
      → length fs ≡ k → AreTold rule lane seen (looks_from l n 0 fs) → IsTold rule lane seen' x
      → AreTold rule lane seen' (looks_from l n 0 fs ++ x ∷ [])
  output_told l n fs k x is told one =
      told_more rule lane seen' (looks_from l n 0 fs) (x ∷ [])
      (are_told_later rule lane seen seen' later (looks_from l n 0 fs) told) (one, tt)

from_more : (l : ℕ) (n : ℤ) (k : ℕ) (fs : List (List ℕ)) (f : List ℕ)
    → looks_from l n k (fs ++ f ∷ []) ≡ looks_from l n k fs
    ++ record { wanted = wanted.Answered l n (k + length fs); found = Some f } ∷ []
from_more l n k [] f =
    let same : k ≡ k + 0 = omega arith in
    (λ i. record { wanted = wanted.Answered l n (same i); found = Some f } ∷ [])
from_more l n k (g ∷ fs) f =
    let same : k + 1 + length fs ≡ k + suc (length fs) = omega arith in
    ap (λ (ls : List Looked). record { wanted = wanted.Answered l n k; found = Some g } ∷ ls)
    (from_more l n (k + 1) fs f
    ∙ (λ i. looks_from l n (k + 1) fs ++ record { wanted = wanted.Answered l n (same i); found = Some f } ∷ []))

pub looks_on : (l : ℕ) (n : ℤ) (fs : List (List ℕ)) (f : List ℕ) (k : ℕ) → length fs ≡ k
    → looks_from l n 0 (fs ++ f ∷ []) ≡ looks_from l n 0 fs
    ++ record { wanted = wanted.Answered l n k; found = Some f } ∷ []
looks_on l n fs f k is =
    let same : 0 + length fs ≡ k = omega arith in
    from_more l n 0 fs f
    ∙ (λ i. looks_from l n 0 fs ++ record { wanted = wanted.Answered l n (same i); found = Some f } ∷ [])

-- the next input stands behind the ones before
pub take_next : {X : Type 0} (xs : List X) (i : ℕ) (x : X) → i < length xs → x ≡ get_or xs i x
    → take (i + 1) xs ≡ take i xs ++ x ∷ []
take_next xs i x below is = rw add-one (take-suc-at xs i x below ∙ ap (λ y. take i xs ++ y ∷ []) (sym is))
  where
    take-suc-at : {X : Type 0} (xs : List X) (i : ℕ) (x : X) → i < length xs
        → take (suc i) xs ≡ take i xs ++ get_or xs i x ∷ []
    take-suc-at [] i x below = absurd (omega arith)
    take-suc-at (y ∷ xs) zero x below = refl
    take-suc-at (y ∷ xs) (suc i) x below = ap (λ zs. y ∷ zs) (take-suc-at xs i x (omega arith))
