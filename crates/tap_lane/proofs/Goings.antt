-- How what was told of a line grows.
use Rattle.std.specs.Prelude.{IfOk, OnOk, IfErr, OnErr}
use Rattle.std.specs.Result.{IsErr, IsErrAnd}
use Rattle.std.proofs.Common.{◌≡◌, ℕ, Result, List, [], ◌∷◌, ◌++◌, ap, sym, ◌∙◌, subst, append_assoc, append-nil}
use Rattle.std.proofs.lemmas.Bool.{false≢true}
use Rattle.exec_journal.specs.declared.call.Answer.{Answer}
use Rattle.core_contract.specs.Moves.{Past, History}
use Rattle.tap_lane.specs.Heard.{IsAnswer, AreAnswers, Went}

pub answers_more : (l : ℕ) (es fs : History) (xs ys : List Answer) → AreAnswers l es xs
    → AreAnswers l fs ys → AreAnswers l (es ++ fs) (xs ++ ys)
answers_more l [] fs [] ys a b = b
answers_more l [] fs (x ∷ xs) ys a b = absurd a
answers_more l (e ∷ es) fs [] ys a b = absurd a
answers_more l (e ∷ es) fs (x ∷ xs) ys a b = (a.0, answers_more l es fs xs ys a.1 b)

pub went_none : (l : ℕ) (answers : List Answer) (own own' : History) (Then : List Answer → Type 0)
    → own' ≡ own → Then answers → Went l answers own own' Then
went_none l answers own own' Then same so = record {
  more = [];
  made = [];
  are = tt;
  grown = same ∙ sym (append-nil own);
  so = subst Then (sym (append-nil answers)) so;
}

pub went_so : (l : ℕ) (answers : List Answer) (own own' own'' : History)
    (A B : List Answer → Type 0) → own'' ≡ own' → ((xs : List Answer) → A xs → B xs)
    → Went l answers own own' A → Went l answers own own'' B
went_so l answers own own' own'' A B same f w = record {
  more = w.more;
  made = w.made;
  are = w.are;
  grown = same ∙ w.grown;
  so = f (answers ++ w.more) w.so;
}

pub went_one : (l : ℕ) (answers : List Answer) (own own' own'' : History)
    (A B : List Answer → Type 0) (e : Past) (x : Answer) → own'' ≡ own' ++ e ∷ []
    → IsAnswer l x e → ((xs : List Answer) → A xs → B (xs ++ x ∷ []))
    → Went l answers own own' A → Went l answers own own'' B
went_one l answers own own' own'' A B e x grown is f w = record {
  more = w.more ++ x ∷ [];
  made = w.made ++ e ∷ [];
  are = answers_more l w.made (e ∷ []) w.more (x ∷ []) w.are (is, tt);
  grown = grown ∙ (ap (λ (h : History). h ++ e ∷ []) w.grown ∙ append_assoc own w.made (e ∷ []));
  so = subst B (append_assoc answers w.more (x ∷ [])) (f (answers ++ w.more) w.so);
}

pub always_err : {A E : Type 0} (r : Result A E) (P : Type 0) → P → OnErr r P
always_err (Result.Ok a) P p = tt
always_err (Result.Err e) P p = p

pub never_ok : {A E : Type 0} (r : Result A E) (P : Type 0) → IsErr r → OnOk r P
never_ok (Result.Ok a) P is = absurd (false≢true is)
never_ok (Result.Err e) P is = tt

pub not_ok : {A E : Type 0} (r : Result A E) (P : A → Type 0) → IsErr r → IfOk r P
not_ok (Result.Ok a) P is = absurd (false≢true is)
not_ok (Result.Err e) P is = tt

-- what holds of the error holds where it is given on
pub given_on : {A E : Type 0} (r : Result A E) (e : E) (P : E → Type 0)
    → IsErrAnd r (λ x. x ≡ e) → P e → IfErr r P
given_on (Result.Ok a) e P is p = absurd is
given_on (Result.Err x) e P is p = subst P (sym is) p
