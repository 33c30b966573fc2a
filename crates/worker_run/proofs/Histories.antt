-- A journal as a history, and what its words say of it.
use Rattle.std.proofs.Common.{◌≡◌, ℕ, ◌==◌, Bool, true, false, cond, ◌&&◌, ◌||◌, List, [], ◌∷◌, ◌++◌, reverse, refl, ap, sym, ◌∙◌}
use Rattle.std.proofs.lemmas.List.{append_assoc, append-nil, reverse-append}
use Rattle.std.specs.List.{fold, list_any}
use Rattle.exec_journal.specs.Entry.{Entry}
use Rattle.exec_journal.specs.Entries.{is_halt, is_stop}
use Rattle.exec_journal.specs.History.{ever}
use Rattle.exec_journal.specs.Words.{halted, stopped}
use Rattle.lane_runs.specs.Layout.{has_halt}
use Rattle.lane_runs.specs.Runs.{IsStopped}
use Rattle.core_contract.specs.Moves.{Past, History}
use Rattle.discipline_laws.proofs.Going.{flip}
use Rattle.core_contract.specs.Ruled.{journal_of}
use Rattle.seat_desk.specs.History.{calls_by}

-- ---- its entries with the newest first

turned : (e : Entry) (m j : List Entry) → reverse m ++ (e ∷ j) ≡ reverse (e ∷ m) ++ j
turned e m j = sym (ap (λ (l : List Entry). l ++ j) (reverse-append (e ∷ []) m)
    ∙ append_assoc (reverse m) (e ∷ []) j)

onto : (h : History) (j : List Entry)
    → fold (λ j e. e ∷ j) j h ≡ reverse h ++ j
onto [] j = refl
onto (e ∷ h) j = onto h (e ∷ j) ∙ turned e h j

pub newest_is : (h : History) → journal_of h ≡ reverse h
newest_is h = onto h [] ∙ append-nil (reverse h)

-- ---- whether a lane has halted

shuffle : (a b c : Bool) → ((a || b) || c) ≡ (b || (a || c))
shuffle true true c = refl
shuffle true false c = refl
shuffle false true c = refl
shuffle false false c = refl

none_after : (b : Bool) → (b || false) ≡ b
none_after true = refl
none_after false = refl

halts_along : (h : History) (j : List Entry)
    → (list_any (λ e. is_halt e.call) h || ever (λ _ e. is_halt e.call) j)
    ≡ ever (λ _ e. is_halt e.call) (fold (λ j e. e ∷ j) j h)
halts_along [] j = refl
halts_along (e ∷ h) j =
    shuffle (is_halt e.call) (list_any (λ e. is_halt e.call) h) (ever (λ _ e. is_halt e.call) j)
    ∙ halts_along h (e ∷ j)

pub halted_is : (h : History) → halted (journal_of h) ≡ has_halt h
unfolding halted
halted_is h = sym (halts_along h []) ∙ none_after (has_halt h)

-- ---- whether a lane was told to stop

stops_along : (lane : ℕ) (h : History) (j : List Entry)
    → (list_any (λ e. is_stop e.reply) (calls_by lane h)
    || ever (λ _ e. (e.lane == lane) && is_stop e.reply) j)
    ≡ ever (λ _ e. (e.lane == lane) && is_stop e.reply) (fold (λ j e. e ∷ j) j h)
stops_along lane [] j = refl
stops_along lane (e ∷ h) j = by (lane == e.lane) (e.lane == lane)
    (flip lane e.lane (lane == e.lane) refl) (stops_along lane h (e ∷ j))
  where
    before : Bool
    before = ever (λ _ e. (e.lane == lane) && is_stop e.reply) j

    whole : Bool
    whole = ever (λ _ e. (e.lane == lane) && is_stop e.reply)
        (fold (λ j e. e ∷ j) (e ∷ j) h)

    rest : Bool
    rest = list_any (λ e. is_stop e.reply) (calls_by lane h)

    by : (b c : Bool) → c ≡ b → (rest || ((c && is_stop e.reply) || before)) ≡ whole
        → (list_any (λ e. is_stop e.reply) (cond b (e ∷ calls_by lane h) (calls_by lane h))
        || before) ≡ whole
    by true true same so = shuffle (is_stop e.reply) rest before ∙ so
    by false false same so = so
    by true false same so = absurd (cc)
    by false true same so = absurd (cc)

last_stops : (own : History) (e : Past) → is_stop e.reply ≡ true
    → list_any (λ e. is_stop e.reply) (own ++ e ∷ []) ≡ true
last_stops [] e stop = ap (λ (b : Bool). b || false) stop
last_stops (x ∷ own) e stop = or_true (is_stop x.reply) (last_stops own e stop)
  where
    or_true : (a : Bool) {b : Bool} → b ≡ true → (a || b) ≡ true
    or_true true h = refl
    or_true false h = h

pub stopped_is : (h : History) (lane : ℕ) → IsStopped h lane → stopped (journal_of h) lane ≡ true
unfolding stopped
stopped_is h lane (own, e, is, stop) = sym (stops_along lane h [])
    ∙ (none_after (list_any (λ e. is_stop e.reply) (calls_by lane h))
    ∙ (ap (list_any (λ e. is_stop e.reply)) is ∙ last_stops own e (ap is_stop stop)))
