-- The lanes that a bench knows to have news, and those that it names after a call.
use Rattle.std.specs.Prelude.{◌≡◌, ℕ, ◌*◌, ◌+◌, ◌-◌, ◌<◌, ◌==◌, nat_lt, Bool, true, false, ◌&&◌, not, ◌∷◌, [], ◌++◌, if◌then◌else◌}
use Rattle.std.specs.Int.{bit_at}
use Rattle.std.specs.Int.RustNames.{bit_or}
use Rattle.exec_journal.specs.declared.reply.Reply.{Reply}
use Rattle.exec_journal.specs.Entries.{is_kept}
use Rattle.core_contract.specs.Discipline.{Discipline}
use Rattle.core_contract.specs.Moves.{Past, History}
use Rattle.core_contract.specs.News.{IsQuiet, NamesNews}
use Rattle.core_machine.specs.declared.waking.Span.{Span}
use Rattle.core_machine.specs.declared.waking.Waking.{Waking}
use Rattle.core_machine.specs.Marks.{Marks}

-- the number of lanes of these berths, at most 128
abbrev pub lanes_of : ℕ → ℕ
lanes_of berths = if nat_lt berths 64 then 2 * berths else 128

-- the lane first + k has news after a call of another lane, and had none before
abbrev pub is_stirred : (ℕ → Bool) → ℕ → ℕ → ℕ → ℕ → Bool
is_stirred news first before caller k =
    news (first + k) && (not (first + k == caller) && (bit_at before k == 0))

-- After a kept call of this lane, of the lanes first + k for each k below count: those with news are
-- marked, and those of them that had none before.
pub record Looks (news : ℕ → Bool) (first count caller : ℕ) (old new : Span) : Type 0 where
  pub with_news : Marks new.with_news count (λ k. news (first + k))
  pub stirred : Marks new.stirred count (is_stirred news first old.with_news caller)

-- After a call of this lane with this reply, on this many berths: if its entry is kept, all lanes are
-- looked at; otherwise all stays.
pub record LooksRound (news : ℕ → Bool) (berths caller : ℕ) (r : Reply) (old new : Waking)
    : Type 0 where
  pub near : is_kept r ≡ true → Looks news 0 (lanes_of berths) caller old.near new.near
  pub far : is_kept r ≡ true → Looks news 128 (lanes_of (berths - 64)) caller old.far new.far
  pub same : is_kept r ≡ false → new ≡ old

-- bit k of the hint stands for the lanes k and 128 + k
abbrev pub hint_of : Waking → ℕ
hint_of w = bit_or w.near.stirred w.far.stirred

-- by a discipline
module _ (q : Discipline) where
  -- after the history a lane that would be told Idle is none of those with news, and the hint names
  -- the lanes to which the newest entry gave news
  pub record Wakes (h : History) (w : Waking) : Type 0 where
    pub near : (lane : ℕ) → lane < 128 → IsQuiet q h lane → bit_at w.near.with_news lane ≡ 0
    pub far : (k : ℕ) → IsQuiet q h (128 + k) → bit_at w.far.with_news k ≡ 0
    pub stirred : (before : History) (e : Past) → h ≡ before ++ e ∷ []
        → NamesNews q before e (hint_of w)

  -- After a call with this reply: if its entry is kept, the hint names the lanes to which the newest
  -- entry gave news; otherwise it names none.
  pub record Hints (w : Waking) (r : Reply) (hint : ℕ) : Type 0 where
    pub news : is_kept r ≡ true → (h : History) (e : Past) → Wakes (h ++ e ∷ []) w
        → NamesNews q h e hint
    pub none : is_kept r ≡ false → hint ≡ 0
