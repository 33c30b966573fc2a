-- The counter's history after a turn.
use Rattle.std.proofs.Common.{◌≡◌, ℕ, ◌+◌, ◌%◌, ⊎_elim, inl, inr, List, [], ◌∷◌, ◌++◌, ap, sym, ◌∙◌, subst, arith, add_assoc, zero-add}
use Rattle.std.proofs.Math.Nat.{mod-add-mod}
use Rattle.plain_values.specs.declared.entry.Entry.{Entry}
use Rattle.seat_desk.specs.History.{entry, after, IsReply}
use Rattle.desk_machines.specs.declared.counter.Ask.{Ask}
use Rattle.desk_machines.specs.declared.counter.Ask.TheVariants.{Add, Look}
use Rattle.desk_machines.specs.declared.counter.Answer.{Answer}
use Rattle.desk_machines.specs.declared.counter.Answer.TheVariants.{Sum}
use Rattle.desk_machines.specs.CounterSums.{part, added, CountsFrom, IsSum, stays, is_short, MayBeShort, IsTurn}

abbrev H : Type 0
H = List (Entry Ask Answer)

added-snoc : (h : H) (e : Entry Ask Answer) → added (h ++ e ∷ []) ≡ added h + part e.call
added-snoc [] e = omega arith
added-snoc (x ∷ xs) e = let ih = added-snoc xs e in omega arith

counts-snoc : (q n : ℕ) (h : H) (e : Entry Ask Answer) → CountsFrom q n h → e.reply ≡ Sum ((n + added h + part e.call) % q) → CountsFrom q n (h ++ e ∷ [])
counts-snoc q n [] e c r = ((r ∙ ap (λ (k : ℕ). Sum ((k + part e.call) % q)) (let z : n + 0 ≡ n = omega arith in z)), tt)
counts-snoc q n (x ∷ xs) e c r = (c.0, counts-snoc q (n + part x.call) xs e c.1 (r ∙ ap (λ (k : ℕ). Sum ((k + part e.call) % q)) (sym (add_assoc n (part x.call) (added xs)))))

-- the sum after one call more
steps : (q s n a : ℕ) → s ≡ a % q → (s + n) % q ≡ (a + n) % q
steps q s n a e = ap (λ (k : ℕ). (k + n) % q) e ∙ mod-add-mod a q n

-- a sum is below the modulus
once_more : (q s a : ℕ) → s ≡ a % q → s ≡ (a + 0) % q
once_more q s a e = e ∙ ap (λ (k : ℕ). k % q) (let z : a ≡ a + 0 = omega arith in z)

pub turn_reply : (q s : ℕ) (h : H) (lane : ℕ) (c : Ask) (r : Answer) (s' : ℕ) → IsSum q s h → IsTurn q s c r s'
    → IsReply (λ (h : H) (lane : ℕ) (c : Ask). Sum ((added h + part c) % q)) is_short (λ (h : H) (lane : ℕ) (c : Ask). MayBeShort c) h lane c r
turn_reply q s h lane (Add n) r s' i t = inl (t.0 ∙ ap Sum (steps q s n (added h) i.0))
turn_reply q s h lane Look r s' i t = ⊎_elim (λ e. inl (e ∙ ap Sum (once_more q s (added h) i.0))) (λ e. inr (ap is_short e, tt)) t.0

pub turn_stands : (q s : ℕ) (h : H) (lane : ℕ) (c : Ask) (r : Answer) (s' : ℕ) → IsSum q s h → IsTurn q s c r s' → IsSum q s' (after (λ (e : Entry Ask Answer). stays e.call e.reply) h (entry lane c r))
turn_stands q s h lane (Add n) r s' i t = let is : (s + n) % q ≡ (added h + n) % q = steps q s n (added h) i.0 in
    let reply : r ≡ Sum ((added h + n) % q) = t.0 ∙ ap Sum is in
    subst (λ (x : Answer). IsSum q s' (after (λ (e : Entry Ask Answer). stays e.call e.reply) h (entry lane (Add n) x))) (sym reply) (
      t.1 ∙ (is ∙ ap (λ (k : ℕ). k % q) (sym (added-snoc h (entry lane (Add n) (Sum ((added h + n) % q)))))),
      counts-snoc q 0 h (entry lane (Add n) (Sum ((added h + n) % q))) i.1 (ap (λ (k : ℕ). Sum ((k + n) % q)) (sym (zero-add (added h)))),
      i.2,
    )
turn_stands q s h lane Look r s' i t = (t.1 ∙ i.0, i.1, i.2)
