-- How the Ticks of a lane are counted.
use Rattle.std.proofs.Common.{◌≡◌, ◌⊎◌, inl, inr, ℕ, suc, zero, ◌+◌, ◌≤◌, ◌<◌, [], ◌∷◌, ◌++◌, refl, ap, sym, ◌∙◌, arith, append-nil}
use Rattle.std.specs.Prelude.{replicate}
use Rattle.std.proofs.Math.Nat.{min-eq_left, min-eq_right}
use Rattle.std.proofs.lemmas.Bool.{cases_lt}
use Rattle.std.proofs.lemmas.List.{replicate_more}
use Rattle.seat_desk.specs.History.{entry}
use Rattle.exec_journal.specs.declared.call.Call.TheVariants as call
use Rattle.exec_journal.specs.declared.reply.Reply.TheVariants as reply
use Rattle.core_contract.specs.Moves.{Past, History}
use Rattle.core_contract.specs.Duties.{Asks, duty_of}
use Rattle.tick_lane.specs.Pacers.{last_tick, next_tick, RoseBy}
use Rattle.tick_lane.specs.Ticks.{HasTicked}

-- one tick more
pub rose_more : (n told told' told'' : ℕ) → told'' ≡ next_tick told' → RoseBy n told told'
    → RoseBy (n + 1) told told''
rose_more n told told' told'' next (inl e) = by_most (cases_lt (told' + 1) last_tick)
  where
    by_most : (told' + 1 < last_tick) ⊎ (last_tick ≤ told' + 1) → RoseBy (n + 1) told told''
    by_most (inl below) =
        let more : told'' ≡ told' + 1 = next ∙ min-eq_left (omega (arith, below)) in
        inl (omega (arith, more, e))
    by_most (inr above) = inr (next ∙ min-eq_right above)
rose_more n told told' told'' next (inr e) =
    let above : last_tick ≤ told' + 1 = omega (arith, e) in inr (next ∙ min-eq_right above)

module _ (lane told told' : ℕ) (own : History) where
  -- before any call
  pub none_ticked : told' ≡ told → own ≡ [] → HasTicked lane told told' [] own
  none_ticked same none = record {
    noted = 0;
    made = none;
    paced = inl (omega (arith, same));
  }

  -- one Tick more was noted, for which the pacer has counted a tick
  pub one_ticked : HasTicked lane told told' [] own → (told'' : ℕ) (own' : History)
      → own' ≡ own ++ entry lane call.Tick reply.Noted ∷ [] → told'' ≡ next_tick told'
      → HasTicked lane told told'' [] own'
  one_ticked h told'' own' grown next =
      let e : Past = entry lane call.Tick reply.Noted in
      record {
        noted = h.noted + 1;
        made = grown ∙ (ap (λ (x : History). x ++ e ∷ [])
            (h.made ∙ append-nil (replicate h.noted e))
            ∙ (replicate_more h.noted e ∙ sym (append-nil (replicate (h.noted + 1) e))));
        paced = rose_more h.noted told told' told'' next h.paced;
      }

  -- and then these entries
  pub then_made : HasTicked lane told told' [] own → (rest own' : History) → own' ≡ own ++ rest
      → HasTicked lane told told' rest own'
  then_made h rest own' grown = record {
    noted = h.noted;
    made = grown ∙ ap (λ (x : History). x ++ rest)
        (h.made ∙ append-nil (replicate h.noted (entry lane call.Tick reply.Noted)));
    paced = h.paced;
  }

-- a lane that made such Ticks alone owes nothing
asks_still : (lane n : ℕ) → duty_of (replicate n (entry lane call.Tick reply.Noted)) ≡ Asks
asks_still lane zero = refl
asks_still lane (suc n) = asks_still lane n

pub owes_nothing : (lane told told' : ℕ) (own : History) → HasTicked lane told told' [] own
    → duty_of own ≡ Asks
owes_nothing lane told told' own h =
    ap duty_of (h.made ∙ append-nil (replicate h.noted (entry lane call.Tick reply.Noted)))
    ∙ asks_still lane h.noted
