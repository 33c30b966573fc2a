-- What a lane was told by Looks, which its entries don't show.
use Rattle.std.specs.Prelude.{◌≡◌, ℕ, List, [], ◌∷◌, Option, Some, None}
use Rattle.seat_desk.specs.History.{StartsWith}
use Rattle.exec_journal.specs.declared.call.Call.{Call}
use Rattle.exec_journal.specs.declared.call.Call.TheVariants as call
use Rattle.exec_journal.specs.declared.reply.Reply.{Reply}
use Rattle.exec_journal.specs.declared.reply.Reply.TheVariants as reply
use Rattle.core_contract.specs.Moves.{History}
use Rattle.proxy_words.specs.Deeds.{Looked, Deed}

-- the reply that says so
abbrev pub reply_for : Option (List ℕ) → Reply
reply_for (Some bytes) = reply.File bytes
reply_for None = reply.NoFile

-- by the rule of a core
module _ (rule : History → ℕ → Call → Reply) (lane : ℕ) where
  -- the Look was answered so at a front of the history
  abbrev pub IsTold : History → Looked → Type 0
  IsTold seen x =
      (h : History) × StartsWith seen h × (rule h lane (call.Look x.wanted) ≡ reply_for x.found)

  abbrev pub AreTold : History → List Looked → Type 0
  AreTold seen [] = Unit {0}
  AreTold seen (x ∷ xs) = IsTold seen x × AreTold seen xs

  -- all Looks of these deeds were
  abbrev pub AllTold : History → List Deed → Type 0
  AllTold seen [] = Unit {0}
  AllTold seen (d ∷ ds) = AreTold seen d.looks × AllTold seen ds
