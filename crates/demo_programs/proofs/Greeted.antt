-- Behind the greeting.
use Rattle.std.proofs.Common.{◌≡◌, ℕ, List, [], ◌∷◌, Some, refl, subst, sym, append-nil, ◌∙◌}
use Rattle.outside.specs.Causes.{Rose}
use Rattle.outside.specs.Lists.{AddsFront}
use Rattle.outside.specs.Told.{TapTold, SinkTold, ShopTold}
use Rattle.wire_fields.specs.Spelling.{spelling}
use Rattle.wire_fields.specs.Varint.{varint, number_bytes}
use Rattle.delimited_framing.specs.Frame.{delimited_form}
use Rattle.json_framing.specs.declared.cutter.Framing.TheVariants as framing
use Rattle.remote_messages.specs.Job.{SpellsJob}
use Rattle.remote_messages.specs.JobResult.{job_result_fields}
use Rattle.message_service.specs.declared.finish.Finish.{Finish}
use Rattle.message_service.specs.declared.finish.Finish.TheVariants as finish
use Rattle.message_service.specs.Ends.{PutAll}
use Rattle.message_service.specs.Serves.{Serves}
use Rattle.message_service.specs.Turns.{put_by, turns_in}
use Rattle.message_service.proofs.Made.{adds_nothing, made_nothing, puts_on}
use Rattle.message_service.proofs.Streams.{whole_new}
use Rattle.job_runner.specs.Results.{greeting}
use Rattle.job_runner.specs.Answers.{framed, Answers}

-- the three bytes are the greeting behind its length
pub greeting_is : 2 ∷ 64 ∷ 2 ∷ [] ≡ framed greeting
unfolding job_result_fields spelling varint number_bytes
greeting_is = refl

abbrev pub Executed : Finish → TapTold → TapTold → SinkTold → SinkTold → ShopTold → ShopTold
    → Type 0
Executed f input input' out out' shop shop' =
    Serves delimited_form SpellsJob Answers f (framed greeting)
    (record { input = input; out = out; shop = shop })
    (record { input = input'; out = out'; shop = shop' })

pub greeted : (f : Finish) (input input' : TapTold) (out mid out' : SinkTold)
    (shop shop' : ShopTold) → PutAll (2 ∷ 64 ∷ 2 ∷ []) out mid
    → Serves delimited_form SpellsJob Answers f []
    (record { input = input; out = mid; shop = shop })
    (record { input = input'; out = out'; shop = shop' })
    → Executed f input input' out out' shop shop'
greeted f input input' out mid out' shop shop' put s = record {
  bytes = s.bytes;
  messages = s.messages;
  taken = s.taken;
  reads = s.reads;
  caused = s.caused;
  answered = record {
    spans = s.answered.spans;
    left = s.answered.left;
    begun = s.answered.begun;
    came = s.answered.came;
    runs = s.answered.runs;
    leaves = s.answered.leaves;
    put = puts_on (Some f) (framed greeting) (put_by (turns_in s.answered.spans)) out mid out'
        (subst (λ (bytes : List ℕ). PutAll bytes out mid) greeting_is put) s.answered.put;
    made = s.answered.made;
  };
}

-- the greeting couldn't be put, and nothing else was done
pub not_greeted : (input : TapTold) (out out' : SinkTold) (shop : ShopTold)
    → AddsFront (2 ∷ 64 ∷ 2 ∷ []) out.contents out'.contents → Rose out.faults out'.faults
    → Executed finish.OutputFault input input out out' shop shop
not_greeted input out out' shop front rose = record {
  bytes = [];
  messages = [];
  taken = adds_nothing input.taken;
  reads = let w = whole_new framing.Delimited SpellsJob in (w.0, w.1);
  caused = tt;
  answered = record {
    spans = [];
    left = [];
    begun = [];
    came = refl;
    runs = refl;
    leaves = refl;
    put = record {
      given = subst (λ (bytes : List ℕ). AddsFront bytes out.contents out'.contents)
          (greeting_is ∙ sym (append-nil (framed greeting))) front;
      rose = rose;
    };
    made = made_nothing shop;
  };
}
