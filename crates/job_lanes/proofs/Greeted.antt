-- Behind the greeting.
use Rattle.std.proofs.Common.{◌≡◌, ◌∙◌, ℕ, List, [], ◌∷◌, Some, refl, subst, sym, append-nil, arith}
use Rattle.std.specs.List.{flat_map}
use Rattle.outside.specs.Causes.{Rose}
use Rattle.outside.specs.Lists.{AddsFront}
use Rattle.outside.specs.Told.{TapTold, SinkTold, ShopTold}
use Rattle.wire_fields.specs.Spelling.{spelling}
use Rattle.wire_fields.specs.Varint.{varint, number_bytes}
use Rattle.delimited_framing.specs.Frame.{delimited_form}
use Rattle.json_framing.specs.declared.cutter.Framing.TheVariants as framing
use Rattle.remote_messages.specs.Job.{SpellsJob}
use Rattle.remote_messages.specs.JobResult.{job_result_fields}
use Rattle.message_service.specs.declared.finish.Finish.{Finish}
use Rattle.message_service.specs.declared.finish.Finish.TheVariants as finish
use Rattle.message_service.specs.Ends.{PutAll}
use Rattle.message_service.proofs.Made.{adds_nothing, puts_on}
use Rattle.message_service.proofs.Streams.{whole_new}
use Rattle.job_runner.specs.Results.{greeting}
use Rattle.job_runner.specs.Answers.{framed}
use Rattle.work_lanes.proofs.Idle.{lanes_idle, nothing_served}
use Rattle.work_lanes.specs.Serves.{ServesBy, told_by}
use Rattle.job_lanes.specs.declared.lane.JobLane.{JobLane}
use Rattle.job_lanes.specs.Pools.{Pools, DoesJobs, SaysJob, DoesJob, BreaksJob, number_of, cancels_in, depth}

-- the three bytes are the greeting behind its length
greeting_is : 2 ∷ 64 ∷ 2 ∷ [] ≡ framed greeting
unfolding job_result_fields spelling varint number_bytes
greeting_is = refl

module _ {S : Type 0} (told : S → ShopTold) where
  pub greeted : (f : Finish) (tap tap' : TapTold) (old mid new : SinkTold)
      (lanes left : List (JobLane S)) → PutAll (2 ∷ 64 ∷ 2 ∷ []) old mid
      → ServesBy number_of cancels_in (SaysJob told) framed delimited_form SpellsJob
      (DoesJob told) (BreaksJob told) depth f [] lanes left
      (record { tap = tap; sink = mid }) (record { tap = tap'; sink = new })
      → Pools told f lanes left (record { tap = tap; sink = old })
      (record { tap = tap'; sink = new })
  greeted f tap tap' old mid new lanes left put by = let s = by.serves in record {
    serves = record {
      bytes = s.bytes;
      requests = s.requests;
      replies = s.replies;
      begun = s.begun;
      taken = s.taken;
      reads = s.reads;
      caused = s.caused;
      put = puts_on (Some f) (framed greeting) (flat_map (λ r. framed r.response) s.replies) old mid
          new (subst (λ (bytes : List ℕ). PutAll bytes old mid) greeting_is put) s.put;
      said = s.said;
      once = s.once;
      took = s.took;
      order = s.order;
    };
    lanes = by.lanes;
    each = by.each;
  }

  -- nothing was read, and no job done
  pub none_done : {T O : Type 0} (tap_told : T → TapTold) (sink_told : O → SinkTold) (tap tap' : T)
      (old new : O) (lanes left : List (JobLane S)) → tap' ≡ tap → left ≡ lanes
      → PutAll [] (sink_told old) (sink_told new)
      → DoesJobs told finish.NoMemory [] lanes left (told_by tap_told sink_told tap old)
      (told_by tap_told sink_told tap' new)
  none_done {T = T} tap_told sink_told tap tap' old new lanes left same all put =
      subst (λ (x : T). DoesJobs told finish.NoMemory [] lanes left
      (told_by tap_told sink_told tap old) (told_by tap_told sink_told x new)) (sym same)
      (subst (λ (xs : List (JobLane S)). DoesJobs told finish.NoMemory [] lanes xs
      (told_by tap_told sink_told tap old) (told_by tap_told sink_told tap new)) (sym all)
      (nothing_served number_of cancels_in (SaysJob told) framed framing.Delimited SpellsJob
      (DoesJob told) (BreaksJob told) depth (tap_told tap) (sink_told old) (sink_told new) lanes put))

  -- the greeting couldn't be put, and nothing else was done
  pub not_greeted : (tap : TapTold) (old new : SinkTold) (lanes : List (JobLane S))
      → AddsFront (2 ∷ 64 ∷ 2 ∷ []) old.contents new.contents → Rose old.faults new.faults
      → Pools told finish.OutputFault lanes lanes (record { tap = tap; sink = old })
      (record { tap = tap; sink = new })
  not_greeted tap old new lanes front rose = record {
    serves = record {
      bytes = [];
      requests = [];
      replies = [];
      begun = [];
      taken = adds_nothing tap.taken;
      reads = let w = whole_new framing.Delimited SpellsJob in (w.0, w.1);
      caused = tt;
      put = record {
        given = subst (λ (bytes : List ℕ). AddsFront bytes old.contents new.contents)
            (greeting_is ∙ sym (append-nil (framed greeting))) front;
        rose = rose;
      };
      said = tt;
      once = λ k. omega arith;
      took = tt;
      order = ([], omega arith, refl);
    };
    lanes = tt;
    each = lanes_idle (DoesJob told) (BreaksJob told) 1 lanes;
  }
