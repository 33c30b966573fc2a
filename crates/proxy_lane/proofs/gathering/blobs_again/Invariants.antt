use Rattle.std.proofs.Common.{◌≡◌, take}
use Rattle.proxy_lane.proofs.gathering.blobs_again.Given as goal

abbrev pub invariant-loop-blob : goal.invariant-loop-blob
invariant-loop-blob l = l.copies.items ≡ take l.blob-index l.blobs
