use Rattle.std.proofs.Common.{◌≡◌, map, take}
use Rattle.request_frames.specs.Requests.{input_of}
use Rattle.request_frames.proofs.requests.inputs_of.Given as goal

abbrev pub invariant-loop-file : goal.invariant-loop-file
invariant-loop-file l = l.inputs.items ≡ map input_of (take l.file-index l.files)
