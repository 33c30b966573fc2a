use Rattle.std.proofs.Common.{◌≡◌, ◌∙◌}
use Rattle.worker_key.specs.Keys.{IsCountable, canonical}
use Rattle.worker_key.proofs.Unique.{same_bytes, written}
use Rattle.worker_key.proofs.key.WorkerKey.canonical_bytes.Goals as goal

bytes : (c : goal.In_ok-push_letters) → c.push_letters.new.out.items ≡ canonical c.args.self.now
bytes c = written c.args.self.now c.push_counted.new.out.items c.push_texts.new.out.items c.push_pairs.new.out.items c.push_pairs-2.new.out.items c.push_letters.new.out.items
    (rw (c.as_bytes.ensures.value, c.as_str.ensures, c.new-out.ensures.items) at c.in_ok-push_counted.ensures.put)
    (rw c.as_slice.ensures at c.in_ok-push_texts.ensures.put)
    (rw c.as_slice-2.ensures at c.in_ok-push_pairs.ensures.put)
    (rw c.as_slice-3.ensures at c.in_ok-push_pairs-2.ensures.put)
    c.in_ok-push_letters.ensures

pub returns-clause-bytes : goal.returns-clause-bytes
returns-clause-bytes c = bytes c

pub returns-clause-unique : goal.returns-clause-unique
returns-clause-unique c =
    let countable : IsCountable c.args.self.now = record {
      short_mnemonic = rw (c.as_bytes.ensures.value, c.as_str.ensures) at c.in_ok-push_counted.ensures.short;
      few_words = rw c.as_slice.ensures at c.in_ok-push_texts.ensures.few;
      short_words = rw c.as_slice.ensures at c.in_ok-push_texts.ensures.short;
      few_variables = rw c.as_slice-2.ensures at c.in_ok-push_pairs.ensures.few;
      short_variables = rw c.as_slice-2.ensures at c.in_ok-push_pairs.ensures.short;
      few_tools = rw c.as_slice-3.ensures at c.in_ok-push_pairs-2.ensures.few;
      short_tools = rw c.as_slice-3.ensures at c.in_ok-push_pairs-2.ensures.short;
    } in
    λ other of_other e. same_bytes other c.args.self.now of_other countable (e ∙ bytes c)
