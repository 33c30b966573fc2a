use Rattle.std.proofs.Common.{◌≡◌, ◌≤◌, length, map, sym, ap, subst, ◌∙◌, []}
use Rattle.action_list.specs.Keys.{keys_among, keys_of}
use Rattle.action_list.specs.Plans.{local_key, number_of}
use Rattle.action_list.proofs.Numbers.{among_is, numbers_are}
use Rattle.action_list.proofs.SoundGroups.{few_keys}
use Rattle.action_list.proofs.keys.keys_of.Goals as goal

held : (c : goal.After-of-2) → c.as_slice.result.now ≡ map local_key c.args.actions.now
held c = c.as_slice.ensures ∙ c.of-held.ensures ∙ c.in_ok-local_keys.ensures

keys : (c : goal.After-of-2) → c.of.result ≡ keys_of c.args.actions.now
keys c = c.of.ensures ∙ c.in_ok-keys.ensures.keys ∙ ap (keys_among []) (held c) ∙ among_is c.args.actions.now

pub returns-clause-keys : goal.returns-clause-keys
returns-clause-keys c = keys c

pub returns-clause-few : goal.returns-clause-few
returns-clause-few c = subst (λ ks. length ks ≤ length c.args.actions.now) (sym (keys c)) (few_keys c.args.actions.now)

pub returns-clause-numbers : goal.returns-clause-numbers
returns-clause-numbers c =
    c.of-2.ensures ∙ c.in_ok-keys.ensures.numbers
    ∙ ap (λ ks. map (number_of ks) c.as_slice.result.now) (sym (c.of.ensures ∙ c.in_ok-keys.ensures.keys))
    ∙ ap (map (number_of c.of.result)) (held c) ∙ numbers_are c.of.result c.args.actions.now
