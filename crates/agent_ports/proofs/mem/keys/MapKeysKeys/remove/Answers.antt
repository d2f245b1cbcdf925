use Rattle.std.{proofs.Common.{rules, ◌≡◌, None, IsSome, ap, ◌∙◌, sym, subst}, specs.FinMap.get}
use Rattle.agent_ports.{specs.{KeyFiles.RemovesKey, Mem.Keys.files_of, declared.keys.KeyDone.KeyDone}, proofs.{KeyMaps.{get_file, file_removed, known_keys, removes_key, lacks_key}, mem.keys.MapKeysKeys.remove.Goals.{in-Some, in-None}}}
use Rattle.agent_ports.proofs.mem.keys.MapKeysKeys.remove.Goals as goal

pub returns-clause-removes : goal.returns-clause-removes
returns-clause-removes c =
    let before = c.args.self.now in
    let after = c.remove.new.self in
    let grip = c.args.grip.now in
    let value = get_file before.files.entries grip ∙ sym c.remove.ensures.value in
    let Removes : KeyDone → Type 0 = λ answer. RemovesKey (known_keys (files_of before.files.entries) before.plan.faults) grip answer (known_keys (files_of after.entries) c.next_fails.new.self.faults) in
    elim c.match-remove.branch [
      | in-Some w ↦
          let had : IsSome (get (files_of before.files.entries) grip) = search rules in
          subst Removes (sym w.result-is) (removes_key _ _ grip _ _ (file_removed before.files.entries after.entries grip c.remove.ensures.updates.0) had c.next_fails.ensures.never_falls)
      | in-None w ↦
          let same : after.entries ≡ before.files.entries = search rules in
          let none : get (files_of before.files.entries) grip ≡ None = search rules in
          subst Removes (sym w.result-is) (lacks_key _ _ grip _ _ (ap files_of same) none c.next_fails.ensures.never_falls)
    ]
