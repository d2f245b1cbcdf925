use Rattle.std.{proofs.Common.{rules, ◌≡◌, ◌∙◌}, specs.Map.keys_of}
use Rattle.agent_ports.proofs.KeyMaps.{keys_listed}
use Rattle.agent_ports.proofs.mem.keys.MapKeysKeys.list.Goals as goal

pub returns-in-Ok-clause-lists : goal.returns-in-Ok-clause-lists
returns-in-Ok-clause-lists c =
    let entries = c.args.self.now.files.entries in
    let names : c.in-Ok.names.items ≡ keys_of entries = search rules in
    record {
      says = names ∙ keys_listed entries c.keys.ensures.ordered;
      ascending = rw names c.keys.ensures.ordered;
      leaves = search rules;
      failed = search rules;
    }
