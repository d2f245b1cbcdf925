use Rattle.std.{proofs.Common.{List, ℕ, Some, None, ap, ◌∙◌}, specs.FinMap.insert}
use Rattle.agent_ports.{specs.Mem.Keys.files_of, proofs.KeyMaps.file_inserted}
use Rattle.agent_ports.proofs.mem.keys.MapKeys.insert.Goals as goal

pub returns-clause-ok : goal.returns-clause-ok
returns-clause-ok c =
    let entries = c.args.self.now.files.entries in
    ap (λ files. record { files = Some files; folder = None; faults = c.args.self.now.plan.faults })
    (file_inserted entries c.insert.new.self.entries c.args.grip c.new.result c.in_ok-insert.ensures.updates.0
    ∙ ap (λ (file : List ℕ). insert (files_of entries) c.args.grip file) c.new.ensures)
