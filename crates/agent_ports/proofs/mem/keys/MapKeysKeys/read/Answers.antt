use Rattle.std.{proofs.Common.{rules, ◌≡◌, ◌≤◌, length, Some, None}, specs.FinMap.get}
use Rattle.agent_ports.{specs.{declared.keys.TheConstants.MAX_KEY_FILE_LEN, Mem.Keys.files_of}, proofs.KeyMaps.get_file}
use Rattle.agent_ports.proofs.mem.keys.MapKeysKeys.read.Goals as goal

pub returns-in-None : goal.returns-in-None
returns-in-None c =
    let value = get_file c.args.self.now.files.entries c.args.grip.now in
    let none : get (files_of c.args.self.now.files.entries) c.args.grip.now ≡ None = search rules in
    search rules

pub returns-in-Ok : goal.returns-in-Ok
returns-in-Ok c =
    let value = get_file c.args.self.now.files.entries c.args.grip.now in
    let bytes : c.in-Ok.bytes.items ≡ c.as_slice.result.now = search rules in
    let some : get (files_of c.args.self.now.files.entries) c.args.grip.now ≡ Some c.in-Ok.bytes.items = search rules in
    let small : length c.in-Ok.bytes.items ≤ MAX_KEY_FILE_LEN = search rules in
    search rules
