use Rattle.passphrase_laws.proofs.Changing.{all_read, clears_read, presets_read, probe_read}
use Rattle.passphrase_laws.proofs.asking.a_change_is_read_as_meant.Goals as goal

pub returns : goal.returns
returns c = record { clears = clears_read; clears_all = all_read; presets = λ task seconds secret id_is. presets_read task id_is seconds secret; probes = probe_read }
