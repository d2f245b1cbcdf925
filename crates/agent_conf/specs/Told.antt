-- What is told of a setting, as the program holds it.
use Rattle.agent_conf.specs.{Verdicts.Told, Written.written, declared.told.Told.Told as Held}

abbrev pub told_by : Held → Told
told_by one = (written one.setting, one.verdict)
