-- Private: what is set in three places, as the program holds it.
use Rattle.std.specs.Prelude.{map}
use Rattle.agent_conf.specs.{Settled.Texts, Written.written, declared.settings.Settings.Settings}

abbrev pub texts_in : Settings → Texts
texts_in settings = record {
  machine = map written settings.machine.items;
  home = map written settings.home.items;
  words = map written settings.words.items;
}
