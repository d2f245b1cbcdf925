-- What a command line asks for.
use Rattle.std.specs.{Prelude.{ℕ, List, Option}, Option.option_map}
use Rattle.passphrase_words.specs.declared.{task.{Act.Act, Task.Task}, words.Wanted.{Wanted, TheVariants.{Help, Version}}}
use Rattle.passphrase_words.specs.declared.words.Wanted.TheVariants as wanted

-- the folder and the seconds of `--homedir` and `--timeout`, the id, what is to be done, and the words of the prompt and of the description
-- in a request
pub record TaskValue : Type 0 where
  pub folder : Option (List ℕ)
  pub seconds : Option ℕ
  pub id : List ℕ
  pub act : Act
  pub texts : List ℕ

pub data WantedValue : Type 0 where
  WantsHelp : WantedValue
  WantsVersion : WantedValue
  WantsTask : TaskValue → WantedValue

-- a task as contracts see it
abbrev pub task_value : Task → TaskValue
task_value task = record {
  folder = option_map (λ folder. folder.now) task.folder;
  seconds = task.seconds;
  id = task.id.items;
  act = task.act;
  texts = task.texts.items;
}

abbrev pub wanted_value : Wanted → WantedValue
wanted_value Help = WantsHelp
wanted_value Version = WantsVersion
wanted_value (wanted.Task task) = WantsTask (task_value task)
