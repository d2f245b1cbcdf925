-- What words of the command line ask for.
use Rattle.std.specs.{Prelude.{◌≡◌, ℕ, ◌||◌, Bool, true, List, ◌∷◌, codes, Some}, Str.bytes_eq}
use Rattle.passphrase_words.specs.{Rules.{IsTask, askpass_asked, askpass_task}, Spelling.{Setting, Spells, operands_of}, Tasks.{TaskValue, WantedValue, WantsHelp, WantsVersion, WantsTask}, Texts.Fits, declared.task.Act.Act}

abbrev pub asks_for_help : List ℕ → Bool
asks_for_help word = bytes_eq word (codes "--help") || bytes_eq word (codes "-h")

-- The words are options and then help or the version, behind which nothing counts; or options and operands that are a task's.
pub data Reads (words : List (List ℕ)) : WantedValue → Type 0 where
  help : {given : List Setting} {word : List ℕ} {behind : List (List ℕ)} → Spells given (word ∷ behind) words → asks_for_help word ≡ true
      → Reads words WantsHelp
  version : {given : List Setting} {behind : List (List ℕ)} → Spells given (codes "--version" ∷ behind) words
      → Reads words WantsVersion
  task : {given : List Setting} {rest operands : List (List ℕ)} {task : TaskValue} → Spells given rest words
      → operands_of rest ≡ Some operands → IsTask given operands task → Reads words (WantsTask task)

-- The words of an askpass are a text, which a request has room for, or `--forget` and a text.
pub record ReadsAskpass (words : List (List ℕ)) (task : TaskValue) : Type 0 where
  pub text : List ℕ
  pub act : Act
  pub words_are : askpass_asked words ≡ Some (text, act)
  pub task_is : task ≡ askpass_task text act
  pub fit : Fits task.id task.texts
