-- The requests of the command `passphrase` as the agent reads them (GnuPG manual, "Agent GET_PASSPHRASE").
use Rattle.std.specs.Prelude.{◌≡◌, ◌≢◌, ◌≤◌, ℕ, ⊤, Bool, true, false, List, [], ◌∷◌, map, codes, Option, Some, None, if◌then◌else◌}
use Rattle.{arrayvec.specs.ArrayVec.ArrayVec, agent_ask.specs.Plans.text, agent_commands.specs.Requests.GetFields, assuan_text.specs.Blanks.is_blank, cache_policy.specs.declared.life.{Life.{Life, TheVariants.{Endless, Seconds}}, TheConstants.MAX_SECONDS}, passphrase_words.specs.{Ids.is_id, Questions.prompt_for, Rules.{IsTask, askpass_asked, askpass_task, description_given}}}
use Rattle.passphrase_words.specs.{Requests.{Asks, Looks, line_of_request}, Spelling.{Setting, Spells, operands_of, value_given}, Tasks.TaskValue, Texts.{Fits, texts_of, description_or}, declared.task.Act.{Act, TheVariants.Give}}

-- a text as the agent has it: a tab counts as a blank
abbrev pub as_read : List ℕ → ArrayVec ℕ
as_read bytes = text (map (λ byte. if is_blank byte then 32 else byte) bytes)

-- without a prompt's text it is the agent's own
abbrev pub prompt_read : Option (List ℕ) → ArrayVec ℕ
prompt_read None = text (codes "Passphrase:")
prompt_read (Some bytes) = as_read bytes

-- the task says this prompt, which isn't empty where it is given, and this description
pub record Says (task : TaskValue) (prompt : Option (List ℕ)) (description : List ℕ) : Type 0 where
  pub id_is : is_id task.id ≡ true
  pub some : prompt ≢ Some []
  pub texts_are : task.texts ≡ texts_of task.id prompt description

-- The words are this task's, and give it this prompt, where they have one, and this description. An askpass's text is its description, by which it has its prompt.
pub data Means (words : List (List ℕ)) (task : TaskValue) : Option (List ℕ) → List ℕ → Type 0 where
  command : {given : List Setting} {rest operands : List (List ℕ)} → Spells given rest words → operands_of rest ≡ Some operands → IsTask given operands task
      → Means words task (value_given (codes "--prompt") given) (description_given given operands)
  askpass : {text : List ℕ} {act : Act} → askpass_asked words ≡ Some (text, act) → task ≡ askpass_task text act → Fits task.id task.texts → Means words task (prompt_for text) text

-- what the words of a task give it
pub record HasTexts (words : List (List ℕ)) (task : TaskValue) : Type 0 where
  pub prompt : Option (List ℕ)
  pub description : List ℕ
  pub means : Means words task prompt description

-- nobody is asked by this act
abbrev pub is_quiet : Act → Bool
is_quiet (Give repeats quiet ttl feeds) = quiet
is_quiet _ = true

-- how often what is typed is repeated
abbrev pub repeat_by : Bool → Bool → ℕ
repeat_by repeats true = 0
repeat_by true false = 1
repeat_by false false = 0

abbrev pub repeats_of : Act → ℕ
repeats_of (Give repeats quiet ttl feeds) = repeat_by repeats quiet
repeats_of _ = 0

-- what is read of a request under this task's id: data lines are wanted, nobody is asked or somebody is, and with these texts
abbrev pub fields_of : TaskValue → Option (List ℕ) → List ℕ → Bool → ℕ → GetFields
fields_of task prompt description no_ask repeat = record {
  plain = true;
  check = false;
  no_ask = no_ask;
  repeat = repeat;
  quality = false;
  id = Some task.id;
  texts = Some (record { error = text []; prompt = prompt_read prompt; description = as_read (description_or task.id description) });
}

-- the two requests for a passphrase that a task sends: the line of each, and what is read of it
pub data SaysRequest (task : TaskValue) (prompt : Option (List ℕ)) (description : List ℕ) : List ℕ → GetFields → Type 0 where
  looks : SaysRequest task prompt description (line_of_request task Looks) (fields_of task prompt description true 0)
  asks : SaysRequest task prompt description (line_of_request task Asks) (fields_of task prompt description (is_quiet task.act) (repeats_of task.act))

-- the seconds that a task may name: 1 to 2^31 - 1
abbrev pub AreSeconds : Option ℕ → Type 0
AreSeconds None = ⊤
AreSeconds (Some seconds) = (1 ≤ seconds) × (seconds ≤ MAX_SECONDS)

-- for how long the agent keeps what is stored for these; none are as long as it keeps anything
abbrev pub life_of : Option ℕ → Life
life_of None = Endless
life_of (Some seconds) = Seconds seconds
