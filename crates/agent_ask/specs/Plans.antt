-- What the agent's prompts say, and how a passphrase is asked for (GnuPG manual, "Agent GET_PASSPHRASE", "Agent GET_CONFIRMATION"). What is
-- shown where is this project's own.
use Rattle.std.specs.Prelude.{◌≡◌, ℕ, Bool, List, [], Some, None, if◌then◌else◌}
use Rattle.{arrayvec.specs.ArrayVec.ArrayVec, session_options.specs.{OptionValues.{OptionValues, words_of}, declared.rules.Rules.Rules}}
use Rattle.agent_ask.specs.declared.prompt.spec.{AskPlan.AskPlan, PromptSpec.PromptSpec}

-- the bytes as a text
abbrev pub text : List ℕ → ArrayVec ℕ
text bytes = record { items = bytes }

-- What a prompt says: this description, and this before its field. The title and the buttons are the pinentry's own.
pub record IsSpec (rules : Rules) (options : OptionValues) (description prompt : ArrayVec ℕ) (quality : Bool) (spec : PromptSpec) : Type 0 where
  pub title : spec.title.items ≡ []
  pub description_is : spec.description ≡ description
  pub prompt_is : spec.prompt ≡ prompt
  pub ok : spec.ok.items ≡ []
  pub cancel : spec.cancel.items ≡ []
  pub quality_is : spec.quality ≡ quality
  pub env : words_of spec.env ≡ options.env
  pub timeout : spec.timeout ≡ rules.pinentry_timeout

-- how a passphrase is asked for, by what the line says: its first error, whether it is checked, and how often it is repeated
abbrev pub plan_of : Rules → OptionValues → ArrayVec ℕ → Bool → ℕ → AskPlan
plan_of rules options error check repeat = record {
  notify = options.notify;
  first_error = error;
  check = if check then Some (rules.min_len, rules.min_nonalpha) else None;
  repeat = repeat;
}
