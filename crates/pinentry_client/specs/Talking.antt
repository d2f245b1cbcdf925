-- What is said to a pinentry, and answered, command by command (pinentry manual, "protocol"; Assuan manual, "client requests"). Each
-- command is written as a line, and its answer is what the child's lines up to the next end come to.
use Rattle.std.specs.{Prelude.{◌≡◌, ◌≢◌, ◌*◌, ◌&&◌, ℕ, Bool, true, false, List, [], ◌∷◌, length, min, codes, decimal, Some, None, Result, Ok, Err}, Str.bytes_eq}
use Rattle.{agent_ask.specs.declared.prompt.{prompter.{Consent.Consent, Outcome.Outcome}, spec.PromptSpec.PromptSpec}, assuan_client.specs.{Answers.ReadOn, Connections.Connection, Skipping.nothing, Writing.{Command, Reply, cancel_text}}}
use Rattle.{assuan_client.specs.declared.answer.Answer.Answer, assuan_escape.specs.Escapes.unescaped, assuan_text.specs.LineEnds.line_of}
use Rattle.pinentry_client.specs.{Answers.{greeted, accepted, pid_after, pin_outcome, consent_of}, Settings.{IsSettingLine, IsTextLine, all_settings}, declared.answers.Trouble.{Trouble, TheVariants.{Failed, Broken}}}
use Rattle.pinentry_client.specs.declared.settings.Setting.{Setting}
use Rattle.agent_ask.specs.declared.prompt.prompter.Outcome.TheVariants as outcome
use Rattle.assuan_client.specs.declared.answer.Answer.TheVariants as answer

-- a command was written, and answered, or its write failed
abbrev pub Commands : List ℕ → Answer → Connection → Connection → Type 0
Commands line answer before after = Command (line_of line) nothing answer before after

-- A setting is told, if it is sent, where this process was known before: the process that is known then, or why the dialogue can't go on.
pub data TellsSetting (spec : PromptSpec) (setting : Setting) (pid : ℕ) : Connection → Result ℕ Trouble → Connection → Type 0 where
  unsent : {now : Connection} → IsSettingLine spec setting None → TellsSetting spec setting pid now (Ok pid) now
  sent : {before after : Connection} (line : List ℕ) (said : Answer) → IsSettingLine spec setting (Some line) → Commands line said before after
      → TellsSetting spec setting pid before (pid_after setting pid said) after

-- These settings are told, one after another.
pub data Sets (spec : PromptSpec) : List Setting → ℕ → Connection → Result ℕ Trouble → Connection → Type 0 where
  done : {pid : ℕ} {now : Connection} → Sets spec [] pid now (Ok pid) now
  next : {setting : Setting} {settings : List Setting} {pid known : ℕ} {before mid after : Connection} {end : Result ℕ Trouble}
      → TellsSetting spec setting pid before (Ok known) mid → Sets spec settings known mid end after → Sets spec (setting ∷ settings) pid before end after
  stopped : {setting : Setting} {settings : List Setting} {pid : ℕ} {before after : Connection} {trouble : Trouble}
      → TellsSetting spec setting pid before (Err trouble) after → Sets spec (setting ∷ settings) pid before (Err trouble) after

-- A child greets, and is told all settings.
pub data StartTalk (spec : PromptSpec) : Connection → Result ℕ Trouble → Connection → Type 0 where
  greets : {before mid after : Connection} {end : Result ℕ Trouble} (said : Answer) → ReadOn nothing said before mid → greeted said ≡ Ok tt
      → Sets spec all_settings 0 mid end after → StartTalk spec before end after
  stopped : {before after : Connection} {trouble : Trouble} (said : Answer) → ReadOn nothing said before after → greeted said ≡ Err trouble
      → StartTalk spec before (Err trouble) after

-- how good a text would be as a passphrase, ten for each byte and at most 100
abbrev pub quality_text : List ℕ → List ℕ
quality_text text = decimal (min 100 (10 * length (unescaped false text)))

-- The child's inquiry is answered: how good its text is, where that is asked and told, and else by CAN.
abbrev pub ChildReplies : Bool → List ℕ → Answer → Connection → Connection → Type 0
ChildReplies true text said before after = Reply (quality_text text) said before after
ChildReplies false text said before after = Command cancel_text before.tally said before after

abbrev pub ChildInquires : Bool → List ℕ → List ℕ → Answer → Connection → Connection → Type 0
ChildInquires rates word text said before after = ChildReplies (rates && bytes_eq word (codes "QUALITY")) text said before after

abbrev pub is_asked : Answer → Bool
is_asked (answer.Asked word text) = true
is_asked _ = false

-- all inquiries after an answer are answered, up to one that is none
pub data Settles (rates : Bool) : Answer → Connection → Answer → Connection → Type 0 where
  answered : {said : Answer} {now : Connection} → is_asked said ≡ false → Settles rates said now said now
  inquired : {word text : List ℕ} {said last : Answer} {before mid after : Connection} → ChildInquires rates word text said before mid
      → Settles rates said mid last after → Settles rates (answer.Asked word text) before last after

-- a text is shown as an error, where it isn't empty
pub data ErrorTalk (error : List ℕ) : Connection → Result (Unit {0}) Trouble → Connection → Type 0 where
  none : {now : Connection} → error ≡ [] → ErrorTalk error now (Ok tt) now
  shown : {before after : Connection} (line : List ℕ) (said : Answer) → error ≢ [] → IsTextLine (codes "SETERROR ") error line → Commands line said before after
      → ErrorTalk error before (accepted said) after

-- what a prompt comes to that can't go on
abbrev pub outcome_by : Trouble → Outcome
outcome_by Failed = outcome.Failed
outcome_by (Broken why) = outcome.Broken why

-- a passphrase is asked for
pub data PinTalk (error : List ℕ) : Connection → Outcome → Connection → Type 0 where
  asked : {before shown mid after : Connection} (said last : Answer) → ErrorTalk error before (Ok tt) shown → Commands (codes "GETPIN") said shown mid
      → Settles true said mid last after → PinTalk error before (pin_outcome last) after
  stopped : {before after : Connection} (trouble : Trouble) → ErrorTalk error before (Err trouble) after → PinTalk error before (outcome_by trouble) after

-- consent is asked for
pub data ConsentTalk : Connection → Consent → Connection → Type 0 where
  asked : {before mid after : Connection} (said last : Answer) → Commands (codes "CONFIRM") said before mid → Settles false said mid last after
      → ConsentTalk before (consent_of last) after
