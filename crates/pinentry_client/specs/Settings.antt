-- The lines that a pinentry is sent before a prompt (pinentry manual, "protocol"). Their order, and where a text that is too long is cut,
-- is this project's own.
use Rattle.std.specs.Prelude.{◌≡◌, ◌≢◌, ◌≤◌, ◌+◌, ℕ, if◌then◌else◌, List, [], ◌∷◌, ◌++◌, length, take, codes, decimal, Option, Some, None, ⊤}
use Rattle.{agent_ask.specs.declared.prompt.spec.PromptSpec.PromptSpec, assuan_escape.specs.Escapes.escapes, assuan_text.specs.declared.TheConstants.MAX_LINE_LEN}
use Rattle.pinentry_client.specs.declared.settings.Setting.{Setting}
use Rattle.pinentry_client.specs.declared.settings.Setting.TheVariants as setting

-- A word and a text behind it as one line: the escapes of as many first bytes of the text as fit.
pub record IsTextLine (word text line : List ℕ) : Type 0 where
  pub count : ℕ
  pub within : count ≤ length text
  pub line_is : line ≡ word ++ escapes (take count text)
  pub fits : length line ≤ MAX_LINE_LEN
  pub most : (more : ℕ) → more ≤ length text → length word + length (escapes (take more text)) ≤ MAX_LINE_LEN → more ≤ count

abbrev pub IsJust : List ℕ → List ℕ → Type 0
IsJust text line = line ≡ text

-- a line is sent exactly where the text isn't empty
abbrev pub IsWhereGiven : List ℕ → (List ℕ → Type 0) → Option (List ℕ) → Type 0
IsWhereGiven [] Is None = ⊤
IsWhereGiven [] Is (Some line) = ⊥
IsWhereGiven (byte ∷ text) Is None = ⊥
IsWhereGiven (byte ∷ text) Is (Some line) = Is line

-- an option, whose value is written as it stands
abbrev pub IsOptionLine : List ℕ → List ℕ → Option (List ℕ) → Type 0
IsOptionLine word value sent = IsWhereGiven value (IsJust (word ++ value)) sent

abbrev pub IsGivenLine : List ℕ → List ℕ → Option (List ℕ) → Type 0
IsGivenLine word text sent = IsWhereGiven text (IsTextLine word text) sent

-- the seconds after which the prompt is given up; none are sent where that is never
abbrev pub IsTimeoutLine : ℕ → Option (List ℕ) → Type 0
IsTimeoutLine seconds None = seconds ≡ 0
IsTimeoutLine seconds (Some line) = (seconds ≢ 0) × IsTextLine (codes "SETTIMEOUT ") (decimal seconds) line

-- the line of each setting, if it is sent
abbrev pub IsSettingLine : PromptSpec → Setting → Option (List ℕ) → Type 0
IsSettingLine spec setting.TtyName sent = IsOptionLine (codes "OPTION ttyname=") spec.env.ttyname.items sent
IsSettingLine spec setting.TtyType sent = IsOptionLine (codes "OPTION ttytype=") spec.env.ttytype.items sent
IsSettingLine spec setting.LcCtype sent = IsOptionLine (codes "OPTION lc-ctype=") spec.env.lc_ctype.items sent
IsSettingLine spec setting.LcMessages sent = IsOptionLine (codes "OPTION lc-messages=") spec.env.lc_messages.items sent
IsSettingLine spec setting.Timeout sent = IsTimeoutLine spec.timeout sent
IsSettingLine spec setting.Pid sent = sent ≡ Some (codes "GETINFO pid")
IsSettingLine spec setting.KeyInfo sent = sent ≡ Some (codes "SETKEYINFO --clear")
IsSettingLine spec setting.Title sent = IsGivenLine (codes "SETTITLE ") spec.title.items sent
IsSettingLine spec setting.Description sent = IsGivenLine (codes "SETDESC ") spec.description.items sent
IsSettingLine spec setting.Prompt sent = IsGivenLine (codes "SETPROMPT ") spec.prompt.items sent
IsSettingLine spec setting.Ok sent = IsGivenLine (codes "SETOK ") spec.ok.items sent
IsSettingLine spec setting.Cancel sent = IsGivenLine (codes "SETCANCEL ") spec.cancel.items sent
IsSettingLine spec setting.QualityBar sent = sent ≡ (if spec.quality then Some (codes "SETQUALITYBAR") else None)

-- all settings, in their order
abbrev pub all_settings : List Setting
all_settings =
    setting.TtyName ∷ setting.TtyType ∷ setting.LcCtype ∷ setting.LcMessages ∷ setting.Timeout ∷ setting.Pid ∷ setting.KeyInfo ∷ setting.Title
    ∷ setting.Description ∷ setting.Prompt ∷ setting.Ok ∷ setting.Cancel ∷ setting.QualityBar ∷ []
