-- The commands of the agent: the names that they have, and what holds of each (GnuPG manual, "Agent's Assuan protocol"; the commands of any Assuan server are
-- those of the Assuan manual, "client requests"). Which of them HELP tells, and what is allowed at the outer door, is this project's own.
use Rattle.std.specs.{Prelude.{◌≡◌, ◌≤◌, ℕ, Bool, true, false, List, [], ◌∷◌, length, map, codes, Option, Some}, List.filter}
use Rattle.assuan_text.specs.{Rows.{found_in_any_case, has_pair}, Words.{command_of, rest_of}, declared.TheConstants.MAX_LINE_LEN}
use Rattle.command_table.specs.declared.commands.Command.{Command, TheVariants.{Cache, Key, Trust}}
use Rattle.command_table.specs.declared.commands.CommandName.TheVariants.{Nop, Reset, Bye, Help, SetOption, GetInfo, GetPassphrase, PresetPassphrase, ClearPassphrase, GetConfirmation, ReloadAgent, KillAgent, SetKeyDesc}
use Rattle.command_table.specs.declared.commands.{KeyCommandName.TheVariants.{HaveKey, KeyInfo, KeyWrap, ImportKey, ExportKey, Passwd, DeleteKey}, TrustCommandName.TheVariants.{IsTrusted, MarkTrusted}, Rule.Rule}
use Rattle.command_table.specs.declared.commands.Rule.TheVariants.{Always, NotTheMode, AboutTheAgent, Uncached, OneKey, Never}

abbrev pub commands : List (List ℕ × Command)
commands =
    (codes "NOP", Cache Nop)
    ∷ (codes "RESET", Cache Reset)
    ∷ (codes "BYE", Cache Bye)
    ∷ (codes "HELP", Cache Help)
    ∷ (codes "OPTION", Cache SetOption)
    ∷ (codes "GETINFO", Cache GetInfo)
    ∷ (codes "GET_PASSPHRASE", Cache GetPassphrase)
    ∷ (codes "PRESET_PASSPHRASE", Cache PresetPassphrase)
    ∷ (codes "CLEAR_PASSPHRASE", Cache ClearPassphrase)
    ∷ (codes "GET_CONFIRMATION", Cache GetConfirmation)
    ∷ (codes "RELOADAGENT", Cache ReloadAgent)
    ∷ (codes "KILLAGENT", Cache KillAgent)
    ∷ (codes "SETKEYDESC", Cache SetKeyDesc)
    ∷ (codes "HAVEKEY", Key HaveKey)
    ∷ (codes "KEYINFO", Key KeyInfo)
    ∷ (codes "KEYWRAP_KEY", Key KeyWrap)
    ∷ (codes "IMPORT_KEY", Key ImportKey)
    ∷ (codes "EXPORT_KEY", Key ExportKey)
    ∷ (codes "PASSWD", Key Passwd)
    ∷ (codes "DELETE_KEY", Key DeleteKey)
    ∷ (codes "ISTRUSTED", Trust IsTrusted)
    ∷ (codes "MARKTRUSTED", Trust MarkTrusted)
    ∷ []

-- the command of the first of these names that the word spells, whatever the case of its letters
unfoldable pub command_named : List ℕ → Option Command
command_named word = found_in_any_case word commands

-- the command that a line begins with
abbrev pub command_in : List ℕ → Option Command
command_in line = command_named (command_of line)

-- a line that is cut into its command and what comes after it
pub record IsCut (line : List ℕ) (command : Option Command) (rest : List ℕ) : Type 0 where
  pub command_is : command ≡ command_in line
  pub rest_is : rest ≡ rest_of line
  pub line_within : length line ≤ MAX_LINE_LEN
  pub rest_within : length rest ≤ MAX_LINE_LEN

-- What its line has to be at the outer door. Whatever isn't named here is allowed there in no form.
abbrev pub outer_rule : Command → Rule
outer_rule (Cache Nop) = Always
outer_rule (Cache Reset) = Always
outer_rule (Cache Bye) = Always
outer_rule (Cache Help) = Always
outer_rule (Cache SetOption) = NotTheMode
outer_rule (Cache GetInfo) = AboutTheAgent
outer_rule (Cache GetPassphrase) = Uncached
outer_rule (Cache GetConfirmation) = Always
outer_rule (Key HaveKey) = OneKey
outer_rule (Key KeyInfo) = OneKey
outer_rule (Trust IsTrusted) = Always
outer_rule _ = Never

-- HELP tells it: SETKEYDESC nowhere, and those on the trust list where a session has to do with it
abbrev pub is_told : Bool → Command → Bool
is_told trusts (Cache SetKeyDesc) = false
is_told trusts (Trust name) = trusts
is_told trusts _ = true

-- the names that HELP tells, in this order
abbrev pub names_told : Bool → List (List ℕ × Command) → List (List ℕ)
names_told trusts rows = map (λ row. row.0) (filter (λ row. is_told trusts row.1) rows)

-- The commands on keys that may prompt, each of which ends what its client described for prompts (SETKEYDESC of gpg-agent). The others ask nobody.
abbrev pub ends_description : Option Command → Bool
ends_description (Some (Key ImportKey)) = true
ends_description (Some (Key ExportKey)) = true
ends_description (Some (Key Passwd)) = true
ends_description (Some (Key DeleteKey)) = true
ends_description _ = false

-- the options that GETINFO knows of the commands
abbrev pub listed : List (List ℕ × List ℕ)
listed =
    (codes "GET_PASSPHRASE", codes "data")
    ∷ (codes "GET_PASSPHRASE", codes "check")
    ∷ (codes "GET_PASSPHRASE", codes "no-ask")
    ∷ (codes "GET_PASSPHRASE", codes "repeat")
    ∷ (codes "GET_PASSPHRASE", codes "qualitybar")
    ∷ (codes "PRESET_PASSPHRASE", codes "inquire")
    ∷ (codes "CLEAR_PASSPHRASE", codes "mode")
    ∷ (codes "KEYINFO", codes "list")
    ∷ (codes "KEYWRAP_KEY", codes "import")
    ∷ (codes "KEYWRAP_KEY", codes "export")
    ∷ (codes "IMPORT_KEY", codes "force")
    ∷ (codes "EXPORT_KEY", codes "cache-nonce")
    ∷ (codes "PASSWD", codes "cache-nonce")
    ∷ (codes "PASSWD", codes "passwd-nonce")
    ∷ (codes "PASSWD", codes "verify")
    ∷ (codes "DELETE_KEY", codes "force")
    ∷ []

-- both are listed so, byte for byte
unfoldable pub is_listed : List ℕ → List ℕ → Bool
is_listed command option = has_pair command option listed
