-- What a session may ask for that came in by the agent's outer door, as the sessions of another machine do (GnuPG manual, "Agent Options",
-- `--extra-socket`), by the rule of its command. This is the project's own.
use Rattle.std.specs.{Prelude.{ℕ, ◌&&◌, ◌||◌, not, Bool, true, false, List, [], ◌∷◌, codes, Option, Some, None, is_none}, Str.bytes_eq}
use Rattle.agent_commands.specs.{Requests.{get_fields, leaves_cache, request_of}, declared.request.{CacheCommand.TheVariants.SetOption, Request.{Request, TheVariants.Cache}}}
use Rattle.{assuan_text.specs.{Options.{options_of, arguments_of, has_option, last_value}, Words.{rest_of, words}}, command_table.specs.{Commands.{command_in, outer_rule}, declared.commands.{Command.Command, Rule.Rule}}}
use Rattle.{command_table.specs.declared.commands.Rule.TheVariants.{Always, NotTheMode, AboutTheAgent, Uncached, OneKey, Never}, session_options.specs.Text.name_of}
use Rattle.agent_origin.specs.declared.door.Door.{Door, TheVariants.{Home, Outer}}

-- the first of the words is one of these
abbrev pub is_about_the_agent : List (List ℕ) → Bool
is_about_the_agent [] = false
is_about_the_agent (what ∷ more) = bytes_eq what (codes "version") || bytes_eq what (codes "cmd_has_option")

-- not all keys are asked for, by `--list` without a value or with one
abbrev pub lists_none : List (List ℕ) → Bool
lists_none options = not (has_option (codes "--list") options) && is_none (last_value (codes "--list") options)

-- a line with a command of this rule is allowed
abbrev pub passes : Rule → List ℕ → Bool
passes Always line = true
passes NotTheMode line = not (bytes_eq (name_of (rest_of line)) (codes "pinentry-mode"))
passes AboutTheAgent line = is_about_the_agent (arguments_of (words (rest_of line)))
passes Uncached line = leaves_cache (get_fields (request_of line))
passes OneKey line = lists_none (options_of (words (rest_of line)))
passes Never line = false

-- The option's name says in which terminal prompts are drawn, of which kind that is, or in which language (GnuPG manual, "Agent OPTION").
abbrev pub is_of_terminal : List ℕ → Bool
is_of_terminal name =
    bytes_eq name (codes "ttyname") || bytes_eq name (codes "ttytype") || bytes_eq name (codes "lc-ctype") || bytes_eq name (codes "lc-messages")

-- a request to set such an option
abbrev pub sets_terminal : Request → Bool
sets_terminal (Cache (SetOption text)) = is_of_terminal (name_of text.items)
sets_terminal _ = false

-- A line that begins with no known command isn't forbidden: it is answered as an unknown one.
abbrev pub passes_by : Option Command → List ℕ → Bool
passes_by None line = true
passes_by (Some command) line = passes (outer_rule command) line

abbrev pub allowed : Door → List ℕ → Bool
allowed Home line = true
allowed Outer line = passes_by (command_in line) line
