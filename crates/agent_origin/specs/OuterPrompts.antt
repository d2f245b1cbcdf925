-- What prompts name in a session that came in by the outer door. The terminal and the language of its client are another machine's, so its prompts name
-- none. This is this project's own.
use Rattle.std.specs.{Prelude.{◌≡◌, List, [], ⊤}, List.AllByRecursion}
use Rattle.{agent_ask.specs.{Events.{Start, Called, PromptEvent}, Session.{PortCalls.Prompt, SessionEvents.Port}}, key_commands.specs.Events.Event, session_options.specs.OptionValues.{EnvWords, words_of}}

-- no terminal and no language is named
abbrev pub no_words : EnvWords
no_words = record { ttyname = []; ttytype = []; lc_ctype = []; lc_messages = [] }

-- a prompt that is opened names these
abbrev pub Names : EnvWords → PromptEvent → Type 0
Names env (Called (Start spec opened)) = words_of spec.env ≡ env
Names env _ = ⊤

-- the same of an event of a session
abbrev pub PromptNames : EnvWords → Event → Type 0
PromptNames env (Port (Prompt event)) = Names env event
PromptNames env _ = ⊤

-- each prompt among the events names these
abbrev pub PromptsName : EnvWords → List Event → Type 0
PromptsName env events = AllByRecursion (PromptNames env) events
