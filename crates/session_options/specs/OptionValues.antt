-- The option values of a session, and what an option makes of them (GnuPG manual, "Agent OPTION"). What is refused is this
-- project's own.
use Rattle.std.specs.Prelude.{ℕ, Bool, true, false, List, [], Option, Some, None, if◌then◌else◌}
use Rattle.session_options.specs.{Text.{name_of, option_value, can_be_kept}, Table.{named, mode_of, count_of}, declared.{env.Env.Env, names.OptionName.OptionName}}
use Rattle.session_options.specs.declared.{names.OptionName.TheVariants.{TtyName, TtyType, LcCtype, LcMessages, NoEffect, AllowPinentryNotify, PinentryMode, S2kCount}, options.PinMode.{PinMode, TheVariants.{Ask, Loopback}}}
use Rattle.session_options.specs.declared.options.OptionAnswer.{OptionAnswer, TheVariants.{Set, Unknown, Parameter, NotSupported}}

-- the words of an `Env`; an empty one means none
pub record EnvWords : Type 0 where
  pub ttyname : List ℕ
  pub ttytype : List ℕ
  pub lc_ctype : List ℕ
  pub lc_messages : List ℕ

abbrev pub words_of : Env → EnvWords
words_of env = record {
  ttyname = env.ttyname.items;
  ttytype = env.ttytype.items;
  lc_ctype = env.lc_ctype.items;
  lc_messages = env.lc_messages.items;
}

-- the option values, what the next prompts about a key say, where the client set it (SETKEYDESC of gpg-agent), and what the rules said
pub record OptionValues : Type 0 where
  pub env : EnvWords
  pub notify : Bool
  pub mode : PinMode
  pub s2k_count : ℕ
  pub description : Option (List ℕ)
  pub rules_count : ℕ
  pub allow_loopback : Bool

-- before any option, under these rules
abbrev pub at_start : ℕ → Bool → OptionValues
at_start rules_count allow_loopback = record {
  env = record { ttyname = []; ttytype = []; lc_ctype = []; lc_messages = [] };
  notify = false;
  mode = Ask;
  s2k_count = rules_count;
  description = None;
  rules_count = rules_count;
  allow_loopback = allow_loopback;
}

-- with this description, and with none
abbrev pub with_description : OptionValues → List ℕ → OptionValues
with_description old description = record old { description = Some description }

abbrev pub without_description : OptionValues → OptionValues
without_description old = record old { description = None }

-- what an option is answered, and the option values after it
pub record Applied : Type 0 where
  pub answer : OptionAnswer
  pub after : OptionValues

-- the option is set, with these values now
abbrev pub set_to : OptionValues → Applied
set_to after = record { answer = Set; after = after }

-- a refusal leaves the values as they were
abbrev pub refused : OptionAnswer → OptionValues → Applied
refused answer old = record { answer = answer; after = old }

abbrev pub with_mode : OptionValues → Option PinMode → Applied
with_mode old None = refused Parameter old
with_mode old (Some Loopback) =
    if old.allow_loopback then set_to (record old { mode = Loopback }) else refused NotSupported old
with_mode old (Some mode) = set_to (record old { mode = mode })

abbrev pub with_count : OptionValues → Option ℕ → Applied
with_count old None = refused Parameter old
with_count old (Some count) = set_to (record old { s2k_count = count })

-- what a known option makes of a value that can be kept
abbrev pub with_value : OptionValues → List ℕ → OptionName → Applied
with_value old value TtyName = set_to (record old { env = record old.env { ttyname = value } })
with_value old value TtyType = set_to (record old { env = record old.env { ttytype = value } })
with_value old value LcCtype = set_to (record old { env = record old.env { lc_ctype = value } })
with_value old value LcMessages = set_to (record old { env = record old.env { lc_messages = value } })
with_value old value NoEffect = set_to old
with_value old value AllowPinentryNotify = set_to (record old { notify = true })
with_value old value PinentryMode = with_mode old (mode_of value)
with_value old value S2kCount = with_count old (count_of old.rules_count value)

-- a known option, whose value can be kept or not
abbrev pub valued : OptionValues → List ℕ → Option OptionName → Applied
valued old value None = refused Unknown old
valued old value (Some name) =
    if can_be_kept value then with_value old value name else refused Parameter old

-- an option with this name and value: an empty name comes before all, an unknown one before the value. The order is this
-- project's own
abbrev pub applied_as : OptionValues → List ℕ → List ℕ → Applied
applied_as old [] value = refused Parameter old
applied_as old name value = valued old value (named name)

-- the text of an option
unfoldable pub applied : OptionValues → List ℕ → Applied
applied old text = applied_as old (name_of text) (option_value text)
