-- The options of a session, by their names (GnuPG manual, "agent options"; gpg-agent's OPTION command). Which of them have no
-- effect is this project's own.
use Rattle.std.specs.{Prelude.{ℕ, ◌==◌, List, [], ◌∷◌, codes, Option, Some, None, if◌then◌else◌}, Option.option_and_then}
use Rattle.assuan_text.specs.{Numbers.number_of, Rows.found}
use Rattle.session_options.specs.{Counts.is_s2k_count, declared.{names.OptionName.{OptionName, TheVariants.{TtyName, TtyType, LcCtype, LcMessages, NoEffect, AllowPinentryNotify, PinentryMode, S2kCount}}, options.PinMode.PinMode}}
use Rattle.session_options.specs.declared.options.PinMode.TheVariants.{Ask, Cancel, Error, Loopback}

-- the names, which are compared exactly
abbrev pub names : List (List ℕ × OptionName)
names =
    (codes "ttyname", TtyName)
    ∷ (codes "ttytype", TtyType)
    ∷ (codes "lc-ctype", LcCtype)
    ∷ (codes "lc-messages", LcMessages)
    ∷ (codes "display", NoEffect)
    ∷ (codes "xauthority", NoEffect)
    ∷ (codes "pinentry-user-data", NoEffect)
    ∷ (codes "putenv", NoEffect)
    ∷ (codes "agent-awareness", NoEffect)
    ∷ (codes "use-cache-for-signing", NoEffect)
    ∷ (codes "allow-pinentry-notify", AllowPinentryNotify)
    ∷ (codes "pinentry-mode", PinentryMode)
    ∷ (codes "s2k-count", S2kCount)
    ∷ []

unfoldable pub named : List ℕ → Option OptionName
named name = found name names

-- the values of pinentry-mode
abbrev pub modes : List (List ℕ × PinMode)
modes =
    (codes "ask", Ask)
    ∷ (codes "default", Ask)
    ∷ (codes "cancel", Cancel)
    ∷ (codes "error", Error)
    ∷ (codes "loopback", Loopback)
    ∷ []

unfoldable pub mode_of : List ℕ → Option PinMode
mode_of value = found value modes

-- the count that a number means: 0 is the rules' own
abbrev pub count_for : ℕ → ℕ → Option ℕ
count_for rules_count number =
    if number == 0 then Some rules_count
    else if is_s2k_count number then Some number
    else None

-- the count that a value means
abbrev pub count_of : ℕ → List ℕ → Option ℕ
count_of rules_count value = option_and_then (count_for rules_count) (number_of value)
