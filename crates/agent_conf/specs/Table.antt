-- The options of gpg-agent by their names (GnuPG manual, "Invoking GPG-AGENT"), and what each of them is to this agent, which is this project's own.
-- So is `force-network-home`.
use Rattle.std.specs.Prelude.{Bool, true, false, not, ◌==◌, List, ℕ, [], ◌∷◌, codes, slice_index, Option}
use Rattle.assuan_text.specs.Rows.{found}
use Rattle.agent_conf.specs.declared.{numbers.Range.TheVariants.{Seconds, Bytes, Count, Milliseconds}, table.{Takes.{Takes, TheVariants.{Value, Optional, Nothing}}, Unkept.TheVariants.{TrustList, PassphraseRule, NoPrompts, IdleTime, Terminal}}}
use Rattle.agent_conf.specs.declared.table.Row.{Row, TheVariants.{Number, Flag, Pinentry, ExtraSocket, IgnoresNames, SoAnyway, Unkept, LimitsNothing, Folder, OfWords, Supervised}}

abbrev pub rows : List (List ℕ × Row)
rows =
    (codes "default-cache-ttl", Number Seconds)
    ∷ (codes "max-cache-ttl", Number Seconds)
    ∷ (codes "default-cache-ttl-ssh", Number Seconds)
    ∷ (codes "max-cache-ttl-ssh", Number Seconds)
    ∷ (codes "pinentry-timeout", Number Seconds)
    ∷ (codes "min-passphrase-len", Number Bytes)
    ∷ (codes "min-passphrase-nonalpha", Number Bytes)
    ∷ (codes "s2k-count", Number Count)
    ∷ (codes "s2k-calibration", Number Milliseconds)
    ∷ (codes "allow-preset-passphrase", Flag)
    ∷ (codes "no-allow-loopback-pinentry", Flag)
    ∷ (codes "allow-loopback-pinentry", Flag)
    ∷ (codes "pinentry-program", Pinentry)
    ∷ (codes "extra-socket", ExtraSocket)
    ∷ (codes "force-network-home", Flag)
    ∷ (codes "ignore-invalid-option", IgnoresNames)
    ∷ (codes "no-allow-mark-trusted", Unkept TrustList Nothing)
    ∷ (codes "no-user-trustlist", Unkept TrustList Nothing)
    ∷ (codes "check-passphrase-pattern", Unkept PassphraseRule Value)
    ∷ (codes "check-sym-passphrase-pattern", Unkept PassphraseRule Value)
    ∷ (codes "max-passphrase-days", Unkept PassphraseRule Value)
    ∷ (codes "enable-passphrase-history", Unkept PassphraseRule Nothing)
    ∷ (codes "batch", Unkept NoPrompts Nothing)
    ∷ (codes "inactivity-timeout", Unkept IdleTime Value)
    ∷ (codes "keep-tty", Unkept Terminal Nothing)
    ∷ (codes "enforce-passphrase-constraints", SoAnyway)
    ∷ (codes "no-allow-external-cache", SoAnyway)
    ∷ (codes "ignore-cache-for-signing", SoAnyway)
    ∷ (codes "allow-mark-trusted", SoAnyway)
    ∷ (codes "disable-scdaemon", SoAnyway)
    ∷ (codes "use-standard-socket", SoAnyway)
    ∷ (codes "no-use-standard-socket", SoAnyway)
    ∷ (codes "sh", SoAnyway)
    ∷ (codes "csh", SoAnyway)
    ∷ (codes "quiet", SoAnyway)
    ∷ (codes "verbose", SoAnyway)
    ∷ (codes "homedir", Folder)
    ∷ (codes "options", OfWords Value)
    ∷ (codes "daemon", OfWords Nothing)
    ∷ (codes "server", OfWords Nothing)
    ∷ (codes "no-detach", OfWords Nothing)
    ∷ (codes "no-options", SoAnyway)
    ∷ (codes "check-options", SoAnyway)
    ∷ (codes "supervised", Supervised)
    ∷ (codes "display", LimitsNothing Value)
    ∷ (codes "ttyname", LimitsNothing Value)
    ∷ (codes "ttytype", LimitsNothing Value)
    ∷ (codes "lc-ctype", LimitsNothing Value)
    ∷ (codes "lc-messages", LimitsNothing Value)
    ∷ (codes "xauthority", LimitsNothing Value)
    ∷ (codes "debug", LimitsNothing Value)
    ∷ (codes "debug-level", LimitsNothing Value)
    ∷ (codes "debug-wait", LimitsNothing Value)
    ∷ (codes "log-file", LimitsNothing Value)
    ∷ (codes "scdaemon-program", LimitsNothing Value)
    ∷ (codes "tpm2daemon-program", LimitsNothing Value)
    ∷ (codes "browser-socket", LimitsNothing Value)
    ∷ (codes "ssh-fingerprint-digest", LimitsNothing Value)
    ∷ (codes "listen-backlog", LimitsNothing Value)
    ∷ (codes "faked-system-time", LimitsNothing Value)
    ∷ (codes "sys-trustlist-name", LimitsNothing Value)
    ∷ (codes "pinentry-touch-file", LimitsNothing Value)
    ∷ (codes "pinentry-invisible-char", LimitsNothing Value)
    ∷ (codes "write-env-file", LimitsNothing Optional)
    ∷ (codes "debug-all", LimitsNothing Nothing)
    ∷ (codes "debug-quick-random", LimitsNothing Nothing)
    ∷ (codes "debug-pinentry", LimitsNothing Nothing)
    ∷ (codes "steal-socket", LimitsNothing Nothing)
    ∷ (codes "disable-check-own-socket", LimitsNothing Nothing)
    ∷ (codes "keep-display", LimitsNothing Nothing)
    ∷ (codes "enable-ssh-support", LimitsNothing Nothing)
    ∷ (codes "enable-putty-support", LimitsNothing Nothing)
    ∷ (codes "enable-win32-openssh-support", LimitsNothing Nothing)
    ∷ (codes "disable-extended-key-format", LimitsNothing Nothing)
    ∷ (codes "enable-extended-key-format", LimitsNothing Nothing)
    ∷ (codes "auto-expand-secmem", LimitsNothing Nothing)
    ∷ (codes "grab", LimitsNothing Nothing)
    ∷ (codes "no-grab", LimitsNothing Nothing)
    ∷ (codes "pinentry-formatted-passphrase", LimitsNothing Nothing)
    ∷ (codes "allow-emacs-pinentry", LimitsNothing Nothing)
    ∷ (codes "gpgconf-list", LimitsNothing Nothing)
    ∷ (codes "gpgconf-test", LimitsNothing Nothing)
    ∷ (codes "gpgconf-versions", LimitsNothing Nothing)
    ∷ (codes "use-standard-socket-p", LimitsNothing Nothing)
    ∷ (codes "help", LimitsNothing Nothing)
    ∷ (codes "version", LimitsNothing Nothing)
    ∷ (codes "warranty", LimitsNothing Nothing)
    ∷ (codes "dump-option-table", LimitsNothing Nothing)
    ∷ (codes "dump-options", LimitsNothing Nothing)
    ∷ []

-- what the option of this name is
unfoldable pub row_of : List ℕ → Option Row
row_of name = found name rows

-- the next word is the value: always, where it doesn't begin with a dash, or never
abbrev pub is_value : Takes → List ℕ → Bool
is_value Value next = true
is_value Optional next = not (slice_index next 0 == 45)
is_value Nothing next = false

-- a word that names such an option has this next word as its value
abbrev pub takes_value : Row → List ℕ → Bool
takes_value (Number range) next = true
takes_value Flag next = false
takes_value Pinentry next = true
takes_value ExtraSocket next = true
takes_value IgnoresNames next = true
takes_value SoAnyway next = false
takes_value (Unkept unkept takes) next = is_value takes next
takes_value (LimitsNothing takes) next = is_value takes next
takes_value Folder next = true
takes_value (OfWords takes) next = is_value takes next
takes_value Supervised next = false
