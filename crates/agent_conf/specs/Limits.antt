-- Which of gpg-agent's options limit (GnuPG manual, "Agent Options"): how long a passphrase is kept or a prompt stays, which new passphrases
-- are taken and how often they are hashed, and what clients and users are forbidden.
use Rattle.std.specs.{Prelude.{ℕ, Bool, true, false, not, ◌||◌, List, [], ◌∷◌, codes}, List.list_any, Str.bytes_eq}
use Rattle.agent_conf.specs.declared.table.Row.{Row, TheVariants.{Number, Flag, ExtraSocket, IgnoresNames, SoAnyway, Unkept, LimitsNothing, Folder, OfWords, Supervised}}
use Rattle.agent_conf.specs.declared.verdict.Verdict.{Verdict, TheVariants.{PassedOver}}

abbrev pub limits : List (List ℕ)
limits =
    codes "default-cache-ttl"
    ∷ codes "default-cache-ttl-ssh"
    ∷ codes "max-cache-ttl"
    ∷ codes "max-cache-ttl-ssh"
    ∷ codes "pinentry-timeout"
    ∷ codes "enforce-passphrase-constraints"
    ∷ codes "min-passphrase-len"
    ∷ codes "min-passphrase-nonalpha"
    ∷ codes "check-passphrase-pattern"
    ∷ codes "check-sym-passphrase-pattern"
    ∷ codes "max-passphrase-days"
    ∷ codes "enable-passphrase-history"
    ∷ codes "s2k-count"
    ∷ codes "s2k-calibration"
    ∷ codes "ignore-cache-for-signing"
    ∷ codes "no-allow-external-cache"
    ∷ codes "no-allow-loopback-pinentry"
    ∷ codes "no-allow-mark-trusted"
    ∷ codes "no-user-trustlist"
    ∷ codes "keep-tty"
    ∷ codes "disable-scdaemon"
    ∷ codes "batch"
    ∷ codes "inactivity-timeout"
    ∷ []

-- those of them that hold of this agent whether they are set or not: it signs nothing, has no cache beside its own and no scdaemon,
-- and refuses a passphrase that is too weak
abbrev pub kept_anyway : List (List ℕ)
kept_anyway =
    codes "enforce-passphrase-constraints"
    ∷ codes "ignore-cache-for-signing"
    ∷ codes "no-allow-external-cache"
    ∷ codes "disable-scdaemon"
    ∷ []

abbrev pub is_named : List (List ℕ) → List ℕ → Bool
is_named names name = list_any (λ one. bytes_eq one name) names

-- what is set by this row is kept, or refused where it can't be, or so anyway
abbrev pub holds_by : List ℕ → Row → Bool
holds_by name (Number range) = true
holds_by name Flag = true
holds_by name SoAnyway = is_named kept_anyway name
holds_by name (Unkept unkept takes) = true
holds_by name _ = false

-- a row of a number, or of what can't be kept, is one of a limit
abbrev pub is_limit : Row → Bool
is_limit (Number range) = true
is_limit (Unkept unkept takes) = true
is_limit _ = false

-- a row of the table is one of a limit only where it is listed above
abbrev pub is_listed : List ℕ × Row → Bool
is_listed row = not (is_limit row.1) || is_named limits row.0

-- what an option of this row is set to may be passed over
abbrev pub may_pass : Row → Bool
may_pass ExtraSocket = true
may_pass IgnoresNames = true
may_pass (LimitsNothing takes) = true
may_pass Folder = true
may_pass (OfWords takes) = true
may_pass Supervised = true
may_pass _ = false

abbrev pub is_passed_over : Verdict → Bool
is_passed_over (PassedOver passed) = true
is_passed_over _ = false
