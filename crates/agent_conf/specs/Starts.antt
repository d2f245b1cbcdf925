-- What the words of the command line and two files mean together (GnuPG manual, "Invoking GPG-AGENT"). The defaults of workers and of a prompt's time
-- are this project's own.
use Rattle.std.specs.{Prelude.{◌≡◌, ℕ, ◌==◌, ◌&&◌, not, nat_le, Bool, true, false, List, [], ◌∷◌, length, map, codes, is_some, unwrap_or, Option, Some, None, if◌then◌else◌}, Option.{option_and_then, option_map_or}}
use Rattle.session_options.specs.{Defaults.default_rules, declared.rules.{Rules.Rules, TheConstants.MAX_WORKERS, RunMode.{RunMode, TheVariants.{Server, Daemon}}}}
use Rattle.agent_conf.specs.{Lines.settings_in, Numbers.{kept_in, number_in}, Paths.{expanded, socket_choice}, Settled.{Texts, is_of, last_of, settled, all_of}, Told.told_by, Verdicts.{Told, has_refusal, told_from}, Words.settings_of}
use Rattle.agent_conf.specs.{Written.Written, declared.{numbers.Range.{Range, TheVariants.{Seconds, Bytes, Count, Milliseconds}}, setting.Place.TheVariants.{Machine, Home}, rules.Mode.{Mode, TheVariants.{Serve, Detach, Stay, Check}}}}
use Rattle.agent_conf.specs.declared.{rules.TheConstants.PROMPT_SECONDS, TheConstants.MAX_PATH_LEN, start.{TheConstants.CALIBRATION, Start.Start, StartFault.{StartFault, TheVariants.{Refused, NoMemory}}}}

-- a file that isn't there sets nothing
abbrev pub texts_of : Option (List ℕ) → Option (List ℕ) → List (List ℕ) → Texts
texts_of machine home words = record {
  machine = settings_in Machine (unwrap_or machine []);
  home = settings_in Home (unwrap_or home []);
  words = settings_of 1 words;
}

-- what is told of all settings, in the order in which they are read
abbrev pub told_of : List ℕ → List ℕ → Texts → List Told
told_of home user texts = told_from home user [] (all_of texts)

-- the number that is kept of a value
abbrev pub kept_of : Range → List ℕ → Option ℕ
kept_of range value = option_and_then (kept_in range) (number_in value)

-- what is kept of the setting that counts, or else the default
abbrev pub number_or : ℕ → Range → List ℕ → Texts → ℕ
number_or default range name texts =
    unwrap_or (option_and_then (λ setting. kept_of range setting.value) (settled (name ∷ []) texts)) default

abbrev pub is_set : List ℕ → Texts → Bool
is_set name texts = is_some (settled (name ∷ []) texts)

-- of an option that another one takes back: it counts, and the other one doesn't
abbrev pub counts_before : List ℕ → List ℕ → Texts → Bool
counts_before name other texts = option_map_or (is_of (name ∷ [])) (settled (name ∷ other ∷ []) texts) false

-- what the agent is to do, by the words alone
abbrev pub mode_by : Option Written → Mode
mode_by None = Detach
mode_by (Some word) =
    if is_of (codes "server" ∷ []) word then Serve
    else if is_of (codes "no-detach" ∷ []) word then Stay
    else Detach

abbrev pub mode_of : List Written → Mode
mode_of words =
    if is_some (last_of (codes "check-options" ∷ []) words) then Check
    else mode_by (last_of (codes "daemon" ∷ codes "server" ∷ codes "no-detach" ∷ []) words)

abbrev pub serves_one : Mode → Bool
serves_one Serve = true
serves_one Detach = false
serves_one Stay = false
serves_one Check = false

abbrev pub run_of : Mode → RunMode
run_of Serve = Server
run_of Detach = Daemon
run_of Stay = Daemon
run_of Check = Daemon

-- a path that the agent can keep, or else the default
abbrev pub path_within : List ℕ → List ℕ → List ℕ
path_within default path = if nat_le (length path) MAX_PATH_LEN then path else default

abbrev pub pinentry_of : List ℕ → Texts → List ℕ
pinentry_of user texts =
    option_map_or (λ setting. path_within default_rules.pinentry.items (expanded user setting.value))
    (settled (codes "pinentry-program" ∷ []) texts) default_rules.pinentry.items

abbrev pub extra_of : List ℕ → List ℕ → Texts → Bool
extra_of home user texts =
    unwrap_or (option_and_then (λ setting. socket_choice home user setting.value) (settled (codes "extra-socket" ∷ []) texts)) false

-- the count that is named, or 0 where it is to be measured
abbrev pub count_named : Texts → ℕ
count_named texts = number_or 0 Count (codes "s2k-count") texts

-- the milliseconds that a measured count takes, of which 0 stands for the default
abbrev pub calibration_of : Texts → ℕ
calibration_of texts =
    if number_or 0 Milliseconds (codes "s2k-calibration") texts == 0
    then CALIBRATION
    else number_or 0 Milliseconds (codes "s2k-calibration") texts

-- the rules say what counts of the words and the files, and else what this project starts an agent with
pub record AreSettled (home user : List ℕ) (texts : Texts) (rules : Rules) : Type 0 where
  pub default_ttl : rules.default_ttl ≡ number_or default_rules.default_ttl Seconds (codes "default-cache-ttl") texts
  pub max_ttl : rules.max_ttl ≡ number_or default_rules.max_ttl Seconds (codes "max-cache-ttl") texts
  pub default_ttl_ssh : rules.default_ttl_ssh ≡ number_or default_rules.default_ttl_ssh Seconds (codes "default-cache-ttl-ssh") texts
  pub max_ttl_ssh : rules.max_ttl_ssh ≡ number_or default_rules.max_ttl_ssh Seconds (codes "max-cache-ttl-ssh") texts
  pub pinentry_timeout : rules.pinentry_timeout ≡ number_or PROMPT_SECONDS Seconds (codes "pinentry-timeout") texts
  pub workers : rules.workers ≡ MAX_WORKERS
  pub pid : rules.pid ≡ default_rules.pid
  pub version : rules.version ≡ default_rules.version
  pub min_len : rules.min_len ≡ number_or default_rules.min_len Bytes (codes "min-passphrase-len") texts
  pub min_nonalpha : rules.min_nonalpha ≡ number_or default_rules.min_nonalpha Bytes (codes "min-passphrase-nonalpha") texts
  pub allow_preset : rules.allow_preset ≡ is_set (codes "allow-preset-passphrase") texts
  pub allow_loopback : rules.allow_loopback ≡ not (counts_before (codes "no-allow-loopback-pinentry") (codes "allow-loopback-pinentry") texts)
  pub extra : rules.extra ≡ (extra_of home user texts && not (serves_one (mode_of texts.words)))
  pub s2k_count : rules.s2k_count ≡ (if count_named texts == 0 then default_rules.s2k_count else count_named texts)
  pub pinentry : rules.pinentry.items ≡ pinentry_of user texts
  pub homedir : rules.homedir.items ≡ home
  pub run : rules.run ≡ run_of (mode_of texts.words)

-- what an agent is started with by these settings, of which none is refused
pub record IsStart (home user : List ℕ) (texts : Texts) (start : Start) : Type 0 where
  pub taken : has_refusal (told_of home user texts) ≡ false
  pub told : map told_by start.told.items ≡ told_of home user texts
  pub mode : start.mode ≡ mode_of texts.words
  pub rules : AreSettled home user texts start.rules
  pub forces_network_home : start.forces_network_home ≡ is_set (codes "force-network-home") texts
  pub calibration : start.calibration ≡ calibration_of texts
  pub measures_count : start.measures_count ≡ (count_named texts == 0)

-- some are refused, and all is told that is told of them, or there was no memory
abbrev pub IsRefused : List ℕ → List ℕ → Texts → StartFault → Type 0
IsRefused home user texts (Refused told) =
    (has_refusal (told_of home user texts) ≡ true) × (map told_by told.items ≡ told_of home user texts)
IsRefused home user texts NoMemory = Unit {0}
