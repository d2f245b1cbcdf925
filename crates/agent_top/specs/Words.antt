-- The words of the command line, and the rules that they mean. That an option is given once, that nothing else is given, and
-- the defaults that the GnuPG manual doesn't name are this project's own.
use Rattle.std.specs.{Prelude.{ℕ, ◌&&◌, not, Bool, true, false, List, codes, Option, Some, None, if◌then◌else◌}, List.list_all, Option.{option_map, option_and_then}}
use Rattle.{arrayvec.specs.ArrayVec.ArrayVec, session_options.specs.{Defaults.default_rules, declared.rules.{Rules.Rules, RunMode.{RunMode, TheVariants.{Server, Daemon, Load}}}}}
use Rattle.agent_top.specs.{Settings.{Setting, settings, is_set, are_distinct}, Forms.{fits, number_or, path_or}, Within.{count_is_within, workers_are_within}}

-- exactly one of them is given, and this is the number of the third
abbrev pub one_run : Bool → Bool → Bool → ℕ → Option RunMode
one_run true false false number = Some Server
one_run false true false number = Some Daemon
one_run false false true number = Some (Load number)
one_run _ _ _ number = None

abbrev pub run_of : List Setting → Option RunMode
run_of given =
    one_run (is_set (codes "--server") given) (is_set (codes "--daemon") given) (is_set (codes "--load") given)
    (number_or 0 (codes "--load") given)

abbrev path_word : List ℕ → ArrayVec ℕ
path_word bytes = record { items = bytes }

-- each is what its option is given, or else the default; the number of the process and the version aren't among them
abbrev pub rules_with : List Setting → RunMode → Rules
rules_with given run = record {
  default_ttl = number_or default_rules.default_ttl (codes "--default-cache-ttl") given;
  max_ttl = number_or default_rules.max_ttl (codes "--max-cache-ttl") given;
  default_ttl_ssh = number_or default_rules.default_ttl_ssh (codes "--default-cache-ttl-ssh") given;
  max_ttl_ssh = number_or default_rules.max_ttl_ssh (codes "--max-cache-ttl-ssh") given;
  pinentry_timeout = number_or default_rules.pinentry_timeout (codes "--pinentry-timeout") given;
  workers = number_or default_rules.workers (codes "--workers") given;
  pid = default_rules.pid;
  version = default_rules.version;
  min_len = number_or default_rules.min_len (codes "--min-passphrase-len") given;
  min_nonalpha = number_or default_rules.min_nonalpha (codes "--min-passphrase-nonalpha") given;
  allow_preset = is_set (codes "--allow-preset-passphrase") given;
  allow_loopback = not (is_set (codes "--no-allow-loopback-pinentry") given);
  extra = is_set (codes "--extra-socket") given;
  s2k_count = number_or default_rules.s2k_count (codes "--s2k-count") given;
  pinentry = path_word (path_or default_rules.pinentry.items (codes "--pinentry-program") given);
  homedir = path_word (path_or default_rules.homedir.items (codes "--homedir") given);
  run = run;
  count_in_range = count_is_within given;
  workers_in_range = workers_are_within given;
}

-- each is known and has the form of its option, none is given twice, and one says what to do
abbrev pub rules_from : List Setting → Option Rules
rules_from given =
    if list_all fits given && are_distinct given then option_map (rules_with given) (run_of given) else None

abbrev pub is_daemon : RunMode → Bool
is_daemon Daemon = true
is_daemon Server = false
is_daemon (Load number) = false

-- a socket for restricted sessions is a daemon's
abbrev pub if_extra_fits : Rules → Option Rules
if_extra_fits rules = if rules.extra && not (is_daemon rules.run) then None else Some rules

-- the rules that these words mean, or none where they are refused with status 2
abbrev pub rules_of : List (List ℕ) → Option Rules
rules_of words = option_and_then if_extra_fits (rules_from (settings words))
