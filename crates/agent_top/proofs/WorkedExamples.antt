-- The definition of the words on worked examples, each by computation.
use Rattle.std.specs.{Prelude.{◌≡◌, ℕ, List, [], ◌∷◌, replicate, codes, Option, Some, None, refl, true}, List.list_all, Option.option_map}
use Rattle.session_options.specs.declared.rules.{Rules.Rules, RunMode.TheVariants.{Server, Daemon, Load}}
use Rattle.agent_top.{proofs.Spelling.{spelled, only}, specs.{Settings.{Setting, Spells, settings, bare, joined, none}, Forms.{fits, form_of}, Words.{rules_from, rules_of}}}

-- the words as settings

no_words : settings [] ≡ []
no_words = refl

both_ways : settings (codes "--a" ∷ codes "b" ∷ codes "--c=-d=e" ∷ []) ≡ (codes "--a", Some (codes "b")) ∷ (codes "--c", Some (codes "-d=e")) ∷ []
both_ways = refl

no_value : settings (codes "--a" ∷ codes "-b" ∷ codes "--c" ∷ []) ≡ (codes "--a", None) ∷ (codes "-b", None) ∷ (codes "--c", None) ∷ []
no_value = refl

other_word : settings (codes "--a=" ∷ codes "b" ∷ codes "c" ∷ codes "d" ∷ []) ≡ (codes "--a", Some []) ∷ (codes "b", Some (codes "c")) ∷ (codes "d", None) ∷ []
other_word = refl

empty_word : settings (codes "--a" ∷ [] ∷ []) ≡ (codes "--a", Some []) ∷ []
empty_word = refl

-- what is refused, and what isn't

abbrev field : {X : Type 0} → (Rules → X) → List (List ℕ) → Option X
field of words = option_map of (rules_of words)

-- the table reads the three, and all are built
server : option_map (λ r. r.run) (rules_from (settings (codes "--server" ∷ []))) ≡ Some Server
unfolding form_of
server = refl

daemon : option_map (λ r. r.run) (rules_from (settings (codes "--daemon" ∷ []))) ≡ Some Daemon
unfolding form_of
daemon = refl

load : option_map (λ r. r.run) (rules_from (settings (codes "--load=4294967295" ∷ []))) ≡ Some (Load 4294967295)
unfolding form_of
load = refl

load_too_great : rules_from (settings (codes "--load=4294967296" ∷ [])) ≡ None
unfolding form_of
load_too_great = refl

server_is_built : field (λ r. r.run) (codes "--server" ∷ []) ≡ Some Server
unfolding form_of
server_is_built = refl

daemon_is_built : field (λ r. r.run) (codes "--daemon" ∷ []) ≡ Some Daemon
unfolding form_of
daemon_is_built = refl

load_is_built : field (λ r. r.run) (codes "--load=1" ∷ []) ≡ Some (Load 1)
unfolding form_of
load_is_built = refl

extra_socket_of_a_daemon : field (λ r. r.extra) (codes "--daemon" ∷ codes "--extra-socket" ∷ []) ≡ Some true
unfolding form_of
extra_socket_of_a_daemon = refl

no_extra_socket_of_a_server : rules_of (codes "--server" ∷ codes "--extra-socket" ∷ []) ≡ None
unfolding form_of
no_extra_socket_of_a_server = refl

two_runs : rules_from (settings (codes "--server" ∷ codes "--daemon" ∷ [])) ≡ None
unfolding form_of
two_runs = refl

no_run : rules_of [] ≡ None
unfolding form_of
no_run = refl

given_twice : rules_of (codes "--server" ∷ codes "--workers=2" ∷ codes "--workers" ∷ codes "2" ∷ []) ≡ None
unfolding form_of
given_twice = refl

server_twice : rules_of (codes "--server" ∷ codes "--server" ∷ []) ≡ None
unfolding form_of
server_twice = refl

dashes_alone : rules_of (codes "--server" ∷ codes "--" ∷ []) ≡ None
unfolding form_of
dashes_alone = refl

dash_alone : rules_of (codes "--server" ∷ codes "--homedir" ∷ codes "-" ∷ []) ≡ None
unfolding form_of
dash_alone = refl

missing_value : rules_of (codes "--homedir" ∷ codes "--server" ∷ []) ≡ None
unfolding form_of
missing_value = refl

empty_value : rules_of (codes "--server" ∷ codes "--homedir=" ∷ []) ≡ None
unfolding form_of
empty_value = refl

empty_next_word : rules_of (codes "--server" ∷ codes "--homedir" ∷ [] ∷ []) ≡ None
unfolding form_of
empty_next_word = refl

value_on_a_flag : rules_of (codes "--server=1" ∷ []) ≡ None
unfolding form_of
value_on_a_flag = refl

word_after_a_flag : rules_of (codes "--server" ∷ codes "x" ∷ []) ≡ None
unfolding form_of
word_after_a_flag = refl

dashed_value : field (λ r. r.homedir.items) (codes "--homedir=-x" ∷ codes "--server" ∷ []) ≡ Some (codes "-x")
unfolding form_of
dashed_value = refl

dashed_next_word : rules_of (codes "--server" ∷ codes "--homedir" ∷ codes "-x" ∷ []) ≡ None
unfolding form_of
dashed_next_word = refl

path_of_200 : field (λ r. r.homedir.items) (codes "--server" ∷ codes "--homedir" ∷ replicate 200 97 ∷ []) ≡ Some (replicate 200 97)
unfolding form_of
path_of_200 = refl

path_of_201 : rules_of (codes "--server" ∷ codes "--homedir" ∷ replicate 201 97 ∷ []) ≡ None
unfolding form_of
path_of_201 = refl

zeros_in_front : field (λ r. r.max_ttl) (codes "--server" ∷ codes "--max-cache-ttl=0000000600" ∷ []) ≡ Some 600
unfolding form_of
zeros_in_front = refl

too_many_zeros_in_front : rules_of (codes "--server" ∷ codes "--max-cache-ttl=00000000600" ∷ []) ≡ None
unfolding form_of
too_many_zeros_in_front = refl

zero : field (λ r. r.min_len) (codes "--server" ∷ codes "--min-passphrase-len=0" ∷ []) ≡ Some 0
unfolding form_of
zero = refl

ten_digits : option_map (λ r. r.run) (rules_from (settings (codes "--load=1234567890" ∷ []))) ≡ Some (Load 1234567890)
unfolding form_of
ten_digits = refl

eleven_digits : rules_of (codes "--server" ∷ codes "--max-cache-ttl=10000000000" ∷ []) ≡ None
unfolding form_of
eleven_digits = refl

min_len_256 : rules_of (codes "--server" ∷ codes "--min-passphrase-len=256" ∷ []) ≡ None
unfolding form_of
min_len_256 = refl

count_65535 : rules_of (codes "--server" ∷ codes "--s2k-count=65535" ∷ []) ≡ None
unfolding form_of
count_65535 = refl

workers_0 : rules_of (codes "--server" ∷ codes "--workers" ∷ codes "0" ∷ []) ≡ None
unfolding form_of
workers_0 = refl

usual_workers : field (λ r. r.workers) (codes "--server" ∷ []) ≡ Some 8
unfolding form_of
usual_workers = refl

-- the words are spelled by the settings that they are read as, and by no others that fit

abbrev home : List Setting
home = (codes "--server", None) ∷ (codes "--homedir", Some (codes "x")) ∷ []

spelled_apart : Spells home (codes "--server" ∷ codes "--homedir" ∷ codes "x" ∷ [])
spelled_apart = spelled (codes "--server" ∷ codes "--homedir" ∷ codes "x" ∷ [])

home_fits : list_all fits home ≡ true
unfolding form_of
home_fits = refl

read_as_spelled : settings (codes "--server" ∷ codes "--homedir=x" ∷ []) ≡ home
read_as_spelled = only home (codes "--server" ∷ codes "--homedir=x" ∷ []) (bare refl (joined refl none)) home_fits
