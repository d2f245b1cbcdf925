-- What the command line and the environment say before a file is read (GnuPG manual, "Invoking GPG-AGENT", `--homedir`, `--options` and
-- `--no-options`). How long the path may be is this project's own.
use Rattle.std.specs.{Prelude.{◌≡◌, ℕ, ◌&&◌, nat_le, List, [], ◌∷◌, ◌++◌, length, codes, Option, Some, None, if◌then◌else◌}, Option.option_map}
use Rattle.agent_conf.specs.{Settled.{is_of, last_of}, Written.Written, declared.{TheConstants.MAX_PATH_LEN, places.{Places.Places, ConfFile.{ConfFile, TheVariants.{OfHome, Named, Nothing}}}}}

-- `GNUPGHOME`, or else the folder `.gnupg` of the user's own
abbrev pub usual_home : List ℕ → List ℕ → List ℕ
usual_home user home =
    if nat_le 1 (length home) then home
    else if nat_le 1 (length user) then user ++ codes "/.gnupg"
    else []

abbrev pub value_or : List ℕ → Option Written → List ℕ
value_or usual None = usual
value_or usual (Some setting) = setting.value

-- a path that can be kept
abbrev pub as_path : List ℕ → Option (List ℕ)
as_path path = if nat_le 1 (length path) && nat_le (length path) MAX_PATH_LEN then Some path else None

-- the path of the home folder, by the last word that names one
abbrev pub home_of : List ℕ → List ℕ → List Written → Option (List ℕ)
home_of user home words = as_path (value_or (usual_home user home) (last_of (codes "homedir" ∷ []) words))

-- a file of options: one that is named, or none
abbrev pub named_file : Written → Option (List ℕ)
named_file setting = if is_of (codes "options" ∷ []) setting then Some setting.value else None

-- the file of the home folder's options, by the last word that says another than `gpg-agent.conf` in it
abbrev pub conf_of : List Written → Option (Option (List ℕ))
conf_of words = option_map named_file (last_of (codes "options" ∷ codes "no-options" ∷ []) words)

abbrev pub conf_text : ConfFile → Option (Option (List ℕ))
conf_text OfHome = None
conf_text (Named file) = Some (Some file.now)
conf_text Nothing = Some None

pub record ArePlaces (user home : List ℕ) (words : List Written) (places : Places) : Type 0 where
  pub home_is : option_map (λ path. path.items) places.home ≡ home_of user home words
  pub conf_is : conf_text places.conf ≡ conf_of words
