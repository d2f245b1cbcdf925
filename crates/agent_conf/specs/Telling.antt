-- What is told of a setting, as a line without its end and without the path of the file, which whoever tells it knows. All of it is this project's own.
use Rattle.std.specs.{Prelude.{ℕ, ◌==◌, ◌&&◌, nat_le, List, [], ◌∷◌, length, take, codes, decimal, unwrap_or, Bool, true, false, if◌then◌else◌}, List.flat_map}
use Rattle.{printable.specs.Printables.printable, agent_conf.specs.{Settled.option_of, Verdicts.{Told, by_place}, Written.Written, declared.telling.TheConstants.MAX_TOLD}}
use Rattle.agent_conf.specs.declared.{verdict.{Passed.Passed, Refusal.Refusal, Verdict.{Verdict, TheVariants.{Kept, Nearest, PassedOver, Refused}}}, table.Unkept.Unkept}
use Rattle.agent_conf.specs.declared.verdict.Passed.TheVariants as passed
use Rattle.agent_conf.specs.declared.verdict.Refusal.TheVariants as refusal
use Rattle.agent_conf.specs.declared.table.Unkept.TheVariants as unkept

-- texts one behind another
abbrev pub joined : List (List ℕ) → List ℕ
joined texts = flat_map (λ text. text) texts

-- the text as a line can hold it, at most 200 bytes of it
abbrev pub shown : List ℕ → List ℕ
shown text =
    if nat_le (length text) MAX_TOLD
    then printable text
    else joined (printable (take MAX_TOLD text) ∷ codes ".." ∷ [])

-- where it stands
abbrev pub place_text : Written → List ℕ
place_text setting =
    by_place setting.place (codes "a word of the command line ") (joined (codes "line " ∷ decimal setting.number ∷ codes ", " ∷ []))

-- the value is the next word of the command line
abbrev pub is_apart : Written → Bool
is_apart setting =
    by_place setting.place true false && length setting.name == length setting.text && nat_le 1 (length setting.value)

-- the line, or the word with the one that is its value
abbrev pub setting_text : Written → List ℕ
setting_text setting =
    if is_apart setting
    then joined (shown setting.text ∷ codes " " ∷ shown setting.value ∷ [])
    else shown setting.text

abbrev pub nearest_text : List ℕ → ℕ → List ℕ
nearest_text name kept =
    joined (codes "counts as " ∷ shown name ∷ codes " " ∷ decimal kept ∷ codes ", the nearest that there is: " ∷ [])

-- what becomes of it
abbrev pub verdict_text : List ℕ → Verdict → List ℕ
verdict_text name Kept = codes "is kept: "
verdict_text name (Nearest kept) = nearest_text name kept
verdict_text name (PassedOver why) = codes "is passed over: "
verdict_text name (Refused why) = codes "keeps the agent from starting: "

abbrev pub passed_words : Passed → List ℕ
passed_words passed.NoLimit = []
passed_words passed.WordsAlone = codes " (it is a word of the command line alone)"
passed_words passed.FilesAlone = codes " (it counts in files alone)"
passed_words passed.OtherSocket = codes " (it can be S.gpg-agent.extra in the home folder, or none)"

abbrev pub unkept_words : Unkept → List ℕ
unkept_words unkept.TrustList =
    codes "MARKTRUSTED and the user's trust list are served all the same: take it out, or leave this folder to GnuPG's own agent"
unkept_words unkept.PassphraseRule =
    codes "the agent has no such rule for passphrases: take it out, or leave this folder to GnuPG's own agent"
unkept_words unkept.IdleTime =
    codes "the agent stays when nobody calls it: take it out, or leave this folder to GnuPG's own agent"
unkept_words unkept.NoPrompts =
    codes "the agent asks by a pinentry all the same: take it out, or leave this folder to GnuPG's own agent"
unkept_words unkept.Terminal =
    codes "the agent asks in the terminal that its client names: take it out, or leave this folder to GnuPG's own agent"

abbrev pub laxer_text : ℕ → List ℕ
laxer_text most =
    joined (codes "the agent counts up to " ∷ decimal most ∷ codes ", which is laxer: write at most " ∷ decimal most ∷ [])

-- why it keeps the agent from starting, and what to do
abbrev pub refusal_words : Refusal → List ℕ
refusal_words refusal.NotText = codes "it isn't UTF-8, or has a zero byte: write it anew"
refusal_words refusal.ForSomeUsers = codes "what holds for some users alone isn't read: write the lines without it"
refusal_words refusal.Unknown = codes "gpg-agent has no such option: see how it is spelled, or take it out"
refusal_words refusal.NoNumber = codes "it wants a number, of digits alone: write one, or take it out"
refusal_words (refusal.Laxer most) = laxer_text most
refusal_words refusal.HasValue = codes "it has no value: take the value out, or the line"
refusal_words refusal.NotAbsolute = codes "it has to be an absolute path, as /usr/bin/pinentry is, or begin with ~/"
refusal_words refusal.TooLong = codes "the path has more than 200 bytes: take a shorter one"
refusal_words (refusal.NotKept unkept) = unkept_words unkept
refusal_words refusal.NoFolder = codes "it wants a folder, whose path has at most 200 bytes"
refusal_words refusal.NoCommand = codes "no command is run beside the agent: start it by itself"
refusal_words refusal.NoSockets = codes "sockets that a service manager hands over aren't taken: use --no-detach"

-- why, behind the setting
abbrev pub why_text : Verdict → List ℕ
why_text Kept = []
why_text (Nearest kept) = []
why_text (PassedOver why) = passed_words why
why_text (Refused why) = joined (codes " (" ∷ refusal_words why ∷ codes ")" ∷ [])

-- all that is told of a setting
abbrev pub told_text : Told → List ℕ
told_text one =
    joined (place_text one.0 ∷ verdict_text (unwrap_or (option_of one.0) []) one.1 ∷ setting_text one.0 ∷ why_text one.1 ∷ [])
