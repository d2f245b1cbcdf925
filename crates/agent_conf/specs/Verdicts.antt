-- What becomes of one setting, by the row of its option: it is kept, passed over with a word, or refused. All of it is this project's own, but for
-- what the options are (GnuPG manual, "Invoking GPG-AGENT").
use Rattle.std.specs.{Prelude.{ℕ, ◌==◌, ◌||◌, ◌&&◌, nat_le, not, Bool, true, false, List, [], ◌∷◌, ◌++◌, length, slice_index, codes, Option, Some, None, if◌then◌else◌}, List.list_any, Str.{bytes_eq, Lossy.utf8_valid_len}}
use Rattle.assuan_text.specs.Words.{words}
use Rattle.agent_conf.specs.{Written.Written, Paths.{expanded, socket_choice}, Settled.{is_of, option_of}, Numbers.{greatest_of, kept_in, number_in}, Table.row_of, declared.{TheConstants.MAX_PATH_LEN, setting.Place.Place}}
use Rattle.agent_conf.specs.declared.{setting.Place.TheVariants.{Machine, Home, Words}, numbers.Range.Range, table.Row.Row}
use Rattle.agent_conf.specs.declared.{table.Row.TheVariants.{Number, Flag, Pinentry, ExtraSocket, IgnoresNames, SoAnyway, Unkept, LimitsNothing, Folder, OfWords, Supervised}, verdict.Verdict.Verdict}
use Rattle.agent_conf.specs.declared.verdict.{Verdict.TheVariants.{Kept, Nearest, PassedOver, Refused}, Passed.TheVariants.{NoLimit, WordsAlone, FilesAlone, OtherSocket}}
use Rattle.agent_conf.specs.declared.verdict.Refusal.TheVariants.{NotText, ForSomeUsers, Unknown, NoNumber, Laxer, HasValue, NotAbsolute, TooLong, NotKept, NoFolder, NoSockets, NoCommand}

-- text without a zero byte
abbrev pub is_text : List ℕ → Bool
is_text bytes = utf8_valid_len bytes == length bytes && not (list_any (λ byte. byte == 0) bytes)

abbrev pub path_verdict : List ℕ → Verdict
path_verdict path =
    if slice_index path 0 == 47
    then (if nat_le (length path) MAX_PATH_LEN then Kept else Refused TooLong)
    else Refused NotAbsolute

-- a number that is written, and what is kept of it
abbrev pub kept_verdict : ℕ → ℕ → Option ℕ → Verdict
kept_verdict greatest written None = Refused (Laxer greatest)
kept_verdict greatest written (Some kept) = if kept == written then Kept else Nearest kept

abbrev pub number_verdict : Range → Option ℕ → Verdict
number_verdict range None = Refused NoNumber
number_verdict range (Some written) = kept_verdict (greatest_of range) written (kept_in range written)

abbrev pub socket_verdict : Option Bool → Verdict
socket_verdict None = PassedOver OtherSocket
socket_verdict (Some choice) = Kept

-- a flag has no value, since one may mean its contrary
abbrev pub flag_verdict : List ℕ → Verdict
flag_verdict value = if length value == 0 then Kept else Refused HasValue

abbrev pub folder_verdict : List ℕ → Verdict
folder_verdict value = if nat_le 1 (length value) && nat_le (length value) MAX_PATH_LEN then Kept else Refused NoFolder

-- the first on the command line, else the second
abbrev pub by_place : {A : Type 0} → Place → A → A → A
by_place Words first second = first
by_place Machine first second = second
by_place Home first second = second

abbrev pub row_verdict : List ℕ → List ℕ → Place → Row → List ℕ → Verdict
row_verdict home user place (Number range) value = number_verdict range (number_in value)
row_verdict home user place Flag value = flag_verdict value
row_verdict home user place Pinentry value = path_verdict (expanded user value)
row_verdict home user place ExtraSocket value = socket_verdict (socket_choice home user value)
row_verdict home user place IgnoresNames value = by_place place (PassedOver FilesAlone) Kept
row_verdict home user place SoAnyway value = Kept
row_verdict home user place (Unkept unkept takes) value = Refused (NotKept unkept)
row_verdict home user place (LimitsNothing takes) value = PassedOver NoLimit
row_verdict home user place Folder value = by_place place (folder_verdict value) (PassedOver WordsAlone)
row_verdict home user place (OfWords takes) value = by_place place Kept (PassedOver WordsAlone)
row_verdict home user place Supervised value = by_place place (Refused NoSockets) (PassedOver NoLimit)

-- a setting before this one lists the name as one that may be ignored
abbrev pub is_ignored_by : List ℕ → Written → Bool
is_ignored_by name setting =
    is_of (codes "ignore-invalid-option" ∷ []) setting && list_any (bytes_eq name) (words setting.value)

-- nobody says of a word of the command line that it may be ignored
abbrev pub unknown_verdict : Place → List ℕ → List Written → Verdict
unknown_verdict place name before =
    if by_place place false true && list_any (is_ignored_by name) before then PassedOver NoLimit else Refused Unknown

-- the part of a file that holds for some users alone begins so
abbrev pub begins_group : Place → List ℕ → Bool
begins_group Words name = false
begins_group Machine name = slice_index name 0 == 91
begins_group Home name = slice_index name 0 == 91

abbrev pub known_verdict : List ℕ → List ℕ → List Written → Written → List ℕ → Option Row → Verdict
known_verdict home user before setting name None = unknown_verdict setting.place name before
known_verdict home user before setting name (Some row) = row_verdict home user setting.place row setting.value

abbrev pub is_short : List ℕ → Bool
is_short word =
    bytes_eq word (codes "-q") || bytes_eq word (codes "-v") || bytes_eq word (codes "-s") || bytes_eq word (codes "-c")

-- Of a setting that names no option: a word without two dashes, or a line with them. gpg-agent runs the first such word as a command, and this agent none.
abbrev pub unnamed_verdict : Written → Verdict
unnamed_verdict setting =
    by_place setting.place (if is_short setting.text then Kept else Refused NoCommand) (Refused Unknown)

abbrev pub named_verdict : List ℕ → List ℕ → List Written → Written → Option (List ℕ) → Verdict
named_verdict home user before setting None = unnamed_verdict setting
named_verdict home user before setting (Some name) =
    if begins_group setting.place name then Refused ForSomeUsers
    else known_verdict home user before setting name (row_of name)

-- what becomes of a setting that comes after these, where the home folder and the user's own are these
unfoldable pub verdict_of : List ℕ → List ℕ → List Written → Written → Verdict
verdict_of home user before setting =
    if is_text setting.text && is_text setting.value
    then named_verdict home user before setting (option_of setting)
    else Refused NotText

abbrev pub is_kept : Verdict → Bool
is_kept Kept = true
is_kept _ = false

abbrev pub is_refused : Verdict → Bool
is_refused (Refused refusal) = true
is_refused _ = false

-- a setting of which something is told
abbrev pub Told : Type 0
Told = Written × Verdict

abbrev pub note_of : Written → Verdict → List Told
note_of setting verdict = if is_kept verdict then [] else (setting, verdict) ∷ []

-- what is told of settings that come after these, in their order
unfoldable pub told_from : List ℕ → List ℕ → List Written → List Written → List Told
told_from home user before [] = []
told_from home user before (setting ∷ others) =
    note_of setting (verdict_of home user before setting) ++ told_from home user (before ++ setting ∷ []) others

-- one that refuses the start is among them
abbrev pub has_refusal : List Told → Bool
has_refusal told = list_any (λ one. is_refused one.1) told
