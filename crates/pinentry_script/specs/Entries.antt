-- The file of a script: what each of its lines stands for. All bytes before a line feed are the line's, a carriage return too. This is the
-- project's own.
use Rattle.std.specs.{Prelude.{ℕ, ◌==◌, ◌&&◌, ◌||◌, not, nat_le, Bool, List, [], ◌∷◌, length, take, drop, slice_index, codes, Option, Some, None, if◌then◌else◌}, List.list_all, Option.{is_some, option_map, option_map_or}, Str.bytes_eq}
use Rattle.std.specs.Char.{is_ascii_digit}
use Rattle.{assuan_line.specs.Lines.{pieces_of, rest_of}, assuan_text.specs.Rows.found}
use Rattle.pinentry_script.specs.declared.{entries.{TheConstants.MAX_ENTRY_LEN, Entry.Entry as CodeEntry}, response.Phrase.{Phrase, TheVariants.{Done, Cancelled, TimedOut, NotConfirmed}}}
use Rattle.pinentry_script.specs.declared.entries.Entry.TheVariants as code

-- what a line of the file stands for
pub data Entry : Type 0 where
  -- the digits of the process number
  pid : List ℕ → Entry
  -- ask for the quality of this text first
  quality : List ℕ → Entry
  -- the passphrase, escaped as it goes over the wire
  pin : List ℕ → Entry
  -- a line to be said
  phrase : Phrase → Entry

abbrev pub behind_blank : List ℕ → Option (List ℕ)
behind_blank [] = None
behind_blank (byte ∷ text) = if byte == 32 then Some text else None

-- the text behind a word that the line begins with, and one blank
abbrev pub text_behind : List ℕ → List ℕ → Option (List ℕ)
text_behind word line = if bytes_eq (take (length word) line) word then behind_blank (drop (length word) line) else None

-- a decimal number, without zeros in front
abbrev pub is_number : List ℕ → Bool
is_number digits =
    list_all is_ascii_digit digits && nat_le 1 (length digits) && (length digits == 1 || not (slice_index digits 0 == 48))

-- the lines without a text
abbrev pub phrases : List (List ℕ × Phrase)
phrases =
    (codes "cancel", Cancelled)
    ∷ (codes "timeout", TimedOut)
    ∷ (codes "yes", Done)
    ∷ (codes "no", NotConfirmed)
    ∷ []

-- what the line stands for, whatever its length
abbrev pub entry_in : List ℕ → Option Entry
entry_in line =
    option_map_or (λ digits. if is_number digits then Some (pid digits) else None) (text_behind (codes "pid") line)
    (option_map_or (λ text. Some (quality text)) (text_behind (codes "quality") line)
    (option_map_or (λ text. Some (pin text)) (text_behind (codes "pin") line)
    (option_map phrase (found line phrases))))

abbrev pub entry_of : List ℕ → Option Entry
entry_of line = if nat_le (length line) MAX_ENTRY_LEN then entry_in line else None

-- the file is lines that each stand for something, and nothing behind the last line feed
abbrev pub is_script : List ℕ → Bool
is_script file = list_all (λ line. is_some (entry_of line)) (pieces_of file) && length (rest_of file) == 0

-- what these lines stand for
abbrev pub entries_of : List (List ℕ) → List Entry
entries_of [] = []
entries_of (line ∷ lines) = option_map_or (λ entry. entry ∷ entries_of lines) (entry_of line) (entries_of lines)

-- the process number: that of the first such line, or 0
abbrev pub pid_of : List Entry → List ℕ
pid_of [] = codes "0"
pid_of (pid digits ∷ entries) = digits
pid_of (quality text ∷ entries) = pid_of entries
pid_of (pin text ∷ entries) = pid_of entries
pid_of (phrase what ∷ entries) = pid_of entries

-- the answers: all but the process numbers
abbrev pub answers_of : List Entry → List Entry
answers_of [] = []
answers_of (pid digits ∷ entries) = answers_of entries
answers_of (quality text ∷ entries) = quality text ∷ answers_of entries
answers_of (pin text ∷ entries) = pin text ∷ answers_of entries
answers_of (phrase what ∷ entries) = phrase what ∷ answers_of entries

-- an entry of the code
abbrev pub entry_seen : CodeEntry → Entry
entry_seen (code.Pid digits) = pid digits.now
entry_seen (code.Quality text) = quality text.now
entry_seen (code.Pin text) = pin text.now
entry_seen (code.Phrase what) = phrase what

-- the answers in a part of the file
abbrev pub answers_in : List ℕ → List Entry
answers_in file = answers_of (entries_of (pieces_of file))
