-- Private: what the code knows of an entry beside what it stands for.
use Rattle.pinentry_script.specs.{declared.entries.Entry.{Entry, TheVariants.{Pid, Quality, Pin, Phrase}}, Writing.IsShortText}

-- its text fits into a line
abbrev pub IsShortEntry : Entry → Type 0
IsShortEntry (Pid digits) = IsShortText digits.now
IsShortEntry (Quality text) = IsShortText text.now
IsShortEntry (Pin text) = IsShortText text.now
IsShortEntry (Phrase what) = Unit {0}
