-- Private: texts that a line has room for.
use Rattle.std.specs.Prelude.{◌≡◌, ◌≤◌, ℕ, List, length, false}
use Rattle.assuan_text.specs.LineEnds.{has_lf}
use Rattle.pinentry_script.specs.declared.{entries.TheConstants.MAX_ENTRY_LEN, response.Response.{Response, TheVariants.{Nothing, Say, Give, Inquire}}}

-- a text of one line of the file
pub record IsShortText (text : List ℕ) : Type 0 where
  pub short : length text ≤ MAX_ENTRY_LEN
  pub whole : has_lf text ≡ false

abbrev pub IsShort : Response → Type 0
IsShort Nothing = Unit {0}
IsShort (Say phrase) = Unit {0}
IsShort (Give text) = IsShortText text.now
IsShort (Inquire text) = IsShortText text.now
