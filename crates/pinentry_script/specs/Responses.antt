-- What a scripted pinentry says (pinentry manual, "protocol"; Assuan manual, "server responses"). The error lines are those of
-- libgpg-error, whose source is the pinentry.
use Rattle.std.specs.Prelude.{ℕ, List, [], ◌∷◌, ◌++◌, codes}
use Rattle.pinentry_script.specs.declared.response.{Phrase.{Phrase, TheVariants.{Greeting, Done, Closing, Cancelled, TimedOut, NotConfirmed, Unknown}}, Response.{Response, TheVariants.{Nothing, Say, Give, Inquire}}}

abbrev pub phrase_text : Phrase → List ℕ
phrase_text Greeting = codes "OK Pleased to meet you"
phrase_text Done = codes "OK"
phrase_text Closing = codes "OK closing connection"
phrase_text Cancelled = codes "ERR 83886179 Operation cancelled <Pinentry>"
phrase_text TimedOut = codes "ERR 83886142 Timeout <Pinentry>"
phrase_text NotConfirmed = codes "ERR 83886194 Not confirmed <Pinentry>"
phrase_text Unknown = codes "ERR 83886355 Unknown IPC command <Pinentry>"

-- a data line, which is left out where it is empty, and OK
abbrev pub give : List ℕ → List (List ℕ)
give [] = codes "OK" ∷ []
give (byte ∷ text) = (codes "D " ++ byte ∷ text) ∷ codes "OK" ∷ []

-- an inquiry for the quality of a text
abbrev pub quality_inquiry : List ℕ → List ℕ
quality_inquiry text = codes "INQUIRE QUALITY " ++ text

-- the lines of a response in the code
abbrev pub says : Response → List (List ℕ)
says Nothing = []
says (Say phrase) = phrase_text phrase ∷ []
says (Give text) = give text.now
says (Inquire text) = quality_inquiry text.now ∷ []
