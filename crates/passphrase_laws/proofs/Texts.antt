-- What the events of an exchange write, one after another.
use Rattle.std.{specs.List.AllByRecursion, proofs.{Common.{◌≡◌, ℕ, List, [], ◌∷◌, ◌++◌, decimal, refl, ap, sym, subst, ◌∙◌, append-nil}, lemmas.List.Concat.flat_map-append}}
use Rattle.{agent_ask.specs.{Session.SessionEvents.{Received, Sent, Cut, Inquiry, CacheTurn, Port}, SessionPrompts.note}, agent_commands.specs.{Events.Inquired, Actions.CacheEvent}, assuan_server.specs.Inquiries.inquire_text}
use Rattle.{assuan_text.specs.LineEnds.line_of, session_client.specs.Asking.{Asked, NotAsked}}
use Rattle.passphrase_laws.{specs.{Exchanges.{IsSilent, text_of, texts_of}, Roads.IsWhole}, proofs.NoteLines.{launched, IsParams, are_params}}

pub silent_texts : (events : List CacheEvent) → AllByRecursion IsSilent events → texts_of events ≡ []
silent_texts [] silent = refl
silent_texts (CacheTurn taken ∷ events) silent = silent_texts events silent.1
silent_texts (Port what ∷ events) silent = silent_texts events silent.1
silent_texts (Received took ∷ events) silent = absurd silent.0
silent_texts (Sent text ∷ events) silent = absurd silent.0
silent_texts (Cut text ∷ events) silent = absurd silent.0
silent_texts (Inquiry word params limit inquired ∷ events) silent = absurd silent.0

pub noted_texts : (earlier : List CacheEvent) (pid : ℕ) (inquired : Inquired) (later : List CacheEvent) → AllByRecursion IsSilent earlier → AllByRecursion IsSilent later
    → texts_of (earlier ++ note pid inquired ∷ later) ≡ text_of (note pid inquired)
noted_texts earlier pid inquired later silent still =
    flat_map-append text_of earlier (note pid inquired ∷ later)
    ∙ ap (λ (t : List ℕ). t ++ (text_of (note pid inquired) ++ texts_of later)) (silent_texts earlier silent)
    ∙ ap (λ (t : List ℕ). text_of (note pid inquired) ++ t) (silent_texts later still) ∙ append-nil (text_of (note pid inquired))

pub whole_at : (earlier : List CacheEvent) (event : CacheEvent) (later : List CacheEvent) → AllByRecursion IsWhole (earlier ++ event ∷ later) → IsWhole event
whole_at [] event later whole = whole.0
whole_at (first ∷ earlier) event later whole = whole_at earlier event later whole.1

pub whole_front : (first more : List CacheEvent) → AllByRecursion IsWhole (first ++ more) → AllByRecursion IsWhole first
whole_front [] more whole = tt
whole_front (event ∷ first) more whole = (whole.0, whole_front first more whole.1)

pub whole_behind : (first more : List CacheEvent) → AllByRecursion IsWhole (first ++ more) → AllByRecursion IsWhole more
whole_behind [] more whole = whole
whole_behind (event ∷ first) more whole = whole_behind first more whole.1

pub note_whole : (pid : ℕ) (inquired : Inquired) → IsWhole (note pid inquired) → IsParams (decimal pid) × (text_of (note pid inquired) ≡ line_of (inquire_text launched (decimal pid)))
note_whole pid (Asked outcome) is = (subst IsParams (sym is.0.1) (are_params is.0.0 is.0.2), refl)
note_whole pid (NotAsked text) is = absurd is
