-- What an IMPORT_KEY hands to the cache, and where among the rest that is done for it. This is the project's own.
use Rattle.std.specs.{List.AllByRecursion, Prelude.{◌≡◌, ◌≢◌, ℕ, List, ◌∷◌, ◌++◌, drop, length, Some, ⊤}}
use Rattle.{agent_ask.specs.{Session.{PortCalls.{PortCall, Replaced}, SessionEvents.{CacheTurn, cache_turn}}, Interrupts.Interrupts}, agent_ports.specs.declared.{grip.Grip.Grip, keys.KeyDone.KeyDone}, assuan_escape.specs.Escapes.hex_text}
use Rattle.{session_client.specs.declared.code.Code.Code, cache_policy.specs.{Turns.{Turn, Done}, declared.{life.Life.TheVariants.Default, mark.MarkStep.{MarkStep, TheVariants.{Close, Put}}, mode.Mode.TheVariants.Nonce}}}
use Rattle.{agent_commands.specs.Events.EventWith, key_commands.specs.{Events.{drew, called}, Passphrases.put_key}}
use Rattle.agent_session.specs.OwnPassphrases.{HandsIn}
use Rattle.agent_ports.specs.declared.keys.KeyDone.TheVariants as key_done

-- by this event no passphrase is handed to the cache
abbrev pub HandsNothing : EventWith PortCall → Type 0
HandsNothing (CacheTurn taken) = HandsIn taken.asked → ⊥
HandsNothing _ = ⊤

abbrev pub HandNothing : List (EventWith PortCall) → Type 0
HandNothing events = AllByRecursion HandsNothing events

-- of the 32 bytes that are drawn for a key that came in the last 12 are its nonce, under whose hexadecimal text the key's passphrase is put
abbrev pub put_nonce : List ℕ → List ℕ → MarkStep
put_nonce drawn pass = Put (hex_text (drop 20 drawn)) Nonce Default pass

-- the passphrase of a key's new file is kept: by a turn of its own, or by the return of the ticket
pub data KeepsPass (grip : Grip) (pass : List ℕ) : MarkStep → Type 0 where
  put : KeepsPass grip pass (put_key grip pass)
  given_back : {ticket : ℕ} → KeepsPass grip pass (Close ticket (Some pass))

-- What is done for it. Nothing is handed in before the bytes are drawn, and then the passphrase under the nonce, at once. Where that is done the
-- keys are called next, and where they have replaced the file, the passphrase is kept for the key. Nothing else is handed in.
pub data ImportCourse : List (EventWith PortCall) → Type 0 where
  not_drawn : {events : List (EventWith PortCall)} → HandNothing events → ImportCourse events
  not_put : (early late : List (EventWith PortCall)) (drawn pass : List ℕ) {turn : Turn} {why : Code} → HandNothing early → length drawn ≡ 32 → Interrupts turn why → HandNothing late
      → ImportCourse (early ++ drew drawn ∷ cache_turn (put_nonce drawn pass) turn ∷ late)
  not_replaced : (early late : List (EventWith PortCall)) (drawn pass file : List ℕ) (grip : Grip) (answer : KeyDone) → HandNothing early → length drawn ≡ 32 → answer ≢ key_done.Done → HandNothing late
      → ImportCourse (early ++ drew drawn ∷ cache_turn (put_nonce drawn pass) Done ∷ called (Replaced grip file answer) ∷ late)
  replaced : (early late : List (EventWith PortCall)) (drawn pass file : List ℕ) {grip : Grip} {step : MarkStep} (turn : Turn) → HandNothing early → length drawn ≡ 32 → KeepsPass grip pass step → HandNothing late
      → ImportCourse (early ++ drew drawn ∷ cache_turn (put_nonce drawn pass) Done ∷ called (Replaced grip file key_done.Done) ∷ cache_turn step turn ∷ late)
