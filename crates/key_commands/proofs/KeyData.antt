-- Keys that come in.
use Rattle.std.{proofs.Common.{◌≡◌, ◌≢◌, ◌≤◌, ◌⊎◌, inl, inr, ℕ, List, [], ◌∷◌, ◌++◌, length, Option, Some, None, Result, Ok, Err, refl, subst}, specs.Prelude.codes}
use Rattle.agent_ask.{specs.Session.{ClientActions.Inquires, PortCalls.{NoMemory, world_with}, ActionStates.{NoTurn, DoesWithClient}, SessionEvents.Inquiry}, proofs.{Doing.{done_then, done_port, done_inquired}, ActionsAtClient.{gave, gave_none}}}
use Rattle.{agent_ask.proofs.ActionsDone.beside_client, agent_ports.specs.{Sides.WhereKnown, declared.grip.Grip.Grip}, assuan_server.specs.{Asking.{Inquire, IsNotAsked}, Clients.{connection_views, session_lines, outcome_says}}}
use Rattle.assuan_server.{specs.{Connections.{Connection, IsOpen}, Inquiries.{Outcome, Inquiry as Comes, IsAtEnd, Answers, outcome_of, inquire_text}, declared.inquiry.Inquired.Inquired}, proofs.Clients.{inquiry_is_done, not_inquired}}
use Rattle.{session_client.specs.{declared.{code.Code.Code, refusal.Refusal.{Refusal, TheVariants.Agent}}, Asking.{Asked, AsksClient, LeftBy}}, secret_file.proofs.Within.file_fits, sexp_keys.specs.{Key.Key, Lists.{key_list_of, grip_of}}}
use Rattle.key_commands.specs.{Lines.max_key_data, Events.out_of_memory, KeyActions.{AsksKeyData, asked, no_memory, Unwraps, is_key, refused, no_memory as no_key_memory, NamesKey, named as grip_named, no_memory as no_name_memory}}
use Rattle.key_commands.specs.{Partial.{NoCall, DoesBesideKeys, no_memory as wants_memory, LeavesKeys, DoesAtClient}, Steps.{key_data_of, DoesAlone, nothing, memory as memory_wanted}, Trials.IsUsable}
use Rattle.key_commands.specs.{Wrapping.{PlainSays, key as plain_key, WrappedSays, checked}, declared.wrapping.TheConstants.MAX_LIST_LEN}
use Rattle.assuan_server.specs.Inquiries as outcome
use Rattle.session_client.specs.declared.code.Code.TheVariants as code
use Rattle.assuan_server.specs.declared.inquiry.Inquired.TheVariants as inquired

abbrev word : List ℕ
word = codes "KEYDATA"

-- the inquiry for a key, in which memory for its bytes is found
as_key_data : {start now : Connection} {result : Result (List ℕ) Refusal} → DoesWithClient connection_views (Inquires session_lines word max_key_data) start result now → DoesAtClient AsksKeyData start result now
as_key_data done held =
    let inquired : LeavesKeys NoTurn NoCall (Inquires session_lines word max_key_data) held _ tt tt _ held _ tt tt = beside_client done in
    record { events = inquired.events; does = asked inquired.does; done = inquired.done; fits = inquired.fits; faults = inquired.faults }

-- an inquiry at whose end END was read
some_end : (before after : Option (List ℕ)) (P : List ℕ → List ℕ → Outcome → Type 0) → WhereKnown before after (λ rest left. (what : Outcome) × P rest left what × IsAtEnd what)
    → (what : Outcome) × IsAtEnd what × WhereKnown before after (λ rest left. (other : Outcome) × P rest left other × (what ≡ other))
some_end None None P known = (outcome.Data [], tt, tt)
some_end None (Some left) P known = absurd known
some_end (Some rest) None P known = absurd known
some_end (Some rest) (Some left) P known = (known.0, known.2, (known.0, known.1, refl))

-- what an inquiry came to that is closed by END, as one of which that is said
as_named : {start now : Connection} (what : Outcome) → IsAtEnd what → (inquire : Inquire max_key_data (inquire_text word []) IsAtEnd start now)
    → WhereKnown start.input.bytes now.input.bytes (λ rest left. (other : Outcome) × Comes max_key_data (start.reader.ahead ++ rest) inquire.took other now.reader left × (what ≡ other))
    → Inquire max_key_data (inquire_text word []) (λ other. what ≡ other) start now
as_named what at_end inquire known =
    let g = inquire.gathered in
    let r = g.read in
    record {
      took = inquire.took;
      gathered = record {
        read = record { known = known; budget = r.budget; needed = r.needed; progress = r.progress; spent = r.spent; fault = r.fault; faults = r.faults; ended = r.ended };
        written = g.written;
        output_faults = g.output_faults;
        link = g.link;
      };
      ended = λ other same. inquire.ended other (subst IsAtEnd same at_end);
    }

module _ (start now : Connection) where
  open_at_end : (what : Outcome) → IsAtEnd what → LeftBy connection_views (outcome_says what) start now → IsOpen now
  open_at_end (outcome.Data bytes) at_end left = left
  open_at_end outcome.TooMuch at_end left = left
  open_at_end _ at_end left = absurd at_end

module _ {start now : Connection} (going : IsOpen start) where
  named : (what : Outcome) → Inquire max_key_data (inquire_text word []) (λ other. what ≡ other) start now → AsksClient connection_views word max_key_data (outcome_says what) start now
  named what inquire = record { inquired = Asked what; result_is = refl; inquires = inquiry_is_done word [] max_key_data start now going what inquire }

  -- there was no memory for the bytes
  without_bytes : Inquire max_key_data (inquire_text word []) IsAtEnd start now → DoesAtClient AsksKeyData start (key_data_of inquired.NoMemory) now
  without_bytes inquire held =
      let end = some_end start.input.bytes now.input.bytes (λ rest left o. Comes max_key_data (start.reader.ahead ++ rest) inquire.took o now.reader left) inquire.gathered.read.known in
      let asks = inquiry_is_done word [] max_key_data start now going end.0 (as_named end.0 end.1 inquire end.2) in
      let stays : IsOpen now = open_at_end start now end.0 end.1 asks.left in
      record {
        events = Inquiry word [] max_key_data (Asked end.0) ∷ out_of_memory ∷ [];
        does = no_memory end.1;
        done =
            done_then (done_inquired {w = world_with {lines = session_lines} NoTurn (DoesBesideKeys NoCall)} tt tt (Asked end.0) asks.done)
            (done_port {w = world_with {lines = session_lines} NoTurn (DoesBesideKeys NoCall)} NoMemory now tt tt tt wants_memory);
        fits = (stays, asks.fewer stays);
        faults = record { read = λ e. absurd (cc e); write = λ e. absurd (cc e) };
      }

  pub key_data_asked : (what : Inquired) → (what ≢ inquired.WriteFault → Inquire max_key_data (inquire_text word []) (Answers (outcome_of what)) start now)
      → (what ≡ inquired.WriteFault → IsNotAsked (inquire_text word []) start now) → DoesAtClient AsksKeyData start (key_data_of what) now
  key_data_asked (inquired.Data bytes) inquiry cut = as_key_data (gave (named (outcome.Data bytes.items) (inquiry (λ e. cc e))))
  key_data_asked inquired.NoMemory inquiry cut = without_bytes (inquiry (λ e. cc e))
  key_data_asked inquired.Cancelled inquiry cut = as_key_data (gave_none (named outcome.Cancelled (inquiry (λ e. cc e))))
  key_data_asked inquired.TooMuch inquiry cut = as_key_data (gave_none (named outcome.TooMuch (inquiry (λ e. cc e))))
  key_data_asked inquired.Unexpected inquiry cut = as_key_data (gave_none (named outcome.Unexpected (inquiry (λ e. cc e))))
  key_data_asked inquired.Ended inquiry cut = as_key_data (gave_none (named outcome.Ended (inquiry (λ e. cc e))))
  key_data_asked inquired.TooLong inquiry cut = as_key_data (gave_none (named outcome.TooLong (inquiry (λ e. cc e))))
  key_data_asked inquired.Spent inquiry cut = as_key_data (gave_none (named outcome.Spent (inquiry (λ e. cc e))))
  key_data_asked inquired.ReadFault inquiry cut = as_key_data (gave_none (named outcome.ReadFault (inquiry (λ e. cc e))))
  key_data_asked inquired.WriteFault inquiry cut = as_key_data (gave_none (record { inquired = _; result_is = refl; inquires = not_inquired word [] max_key_data start now (cut refl) }))

-- a key that comes in is clear, and not too long
plain_usable : {bytes : List ℕ} {key : Key} → PlainSays bytes (Ok key) → IsUsable key × (length (key_list_of key) ≤ MAX_LIST_LEN)
plain_usable (plain_key {key} padded is clear short) =
    (record { clear = clear; fits = file_fits padded.expression key (record { tree = _; read = padded.read; is = is }) }, short)

pub wrapped_usable : {wrap wrapped : List ℕ} {key : Key} → WrappedSays wrap wrapped (Ok key) → IsUsable key × (length (key_list_of key) ≤ MAX_LIST_LEN)
wrapped_usable (checked are says) = plain_usable says

-- wrapped bytes that are a key, or how they are refused
module _ {wrap wrapped : List ℕ} where
  pub unwraps : {key : Key} → WrappedSays wrap wrapped (Ok key) → DoesAlone (Unwraps wrap wrapped) (Ok key)
  unwraps says = nothing (λ held. is_key says) refl

  pub not_unwrapped : (why : Code) → (why ≡ code.NoMemory) ⊎ WrappedSays wrap wrapped (Err why) → DoesAlone (Unwraps wrap wrapped) (Err (Agent why))
  not_unwrapped why (inl memory) = rw memory (memory_wanted (λ held. no_key_memory) refl)
  not_unwrapped why (inr says) = nothing (λ held. refused says) refl

-- the grip of a key
pub names_its_grip : (key : Key) (grip : Grip) → grip.0 ≡ grip_of key → DoesAlone (NamesKey key) (Ok grip)
names_its_grip key grip is = nothing (λ held. grip_named is) refl

pub not_named : (key : Key) → DoesAlone (NamesKey key) (Err (Agent code.NoMemory))
not_named key = memory_wanted (λ held. no_name_memory) refl
