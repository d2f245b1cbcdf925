-- What was done for a request stays so, whatever is done then; and the actions of requests on keys by which nothing is handed to the cache and the ticket stays.
use Rattle.std.proofs.Common.{◌≡◌, ℕ, List, ◌++◌, codes, Option, Some, None, Ok, refl, ap, ◌∙◌, append_assoc}
use Rattle.{agent_ask.specs.{Session.{PortCalls.PortCall, ClientActions.Inquires, TurnActions.Asks}, declared.prompt.{ask.Asked.Asked, spec.AskPlan.AskPlan}}, cache_policy.specs.declared.mark.MarkStep.MarkStep, agent_ports.specs.declared.grip.Grip.Grip}
use Rattle.{secret_file.specs.Opens.{LockedKey, IsLocked}, sexp_keys.specs.{Key.Key, Lists.grip_of}, agent_commands.specs.{Events.EventWith, declared.request.Request.Request}, key_commands.specs.{Lines.max_key_data, Wrapping.WrappedSays}}
use Rattle.{key_commands.specs.{KeyActions.{ReadsFile, LooksOver, AsksKeyData, Unwraps, NamesKey}, Actions.Draws, Passphrases.{LooksForNonce, Locks, TriesPassphrase, OpensBy, ask_nonce}}, assuan_server.specs.Clients.session_lines}
use Rattle.{agent_origin.specs.declared.session_state.SessionState.SessionState, session_options.specs.{OptionValues.OptionValues, declared.rules.Rules.Rules}}
use Rattle.agent_session.specs.Causes.{here, StandIn, HasPrompt, ComesBy, cached_by_nonce, cached_by_key, sent_by_client, typed_by_user, OpensRead, is_clear, opens, KeyDataSays, data_says, IsSent, sent, IsDrawn, IsRead, read, IsReadLocked}
use Rattle.agent_session.{specs.OwnPassphrases.{IsAbout, named, brought, WantsTicket, by_id, by_key, by_seat, unkept, HasTicket, has_ticket, IsAccepted, any, opening, IsGivenNew, given, NamesNew}, proofs.Own.OwnActions.{Quiet, QuietWith}}
use Rattle.agent_session.proofs.Standing.{has_left, has_right}
use Rattle.key_commands.specs.KeyActions as actions
use Rattle.agent_ask.specs.Session.Actions as chain
use Rattle.agent_ask.specs.Session.TurnActions as turning
use Rattle.agent_ask.specs.Session.ClientActions as client_actions
use Rattle.key_commands.specs.Actions as small
use Rattle.key_commands.specs.Passphrases as passphrases

pub stand_more : {E : Type 0} {action whole : List E} (more : List E) → StandIn action whole → StandIn action (whole ++ more)
stand_more {action} more stands = record {
  before = stands.before;
  after = stands.after ++ more;
  is = ap (λ w. w ++ more) stands.is ∙ append_assoc stands.before (action ++ stands.after) more ∙ ap (λ x. stands.before ++ x) (append_assoc action stands.after more);
}

pub sent_more : {prior : List (EventWith PortCall)} {word pass : List ℕ} {limit : ℕ} (more : List (EventWith PortCall)) → IsSent prior word limit pass → IsSent (prior ++ more) word limit pass
sent_more more (sent says has) = sent says (has_left more has)

pub drawn_more : {prior : List (EventWith PortCall)} {count : ℕ} {bytes : List ℕ} (more : List (EventWith PortCall)) → IsDrawn prior count bytes → IsDrawn (prior ++ more) count bytes
drawn_more more drawn = record { long = drawn.long; has = has_left more drawn.has }

pub read_more : {prior : List (EventWith PortCall)} {grip : Grip} {says : _} (more : List (EventWith PortCall)) → IsRead prior grip says → IsRead (prior ++ more) grip says
read_more more (read is says has) = read is says (has_left more has)

pub locked_more : {prior : List (EventWith PortCall)} {grip : Grip} {locked : LockedKey} (more : List (EventWith PortCall)) → IsReadLocked prior grip locked → IsReadLocked (prior ++ more) grip locked
locked_more more locked = record { key = read_more more locked.key; protection = locked.protection }

pub prompt_more : {prior : List (EventWith PortCall)} {plan : AskPlan} {Rule : List ℕ → Type 0} {answer : Asked} (more : List (EventWith PortCall)) → HasPrompt prior plan Rule answer → HasPrompt (prior ++ more) plan Rule answer
prompt_more more prompted = record {
  spec = prompted.spec;
  prompt = prompted.prompt;
  shown = prompted.shown;
  asks = prompted.asks;
  in_session = prompted.in_session;
  stands = stand_more more prompted.stands;
}

module _ {rules : Rules} {options : OptionValues} {request : Request} {prior : List (EventWith PortCall)} (more : List (EventWith PortCall)) where
  pub accepted_more : {pin : List ℕ} → IsAccepted rules options request prior pin → IsAccepted rules options request (prior ++ more) pin
  accepted_more (any asks prompted) = any asks (prompt_more more prompted)
  accepted_more (opening keeps locked prompted) = opening keeps (locked_more more locked) (prompt_more more prompted)

  comes_more : {grip : Grip} {locked : LockedKey} {pass : List ℕ} → ComesBy prior rules options request grip locked pass → ComesBy (prior ++ more) rules options request grip locked pass
  comes_more (cached_by_nonce names has) = cached_by_nonce names (has_left more has)
  comes_more (cached_by_key way has) = cached_by_key way (has_left more has)
  comes_more (sent_by_client is says) = sent_by_client is (sent_more more says)
  comes_more (typed_by_user prompted) = typed_by_user (prompt_more more prompted)

  pub opens_more : {grip : Grip} {key : Key} → OpensRead prior rules options request grip key → OpensRead (prior ++ more) rules options request grip key
  opens_more (is_clear is_read clear) = is_clear (read_more more is_read) clear
  opens_more (opens locked comes to) = opens (locked_more more locked) (comes_more comes) to

module _ {rules : Rules} {kept : SessionState} {request : Request} {prior : List (EventWith PortCall)} (more : List (EventWith PortCall)) where
  pub key_data_more : {says : _} → KeyDataSays prior rules kept request says → KeyDataSays (prior ++ more) rules kept request says
  key_data_more (data_says wrap says key) = data_says wrap (sent_more more says) key

  pub about_more : {grip : Grip} → IsAbout rules kept request prior grip → IsAbout rules kept request (prior ++ more) grip
  about_more (named unlocks) = named unlocks
  about_more (brought is says named_so) = brought is (key_data_more says) named_so

  wants_more : {step : MarkStep} → WantsTicket rules kept request prior step → WantsTicket rules kept request (prior ++ more) step
  wants_more (by_id fields is named_so) = by_id fields is named_so
  wants_more (by_key about) = by_key (about_more about)
  wants_more (by_seat about) = by_seat (about_more about)
  wants_more unkept = unkept

  pub ticket_more : {ticket : ℕ} → HasTicket rules kept request prior ticket → HasTicket rules kept request (prior ++ more) ticket
  ticket_more (has_ticket wants has) = has_ticket (wants_more wants) (has_left more has)

  pub given_more : {pass : List ℕ} → IsGivenNew rules kept request prior pass → IsGivenNew rules kept request (prior ++ more) pass
  given_more (given names has) = given names (has_left more has)

-- ---- quiet actions

pub inquires_quiet : (word : List ℕ) (limit : ℕ) → QuietWith (Inquires session_lines word limit) (λ pass prior. IsSent prior word limit pass)
inquires_quiet word limit prior before events result after (client_actions.given is) fits = ((tt, tt), refl, sent is (has_right prior here))
inquires_quiet word limit prior before events result after (client_actions.not_given is) fits = ((tt, tt), refl, tt)

pub draws_quiet : (count : ℕ) → QuietWith (Draws count) (λ bytes prior. IsDrawn prior count bytes)
draws_quiet count prior before events result after (small.drawn long) fits = ((tt, tt), refl, record { long = long; has = has_right prior here })
draws_quiet count prior before events result after small.faulted fits = ((tt, tt), refl, tt)

pub reads_file_quiet : (grip : Grip) → QuietWith (ReadsFile grip) (λ file prior. IsRead prior grip (Ok file.key))
reads_file_quiet grip prior before events result after (actions.is_key is says) fits = ((tt, tt), refl, read is says (has_right prior here))
reads_file_quiet grip prior before events result after (actions.faulty is says) fits = ((tt, tt), refl, tt)
reads_file_quiet grip prior before events result after (actions.no_memory is) fits = ((tt, (tt, tt)), refl, tt)
reads_file_quiet grip prior before events result after (actions.unread is) fits = ((tt, tt), refl, tt)

pub locks_quiet : (key : Key) → QuietWith (Locks key) (λ locked prior. (locked.key ≡ key) × IsLocked locked)
locks_quiet key prior before events result after (passphrases.is_locked same locked) fits = (tt, refl, (same, locked))
locks_quiet key prior before events result after (passphrases.has_fault is) fits = (tt, refl, tt)
locks_quiet key prior before events result after passphrases.no_memory fits = ((tt, tt), refl, tt)

-- a key that the client sends
pub key_data_quiet : QuietWith AsksKeyData (λ bytes prior. IsSent prior (codes "KEYDATA") max_key_data bytes)
key_data_quiet prior before events result after (actions.asked does) fits = inquires_quiet (codes "KEYDATA") max_key_data prior before events result before does fits
key_data_quiet prior before events result after (actions.no_memory at_end) fits = ((tt, (tt, tt)), refl, tt)

pub unwraps_quiet : (wrap wrapped : List ℕ) → QuietWith (Unwraps wrap wrapped) (λ key prior. WrappedSays wrap wrapped (Ok key))
unwraps_quiet wrap wrapped prior before events result after (actions.is_key says) fits = (tt, refl, says)
unwraps_quiet wrap wrapped prior before events result after (actions.refused says) fits = (tt, refl, tt)
unwraps_quiet wrap wrapped prior before events result after actions.no_memory fits = ((tt, tt), refl, tt)

pub names_quiet : (key : Key) → QuietWith (NamesKey key) (λ grip prior. grip.0 ≡ grip_of key)
names_quiet key prior before events result after (actions.named is) fits = (tt, refl, is)
names_quiet key prior before events result after actions.no_memory fits = ((tt, tt), refl, tt)

-- a passphrase that opens a key
module _ (locked : LockedKey) (pass : List ℕ) where
  pub tries_quiet : QuietWith (TriesPassphrase locked pass) (λ tried prior. (opened : _) → tried ≡ Some opened → OpensBy locked pass)
  tries_quiet prior before events result after (passphrases.opens to) fits = (tt, refl, λ opened is. (_, to))
  tries_quiet prior before events result after (passphrases.stays closed) fits = (tt, refl, λ opened is. absurd (cc is))
  tries_quiet prior before events result after passphrases.no_memory fits = ((tt, tt), refl, tt)

module _ (rules : Rules) (kept : SessionState) (request : Request) where
  -- what was found under the nonce of a new one
  abbrev pub FoundNew : Option (List ℕ) → List (EventWith PortCall) → Type 0
  FoundNew None prior = Unit {0}
  FoundNew (Some pass) prior = IsGivenNew rules kept request prior pass

  pub new_nonce_quiet : (id : Option (List ℕ)) → ((nonce : List ℕ) → id ≡ Some nonce → NamesNew request nonce) → QuietWith (LooksForNonce id) FoundNew
  new_nonce_quiet None names prior before events result after chain.returns fits = (tt, refl, tt)
  new_nonce_quiet (Some id) names prior before events result after (turning.given can) fits = (((λ hands. elim hands [ ]), tt), refl, given (names id refl) (has_right prior here))
  new_nonce_quiet (Some id) names prior before events result after (turning.empty can) fits = (((λ hands. elim hands [ ]), tt), refl, tt)
  new_nonce_quiet (Some id) names prior before events result after (turning.opened can) fits = absurd can
  new_nonce_quiet (Some id) names prior before events result after (turning.interrupted can why) fits = (((λ hands. elim hands [ ]), tt), refl, tt)

  pub looks_over_quiet : (id : Option (List ℕ)) → ((nonce : List ℕ) → id ≡ Some nonce → NamesNew request nonce) → QuietWith (LooksOver id) FoundNew
  looks_over_quiet id names prior before events result after actions.no_nonce fits = (tt, refl, tt)
  looks_over_quiet id names prior before events result after (actions.given {nonce} can) fits = (((λ hands. elim hands [ ]), tt), refl, given (names nonce refl) (has_right prior here))
  looks_over_quiet id names prior before events result after actions.empty fits = (((λ hands. elim hands [ ]), tt), refl, tt)
  looks_over_quiet id names prior before events result after actions.stopping fits = (((λ hands. elim hands [ ]), tt), refl, tt)
  looks_over_quiet id names prior before events result after actions.no_memory fits = (((λ hands. elim hands [ ]), tt), refl, tt)

-- a question for what is cached, without a prompt, gives no ticket
pub looks_for_nonce_quiet : (id : Option (List ℕ)) → Quiet (LooksForNonce id)
looks_for_nonce_quiet None before events result after chain.returns fits = (tt, refl)
looks_for_nonce_quiet (Some id) before events result after (turning.given can) fits = (((λ hands. elim hands [ ]), tt), refl)
looks_for_nonce_quiet (Some id) before events result after (turning.empty can) fits = (((λ hands. elim hands [ ]), tt), refl)
looks_for_nonce_quiet (Some id) before events result after (turning.opened can) fits = absurd can
looks_for_nonce_quiet (Some id) before events result after (turning.interrupted can why) fits = (((λ hands. elim hands [ ]), tt), refl)
