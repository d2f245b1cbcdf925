-- Worked lists of events that no request has: what a prompt didn't accept isn't kept, a file that was read once isn't too long, and a key that didn't come in is
-- no request's.
use Rattle.std.{specs.Prelude.if◌then◌else◌, proofs.Common.{◌≡◌, ℕ, true, List, [], ◌∷◌, Option, Some, None, Ok, ap, subst}}
use Rattle.agent_ask.specs.{Prompts.{AsksPin, AsksBefore, Tries, IsTry, MeetsCheck}, Session.{SessionEvents.Sent, TrustCalls.Read, PortCalls.PortCall}, declared.prompt.spec.{AskPlan.AskPlan, PromptSpec.PromptSpec}}
use Rattle.{agent_ports.specs.declared.{grip.Grip.Grip, trust.TrustRead.TrustRead}, assuan_server.specs.Written.failed, cache_policy.specs.declared.mark.MarkStep.TheVariants.Close, secret_file.specs.Opens.LockedKey}
use Rattle.{session_options.specs.{OptionValues.OptionValues, declared.rules.Rules.Rules}, agent_commands.specs.{Events.EventWith, Requests.{GetFields, get_passphrase}, declared.request.Request.{Request, TheVariants.Cache}}}
use Rattle.{key_commands.specs.Passphrases.OpensBy, agent_origin.specs.{TrustActions.trust_called, declared.{session_state.SessionState.SessionState, trust.request.TrustRequest.TrustRequest}}}
use Rattle.agent_session.specs.{Causes.{later, on_keys, IsReadLocked, exports, changes, wanted, of_new, of_import, data_says, sent, said}, DoorCauses.{IsTooMuch, inquired, too_long, read_again, read_trust}}
use Rattle.agent_session.specs.OwnPassphrases.{IsAccepted, any, opening, verifies, StoresOwn, accepted, changed, IsAbout, named, brought, IsNonceOf, nonce_of}
use Rattle.agent_ask.specs.Prompts as prompts
use Rattle.agent_ask.specs.declared.prompt.ask.Asked.TheVariants as asked
use Rattle.agent_ask.specs.declared.prompt.prompter.Outcome.TheVariants as outcome
use Rattle.session_client.specs.declared.code.Code.TheVariants as code
use Rattle.key_commands.specs.declared.request.KeyRequest.TheVariants as on
use Rattle.agent_session.specs.OwnPassphrases as whose

-- ---- what a prompt came to is right, and meets the check

module _ {plan : AskPlan} {Rule : List ℕ → Type 0} where
  try_right : {error pin : List ℕ} {events : _} {tests : _} → IsTry plan Rule error events tests (Ok pin) → MeetsCheck plan.check pin × Rule pin
  try_right (prompts.accepted meets right prompts.same) = (meets, right)

  tries_right : {number : ℕ} {before : _} {pin : List ℕ} {events : _} {tests : _} → Tries plan Rule number before events tests (asked.Pin pin) → MeetsCheck plan.check pin × Rule pin
  tries_right (prompts.good few try) = try_right try
  tries_right (prompts.over few (prompts.ended (outcome.Pin typed) is)) = absurd (cc is)
  tries_right (prompts.over few (prompts.accepted meets right (prompts.ended (outcome.Pin typed) before_all is))) = absurd (cc is)
  tries_right (prompts.over few (prompts.ended outcome.Cancelled is)) = absurd (cc is)
  tries_right (prompts.over few (prompts.accepted meets right (prompts.ended outcome.Cancelled before_all is))) = absurd (cc is)
  tries_right (prompts.over few (prompts.ended outcome.TimedOut is)) = absurd (cc is)
  tries_right (prompts.over few (prompts.accepted meets right (prompts.ended outcome.TimedOut before_all is))) = absurd (cc is)
  tries_right (prompts.over few (prompts.ended outcome.Failed is)) = absurd (cc is)
  tries_right (prompts.over few (prompts.accepted meets right (prompts.ended outcome.Failed before_all is))) = absurd (cc is)
  tries_right (prompts.over few (prompts.ended (outcome.Broken breach) is)) = absurd (cc is)
  tries_right (prompts.over few (prompts.accepted meets right (prompts.ended (outcome.Broken breach) before_all is))) = absurd (cc is)
  tries_right (prompts.again few try more) = tries_right more

  before_right : {spec : PromptSpec} {pin : List ℕ} {events : _} {tests : _} → AsksBefore spec plan Rule events tests (asked.Pin pin) → MeetsCheck plan.check pin × Rule pin
  before_right (prompts.tried opened tries) = tries_right tries

  pin_right : {spec : PromptSpec} {pin : List ℕ} {events : _} → AsksPin spec plan Rule events (asked.Pin pin) → MeetsCheck plan.check pin × Rule pin
  pin_right asks = before_right asks.asks

module _ {rules : Rules} {options : OptionValues} {request : Request} {before : List (EventWith PortCall)} {pin : List ℕ} where
  -- so at an EXPORT_KEY it opens the key whose file was read
  export_opens : {grip : Grip} {nonce : Option (List ℕ)} → on_keys request ≡ Some (on.ExportKey grip nonce) → IsAccepted rules options request before pin
      → (locked : LockedKey) × IsReadLocked before grip locked × OpensBy locked pin
  export_opens is (any (wanted fields get texts) prompted) = let none : on_keys request ≡ None = ap on_keys get in absurd (cc (is, none))
  export_opens is (any (of_new other) prompted) = absurd (cc (is, other))
  export_opens is (any (of_import other) prompted) = absurd (cc (is, other))
  export_opens {grip} is (opening {grip = named_so} {locked} (whose.exports other) locked_so prompted) =
      let same : named_so ≡ grip = cc (is, other) in (locked, subst (λ g. IsReadLocked before g locked) same locked_so, (pin_right prompted.asks).1)
  export_opens is (opening (verifies other) locked_so prompted) = absurd (cc (is, other))

  -- and at a GET_PASSPHRASE it meets the check, where one is wanted
  get_meets : (fields : GetFields) → request ≡ Cache (get_passphrase fields) → IsAccepted rules options request before pin
      → MeetsCheck (if fields.check then Some (rules.min_len, rules.min_nonalpha) else None) pin
  get_meets fields is (any (wanted other get texts) prompted) =
      let same : other.check ≡ fields.check = cc (is, get) in
      subst (λ c. MeetsCheck (if c then Some (rules.min_len, rules.min_nonalpha) else None) pin) same (pin_right prompted.asks).0
  get_meets fields is (any (of_new other) prompted) = let none : on_keys request ≡ None = ap on_keys is in absurd (cc (other, none))
  get_meets fields is (any (of_import other) prompted) = let none : on_keys request ≡ None = ap on_keys is in absurd (cc (other, none))
  get_meets fields is (opening (whose.exports other) locked_so prompted) = let none : on_keys request ≡ None = ap on_keys is in absurd (cc (other, none))
  get_meets fields is (opening (verifies other) locked_so prompted) = let none : on_keys request ≡ None = ap on_keys is in absurd (cc (other, none))

module _ {rules : Rules} {kept : SessionState} {request : Request} {before : List (EventWith PortCall)} {pin : List ℕ} {ticket : ℕ} where
  -- an EXPORT_KEY keeps no passphrase that was typed and doesn't open the key, whatever was shown
  wrong_pin_is_not_kept : {grip : Grip} {nonce : Option (List ℕ)} → on_keys request ≡ Some (on.ExportKey grip nonce) → ((locked : LockedKey) → IsReadLocked before grip locked → ¬ OpensBy locked pin)
      → StoresOwn rules kept request before (Close ticket (Some pin)) → ⊥
  wrong_pin_is_not_kept is closed (accepted has prompted) = let right = export_opens is prompted in closed right.0 right.1 right.2
  wrong_pin_is_not_kept is closed (changed other has gave) = cc (is, other)

  -- a GET_PASSPHRASE keeps none that is too weak, as the third of three at which a check of one's own making doesn't end
  weak_pin_is_not_kept : (fields : GetFields) → request ≡ Cache (get_passphrase fields) → fields.check ≡ true → ¬ MeetsCheck (Some (rules.min_len, rules.min_nonalpha)) pin
      → StoresOwn rules kept request before (Close ticket (Some pin)) → ⊥
  weak_pin_is_not_kept fields is checked weak (accepted has prompted) =
      weak (subst (λ c. MeetsCheck (if c then Some (rules.min_len, rules.min_nonalpha) else None) pin) checked (get_meets fields is prompted))
  weak_pin_is_not_kept fields is checked weak (changed other has gave) = let none : on_keys request ≡ None = ap on_keys is in cc (other, none)

-- an IMPORT_KEY is about no key before its client sent one
nothing_came : {rules : Rules} {kept : SessionState} {request : Request} {grip : Grip} {force : _} {nonce : Option (List ℕ)} → on_keys request ≡ Some (on.ImportKey force nonce) → IsAbout rules kept request [] grip → ⊥
nothing_came is (named (exports other)) = cc (is, other)
nothing_came is (named (changes other)) = cc (is, other)
nothing_came is (brought other (data_says wrap (sent says has) key) named_so) = elim has [ ]

-- and puts nothing under a nonce before one was drawn
nothing_drawn : {id : List ℕ} → IsNonceOf [] id → ⊥
nothing_drawn (nonce_of drawn) = elim drawn.has [ ]

-- MARKTRUSTED whose file was read once wasn't answered Too much data by its length
one_read : (answer : TrustRead) (request : TrustRequest) → IsTooMuch (trust_called (Read answer) ∷ Sent (failed code.TooMuch) ∷ []) request → ⊥
one_read answer request (inquired (said says (later (later has)))) = elim has [ ]
one_read answer request (too_long is (read_again (read_trust found (later has))) none much) = elim has [ ]
