-- A row of each request on the cache or on the session that prompts nobody: what is done and written for it, and how the session goes on.
use Rattle.std.{specs.{Prelude.{◌≡◌, ◌++◌, ℕ, List, [], ◌∷◌, codes, true, false, Some, None, refl}, Fmt.digits}, proofs.{Common.{ap, arith, subst}, lemmas.List.Elements.{All-cons, All-nil}}}
use Rattle.agent_ask.specs.{Session.{ClientActions.{written, given, not_given}, ActionExchanges.{answered, refused}, Actions.{returns, refuses, goes_on, stops}, SessionEvents.{Sent, Inquiry, cache_turn}}, Interrupts.stopping, Plans.text}
use Rattle.{agent_ask.specs.Session.TurnActions.{empty, done, interrupted, unheld}, assuan_escape.specs.DataLines.IsPiece, assuan_server.specs.{Inquiries.{Outcome, Data, Cancelled, Unexpected, Ended}, Written.{failed, limit_line, ok, IsDataAnswer}}}
use Rattle.cache_policy.specs.declared.{grant.Grant.Grant, life.Life.TheVariants.{Default, Endless}, mark.MarkStep.TheVariants.{Put, Clear, Flush, Stop}, mode.Mode.TheVariants.{Any, User}, secret.TheConstants.MAX_SECRET_LEN}
use Rattle.{cache_policy.specs.Turns.{Given, Empty, Done, Stopping}, session_client.specs.{Asking.Asked, declared.refusal.Refusal.TheVariants.{Agent, Client}}}
use Rattle.session_options.specs.{OptionValues.{OptionValues, applied, at_start, with_description}, Table.{named, mode_of}, Defaults.default_version, declared.{rules.Rules.Rules, version.Version.Version as TheVersion}}
use Rattle.agent_commands.specs.{Answers.{closing, help, IsPassphrase}, Exchanges.{last_reply, reply, tells, TellsInfo, CacheExchange}, Actions.CacheEvent, Passphrases.ask, Requests.{GetFields, get_passphrase}}
use Rattle.agent_commands.specs.declared.request.{CacheCommand.TheVariants.{Nop, Reset, Bye, Help, SetOption, SetKeyDesc, GetInfo, PresetPassphrase, ClearPassphrase, ReloadAgent, KillAgent}, Info.TheVariants.Version}
use Rattle.agent_commands.specs.declared.{request.{Request.TheVariants.{Cache, Bad}, Texts.Texts}, went.Went.TheVariants.{On, End}}
use Rattle.agent_commands.proofs.{Secrets.is_secret, VersionLines.{version_lines, version_data}}
use Rattle.agent_ask.specs.Session.TurnActions as turn
use Rattle.session_client.specs.declared.code.Code.TheVariants as code
use Rattle.session_client.specs.declared.client_error.Gone.TheVariants as gone
use Rattle.session_client.specs.declared.client_error.ClientError.TheVariants as client_error
use Rattle.session_options.specs.declared.options.PinMode.TheVariants as mode
use Rattle.agent_commands.specs.declared.went.SessionEnd.TheVariants as ends

-- some lines, as they are written
abbrev written_lines : List (List ℕ) → List ℕ
written_lines [] = []
written_lines (line ∷ more) = line ++ 10 ∷ written_lines more

ok_is : ok ≡ written_lines (codes "OK" ∷ [])
ok_is = refl

closing_is : closing ≡ written_lines (codes "OK closing connection" ∷ [])
closing_is = refl

no_data_is : failed code.NoData ≡ written_lines (codes "ERR 67108922 No data <GPG Agent>" ∷ [])
unfolding digits
no_data_is = refl

cancelled_is : failed code.Cancelled ≡ written_lines (codes "ERR 67108963 Operation cancelled <GPG Agent>" ∷ [])
unfolding digits
cancelled_is = refl

unexpected_is : failed code.Unexpected ≡ written_lines (codes "ERR 67109138 Unexpected IPC command <GPG Agent>" ∷ [])
unfolding digits
unexpected_is = refl

limit_is : limit_line MAX_SECRET_LEN ≡ written_lines (codes "S INQUIRE_MAXLEN 255" ∷ [])
unfolding digits
limit_is = refl

-- "secret" in one data line, and then OK
secret_data : IsDataAnswer (codes "secret") (written_lines (codes "D secret" ∷ codes "OK" ∷ []))
secret_data = record {
  pieces = codes "secret" ∷ [];
  are_data = record { joined = refl; each = All-cons IsPiece (codes "secret") [] (omega arith, omega arith) (All-nil IsPiece); full = (tt, tt) };
  text_is = refl;
}

secret_told : IsPassphrase true (codes "secret") (written_lines (codes "D secret" ∷ codes "OK" ∷ []))
secret_told = record { is = is_secret (codes "secret") (omega arith, (omega arith, (omega arith, (omega arith, (omega arith, (omega arith, tt)))))) (omega arith); written = secret_data }

-- of an id alone: by the cache, as data
abbrev quiet : GetFields
quiet = record { plain = true; check = false; no_ask = true; repeat = 0; quality = false; id = Some (codes "id1"); texts = None }

-- the client is asked for a passphrase, and this is what it says
abbrev inquired : Outcome → CacheEvent
inquired outcome = Inquiry (codes "PASSPHRASE") [] MAX_SECRET_LEN (Asked outcome)

module _ (rules : Rules) (before : OptionValues) where
  nop : CacheExchange rules before (Cache Nop) (Sent ok ∷ []) before On
  nop = answered [] None (reply before ok) returns unheld

  -- all options are as at the start
  reset : CacheExchange rules before (Cache Reset) (Sent ok ∷ []) (at_start before.rules_count before.allow_loopback) On
  reset = answered [] None (reply (at_start before.rules_count before.allow_loopback) ok) returns unheld

  bye : CacheExchange rules before (Cache Bye) (Sent closing ∷ []) before (End ends.Bye)
  bye = answered [] None (last_reply before ends.Bye) returns unheld

  helped : CacheExchange rules before (Cache Help) (Sent help ∷ []) before On
  helped = answered [] None (reply before help) returns unheld

  unknown : CacheExchange rules before (Bad code.UnknownCommand) (Sent (failed code.UnknownCommand) ∷ []) before On
  unknown = refused [] None (Agent code.UnknownCommand) refuses unheld

  -- the rules' version, in one line as it is
  version : CacheExchange rules before (Cache (GetInfo Version)) (Sent (version_lines rules.version.bytes.items) ∷ []) before On
  version = answered [] None (reply before (version_lines rules.version.bytes.items)) (goes_on (TellsInfo.tells (version_data rules.version)) returns) unheld

  -- so the usual one, and another
  version_is : (told : List ℕ) → rules.version.bytes.items ≡ told → CacheExchange rules before (Cache (GetInfo Version)) (Sent (version_lines told) ∷ []) before On
  version_is told is = subst (λ (bytes : List ℕ). CacheExchange rules before (Cache (GetInfo Version)) (Sent (version_lines bytes) ∷ []) before On) is version

  usual_version : rules.version ≡ default_version → CacheExchange rules before (Cache (GetInfo Version)) (Sent (written_lines (codes "D 2.4.0" ∷ codes "OK" ∷ [])) ∷ []) before On
  usual_version is = version_is (codes "2.4.0") (ap (λ (told : TheVersion). told.bytes.items) is)

  other_version : rules.version.bytes.items ≡ codes "2.2.40" → CacheExchange rules before (Cache (GetInfo Version)) (Sent (written_lines (codes "D 2.2.40" ∷ codes "OK" ∷ [])) ∷ []) before On
  other_version is = version_is (codes "2.2.40") is

  described : CacheExchange rules before (Cache (SetKeyDesc (text (codes "Sign it")))) (Sent ok ∷ []) (with_description before (codes "Sign it")) On
  described = answered [] None (reply (with_description before (codes "Sign it")) ok) returns unheld

  -- ---- the cache

  -- what is live is given, and nobody is asked
  given_live : (grant : Grant) → grant.id ≡ codes "id1" → grant.mode ≡ User → grant.entry.secret ≡ codes "secret"
      → CacheExchange rules before (Cache (get_passphrase quiet)) (cache_turn (ask (codes "id1")) (Given grant) ∷ Sent (written_lines (codes "D secret" ∷ codes "OK" ∷ [])) ∷ []) before On
  given_live grant id mode is = answered (cache_turn (ask (codes "id1")) (Given grant) ∷ []) None (reply before (written_lines (codes "D secret" ∷ codes "OK" ∷ [])))
      (goes_on (goes_on (turn.Asks.given (id, mode)) returns) (goes_on (tells (rw is secret_told)) returns)) unheld

  nothing_cached : CacheExchange rules before (Cache (get_passphrase quiet)) (cache_turn (ask (codes "id1")) Empty ∷ Sent (failed code.NoData) ∷ []) before On
  nothing_cached = refused (cache_turn (ask (codes "id1")) Empty ∷ []) None (Agent code.NoData) (stops (goes_on (empty tt) refuses)) unheld

  cleared : CacheExchange rules before (Cache (ClearPassphrase (codes "id1") User)) (cache_turn (Clear (codes "id1") User) Done ∷ Sent ok ∷ []) before On
  cleared = answered (cache_turn (Clear (codes "id1") User) Done ∷ []) None (reply before ok) (goes_on (done tt) returns) unheld

  reloaded : CacheExchange rules before (Cache ReloadAgent) (cache_turn Flush Done ∷ Sent ok ∷ []) before On
  reloaded = answered (cache_turn Flush Done ∷ []) None (reply before ok) (goes_on (done tt) returns) unheld

  killed : CacheExchange rules before (Cache KillAgent) (cache_turn Stop Done ∷ Sent closing ∷ []) before (End ends.Killed)
  killed = answered (cache_turn Stop Done ∷ []) None (last_reply before ends.Killed) (goes_on (done tt) returns) unheld

  -- a stop that comes too late is no end of the session
  stopping_already : CacheExchange rules before (Cache KillAgent) (cache_turn Stop Stopping ∷ Sent (failed code.Cancelled) ∷ []) before On
  stopping_already = refused (cache_turn Stop Stopping ∷ []) None (Agent code.Cancelled) (stops (interrupted tt stopping)) unheld

-- ---- presets

module _ (rules : Rules) (before : OptionValues) where
  abbrev allowing : Rules
  allowing = record rules { allow_preset = true }

  abbrev denying : Rules
  denying = record rules { allow_preset = false }

  preset : CacheExchange allowing before (Cache (PresetPassphrase (codes "id1") Endless (Some (codes "secret")))) (cache_turn (Put (codes "id1") Any Endless (codes "secret")) Done ∷ Sent ok ∷ []) before On
  preset = answered (cache_turn (Put (codes "id1") Any Endless (codes "secret")) Done ∷ []) None (reply before ok) (goes_on (goes_on returns (goes_on returns (done tt))) returns) unheld

  -- nothing is asked of the client where presets aren't allowed
  not_allowed : CacheExchange denying before (Cache (PresetPassphrase (codes "id1") Default None)) (Sent (failed code.NotSupported) ∷ []) before On
  not_allowed = refused [] None (Agent code.NotSupported) (stops (stops refuses)) unheld

  preset_by_inquiry : CacheExchange allowing before (Cache (PresetPassphrase (codes "id1") Default None))
      (Sent (limit_line MAX_SECRET_LEN) ∷ inquired (Data (codes "ab")) ∷ cache_turn (Put (codes "id1") Any Default (codes "ab")) Done ∷ Sent ok ∷ []) before On
  preset_by_inquiry = answered (Sent (limit_line MAX_SECRET_LEN) ∷ inquired (Data (codes "ab")) ∷ cache_turn (Put (codes "id1") Any Default (codes "ab")) Done ∷ []) None (reply before ok)
      (goes_on (goes_on returns (goes_on (goes_on written (given refl)) (done tt))) returns) unheld

  -- a client that is gone is told nothing more, and nothing is stored
  preset_by_nobody : CacheExchange allowing before (Cache (PresetPassphrase (codes "id1") Default None)) (Sent (limit_line MAX_SECRET_LEN) ∷ inquired Ended ∷ []) before (End ends.Ended)
  preset_by_nobody = refused (Sent (limit_line MAX_SECRET_LEN) ∷ inquired Ended ∷ []) None (Client (client_error.Gone gone.Ended)) (stops (goes_on returns (stops (goes_on written (not_given refl))))) unheld

-- ---- the client gives passphrases itself

module _ (rules : Rules) (options : OptionValues) (texts : Texts) where
  abbrev loopback : OptionValues
  loopback = record options { mode = mode.Loopback; allow_loopback = true }

  -- `pinentry-mode=loopback`
  set : CacheExchange rules (record options { allow_loopback = true }) (Cache (SetOption (text (codes "pinentry-mode=loopback")))) (Sent ok ∷ []) loopback On
  unfolding applied named mode_of
  set = answered [] None (reply loopback ok) returns unheld

  abbrev by_client : GetFields
  by_client = record { plain = true; check = false; no_ask = false; repeat = 0; quality = false; id = Some (codes "id1"); texts = Some texts }

  -- what it gives is kept under the id, and told
  client_gives : CacheExchange rules loopback (Cache (get_passphrase by_client))
      (cache_turn (ask (codes "id1")) Empty ∷ Sent (limit_line MAX_SECRET_LEN) ∷ inquired (Data (codes "secret")) ∷ cache_turn (Put (codes "id1") User Default (codes "secret")) Done
      ∷ Sent (written_lines (codes "D secret" ∷ codes "OK" ∷ [])) ∷ []) loopback On
  client_gives =
      answered (cache_turn (ask (codes "id1")) Empty ∷ Sent (limit_line MAX_SECRET_LEN) ∷ inquired (Data (codes "secret")) ∷ cache_turn (Put (codes "id1") User Default (codes "secret")) Done ∷ []) None
      (reply loopback (written_lines (codes "D secret" ∷ codes "OK" ∷ [])))
      (goes_on (goes_on (empty tt) (goes_on (goes_on written (given refl)) (goes_on (done tt) returns))) (goes_on (tells secret_told) returns)) unheld

  -- it says CAN
  client_cancels : CacheExchange rules loopback (Cache (get_passphrase by_client))
      (cache_turn (ask (codes "id1")) Empty ∷ Sent (limit_line MAX_SECRET_LEN) ∷ inquired Cancelled ∷ Sent (failed code.Cancelled) ∷ []) loopback On
  client_cancels = refused (cache_turn (ask (codes "id1")) Empty ∷ Sent (limit_line MAX_SECRET_LEN) ∷ inquired Cancelled ∷ []) None (Client client_error.Cancelled)
      (stops (goes_on (empty tt) (stops (goes_on written (not_given refl))))) unheld

  -- it sends a line that is no answer: this is refused once, and what the line asks isn't done
  client_errs : CacheExchange rules loopback (Cache (get_passphrase by_client))
      (cache_turn (ask (codes "id1")) Empty ∷ Sent (limit_line MAX_SECRET_LEN) ∷ inquired Unexpected ∷ Sent (failed code.Unexpected) ∷ []) loopback On
  client_errs = refused (cache_turn (ask (codes "id1")) Empty ∷ Sent (limit_line MAX_SECRET_LEN) ∷ inquired Unexpected ∷ []) None (Client client_error.Unexpected)
      (stops (goes_on (empty tt) (stops (goes_on written (not_given refl))))) unheld
