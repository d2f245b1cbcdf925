-- Actions of requests on keys that are work of the one form, where each of their events is fit.
use Rattle.std.{proofs.Common.{◌==◌, ℕ, Bool, true, false, List, [], ◌∷◌, length, codes, Option, Some, None, Result, Ok, Err, refl}, specs.Prelude.not}
use Rattle.{agent_ask.specs.{Events.PromptEvent, Session.{PortCalls.Prompt, Actions.{goes_on, stops, returns}, SessionEvents.{Sent, Cut, Inquiry, Port, cache_turn}}, SessionPrompts.note}, agent_ports.specs.declared.grip.Grip.Grip}
use Rattle.{agent_ports.specs.declared.keys.KeyRead.KeyRead, cache_policy.specs.{Turns.Turn, declared.{mark.{MarkStep.TheVariants.{Peek, Seat}, Way.Way}, mode.Mode.TheVariants.Normal, secret.TheConstants.MAX_SECRET_LEN}}}
use Rattle.{secret_file.specs.Opens.LockedKey, session_client.specs.declared.refusal.Refusal.{Refusal, TheVariants.Agent}, session_options.specs.{OptionValues.OptionValues, declared.{options.PinMode.PinMode, rules.Rules.Rules}}}
use Rattle.{agent_ask.specs.declared.prompt.ask.Asked.Asked, sexp_keys.specs.Key.Key}
use Rattle.key_commands.specs.{Events.{Event, read, out_of_memory}, KeyActions.{Consents, HasOne, TellsKeyInfo, WritesInfo, WritesInfos}, Lines.{grip_text, info_line}, Actions.Action}
use Rattle.{key_commands.specs.Passphrases.{AsksSecret, IsOpened, ClientOld, UncachedOld, OpensLocked, ClientNew, ask_nonce, ask_key, seat_for, put_key}, assuan_server.specs.Written.limit_line}
use Rattle.agent_session.proofs.Courses.PromptWorks.{ComesBy, pin_stop, pin_comes, any_comes, prompts_for, agrees_to}
use Rattle.agent_session.proofs.Courses.Works.{WorksTo, works, ok_works, err_works, behind_work, WorksSo, Keeps, keeps_works, bind, returned, refuses_by, is_needed, or_otherwise, is_unless, is_wanted, turns_of}
use Rattle.session_client.specs.declared.code.Code.TheVariants as code
use Rattle.session_options.specs.declared.options.PinMode.TheVariants as mode
use Rattle.key_commands.specs.Passphrases as passphrases
use Rattle.agent_session.proofs.Courses.Works as work

-- each event of such an action is fit, but that a passphrase is put for a key
pub record FitsKeys (Fits : Event → Type 0) : Type 0 where
  pub memory : Fits out_of_memory
  pub cut : (text : List ℕ) → Fits (Cut text)
  pub limits : Fits (Sent (limit_line MAX_SECRET_LEN))
  pub clients : (word : List ℕ) (inquired : _) → Fits (Inquiry word [] MAX_SECRET_LEN inquired)
  pub notes : (pid : ℕ) (inquired : _) → Fits (note pid inquired)
  pub calls : (event : PromptEvent) → Fits (Port (Prompt event))
  pub nonces : (id : List ℕ) (turn : Turn) → Fits (cache_turn (ask_nonce id) turn)
  pub keys : (grip : Grip) (way : Way) (turn : Turn) → Fits (cache_turn (ask_key grip way) turn)
  pub seats_for : (grip : Grip) (turn : Turn) → Fits (cache_turn (seat_for grip) turn)
  pub seats : (turn : Turn) → Fits (cache_turn (Seat None None) turn)
  pub peeks : (grip : Grip) (turn : Turn) → Fits (cache_turn (Peek (grip_text grip) Normal) turn)
  pub infos : (grip : Grip) (is_cached clear : Bool) → Fits (Sent (info_line grip is_cached clear))

opened_comes : {locked : LockedKey} (answer : Asked) (result : Result _ Refusal) → IsOpened locked answer result → ComesBy (pin_stop answer) result
opened_comes _ (Ok opened) (passphrases.opens_by to) = refl
opened_comes answer (Err why) (passphrases.refused refusal) = pin_comes answer refusal

module _ {Fits : Event → Type 0} (fits : FitsKeys Fits) where
  abbrev Here : {A : Type 0} → Action A → Type 0
  Here = WorksSo Fits

  -- it is work
  so : {A : Type 0} {action : Action A} → Keeps Fits action → Here action
  so keeps = keeps_works Fits keeps

  asks_client : (word : List ℕ) → Here (AsksSecret word)
  asks_client word = work.asks_client Fits (fits.clients word) fits.cut (limit_line MAX_SECRET_LEN) fits.limits

  pub looks_nonce : (id : Option (List ℕ)) → Here (passphrases.LooksForNonce id)
  looks_nonce id = work.looks_for_nonce Fits (λ named. turns_of Fits refl (fits.nonces named)) id

  -- ---- passphrases

  module _ (rules : Rules) (options : OptionValues) (grip : Grip) where
    module _ (stores : (pass : List ℕ) (turn : Turn) → Fits (cache_turn (put_key grip pass) turn)) (locked : LockedKey) where
      client_old : Here (ClientOld rules options grip locked)
      unfolding ClientOld
      client_old =
          bind Fits (asks_client (codes "PASSPHRASE")) (λ pass. bind Fits (so (work.tries Fits fits.memory)) (λ tried. bind Fits (is_needed Fits code.BadPass tried)
          (λ opened. bind Fits (so (work.changes Fits (turns_of Fits refl (stores pass)))) (λ kept_so. returned Fits opened))))

      pub uncached_old : (way : PinMode) → Here (UncachedOld rules options grip way locked)
      uncached_old mode.Ask = bind Fits (work.takes_seat Fits grip (turns_of Fits refl (fits.seats_for grip))) (λ seated. prompts_for Fits fits.calls fits.notes opened_comes)
      uncached_old mode.Cancel = refuses_by Fits (Agent code.Cancelled)
      uncached_old mode.Error = refuses_by Fits (Agent code.NoPinentry)
      uncached_old mode.Loopback = client_old

      pub opens_locked : (id : Option (List ℕ)) → Here (OpensLocked rules options grip id locked)
      unfolding OpensLocked
      opens_locked id =
          bind Fits (looks_nonce id) (λ by_nonce. bind Fits (work.tries_found Fits fits.memory locked by_nonce) (λ first. or_otherwise Fits first
          (bind Fits (work.asks Fits (turns_of Fits refl (fits.keys grip _))) (λ cached. bind Fits (work.tries_found Fits fits.memory locked cached) (λ second. or_otherwise Fits second (uncached_old options.mode))))))

    module _ (stores : (pass : List ℕ) (turn : Turn) → Fits (cache_turn (put_key grip pass) turn)) where
      pub old_here : (id : Option (List ℕ)) (key : Key) (clear : Bool) → Here (passphrases.old_by rules options grip id key clear)
      old_here id key true = returned Fits _
      old_here id key false = bind Fits (so (work.locks Fits fits.memory)) (λ locked. opens_locked stores locked id)

      pub verified_here : (key : Key) (clear : Bool) → Here (passphrases.verified_by rules options grip key clear)
      verified_here key true = returned Fits _
      verified_here key false = bind Fits (so (work.locks Fits fits.memory)) (λ locked. uncached_old stores locked options.mode)

    client_new : Here ClientNew
    unfolding ClientNew
    client_new = bind Fits (asks_client (codes "NEW_PASSPHRASE")) (λ pass. bind Fits (is_wanted Fits code.BadPass (not (length pass == 0))) (λ some. returned Fits pass))

    pub new_here : (way : PinMode) → Here (passphrases.new_by rules options grip way)
    new_here mode.Ask = bind Fits (work.takes_seat Fits grip (turns_of Fits refl (fits.seats_for grip))) (λ seated. prompts_for Fits fits.calls fits.notes any_comes)
    new_here mode.Cancel = refuses_by Fits (Agent code.Cancelled)
    new_here mode.Error = refuses_by Fits (Agent code.NoPinentry)
    new_here mode.Loopback = client_new

  pub consents : (rules : Rules) (options : OptionValues) (grip : Grip) (way : PinMode) (force : Bool) → Here (Consents rules (record options { mode = way }) force grip)
  consents rules options grip way true = returned Fits tt
  consents rules options grip mode.Ask false =
      bind Fits (work.seats Fits (turns_of Fits refl fits.seats)) (λ seated. agrees_to Fits fits.calls fits.notes rules (record options { mode = mode.Ask }) _)
  consents rules options grip mode.Cancel false = refuses_by Fits (Agent code.Cancelled)
  consents rules options grip mode.Error false = refuses_by Fits (Agent code.NoPinentry)
  consents rules options grip mode.Loopback false = refuses_by Fits (Agent code.NoPinentry)

  -- ---- what is known of keys

  pub tells_info : (grip : Grip) (key : Key) → Here (TellsKeyInfo grip key)
  tells_info grip key = bind Fits (so (work.peeks Fits (turns_of Fits refl (fits.peeks grip)))) (λ is_cached. returned Fits _)

  info_fits : (grip : Grip) (key : Key) {before mid : Option ℕ} {events : List Event} {line : List ℕ} → TellsKeyInfo grip key before events (Ok line) mid → Fits (Sent line)
  info_fits grip key (goes_on looked returns) = fits.infos grip _ _

  writes_info_of : (grip : Grip) (key : Option Key) (before : Option ℕ) (events : List Event) (result : Result (Unit {0}) Refusal) (after : Option ℕ) → WritesInfo grip key before events result after → WorksTo Fits events result
  writes_info_of grip None before events result after returns = works Fits tt
  writes_info_of grip (Some key) before events result after (goes_on {first} tells_so writes_so) =
      behind_work Fits first (ok_works Fits ((tells_info grip key).of _ _ _ _ tells_so)) ((so (work.writes Fits fits.cut (info_fits grip key tells_so))).of _ _ _ _ writes_so)
  writes_info_of grip (Some key) before events result after (stops tells_so) = err_works Fits ((tells_info grip key).of _ _ _ _ tells_so)

  module _ (reads : (grip : Grip) (answer : KeyRead) → Fits (read grip answer)) where
    pub writes_infos : (grips : List Grip) → Here (WritesInfos grips)
    writes_infos [] = returned Fits tt
    writes_infos (grip ∷ more) =
        bind Fits (bind Fits (so (work.reads_listed Fits fits.memory (reads grip))) (λ key. record { of = writes_info_of grip key }))
        (λ told. writes_infos more)

    pub has_one : (grips : List Grip) → Here (HasOne grips)
    has_one [] = refuses_by Fits (Agent code.NoSecKey)
    has_one (grip ∷ more) = bind Fits (so (work.finds Fits fits.memory (reads grip))) (λ there. is_unless Fits there (has_one more))
