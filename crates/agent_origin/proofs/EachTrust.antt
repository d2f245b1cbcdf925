-- What is so of requests on the trust list, by what is so of their smallest actions; and those of these each of whose events is so.
use Rattle.std.proofs.Common.{ℕ, Bool, true, false, List, Option, Some, None, Result, refl}
use Rattle.agent_ask.{proofs.Within.{Within, Joins, OfNothing, Does, does_join, bind, returned, refused}, specs.{ConsentActions.AgreesTo, Session.{Actions.{◌>>=◌, Refuses}, TrustCalls.TrustCall, TurnActions.Seats}}}
use Rattle.{agent_ports.specs.declared.grip.Grip.Grip, assuan_server.specs.Clients.session_lines, cache_policy.specs.declared.mark.MarkStep.TheVariants.Seat, session_client.specs.declared.{code.Code.Code, refusal.Refusal.Refusal}}
use Rattle.{session_client.specs.declared.refusal.Refusal.TheVariants.Agent, session_options.specs.{OptionValues.OptionValues, declared.{options.PinMode.PinMode, rules.Rules.Rules}}, trust_list.specs.Trust.trust}
use Rattle.key_commands.{specs.{Events.{Event, out_of_memory}, Actions.Action}, proofs.{EachEvent.{All, EachSo, each_seats}, EachRequest.Carries}}
use Rattle.agent_origin.specs.{TrustExchanges.{flag_of, trust_question, fingerprint_question, unless_said, TrustedNow, Stores, StoresUnsaid, Consented, asked_in, Marked, Carried}, TrustActions.{trust_called, ReadsFile, AddsEntry, Replaces}}
use Rattle.agent_origin.specs.declared.trust.request.{TrustPurpose.TrustPurpose, TrustRequest.{TrustRequest, TheVariants.{IsTrusted, MarkTrusted, Bad}}}
use Rattle.session_client.specs.declared.code.Code.TheVariants as code
use Rattle.session_options.specs.declared.options.PinMode.TheVariants as mode
use Rattle.key_commands.proofs.EachRequest as all_so
use Rattle.agent_origin.specs.TrustActions as actions

-- A law of what is done for a request under these option values, and one of what others follow: where these join, and the smallest actions keep them, so do whole requests.
pub record TrustLaws (options : OptionValues) (First Law : (A : Type 0) → Action A) : Type 1 where
  pub joins : {A B : Type 0} → Joins (First A) (λ value. Law B) (Law B)
  pub nothing : {A : Type 0} → OfNothing (Law A)
  pub seats : Within (Seats (Seat None None)) (First (Unit {0}))
  pub agrees : (rules : Rules) (question : List ℕ) → Within (AgreesTo session_lines rules options question) (First (Unit {0}))
  pub reads : Within ReadsFile (First (List ℕ))
  pub adds : (file : List ℕ) (fingerprint : Grip) (purpose : TrustPurpose) → Within (AddsEntry file fingerprint (flag_of purpose)) (First (List ℕ))
  pub replaces : (file : List ℕ) → Within (Replaces file) (Law (Unit {0}))

module _ {options : OptionValues} {First Law : (A : Type 0) → Action A} (laws : TrustLaws options First Law) where
  abbrev Here : Action (Unit {0}) → Type 0
  Here action = Within action (Law (Unit {0}))

  then : {A B : Type 0} {action : Action A} {next : A → Action B} → Within action (First A) → ((value : A) → Within (next value) (Law B)) → Within (action >>= next) (Law B)
  then = bind laws.joins

  refusal : (why : Code) → Here (Refuses (Agent why))
  refusal why = refused laws.nothing (Agent why)

  -- what the file says decides the request, or something else is done
  says : (answer : Option Bool) {other : Action (Unit {0})} → Here other → Here (unless_said answer other)
  says (Some true) other = returned laws.nothing tt
  says (Some false) other = refusal code.NotTrusted
  says None other = other

  module _ (fingerprint : Grip) where
    trusted_now : Here (TrustedNow fingerprint)
    unfolding TrustedNow
    trusted_now = then laws.reads (λ file. says (trust file fingerprint.0) (refusal code.NotTrusted))

    module _ (purpose : TrustPurpose) where
      stores : (file : List ℕ) → Here (Stores fingerprint purpose file)
      unfolding Stores
      stores file = then (laws.adds file fingerprint purpose) (λ new. laws.replaces new)

      stores_unsaid : Here (StoresUnsaid fingerprint purpose)
      unfolding StoresUnsaid
      stores_unsaid = then laws.reads (λ file. says (trust file fingerprint.0) (stores file))

      module _ (rules : Rules) (name : List ℕ) where
        consented : Here (Consented rules options fingerprint purpose name)
        unfolding Consented
        consented = then (laws.agrees rules (trust_question name)) (λ trusted. then (laws.agrees rules (fingerprint_question fingerprint name)) (λ right. stores_unsaid))

        asked : (way : PinMode) → Here (asked_in rules options fingerprint purpose name way)
        asked mode.Ask = then laws.seats (λ seated. consented)
        asked mode.Cancel = refusal code.Cancelled
        asked mode.Error = refusal code.NoPinentry
        asked mode.Loopback = refusal code.NoPinentry

        marked : Here (Marked rules options fingerprint purpose name)
        unfolding Marked
        marked = then laws.reads (λ file. says (trust file fingerprint.0) (asked options.mode))

  pub carried_so : (rules : Rules) (request : TrustRequest) → Here (Carried rules options request)
  carried_so rules (IsTrusted fingerprint) = trusted_now fingerprint
  carried_so rules (MarkTrusted fingerprint purpose name) = marked fingerprint purpose rules name.items
  carried_so rules (Bad why) = refusal why

-- ---- the smallest actions each of whose events is so

module _ (Is : Event → Type 0) (calls : (call : TrustCall) → Is (trust_called call)) where
  reads_of : (before : Option ℕ) (events : List Event) (result : Result (List ℕ) Refusal) (after : Option ℕ) → ReadsFile before events result after → All Is events
  reads_of before events result after (actions.has_read is) = (calls _, tt)
  reads_of before events result after actions.ReadsFile.faulted = (calls _, tt)
  reads_of before events result after actions.ReadsFile.no_memory = (calls _, tt)

  pub each_reads : EachSo Is ReadsFile
  each_reads = record { of = reads_of }

  replaces_of : (file : List ℕ) (before : Option ℕ) (events : List Event) (result : Result (Unit {0}) Refusal) (after : Option ℕ) → Replaces file before events result after → All Is events
  replaces_of file before events result after actions.replaced = (calls _, tt)
  replaces_of file before events result after actions.Replaces.faulted = (calls _, tt)
  replaces_of file before events result after actions.Replaces.no_memory = (calls _, tt)

  pub each_replaces : (file : List ℕ) → EachSo Is (Replaces file)
  each_replaces file = record { of = replaces_of file }

module _ (Is : Event → Type 0) (memory : Is out_of_memory) where
  adds_of : (file : List ℕ) (fingerprint : Grip) (flag : ℕ) (before : Option ℕ) (events : List Event) (result : Result (List ℕ) Refusal) (after : Option ℕ) → AddsEntry file fingerprint flag before events result after
      → All Is events
  adds_of file fingerprint flag before events result after (actions.added fits) = tt
  adds_of file fingerprint flag before events result after (actions.too_long long) = tt
  adds_of file fingerprint flag before events result after actions.AddsEntry.no_memory = (memory, tt)

  pub each_adds : (file : List ℕ) (fingerprint : Grip) (flag : ℕ) → EachSo Is (AddsEntry file fingerprint flag)
  each_adds file fingerprint flag = record { of = adds_of file fingerprint flag }

-- what is so of lines of a session, where it is so of calls of the trust file too
module _ {options : OptionValues} {Is : Event → Type 0} {So : List Event → Type 0} (law : Carries options.env Is So) (calls : (call : TrustCall) → Is (trust_called call)) where
  pub carried_laws : TrustLaws options (λ A. Does So) (λ A. Does So)
  carried_laws = record {
    joins = does_join law.behind (λ some one. one);
    nothing = all_so.nothing law;
    seats = all_so.so law (each_seats Is (law.turns _));
    agrees = λ rules question. all_so.agrees law rules options refl question;
    reads = all_so.so law (each_reads Is calls);
    adds = λ file fingerprint purpose. all_so.so law (each_adds Is (law.still out_of_memory tt) file fingerprint (flag_of purpose));
    replaces = λ file. all_so.so law (each_replaces Is calls file);
  }
