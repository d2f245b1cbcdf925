-- What an exchange of a request for a passphrase tells the client last.
use Rattle.std.proofs.Common.{◌≡◌, ℕ, Bool, true, List, ◌++◌, Option, Some, None, Ok, Err, refl, ap, sym, subst, append-nil}
use Rattle.{agent_ask.specs.Session.{ActionExchanges.{AnyExchange, answered, refused}, Actions.{goes_on, stops, Returns, returns}, SessionEvents.said_last, TurnActions.Closes}, agent_commands.specs.Answers.IsPassphrase}
use Rattle.agent_commands.specs.{Endings.went_after, Exchanges.{CacheReply, GetReplies, TellsPassphrase, tells}, Actions.CacheEvent, Passphrases.Passphrase, Requests.GetFields, declared.went.Went.Went}
use Rattle.{assuan_server.specs.{Errors.error_text, Written.refusal_line, declared.errors.Origin.Origin}, assuan_text.specs.LineEnds.line_of, session_client.specs.declared.{code.Code.Code, refusal.Refusal.Refusal}}
use Rattle.session_options.specs.{OptionValues.OptionValues, declared.rules.Rules.Rules}
use Rattle.passphrase_laws.{specs.Exchanges.{TellsLast, passphrase, gone, IsTold}, proofs.ReadAs.{passphrase_read, error_read}}
use Rattle.assuan_server.specs.declared.errors.Origin.TheVariants as origin
use Rattle.session_client.specs.declared.code.Code.TheVariants as code
use Rattle.session_client.specs.declared.refusal.Refusal.TheVariants as refusal
use Rattle.session_client.specs.declared.client_error.Gone.TheVariants as gone_as
use Rattle.session_client.specs.declared.client_error.ClientError.TheVariants as client_error
use Rattle.passphrase_laws.specs.Exchanges as exchanges

-- a refusal has the line of an error, or none
pub data Refused (why : Refusal) : Type 0 where
  line : (code : Code) (origin : Origin) → refusal_line why ≡ Some (line_of (error_text code origin)) → Refused why
  none : refusal_line why ≡ None → Refused why

pub refused_by : (why : Refusal) → Refused why
refused_by (refusal.Agent code) = line code origin.Agent refl
refused_by (refusal.Pinentry code) = line code origin.Pinentry refl
refused_by (refusal.Client client_error.Cancelled) = line code.Cancelled origin.Agent refl
refused_by (refusal.Client client_error.TooMuch) = line code.TooMuch origin.Agent refl
refused_by (refusal.Client client_error.Unexpected) = line code.Unexpected origin.Agent refl
refused_by (refusal.Client (client_error.Gone gone_as.TooLong)) = line code.LineTooLong origin.Agent refl
refused_by (refusal.Client (client_error.Gone gone_as.Ended)) = none refl
refused_by (refusal.Client (client_error.Gone gone_as.Spent)) = none refl
refused_by (refusal.Client (client_error.Gone gone_as.ReadFault)) = none refl
refused_by (refusal.Client (client_error.Gone gone_as.WriteFault)) = none refl

never_refuses : {A : Type 0} {value : A} {before after : Option ℕ} {events : List CacheEvent} {why : Refusal} → Returns value before events (Err why) after → ⊥
never_refuses does = elim does [ ]

always_tells : {plain : Bool} {secret : List ℕ} {before after : Option ℕ} {events : List CacheEvent} {why : Refusal} → TellsPassphrase plain secret before events (Err why) after → ⊥
always_tells does = elim does [ ]

module _ (rules : Rules) (values : OptionValues) (fields : GetFields) where
  -- it came by a passphrase, which the reply tells
  record CameBy (events : List CacheEvent) (held : Option ℕ) (reply : CacheReply) : Type 0 where
    secret : List ℕ
    came : Passphrase rules values fields None events (Ok secret) held
    is : IsPassphrase fields.plain secret reply.text

  came_by : {events : List CacheEvent} {held : Option ℕ} {reply : CacheReply} → GetReplies rules values fields None events (Ok reply) held → CameBy events held reply
  came_by (goes_on {first} {value = secret} {mid} came (goes_on (tells is) returns)) =
      record { secret = secret; came = subst (λ (e : List CacheEvent). Passphrase rules values fields None e (Ok secret) mid) (sym (append-nil first)) came; is = is }

  not_by : {events : List CacheEvent} {held : Option ℕ} {why : Refusal} → GetReplies rules values fields None events (Err why) held → Passphrase rules values fields None events (Err why) held
  not_by (goes_on came (goes_on told replied)) = absurd (never_refuses replied)
  not_by (goes_on came (stops told)) = absurd (always_tells told)
  not_by (stops came) = came

  by_refusal : (why : Refusal) (events back : List CacheEvent) {held : Option ℕ} → Passphrase rules values fields None events (Err why) held → Closes None held back (Ok tt) None → Refused why
      → IsTold rules values fields (events ++ (back ++ said_last (refusal_line why)))
  by_refusal why events back {held} came given_back (line code origin is) = record {
    work = events;
    held = held;
    result = Err why;
    came = came;
    back = back;
    closed = given_back;
    last = Some (line_of (error_text code origin));
    events_are = ap (λ (l : Option (List ℕ)). events ++ (back ++ said_last l)) is;
    tells = exchanges.refused code origin is (error_read code origin);
  }
  by_refusal why events back {held} came given_back (none is) = record {
    work = events;
    held = held;
    result = Err why;
    came = came;
    back = back;
    closed = given_back;
    last = None;
    events_are = ap (λ (l : Option (List ℕ)). events ++ (back ++ said_last l)) is;
    tells = gone is;
  }

  pub told : {events : List CacheEvent} {after : OptionValues} {went : Went} → fields.plain ≡ true → AnyExchange refusal_line went_after (GetReplies rules values fields) values events after went
      → IsTold rules values fields events
  told plain (answered events held reply {back} parts given_back) =
      let by = came_by parts in
      let is : IsPassphrase true by.secret reply.text = subst (λ (p : Bool). IsPassphrase p by.secret reply.text) plain by.is in record {
        work = events;
        held = held;
        result = Ok by.secret;
        came = by.came;
        back = back;
        closed = given_back;
        last = Some reply.text;
        events_are = refl;
        tells = passphrase is (passphrase_read by.secret reply.text is);
      }
  told plain (refused events held why {back} parts given_back) = by_refusal why events back (not_by parts) given_back (refused_by why)
