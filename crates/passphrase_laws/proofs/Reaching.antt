-- The whole road: what a dialogue tells of the exchange of its request.
use Rattle.std.{specs.List.AllByRecursion, proofs.Common.{◌≡◌, ◌≢◌, ◌≤◌, ℕ, true, List, ◌++◌, length, Option, Some, None, Result, Ok, subst}}
use Rattle.agent_commands.specs.{Exchanges.{LineExchange, CacheExchange}, Actions.CacheEvent, Passphrases.Passphrase, Requests.{GetFields, get_passphrase, request_of}, declared.{request.Request.{Request, TheVariants.Cache}, went.Went.Went}}
use Rattle.{session_client.specs.declared.refusal.Refusal.Refusal, passphrase_talk.specs.{Dialogues.told_of, Turns.Turn, Visits.Talk, declared.visits.TheConstants.BUDGET}, session_options.specs.{OptionValues.OptionValues, declared.{options.PinMode.TheVariants.Loopback, rules.Rules.Rules}}}
use Rattle.passphrase_laws.{specs.Roads.{AreReplies, IsWhole, Reaches, session_text}, proofs.{Dialogue.hears_it, Noting.{passphrase_notes, turn_closes}, Remaining.passphrase_told, Telling.told}}

pub reaches : (rules : Rules) (values after : OptionValues) (fields : GetFields) (line replies behind : List ℕ) (events : List CacheEvent) (went : Went) (options : List (List ℕ)) (turns : List Turn)
    (left written : Option (List ℕ)) → LineExchange rules values line events after went → request_of line ≡ Cache (get_passphrase fields) → fields.plain ≡ true → values.mode ≢ Loopback
    → AllByRecursion IsWhole events → AreReplies options replies → length (session_text replies events) ≤ BUDGET
    → Talk options line turns (Some (session_text replies events ++ behind)) left written → Reaches rules values fields events (told_of turns)
reaches rules values after fields line replies behind events went options turns left written exchange is plain not whole are few talk =
    let by = told rules values fields plain (subst (λ (r : Request). CacheExchange rules values r events after went) is exchange) in
    let noted = (passphrase_notes rules values fields not).of None by.work by.result by.held by.came in record {
      told = by;
      launched = noted.launched;
      notes = noted.notes;
      hears = hears_it by.result by.last noted.launched by.work by.back events replies behind line by.tells
          (λ why is. (passphrase_told rules values fields not).of None by.work why by.held (subst (λ (r : Result (List ℕ) Refusal). Passphrase rules values fields None by.work r by.held) is by.came)) noted.notes
          ((turn_closes None).of by.held by.back (Ok tt) None by.closed) by.events_are whole are few talk;
    }
