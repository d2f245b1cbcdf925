-- Lines of requests on the cache and on the session that have no passphrase in them, and the events beside them by which nothing is handed to the cache.
use Rattle.std.{specs.{List.AllByRecursion, Option.option_map, Prelude.⊤}, proofs.Common.{◌≡◌, ℕ, List, ◌∷◌, ◌++◌, Option, Some, None, Ok, refl, sym, ap, ◌∙◌, subst, append-nil, []}}
use Rattle.{agent_ask.specs.{Events.PromptEvent, Session.{PortCalls.PortCall, SessionEvents.{Sent, said_last}, TurnActions.Closes}, SessionPrompts.AnyInSession}, assuan_server.specs.{Clients.session_lines, Written.{failed, refusal_line}}}
use Rattle.{session_client.specs.{Refusals.refusal_code, declared.{code.Code.Code, refusal.Refusal.{Refusal, TheVariants.{Agent, Pinentry, Client}}}}, session_options.specs.{OptionValues.OptionValues, declared.rules.Rules.Rules}}
use Rattle.agent_commands.specs.{Events.EventWith, declared.request.Request.Request}
use Rattle.agent_session.{specs.OwnPassphrases.{IsPublic, error, SaysOwn, public, SaysOwnAlone}, proofs.{Own.OwnActions.{IsQuiet, kept_none}, Standing.each_right}}
use Rattle.agent_ask.specs.Session.TurnActions as turning
use Rattle.agent_ask.specs.SessionPrompts as session
use Rattle.assuan_server.specs.declared.errors.Origin.TheVariants as origin

-- each is so, and so
pub each_first : {E : Type 0} (Is Other : E → Type 0) (events : List E) → AllByRecursion (λ event. Is event × Other event) events → AllByRecursion Is events
each_first Is Other [] each = tt
each_first Is Other (event ∷ more) each = (each.0.0, each_first Is Other more each.1)

pub each_second : {E : Type 0} (Is Other : E → Type 0) (events : List E) → AllByRecursion (λ event. Is event × Other event) events → AllByRecursion Other events
each_second Is Other [] each = tt
each_second Is Other (event ∷ more) each = (each.0.1, each_second Is Other more each.1)

-- ---- places

-- an element of two lists, one behind the other
pub data InEither {A : Type 0} (xs ys front : List A) (x : A) (back : List A) : Type 0 where
  in_first : (rest : List A) → xs ≡ front ++ x ∷ rest → InEither xs ys front x back
  in_second : (rest : List A) → front ≡ xs ++ rest → ys ≡ rest ++ x ∷ back → InEither xs ys front x back

pub in_either : {A : Type 0} (xs ys front : List A) (x : A) (back : List A) → xs ++ ys ≡ front ++ x ∷ back → InEither xs ys front x back
in_either [] ys front x back is = in_second front refl is
in_either (first ∷ xs) ys [] x back is = let same : first ≡ x = cc is in in_first xs (ap (λ (f : _). f ∷ xs) same)
in_either (first ∷ xs) ys (second ∷ front) x back is =
    let same : first ≡ second = cc is in
    let rest : xs ++ ys ≡ front ++ x ∷ back = cc is in
    elim (in_either xs ys front x back rest) [
      | in_first more here ↦ in_first more (ap (λ (f : _). f ∷ xs) same ∙ ap (λ (l : List _). second ∷ l) here)
      | in_second more there here ↦ in_second more (ap (λ (l : List _). second ∷ l) there ∙ ap (λ (f : _). f ∷ (xs ++ more)) (sym same)) here
    ]

module _ (rules : Rules) where
  -- ---- what hands nothing in, and has no passphrase in it

  abbrev pub IsOpen : EventWith PortCall → Type 0
  IsOpen (Sent text) = IsPublic rules text
  IsOpen _ = ⊤

  abbrev pub IsPlain : EventWith PortCall → Type 0
  IsPlain event = IsQuiet event × IsOpen event

  abbrev pub Open : List (EventWith PortCall) → Type 0
  Open events = AllByRecursion IsOpen events

  abbrev pub Plain : List (EventWith PortCall) → Type 0
  Plain events = AllByRecursion IsPlain events

  pub shown_plain : {prompt : List PromptEvent} {shown : List (EventWith PortCall)} → AnyInSession session_lines prompt shown → Plain shown
  shown_plain session.none = tt
  shown_plain (session.called more) = ((tt, tt), shown_plain more)
  shown_plain (session.noted says more) = ((tt, tt), shown_plain more)
  shown_plain (session.out_of_memory more) = ((tt, tt), shown_plain more)

  failed_plain : (why : Option Code) → Plain (said_last {T = session_lines.Took} {O = session_lines.Outcome} {F = PortCall} (option_map failed why))
  failed_plain None = tt
  failed_plain (Some why) = ((tt, error why origin.Agent), tt)

  pub refusal_plain : (why : Refusal) → Plain (said_last {T = session_lines.Took} {O = session_lines.Outcome} {F = PortCall} (refusal_line why))
  refusal_plain (Agent why) = ((tt, error why origin.Agent), tt)
  refusal_plain (Pinentry why) = ((tt, error why origin.Pinentry), tt)
  refusal_plain (Client why) = failed_plain (refusal_code why)

  pub back_plain : {held : Option ℕ} {back : List (EventWith PortCall)} → Closes None held back (Ok tt) None → Plain back
  back_plain turning.unheld = tt
  back_plain (turning.closed turn can) = ((kept_none _, tt), tt)

  -- ---- whose they are

  pub open_are_own : (options : OptionValues) (request : Request) (events : List (EventWith PortCall)) → Open events → SaysOwnAlone rules options request events
  open_are_own options request events each front later text is = public ((each_right IsOpen front (Sent text ∷ later) (subst Open is each)).0)

  -- the last one may have a passphrase in it
  pub said_last_own : (options : OptionValues) (request : Request) (first : List (EventWith PortCall)) (text : List ℕ) → Open first → SaysOwn rules options request first text
      → SaysOwnAlone rules options request (first ++ Sent text ∷ [])
  said_last_own options request first text each own front later said is =
      elim (in_either first (Sent text ∷ []) front (Sent said) later is) [
        | in_first rest here ↦ open_are_own options request first each front rest said here
        | in_second rest there here ↦ subst (λ f. SaysOwn rules options request f said) (sym there) (at_last rest here)
      ]
    where
      at_last : (rest : List (EventWith PortCall)) → Sent text ∷ [] ≡ rest ++ Sent said ∷ later → SaysOwn rules options request (first ++ rest) said
      at_last [] here = let same : text ≡ said = cc here in subst (λ f. SaysOwn rules options request f said) (sym (append-nil first)) (subst (SaysOwn rules options request first) same own)
      at_last (event ∷ []) here = cc here
      at_last (event ∷ second ∷ rest) here = cc here
