use Rattle.std.{proofs.{Common.ap, lemmas.Result.err_from_is_err_and}, specs.Option.option_map}
use Rattle.session_client.specs.declared.refusal.Refusal.TheVariants.{Client}
use Rattle.agent_ask.{specs.{Callers.heard_of, Consents.agreed_of, declared.prompt.consent.Agreed.TheVariants.Heard}, proofs.{Clients.{unheard_is, left_noted}, ConsentActions.asked_question}}
use Rattle.agent_ask.proofs.prompt.agreeing.agree.Goals as goal

pub returns-in_err-prompt_consent-clause-asked : goal.returns-in_err-prompt_consent-clause-asked
returns-in_err-prompt_consent-clause-asked g c =
    let p = err_from_is_err_and c.from_residual.result c.from_residual.ensures.1 in
    let asked = c.in_err-prompt_consent.ensures.asked in
    rw (p.1, p.2)
    (record {
      events = asked.events;
      are = record {
        spec = c.prompt_spec-spec.result;
        answer = Heard (heard_of c.in_err-prompt_consent.field-0.0);
        is = asked_question c.prompt_spec-spec.ensures c.new.ensures;
        asks = rw c.notify.ensures at asked.are;
        consented = ap (option_map Client) (unheard_is c.in_err-prompt_consent.field-0.0);
      };
      lead = asked.lead;
    })

pub returns-in_err-prompt_consent-clause-left : goal.returns-in_err-prompt_consent-clause-left
returns-in_err-prompt_consent-clause-left g c =
    let p = err_from_is_err_and c.from_residual.result c.from_residual.ensures.1 in
    rw (p.1, p.2) (left_noted g.C.Client.views g.C.Client.wished c.in_err-prompt_consent.field-0.0 c.in_err-prompt_consent.ensures.left.1)

pub returns-clause-asked : goal.returns-clause-asked
returns-clause-asked g c =
    let asked = c.in_ok-prompt_consent.ensures.asked in
    record {
      events = asked.events;
      are = record {
        spec = c.prompt_spec-spec.result;
        answer = agreed_of c.in_ok-prompt_consent.field-0;
        is = asked_question c.prompt_spec-spec.ensures c.new.ensures;
        asks = rw c.notify.ensures at asked.are;
        consented = c.consented.ensures.consented;
      };
      lead = asked.lead;
    }
