use Rattle.std.{proofs.{Common.{◌≡◌, Bool, Option, None, Some, Ok, Err, true, false, refl, sym, ◌∙◌}, lemmas.Result.err_from_is_err_and}, specs.Option.unwrap_or}
use Rattle.{agent_ask.{specs.Session.Actions.{Refuses, returns as nothing, refuses}, proofs.ActionsDone.action_stops}, agent_ports.specs.TrustFiles.TrustState, session_client.specs.declared.code.Code.TheVariants.NotTrusted}
use Rattle.{session_client.specs.declared.refusal.Refusal.TheVariants.Agent, trust_list.specs.Trust.trust}
use Rattle.agent_origin.{specs.{TrustExchanges.{unless_said, TrustedNow}, TrustStates.DoesAtFile}, proofs.TrustDone.{file_left, said_done}}
use Rattle.agent_origin.proofs.trust.calls.trusted_now.Goals as goal

-- it says so, or it doesn't
says_so : (said : Option Bool) (file : TrustState) → unwrap_or said false ≡ true → DoesAtFile (unless_said said (Refuses (Agent NotTrusted))) file (Ok tt) file
says_so (Some true) file is = file_left refl file (λ held. nothing)
says_so (Some false) file is = cc is
says_so None file is = cc is

says_else : (said : Option Bool) (file : TrustState) → unwrap_or said false ≡ false → DoesAtFile (unless_said said (Refuses (Agent NotTrusted))) file (Err (Agent NotTrusted)) file
says_else (Some true) file is = cc is
says_else (Some false) file is = file_left refl file (λ held. refuses)
says_else None file is = file_left refl file (λ held. refuses)

pub returns-in_err-file : goal.returns-in_err-file
unfolding TrustedNow
returns-in_err-file g c = λ conn going held.
    let p = err_from_is_err_and c.from_residual.result c.from_residual.ensures.1 in
    rw (p.1, p.2) (action_stops (c.in_err-file.ensures.refused conn going held))

pub returns-then-unwrap_or : goal.returns-then-unwrap_or
unfolding TrustedNow
returns-then-unwrap_or g c =
    said_done c.args.fingerprint.now (λ file. Refuses (Agent NotTrusted)) c.in_ok-file.ensures.read _ refl
    (says_so (trust c.in_ok-file.file.items c.args.fingerprint.now.0) _ (rw (c.trusted.ensures, c.deref.ensures.value) at (sym c.unwrap_or.ensures ∙ c.if-unwrap_or.true)))

pub returns : goal.returns
unfolding TrustedNow
returns g c =
    said_done c.args.fingerprint.now (λ file. Refuses (Agent NotTrusted)) c.in_ok-file.ensures.read _ refl
    (says_else (trust c.in_ok-file.file.items c.args.fingerprint.now.0) _ (rw (c.trusted.ensures, c.deref.ensures.value) at (sym c.unwrap_or.ensures ∙ c.if-unwrap_or.false)))
