use Rattle.std.proofs.{Common.{◌≡◌, Some, None, true, false, refl, ap, sym, ◌∙◌}, lemmas.Result.err_from_is_err_and}
use Rattle.{agent_ask.{specs.Session.Actions.{returns as done, refuses}, proofs.ActionsDone.action_stops}, trust_list.specs.Trust.trust}
use Rattle.agent_origin.{specs.TrustExchanges.{Stores, StoresUnsaid}, proofs.TrustDone.{file_left, said_done}}
use Rattle.agent_origin.proofs.trust.calls.store_unsaid.Goals as goal

pub returns-in_err-file : goal.returns-in_err-file
unfolding StoresUnsaid
returns-in_err-file g c = λ conn going held.
    let p = err_from_is_err_and c.from_residual.result c.from_residual.ensures.1 in
    rw (p.1, p.2) (action_stops (c.in_err-file.ensures.refused conn going held))

pub returns-in-Some-true : goal.returns-in-Some-true
unfolding StoresUnsaid
returns-in-Some-true g c =
    let is : trust c.in_ok-file.file.items c.args.fingerprint.now.0 ≡ Some true = rw c.deref.ensures.value at (sym c.trusted.ensures ∙ (c.in-Some-true.is ∙ ap (λ b. Some b) c.in-Some-true.field-0-test)) in
    said_done c.args.fingerprint.now (Stores c.args.fingerprint.now c.args.purpose) c.in_ok-file.ensures.read (Some true) is (file_left refl _ (λ held. done))

pub returns-in-Some-false : goal.returns-in-Some-false
unfolding StoresUnsaid
returns-in-Some-false g c =
    let is : trust c.in_ok-file.file.items c.args.fingerprint.now.0 ≡ Some false = rw c.deref.ensures.value at (sym c.trusted.ensures ∙ (c.in-Some-false.is ∙ ap (λ b. Some b) c.in-Some-false.field-0-test)) in
    said_done c.args.fingerprint.now (Stores c.args.fingerprint.now c.args.purpose) c.in_ok-file.ensures.read (Some false) is (file_left refl _ (λ held. refuses))

pub returns : goal.returns
unfolding StoresUnsaid
returns g c =
    let is : trust c.in_ok-file.file.items c.args.fingerprint.now.0 ≡ None = rw c.deref.ensures.value at (sym c.trusted.ensures ∙ c.in-None.is) in
    said_done c.args.fingerprint.now (Stores c.args.fingerprint.now c.args.purpose) c.in_ok-file.ensures.read None is (rw c.deref-in-None.ensures.value at c.store.ensures)
