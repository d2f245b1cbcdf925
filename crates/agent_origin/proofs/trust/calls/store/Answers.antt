use Rattle.std.proofs.Common.{◌≡◌, ◌≤◌, ℕ, List, length, refl, arith, ◌∙◌, subst}
use Rattle.{agent_ask.{specs.Session.{PortCalls.NoMemory as WantsMemory, Actions.stops}, proofs.ActionsDone.action_then}, trust_list.specs.{Trust.with_entry, declared.TheConstants.MAX_TRUST_FILE_LEN}}
use Rattle.agent_origin.{specs.{TrustExchanges.{flag_of, Stores}, TrustActions.{added, too_long, no_memory}, TrustStates.no_memory as out_of_memory}, proofs.TrustDone.{file_event_done, file_left}}
use Rattle.agent_origin.proofs.trust.calls.store.Goals as goal

pub returns-in-Ok : goal.returns-in-Ok
unfolding Stores
returns-in-Ok g c = λ conn going held.
    let new : c.deref.result.now ≡ with_entry c.args.file.now c.args.fingerprint.now.0 (flag_of c.args.purpose) = c.deref.ensures.value ∙ (rw c.flag.ensures at c.in-Ok.ensures.added) in
    action_then
    (file_left refl _ (λ held. added (subst (λ (f : List ℕ). length f ≤ MAX_TRUST_FILE_LEN) new (omega (arith, c.deref.ensures.len, c.in-Ok.ensures.fits)))) conn going held)
    (rw new at (c.replace.ensures conn going held))

pub returns-in-Err-TooLong : goal.returns-in-Err-TooLong
unfolding Stores
returns-in-Err-TooLong g c =
    file_left refl _ (λ held. stops (too_long (rw c.flag.ensures at (c.add_trust.ensures.too_long.0 (cc (c.in-Err-TooLong.is, c.in-Err-TooLong.field-0-is))))))

pub returns-in-Err-NoMemory : goal.returns-in-Err-NoMemory
unfolding Stores
returns-in-Err-NoMemory g c = file_event_done refl WantsMemory out_of_memory (λ held. stops no_memory)
