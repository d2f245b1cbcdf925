use Rattle.std.proofs.Common.{inr, refl, ◌∙◌}
use Rattle.key_commands.{specs.Wrapping.unchecked, proofs.Unwrapping.{key_checked, fault_checked}}
use Rattle.key_commands.proofs.wrapping.unwrapped_key.Goals as goal

pub returns-in-Err-Length-clause-fault : goal.returns-in-Err-Length-clause-fault
returns-in-Err-Length-clause-fault c =
    let at = rw c.in-Err-Length.field-0-is at c.in-Err-Length.ensures in
    let bad = at.length.0 refl in
    inr (unchecked (λ wrapped. cc (wrapped.fits, bad)))

pub returns-in-Err-Check-clause-fault : goal.returns-in-Err-Check-clause-fault
returns-in-Err-Check-clause-fault c =
    let at = rw c.in-Err-Check.field-0-is at c.in-Err-Check.ensures in
    let bad = at.check refl in
    inr (unchecked (λ wrapped. bad.1 wrapped.check))

pub returns-clause-key : goal.returns-clause-key
returns-clause-key c =
    key_checked c.plain_key.result (record { fits = c.in-Ok.ensures.ok.0; check = c.in-Ok.ensures.ok.1 }) (c.as_slice.ensures ∙ c.from-plain.ensures ∙ c.in-Ok.ensures.unwrapped) c.plain_key.ensures.key

pub returns-clause-fault : goal.returns-clause-fault
returns-clause-fault c =
    fault_checked c.plain_key.result (record { fits = c.in-Ok.ensures.ok.0; check = c.in-Ok.ensures.ok.1 }) (c.as_slice.ensures ∙ c.from-plain.ensures ∙ c.in-Ok.ensures.unwrapped) c.plain_key.ensures.fault
