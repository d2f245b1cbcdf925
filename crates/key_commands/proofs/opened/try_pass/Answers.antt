use Rattle.std.proofs.Common.{refl}
use Rattle.key_commands.{specs.{Passphrases.{opens, stays, no_memory}, Steps.{nothing, memory}}, proofs.Opening.{opens_to_its_key, stays_locked, opened_is_usable}}
use Rattle.key_commands.proofs.opened.try_pass.Goals as goal

pub returns-in-Key-clause-tries : goal.returns-in-Key-clause-tries
returns-in-Key-clause-tries c =
    let opened = opens_to_its_key c.args.locked.now c.args.pass c.in-Key.key (rw c.bytes.ensures.value at c.in-Key.ensures.answer) in
    nothing (λ held. opens opened) refl

pub returns-in-BadPassphrase-clause-tries : goal.returns-in-BadPassphrase-clause-tries
returns-in-BadPassphrase-clause-tries c =
    let stayed = stays_locked c.args.locked.now c.args.pass (rw c.bytes.ensures.value at c.in-BadPassphrase.ensures.answer) in
    nothing (λ held. stays stayed) refl

pub returns-in-NoMemory-clause-tries : goal.returns-in-NoMemory-clause-tries
returns-in-NoMemory-clause-tries c = memory (λ held. no_memory) refl

pub returns-in-Key-clause-usable : goal.returns-in-Key-clause-usable
returns-in-Key-clause-usable c =
    opened_is_usable (opens_to_its_key c.args.locked.now c.args.pass c.in-Key.key (rw c.bytes.ensures.value at c.in-Key.ensures.answer)) (c.in-Key.ensures.fits c.in-Key.key refl)
