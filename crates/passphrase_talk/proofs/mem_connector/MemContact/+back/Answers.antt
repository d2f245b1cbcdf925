use Rattle.std.{proofs.Common.{◌-◌, ap, sym, ◌∙◌}, specs.Prelude.slice_get}
use Rattle.passphrase_talk.{specs.MemContacts.latest_of, proofs.Places.one_back}
use Rattle.passphrase_talk.proofs.mem_connector.MemContact.+back.Goals as goal

pub returns-in-Some : goal.returns-in-Some
returns-in-Some t c =
    let back = one_back c.args.self.now c.in-Some.contact c.args.back c.in-Some.is c.if-back-eq0.false in
    c.back.ensures
    ∙ ap (λ contact. slice_get (latest_of contact) (c.args.back - 1)) c.deref.ensures
    ∙ sym back
