use Rattle.passphrase_client.proofs.Secrets.{takes}
use Rattle.passphrase_client.proofs.input.take_secret.Goals as goal

pub returns : goal.returns
returns g c =
    let fill = c.fill-count.ensures in
    takes (g.I.Source.input c.args.input.now) (g.I.Source.input c.fill-count.new.input) c.fill-count.new.buffer c.fill-count.result c.secret_read-secret.result fill.same
    fill.within fill.taken fill.end fill.fault fill.failed fill.faults c.secret_read-secret.ensures.read
