use Rattle.passphrase_client.proofs.Putting.{put_writes}
use Rattle.passphrase_client.proofs.message.put.Goals as goal

pub returns : goal.returns
returns g c =
    let sink = g.K.Sink.output in
    rw c.whole.ensures (put_writes c.args.bytes.now (sink c.args.sink.now) (sink c.put.new.self) c.put.result c.put.ensures.written c.put.ensures.failed c.put.ensures.faults)
