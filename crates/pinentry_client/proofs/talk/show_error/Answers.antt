use Rattle.std.proofs.Common.{rules, ◌≡◌, ◌≢◌, [], length}
use Rattle.pinentry_client.{specs.Talking.{none, shown}, proofs.Talks.no_bytes}
use Rattle.pinentry_client.proofs.talk.show_error.Goals as goal

pub returns-then-is_empty-clause-talk : goal.returns-then-is_empty-clause-talk
returns-then-is_empty-clause-talk g c = let none_there : length c.args.error.now ≡ 0 = search rules in none (no_bytes c.args.error.now none_there)

pub returns-clause-talk : goal.returns-clause-talk
returns-clause-talk g c =
    let some : c.args.error.now ≢ [] = search rules in
    rw c.accepted.ensures (shown c.text_line.result c.command-2.result some c.text_line.ensures c.command-2.ensures)
