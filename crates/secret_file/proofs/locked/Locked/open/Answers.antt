use Rattle.std.proofs.Common.{ap}
use Rattle.secret_file.{specs.Opens.LockedKey, proofs.Openings.{opening_answers, opening_fits, opening_at}}
use Rattle.secret_file.proofs.locked.Locked.open.Goals as goal

pub returns-clause-answer : goal.returns-clause-answer
returns-clause-answer c =
    rw c.opening_of.ensures (opening_answers c.args.self.now c.args.pass.now c.opened_key.result
    (opening_at c.args.self.now c.self.inside.key _ c.args.pass.now c.opened_key.result (ap (λ (l : LockedKey). l.key) c.self.view_is) c.protection-protection.ensures.parts c.opened_key.ensures.found))

pub returns-clause-fits : goal.returns-clause-fits
returns-clause-fits c =
    rw c.opening_of.ensures (opening_fits c.args.self.now c.args.pass.now c.opened_key.result c.protection-protection.ensures.locked c.protection-protection.ensures.fits
    (opening_at c.args.self.now c.self.inside.key _ c.args.pass.now c.opened_key.result (ap (λ (l : LockedKey). l.key) c.self.view_is) c.protection-protection.ensures.parts c.opened_key.ensures.found))
