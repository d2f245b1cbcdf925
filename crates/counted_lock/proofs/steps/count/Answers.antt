use Rattle.std.proofs.Common.{rules, ◌++◌, ◌∷◌, [], sym, ap, ◌∙◌, subst}
use Rattle.cache_policy.specs.declared.mark.Mark.{Mark}
use Rattle.counted_lock.{specs.{Logs.IsLegalLog, Claims.own}, proofs.Keeps.marks}
use Rattle.counted_lock.proofs.steps.count.Goals as goal

pub fetch_add-requires : goal.fetch_add-requires
fetch_add-requires g c = (
  search rules,
  search rules,
  marks _ _ _ _ g.J.Naming.mark c.requires.works (ap (λ (m : Mark). m.session.pass) c.requires.named ∙ c.requires.by)
      (subst (λ (m : Mark). IsLegalLog (own c.args.place.now.me).limits ((own c.args.place.now.me).seen ++ m ∷ [])) (sym c.requires.named) c.requires.legal),
)
