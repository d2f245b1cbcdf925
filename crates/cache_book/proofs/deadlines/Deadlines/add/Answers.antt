use Rattle.std.{specs.Prelude.{◌≡◌, ◌||◌}, proofs.Common.{subst, rules}}
use Rattle.cache_book.{specs.{declared.deadlines.Place.Place, Deadlines.{AtDeadlines, is_place, is_among}}, proofs.Holding.among_more}
use Rattle.cache_book.proofs.deadlines.Deadlines.add.Goals as goal

pub returns-clause-places : goal.returns-clause-places
returns-clause-places c =
    subst (λ (at : AtDeadlines). (other : Place) → is_among other c.push.new.self.data.items ≡ (is_place c.args.place other || is_among other at.places)) c.self.view_is
    (among_more c.self.inside.places.data.items c.push.new.self.data.items c.args.place (search rules))
