-- Events among others.
use Rattle.std.{specs.List.AllByRecursion, proofs.Common.{List, [], ◌∷◌, ◌++◌, ap, sym, ◌∙◌, subst, append_assoc, append-nil}}
use Rattle.agent_session.specs.Causes.{Has, here, later, StandIn}

pub has_left : {E : Type 0} {event : E} {events : List E} (more : List E) → Has event events → Has event (events ++ more)
has_left more here = here
has_left more (later has) = later (has_left more has)

pub has_right : {E : Type 0} {event : E} (first : List E) {events : List E} → Has event events → Has event (first ++ events)
has_right [] has = has
has_right (event ∷ first) has = later (has_right first has)

-- they stand in a list of which they are the whole, a first action, or a last one
pub stand_all : {E : Type 0} (events : List E) → StandIn events events
stand_all events = record { before = []; after = []; is = sym (append-nil events) }

pub stand_left : {E : Type 0} {whole : List E} (first more : List E) → StandIn (first ++ more) whole → StandIn first whole
stand_left first more stands = record { before = stands.before; after = more ++ stands.after; is = stands.is ∙ ap (λ x. stands.before ++ x) (append_assoc first more stands.after) }

pub stand_right : {E : Type 0} {whole : List E} (first more : List E) → StandIn (first ++ more) whole → StandIn more whole
stand_right first more stands = record {
  before = stands.before ++ first;
  after = stands.after;
  is = stands.is ∙ ap (λ x. stands.before ++ x) (append_assoc first more stands.after) ∙ sym (append_assoc stands.before first (more ++ stands.after));
}

pub stand_tail : {E : Type 0} {whole : List E} (event : E) (more : List E) → StandIn (event ∷ more) whole → StandIn more whole
stand_tail event more stands = stand_right (event ∷ []) more stands

pub has_in : {E : Type 0} {event : E} {action whole : List E} → StandIn action whole → Has event action → Has event whole
has_in {event} stands has = subst (λ x. Has event x) (sym stands.is) (has_right stands.before (has_left stands.after has))

-- the first one is in the list
pub has_first : {E : Type 0} {event : E} {more whole : List E} → StandIn (event ∷ more) whole → Has event whole
has_first stands = has_in stands here

pub has_second : {E : Type 0} {first event : E} {more whole : List E} → StandIn (first ∷ event ∷ more) whole → Has event whole
has_second stands = has_in stands (later here)

module _ {E : Type 0} (Is : E → Type 0) where
  pub each_left : (first more : List E) → AllByRecursion Is (first ++ more) → AllByRecursion Is first
  each_left [] more each = tt
  each_left (event ∷ first) more each = (each.0, each_left first more each.1)

  pub each_right : (first more : List E) → AllByRecursion Is (first ++ more) → AllByRecursion Is more
  each_right [] more each = each
  each_right (event ∷ first) more each = each_right first more each.1

  pub each_has : {event : E} (events : List E) → AllByRecursion Is events → Has event events → Is event
  each_has [] each has = elim has [ ]
  each_has (event ∷ more) each here = each.0
  each_has (first ∷ more) each (later has) = each_has more each.1 has
