-- A grant is made of the newest entry exactly where that is within both lifetimes.
use Rattle.std.{specs.{Prelude.{◌≡◌, ℕ, List, Bool, true, false, ◌&&◌, ◌↔◌, Option, Some, None, IsSome, IfSome, refl, reverse, if◌then◌else◌}, Option.{option_map, option_and_then}}, proofs.Common.{ap, sym, ◌∙◌, subst, rules}}
use Rattle.cache_policy.{specs.{declared.{mode.Mode.Mode, grant.Grant.Grant, entry.Entry.Entry}, Entry.{serves, within}, Live.newest_of, Book.found}, proofs.Lists.find_passes}
use Rattle.cache_policy.proofs.list_book.grant_of.Goals as goal

-- what is granted on a condition is there where the condition holds
granted : (r : Option Grant) (entry : Entry) (b : Bool) → (IsSome r ↔ (b ≡ true)) →
    IfSome r (λ (grant : Grant). grant.entry ≡ entry) →
    option_map (λ (grant : Grant). grant.entry) r ≡ (if b then Some entry else None)
granted None entry true e h = let f : false ≡ true = e.1 refl in cc
granted None entry false e h = refl
granted (Some grant) entry true e h = ap Some h
granted (Some grant) entry false e h = let f : false ≡ true = e.0 refl in cc

-- the newest entry serves the request
newest_serves : (id : List ℕ) (mode : Mode) (list : List Entry) (entry : Entry) →
    newest_of id mode list ≡ Some entry → serves id mode entry ≡ true
newest_serves id mode list entry e =
    subst (λ (o : Option Entry). IfSome o (λ x. serves id mode x
    ≡ true)) e (find_passes (serves id mode) (reverse list))

granted_is_found : (list : List Entry) (id id_copy : List ℕ) (mode : Mode) (moment : ℕ) (entry copy : Entry)
    (r : Option Grant) →
    newest_of id mode list ≡ Some entry → id_copy ≡ id → copy ≡ entry →
    (IsSome r ↔ ((serves id_copy mode copy && within copy entry.entered moment) ≡ true)) →
    IfSome r (λ (grant : Grant). grant.entry ≡ copy) →
    option_map (λ (grant : Grant). grant.entry) r ≡ found list id mode moment
granted_is_found list id id_copy mode moment entry copy r e same_id same cause kept =
    granted r entry (serves id mode entry && within entry entry.entered moment)
    (subst (λ (x : Entry). IsSome r ↔ ((serves id mode x && within x entry.entered moment) ≡ true)) same
    (subst (λ (i : List ℕ). IsSome r ↔ ((serves i mode copy && within copy entry.entered moment)
    ≡ true)) same_id cause))
    (subst (λ (x : Entry). IfSome r (λ (grant : Grant). grant.entry ≡ x)) same kept)
    ∙ (ap (λ (b : Bool). if (b && within entry entry.entered moment) then Some entry else None)
    (newest_serves id mode list entry e)
    ∙ ap (option_and_then (λ (entry : Entry). if within entry entry.entered moment then Some entry else None))
    (sym e))

pub returns-clause-found : goal.returns-clause-found
returns-clause-found c =
    granted_is_found c.args.stored.now c.args.id.now c.copy.result c.args.mode c.args.moment c.in_ok-entry.entry.now c.copy-2.result c.of.result
    (search rules) c.copy.ensures c.copy-2.ensures c.of.ensures.granted c.of.ensures.entry
